-- An end goes on to send: with an empty holding register, and CTS if it checks that, at least one byte leaves the rings.
use Rattle.uart_link.proofs.Names.{◌≡◌, ℕ, zero, suc, ◌<◌, ◌≤◌, Bool, true, false, MatchBool, List, [], ◌∷◌, ◌++◌, length, length-append}
use Rattle.uart_link.proofs.Names.{◌==◌, nat_lt, if◌then◌else◌, Option, Some, None, take, min, refl, ◌∙◌, ap, subst, arith, inl, inr}
use Rattle.uart_link.proofs.Names.{append-nil, length-take, Path, has, Access, Read, settings_of, Settings, Then, Asks, Never, Sends}
use Rattle.uart_link.proofs.Names.{SendRefused, LinesAllow, burst_limit, has_one, each-front, each-back, path_as, look_room, Lasts}
use Rattle.uart_link.proofs.Names.{lasts-before, lasts-read, MachineState, MachineStep, at_access, TransmitterState, shift, refill}
use Rattle.uart_link.proofs.Names.{Shifting, data_written-append, sends_move, resumes_lose_nothing, data_written, RingFields, IfAny}
use Rattle.uart_link.proofs.Names.{sendable, Pumps, ResumesTransmit}
use Rattle.uart_spec.specs.declared.errors.ByteSendError.{ByteSendError}
use Rattle.uart_spec.specs.declared.errors.ByteSendError.TheVariants.{NoCapacity, RemoteNotClearToSend}
use Rattle.uart_spec.specs.declared.registers.line_status.TheConstants.LSR
use Rattle.uart_spec.specs.declared.registers.offsets.TheConstants as offsets
use Rattle.uart_16550.proofs.Languages.{some_limit}
use Rattle.uart_chip.specs.Transmitter.{tick}
use Rattle.uart_ring.specs.Ring.{waiting}
use Rattle.uart_link.proofs.Held.{AllShowCts, ShowsCts}

-- ---- an empty holding register

abbrev pub IsThrEmpty : TransmitterState → Type 0
IsThrEmpty t = t.queue ≡ []

pub thr_empty_lasts : Lasts IsThrEmpty
thr_empty_lasts = record {
  in_accesses = record { pending = λ t pending e. e; cleared = λ t pending e. refl; resized = λ t size e. refl };
  in_tick = ticked;
}
  where
    either : (u v : TransmitterState) (b : Bool) → IsThrEmpty u → IsThrEmpty v → IsThrEmpty (if b then u else v)
    either u v true p q = p
    either u v false p q = q

    shifted : (loopback : Bool) (place : Option Shifting) (t : TransmitterState) → IsThrEmpty t → IsThrEmpty (shift loopback place t)
    shifted loopback None t e = e
    shifted loopback (Some s) t e =
        either _ _ (nat_lt 1 s.ticks_left) e (either _ _ loopback e (either _ _ (nat_lt (length t.wire) t.capacity) e e))

    refilled : (place : Option Shifting) (queue : List ℕ) (t : TransmitterState) → queue ≡ [] → IsThrEmpty t →
        IsThrEmpty (refill place queue t)
    refilled (Some s) queue t n e = e
    refilled None [] t n e = e
    refilled None (x ∷ xs) t n e = absurd (cc)

    ticked : (loopback held_off : Bool) (t : TransmitterState) → IsThrEmpty t → IsThrEmpty (tick loopback held_off t)
    ticked loopback true t e = shifted loopback t.shift_register t e
    ticked loopback false t e =
        let u : TransmitterState = shift loopback t.shift_register t in
        refilled u.shift_register u.queue u (shifted loopback t.shift_register t e) (shifted loopback t.shift_register t e)

-- a first read of LSR shows it
first_shows : (m n : MachineState) (value : ℕ) (rest : List Access) → IsThrEmpty m.chip.transmitter →
    Path MachineStep m (Read offsets.LSR value ∷ rest) n → has value LSR.THR_EMPTY.0 ≡ true
first_shows m n value rest e (mid, step, path) =
    let before = lasts-before IsThrEmpty thr_empty_lasts.in_tick m.ahead m.chip e in
    let after : IsThrEmpty mid.chip.transmitter =
    rw step.0 (lasts-read IsThrEmpty thr_empty_lasts.in_accesses offsets.LSR (at_access m).chip before) in
    has_one 5 value ∙ (look_room m mid value step ∙ ap (λ (q : List ℕ). length q == 0) after)

-- ---- so no send check fails

lines_free : (s : Settings) (l : List Access) → LinesAllow false s l → AllShowCts true l → ⊥
lines_free s l (inl t) shown = cc (t.0)
lines_free s l (inr t) shown =
    let h = rw (t.whole, t.first.is, t.second.is) at shown in
    let e = h.1.0.0 refl in
    cc (t.second.shows)

refused_not : (e : ByteSendError) (s : Settings) (l rest : List Access) (m n : MachineState) → SendRefused e s l →
    IsThrEmpty m.chip.transmitter → (s.checks ≡ true → AllShowCts true l) → Path MachineStep m (l ++ rest) n → ⊥
refused_not NoCapacity s l rest m n t empty shown path =
    let P : List Access → Type 0 = λ k. Path MachineStep m (k ++ rest) n in
    let h = first_shows m n t.answer rest empty (subst P t.is path) in
    cc (t.shows)
refused_not RemoteNotClearToSend s l rest m n t empty shown path = go s.checks refl t
  where
    go : (checks : Bool) → s.checks ≡ checks → MatchBool checks (Then (Asks offsets.LSR LSR.THR_EMPTY.0 true) (LinesAllow false) s l)
        (Never s l) → ⊥
    go true e u =
        let S : List Access → Type 0 = λ k. AllShowCts true k in
        lines_free s u.back u.second (each-back (ShowsCts true) u.front u.back (subst S u.whole (shown e)))
    go false e u = u

-- at least one byte is written
sends_some : (bytes : List ℕ) (sent : ℕ) (s : Settings) (l rest : List Access) (m n : MachineState) → Sends bytes sent s l →
    0 < length bytes → IsThrEmpty m.chip.transmitter → (s.checks ≡ true → AllShowCts true l) → Path MachineStep m (l ++ rest) n →
    1 ≤ length (data_written l)
sends_some bytes sent s l rest m n (inl t) some empty shown path = absurd (let e = t.0 in omega (arith, e, some))
sends_some bytes sent s l rest m n (inr (inl t)) some empty shown path =
    absurd (refused_not t.2.0 s l rest m n t.2.1 empty shown path)
sends_some bytes sent s l rest m n (inr (inr t)) some empty shown path =
    let e : data_written l ≡ take sent bytes = (sends_move bytes sent s l (inr (inr t))).written_is in
    let size : sent ≡ min (length bytes) (burst_limit s.fifo s.size) = t.1 in
    let least = some_limit s.fifo s.size in
    let long = length-take sent bytes in
    rw e (omega (arith, long, size, least, some))

-- so fewer bytes wait
pub resumes_some : (f after : RingFields) (l : List Access) (m n : MachineState) → ResumesTransmit f l after →
    sendable f ≡ waiting f → 0 < length (waiting f) → IsThrEmpty m.chip.transmitter →
    ((settings_of f.driver).checks ≡ true → AllShowCts true l) → Path MachineStep m l n →
    length (waiting after) < length (waiting f)
resumes_some f after l m n h free some empty shown path = go (length (waiting f)) refl h
  where
    lost : data_written l ++ waiting after ≡ waiting f ++ []
    lost = (resumes_lose_nothing f l after h).sent

    go : (count : ℕ) → length (waiting f) ≡ count → IfAny count Pumps f l after → length (waiting after) < length (waiting f)
    go zero e u = absurd (omega (arith, e, some))
    go (suc count) e (sent, (t, same)) =
        let S : List Access → Type 0 = λ k. AllShowCts true k in
        let first : (settings_of f.driver).checks ≡ true → AllShowCts true t.front = λ on.
        each-front (ShowsCts true) t.front t.back (subst S t.whole (shown on)) in
        let long : 0 < length (sendable f) =
        let j : length (sendable f) ≡ length (waiting f) = ap length free in omega (arith, j, some) in
        let wrote = sends_some (sendable f) sent (settings_of f.driver) t.front t.back m n t.first.0 long empty first
        (path_as m n l (t.front ++ t.back) t.whole path) in
        let parts : length (data_written l) ≡ length (data_written t.front ++ data_written t.back) =
        ap (λ k. length (data_written k)) t.whole ∙ ap length (data_written-append t.front t.back) in
        let both = length-append (data_written t.front) (data_written t.back) in
        let all : length (data_written l ++ waiting after) ≡ length (waiting f ++ []) = ap length lost in
        let sides = length-append (data_written l) (waiting after) in
        let same_length : length (waiting f ++ []) ≡ length (waiting f) = ap length (append-nil (waiting f)) in
        omega (arith, wrote, parts, both, all, sides, same_length)
