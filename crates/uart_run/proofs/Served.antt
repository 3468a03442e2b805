-- What a call of a session does at least.
use Rattle.uart_run.proofs.Names.{◌≡◌, ℕ, zero, suc, ◌<◌, ◌≤◌, min, Bool, true, false, inl, inr, nat_lt, List, [], ◌∷◌, ◌++◌, map, length}
use Rattle.uart_run.proofs.Names.{append_assoc, append-nil, Result, Ok, Err, Option, Some, None, refl, arith, sym, ◌∙◌, ap, subst}
use Rattle.uart_run.proofs.Names.{common_steps, length-map, ByteReceiveError, Config, FrameError, StalledError, Path, Access, Read}
use Rattle.uart_run.proofs.Names.{Language, Settings, Times, Only, fields, settings_of, Saving, Sets, Next, Miss, TryReceive, Receives}
use Rattle.uart_run.proofs.Names.{ReceivesExact, ReceivesWithErrors, Received, Reads, Flushes, ShowsIdle, frame_writes, with_frame}
use Rattle.uart_run.proofs.Names.{frame_bits, SetsFrameWhenIdle, WaitsFor, inner_of, Call, Answer, Register, Done, Flag, Character}
use Rattle.uart_run.proofs.Names.{Shifting, shift_bytes, is_transmitter_empty, MachineState, MachineStep, at_access, sound_access, IsWithin}
use Rattle.uart_run.proofs.Names.{max, bit_and, bit_or, same_from_bits, bit_at_or, bit_at_and, bit_at-zero, received_answer, read_answer}
use Rattle.uart_run.proofs.Names.{with_errors_answer, receive_exact_answer, exact_answer, frame_when_idle_answer, State, machine_of}
use Rattle.uart_run.proofs.Names.{CallStep, Link, Chain, only_bytes, HoldsAtLeast, waiting_len, ServesWithErrors, transmitter_of, IsFlushed}
use Rattle.uart_run.proofs.Names.{Serves, AllServe, has_one, Modes, PassedBlocks, path_as, path_split, look_data}
use Rattle.uart_spec.specs.declared.registers.offsets.TheConstants as offsets
use Rattle.uart_spec.specs.declared.registers.line_status.TheConstants.LSR
use Rattle.uart_call.specs.declared.call.Call.TheVariants as call
use Rattle.uart_spec.specs.declared.registers.modem_status.TheConstants.MSR
use Rattle.std.specs.Int.{bit_at}
use Rattle.uart_chip.specs.Conserved.{out}
use Rattle.uart_run.proofs.EmptyTransmitter.{wait_empties, empty_shown, sent_shown, shown_sent, sent_framed}
use Rattle.uart_run.proofs.{Pieces.next_stages, CallBlocks.Makes, CallBlocks.most_in, CallBlocks.makes_look, CallBlocks.passed_in_blocks}
use Rattle.uart_run.proofs.{CallKeeps.reads_blocks, CallKeeps.flushes_blocks, CallLaws.InSession, CallLaws.session_room}
use Rattle.uart_run.proofs.{ExactErrors.exactly_received}
use Rattle.uart_run.proofs.CallBlocks.{try_receive_blocks, receives_blocks, receives_exact_blocks, receives_with_blocks}
use Rattle.uart_run.proofs.FrameLaws.{GoOn, AllAt, session_fits, in_session-gone, same_cut, waited, framed_by}

-- ---- lists that end with a miss

-- the list ends with a look that shows no data
pub record EndsDry (s : Settings) (l : List Access) : Type 0 where
  pub front : List Access
  pub back : List Access
  pub whole : l ≡ front ++ back
  pub miss : Miss s back

dry_after : (s : Settings) (front l whole : List Access) → whole ≡ front ++ l → EndsDry s l → EndsDry s whole
dry_after s front l whole e d = record {
  front = front ++ d.front;
  back = d.back;
  whole = e ∙ (ap (λ zs. front ++ zs) d.whole ∙ sym (append_assoc front d.front d.back));
  miss = d.miss;
}

dry_times : (s : Settings) (n : ℕ) (l : List Access) → 0 < n → Times n Miss s l → EndsDry s l
dry_times s zero l some t = absurd (omega arith)
dry_times s (suc zero) l some t =
    let none : t.back ≡ [] = t.second.is in record {
      front = [];
      back = t.front;
      whole = t.whole ∙ rw none (append-nil t.front);
      miss = t.first;
    }
dry_times s (suc (suc n)) l some t = dry_after s t.front t.back l t.whole (dry_times s (suc n) t.back (omega arith) t.second)

-- after it no character waits
pub dry_empties : (s : Settings) (m n : MachineState) (l : List Access) → EndsDry s l → Path MachineStep m l n →
    length n.chip.receiver.queue ≡ 0
dry_empties s m n l d p =
    let q = path_split MachineStep m n d.front d.back (path_as m n l (d.front ++ d.back) d.whole p) in
    looked q.0 (path_as q.0 n d.back (Read offsets.LSR d.miss.answer ∷ []) d.miss.is q.2)
  where
    looked : (k : MachineState) → Path MachineStep k (Read offsets.LSR d.miss.answer ∷ []) n → length n.chip.receiver.queue ≡ 0
    looked k (mid, step, same) =
        let none : nat_lt 0 (length mid.chip.receiver.queue) ≡ false = sym (look_data k mid d.miss.answer step)
        ∙ (sym (has_one 0 d.miss.answer) ∙ d.miss.shows) in
        rw same (zero_of (length mid.chip.receiver.queue) none)
      where
        zero_of : (n : ℕ) → nat_lt 0 n ≡ false → n ≡ 0
        zero_of n e = grind (arith, common_steps)

-- so all that waited was received
all_received : (x : Modes) (s t : State) (made : List Access) (ws rs : List ℕ) → PassedBlocks x (machine_of s) (machine_of t) made ws rs →
    length (machine_of t).chip.receiver.queue ≡ 0 → waiting_len s ≤ length rs
all_received x s t made ws rs p none =
    let m = machine_of s in
    let byte : Character → ℕ = λ character. character.byte in
    let a : length (map byte p.takes) ≡ length p.takes = length-map p.takes byte in
    let b : waiting_len s ≡ length m.chip.receiver.queue = length-map m.chip.receiver.queue byte in
    omega (arith, p.passed.went.receives.fuller, ap length p.bytes, a, b)

-- ---- single calls

-- what a call of the session that made this list wrote and read
passed_list : (x : Modes) (s t : State) (L : Language) (l : List Access) (ws rs : List ℕ) → InSession x s →
    Makes (settings_of (fields (inner_of s))) L ws rs → L (settings_of (fields (inner_of s))) l →
    Path MachineStep (machine_of s) l (machine_of t) → PassedBlocks x (machine_of s) (machine_of t) l ws rs
passed_list x s t L l ws rs w makes fits path =
    passed_in_blocks x (most_in (settings_of (fields (inner_of s)))) (machine_of s) (machine_of t) l ws rs w.open_modes w.stands
    (session_room x s w) (makes l fits) path

-- the spin limit is not 0
some_limit : (s : State) → 0 < (fields (inner_of s)).limit
some_limit s = (inner_of s).spin_limit.ok

-- a list that ends with a miss received all that waited
dry_received : (x : Modes) (s t : State) (L : Language) (l : List Access) (rs : List ℕ) → InSession x s →
    Makes (settings_of (fields (inner_of s))) L [] rs → L (settings_of (fields (inner_of s))) l →
    Path MachineStep (machine_of s) l (machine_of t) → EndsDry (settings_of (fields (inner_of s))) l → waiting_len s ≤ length rs
dry_received x s t L l rs w makes fits path dry =
    all_received x s t l [] rs (passed_list x s t L l [] rs w makes fits path)
    (dry_empties (settings_of (fields (inner_of s))) (machine_of s) (machine_of t) l dry path)

-- `receive_bytes`
received_enough : (x : Modes) (s t : State) (slots : ℕ) (bytes : List ℕ) (l : List Access) → InSession x s →
    Receives slots bytes (settings_of (fields (inner_of s))) l → Path MachineStep (machine_of s) l (machine_of t) →
    min slots (waiting_len s) ≤ length bytes
received_enough x s t slots bytes l w (inl h) path = omega (arith, h.0)
received_enough x s t slots bytes l w (inr h) path =
    let v = settings_of (fields (inner_of s)) in
    let dry : EndsDry v l = record { front = h.1.front; back = h.1.back; whole = h.1.whole; miss = h.1.second } in
    let all = dry_received x s t (Receives slots bytes) l bytes w (receives_blocks v slots bytes) (inr h) path dry in
    omega (arith, all)

-- `receive_with_errors`
with_errors_enough : (x : Modes) (s t : State) (slots : ℕ) (items : List Received) (l : List Access) → InSession x s →
    ReceivesWithErrors slots items (settings_of (fields (inner_of s))) l → Path MachineStep (machine_of s) l (machine_of t) →
    min slots (waiting_len s) ≤ length items
with_errors_enough x s t slots items l w (inl h) path = omega (arith, h.0)
with_errors_enough x s t slots items l w (inr h) path =
    let v = settings_of (fields (inner_of s)) in
    let dry : EndsDry v l = record { front = h.1.front; back = h.1.back; whole = h.1.whole; miss = h.1.second } in
    let all = dry_received x s t (ReceivesWithErrors slots items) l (only_bytes items) w (receives_with_blocks v slots items) (inr h)
    path dry in
    omega (arith, all, length-map items (λ (received : Received). received.byte))

with_errors_serves : (x : Modes) (s t : State) (slots : ℕ) (a : Answer) (items : List Received) (l : List Access) → InSession x s →
    a ≡ with_errors_answer items → ReceivesWithErrors slots items (settings_of (fields (inner_of s))) l →
    Path MachineStep (machine_of s) l (machine_of t) → ServesWithErrors s slots a t
with_errors_serves x s t slots a items l w e h path = record {
  items = items;
  answered = e;
  takes = with_errors_enough x s t slots items l w h path;
  exact = λ on. exactly_received x (machine_of s) (machine_of t) slots items (settings_of (fields (inner_of s))) l w.open_modes
      (sym w.stands.modes.fifo ∙ on) w.stands h path;
}

-- ---- calls that receive

-- the call's own settings
abbrev settings_at : State → Settings
settings_at s = settings_of (fields (inner_of s))

try_serves : (x : Modes) (s t : State) (a : Answer) (l : List Access) (result : Result ℕ ByteReceiveError) → InSession x s →
    a ≡ received_answer result → TryReceive result (settings_at s) l → Path MachineStep (machine_of s) l (machine_of t) →
    0 < waiting_len s → (byte : ℕ) × (a ≡ Register byte)
try_serves x s t a l (Ok byte) w e h path some = (byte, e)
try_serves x s t a l (Err refused) w e h path some =
    let dry : EndsDry (settings_at s) l = record { front = []; back = l; whole = refl; miss = h } in
    let none = dry_received x s t (TryReceive {E = ByteReceiveError} (Err refused)) l [] w
    (try_receive_blocks {E = ByteReceiveError} (settings_at s) (Err refused)) h path dry in
    absurd (omega (arith, none, some))

read_serves : (x : Modes) (s t : State) (slots : ℕ) (a : Answer) (l : List Access) (bytes : List ℕ) (result : Result ℕ StalledError) →
    InSession x s → a ≡ read_answer (bytes, result) → Reads slots bytes result (settings_at s) l →
    Path MachineStep (machine_of s) l (machine_of t) → 0 < waiting_len s → HoldsAtLeast (min slots (waiting_len s)) a
read_serves x s t slots a l bytes (Ok count) w e (same, inl h) path some = (bytes, e, omega (arith, h.0))
read_serves x s t slots a l bytes (Ok count) w e (same, inr h) path some = (bytes, e, enough h.1.1.second)
  where
    v : Settings
    v = settings_at s

    enough : Receives slots bytes (settings_at s) h.1.1.back → min slots (waiting_len s) ≤ length bytes
    enough (inl r) = omega (arith, r.0)
    enough (inr r) =
        let last : EndsDry (settings_at s) h.1.1.back =
        record { front = r.1.front; back = r.1.back; whole = r.1.whole; miss = r.1.second } in
        let dry = dry_after (settings_at s) h.1.1.front h.1.1.back l h.1.1.whole last in
        let all = dry_received x s t (Reads slots bytes (Ok count)) l bytes w (reads_blocks (settings_at s) slots bytes (Ok count))
        (same, inr h) path dry in
        omega (arith, all)
read_serves x s t slots a l bytes (Err stall) w e h path some =
    let dry = dry_times (settings_at s) (settings_at s).limit l (some_limit s) h.2.1 in
    let all = dry_received x s t (Reads slots bytes (Err stall)) l bytes w
    (reads_blocks (settings_at s) slots bytes (Err stall)) h path dry in
    absurd (omega (arith, all, some, h.2.0))

exact_serves : (x : Modes) (s t : State) (slots : ℕ) (a : Answer) (l : List Access) (bytes : List ℕ)
    (result : Result (Unit {0}) StalledError) → InSession x s → a ≡ receive_exact_answer (bytes, result) →
    ReceivesExact slots bytes result (settings_at s) l → Path MachineStep (machine_of s) l (machine_of t) → slots ≤ waiting_len s →
    HoldsAtLeast slots a
exact_serves x s t slots a l bytes (Ok done) w e h path some = (bytes, e, omega (arith, h.0))
exact_serves x s t slots a l bytes (Err stall) w e h path some =
    let last = dry_times (settings_at s) (settings_at s).limit h.2.back (some_limit s) h.2.second in
    let dry = dry_after (settings_at s) h.2.front h.2.back l h.2.whole last in
    let all = dry_received x s t (ReceivesExact {T = Unit {0}} slots bytes (Err stall)) l bytes w
    (receives_exact_blocks {T = Unit {0}} (settings_at s) slots bytes (Err stall)) h path dry in
    absurd (omega (arith, all, some, h.0))

-- ---- `flush`

-- an empty transmitter holds nothing
nothing_held : (queue : List ℕ) (place : Option Shifting) → is_transmitter_empty queue place ≡ true → shift_bytes place ++ queue ≡ []
nothing_held [] None e = refl
nothing_held [] (Some s) e = absurd (cc)
nothing_held (x ∷ xs) place e = absurd (cc)

flush_serves : (x : Modes) (s t : State) (a : Answer) (l : List Access) (result : Result (Unit {0}) StalledError) → InSession x s →
    a ≡ exact_answer result → Flushes result (settings_at s) l → Path MachineStep (machine_of s) l (machine_of t) → a ≡ Done → IsFlushed s t
flush_serves x s t a l (Ok done) w e h path f =
    let empty = wait_empties (settings_at s) l (machine_of s) (machine_of t) h path in
    let p = passed_list x s t (Flushes {T = Unit {0}} (Ok done)) l [] [] w
    (flushes_blocks {T = Unit {0}} (settings_at s) (Ok done)) h path in
    let u = transmitter_of t in
    record {
      is_empty = empty;
      wire =
          sym (ap (λ zs. u.wire ++ zs) (nothing_held u.queue u.shift_register empty) ∙ append-nil u.wire)
          ∙ (p.passed.went.sends.grows ∙ append-nil (out (machine_of s)));
    }
flush_serves x s t a l (Err stall) w e h path f = absurd (cc)

-- a `set_frame_when_idle` waits as a `flush` does, and its writes send nothing
framed_serves : (x : Modes) (s t : State) (config : Config) (a : Answer) (l : List Access) (result : Result (Unit {0}) FrameError) →
    InSession x s → a ≡ frame_when_idle_answer result → SetsFrameWhenIdle config result (fields (inner_of s)) l (fields (inner_of t)) →
    Path MachineStep (machine_of s) l (machine_of t) → a ≡ Done → IsFlushed s t
framed_serves x s t config a l (Ok u) w e (d, of, does) path f =
    let frame = frame_bits config in
    let b = next_stages (Saving (WaitsFor LSR.TRANSMITTER_EMPTY.0 true))
    (Next (Sets (with_frame config)) (Saving (Only (frame_writes d frame)))) (fields (inner_of s)) (fields (inner_of t)) l (machine_of s)
    (machine_of t) does path in
    let m = b.parts.between in
    let p = waited x s true b.parts.front m w b.parts.first.0 b.parts.before in
    let empty = wait_empties (settings_at s) b.parts.front (machine_of s) m b.parts.first.0 b.parts.before in
    let gone : out m ≡ out (machine_of s) = p.passed.went.sends.grows ∙ append-nil (out (machine_of s)) in
    let k = framed_by d config b.mid (fields (inner_of t)) b.parts.back b.parts.second in
    let sent = sent_framed (out m) d frame m (machine_of t)
    (path_as m (machine_of t) b.parts.back (frame_writes d frame) k.is b.parts.after) (sent_shown m.chip.transmitter empty) in
    record { is_empty = shown_sent (out m) (transmitter_of t) sent; wire = sent.wire ∙ gone }
framed_serves x s t config a l (Err error) w e does path f = absurd (cc)

-- `is_idle`
idle_serves : (x : Modes) (s t : State) (a : Answer) (l : List Access) (idle : Bool) → InSession x s → a ≡ Flag idle →
    ShowsIdle idle (settings_at s) l → Path MachineStep (machine_of s) l (machine_of t) → a ≡ Flag true → IsFlushed s t
idle_serves x s t a l true w e h path f =
    let empty = empty_shown (settings_at s) l (machine_of s) (machine_of t) h path in
    let p = passed_list x s t (ShowsIdle true) l [] [] w (makes_look (settings_at s) LSR.TRANSMITTER_EMPTY.0 true) h path in
    let u = transmitter_of t in
    record {
      is_empty = empty;
      wire =
          sym (ap (λ zs. u.wire ++ zs) (nothing_held u.queue u.shift_register empty) ∙ append-nil u.wire)
          ∙ (p.passed.went.sends.grows ∙ append-nil (out (machine_of s)));
    }
idle_serves x s t a l false w e h path f = absurd (cc)

-- `peek_modem`

-- of two numbers in masks that have no bit in common
one_part : (a b h l : ℕ) → IsWithin a h → IsWithin b l → bit_and h l ≡ 0 → bit_and (bit_or a b) h ≡ a
one_part a b h l p q none = same_from_bits _ _ (λ i. at i)
  where
    at : (i : ℕ) → bit_at (bit_and (bit_or a b) h) i ≡ bit_at a i
    at i =
        let own : bit_at a i ≡ min (bit_at a i) (bit_at h i) = ap (λ n. bit_at n i) (sym p) ∙ bit_at_and a h i in
        let other : bit_at b i ≡ min (bit_at b i) (bit_at l i) = ap (λ n. bit_at n i) (sym q) ∙ bit_at_and b l i in
        let apart : min (bit_at h i) (bit_at l i) ≡ 0 = sym (bit_at_and h l i) ∙ (ap (λ n. bit_at n i) none ∙ bit_at-zero i) in
        bit_at_and (bit_or a b) h i ∙ (ap (λ n. min n (bit_at h i)) (bit_at_or a b i) ∙
        joined (bit_at a i) (bit_at b i) (bit_at h i) (bit_at l i) own other apart)
      where
        joined : (a b h l : ℕ) → a ≡ min a h → b ≡ min b l → min h l ≡ 0 → min (max a b) h ≡ a
        joined a b h l p q r = omega arith

peek_serves : (x : Modes) (s t : State) (a : Answer) (l : List Access) (status : ℕ) → InSession x s → a ≡ Register status →
    l ≡ Read offsets.MSR status ∷ [] → Path MachineStep (machine_of s) l (machine_of t) → Serves s call.PeekModem a t
peek_serves x s t a l status w e is path =
    let p = path_as (machine_of s) (machine_of t) l (Read offsets.MSR status ∷ []) is path in
    let modem = (at_access (machine_of s)).chip.modem in
    let sound = (sound_access (machine_of s) w.stands.sound).chip.modem in
    let shown : bit_and status MSR.LINES.0 ≡ modem.lines = ap (λ v. bit_and v MSR.LINES.0) p.1.1
    ∙ one_part modem.lines modem.deltas MSR.LINES.0 MSR.CHANGES.0 sound.lines sound.deltas refl in
    let lines : MachineState → ℕ = λ m. m.chip.modem.lines in
    (status, e, shown ∙ sym (ap lines p.2 ∙ ap lines p.1.0))

-- ---- each call

pub serves_call : (x : Modes) (s t : State) (call : Call) (a : Answer) → InSession x s → CallStep s call a t → Serves s call a t
serves_call x s t call.TryReceive a w h = try_serves x s t a h.did.list h.outcome w h.answered h.did.does.0 h.did.path
serves_call x s t (call.Receive slots) a w h =
    λ some. (h.outcome, h.answered, received_enough x s t slots h.outcome h.did.list w h.did.does.0 h.did.path)
serves_call x s t (call.Read slots) a w h =
    read_serves x s t slots a h.did.list h.outcome.0 h.outcome.1 w h.answered h.did.does.0 h.did.path
serves_call x s t (call.ReceiveExact slots) a w h =
    exact_serves x s t slots a h.did.list h.outcome.0 h.outcome.1 w h.answered h.did.does.0 h.did.path
serves_call x s t (call.ReceiveWithErrors slots) a w h =
    with_errors_serves x s t slots a h.outcome h.did.list w h.answered h.did.does.0 h.did.path
serves_call x s t call.Flush a w h = flush_serves x s t a h.did.list h.outcome w h.answered h.did.does.0 h.did.path
serves_call x s t (call.SetFrameWhenIdle config) a w h =
    framed_serves x s t config a h.did.list h.outcome w h.answered h.did.does h.did.path
serves_call x s t call.PeekModem a w h = peek_serves x s t a h.did.list h.outcome w h.answered h.did.does.0.is h.did.path
serves_call x s t call.IsIdle a w h = idle_serves x s t a h.did.list h.outcome w h.answered h.did.does.0 h.did.path
serves_call x s t other a w h = tt

-- each call of a session
pub serves_chain : {Within : State → Call → Type 0} {cut : ℕ → ℕ} (k : GoOn Within cut) (x : Modes) (s t : State) (links : List Link) →
    x.cut ≡ cut → InSession x s → AllAt Within links → Chain s links t → AllServe links
serves_chain k x s t [] same w i h = tt
serves_chain k x s t (link ∷ links) same w i h =
    let W : State → Type 0 = λ v. InSession x v in
    let begins = subst W (sym h.0) w in
    let first = k.go x link.before link.after link.call link.answer same begins i.0 h.1 in (
      serves_call x link.before link.after link.call link.answer begins h.1,
      serves_chain k first.modes link.after t links (same_cut x first.modes first.same ∙ same)
          (in_session-gone x _ _ link.before link.after _ _ begins first
          (session_fits x link.before link.after link.call link.answer begins h.1)) i.1 h.2,
    )
