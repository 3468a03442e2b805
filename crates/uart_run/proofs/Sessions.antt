-- What a session conserves, carried over its calls.
use Rattle.uart_run.proofs.Names.{◌≡◌, ℕ, List, [], ◌∷◌, ◌++◌, map, ap, sym, ◌∙◌, refl, subst, cut_of, Path, has_any, Access, Call, Answer}
use Rattle.uart_run.proofs.Names.{fields, inner_of, MachineState, MachineStep, at_mark, IsSound, State, machine_of, Link, Chain, CallStep}
use Rattle.uart_run.proofs.Names.{GoesOn, IsWithinSession, AllCalls, IsSession, reported, received, Conserves, GoesOnUncut, IsWithinUncut}
use Rattle.uart_run.proofs.Names.{IsUncutSession, IsWiredChip, IsWired, sound_path, sound_mark, Modes, dlab-in, loopback-in, received_kept}
use Rattle.uart_spec.specs.declared.registers.line_control.TheConstants.LCR
use Rattle.uart_call.specs.declared.call.Call.TheVariants as call
use Rattle.uart_chip.specs.Conserved.{out}
use Rattle.uart_run.proofs.{Chains.chain_keeps, SizeKept.size_kept, SizeKept.fits_by, CallLaws.InSession, Wired.wired_path}
use Rattle.uart_run.proofs.{Wired.wired_mark, SessionCalls.modes_of, SessionCalls.modes_cut, SessionCalls.in_session}
use Rattle.uart_run.proofs.{SessionCalls.goes_chain, StatusSessions.tells_in, Served.serves_chain}
use Rattle.uart_run.proofs.FrameLaws.{GoOn, AllAt, go_within, go_within_uncut, same_cut, same_fifo}

-- ---- what every call keeps

-- every list of accesses keeps it, and so do the events up to a mark
pub record Lasts (P : MachineState → Type 0) : Type 0 where
  pub path : (made : List Access) (m n : MachineState) → P m → Path MachineStep m made n → P n
  pub mark : (m : MachineState) → P m → P (at_mark m)

pub lasts_call : {P : MachineState → Type 0} (s t : State) (call : Call) (a : Answer) → Lasts P → P (machine_of s) → CallStep s call a t →
    P (machine_of t)
lasts_call s t call.Next a k w h = rw h.machine (k.mark (machine_of s) w)
lasts_call s t other a k w h = k.path h.did.list (machine_of s) (machine_of t) w h.did.path

pub lasts_chain : {P : MachineState → Type 0} (s t : State) (links : List Link) → Lasts P → P (machine_of s) → Chain s links t →
    P (machine_of t)
lasts_chain {P} s t links k w h = chain_keeps CallStep (λ s. P (machine_of s)) (λ s t call a w h. lasts_call s t call a k w h) s t links w h

-- soundness lasts
pub lasts_sound : Lasts IsSound
lasts_sound = record { path = sound_path; mark = sound_mark }

pub sound_call : (s t : State) (call : Call) (a : Answer) → IsSound (machine_of s) → CallStep s call a t → IsSound (machine_of t)
sound_call s t call a w h = lasts_call s t call a lasts_sound w h

pub sound_chain : (s t : State) (links : List Link) → IsSound (machine_of s) → Chain s links t → IsSound (machine_of t)
sound_chain s t links w h = lasts_chain s t links lasts_sound w h

-- so does that the machine is wired
pub lasts_wired : Lasts (λ (m : MachineState). IsWiredChip m.chip)
lasts_wired = record { path = wired_path; mark = wired_mark }

-- ---- where each call is made

-- a call that goes on with a session may be made in a state in which the machine is wired if it was at the start
pub goes_on : (W : Type 0) (s : State) (c : Call) → (W → IsWired s) → GoesOn W c → IsWithinSession s c
goes_on W s (call.SetModemControl outputs) f i = f i
goes_on W s (call.SetRts on) f i = f i
goes_on W s (call.SetDtr on) f i = f i
goes_on W s (call.Quiesce outputs fifos) f i = (f i.0, i.1)
goes_on W s other f i = i

goes_on_uncut : (W : Type 0) (s : State) (c : Call) → (W → IsWired s) → GoesOnUncut W c → IsWithinUncut s c
goes_on_uncut W s (call.SetFrameWhenIdle config) f i = tt
goes_on_uncut W s other f i = goes_on W s other f i

pub at_each : (W : Type 0) (May : Call → Type 0) (Within : State → Call → Type 0) →
    ((s : State) (c : Call) → (W → IsWired s) → May c → Within s c) → (s t : State) (links : List Link) → (W → IsWired s) →
    AllCalls May links → Chain s links t → AllAt Within links
at_each W May Within each s t [] f i h = tt
at_each W May Within each s t (link ∷ links) f i h =
    let here : W → IsWired link.before = λ w. subst IsWired (sym h.0) (f w) in
    let there : W → IsWired link.after = λ w. lasts_call link.before link.after link.call link.answer lasts_wired (here w) h.1 in (
      each link.before link.call here i.0,
      at_each W May Within each link.after t links there i.1 h.2,
    )

-- ---- what was conserved

-- for how large the driver takes the FIFOs
size_kept-chain : (s t : State) (links : List Link) → Chain s links t → (fields (inner_of t)).size ≡ (fields (inner_of s)).size
size_kept-chain s t links chain =
    chain_keeps CallStep (λ u. (fields (inner_of u)).size ≡ (fields (inner_of s)).size)
    (λ u v call a same h. size_kept u v call a h ∙ same) s t links refl chain

pub conserves : {Within : State → Call → Type 0} {cut : ℕ → ℕ} (k : GoOn Within cut) (x : Modes) (s t : State) (links : List Link) →
    x.cut ≡ cut → InSession x s → AllAt Within links → Chain s links t → Conserves s links t
conserves k x s t links same w within chain =
    let g = goes_chain k x s t links same w within chain in
    let p = g.passes in
    let went = p.passed.passed.went in
    let y = g.modes in
    let cuts : cut_of (machine_of s).chip ≡ y.cut = w.stands.modes.cut ∙ sym (same_cut x y g.same) in
    record {
      ready = record {
        dlab = dlab-in y (machine_of t).chip went.modes ∙ g.open_modes.dlab;
        loopback = loopback-in y (machine_of t).chip went.modes ∙ g.open_modes.loopback;
        fifo = went.modes.fifo ∙ (same_fifo x y g.same ∙ (sym w.fifo ∙ sym p.fifo));
        fits = fits_by s t (size_kept-chain s t links chain) went.sends.size w.fits;
      };
      unbroken = λ u. ap (λ (v : ℕ). has_any v LCR.SET_BREAK.0) went.modes.lcr
          ∙ g.unbroken (sym (ap (λ (v : ℕ). has_any v LCR.SET_BREAK.0) w.stands.modes.lcr) ∙ u);
      sent = went.sends.grows ∙ sym (ap (λ (f : ℕ → ℕ). out (machine_of s) ++ map f (reported links)) cuts);
      no_overflow = went.sends.same_overflows;
      kept = received_kept y (machine_of s) (machine_of t) p.made (reported links) (received links) cuts p.passed;
      tells = tells_in k x s t links same w within chain;
      served = serves_chain k x s t links same w within chain;
    }

-- a session conserves
pub session_conserves : (s t : State) (links : List Link) → IsSound (machine_of s) → IsSession s links → Chain s links t →
    Conserves s links t
session_conserves s t links sound session chain =
    let within = at_each (IsWired s) (GoesOn (IsWired s)) IsWithinSession (goes_on (IsWired s)) s t links (λ w. w) session.1 chain in
    conserves (go_within (modes_of s).cut) (modes_of s) s t links refl (in_session s session.0 sound) within chain

-- and so does one with a `set_frame`, on a machine that cuts nothing
pub uncut_session_conserves : (s t : State) (links : List Link) → IsSound (machine_of s) →
    cut_of (machine_of s).chip ≡ (λ (byte : ℕ). byte) →
    IsUncutSession s links → Chain s links t → Conserves s links t
uncut_session_conserves s t links sound whole session chain =
    let within = at_each (IsWired s) (GoesOnUncut (IsWired s)) IsWithinUncut (goes_on_uncut (IsWired s)) s t links (λ w. w) session.1
    chain in
    conserves go_within_uncut (modes_of s) s t links (modes_cut s ∙ whole) (in_session s session.0 sound) within chain
