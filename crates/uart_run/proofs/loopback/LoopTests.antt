-- A loopback test that begins in a ready state: it is done or stalls, and where it is done all that was to go out
-- is on the wire, and nothing else.
use Rattle.uart_run.proofs.Names.{◌≡◌, ◌+◌, ◌<◌, ◌≤◌, ◌&&◌, nat_lt, ℕ, zero, suc, bit_and, arith, sym, Bool, true, false, inl, inr, List}
use Rattle.uart_run.proofs.Names.{[], ◌∷◌, append-nil, Option, Result, Ok, Err, refl, ◌∙◌, ap, subst, LoopbackError, and_le_r, mod-eq_of_lt}
use Rattle.uart_run.proofs.Names.{FifoTriggerLevel, Path, Access, Read, Settings, Only, WaitsFor, Fields, Saving, Next, fields, settings_of}
use Rattle.uart_run.proofs.Names.{Exchanges, EntersAt, Enters, Leaves, BeginsTest, Tests, IsStalled, TestsLoopback, inner_of, Answer}
use Rattle.uart_run.proofs.Names.{LoopbackRefused, has_any, out, ChipState, cut_to, cut_of, is_dlab_set, MachineState, MachineStep, IsSound}
use Rattle.uart_run.proofs.Names.{loopback_answer, State, machine_of, CallStep, IsFlushed, Ready, is_narrow, test_answer, IsTested, IsPlain}
use Rattle.uart_run.proofs.Names.{Modes, IsIn, IsOpen, Stands}
use Rattle.uart_spec.specs.declared.errors.LoopbackError.TheVariants.{Stalled}
use Rattle.uart_spec.specs.declared.registers.offsets.TheConstants as offsets
use Rattle.uart_spec.specs.declared.registers.line_status.TheConstants.LSR
use Rattle.uart_spec.specs.declared.registers.modem_control.TheConstants.MCR
use Rattle.uart_spec.specs.declared.registers.line_control.TheConstants.LCR
use Rattle.uart_call.specs.declared.call.Call.TheVariants as call
use Rattle.uart_run.proofs.EmptyTransmitter.{IsSent, sent_shown, shown_sent, wait_empties, sent_path}
use Rattle.uart_run.proofs.{SilentLists.does_silently, built.Loopback.enters_at, built.Loopback.leaves, CallKeeps.quiet_blocks}
use Rattle.uart_run.proofs.{Latches.Kept, Latches.kept_cut, Pieces.then_parts, Pieces.next_stages, loopback.TestedReady.entered}
use Rattle.uart_run.proofs.{loopback.LoopPhases.idle_sent, loopback.LoopPhases.IsEntered, loopback.LoopPhases.IsReadyToTest}
use Rattle.uart_run.proofs.{loopback.LoopExchanges.Cuts, loopback.LoopExchanges.LeadsTo, loopback.LoopExchanges.leads_on}
use Rattle.uart_run.proofs.{loopback.LoopExchanges.exchange_leads}
use Rattle.uart_run.proofs.CallBlocks.{Makes, most_in, makes_then, passed_silently, waits_blocks}

-- ---- before the loopback: the transmitter is awaited

-- it is empty, all that was to go out is on the wire, DLAB is off, and bytes are cut so
pub record IsBegun (cut : ℕ → ℕ) (gone : List ℕ) (m : MachineState) : Type 0 where
  pub sound : IsSound m
  pub dlab : is_dlab_set m.chip.latches ≡ false
  pub sent : IsSent gone m.chip.transmitter
  pub same_cut : cut_of m.chip ≡ cut

begins_blocks : (s : Settings) (mcr ier : ℕ) → Makes s (BeginsTest mcr ier true) [] []
begins_blocks s mcr ier l t =
    makes_then s (Only (Read offsets.MCR mcr ∷ Read offsets.IER ier ∷ [])) (WaitsFor LSR.TRANSMITTER_EMPTY.0 true) [] [] [] []
    (λ k u. rw u.is (quiet_blocks (most_in s) (Read offsets.MCR mcr ∷ Read offsets.IER ier ∷ []) (refl, (refl, tt))))
    (waits_blocks s LSR.TRANSMITTER_EMPTY.0 true) l t

-- nothing is written before the loopback, so what the driver takes the FIFO to be is of no account
pub begun : (s : State) (n : MachineState) (mcr ier : ℕ) (l : List Access) → IsSound (machine_of s) → IsPlain s →
    BeginsTest mcr ier true (settings_of (fields (inner_of s))) l → Path MachineStep (machine_of s) l n →
    IsBegun (cut_of (machine_of s).chip) (out (machine_of s).chip.transmitter) n
begun s n mcr ier l sound r t path =
    let m = machine_of s in
    let v = settings_of (fields (inner_of s)) in
    let x : Modes = record { lcr = m.chip.latches.lcr; mcr = m.chip.latches.mcr; fifo = m.chip.fifo; cut = cut_of m.chip } in
    let in_modes : IsIn x m.chip = record { lcr = refl; mcr = refl; fifo = refl; cut = refl } in
    let stands : Stands x m = record { sound = sound; modes = in_modes } in
    let opened : IsOpen x = record { dlab = r.dlab; loopback = r.loopback } in
    let p = (passed_silently x (most_in v) m n l [] opened stands (begins_blocks v mcr ier l t) path).passed in
    let a = then_parts (Only (Read offsets.MCR mcr ∷ Read offsets.IER ier ∷ [])) (WaitsFor LSR.TRANSMITTER_EMPTY.0 true) v l m n t path in
    let empty = wait_empties v a.back a.between n a.second a.after in
    let same : out n.chip.transmitter ≡ out m.chip.transmitter = p.went.sends.grows ∙ append-nil (out m.chip.transmitter) in
    let P : List ℕ → Type 0 = λ gone. IsSent gone n.chip.transmitter in
    record {
      sound = p.sound;
      dlab = ap (λ v. has_any v LCR.DLAB.0) p.went.modes.lcr ∙ r.dlab;
      sent = subst P same (sent_shown n.chip.transmitter empty);
      same_cut = p.went.modes.cut;
    }

-- ---- into the loopback

-- the modes of a loopback test under this LCR
abbrev pub looped_modes : ℕ → Bool → (ℕ → ℕ) → Modes
looped_modes lcr fifo cut = record { lcr = lcr; mcr = MCR.LOOP_BACK.0; fifo = fifo; cut = cut }

pub in_loopback : (cut : ℕ → ℕ) (gone : List ℕ) (level : Option FifoTriggerLevel) (before : ℕ) (fifo : Bool) (f after : Fields)
    (l : List Access) (m n : MachineState) → IsBegun cut gone m → EntersAt level before fifo f l after → Path MachineStep m l n →
    IsEntered (looped_modes m.chip.latches.lcr fifo cut) gone (settings_of after) n
in_loopback cut gone level before fifo f after l m n b t path =
    let e = entered level before fifo f after l m n b.sound b.dlab t path in
    record {
      looped = record { dlab = b.dlab; loopback = refl; goes_on = refl };
      fifo = e.knows;
      modes =
          record {
            lcr = ap (λ (k : Kept). k.latches.lcr) e.kept;
            mcr = ap (λ (k : Kept). k.latches.mcr) e.kept;
            fifo = ap (λ (k : Kept). k.fifo) e.kept;
            cut = ap kept_cut e.kept ∙ b.same_cut;
          };
      sent = sent_path gone l m n (does_silently (enters_at level before fifo) refl f l after t) b.sent path;
    }

-- ---- the test after its first wait

test_leads : {T : Type 0} (narrow : Bool) (cut : ℕ → ℕ) (gone : List ℕ) (mcr ier : ℕ) (result : Result T LoopbackError) (f after : Fields)
    (l : List Access) (m n : MachineState) → Cuts narrow cut → IsBegun cut gone m → Tests mcr ier result f l after →
    Path MachineStep m l n → LeadsTo narrow (IsSent gone n.chip.transmitter) result
test_leads narrow cut gone mcr ier result f after l m n cuts b (before, fifo, t) path =
    let x = looped_modes m.chip.latches.lcr fifo cut in
    let a = next_stages (Enters before fifo) (Next (Saving (Exchanges result)) (Leaves mcr ier before f.lsr)) f after l m n t path in
    let e = in_loopback cut gone f.config.fifo_trigger_level before fifo f a.mid a.parts.front m a.parts.between b a.parts.first
    a.parts.before in
    let c = next_stages (Saving (Exchanges result)) (Leaves mcr ier before f.lsr) a.mid after a.parts.back a.parts.between
    n a.parts.second a.parts.after in
    let o = exchange_leads narrow x gone (settings_of a.mid) result c.parts.front a.parts.between c.parts.between cuts e
    c.parts.first.0 c.parts.before in
    let left : IsReadyToTest x gone (settings_of a.mid) c.parts.between → IsSent gone n.chip.transmitter =
    λ r. sent_path gone c.parts.back c.parts.between n
    (does_silently (leaves mcr ier before f.lsr) refl c.mid c.parts.back after c.parts.second)
    (idle_sent x gone c.parts.between.chip r.idle) c.parts.after in
    leads_on narrow _ _ result left o

-- ---- the whole test

stalled_leads : {T : Type 0} (narrow : Bool) (P : Type 0) (result : Result T LoopbackError) → IsStalled result → LeadsTo narrow P result
stalled_leads narrow P (Ok x) e = absurd e
stalled_leads narrow P (Err fault) e = inl e

-- how the bytes of a test are cut
narrow_cuts : (on : Bool) (more : ℕ) → more < 4 → Cuts (on && nat_lt (5 + more) 7) (λ byte. cut_to on (5 + more) byte)
narrow_cuts false more h = λ byte few. refl
narrow_cuts true zero h = refl
narrow_cuts true (suc zero) h = refl
narrow_cuts true (suc (suc zero)) h = λ byte few. mod-eq_of_lt {n = byte} {m = 128} few
narrow_cuts true (suc (suc (suc zero))) h = λ byte few. mod-eq_of_lt {n = byte} {m = 256} (omega (arith, few))
narrow_cuts true (suc (suc (suc (suc n)))) h = absurd (omega arith)

chip_cuts : (c : ChipState) → Cuts (is_narrow c) (cut_of c)
chip_cuts c =
    narrow_cuts c.cuts (bit_and c.latches.lcr LCR.WORD_LENGTH.0)
    (let h : bit_and c.latches.lcr LCR.WORD_LENGTH.0 ≤ 3 = and_le_r c.latches.lcr LCR.WORD_LENGTH.0 in omega (arith, h))

no_stall : (narrow : Bool) → LoopbackRefused Stalled ≡ test_answer narrow → ⊥
no_stall true e = cc
no_stall false e = cc

answer_tested : (s t : State) (a : Answer) (result : Result (Unit {0}) LoopbackError) → a ≡ loopback_answer result →
    LeadsTo (is_narrow (machine_of s).chip) (IsFlushed s t) result → IsTested s a t
answer_tested s t a (Ok x) e o = record { answers = inl (e ∙ sym (ap test_answer o.0)); leaves = λ d. o.1 }
answer_tested s t a (Err fault) e (inl o) =
    let stalled : a ≡ LoopbackRefused Stalled = e ∙ ap (λ v. LoopbackRefused v) o in
    record { answers = inr stalled; leaves = λ d. absurd (no_stall (is_narrow (machine_of s).chip) (sym stalled ∙ d)) }
answer_tested s t a (Err fault) e (inr o) =
    record { answers = inl (e ∙ (ap (λ v. LoopbackRefused v) o.1 ∙ sym (ap test_answer o.0))); leaves = λ d. o.2 }

pub tested : (s t : State) (a : Answer) → IsSound (machine_of s) → Ready s → CallStep s call.TestLoopback a t → IsTested s a t
tested s t a sound r h = answer_tested s t a h.outcome h.answered (go h.did.does)
  where
    gone : List ℕ
    gone = out (machine_of s).chip.transmitter

    flushed : IsSent gone (machine_of t).chip.transmitter → IsFlushed s t
    flushed w = record { is_empty = shown_sent gone (machine_of t).chip.transmitter w; wire = w.wire }

    go : TestsLoopback h.outcome (fields (inner_of s)) h.did.list (fields (inner_of t)) →
        LeadsTo (is_narrow (machine_of s).chip) (IsFlushed s t) h.outcome
    go (mcr, ier, inl k) = stalled_leads (is_narrow (machine_of s).chip) _ h.outcome k.0
    go (mcr, ier, inr k) =
        let c = next_stages (Saving (BeginsTest mcr ier true)) (Tests mcr ier h.outcome) (fields (inner_of s)) (fields (inner_of t))
        h.did.list (machine_of s) (machine_of t) k h.did.path in
        let plain : IsPlain s = record { dlab = r.dlab; loopback = r.loopback } in
        let b = begun s c.parts.between mcr ier c.parts.front sound plain c.parts.first.0 c.parts.before in
        leads_on (is_narrow (machine_of s).chip) _ _ h.outcome flushed
        (test_leads (is_narrow (machine_of s).chip) (cut_of (machine_of s).chip) gone mcr ier h.outcome c.mid (fields (inner_of t))
        c.parts.back c.parts.between (machine_of t) (chip_cuts (machine_of s).chip) b c.parts.second c.parts.after)
