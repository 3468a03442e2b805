-- Where ticks come before each access, the spin limit is long enough and the wire has room, a `find_fifo_size` does not stall.
use Rattle.uart_run.proofs.Names.{refl, ◌≡◌, ◌⊎◌, ℕ, true, false, inl, inr, List, Ok, Err, sym, ◌∙◌, ap, subst, Stalled, Path, Access}
use Rattle.uart_run.proofs.Names.{Settings, Then, WaitsFor, Fields, Saving, Next, fields, settings_of, EntersAt, Leaves, BeginsTest}
use Rattle.uart_run.proofs.Names.{DrainsLoopback, Floods, Tells, Measures, SwitchesFifo, Sizes, SizesInLoopback, FindsFifoSize, inner_of}
use Rattle.uart_run.proofs.Names.{out, cut_of, MachineState, MachineStep, IsSound, Modes, loopback-in, State, machine_of, IsTimely, HasRoom}
use Rattle.uart_run.proofs.Names.{IsUnheld, size_in, IsPlain, MayFind}
use Rattle.uart_spec.specs.declared.registers.line_status.TheConstants.LSR
use Rattle.uart_run.proofs.{Pieces.then_parts, Pieces.next_stages, loopback.LoopPhases.IsEntered, loopback.LoopPhases.drained}
use Rattle.uart_run.proofs.{loopback.LoopTests.IsBegun, loopback.LoopTests.begun, loopback.LoopTests.looped_modes}
use Rattle.uart_run.proofs.{loopback.LoopTests.in_loopback, loopback.LoopSucceeds.no_stall-begin, progress.Nearing.Runs}
use Rattle.uart_run.proofs.{progress.WaitEnds.no_stall-empty, sizing.Counting.Found, NeverSwitched.does_never, SizeKept.left_plain}
use Rattle.uart_run.proofs.{SizeKept.left_fixed, built.Words.leaves_limit, built.Loopback.begins_test, built.Loopback.drains_loopback}
use Rattle.uart_run.proofs.{built.Loopback.enters_at, built.Sizing.floods, sizing.Measuring.was_flooded, sizing.Walking.level_on}
use Rattle.uart_run.proofs.{sizing.Finding.finds_size}
use Rattle.uart_run.proofs.loopback.LoopWaits.{Lives, lives-path, few_left, never_flooded, looped_off}
use Rattle.uart_spec.specs.declared.registers.offsets.TheConstants as offsets

-- ---- the measure

-- a count is no stall
no_stall-count : (count : ℕ) (found : Found) → found ≡ Err Stalled → Tells count found → ⊥
no_stall-count count (Ok size) e t = let other : Ok size ≡ Err Stalled = e in absurd (cc)
no_stall-count count (Err fault) e t =
    let T : Found → Type 0 = λ found. Tells count found in subst T e t

no_stall-measure : (x : Modes) (gone : List ℕ) (s : Settings) (found : Found) (l : List Access) (m n : MachineState) →
    Lives s.limit m → IsEntered x gone s m → found ≡ Err Stalled → Measures found s l → Path MachineStep m l n → ⊥
no_stall-measure x gone s found l m n v e stalled (inl t) path = never_flooded x gone s l m n v e t.1 path
no_stall-measure x gone s found l m n v e stalled (inr (inl t)) path =
    let waits = WaitsFor LSR.TRANSMITTER_EMPTY.0 false in
    let a = then_parts (DrainsLoopback true) (Then Floods waits) s l m n t.1 path in
    let r = drained x gone s a.front m a.between e a.first a.before in
    let u = lives-path s.limit a.front m a.between v (left_plain m (drains_loopback true) refl s a.front a.first)
    a.before in
    let b = then_parts Floods waits s a.back a.between n a.second a.after in
    let w = was_flooded x gone s b.front a.between b.between u.sound r b.first b.before in
    let y = lives-path s.limit b.front a.between b.between u (left_plain a.between floods refl s b.front b.first) b.before in
    let runs : Runs b.between = record {
      sound = y.sound;
      ticked = y.ticked;
      flows = λ off. absurd (cc (loopback-in x b.between.chip w.modes, r.looped.loopback, off));
      off = looped_off x b.between.chip r.looped w.modes;
    } in
    no_stall-empty s s.limit b.back b.between n runs (few_left s.limit b.between y) b.second b.after
no_stall-measure x gone s found l m n v e stalled (inr (inr (count, tells, t))) path = no_stall-count count found stalled tells

-- ---- the call

no_stall-in_loop : (cut : ℕ → ℕ) (gone : List ℕ) (found : Found) (mcr ier : ℕ) (f after : Fields) (l : List Access) (m n : MachineState) →
    Lives f.limit m → IsBegun cut gone m → found ≡ Err Stalled → SizesInLoopback found mcr ier f l after → Path MachineStep m l n → ⊥
no_stall-in_loop cut gone found mcr ier f after l m n v b stalled (before, on, does) path =
    let level = level_on f in
    let a = next_stages (EntersAt level before on) (Next (Sizes level found) (Leaves mcr ier before f.lsr)) f after l m n does path in
    let c = next_stages (Sizes level found) (Leaves mcr ier before f.lsr) a.mid after a.parts.back a.parts.between n a.parts.second
    a.parts.after in
    let d = next_stages (Saving (Measures found)) (SwitchesFifo level c.parts.first.0) a.mid c.mid c.parts.front a.parts.between
    c.parts.between c.parts.first.1 c.parts.before in
    let i = in_loopback cut gone level before on f a.mid a.parts.front m a.parts.between b a.parts.first a.parts.before in
    let entered = does_never offsets.LCR (enters_at level before on) refl f a.parts.front a.mid a.parts.first in
    let w = lives-path f.limit a.parts.front m a.parts.between v (left_fixed m a.parts.front entered (inr b.dlab)) a.parts.before in
    let same : f.limit ≡ a.mid.limit = sym (leaves_limit (enters_at level before on) f a.parts.front a.mid a.parts.first) in
    no_stall-measure (looped_modes m.chip.latches.lcr on cut) gone (settings_of a.mid) found d.parts.front a.parts.between d.parts.between
    (subst (λ limit. Lives limit a.parts.between) same w) i stalled d.parts.first.0 d.parts.before

module _ (s t : State) (sound : IsSound (machine_of s)) (plain : IsPlain s) (is_on : (fields (inner_of s)).fifo ≡ true)
    (timely : IsTimely s) (unheld : IsUnheld (machine_of s)) (room : HasRoom 0 (machine_of s)) where
  pub never : (found : Found) (l : List Access) → found ≡ Err Stalled → FindsFifoSize found (fields (inner_of s)) l (fields (inner_of t)) →
      Path MachineStep (machine_of s) l (machine_of t) → ⊥
  never found l stalled (inl h) path = let other : true ≡ false = sym is_on ∙ h.1 in absurd (cc)
  never found l stalled (inr (_, (mcr, ier, inl k))) path =
      no_stall-begin s (machine_of t) mcr ier l sound timely unheld room k.1.0 path
  never found l stalled (inr (_, (mcr, ier, inr does))) path =
      let f = fields (inner_of s) in
      let a = next_stages (Saving (BeginsTest mcr ier true)) (SizesInLoopback found mcr ier) f (fields (inner_of t)) l (machine_of s)
      (machine_of t) does path in
      let b = begun s a.parts.between mcr ier a.parts.front sound plain a.parts.first.0 a.parts.before in
      let v : Lives f.limit (machine_of s) = record { sound = sound; ticked = timely.ticked; enough = timely.limit } in
      let leaves = left_plain (machine_of s) (begins_test mcr ier true) refl (settings_of f) a.parts.front a.parts.first.0 in
      let u = lives-path f.limit a.parts.front (machine_of s) a.parts.between v leaves a.parts.before in
      let same : f.limit ≡ a.mid.limit = sym (ap (λ (g : Fields). g.limit) a.parts.first.1) in
      no_stall-in_loop (cut_of (machine_of s).chip) (out (machine_of s).chip.transmitter) found mcr ier a.mid (fields (inner_of t))
      a.parts.back a.parts.between (machine_of t) (subst (λ limit. Lives limit a.parts.between) same u) b stalled a.parts.second
      a.parts.after

pub size_found : (s t : State) → IsSound (machine_of s) → MayFind s → (fields (inner_of s)).fifo ≡ true → IsTimely s →
    IsUnheld (machine_of s) → HasRoom 0 (machine_of s) → (found : Found) (l : List Access) →
    FindsFifoSize found (fields (inner_of s)) l (fields (inner_of t)) →
    Path MachineStep (machine_of s) l (machine_of t) → found ≡ Ok (size_in s)
size_found s t sound may is_on timely unheld room found l does path = go (finds_size s t sound may is_on found l does path).answers
  where
    go : (found ≡ Ok (size_in s)) ⊎ (found ≡ Err Stalled) → found ≡ Ok (size_in s)
    go (inl e) = e
    go (inr e) = absurd (never s t sound may.plain is_on timely unheld room found l e does path)
