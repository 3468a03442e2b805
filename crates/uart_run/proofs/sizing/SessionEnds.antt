-- `find_fifo_size` and `enable_64_byte_fifos` end a session, and the next may begin behind them.
use Rattle.uart_run.proofs.Names.{◌≡◌, Bool, true, false, List, refl, sym, ◌∙◌, ap, Result, Ok, Err, Path, Access, FifoSize, FifoSizeError}
use Rattle.uart_run.proofs.Names.{FifosOff, TooFew, Stalled, Fields, fields, Enables64, FindsFifoSize, inner_of, MachineState, MachineStep}
use Rattle.uart_run.proofs.Names.{IsSound, flow-path, State, machine_of, BurstsFit, Ready, latches_of, EndsSession}
use Rattle.uart_run.specs.Sizes.{Enables}
use Rattle.uart_run.proofs.{SizeKept.leaves_size, Wired.wired_path, built.Loopback.testing, built.Sizing.finds_fifo_size}
use Rattle.uart_run.proofs.{built.Words.allowed, built.Words.but_checks, built.Words.leaves, sizing.Enabling.enables}
use Rattle.uart_run.proofs.{sizing.Enabling.enables_off, sizing.Finding.finds_off, sizing.Finding.finds_size, sizing.Finding.may_find}

-- whether the driver checks CTS
abbrev checks_of : Fields → Bool
checks_of f = f.config.check_cts_before_sending

-- along any accesses that leave the latches as they were
ends_as : (s t : State) (l : List Access) → Path MachineStep (machine_of s) l (machine_of t) → (BurstsFit t → Ready t) →
    latches_of t ≡ latches_of s → (fields (inner_of t)).size ≡ (fields (inner_of s)).size →
    checks_of (fields (inner_of t)) ≡ checks_of (fields (inner_of s)) → EndsSession s t
ends_as s t l path ready latches takes checks = record {
  ready = ready;
  unbroken = λ unbroken. rw latches unbroken;
  wired = λ wired. wired_path l (machine_of s) (machine_of t) wired path;
  takes = takes;
  checks = λ unchecked. checks ∙ unchecked;
  flow = flow-path l (machine_of s) (machine_of t) path;
}

-- nothing was done
ends_same : (s t : State) (l : List Access) → Path MachineStep (machine_of s) l (machine_of t) → machine_of t ≡ machine_of s →
    fields (inner_of t) ≡ fields (inner_of s) → Ready s → EndsSession s t
ends_same s t l path machine driver ready =
    ends_as s t l path
    (λ fits. record {
      dlab = rw machine ready.dlab;
      loopback = rw machine ready.loopback;
      fifo = ap (λ (m : MachineState). m.chip.fifo) machine ∙ (ready.fifo ∙ sym (ap (λ (f : Fields). f.fifo) driver));
      fits = fits;
    })
    (ap (λ (m : MachineState). m.chip.latches) machine) (ap (λ (f : Fields). f.size) driver) (ap checks_of driver)

pub finding_ends : (s t : State) → IsSound (machine_of s) → Ready s → (found : Result FifoSize FifoSizeError) (l : List Access) →
    FindsFifoSize found (fields (inner_of s)) l (fields (inner_of t)) → Path MachineStep (machine_of s) l (machine_of t) → EndsSession s t
finding_ends s t sound ready found l does path = go (fields (inner_of s)).fifo refl
  where
    go : (on : Bool) → (fields (inner_of s)).fifo ≡ on → EndsSession s t
    go true is =
        let finds = finds_size s t sound (may_find s sound ready is) is found l does path in
        let left = leaves (finds_fifo_size found) (fields (inner_of s)) l (fields (inner_of t)) does in
        ends_as s t l path (λ fits. finds.ready ready) finds.latches
        (leaves_size (finds_fifo_size found) (fields (inner_of s)) l (fields (inner_of t)) does)
        (allowed but_checks testing.alters (fields (inner_of s)) (fields (inner_of t)) refl left.1)
    go false is =
        let finds = finds_off s t found l is does path in ends_same s t l path finds.machine finds.driver ready

pub enabling_ends : (s t : State) → IsSound (machine_of s) → Ready s → (enabled : Result Bool FifoSizeError) (l : List Access) →
    Enables64 enabled (fields (inner_of s)) l (fields (inner_of t)) → Path MachineStep (machine_of s) l (machine_of t) → EndsSession s t
enabling_ends s t sound ready enabled l does path = go (fields (inner_of s)).fifo refl
  where
    on : (other : Result Bool FifoSizeError) → (fields (inner_of s)).fifo ≡ true →
        Enables64 other (fields (inner_of s)) l (fields (inner_of t)) → Enables s other t → EndsSession s t
    on (Ok is_on) is (fifo, lcr, ier, (made, saved)) enables =
        ends_as s t l path enables.ready enables.latches (ap (λ (f : Fields). f.size) saved) (ap checks_of saved)
    on (Err Stalled) is (fifo, lcr, ier, (made, saved)) enables =
        ends_as s t l path (λ fits. enables.ready) enables.latches (ap (λ (f : Fields). f.size) saved) (ap checks_of saved)
    on (Err FifosOff) is does enables = absurd enables
    on (Err (TooFew returned)) is does enables = absurd enables

    go : (fifo : Bool) → (fields (inner_of s)).fifo ≡ fifo → EndsSession s t
    go true is = on enabled is does (enables s t sound ready is enabled l does path)
    go false is = let off = enables_off s t enabled l is does path in ends_same s t l path off.machine off.driver ready
