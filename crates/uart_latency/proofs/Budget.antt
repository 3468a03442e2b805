-- What is left for a handler is in time.
use Rattle.uart_latency.proofs.Names.{◌≡◌, ℕ, ◌+◌, ◌*◌, ◌<◌, ◌≤◌, Some, Ok, arith, ap, IsCharacterAnswer, IsHandlerBudget, spare_at}
use Rattle.uart_latency.proofs.Names.{FifoSize, RingState, spare, IsEarly}
use Rattle.uart_spec.specs.declared.config.Config.{Config}

pub in_time : (config : Config) (size : FifoSize) (e before clocks : ℕ) (s : RingState) →
    spare_at size config.fifo_trigger_level ≡ spare s → IsHandlerBudget config size e before (Ok (Some clocks)) →
    (t d : ℕ) × IsCharacterAnswer config (Ok t) × IsEarly t d s × (clocks + before + 4 * e ≤ d) × (2 * e ≤ t)
in_time config size e before clocks s same (t, character, twice, exact) =
    let early : clocks + before + 4 * e < (spare s + 1) * t = omega (arith, exact, ap (λ (n : ℕ). (n + 1) * t) same) in
    (t, clocks + before + 4 * e, character, early, omega arith, twice)
