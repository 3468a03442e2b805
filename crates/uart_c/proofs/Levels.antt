-- The number of characters of a trigger level stands for that level.
use Rattle.std.proofs.Common.{◌≡◌, refl}
use Rattle.uart_c.specs.State.{number_of, trigger_of}
use Rattle.uart_spec.specs.declared.registers.fifo_trigger_level.FifoTriggerLevel.{FifoTriggerLevel}
use Rattle.uart_spec.specs.declared.registers.fifo_trigger_level.FifoTriggerLevel.TheVariants.{One, Four, Eight}
use Rattle.uart_spec.specs.declared.registers.fifo_trigger_level.FifoTriggerLevel.TheVariants.{Fourteen}

pub same_level : (level : FifoTriggerLevel) → trigger_of (number_of level) ≡ level
same_level One = refl
same_level _ = refl
