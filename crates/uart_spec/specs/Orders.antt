-- Orders given by a list: of cases as they are listed, and of structs by their fields in turn.
use Rattle.std.specs.Prelude.{◌≡◌, List, [], ◌∷◌, Option, Some, ⊤}
use Rattle.std.specs.Ordering.{ordering_then, partial_ordering_then}
use Rattle.std.specs.declared.cmp.Ordering.{Ordering}
use Rattle.std.specs.declared.cmp.Ordering.TheVariants.{Less, Equal}
use Rattle.uart_spec.specs.declared.registers.fifo_trigger_level.FifoTriggerLevel.{FifoTriggerLevel}
use Rattle.uart_spec.specs.declared.registers.fifo_trigger_level.FifoTriggerLevel.TheVariants as level
use Rattle.uart_spec.specs.declared.registers.frame.Parity.{Parity}
use Rattle.uart_spec.specs.declared.registers.frame.Parity.TheVariants as parity
use Rattle.uart_spec.specs.declared.registers.frame.WordLength.{WordLength}
use Rattle.uart_spec.specs.declared.registers.frame.WordLength.TheVariants as word
use Rattle.uart_spec.specs.declared.registers.interrupt_type.InterruptType.{InterruptType}
use Rattle.uart_spec.specs.declared.registers.interrupt_type.InterruptType.TheVariants as interrupt
use Rattle.uart_spec.specs.declared.setup.FifoSize.{FifoSize}
use Rattle.uart_spec.specs.declared.setup.FifoSize.TheVariants as size

-- each item of the list comes before the next one
abbrev pub IsAscending : {A : Type 0} → (A → A → Ordering) → List A → Type 0
IsAscending cmp [] = ⊤
IsAscending cmp (x ∷ []) = ⊤
IsAscending cmp (x ∷ y ∷ rest) = (cmp x y ≡ Less) × IsAscending cmp (y ∷ rest)

-- the first of these comparisons that is not equal; equal if all are
abbrev pub in_turn : List Ordering → Ordering
in_turn [] = Equal
in_turn (o ∷ []) = o
in_turn (o ∷ p ∷ rest) = ordering_then o (in_turn (p ∷ rest))

-- the same for types with a partial order
abbrev pub partial_in_turn : List (Option Ordering) → Option Ordering
partial_in_turn [] = Some Equal
partial_in_turn (o ∷ []) = o
partial_in_turn (o ∷ p ∷ rest) = partial_ordering_then o (partial_in_turn (p ∷ rest))

-- the cases of each enum, from the least up; interrupts are in the order in which a chip reports them
abbrev pub interrupt_types : List InterruptType
interrupt_types =
    interrupt.ReceiverLineStatus ∷ interrupt.ReceivedDataReady ∷ interrupt.ReceptionTimeout ∷
    interrupt.TransmitterHoldingRegisterEmpty ∷ interrupt.ModemStatus ∷ interrupt.DmaReceptionEndOfTransfer ∷
    interrupt.DmaTransmissionEndOfTransfer ∷ []

abbrev pub trigger_levels : List FifoTriggerLevel
trigger_levels = level.One ∷ level.Four ∷ level.Eight ∷ level.Fourteen ∷ []

abbrev pub word_lengths : List WordLength
word_lengths = word.FiveBits ∷ word.SixBits ∷ word.SevenBits ∷ word.EightBits ∷ []

abbrev pub parities : List Parity
parities = parity.Disabled ∷ parity.Odd ∷ parity.Even ∷ parity.Forced1 ∷ parity.Forced0 ∷ []

abbrev pub fifo_sizes : List FifoSize
fifo_sizes =
    size.Sixteen ∷ size.ThirtyTwo ∷ size.SixtyFour ∷ size.OneHundredTwentyEight ∷ size.TwoHundredFiftySix ∷ []
