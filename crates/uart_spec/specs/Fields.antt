-- The codes of the fields of FCR, LCR and ISR.
use Rattle.std.specs.Prelude.{◌≡◌, ℕ, ◌+◌}
use Rattle.uart_spec.specs.Bits.{field}
use Rattle.uart_spec.specs.declared.registers.fifo_trigger_level.FifoTriggerLevel.{FifoTriggerLevel}
use Rattle.uart_spec.specs.declared.registers.fifo_trigger_level.FifoTriggerLevel.TheVariants.{One, Four, Eight}
use Rattle.uart_spec.specs.declared.registers.fifo_trigger_level.FifoTriggerLevel.TheVariants.{Fourteen}
use Rattle.uart_spec.specs.declared.registers.frame.WordLength.{WordLength}
use Rattle.uart_spec.specs.declared.registers.frame.WordLength.TheVariants.{FiveBits, SixBits, SevenBits, EightBits}
use Rattle.uart_spec.specs.declared.registers.frame.Parity.{Parity}
use Rattle.uart_spec.specs.declared.registers.frame.Parity.TheVariants.{Disabled, Odd, Even, Forced1, Forced0}
use Rattle.uart_spec.specs.declared.registers.interrupt_type.InterruptType.{InterruptType}
use Rattle.uart_spec.specs.declared.registers.interrupt_type.InterruptType.TheVariants.{ReceiverLineStatus}
use Rattle.uart_spec.specs.declared.registers.interrupt_type.InterruptType.TheVariants.{ReceivedDataReady}
use Rattle.uart_spec.specs.declared.registers.interrupt_type.InterruptType.TheVariants.{ReceptionTimeout}
use Rattle.uart_spec.specs.declared.registers.interrupt_type.InterruptType.TheVariants.{TransmitterHoldingRegisterEmpty}
use Rattle.uart_spec.specs.declared.registers.interrupt_type.InterruptType.TheVariants.{ModemStatus}
use Rattle.uart_spec.specs.declared.registers.interrupt_type.InterruptType.TheVariants.{DmaReceptionEndOfTransfer}
use Rattle.uart_spec.specs.declared.registers.interrupt_type.InterruptType.TheVariants.{DmaTransmissionEndOfTransfer}

-- the two-bit code of a trigger level
abbrev pub trigger_code : FifoTriggerLevel → ℕ
trigger_code One = 0
trigger_code Four = 1
trigger_code Eight = 2
trigger_code Fourteen = 3

-- the two-bit code of a word length
abbrev pub word_length_code : WordLength → ℕ
word_length_code FiveBits = 0
word_length_code SixBits = 1
word_length_code SevenBits = 2
word_length_code EightBits = 3

-- the number of data bits of a word length
abbrev pub word_length_bits : (length : WordLength) → ℕ
word_length_bits length = 5 + word_length_code length

-- the three-bit code of a parity
abbrev pub parity_code : (parity : Parity) → ℕ
parity_code Disabled = 0
parity_code Odd = 1
parity_code Even = 3
parity_code Forced1 = 5
parity_code Forced0 = 7

-- the two bits from the lowest on are the code of this trigger level
abbrev pub HasTrigger : (lowest value : ℕ) → FifoTriggerLevel → Type 0
HasTrigger lowest value level = field lowest 2 value ≡ trigger_code level

-- the two bits from the lowest on are the code of this word length
abbrev pub HasWordLength : (lowest value : ℕ) → WordLength → Type 0
HasWordLength lowest value length = field lowest 2 value ≡ word_length_code length

-- the number of bits of the parity field that matter: for no parity the lowest alone
abbrev pub parity_places : Parity → ℕ
parity_places Disabled = 1
parity_places _ = 3

-- the three bits from the lowest on are a code of this parity
abbrev pub HasParity : (lowest value : ℕ) → Parity → Type 0
HasParity lowest value parity = field lowest (parity_places parity) value ≡ parity_code parity

-- of each interrupt: its identification code, bits 1 to 3 of ISR, and its priority; 1 is the highest
abbrev interrupt_row : InterruptType → ℕ × ℕ
interrupt_row ReceiverLineStatus = (3, 1)
interrupt_row ReceivedDataReady = (2, 2)
interrupt_row ReceptionTimeout = (6, 2)
interrupt_row TransmitterHoldingRegisterEmpty = (1, 3)
interrupt_row ModemStatus = (0, 4)
interrupt_row DmaReceptionEndOfTransfer = (7, 5)
interrupt_row DmaTransmissionEndOfTransfer = (5, 6)

-- the identification code of an interrupt, bits 1 to 3 of ISR
abbrev pub interrupt_code : InterruptType → ℕ
interrupt_code interrupt = (interrupt_row interrupt).0

-- the priority of an interrupt; 1 is the highest
abbrev pub priority : InterruptType → ℕ
priority interrupt = (interrupt_row interrupt).1

-- bit 0 is clear, so an interrupt is pending, and the code is that of this interrupt
abbrev pub Identifies : ℕ → InterruptType → Type 0
Identifies isr interrupt = (field 0 1 isr ≡ 0) × (field 1 3 isr ≡ interrupt_code interrupt)
