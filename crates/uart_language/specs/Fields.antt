-- The meaning of a field of a line, or what is wrong with it.
use Rattle.std.specs.Prelude.{ℕ, ◌+◌, ◌*◌, ◌/◌, ◌%◌, Bool, true, false, List, [], ◌∷◌, length, Option, Some, None}
use Rattle.std.specs.Prelude.{Result, Ok, Err, ◌==◌, ◌&&◌, nat_le, if◌then◌else◌, bytes_eq, codes}
use Rattle.std.specs.List.{list_all}
use Rattle.std.specs.Char.{is_ascii_digit, is_ascii_hexdigit, digit_value}
use Rattle.std.specs.Str.{is_utf8}
use Rattle.std.specs.Str.Parse.{digits_value}
use Rattle.uart_spec.specs.declared.config.BaudRate.{BaudRate}
use Rattle.uart_spec.specs.declared.config.BaudRate.TheVariants as rate
use Rattle.uart_spec.specs.declared.registers.frame.WordLength.{WordLength}
use Rattle.uart_spec.specs.declared.registers.frame.WordLength.TheVariants.{FiveBits, SixBits, SevenBits, EightBits}
use Rattle.uart_spec.specs.declared.registers.fifo_trigger_level.FifoTriggerLevel.{FifoTriggerLevel}
use Rattle.uart_spec.specs.declared.registers.fifo_trigger_level.FifoTriggerLevel.TheVariants.{One, Four, Eight}
use Rattle.uart_spec.specs.declared.registers.fifo_trigger_level.FifoTriggerLevel.TheVariants.{Fourteen}
use Rattle.uart_spec.specs.declared.registers.interrupt_enable.IER.{IER}
use Rattle.uart_spec.specs.declared.registers.line_status.TheConstants.LSR
use Rattle.uart_spec.specs.declared.registers.modem_control.MCR.{MCR}
use Rattle.uart_spec.specs.declared.dump.ConfigRegisterDump.{ConfigRegisterDump}
use Rattle.uart_spec.specs.declared.setup.FifoAction.{FifoAction}
use Rattle.uart_spec.specs.declared.setup.FifoAction.TheVariants.{Keep, Reset, Disable}
use Rattle.uart_spec.specs.declared.setup.FifoSize.{FifoSize}
use Rattle.uart_spec.specs.declared.setup.FifoSize.TheVariants.{Sixteen, ThirtyTwo, SixtyFour, OneHundredTwentyEight}
use Rattle.uart_spec.specs.declared.setup.FifoSize.TheVariants.{TwoHundredFiftySix}
use Rattle.uart_spec.specs.declared.setup.TransmitterWait.{TransmitterWait}
use Rattle.uart_spec.specs.declared.setup.TransmitterWait.TheVariants.{First, Last, Never as NoWait}
use Rattle.uart_events.specs.declared.event.TheConstants.{MAX_CHAR_TICKS, MAX_WIRE_CAPACITY}
use Rattle.uart_call.specs.declared.call.TheConstants.{CALL_BYTES}
use Rattle.uart_events.specs.declared.event.Chip.{Chip}
use Rattle.uart_events.specs.declared.event.Chip.TheVariants.{Uart16550A, Uart16450}
use Rattle.uart_language.specs.declared.cause.Cause.{Cause}
use Rattle.uart_language.specs.declared.cause.Cause.TheVariants.{BadWord, BadNumber, BadHex, TooManyBytes, BadText}
use Rattle.uart_language.specs.declared.fields.ChipKind.{ChipKind}
use Rattle.uart_language.specs.declared.limits.TheConstants.{MOST_LIMIT, MOST_TICKS, MOST_RATE, SCRIPT_DIGITS}

-- what follows a value, or the fault before it
infixl 10 ◌>>=◌
abbrev pub ◌>>=◌ : {A B E : Type 0} → Result A E → (A → Result B E) → Result B E
(Ok x) >>= f = f x
(Err e) >>= f = Err e

-- 1 to so many decimal digits
abbrev pub is_number : ℕ → List ℕ → Bool
is_number digits word = nat_le 1 (length word) && nat_le (length word) digits && list_all is_ascii_digit word

-- a number from least to most, of at most so many digits
unfoldable pub number_of : (digits least most : ℕ) → List ℕ → Result ℕ Cause
number_of digits least most word =
    if is_number digits word && nat_le least (digits_value 10 word) && nat_le (digits_value 10 word) most
    then Ok (digits_value 10 word) else Err BadNumber

-- a number of a script, from least to most
abbrev pub number_in : ℕ → ℕ → List ℕ → Result ℕ Cause
number_in least most word = number_of SCRIPT_DIGITS least most word

-- N of a call: the number of slots
abbrev pub count_in : List ℕ → Result ℕ Cause
count_in word = number_in 0 CALL_BYTES word

-- N of `limit`: the spin limit of the driver
abbrev pub limit_in : List ℕ → Result ℕ Cause
limit_in word = number_in 1 MOST_LIMIT word

-- N of `tick`: the number of ticks
abbrev pub ticks_in : List ℕ → Result ℕ Cause
ticks_in word = number_in 0 MOST_TICKS word

-- T: the number of ticks that a character takes to be sent
abbrev pub char_ticks_in : List ℕ → Result ℕ Cause
char_ticks_in word = number_in 1 MAX_CHAR_TICKS word

-- W: the number of bytes that the wire has room for
abbrev pub wire_capacity_in : List ℕ → Result ℕ Cause
wire_capacity_in word = number_in 0 MAX_WIRE_CAPACITY word

-- HH: two hexadecimal digits of either case
unfoldable pub byte_in : List ℕ → Result ℕ Cause
byte_in word = if length word == 2 && list_all is_ascii_hexdigit word then Ok (digits_value 16 word) else Err BadHex

-- H: one hexadecimal digit, for the four modem lines in the high bits of MSR
unfoldable pub lines_in : List ℕ → Result ℕ Cause
lines_in word =
    if length word == 1 && list_all is_ascii_hexdigit word then Ok (16 * digits_value 16 word) else Err BadHex

-- the bytes that are written in pairs of digits
unfoldable pub pairs_of : List ℕ → List ℕ
pairs_of [] = []
pairs_of (high ∷ []) = []
pairs_of (high ∷ low ∷ digits) = (16 * digit_value high + digit_value low) ∷ pairs_of digits

-- one or more pairs of hexadecimal digits
abbrev pub is_pairs : List ℕ → Bool
is_pairs word = nat_le 1 (length word) && (length word % 2 == 0) && list_all is_ascii_hexdigit word

-- HEX: `-` for no bytes, or pairs of digits for at most those of a call
unfoldable pub bytes_in : List ℕ → Result (List ℕ) Cause
bytes_in word =
    if bytes_eq word (codes "-") then Ok []
    else if is_pairs word then (if nat_le (length word / 2) CALL_BYTES then Ok (pairs_of word) else Err TooManyBytes)
    else Err BadHex

-- HEX whose bytes are UTF-8
unfoldable pub text_in : List ℕ → Result (List ℕ) Cause
text_in word = do
  bytes ← bytes_in word
  if is_utf8 bytes then Ok bytes else Err BadText

-- what is in the row of the word in a table
abbrev pub among : {A : Type 0} → List (List ℕ × A) → List ℕ → Result A Cause
among [] word = Err BadWord
among (row ∷ rows) word = if bytes_eq word row.0 then Ok row.1 else among rows word

-- E: a parity error p, a framing error f and a break b, as LSR shows them
unfoldable pub errors_in : List ℕ → Result ℕ Cause
errors_in word = among (
    (codes "p", LSR.PARITY_ERROR.0) ∷ (codes "f", LSR.FRAMING_ERROR.0) ∷ (codes "b", LSR.BREAK_INTERRUPT.0)
    ∷ (codes "pf", LSR.PARITY_ERROR.0 + LSR.FRAMING_ERROR.0)
    ∷ (codes "pb", LSR.PARITY_ERROR.0 + LSR.BREAK_INTERRUPT.0)
    ∷ (codes "fb", LSR.FRAMING_ERROR.0 + LSR.BREAK_INTERRUPT.0)
    ∷ (codes "pfb", LSR.CHARACTER_ERRORS.0) ∷ []) word

-- a model, with FIFOs of this size, and with automatic flow control or without
abbrev pub kind : Chip → FifoSize → (auto_flow : Bool) → ChipKind
kind model size auto_flow = record { model = model; size = size; auto_flow = auto_flow }

-- NAME: the kind of chip; a chip with larger FIFOs is a 16550A in all else, but that a 16750 and a 16950 have automatic
-- flow control
unfoldable pub chip_in : List ℕ → Result ChipKind Cause
chip_in word = among (
    (codes "16550a", kind Uart16550A Sixteen false) ∷ (codes "16450", kind Uart16450 Sixteen false)
    ∷ (codes "16650", kind Uart16550A ThirtyTwo false) ∷ (codes "16750", kind Uart16550A SixtyFour true)
    ∷ (codes "16850", kind Uart16550A OneHundredTwentyEight false)
    ∷ (codes "16950", kind Uart16550A OneHundredTwentyEight true)
    ∷ (codes "16550a-256", kind Uart16550A TwoHundredFiftySix false) ∷ []) word

-- SIZE of `fifo-size`: the size that the driver takes the FIFOs for
unfoldable pub size_in : List ℕ → Result FifoSize Cause
size_in word = among (
    (codes "16", Sixteen) ∷ (codes "32", ThirtyTwo) ∷ (codes "64", SixtyFour) ∷ (codes "128", OneHundredTwentyEight)
    ∷ (codes "256", TwoHundredFiftySix) ∷ []) word

-- the option that may end the first line
unfoldable pub cut_in : List ℕ → Result Bool Cause
cut_in word = among ((codes "cut", true) ∷ []) word

-- F: the trigger level of the receiver FIFO
unfoldable pub level_in : List ℕ → Result (Option FifoTriggerLevel) Cause
level_in word = among (
    (codes "off", None) ∷ (codes "1", Some One) ∷ (codes "4", Some Four) ∷ (codes "8", Some Eight)
    ∷ (codes "14", Some Fourteen) ∷ []) word

-- the baud rate with a number: the case with a name if there is one
abbrev pub rate_of : ℕ → BaudRate
rate_of n =
    if n == 115200 then rate.Baud115200
    else if n == 57600 then rate.Baud57600
    else if n == 38400 then rate.Baud38400
    else if n == 9600 then rate.Baud9600
    else if n == 4800 then rate.Baud4800
    else if n == 2400 then rate.Baud2400
    else if n == 1200 then rate.Baud1200
    else if n == 600 then rate.Baud600
    else if n == 300 then rate.Baud300
    else if n == 150 then rate.Baud150
    else if n == 110 then rate.Baud110
    else rate.Custom n

-- BAUD: the bits per second
unfoldable pub rate_in : List ℕ → Result BaudRate Cause
rate_in word = do
  n ← number_in 1 MOST_RATE word
  Ok (rate_of n)

-- C: whether the driver checks CTS
unfoldable pub cts_in : List ℕ → Result Bool Cause
cts_in word = among ((codes "cts", true) ∷ (codes "nocts", false) ∷ []) word

-- HH: the bits of IER
unfoldable pub interrupts_in : List ℕ → Result IER Cause
interrupts_in word = do
  bits ← byte_in word
  Ok (record { 0 = bits })

-- HH of outputs: the bits of MCR
unfoldable pub outputs_in : List ℕ → Result MCR Cause
outputs_in word = do
  bits ← byte_in word
  Ok (record { 0 = bits })

-- F of a trigger level: the FIFOs are on, so there is no `off`
unfoldable pub trigger_in : List ℕ → Result FifoTriggerLevel Cause
trigger_in word = among (
    (codes "1", One) ∷ (codes "4", Four) ∷ (codes "8", Eight) ∷ (codes "14", Fourteen) ∷ []) word

-- S: whether a break or an output is on
unfoldable pub switch_in : List ℕ → Result Bool Cause
switch_in word = among ((codes "on", true) ∷ (codes "off", false) ∷ []) word

-- P: whether the scratch register is tested
unfoldable pub check_in : List ℕ → Result Bool Cause
check_in word = among ((codes "check", true) ∷ (codes "nocheck", false) ∷ []) word

-- W: when to wait until the transmitter is empty
unfoldable pub wait_in : List ℕ → Result TransmitterWait Cause
wait_in word = among ((codes "first", First) ∷ (codes "last", Last) ∷ (codes "never", NoWait) ∷ []) word

-- A: what becomes of the FIFOs
unfoldable pub fifos_in : List ℕ → Result FifoAction Cause
fifos_in word = among ((codes "keep", Keep) ∷ (codes "reset", Reset) ∷ (codes "disable", Disable) ∷ []) word

-- the registers in the order in which `dump` prints them, with DLL and DLM at the end
abbrev pub registers_of : List ℕ → Result ConfigRegisterDump Cause
registers_of (ier ∷ isr ∷ lcr ∷ mcr ∷ lsr ∷ msr ∷ spr ∷ dll ∷ dlm ∷ []) = Ok (record {
  ier = record { 0 = ier };
  isr = record { 0 = isr };
  lcr = record { 0 = lcr };
  mcr = record { 0 = mcr };
  lsr = record { 0 = lsr };
  msr = record { 0 = msr };
  spr = spr;
  dll = dll;
  dlm = dlm;
})
registers_of bytes = Err BadHex

-- HEX of a dump: nine bytes
unfoldable pub dump_in : List ℕ → Result ConfigRegisterDump Cause
dump_in word = bytes_in word >>= registers_of

-- the word length of five to eight bits
abbrev pub word_length_of : ℕ → WordLength
word_length_of n = if n == 5 then FiveBits else if n == 6 then SixBits else if n == 7 then SevenBits else EightBits

-- BITS: the data bits of a character
unfoldable pub word_length_in : List ℕ → Result WordLength Cause
word_length_in word = do
  n ← number_in 5 8 word
  Ok (word_length_of n)

-- the result of a function, with its value seen through `view`
abbrev pub seen : {A B E : Type 0} → (A → B) → Result A E → Result B E
seen view (Ok x) = Ok (view x)
seen view (Err e) = Err e
