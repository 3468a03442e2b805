-- What the options `earlycon=` and `console=` of a kernel's command line say. In their text, with `[` and `]` around
-- what may be left out, is:
--     earlycon  NAME,[ACCESS,]0xADDRESS[,OPTIONS[,CLOCK]]
--     console   ttyS0 to ttyS3[,OPTIONS], or as earlycon
--     OPTIONS   RATE[PARITY[DATA BITS[r]]]
use Rattle.std.specs.Prelude.{ℕ, Bool, true, false, not, List, [], ◌∷◌, Option, Some, None, Result, Ok, Err}
use Rattle.std.specs.Prelude.{◌==◌, nat_lt, if◌then◌else◌, bytes_eq, codes, length, take, drop, slice_index_or}
use Rattle.std.specs.Char.{is_ascii_digit}
use Rattle.std.specs.List.{slice_split, position_or_len}
use Rattle.uart_spec.specs.declared.registers.frame.Parity.{Parity}
use Rattle.uart_spec.specs.declared.registers.frame.Parity.TheVariants.{Disabled, Odd, Even}
use Rattle.uart_spec.specs.declared.registers.frame.WordLength.{WordLength}
use Rattle.uart_spec.specs.declared.registers.frame.WordLength.TheVariants.{FiveBits, SixBits, SevenBits, EightBits}
use Rattle.uart_spec.specs.declared.layout.ByteOrder.{ByteOrder}
use Rattle.uart_spec.specs.declared.layout.ByteOrder.TheVariants.{Little, Big}
use Rattle.uart_spec.specs.declared.layout.RegisterWidth.{RegisterWidth}
use Rattle.uart_spec.specs.declared.layout.RegisterWidth.TheVariants.{Bits8, Bits16, Bits32}
use Rattle.uart_spec.specs.Layout.{bytes_of}
use Rattle.uart_discovery.specs.declared.errors.OptionError.{OptionError}
use Rattle.uart_discovery.specs.declared.errors.OptionError.TheVariants as wrong
use Rattle.uart_discovery.specs.declared.port.AddressSpace.{AddressSpace}
use Rattle.uart_discovery.specs.declared.port.AddressSpace.TheVariants.{Memory, Ports}
use Rattle.uart_discovery.specs.declared.port.Interrupt.TheVariants.{Isa}
use Rattle.uart_discovery.specs.declared.port.PortDescription.{PortDescription}
use Rattle.uart_discovery.specs.declared.command_line.LineOptions.{LineOptions}
use Rattle.uart_discovery.specs.declared.command_line.Placement.{Placement}
use Rattle.uart_discovery.specs.declared.command_line.StandardPort.{StandardPort}
use Rattle.uart_discovery.specs.Numbers.{hexadecimal_of, decimal_of}

-- what follows a value, or what is wrong before it
infixl 10 ◌>>=◌
abbrev pub ◌>>=◌ : {A B E : Type 0} → Result A E → (A → Result B E) → Result B E
(Ok x) >>= f = f x
(Err e) >>= f = Err e

-- the parts of an option, which commas separate
abbrev pub parts : List ℕ → List (List ℕ)
parts text = slice_split (λ b. b == 44) text

-- the part with this index: one that is not there is empty
abbrev pub part : List ℕ → ℕ → List ℕ
part text index = slice_index_or (parts text) index []

-- how many parts there are
abbrev pub part_count : List ℕ → ℕ
part_count text = length (parts text)

-- the value in the row of a word in a table, if it has one
abbrev pub row_of : {A : Type 0} → List (List ℕ × A) → List ℕ → Option A
row_of [] word = None
row_of (row ∷ rows) word = if bytes_eq word row.0 then Some row.1 else row_of rows word

-- the same, or what is wrong if it has no row
abbrev pub among : {A : Type 0} → OptionError → List (List ℕ × A) → List ℕ → Result A OptionError
among error [] word = Err error
among error (row ∷ rows) word = if bytes_eq word row.0 then Ok row.1 else among error rows word

-- registers as far apart as an access is wide
abbrev pub placed : AddressSpace → RegisterWidth → ByteOrder → Placement
placed space width order =
    record { space = space; layout = record { stride = bytes_of width; width = width; byte_order = order } }

-- the kinds of access, of which the last has the byte order of the processor
unfoldable pub access_of : ByteOrder → List ℕ → Result Placement OptionError
access_of native word = among wrong.Access (
    (codes "io", placed Ports Bits8 Little) ∷ (codes "mmio", placed Memory Bits8 Little)
    ∷ (codes "mmio16", placed Memory Bits16 Little) ∷ (codes "mmio32", placed Memory Bits32 Little)
    ∷ (codes "mmio32be", placed Memory Bits32 Big) ∷ (codes "mmio32native", placed Memory Bits32 native) ∷ []) word

-- whether eight registers from this address on go beyond the last I/O port
abbrev pub is_beyond : AddressSpace → ℕ → Bool
is_beyond Ports base = nat_lt 65528 base
is_beyond Memory base = false

-- a number that is not 0, if there is one
abbrev pub positive_in : OptionError → Option ℕ → Result ℕ OptionError
positive_in error None = Err error
positive_in error (Some n) = if n == 0 then Err error else Ok n

-- a decimal number that is not 0
abbrev pub positive : List ℕ → OptionError → Result ℕ OptionError
positive word error = positive_in error (decimal_of word)

-- whether a word is written as an address is
abbrev pub has_address : List ℕ → Bool
has_address word = bytes_eq (take 2 word) (codes "0x")

-- an address: `0x` and hexadecimal digits
unfoldable pub base_of : AddressSpace → List ℕ → Result ℕ OptionError
base_of space word =
    if has_address word
    then (do
      base ← positive_in wrong.Address (hexadecimal_of (drop 2 word))
      if is_beyond space base then Err wrong.BeyondPorts else Ok base)
    else Err wrong.Address

-- with how many decimal digits a word begins
abbrev pub digit_count : List ℕ → ℕ
digit_count word = position_or_len (λ byte. not (is_ascii_digit byte)) word

-- the parities, `n`, `o` and `e`
abbrev pub parity_of : ℕ → Result Parity OptionError
parity_of letter =
    if letter == 110 then Ok Disabled
    else if letter == 111 then Ok Odd
    else if letter == 101 then Ok Even
    else Err wrong.Frame

-- the numbers of data bits, `5` to `8`
abbrev pub data_bits_of : ℕ → Result WordLength OptionError
data_bits_of digit =
    if digit == 53 then Ok FiveBits
    else if digit == 54 then Ok SixBits
    else if digit == 55 then Ok SevenBits
    else if digit == 56 then Ok EightBits
    else Err wrong.Frame

-- a rate with a frame, and whether there is flow control
abbrev pub framed : ℕ → (letter digit : ℕ) → Bool → Result LineOptions OptionError
framed rate letter digit has_flow_control = do
  parity ← parity_of letter
  data_bits ← data_bits_of digit
  Ok (record {
    baud_rate = Some rate;
    frame = Some (record { data_bits = data_bits; parity = parity });
    has_flow_control = has_flow_control;
  })

-- a rate with what stands behind it: nothing; a parity, where `8` is the number of data bits; both; or both and `r`
abbrev pub options_with : ℕ → List ℕ → Result LineOptions OptionError
options_with rate [] = Ok (record { baud_rate = Some rate; frame = None; has_flow_control = false })
options_with rate (letter ∷ []) = framed rate letter 56 false
options_with rate (letter ∷ digit ∷ []) = framed rate letter digit false
options_with rate (letter ∷ digit ∷ flow ∷ []) =
    if flow == 114 then framed rate letter digit true else Err wrong.Frame
options_with rate (letter ∷ digit ∷ flow ∷ more ∷ rest) = Err wrong.Frame

-- the options, if they are there
unfoldable pub options_of : List ℕ → Result LineOptions OptionError
options_of word =
    if length word == 0 then Ok (record { baud_rate = None; frame = None; has_flow_control = false })
    else (do
      rate ← positive (take (digit_count word) word) wrong.BaudRate
      options_with rate (drop (digit_count word) word))

-- the frequency of a clock, if it is there
unfoldable pub clock_of : List ℕ → Result (Option ℕ) OptionError
clock_of word =
    if length word == 0 then Ok None
    else (do
      clock ← positive word wrong.Clock
      Ok (Some clock))

-- the names of a port of any kind
unfoldable pub name_of : List ℕ → Result (Unit {0}) OptionError
name_of word = among wrong.Name (
    (codes "uart8250", tt) ∷ (codes "uart", tt) ∷ (codes "ns16550a", tt) ∷ (codes "ns16550", tt) ∷ []) word

-- no more parts than so many
abbrev pub at_most : ℕ → List ℕ → Result (Unit {0}) OptionError
at_most most text = if nat_lt most (part_count text) then Err wrong.TooMany else Ok tt

-- the port whose registers lie so, by its address, its options and its clock
unfoldable pub port_of : Placement → (address options clock : List ℕ) → Result PortDescription OptionError
port_of placement address options clock = do
  base ← base_of placement.space address
  said ← options_of options
  frequency ← clock_of clock
  Ok (record {
    space = placement.space;
    base = base;
    layout = placement.layout;
    clock = frequency;
    baud_rate = said.baud_rate;
    frame = said.frame;
    has_flow_control = said.has_flow_control;
    interrupt = None;
  })

-- a value of a text with no more parts than so many
abbrev pub within : {A : Type 0} → ℕ → List ℕ → A → Result A OptionError
within most text value = do
  done ← at_most most text
  Ok value

-- the port behind the name, where `mmio` stands for no kind of access
abbrev pub behind_name : ByteOrder → List ℕ → Result PortDescription OptionError
behind_name native text =
    if has_address (part text 1)
    then (do
      port ← port_of (placed Memory Bits8 Little) (part text 1) (part text 2) (part text 3)
      within 4 text port)
    else (do
      placement ← access_of native (part text 1)
      port ← port_of placement (part text 2) (part text 3) (part text 4)
      within 5 text port)

-- the port that the value of `earlycon=` says, or the first part that is wrong
unfoldable pub earlycon_of : ByteOrder → List ℕ → Result PortDescription OptionError
earlycon_of native text = do
  named ← name_of (part text 0)
  behind_name native text

-- the ports of a PC
unfoldable pub standard_port : List ℕ → Option StandardPort
standard_port name = row_of (
    (codes "ttyS0", record { base = 0x3f8; line = 4 }) ∷ (codes "ttyS1", record { base = 0x2f8; line = 3 })
    ∷ (codes "ttyS2", record { base = 0x3e8; line = 4 }) ∷ (codes "ttyS3", record { base = 0x2e8; line = 3 })
    ∷ []) name

-- a port of a PC with its options, or what `earlycon=` would say if the name is none of those
abbrev pub console_at : Option StandardPort → ByteOrder → List ℕ → Result PortDescription OptionError
console_at None native text = earlycon_of native text
console_at (Some port) native text = do
  said ← options_of (part text 1)
  within 2 text (record {
    space = Ports;
    base = port.base;
    layout = (placed Ports Bits8 Little).layout;
    clock = Some 1843200;
    baud_rate = said.baud_rate;
    frame = said.frame;
    has_flow_control = said.has_flow_control;
    interrupt = Some (Isa port.line);
  })

-- the port that the value of `console=` says, or the first part that is wrong
unfoldable pub console_of : ByteOrder → List ℕ → Result PortDescription OptionError
console_of native text = console_at (standard_port (part text 0)) native text
