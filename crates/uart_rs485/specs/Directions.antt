-- The direction of a transceiver: which output of the chip switches it, and what accesses do to it.
use Rattle.std.specs.Prelude.{ℕ, Bool, not, ◌&&◌, ◌==◌, List, [], ◌∷◌, if◌then◌else◌}
use Rattle.bitflags.specs.Sets.{without}
use Rattle.uart_spec.specs.Bits.{has, has_any}
use Rattle.uart_spec.specs.declared.access.Access.{Access}
use Rattle.uart_spec.specs.declared.access.Access.TheVariants.{Read, Write}
use Rattle.uart_spec.specs.declared.registers.line_status.TheConstants.LSR
use Rattle.uart_spec.specs.declared.registers.modem_control.TheConstants.MCR
use Rattle.uart_spec.specs.declared.registers.offsets.TheConstants as offsets
use Rattle.uart_16550.specs.Frame.{switched}
use Rattle.uart_rs485.specs.declared.direction.Direction.{Direction}
use Rattle.uart_rs485.specs.declared.direction.DirectionLine.{DirectionLine}
use Rattle.uart_rs485.specs.declared.direction.DirectionLine.TheVariants.{Rts, Dtr}

-- the bit of MCR of an output
abbrev pub bit_of : DirectionLine → ℕ
bit_of Rts = MCR.RTS.0
bit_of Dtr = MCR.DTR.0

-- the bit of MCR by which the chip drives an output itself: automatic flow control drives RTS, by how many characters
-- wait
abbrev pub flow_of : DirectionLine → ℕ
flow_of Rts = MCR.AUTO_FLOW.0
flow_of Dtr = 0

-- whether the bit of the output is set in a direction: to send, or to receive
abbrev pub level : Direction → (sends : Bool) → Bool
level d sends = if sends then d.sends_when_set else not d.sends_when_set

-- these outputs with the line as it is to be in a direction, and not driven by the chip itself
abbrev pub turned : Direction → (sends : Bool) → (outputs : ℕ) → ℕ
turned d sends outputs = without 8 (switched (level d sends) (bit_of d.line) outputs) (flow_of d.line)

-- whether the chip may drive the line itself while MCR has this value, so that the bit of the output alone does not
-- decide
abbrev pub drives_itself : Direction → (mcr : ℕ) → Bool
drives_itself d mcr = has_any mcr (flow_of d.line)

-- whether the transceiver sends while MCR has this value, if the chip does not drive the line itself
abbrev pub sends_by : Direction → (mcr : ℕ) → Bool
sends_by d mcr = if has mcr (bit_of d.line) then d.sends_when_set else not d.sends_when_set

-- whether the transceiver sends after an access, if it did before it or did not; and after a list of accesses. The last
-- write of MCR decides
abbrev pub sends_after_one : Direction → (sends : Bool) → Access → Bool
sends_after_one d sends (Read offset answer) = sends
sends_after_one d sends (Write offset value) = if offset == offsets.MCR then sends_by d value else sends

abbrev pub sends_after : Direction → (sends : Bool) → List Access → Bool
sends_after d sends [] = sends
sends_after d sends (access ∷ accesses) = sends_after d (sends_after_one d sends access) accesses

-- whether the transmitter is known to be empty after an access, if it was known before it or was not; and after a list
-- of accesses. A look at LSR shows whether it is empty, and a byte that is written to DATA fills it
abbrev pub empty_after_one : (empty : Bool) → Access → Bool
empty_after_one empty (Read offset answer) =
    if offset == offsets.LSR then has answer LSR.TRANSMITTER_EMPTY.0 else empty
empty_after_one empty (Write offset value) = not (offset == offsets.DATA) && empty

abbrev pub empty_after : (empty : Bool) → List Access → Bool
empty_after empty [] = empty
empty_after empty (access ∷ accesses) = empty_after (empty_after_one empty access) accesses
