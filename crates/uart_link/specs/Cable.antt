-- A null-modem cable between two chips: which characters are on it, which lines it joins, and the schedule that it
-- makes of the moments at one end.
use Rattle.std.specs.Prelude.{ℕ, ◌-◌, Bool, true, false, ◌&&◌, ◌==◌, nat_lt, bit_and, List, [], ◌∷◌, ◌++◌, take, drop}
use Rattle.std.specs.Prelude.{length, replicate, bit_or, if◌then◌else◌}
use Rattle.uart_events.specs.declared.event.Event.{Event}
use Rattle.uart_events.specs.declared.event.Event.TheVariants as event
use Rattle.uart_spec.specs.Bits.{has_any, flag}
use Rattle.uart_spec.specs.declared.registers.modem_control.TheConstants.MCR
use Rattle.uart_spec.specs.declared.registers.modem_status.TheConstants.MSR
use Rattle.uart_chip.specs.Chip.{ChipState, is_loopback, rts_output}
use Rattle.uart_chip.specs.Machine.{MachineState, arrivals, before_mark}
use Rattle.uart_link.specs.declared.call.Moment.{Moment}
use Rattle.uart_link.specs.declared.call.Moment.TheVariants as moment

-- ---- what the cable joins

-- the bytes that have left one chip and have not arrived at the other
abbrev pub on_cable : (sender receiver : ChipState) → List ℕ
on_cable sender receiver = drop receiver.receiver.arrived sender.transmitter.wire

-- the modem lines at one end by the outputs of the other: RTS is CTS, and DTR is DSR and CD
abbrev pub lines_joined : (rts dtr : Bool) → ℕ
lines_joined rts dtr =
    let cts = flag rts MSR.CTS.0 in
    let dsr = flag dtr MSR.DSR.0 in
    let cd = flag dtr MSR.CD.0 in
    bit_or cts (bit_or dsr cd)

-- those of this chip: RTS as the chip gives it, which automatic flow control may turn off, and DTR of MCR; in loopback
-- a chip turns its outputs off
abbrev pub lines_from : ChipState → ℕ
lines_from c = if is_loopback c.latches then 0 else lines_joined (rts_output c) (has_any c.latches.mcr MCR.DTR.0)

-- ---- what the cable makes of the moments at an end

-- the events at an end, if these bytes are on the cable to it, and these are the lines that the other end gives: each
-- character that arrives is the next one on the cable, without an error
abbrev pub events_of : List Moment → (cable : List ℕ) → (lines : ℕ) → List Event
events_of [] cable lines = []
events_of (moment.Ticks n ∷ moments) cable lines = event.Ticks n ∷ events_of moments cable lines
events_of (moment.Arrives ∷ moments) [] lines = events_of moments [] lines
events_of (moment.Arrives ∷ moments) (byte ∷ cable) lines = event.Arrive byte 0 ∷ events_of moments cable lines
events_of (moment.Lines ∷ moments) cable lines = event.Lines lines ∷ events_of moments cable lines
events_of (moment.Access ∷ moments) cable lines = event.Access ∷ events_of moments cable lines

-- what nobody knows yet of a schedule: so many characters that may still come. A Mark is before them, so no access goes
-- there
abbrev pub unknown : ℕ → List Event
unknown count = event.Mark ∷ replicate count (event.Arrive 0 0)

-- how many characters may still arrive at a chip
abbrev pub to_come : ChipState → ℕ
to_come c = length c.receiver.marks - c.receiver.arrived

-- a chip with these events ahead, and behind them what nobody knows yet
abbrev pub with_ahead : List Event → ChipState → MachineState
with_ahead events c = record { chip = c; ahead = events ++ unknown (to_come c - arrivals events) }

-- a machine after all that is known of its schedule has happened
abbrev pub settled : MachineState → MachineState
settled m = with_ahead [] (before_mark m.ahead m.chip)

-- a machine before a call: what its last call left of its moments has happened, and these moments lie ahead, with the
-- characters and the lines that come from the other chip
abbrev pub arranged : List Moment → (there : ChipState) → MachineState → MachineState
arranged moments there m =
    let c = (settled m).chip in
    with_ahead (events_of moments (take (to_come c) (on_cable there c)) (lines_from there)) c

-- ---- what happens at once

-- this event may happen at a cable, if so many characters may still come: one that arrives has no errors, and lines
-- are lines
abbrev pub may_happen : Event → (count : ℕ) → Bool
may_happen (event.Arrive byte errors) count = (errors == 0) && nat_lt 0 count
may_happen (event.Lines inputs) count = bit_and inputs MSR.LINES.0 == inputs
may_happen event.Mark count = false
may_happen _ count = true

-- a machine after all that is known of its schedule has happened, with this event ahead
abbrev pub expecting : Event → MachineState → MachineState
expecting next m = with_ahead (next ∷ []) (settled m).chip

-- a machine after this event has happened too. An Access is where the next register access takes place, so it lies
-- ahead
abbrev pub performed : Event → MachineState → MachineState
performed event.Access m = expecting event.Access m
performed next m = settled (expecting next m)
