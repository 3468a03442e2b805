use Rattle.std.proofs.Common.{rules}
use Rattle.uart_spec.specs.Bits.{IsWithin}
use Rattle.uart_spec.specs.declared.registers.modem_status.TheConstants.MSR
use Rattle.uart_live.proofs.Lives.{live-lines}
use Rattle.uart_live.proofs.Sizes.{bytes_fit, characters_fit}
use Rattle.uart_live.proofs.live.LiveChipWith.set_lines.Goals as goal

pub invariant_of-self : goal.invariant_of-self
invariant_of-self g c =
    let within : IsWithin c.bits.result MSR.LINES.0 = search rules in
    (c.self.invariant.0, rw c.change_lines.ensures (live-lines _ _ within c.self.invariant.1))

-- the queues take no more memory than there can be
pub change_lines-requires-room-B-Fifo : goal.change_lines-requires-room-B-Fifo
change_lines-requires-room-B-Fifo g c κs = bytes_fit g.row.FIFO c.self.invariant.0

pub change_lines-requires-room-C-Fifo : goal.change_lines-requires-room-C-Fifo
change_lines-requires-room-C-Fifo g c κs = characters_fit g.row.FIFO c.self.invariant.0

pub returns-clause-refused : goal.returns-clause-refused
returns-clause-refused g c = λ other.
    let within : IsWithin c.args.inputs.0 MSR.LINES.0 = search rules in absurd (other within)
