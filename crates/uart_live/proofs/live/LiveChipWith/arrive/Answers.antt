use Rattle.std.proofs.Common.{rules}
use Rattle.uart_spec.specs.Bits.{IsWithin}
use Rattle.uart_spec.specs.declared.registers.line_status.TheConstants.LSR
use Rattle.uart_live.proofs.Lives.{live-arrival}
use Rattle.uart_live.proofs.Sizes.{bytes_fit, characters_fit}
use Rattle.uart_live.proofs.live.LiveChipWith.arrive.Goals as goal

pub invariant_of-self : goal.invariant_of-self
invariant_of-self g c =
    let within : IsWithin c.bits.result LSR.CHARACTER_ERRORS.0 = search rules in
    (c.self.invariant.0, rw c.arrive_live.ensures (live-arrival c.args.byte _ _ within c.self.invariant.1))

-- the queues take no more memory than there can be
pub arrive_live-requires-room-B-Fifo : goal.arrive_live-requires-room-B-Fifo
arrive_live-requires-room-B-Fifo g c κs = bytes_fit g.row.FIFO c.self.invariant.0

pub arrive_live-requires-room-C-Fifo : goal.arrive_live-requires-room-C-Fifo
arrive_live-requires-room-C-Fifo g c κs = characters_fit g.row.FIFO c.self.invariant.0

pub returns-clause-refused : goal.returns-clause-refused
returns-clause-refused g c = λ other.
    let within : IsWithin c.args.errors.0 LSR.CHARACTER_ERRORS.0 = search rules in absurd (other within)
