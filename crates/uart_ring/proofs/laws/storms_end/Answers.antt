use Rattle.uart_ring.proofs.Storms.{tries_off, tries_still, tries_count}
use Rattle.uart_ring.proofs.laws.storms_end.Goals as goal

pub returns : goal.returns
returns c = record { off = tries_off; still = tries_still; counted = tries_count }
