use Rattle.uart_chip.proofs.PortLaws.{loses_nothing_silently}
use Rattle.uart_chip.proofs.laws.ports_lose_nothing_silently.Goals as goal

pub returns : goal.returns
returns c = loses_nothing_silently
