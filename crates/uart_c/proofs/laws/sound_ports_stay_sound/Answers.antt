use Rattle.uart_c.proofs.Ports.{made, restored, stay}
use Rattle.uart_c.proofs.laws.sound_ports_stay_sound.Goals as goal

pub returns-clause-made : goal.returns-clause-made
returns-clause-made c = made

pub returns-clause-restored : goal.returns-clause-restored
returns-clause-restored c = restored

pub returns-clause-stay : goal.returns-clause-stay
returns-clause-stay c = stay
