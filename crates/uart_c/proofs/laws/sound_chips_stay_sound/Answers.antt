use Rattle.uart_c.proofs.Stays.{made, stay}
use Rattle.uart_c.proofs.laws.sound_chips_stay_sound.Goals as goal

pub returns-clause-made : goal.returns-clause-made
returns-clause-made c = made

pub returns-clause-stay : goal.returns-clause-stay
returns-clause-stay c = stay
