use Rattle.std.proofs.Common.{◌≡◌, ◌∙◌, sym, true, false}
use Rattle.uart_live.proofs.Saves.{live_of, of_live}
use Rattle.uart_live.proofs.sound.is_live.Goals as goal

pub returns-clause-sound : goal.returns-clause-sound
returns-clause-sound c e =
    live_of c.args.size c.args.saved.now c.args.wire.now (sym c.are_sound.ensures.value ∙ e) c.are_sound.ensures.bytes

pub returns-clause-unsound : goal.returns-clause-unsound
returns-clause-unsound c e w =
    let no : false ≡ true = sym e ∙ (c.are_sound.ensures.value ∙ of_live c.args.size c.args.saved.now c.args.wire.now w) in cc
