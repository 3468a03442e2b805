use Rattle.std.proofs.Common.{◌≡◌, ◌∙◌, sym, true, false}
use Rattle.uart_c.proofs.Saved.{live_sound, sound_live}
use Rattle.uart_c.proofs.sound.is_sound.Goals as goal

pub returns-clause-sound : goal.returns-clause-sound
returns-clause-sound c e = sound_live c.args.chip.now (sym c.are_sound.ensures.value ∙ e) c.are_sound.ensures.bytes

pub returns-clause-unsound : goal.returns-clause-unsound
returns-clause-unsound c e w =
    let no : false ≡ true = sym e ∙ (c.are_sound.ensures.value ∙ live_sound c.args.chip.now w) in cc
