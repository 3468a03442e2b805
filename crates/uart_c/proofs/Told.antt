-- What is written for what the monitor was told, is that.
use Rattle.std.proofs.Common.{◌≡◌, Bool, true, false, refl, ap, ◌∙◌}
use Rattle.uart_c.specs.Port.{kept, told_of}
use Rattle.uart_c.specs.Queue.{is_on}
use Rattle.uart_spec.specs.Bits.{flag}
use Rattle.uart_virtual.specs.declared.told.Told.{Told}

on_flag : (b : Bool) → is_on (flag b 1) ≡ b
on_flag true = refl
on_flag false = refl

pub told_kept : (t : Told) → told_of (kept t) ≡ t
told_kept t =
    ap (λ (b : Bool). record (told_of (kept t)) { line = b }) (on_flag t.line) ∙
    (ap (λ (b : Bool). record (told_of (kept t)) { line = t.line; has_room = b }) (on_flag t.has_room) ∙
    ap (λ (b : Bool). record (told_of (kept t)) { line = t.line; has_room = t.has_room; has_looked = b }) (on_flag t.has_looked))
