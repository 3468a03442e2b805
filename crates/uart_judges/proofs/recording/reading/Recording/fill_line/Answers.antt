use Rattle.std.proofs.Common.{◌≡◌, ◌∙◌, ◌<◌, ℕ, List, length, None, Some, ap, sym, subst, arith}
use Rattle.std.proofs.lemmas.Bool.{eqb-false, eqb-true}
use Rattle.std.specs.List.{position}
use Rattle.uart_language.proofs.Lines.{is_end}
use Rattle.uart_judges.specs.Streams.{IsFilled}
use Rattle.uart_judges.specs.Windows.{items, room}
use Rattle.uart_judges.specs.declared.recording.window.TheConstants.{WINDOW_BYTES}
use Rattle.uart_judges.proofs.Filled.{filled_found, filled_full, filled_rest}
use Rattle.uart_judges.proofs.recording.reading.Recording.fill_line.Goals as goal

pub returns-in-Some-clause-filled : goal.returns-in-Some-clause-filled
returns-in-Some-clause-filled g c =
    filled_found c.in-Some.length (items c.fills.self.window) (g.R.Read.remaining c.fills.self.reader)
    (sym c.in-Some.is ∙ c.line_length.ensures ∙ ap (position is_end) c.as_slice.ensures.value)

pub returns-then-is_full-clause-filled : goal.returns-then-is_full-clause-filled
returns-then-is_full-clause-filled g c =
    let none : None ≡ position is_end (items c.move_to_front.new.self) =
    c.in_default.ensures ∙ ap (position is_end) (c.as_slice.ensures.value ∙ sym c.move_to_front.ensures.items) in
    filled_full (items c.move_to_front.new.self) (g.R.Read.remaining c.fills.self.reader) none
    (eqb-true (length (items c.move_to_front.new.self)) WINDOW_BYTES (sym c.is_full.ensures ∙ c.if-is_full.true))

pub returns-in_default-len-clause-filled : goal.returns-in_default-len-clause-filled
returns-in_default-len-clause-filled g c =
    let left = g.R.Read.remaining c.read_from.new.reader in
    let now : List ℕ = c.as_slice-in-Ok-eq0.result.now in
    let other = eqb-false (length (items c.move_to_front.new.self)) WINDOW_BYTES (sym c.is_full.ensures ∙ c.if-is_full.false) in
    let space : 0 < room c.move_to_front.new.self = omega arith in
    let end = (rw c.in-Ok-eq0.is at c.read_from.ensures.end) c.in-Ok-eq0.field-0-test space in
    let none : None ≡ position is_end (items c.read_from.new.self) =
    c.in_default.ensures ∙ ap (position is_end) (c.as_slice.ensures.value ∙ sym c.move_to_front.ensures.items ∙ sym end.0) in
    let some : 0 < length (items c.read_from.new.self) = omega (arith, ap length c.as_slice-in-Ok-eq0.ensures.value) in
    subst (λ (l : List ℕ). IsFilled (Some (length l)) (items c.read_from.new.self) left) (sym c.as_slice-in-Ok-eq0.ensures.value)
    (filled_rest (items c.read_from.new.self) left none some end.1)
