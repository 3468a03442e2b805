use Rattle.std.proofs.Common.{◌≡◌, ◌⊎◌, inl, inr, false, ◌∙◌, ap, sym, subst}
use Rattle.uart_chip.specs.Chip.{ChipState}
use Rattle.uart_chip.specs.Sound.{IsSoundChip}
use Rattle.uart_virtual.specs.Port.{settle, tell, todo_of, is_up}
use Rattle.uart_virtual.proofs.Times.{settle-unmoved, still-expire}
use Rattle.uart_virtual.proofs.Sends.{told_alike, todo_alike}
use Rattle.uart_virtual.proofs.port.finish_unmoved.Goals.{then-told, else-told}
use Rattle.uart_virtual.proofs.port.finish_unmoved.Goals as goal

pub decide-requires : goal.decide-requires
decide-requires g c =
    (assumption c, rw c.expire_timeout.ensures (still-expire c.args.chip.now c.requires.paced c.requires.unmoved).paced)

pub returns-clause-after : goal.returns-clause-after
returns-clause-after g c =
    c.expire_timeout.ensures ∙
    sym (settle-unmoved c.args.chip.now (subst IsSoundChip c.expire_timeout.ensures c.decide.ensures.live.whole.sound.chip)
    c.requires.paced c.requires.unmoved)

pub returns-clause-still : goal.returns-clause-still
returns-clause-still g c = rw c.expire_timeout.ensures (still-expire c.args.chip.now c.requires.paced c.requires.unmoved)

pub returns-clause-told : goal.returns-clause-told
returns-clause-told g c =
    let old : ChipState = c.args.chip.now in
    let alike : (c.args.told.now.line ≡ false) ⊎ (c.if-told.was_up ≡ is_up old) = elim c.if-told.branch [
      | then-told w ↦ inr (w.was_up-is ∙ w.is_interrupting-was_up.ensures.pending)
      | else-told w ↦ inl w.if-told.false
    ] in
    c.decide.ensures.told ∙
    (ap (λ (x : ChipState). tell c.args.kind c.if-told.was_up x c.args.told.now) (returns-clause-after g c) ∙
    told_alike c.args.kind c.if-told.was_up (is_up old) (settle old) c.args.told.now alike)

pub returns-clause-todo : goal.returns-clause-todo
returns-clause-todo g c =
    let old : ChipState = c.args.chip.now in
    let alike : (c.args.told.now.line ≡ false) ⊎ (c.if-told.was_up ≡ is_up old) = elim c.if-told.branch [
      | then-told w ↦ inr (w.was_up-is ∙ w.is_interrupting-was_up.ensures.pending)
      | else-told w ↦ inl w.if-told.false
    ] in
    c.decide.ensures.todo ∙
    (ap (λ (x : ChipState). todo_of c.args.kind c.if-told.was_up x c.args.told.now) (returns-clause-after g c) ∙
    todo_alike c.args.kind c.if-told.was_up (is_up old) (settle old) c.args.told.now alike)
