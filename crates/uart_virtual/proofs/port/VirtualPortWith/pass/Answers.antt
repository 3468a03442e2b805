use Rattle.std.proofs.Common.{◌≡◌, ◌∙◌, ◌||◌, ap, sym, subst, true, false, refl, Bool}
use Rattle.uart_spec.specs.declared.registers.offsets.TheConstants as offsets
use Rattle.uart_chip.specs.Chip.{ChipState}
use Rattle.uart_live.specs.Quick.{passed}
use Rattle.uart_virtual.specs.declared.told.Kind.{Kind}
use Rattle.uart_virtual.specs.declared.told.Seen.{Seen}
use Rattle.uart_virtual.specs.Port.{PortState, IsPort, Write, TakeOutput, after, todo, nothing_new, passes, tell, todo_of}
use Rattle.uart_virtual.specs.Port.{rest_of, told_after, todo_after}
use Rattle.uart_virtual.proofs.Passes.{sending, passing_parts, seen_passed, passed_port, is_passed, taken_after, same_some}
use Rattle.uart_virtual.proofs.Passes.{told_passed, todo_passed, pass_todo, pass_taken}
use Rattle.uart_virtual.proofs.Sizes.{within_port}
use Rattle.uart_virtual.proofs.Writes.{kept_up, level_is, others}
use Rattle.uart_virtual.proofs.port.VirtualPortWith.pass.Goals as goal

pub invariant_of-self : goal.invariant_of-self
invariant_of-self g c =
    let p : PortState = record { chip = c.self.inside.chip; told = c.self.inside.told } in
    let e : passes p ≡ true =
    ap (λ (q : PortState). passes q) c.self.view_is ∙ (sym c.passes.ensures ∙ c.if-not-passes.false) in
    let chip : c.pass_wire-passed.new.self ≡ passed p.chip =
    c.pass_wire-passed.ensures.passed (c.pass_wire-passed.ensures.sends ∙ (passing_parts p e).sends) in
    let shown : Seen = record {
      level = c.is_kept_up-was_up.result || c.has_output_interrupt_on-is_on.result;
      has_room = c.self.inside.told.has_room;
      is_empty = false;
      rest = c.rest_of.result;
      ready = 0;
    } in
    let was_up : c.is_kept_up-was_up.result ≡ others p.chip =
    kept_up p.chip p.told c.is_kept_up-was_up.result c.self.invariant.still c.self.invariant.told c.is_kept_up-was_up.ensures.up
    c.is_kept_up-was_up.ensures.down in
    let seen =
    seen_passed p.chip p.told shown (passing_parts p e).none
    (level_is p.chip _ _ was_up c.has_output_interrupt_on-is_on.ensures.on c.self.invariant.still) refl refl
    (c.rest_of.ensures ∙ ap (λ (x : ChipState). rest_of x) chip) refl in
    let told : c.tell.new.told ≡ tell sending (others p.chip) (passed p.chip) p.told =
    c.tell.ensures.told ∙
    (ap (λ (kind : Kind). told_after kind c.is_kept_up-was_up.result shown p.told) c.kind_of_write-kind.ensures ∙
    (ap (λ (up : Bool). told_after sending up shown p.told) was_up ∙
    (ap (λ (s : Seen). told_after sending (others p.chip) s p.told) seen ∙ told_passed p.chip p.told c.self.invariant.told))) in
    subst (λ (q : PortState). IsPort q) (sym (is_passed p c.pass_wire-passed.new.self c.tell.new.told chip told))
    (passed_port p c.self.invariant)

pub returns-clause-after : goal.returns-clause-after
returns-clause-after g c = λ value _.
    let p : PortState = record { chip = c.self.inside.chip; told = c.self.inside.told } in
    let e : passes p ≡ true =
    ap (λ (q : PortState). passes q) c.self.view_is ∙ (sym c.passes.ensures ∙ c.if-not-passes.false) in
    let chip : c.pass_wire-passed.new.self ≡ passed p.chip =
    c.pass_wire-passed.ensures.passed (c.pass_wire-passed.ensures.sends ∙ (passing_parts p e).sends) in
    let shown : Seen = record {
      level = c.is_kept_up-was_up.result || c.has_output_interrupt_on-is_on.result;
      has_room = c.self.inside.told.has_room;
      is_empty = false;
      rest = c.rest_of.result;
      ready = 0;
    } in
    let was_up : c.is_kept_up-was_up.result ≡ others p.chip =
    kept_up p.chip p.told c.is_kept_up-was_up.result c.self.invariant.still c.self.invariant.told c.is_kept_up-was_up.ensures.up
    c.is_kept_up-was_up.ensures.down in
    let seen =
    seen_passed p.chip p.told shown (passing_parts p e).none
    (level_is p.chip _ _ was_up c.has_output_interrupt_on-is_on.ensures.on c.self.invariant.still) refl refl
    (c.rest_of.ensures ∙ ap (λ (x : ChipState). rest_of x) chip) refl in
    let told : c.tell.new.told ≡ tell sending (others p.chip) (passed p.chip) p.told =
    c.tell.ensures.told ∙
    (ap (λ (kind : Kind). told_after kind c.is_kept_up-was_up.result shown p.told) c.kind_of_write-kind.ensures ∙
    (ap (λ (up : Bool). told_after sending up shown p.told) was_up ∙
    (ap (λ (s : Seen). told_after sending (others p.chip) s p.told) seen ∙ told_passed p.chip p.told c.self.invariant.told))) in
    is_passed p c.pass_wire-passed.new.self c.tell.new.told chip told ∙
    (sym (taken_after value p c.pass_wire-passed.ensures.live c.self.invariant e) ∙
    ap (λ (q : PortState). after (TakeOutput 1) (after (Write offsets.DATA value) q)) c.self.view_is)

pub returns-clause-todo : goal.returns-clause-todo
returns-clause-todo g c = λ value it same.
    let p : PortState = record { chip = c.self.inside.chip; told = c.self.inside.told } in
    let e : passes p ≡ true =
    ap (λ (q : PortState). passes q) c.self.view_is ∙ (sym c.passes.ensures ∙ c.if-not-passes.false) in
    let chip : c.pass_wire-passed.new.self ≡ passed p.chip =
    c.pass_wire-passed.ensures.passed (c.pass_wire-passed.ensures.sends ∙ (passing_parts p e).sends) in
    let shown : Seen = record {
      level = c.is_kept_up-was_up.result || c.has_output_interrupt_on-is_on.result;
      has_room = c.self.inside.told.has_room;
      is_empty = false;
      rest = c.rest_of.result;
      ready = 0;
    } in
    let was_up : c.is_kept_up-was_up.result ≡ others p.chip =
    kept_up p.chip p.told c.is_kept_up-was_up.result c.self.invariant.still c.self.invariant.told c.is_kept_up-was_up.ensures.up
    c.is_kept_up-was_up.ensures.down in
    let seen =
    seen_passed p.chip p.told shown (passing_parts p e).none
    (level_is p.chip _ _ was_up c.has_output_interrupt_on-is_on.ensures.on c.self.invariant.still) refl refl
    (c.rest_of.ensures ∙ ap (λ (x : ChipState). rest_of x) chip) refl in
    let result : c.tell.result ≡ todo_of sending (others p.chip) (passed p.chip) p.told =
    c.tell.ensures.todo ∙
    (ap (λ (kind : Kind). todo_after kind c.is_kept_up-was_up.result shown p.told) c.kind_of_write-kind.ensures ∙
    (ap (λ (up : Bool). todo_after sending up shown p.told) was_up ∙
    (ap (λ (s : Seen). todo_after sending (others p.chip) s p.told) seen ∙ todo_passed p.chip p.told c.self.invariant.told))) in
    sym (same_some c.tell.result it same) ∙
    (pass_todo value p c.tell.result c.pass_wire-passed.ensures.live c.self.invariant e result ∙
    ap (λ (q : PortState). record (todo (Write offsets.DATA value) q) { ready = 0 }) c.self.view_is)

pub returns-clause-taken : goal.returns-clause-taken
returns-clause-taken g c = λ value _.
    let p : PortState = record { chip = c.self.inside.chip; told = c.self.inside.told } in
    let e : passes p ≡ true =
    ap (λ (q : PortState). passes q) c.self.view_is ∙ (sym c.passes.ensures ∙ c.if-not-passes.false) in
    subst (λ (q : PortState). todo (TakeOutput 1) (after (Write offsets.DATA value) q) ≡
    nothing_new (after (TakeOutput 1) (after (Write offsets.DATA value) q))) c.self.view_is
    (pass_taken value p c.pass_wire-passed.ensures.live c.self.invariant e)

-- a port takes no more memory than there can be, and its chip less than the port
pub pass_wire-passed-requires : goal.pass_wire-passed-requires
pass_wire-passed-requires g c = within_port _ 9223372036854775808 (assumption c)

pub is_kept_up-was_up-requires : goal.is_kept_up-was_up-requires
is_kept_up-was_up-requires g c = within_port _ 9223372036854775808 (assumption c)

pub has_output_interrupt_on-is_on-requires : goal.has_output_interrupt_on-is_on-requires
has_output_interrupt_on-is_on-requires g c = within_port _ 9223372036854775808 (assumption c)

pub rest_of-requires : goal.rest_of-requires
rest_of-requires g c = within_port _ 9223372036854775808 (assumption c)
