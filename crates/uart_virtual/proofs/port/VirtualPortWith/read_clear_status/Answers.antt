use Rattle.std.proofs.Common.{◌≡◌, ◌∙◌, ap, sym, subst, true, is_some, Option, ℕ}
use Rattle.uart_spec.specs.declared.registers.offsets.TheConstants as offsets
use Rattle.uart_chip.specs.Chip.{ChipState}
use Rattle.uart_live.proofs.Lives.{live-read}
use Rattle.uart_live.specs.Quick.{clear_status}
use Rattle.uart_virtual.specs.Port.{PortState, Read, after, todo, nothing_new}
use Rattle.uart_virtual.proofs.Passes.{clear_after, clear_keeps, clear_todo}
use Rattle.uart_virtual.proofs.Sizes.{within_port}
use Rattle.uart_virtual.proofs.port.VirtualPortWith.read_clear_status.Goals as goal

pub invariant_of-self : goal.invariant_of-self
invariant_of-self g c =
    let p : PortState = record { chip = c.self.inside.chip; told = c.self.inside.told } in
    let value = ap (λ (it : Option ℕ). is_some it) c.read_clear_status.ensures.value in
    clear_keeps p c.read_clear_status.new.self c.self.invariant (λ e. c.read_clear_status.ensures.read (value ∙ e))
    (λ e. c.read_clear_status.ensures.left (value ∙ e))

pub returns-clause-read : goal.returns-clause-read
returns-clause-read g c = λ e.
    let p : PortState = record { chip = c.self.inside.chip; told = c.self.inside.told } in
    let clear : is_some (clear_status p.chip) ≡ true =
    sym (ap (λ (it : Option ℕ). is_some it) c.read_clear_status.ensures.value) ∙ e in
    ap (λ (x : ChipState). record { chip = x; told = p.told }) (c.read_clear_status.ensures.read e) ∙
    (clear_after p (live-read offsets.LSR p.chip c.read_clear_status.ensures.live) c.self.invariant clear ∙
    ap (λ (q : PortState). after (Read offsets.LSR) q) c.self.view_is)

pub returns-clause-todo : goal.returns-clause-todo
returns-clause-todo g c = λ e.
    let p : PortState = record { chip = c.self.inside.chip; told = c.self.inside.told } in
    let clear : is_some (clear_status p.chip) ≡ true =
    sym (ap (λ (it : Option ℕ). is_some it) c.read_clear_status.ensures.value) ∙ e in
    subst (λ (q : PortState). todo (Read offsets.LSR) q ≡ nothing_new q) c.self.view_is
    (clear_todo p (live-read offsets.LSR p.chip c.read_clear_status.ensures.live) c.self.invariant clear)

-- a port takes no more memory than there can be, and its chip less than the port
pub read_clear_status-requires : goal.read_clear_status-requires
read_clear_status-requires g c = within_port _ 9223372036854775808 (assumption c)
