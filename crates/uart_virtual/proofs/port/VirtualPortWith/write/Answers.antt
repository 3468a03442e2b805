use Rattle.std.proofs.Common.{refl, ap, ◌∙◌}
use Rattle.uart_virtual.specs.Port.{PortState, PortCall, Write, after, todo, written}
use Rattle.uart_virtual.proofs.Tells.{did_call, did_tell}
use Rattle.uart_virtual.proofs.Sizes.{within_port}
use Rattle.uart_virtual.proofs.port.VirtualPortWith.write.Goals as goal

pub invariant_of-self : goal.invariant_of-self
invariant_of-self g c = record { told = c.write.ensures.holds; still = c.write.ensures.still }

pub returns-clause-after : goal.returns-clause-after
returns-clause-after g c =
    let p : PortState = record { chip = c.self.inside.chip; told = c.self.inside.told } in
    let call : PortCall = Write c.args.offset c.args.value in
    did_call call p (written c.args.offset c.args.value p.chip) c.write.new.chip c.write.new.told refl c.write.ensures.after
    c.write.ensures.told ∙ ap (λ (q : PortState). after call q) c.self.view_is

pub returns-clause-todo : goal.returns-clause-todo
returns-clause-todo g c =
    let p : PortState = record { chip = c.self.inside.chip; told = c.self.inside.told } in
    let call : PortCall = Write c.args.offset c.args.value in
    did_tell call p (written c.args.offset c.args.value p.chip) c.write.result refl c.write.ensures.todo ∙
    ap (λ (q : PortState). todo call q) c.self.view_is

-- a port takes no more memory than there can be, and its chip less than the port
pub write-requires : goal.write-requires
write-requires g c =
    (within_port _ 9223372036854775808 (assumption c), (c.requires, c.self.invariant.still))
