use Rattle.std.proofs.Common.{◌≡◌, ℕ, sym, subst}
use Rattle.uart_c.specs.Port.{port_of, shown}
use Rattle.uart_virtual.specs.Port.{Write, after, todo}
use Rattle.uart_c.proofs.port.uart_port_write.Goals as goal

pub returns-then-is_fast-clause-after : goal.returns-then-is_fast-clause-after
returns-then-is_fast-clause-after c =
    subst (λ (n : ℕ). port_of c.send.new.port ≡ after (Write n c.args.value) (port_of c.args.port.now))
    (sym (c.is_fast.ensures c.if-is_fast.true).0) c.send.ensures.after

pub returns-then-is_fast-clause-todo : goal.returns-then-is_fast-clause-todo
returns-then-is_fast-clause-todo c =
    subst (λ (n : ℕ). c.send.new.todo ≡ shown (todo (Write n c.args.value) (port_of c.args.port.now)))
    (sym (c.is_fast.ensures c.if-is_fast.true).0) c.send.ensures.todo
