use Rattle.std.proofs.Common.{◌≡◌, length, inl, arith, refl}
use Rattle.std.proofs.lemmas.Bool.Decides.{nat_tests}
use Rattle.uart_16550.proofs.Making.{made_none, made_among}
use Rattle.uart_16550.proofs.embedded_io.Uart16550Write.write.Goals as goal

pub returns-then-is_empty-clause-writes : goal.returns-then-is_empty-clause-writes
returns-then-is_empty-clause-writes g c =
    let empty : length c.args.buf.now ≡ 0 = grind (arith, nat_tests) in
    made_among (λ l t. inl (empty, refl, t.is)) made_none
