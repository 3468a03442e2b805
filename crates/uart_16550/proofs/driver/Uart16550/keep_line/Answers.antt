use Rattle.std.proofs.Common.{◌≡◌, ◌≢◌, refl, arith}
use Rattle.std.proofs.lemmas.Grind.{common_steps}
use Rattle.uart_spec.specs.declared.registers.offsets.TheConstants as offsets
use Rattle.uart_16550.proofs.Loopbacks.{made_value}
use Rattle.uart_16550.proofs.Making.{made_then, made_among}
use Rattle.uart_16550.proofs.driver.Uart16550.keep_line.Goals as goal

pub returns-then-ne : goal.returns-then-ne
returns-then-ne g c =
    let other : c.lcr-shown.result.0 ≢ c.args.expected.0 = grind (arith, common_steps, c.ne.ensures, c.if-ne.ensures) in
    made_then (made_value offsets.LCR _ c.args.expected.0 (c.bits.ensures tt) c.write_register.ensures)
    (made_among (λ l t. (_, other, refl, t.is)) c.lcr-shown.ensures)

pub returns : goal.returns
returns g c =
    let same : c.lcr-shown.result.0 ≡ c.args.expected.0 = grind (arith, common_steps, c.ne.ensures, c.if-ne.ensures) in
    made_then (made_value offsets.LCR _ c.args.expected.0 (c.bits.ensures tt) c.write_register.ensures)
    (made_among (λ l t. (_, same, t.is)) c.lcr-shown.ensures)
