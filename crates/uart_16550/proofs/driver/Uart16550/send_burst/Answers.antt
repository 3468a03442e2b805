use Rattle.std.proofs.Common.{◌≡◌, ◌<◌, ◌∙◌, ℕ, Bool, length, min, inl, inr, arith, refl, ap}
use Rattle.std.proofs.lemmas.Bool.Decides.{nat_tests}
use Rattle.uart_16550.specs.Transmit.{burst_limit}
use Rattle.uart_16550.proofs.Making.{made_then, made_among, made_none}
use Rattle.uart_16550.proofs.driver.Uart16550.send_burst.Goals as goal

pub returns-then-is_empty-clause-made : goal.returns-then-is_empty-clause-made
returns-then-is_empty-clause-made g c =
    let empty : length c.args.buffer.now ≡ 0 = grind (arith, nat_tests) in
    made_among (λ l t. inl (empty, refl, t.is)) made_none

pub returns-clause-made : goal.returns-clause-made
returns-clause-made g c =
    let some : 0 < length c.args.buffer.now = grind (arith, nat_tests) in
    let fits : c.burst_limit-limit.result ≡ burst_limit c.args.self.now.fifo_enabled c.args.size =
    c.burst_limit-limit.ensures ∙ ap (λ (x : Bool). burst_limit x c.args.size) c.in-Ok.ensures.fifo in
    let size : c.write_up_to.result ≡ min (length c.args.buffer.now) (burst_limit c.args.self.now.fifo_enabled c.args.size) =
    c.write_up_to.ensures.count ∙ ap (λ (n : ℕ). min (length c.args.buffer.now) n) fits in
    made_among (λ l t. inr (inr (some, size, t))) (made_then c.in-Ok.ensures c.write_up_to.ensures.made)
