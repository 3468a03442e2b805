use Rattle.std.proofs.Common.{◌≡◌, ◌∙◌, ℕ, List, ◌++◌, sym, ap, arith, take, min, length}
use Rattle.std.specs.Prelude.{option_to_list}
use Rattle.uart_spec.specs.declared.access.Access.{Access}
use Rattle.uart_16550.specs.Transmit.{data_writes}
use Rattle.uart_16550.proofs.Gathering.{gathered, gathered_size, writes_append}
use Rattle.uart_16550.proofs.Languages.{some_limit}
use Rattle.uart_16550.proofs.Making.{made_only, made_among}
use Rattle.uart_16550.proofs.driver.Uart16550.write_gathered.Goals as goal

pub returns-clause-made : goal.returns-clause-made
returns-clause-made g c =
    let u = c.write_urgent-urgents in
    let f = c.write_up_to-firsts in
    let s = c.write_up_to-seconds in
    let urgent = option_to_list c.args.urgent in
    let one = take f.result c.args.first.now in
    let two = take s.result c.args.second.now in
    let some = some_limit c.args.self.now.fifo_enabled c.args.self.now.fifo_size in
    let bytes = gathered c.args.urgent c.args.first.now c.args.second.now c.burst_limit-limit.result u.result f.result s.result
    u.ensures.count (omega (arith, u.ensures.few, c.burst_limit-limit.ensures, some)) f.ensures.count s.ensures.count in
    let writes : data_writes urgent ++ (data_writes one ++ data_writes two) ≡ data_writes (urgent ++ (one ++ two)) =
    ap (λ (l : List Access). data_writes urgent ++ l) (sym (writes_append one two)) ∙ sym (writes_append urgent (one ++ two)) in
    made_among (λ l t. record { is = t.is ∙ (writes ∙ ap data_writes bytes) })
    (made_only _ _ u.ensures.made (made_only _ _ f.ensures.made s.ensures.made))

pub returns-clause-count : goal.returns-clause-count
returns-clause-count g c =
    let u = c.write_urgent-urgents in
    let f = c.write_up_to-firsts in
    let s = c.write_up_to-seconds in
    let limit = c.burst_limit-limit in
    let some = some_limit c.args.self.now.fifo_enabled c.args.self.now.fifo_size in
    gathered_size c.args.urgent c.args.first.now c.args.second.now limit.result u.result f.result s.result u.ensures.count
    (omega (arith, u.ensures.few, limit.ensures, some)) f.ensures.count s.ensures.count ∙
    ap (λ (n : ℕ). min (length (option_to_list c.args.urgent ++ (c.args.first.now ++ c.args.second.now))) n) limit.ensures
