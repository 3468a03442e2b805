use Rattle.uart_link.proofs.Names.{◌≡◌, ◌∙◌, true, arith, ap, common_steps, may_happen, settled, to_come}
use Rattle.uart_link.proofs.Schedules.{is_allowed, performs}
use Rattle.uart_link.proofs.device.CabledChip.perform.Goals as goal

pub expect-requires-clause-legal : goal.expect-requires-clause-legal
expect-requires-clause-legal c =
    let e : may_happen c.args.event (to_come (settled c.args.self.now).chip) ≡ true = grind (arith, common_steps) in
    (is_allowed _ _ e).legal

pub expect-requires-clause-unmarked : goal.expect-requires-clause-unmarked
expect-requires-clause-unmarked c =
    let e : may_happen c.args.event (to_come (settled c.args.self.now).chip) ≡ true = grind (arith, common_steps) in
    (is_allowed _ _ e).unmarked

pub expect-requires-clause-few : goal.expect-requires-clause-few
expect-requires-clause-few c =
    let e : may_happen c.args.event (to_come (settled c.args.self.now).chip) ≡ true = grind (arith, common_steps) in
    (is_allowed _ _ e).few

pub returns-in_default-clause-happened : goal.returns-in_default-clause-happened
returns-in_default-clause-happened c =
    λ yes. c.settle.ensures ∙ (ap settled c.expect.ensures ∙ performs c.args.event c.args.self.now c.in_default.not-Access)
