use Rattle.std.proofs.Common.{arith}
use Rattle.uart_language.specs.Text.{lines_of}
use Rattle.uart_language.specs.Script.{plan_of}
use Rattle.uart_language.specs.Reading.{sayings_after_first}
use Rattle.uart_language.proofs.Readings.{starts, all_built}
use Rattle.uart_language.proofs.parsing.build.Goals as goal

pub loop-rest-init : goal.loop-rest-init
loop-rest-init c =
    let limit = rw c.unwrap.ensures at c.new.ensures in (
      rw (c.is_limited-limited.ensures, limit, c.new-2.ensures.items, c.new-3.ensures.items)
          (starts c.args.header (sayings_after_first (lines_of c.args.bytes.now))),
      omega arith,
    )

pub returns : goal.returns
returns c =
    all_built c.is_limited-limited.result c.loop-rest.number c.loop-rest.rest.now (plan_of c.loop-rest.script) _ c.loop-rest-test.ensures
    c.loop-rest.invariant.0
