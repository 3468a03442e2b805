use Rattle.uart_language.proofs.Readings.{all_read}
use Rattle.uart_language.proofs.parsing.check.Goals as goal

pub returns : goal.returns
returns c =
    all_read c.is_limited-limited.result c.loop-rest.number c.loop-rest.rest.now _ c.loop-rest-test.ensures c.loop-rest.invariant.0
