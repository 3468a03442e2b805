use Rattle.std.proofs.Common.{◌++◌, take, arith}
use Rattle.uart_language.proofs.Pieces.{consumes_more, within_most}
use Rattle.uart_language.proofs.streams.read_all.Goals as goal

pub returns-then-is_err-clause-most : goal.returns-then-is_err-clause-most
returns-then-is_err-clause-most g c = (
  c.loop-chunk.text.items ++ take c.in-Ok.count c.read.new.buf,
  consumes_more _ _ _ _ _ c.loop-chunk.invariant.consumed c.in-Ok.ensures.bytes.0,
  within_most c.loop-chunk.text.items c.loop-chunk.chunk _ _ c.min-room.result _ (omega arith) (omega arith) c.read.auto.buf,
)
