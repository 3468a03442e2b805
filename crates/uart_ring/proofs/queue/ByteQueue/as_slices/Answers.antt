use Rattle.std.proofs.Common.{◌∙◌, arith}
use Rattle.std.proofs.lemmas.List.{take_all}
use Rattle.uart_ring.proofs.queue.ByteQueue.as_slices.Goals as goal

pub returns : goal.returns
returns c = c.front_slices.ensures ∙ take_all _ _ (omega (arith, c.len.ensures.len))
