use Rattle.std.proofs.Common.{length}
use Rattle.uart_language.proofs.Digits.{PairsRead}
use Rattle.uart_language.proofs.fields.pairs_of.Given as goal

abbrev pub invariant-loop-rest : goal.invariant-loop-rest
invariant-loop-rest l = PairsRead l.word l.bytes.items l.rest

abbrev pub decreases-loop-rest : goal.decreases-loop-rest
decreases-loop-rest l = length l.rest
