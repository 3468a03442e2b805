use Rattle.uart_language.proofs.Digits.{pairs_on, are_read}
use Rattle.uart_language.proofs.fields.pairs_of.Goals as goal

pub loop-rest-preserved : goal.loop-rest-preserved
loop-rest-preserved c =
    rw c.push.ensures.items (pairs_on c.args.word.now c.loop-rest.bytes.items c.loop-rest.rest.now _ _ c.in-len2-up.len_at_least
    c.digit_value.ensures.value c.digit_value-in-len2-up.ensures.value c.loop-rest.invariant)

pub returns : goal.returns
returns c = are_read c.args.word.now c.loop-rest.bytes.items c.loop-rest.rest.now c.in_default.len_below c.loop-rest.invariant
