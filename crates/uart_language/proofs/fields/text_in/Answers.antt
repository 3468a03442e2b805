use Rattle.uart_language.proofs.Digits.{text_is, no_text}
use Rattle.uart_language.proofs.fields.text_in.Goals as goal

pub returns-in-Ok : goal.returns-in-Ok
returns-in-Ok c =
    text_is c.args.word.now c.in_ok-bytes.bytes.items c.deref.result.now c.in-Ok.text.now c.new-string.result.bytes
    c.push_str.new.self.bytes c.in_ok-bytes.ensures c.deref.ensures.0 c.in-Ok.ensures.cases c.new-string.ensures c.push_str.ensures.bytes

pub returns-in-Err : goal.returns-in-Err
returns-in-Err c =
    no_text c.args.word.now c.in_ok-bytes.bytes.items c.deref.result.now c.in_ok-bytes.ensures c.deref.ensures.0 c.in-Err.ensures.cases.0
