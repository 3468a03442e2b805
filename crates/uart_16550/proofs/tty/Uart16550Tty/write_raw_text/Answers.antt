use Rattle.std.proofs.Common.{◌≡◌, ◌<◌, ◌+◌, ◌-◌, ◌^◌, ℕ, refl, arith, length, take, min, ap, get_or, length-append, [], ◌∷◌}
use Rattle.uart_16550.specs.Transmit.{Round}
use Rattle.uart_16550.specs.Expansion.{expansion, expansion_of}
use Rattle.uart_16550.proofs.Making.{made_none, made_then, made_append, made_among}
use Rattle.uart_16550.proofs.Texts.{expansion_more, sends_beginning}
use Rattle.uart_16550.proofs.tty.Uart16550Tty.write_raw_text.Goals as goal

pub loop-byte-init : goal.loop-byte-init
loop-byte-init g c = record { made = made_none; count = refl }

pub returns-in-Err : goal.returns-in-Err
returns-in-Err g c =
    let i = c.loop-byte.byte-index in
    let sent = c.in-Err.stall.done in
    let within : i < length c.args.text.now = omega (arith) in
    let fewer : sent < length (expansion_of (get_or c.args.text.now i 0)) = c.in-Err.ensures.done in
    let count : c.saturating_add-done-in-Err.result ≡ min (length (expansion (take i c.args.text.now)) + sent) (2 ^ 64 - 1) =
    omega (arith, c.saturating_add-done-in-Err.ensures, c.loop-byte.invariant.count) in
    let stalled = c.in-Err.ensures.made in
    made_among (sends_beginning c.args.text.now i sent _ within fewer count (Unit {0}) _) (made_then c.loop-byte.invariant.made stalled)

pub loop-byte-preserved : goal.loop-byte-preserved
loop-byte-preserved g c =
    let i = c.loop-byte.byte-index in
    let within : i < length c.args.text.now = omega (arith) in
    let more = expansion_more c.args.text.now i within in
    let sent_count = c.in-Ok.ensures.count in
    record {
      made = rw more (made_append (λ byte. Round (byte ∷ [])) _ _ c.loop-byte.invariant.made c.in-Ok.ensures.made);
      count =
          omega (arith, c.saturating_add-done.ensures, c.loop-byte.invariant.count, ap length more, sent_count, length-append {A = ℕ});
    }
