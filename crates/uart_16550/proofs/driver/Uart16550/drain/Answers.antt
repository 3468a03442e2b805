use Rattle.std.proofs.Common.{◌≡◌, ◌<◌, inl, inr, arith, sym}
use Rattle.uart_spec.specs.declared.registers.offsets.TheConstants as offsets
use Rattle.uart_spec.specs.declared.registers.line_status.TheConstants.LSR
use Rattle.uart_16550.specs.Grammar.{Then, Times}
use Rattle.uart_16550.specs.Receive.{Miss}
use Rattle.uart_16550.specs.Init.{Discards, DrainsReceiver, most_waiting}
use Rattle.uart_16550.proofs.Doings.{plain_then, plain_times, plain_asks, plain_among, plain_none, plain_read}
use Rattle.uart_16550.proofs.driver.Uart16550.drain.Goals as goal

pub loop-turn-init : goal.loop-turn-init
loop-turn-init g c = plain_none

pub returns-then-not-contains : goal.returns-then-not-contains
returns-then-not-contains g c =
    let n = c.loop-turn._turn in
    let few : n < most_waiting = omega arith in
    let shows = rw (c.from_bits_retain-lsr.ensures tt) at (sym (c.if-not-contains.ensures tt)) in
    plain_among {L = Then (Times n Discards) Miss} {M = DrainsReceiver} (λ s l t. inr (n, few, t))
    (plain_then c.loop-turn.invariant (plain_asks offsets.LSR _ LSR.DATA_READY.0 _ c.read_plain.ensures shows))

pub loop-turn-preserved : goal.loop-turn-preserved
loop-turn-preserved g c =
    let shows = rw (c.from_bits_retain-lsr.ensures tt) at (sym (c.if-not-contains.ensures tt)) in
    plain_times _ Discards c.loop-turn.invariant
    (plain_then (plain_asks offsets.LSR _ LSR.DATA_READY.0 _ c.read_plain.ensures shows)
    (plain_read offsets.DATA _ c.read_plain-in-loop-turn.ensures))

pub returns : goal.returns
returns g c =
    let n = c.loop-turn._turn in
    let all : n ≡ most_waiting = omega arith in
    plain_among {L = Times n Discards} {M = DrainsReceiver} (λ s l t. inl (rw all at t)) c.loop-turn.invariant
