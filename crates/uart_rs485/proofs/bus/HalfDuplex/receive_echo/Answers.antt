use Rattle.std.proofs.Common.{◌≡◌, ℕ, List, take, Ok, Err, refl, sym, subst, arith, slice_index_or}
use Rattle.std.proofs.lemmas.List.{take_all, take_more}
use Rattle.uart_16550.specs.Driver.{Made}
use Rattle.uart_16550.specs.Grammar.{AllMisses, InOrder}
use Rattle.uart_16550.specs.Receive.{Awaited, Miss}
use Rattle.uart_16550.proofs.Making.{made_none, made_then, made_among, made_more}
use Rattle.uart_rs485.specs.Bus.{HearsEcho}
use Rattle.uart_rs485.specs.declared.errors.EchoError.TheVariants.{Differs, Silent}
use Rattle.uart_rs485.proofs.BusDoings.{bus_made}
use Rattle.uart_rs485.proofs.Echoes.{heard_one, silent_one}
use Rattle.uart_rs485.proofs.bus.HalfDuplex.receive_echo.Goals as goal

pub loop-done-init : goal.loop-done-init
loop-done-init g c = record { made = made_none; direction = refl; sends = refl }

pub returns-in_default : goal.returns-in_default
returns-in_default g c =
    let inv = c.loop-done.invariant in
    let silent = made_among {M = AllMisses Miss} (λ l t. silent_one _ _ l t.0 t.2) c.in_default.ensures.made in
    bus_made {L = HearsEcho {T = Unit {0}} c.args.sent.now (Err (Silent c.loop-done.done))} c.args.self.now _
    (made_among (λ l t. (c.loop-done-test.true, t)) (made_then inv.made silent)) inv.direction inv.sends

pub returns-then-heard-byte : goal.returns-then-heard-byte
returns-then-heard-byte g c =
    let inv = c.loop-done.invariant in
    let sent = c.args.sent.now in
    let done = c.loop-done.done in
    let heard = slice_index_or c.receive_bytes_exact.new.buffer 0 0 in
    let one = made_among {M = Awaited heard} (λ l t. heard_one _ _ l t.0 t.1) c.in-Ok.ensures.made in
    bus_made {L = HearsEcho {T = Unit {0}} sent (Err (Differs done heard))} c.args.self.now _
    (made_among (λ l t.
    (slice_index_or sent done 0, take_more sent done 0 c.loop-done-test.true, λ same. c.if-heard-byte.true (sym same), t))
    (made_more Awaited (take done sent) heard inv.made one)) inv.direction inv.sends

pub loop-done-preserved : goal.loop-done-preserved
loop-done-preserved g c =
    let inv = c.loop-done.invariant in
    let sent = c.args.sent.now in
    let done = c.loop-done.done in
    let byte = slice_index_or sent done 0 in
    let one = made_among {M = Awaited byte} (λ l t. rw (sym c.if-heard-byte.false) (heard_one _ _ l t.0 t.1)) c.in-Ok.ensures.made in
    record {
      made = rw (take_more sent done 0 c.loop-done-test.true) (made_more Awaited (take done sent) byte inv.made one);
      direction = inv.direction;
      sends = inv.sends;
    }

pub returns : goal.returns
returns g c =
    let inv = c.loop-done.invariant in
    let all : take c.loop-done.done c.args.sent.now ≡ c.args.sent.now =
    take_all c.loop-done.done c.args.sent.now (omega (arith, c.loop-done-test.false)) in
    let P : List ℕ → Type 0 = λ bytes. Made g.B.Backend.step (InOrder Awaited bytes) c.args.self.now.uart c.loop-done.self.uart in
    bus_made {L = HearsEcho {T = Unit {0}} c.args.sent.now (Ok tt)} c.args.self.now c.loop-done.self
    (made_among (λ l t. t) (subst P all inv.made)) inv.direction inv.sends
