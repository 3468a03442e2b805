use Rattle.std.proofs.Common.{◌≡◌, is_ok}
use Rattle.uart_16550.proofs.Making.{made_among}
use Rattle.uart_16550.proofs.Languages.{answers_write}
use Rattle.uart_16550.proofs.embedded_io.Uart16550WriteReady.write_ready.Goals as goal

pub returns : goal.returns
returns g c =
    let hits : c.is_ok.result ≡ is_ok c.ready_to_send.result = c.is_ok.ensures.value in
    made_among (λ l t. rw hits (answers_write c.ready_to_send.result _ l t)) c.ready_to_send.ensures
