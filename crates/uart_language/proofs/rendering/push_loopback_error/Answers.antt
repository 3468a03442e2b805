use Rattle.std.proofs.Common.{append_assoc}
use Rattle.uart_language.proofs.rendering.push_loopback_error.Goals as goal

pub returns-in_ok-extend_from_slice-in-UnexpectedLoopbackMsg :
    goal.returns-in_ok-extend_from_slice-in-UnexpectedLoopbackMsg
returns-in_ok-extend_from_slice-in-UnexpectedLoopbackMsg c =
    rw c.in-UnexpectedLoopbackMsg.is
    (simp append_assoc at (rw c.in_ok-extend_from_slice-in-UnexpectedLoopbackMsg.ensures.items at c.push_hex.ensures))
