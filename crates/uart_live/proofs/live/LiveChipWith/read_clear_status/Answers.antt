use Rattle.std.proofs.Common.{◌≡◌, ◌∙◌, ℕ, true, false, ◌==◌, bit_or, length, ap, sym, rules}
use Rattle.std.specs.List.{list_any}
use Rattle.uart_chip.specs.Chip.{ChipState, after_read, line_status}
use Rattle.uart_chip.specs.Receiver.{ReceiverState, has_errors}
use Rattle.uart_chip.specs.Status.{receiver_status, transmitter_status}
use Rattle.uart_chip.specs.Transmitter.{TransmitterState}
use Rattle.uart_chip.proofs.Status.{shows}
use Rattle.uart_spec.specs.Bits.{has_any}
use Rattle.uart_spec.specs.declared.registers.line_status.TheConstants.LSR
use Rattle.uart_spec.specs.declared.registers.offsets.TheConstants as offsets
use Rattle.uart_live.specs.Quick.{clear_status}
use Rattle.uart_live.proofs.Quick.{unclear, clear_is, clear_read, clear_report, live-reported, none_waits, some_waits}
use Rattle.uart_live.proofs.Sizes.{bytes_fit, characters_fit}
use Rattle.uart_live.proofs.live.LiveChipWith.read_clear_status.Goals as goal
use Rattle.uart_live.proofs.live.LiveChipWith.read_clear_status.Goals.{then-queue_len-gt0, else-queue_len-gt0}

-- the queues take no more memory than there can be
pub receiver-requires-room-B-Fifo : goal.receiver-requires-room-B-Fifo
receiver-requires-room-B-Fifo g c κs = bytes_fit g.row.FIFO c.self.invariant.0

pub receiver-requires-room-C-Fifo : goal.receiver-requires-room-C-Fifo
receiver-requires-room-C-Fifo g c κs = characters_fit g.row.FIFO c.self.invariant.0

pub has_errors-requires-room-Q-Fifo : goal.has_errors-requires-room-Q-Fifo
has_errors-requires-room-Q-Fifo g c κs = characters_fit g.row.FIFO c.self.invariant.0

pub receiver-requires-2-room-B-Fifo : goal.receiver-requires-2-room-B-Fifo
receiver-requires-2-room-B-Fifo g c κs = bytes_fit g.row.FIFO c.self.invariant.0

pub receiver-requires-2-room-C-Fifo : goal.receiver-requires-2-room-C-Fifo
receiver-requires-2-room-C-Fifo g c κs = characters_fit g.row.FIFO c.self.invariant.0

pub status-receiver-requires-room-Q-Fifo : goal.status-receiver-requires-room-Q-Fifo
status-receiver-requires-room-Q-Fifo g c κs = characters_fit g.row.FIFO c.self.invariant.0

pub transmitter-requires-room-B-Fifo : goal.transmitter-requires-room-B-Fifo
transmitter-requires-room-B-Fifo g c κs = bytes_fit g.row.FIFO c.self.invariant.0

pub transmitter-requires-room-C-Fifo : goal.transmitter-requires-room-C-Fifo
transmitter-requires-room-C-Fifo g c κs = characters_fit g.row.FIFO c.self.invariant.0

pub status-requires-room-Q-Fifo : goal.status-requires-room-Q-Fifo
status-requires-room-Q-Fifo g c κs = bytes_fit g.row.FIFO c.self.invariant.0

pub receiver-requires-3-room-B-Fifo : goal.receiver-requires-3-room-B-Fifo
receiver-requires-3-room-B-Fifo g c κs = bytes_fit g.row.FIFO c.self.invariant.0

pub receiver-requires-3-room-C-Fifo : goal.receiver-requires-3-room-C-Fifo
receiver-requires-3-room-C-Fifo g c κs = characters_fit g.row.FIFO c.self.invariant.0

pub queue_len-requires-room-Q-Fifo : goal.queue_len-requires-room-Q-Fifo
queue_len-requires-room-Q-Fifo g c κs = characters_fit g.row.FIFO c.self.invariant.0

pub receiver_mut-requires-room-B-Fifo : goal.receiver_mut-requires-room-B-Fifo
receiver_mut-requires-room-B-Fifo g c κs = bytes_fit g.row.FIFO c.self.invariant.0

pub receiver_mut-requires-room-C-Fifo : goal.receiver_mut-requires-room-C-Fifo
receiver_mut-requires-room-C-Fifo g c κs = characters_fit g.row.FIFO c.self.invariant.0

pub set_front_reported-requires-room-Q-Fifo : goal.set_front_reported-requires-room-Q-Fifo
set_front_reported-requires-room-Q-Fifo g c κs = characters_fit g.row.FIFO c.self.invariant.0

pub returns-then-intersects-clause-value : goal.returns-then-intersects-clause-value
returns-then-intersects-clause-value g c =
    let u : ChipState = c.self.inside.uart in
    let joined : c.union-status.result.0 ≡ bit_or c.status-receiver.result.0 c.status.result.0 = search rules in
    let none : false ≡ list_any has_errors u.receiver.queue =
    sym c.if-has_errors.false ∙
    (c.has_errors.ensures ∙ ap (λ (r : ReceiverState). list_any has_errors r.queue) c.receiver.ensures) in
    let shown : c.union-status.result.0 ≡ line_status u =
    shows u c.union-status.result.0 c.status-receiver.result.0 c.status.result.0 joined
    (c.status-receiver.ensures ∙
    ap (λ (r : ReceiverState). receiver_status r.queue r.is_overrun r.is_front_reported) c.receiver-2.ensures)
    (c.status.ensures ∙ ap (λ (t : TransmitterState). transmitter_status t.queue t.shift_register) c.transmitter.ensures) none in
    let asked : c.intersects.result ≡ has_any c.union-status.result.0 LSR.LINE_ERRORS.0 = search rules in
    let error : has_any (line_status u) LSR.LINE_ERRORS.0 ≡ true =
    sym (ap (λ (n : ℕ). has_any n LSR.LINE_ERRORS.0) shown) ∙ (sym asked ∙ c.if-intersects.true) in
    unclear u error ∙ ap (λ (x : ChipState). clear_status x) c.self.view_is

pub invariant_of-self : goal.invariant_of-self
invariant_of-self g c = (
  c.self.invariant.0,
  rw (c.set_front_reported.ensures.after, c.receiver_mut.ensures.value) (live-reported c.self.inside.uart c.self.invariant.1),
)

pub returns-clause-value : goal.returns-clause-value
returns-clause-value g c =
    let u : ChipState = c.self.inside.uart in
    let joined : c.union-status.result.0 ≡ bit_or c.status-receiver.result.0 c.status.result.0 = search rules in
    let none : false ≡ list_any has_errors u.receiver.queue =
    sym c.if-has_errors.false ∙
    (c.has_errors.ensures ∙ ap (λ (r : ReceiverState). list_any has_errors r.queue) c.receiver.ensures) in
    let shown : c.union-status.result.0 ≡ line_status u =
    shows u c.union-status.result.0 c.status-receiver.result.0 c.status.result.0 joined
    (c.status-receiver.ensures ∙
    ap (λ (r : ReceiverState). receiver_status r.queue r.is_overrun r.is_front_reported) c.receiver-2.ensures)
    (c.status.ensures ∙ ap (λ (t : TransmitterState). transmitter_status t.queue t.shift_register) c.transmitter.ensures) none in
    let asked : c.intersects.result ≡ has_any c.union-status.result.0 LSR.LINE_ERRORS.0 = search rules in
    let error : has_any (line_status u) LSR.LINE_ERRORS.0 ≡ false =
    sym (ap (λ (n : ℕ). has_any n LSR.LINE_ERRORS.0) shown) ∙ (sym asked ∙ c.if-intersects.false) in
    let bits : c.bits.result ≡ c.union-status.result.0 = search rules in
    clear_is u c.bits.result (bits ∙ shown) none error ∙ ap (λ (x : ChipState). clear_status x) c.self.view_is

pub returns-clause-read : goal.returns-clause-read
returns-clause-read g c = λ _.
    let u : ChipState = c.self.inside.uart in
    let joined : c.union-status.result.0 ≡ bit_or c.status-receiver.result.0 c.status.result.0 = search rules in
    let none : false ≡ list_any has_errors u.receiver.queue =
    sym c.if-has_errors.false ∙
    (c.has_errors.ensures ∙ ap (λ (r : ReceiverState). list_any has_errors r.queue) c.receiver.ensures) in
    let shown : c.union-status.result.0 ≡ line_status u =
    shows u c.union-status.result.0 c.status-receiver.result.0 c.status.result.0 joined
    (c.status-receiver.ensures ∙
    ap (λ (r : ReceiverState). receiver_status r.queue r.is_overrun r.is_front_reported) c.receiver-2.ensures)
    (c.status.ensures ∙ ap (λ (t : TransmitterState). transmitter_status t.queue t.shift_register) c.transmitter.ensures) none in
    let asked : c.intersects.result ≡ has_any c.union-status.result.0 LSR.LINE_ERRORS.0 = search rules in
    let error : has_any (line_status u) LSR.LINE_ERRORS.0 ≡ false =
    sym (ap (λ (n : ℕ). has_any n LSR.LINE_ERRORS.0) shown) ∙ (sym asked ∙ c.if-intersects.false) in
    let count : c.queue_len.result ≡ length u.receiver.queue =
    c.queue_len.ensures.len ∙ ap (λ (r : ReceiverState). length r.queue) c.receiver-3.ensures in
    elim c.if-queue_len-gt0.branch [
      | then-queue_len-gt0 w ↦
          w.self-is ∙
          (ap (λ (r : ReceiverState). record u { receiver = r }) (w.set_front_reported.ensures.after ∙
          ap (λ (r : ReceiverState). record r { is_front_reported = true }) w.receiver_mut.ensures.value) ∙
          (clear_report u error (sym (ap (λ (n : ℕ). n == 0) count) ∙ some_waits c.queue_len.result w.if-queue_len-gt0.true) ∙
          ap (λ (x : ChipState). after_read offsets.LSR x) c.self.view_is))
      | else-queue_len-gt0 w ↦
          w.self-is ∙ (sym c.self.view_is ∙
          (clear_read u error (sym count ∙ none_waits c.queue_len.result w.if-queue_len-gt0.false) ∙
          ap (λ (x : ChipState). after_read offsets.LSR x) c.self.view_is))
    ]
