use Rattle.std.proofs.Common.{ℕ, ap, sym, ◌∙◌}
use Rattle.uart_c.proofs.Quick.{settle-idle, settle-due}
use Rattle.uart_c.specs.State.{chip_of, receiver_of}
use Rattle.uart_chip.specs.Jumps.{count_up}
use Rattle.uart_chip.specs.Receiver.{ReceiverState}
use Rattle.uart_spec.specs.declared.setup.FifoSize.{FifoSize}
use Rattle.uart_virtual.specs.Port.{settle_ticks}
use Rattle.uart_c.proofs.port.settle.Goals as goal

pub returns-then-chip-clause-after : goal.returns-then-chip-clause-after
returns-then-chip-clause-after c =
    ap (λ (r : ReceiverState). record (chip_of c.args.chip.now) { receiver = r })
    (c.count_up.ensures.after ∙
    ap (λ (n : ℕ). count_up n (receiver_of c.args.chip.now.receiver))
    (c.settle_ticks-ticks-then-chip.ensures ∙ ap (λ (size : FifoSize). settle_ticks size) c.size-then-chip.ensures)) ∙
    sym (settle-idle (chip_of c.args.chip.now) (sym c.held_len.ensures ∙ c.if-held_len-ne0.false))

pub returns-else-chip-clause-after : goal.returns-else-chip-clause-after
returns-else-chip-clause-after c =
    sym (settle-due (chip_of c.args.chip.now) (sym c.held_len.ensures ∙ c.if-held_len-ne0.false) c.if-chip.false)
