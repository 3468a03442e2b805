use Rattle.std.proofs.Common.{ℕ, min, ◌∙◌}
use Rattle.uart_c.specs.Queue.{character_of, fifo_size_of}
use Rattle.uart_c.proofs.Saved.{all_of_queue}
use Rattle.uart_live.specs.Saved.{is_live_character}
use Rattle.uart_spec.specs.FifoSize.{characters}
use Rattle.uart_c.proofs.sound.is_sound_queue.Goals as goal

pub returns : goal.returns
returns c =
    let count : ℕ = min c.args.receiver.now.queue.len (characters (fifo_size_of c.args.receiver.now.fifo_size)) in
    c.are_live.ensures ∙
    all_of_queue is_live_character character_of count c.queue_len-len.result c.args.receiver.now.queue.items
    c.queue_len-len.ensures.len
