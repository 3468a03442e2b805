use Rattle.std.proofs.Common.{ap, ◌∙◌, arith, suc, ◌+◌, ◌≡◌, drop}
use Rattle.uart_c.specs.Queue.{wire_of}
use Rattle.uart_c.proofs.Queues.{dropped}
use Rattle.uart_c.proofs.queue.UartWire.remove.Goals as goal

pub loop-preserved : goal.loop-preserved
loop-preserved c =
    let more : suc c.loop.counter ≡ c.loop.counter + 1 = omega arith in
    record {
      left = c.pop_front.ensures.after ∙ (ap (λ xs. drop 1 xs) c.loop.invariant.left ∙
          (dropped c.loop.counter (wire_of c.args.self.now) ∙ ap (λ k. drop k (wire_of c.args.self.now)) more));
      capacity = c.pop_front.ensures.capacity ∙ c.loop.invariant.capacity;
      len = λ w. c.pop_front.ensures.len;
    }
