use Rattle.std.proofs.Common.{◌≡◌, ◌∙◌, arith, Some, None}
use Rattle.uart_chip.specs.Chip.{is_loopback, is_held_off}
use Rattle.uart_chip.specs.Jumps.{next_move}
use Rattle.uart_chip.proofs.Jumps.{goes_on, stays, StillFor, seen, at_least_one, still_some, still_none}
use Rattle.uart_chip.proofs.controlling.advance.Goals as goal
use Rattle.uart_chip.proofs.controlling.advance.Goals.{in-Some, in_default}
use Rattle.uart_chip.proofs.controlling.advance.Goals.{in_default-via-in-Some+else-ticks-left, in_default-via-in_default}

pub loop-left-preserved : goal.loop-left-preserved
loop-left-preserved g c =
    let state = g.P.ChipParts.state in
    let d = state c.loop-left.parts in
    elim c.match-next_move.branch [
      | in-Some w ↦
          let move : next_move (is_loopback d.latches) (is_held_off d) d.transmitter ≡ Some w.in-Some.ticks =
          seen _ _ _ _ _ _ _ c.is_loopback-loopback.ensures c.is_held_off-held_off.ensures c.transmitter.ensures w.in-Some.ensures in
          let least = at_least_one (is_loopback d.latches) (is_held_off d) d.transmitter w.in-Some.ticks move in
          let jump =
          goes_on c.loop-left.left w.in-Some.ticks d (state w.skip.new.parts) (state w.tick.new.parts) move least
          w.if-ticks-left.true w.skip.ensures.after w.tick.ensures.after in
          rw (w.parts-is, w.left-is)
          (record {
            same = jump.same ∙ c.loop-left.invariant.same;
            jumps = omega (arith, jump.fewer, c.loop-left.invariant.jumps);
            counted = omega (arith, jump.counted, c.loop-left.invariant.counted);
            within = omega (arith, least, w.if-ticks-left.true, c.loop-left.invariant.within);
            canonical = λ v. w.tick.ensures.canonical (w.skip.ensures.canonical (c.loop-left.invariant.canonical v));
          })
      | in_default w ↦
          let still : StillFor c.loop-left.left (next_move (is_loopback d.latches) (is_held_off d) d.transmitter) =
          elim w.in_default.branch [
            | in_default-via-in-Some+else-ticks-left v ↦ still_some c.loop-left.left v.in-Some.ticks _
                (seen _ _ _ _ _ _ _ c.is_loopback-loopback.ensures c.is_held_off-held_off.ensures c.transmitter.ensures
                v.in-Some.ensures) v.if-ticks-left.false
            | in_default-via-in_default v ↦ still_none c.loop-left.left _
                (seen _ _ _ _ _ _ None c.is_loopback-loopback.ensures c.is_held_off-held_off.ensures c.transmitter.ensures
                v.in_default.ensures)
          ] in
          let jump = stays c.loop-left.left d (state w.skip-in_default.new.parts) (omega arith) still w.skip-in_default.ensures.after in
          rw (w.parts-is, w.left-is)
          (record {
            same = jump.same ∙ c.loop-left.invariant.same;
            jumps = omega (arith, jump.fewer, c.loop-left.invariant.jumps);
            counted = omega (arith, jump.counted, c.loop-left.invariant.counted);
            within = omega (arith, c.loop-left.invariant.within);
            canonical = λ v. w.skip-in_default.ensures.canonical (c.loop-left.invariant.canonical v);
          })
    ]
