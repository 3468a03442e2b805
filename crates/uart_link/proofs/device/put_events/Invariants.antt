use Rattle.uart_link.proofs.Names.{◌≡◌, ◌≤◌, ◌++◌, length, drop, vec_len, vec_capacity, events_of}
use Rattle.uart_link.proofs.device.put_events.Given as goal

-- the events that were put, and those of the moments that are left, are all
abbrev pub invariant-loop-moment : goal.invariant-loop-moment
invariant-loop-moment l = record {
  told : l.events.items ++ events_of (drop l.moment-index l.moments) (drop l.next l.cable) l.lines.0 ≡
      events_of l.moments l.cable l.lines.0;
  within : l.next ≤ length l.cable;
  few : vec_len l.events ≤ l.moment-index;
  room : vec_capacity l.fn.events ≤ vec_capacity l.events;
}
