-- Parts in the middle of a run: what is asked for where one begins holds if it held where the run began.
use Rattle.uart_link.proofs.Names.{◌≡◌, List, [], ◌++◌, length, length-append, inl, refl, ◌∙◌, ap, arith, subst, out, to_send, ring_machine}
use Rattle.uart_link.proofs.Names.{Side, Link, queued_at, AllKeepOrderAt, at_end, other, Step, LinkConserves, HasJournals, HasRounds}
use Rattle.uart_link.proofs.Names.{enough_ticks, enough_rounds, transmitter_at}
use Rattle.uart_link.specs.Later.{PartsGoOn}
use Rattle.uart_link.proofs.Rounds.{joined_chains, order_front, order_back, queued_append}

-- room at the beginning for all that is queued is room in each part
journals_later : (end : Side) (front part : List Step) (s a : Link) → LinkConserves s front a → AllKeepOrderAt end front →
    HasJournals end s (front ++ part) → HasJournals end a part
journals_later end front part s a c order h =
    let queued = ap length (c.queues end order) in
    let sums = length-append (out (ring_machine (at_end end s))) (to_send (at_end end s)) in
    let later = length-append (out (ring_machine (at_end end a))) (to_send (at_end end a)) in
    let more = length-append (out (ring_machine (at_end end s)) ++ to_send (at_end end s)) (queued_at end front) in
    let parts = queued_append end front part in
    let capacity = (c.stays end).chip.capacity in
    let arrivals = (c.stays (other end)).chip.arrivals in
    let wire = h.wire in
    let marks = h.arrivals in
    record {
      wire = omega (arith, queued, sums, later, more, parts, capacity, wire);
      arrivals = omega (arith, queued, sums, later, more, parts, arrivals, marks);
    }

same_ticks : (end : Side) (front : List Step) (s a : Link) → LinkConserves s front a →
    enough_ticks (transmitter_at end s) ≡ enough_ticks (transmitter_at end a)
same_ticks end front s a c =
    let stays = (c.stays end).chip in
    rw (stays.sizes.transmitter, stays.char_ticks) refl

pub parts_go_on : PartsGoOn
parts_go_on s t calls answers ran front part rest a b is before within after joined ready uncut =
    let first = ran.parts [] front (part ++ rest) s a is refl before (joined_chains part rest a b t within after) joined ready uncut in
    let c = ran.parts front part rest a b is before within after first.joined first.ready first.uncut in
    record {
      conserves = c;
      stays = first.stays;
      progress =
          λ end lacks order none journals rounds.
          c.progress end ((first.stays end).chip.flow ∙ lacks) (order_back end front part order) none
          (journals_later end front part s a first (order_front end front part order) journals)
          (subst (λ ticks. HasRounds end ticks (enough_rounds (at_end end a)) part) (same_ticks end front s a first) rounds);
      rts = λ end lacks comes. c.rts end comes (inl ((first.stays end).chip.flow ∙ lacks));
    }
