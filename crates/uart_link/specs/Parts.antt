-- What holds of each part of a link's run.
use Rattle.std.specs.Prelude.{◌≡◌, ℕ, List, ◌++◌}
use Rattle.uart_run.specs.Chains.{RunOf}
use Rattle.uart_ring_runs.specs.declared.call.RingAnswer.{RingAnswer}
use Rattle.uart_link.specs.declared.call.LinkCall.{LinkCall}
use Rattle.uart_link.specs.declared.call.Side.{Side}
use Rattle.uart_link.specs.declared.call.Side.TheVariants.{Left, Right}
use Rattle.uart_link.specs.declared.link.Link.{Link}
use Rattle.uart_link.specs.Agreed.{KeepsAgreed}
use Rattle.uart_link.specs.AutoFlow.{IsPacedByChip}
use Rattle.uart_link.specs.Carried.{Carries, Queues, TakesAllGone, BothReady, NoneCut, IsJoined}
use Rattle.uart_link.specs.Flow.{Pace, IsPaced, Delivers}
use Rattle.uart_link.specs.Link.{at_end, Step, LinkCallStep, LinkChain}
use Rattle.uart_link.specs.Progress.{Progresses, EmptiesReceiver, KeepsRtsOn, AllLeaveArmed}
use Rattle.uart_link.specs.Stays.{StaysAt}
use Rattle.uart_link.specs.Told.{TellsDrops}
use Rattle.uart_link.specs.Xoff.{XoffPace, IsPacedByXoff, AllTellAndHold}

-- promise: over a cable with flow control from one end to the other, no character is dropped there, and all that was
--   queued is taken or is on its way, whatever the other direction does
-- with: LinkConserves.whole
-- shown by: a_mark_above_what_may_come_loses_nothing, a_mark_that_is_one_lower_loses_a_character,
--   flow_control_may_be_in_one_direction_alone, with_flow_control_by_marks_nothing_is_dropped
-- refused: a_mark_one_lower_is_enough, a_burst_needs_no_look_at_the_lines, the_sender_adjusts_rts

-- promise: over a cable with flow control by XOFF and XON no character is dropped either, if the sender obeys before so
--   many characters have come
-- with: LinkConserves.whole_by_xoff
-- shown by: a_mark_for_xoff_above_what_may_come_loses_nothing, a_mark_for_xoff_that_is_one_lower_loses_a_character,
--   a_sender_that_does_not_obey_loses_characters, a_sender_that_is_told_xon_goes_on,
--   at_the_least_mark_for_xoff_random_runs_drop_nothing
-- refused: a_mark_for_xoff_one_lower_is_enough, a_sender_may_obey_one_character_later,
--   an_urgent_byte_at_a_hold_is_not_counted, an_urgent_byte_may_keep_xoff_back

-- promise: nor is one with flow control by the chips, with no call of the programs, if no more are under way than the
--   trigger level leaves room for
-- with: LinkConserves.whole_by_chip
-- shown by: what_is_under_way_at_the_trigger_level_finds_room, one_more_under_way_is_lost
-- refused: one_more_may_be_under_way, rts_of_the_cable_is_that_of_mcr, cabled_chip_with_auto_flow_has_none

-- promise: over a cable, what an end tells by XOFF goes out right behind what its chip holds, and a transmit ring that
--   is held sends none of its bytes
-- with: LinkConserves.told_and_held
-- shown by: what_is_told_goes_out_next, a_mark_for_xoff_above_what_may_come_loses_nothing
-- refused: what_is_told_goes_out_last, a_hold_stops_urgent_bytes

-- promise: over a cable, what an end tells by XOFF and XON is obeyed at the other one: once none is on the way, that
--   end holds its ring exactly if XOFF was told last
-- with: LinkConserves.agreed
-- shown by: a_sender_that_is_told_xon_goes_on, an_xoff_that_is_taken_first_is_not_obeyed
-- refused: an_xoff_may_be_taken_before_it_is_obeyed, a_text_may_have_an_xoff, any_call_may_hold_the_ring

-- promise: over a cable, all that was queued is taken within so many rounds, if time passes, characters arrive, the
--   handler runs, the program takes, and the sender goes on
-- with: LinkConserves.progress, LinkConserves.handled, LinkConserves.rts, LinkConserves.armed
-- shown by: a_sender_goes_on_by_resume_transmit, a_sender_goes_on_by_its_handler,
--   a_sender_that_does_not_go_on_leaves_what_waits
-- refused: a_round_needs_no_ticks, one_round_fewer_is_enough, a_take_may_leave_bytes, the_sender_need_not_see_the_lines

-- a part of a run carries the bytes of both ends; an end that never clears its receive ring has taken all that left
-- it; a `take_line` at its end tells of a drop; if both programs keep to flow control from one end to the other, by RTS
-- or by XOFF, or the chips do, no character is dropped there, and all is carried; what an end tells by XOFF goes out
-- next, and a ring that is held stays; an end holds its transmit ring as it was told by XOFF and XON; if there are
-- rounds enough, all is taken that was queued; a run of the handler empties the receiver; RTS stays on that was turned
-- on; rings that are armed stay so; what has left an end and waits there grew by what was queued; what the chips and
-- the drivers are stays; and a part may follow for which all this holds
pub record LinkConserves (a : Link) (steps : List Step) (b : Link) : Type 0 where
  -- every byte that the left end queued is taken or cleared at the right one, waits there or is on its way, in order,
  -- less what its chip dropped
  pub rightward : Carries Left a steps b
  -- the same from the right end to the left one
  pub leftward : Carries Right a steps b
  pub taken : (end : Side) → TakesAllGone end steps
  -- the next `take_line` after a drop shows the overrun flag
  pub tells : (end : Side) → TellsDrops end a steps b
  -- with flow control by RTS no character is dropped, and all that was queued is taken or on its way, whatever the
  -- other direction does
  pub whole : (end : Side) (pace : Pace) → IsPaced pace end a steps → Delivers end a steps b
  -- so it is with flow control by XOFF and XON
  pub whole_by_xoff : (end : Side) (pace : XoffPace) → IsPacedByXoff pace end a steps → Delivers end a steps b
  -- so it is with flow control by the chips, with no call of the programs
  pub whole_by_chip : (end : Side) (late : ℕ) → IsPacedByChip late end a steps → Delivers end a steps b
  pub told_and_held : (end : Side) → AllTellAndHold end steps
  pub agreed : (end : Side) → KeepsAgreed end a steps b
  -- if n bytes wait at the sender, all have been taken after n + 1 rounds, in each of which time passes, characters
  -- arrive, the handler runs, the program takes and the sender goes on
  pub progress : (end : Side) → Progresses end a steps b
  pub handled : (end : Side) → EmptiesReceiver end steps b
  pub rts : (end : Side) → KeepsRtsOn end a steps b
  pub armed : (end : Side) → AllLeaveArmed end steps
  pub queues : (end : Side) → Queues end a steps b
  -- both ends keep their FIFOs, the settings of their drivers, and whether their chips have automatic flow control
  pub stays : (end : Side) → StaysAt (at_end end a) (at_end end b)
  pub ready : BothReady b
  pub joined : IsJoined b
  pub uncut : NoneCut b

-- these calls, with these answers, lead from s to t; and each part of them conserves that begins when both ends are
-- ready
pub record RanLink (s : Link) (calls : List LinkCall) (answers : List RingAnswer) (t : Link) : Type 0 where
  pub run : RunOf LinkCallStep s calls answers t
  pub parts : (front part rest : List Step) (a b : Link) →
      -- these calls are a part of the run
      run.links ≡ front ++ (part ++ rest) → LinkChain s front a →
      LinkChain a part b → LinkChain b rest t → IsJoined a → BothReady a → NoneCut a → LinkConserves a part b
