-- The names of other crates and of specs/ that proofs here cite, passed on from one place. Declares nothing.

-- ---- numbers, lists, results, and their laws

pub use Rattle.std.proofs.Common.{ℕ, Bool, true, ◌≡◌, false, List, [], ap, ◌∷◌, arith, refl, ◌+◌, ◌≤◌, sym, subst, ◌∙◌, if◌then◌else◌}
pub use Rattle.std.proofs.Common.{length, inl, ◌*◌, ◌-◌, ◌<◌, Some, inr, ◌++◌, Option, ◌==◌, ◌⊎◌, nat_lt, None, nat_le, length-append, not}
pub use Rattle.std.proofs.Common.{suc, zero, ◌||◌, MatchBool, Ok, Result, bit_or, map, min, ◌&&◌, Err, append-nil, append_assoc, bit_and}
pub use Rattle.std.proofs.Common.{take}
pub use Rattle.std.proofs.Math.Nat.{mul-le-mul_right}
pub use Rattle.std.proofs.lemmas.Bool.{false≢true}
pub use Rattle.std.proofs.lemmas.Bool.Decides.{nat_tests}
pub use Rattle.std.proofs.lemmas.Grind.{common_steps}
pub use Rattle.std.proofs.lemmas.List.Elements.{All-head, All-tail, filter-append}
pub use Rattle.std.specs.List.{AllByRecursion, filter, list_any}
pub use Rattle.std.specs.Prelude.{MatchOption, All, is_some}
-- ---- registers, accesses, configurations and errors

pub use Rattle.uart_spec.specs.Access.{Path}
pub use Rattle.uart_spec.specs.Bits.{has_any, has, IsOnlyIfAny, flag}
pub use Rattle.uart_spec.specs.FifoSize.{characters}
pub use Rattle.uart_spec.specs.Timing.{IsCharacterAnswer, IsHandlerBudget, characters_at, spare_at}
pub use Rattle.uart_spec.specs.declared.access.Access.{Access}
pub use Rattle.uart_spec.specs.declared.access.Access.TheVariants.{Read, Write}
pub use Rattle.uart_spec.specs.declared.registers.fifo_trigger_level.FifoTriggerLevel.{FifoTriggerLevel}
pub use Rattle.uart_spec.specs.declared.registers.fifo_trigger_level.FifoTriggerLevel.TheVariants.{One, Eight, Four, Fourteen}
pub use Rattle.uart_spec.specs.declared.registers.interrupt_type.InterruptType.{InterruptType}
pub use Rattle.uart_spec.specs.declared.registers.interrupt_type.InterruptType.TheVariants.{ReceivedDataReady, ReceiverLineStatus}
pub use Rattle.uart_spec.specs.declared.setup.FifoSize.{FifoSize}
pub use Rattle.uart_spec.specs.declared.setup.FifoSize.TheVariants.{OneHundredTwentyEight, Sixteen, SixtyFour, ThirtyTwo}
pub use Rattle.uart_spec.specs.declared.setup.FifoSize.TheVariants.{TwoHundredFiftySix}
-- ---- what happens from outside: events, setups, calls

pub use Rattle.uart_events.specs.declared.event.Event.{Event}
pub use Rattle.uart_events.specs.declared.event.Event.TheVariants.{Access as Gate, Arrive, Lines, Mark, Ticks}
-- ---- the driver: its state, and the accesses that its calls may make

pub use Rattle.uart_16550.specs.Frame.{switched, unlooped}
pub use Rattle.uart_16550.specs.Grammar.{InOrder, Settings, Asks, Then}
pub use Rattle.uart_16550.specs.Receive.{Hit, Receives}
-- ---- the chip: what each access and each tick does to it

pub use Rattle.uart_chip.specs.Chip.{ChipState, interrupt, after_read, arrive, is_dlab_set, is_loopback, tick, after_write, cut_of}
pub use Rattle.uart_chip.specs.Chip.{change_lines, is_thr_empty, control_modem, is_held_off, is_transmitter_empty, line_status, ticks}
pub use Rattle.uart_chip.specs.Chip.{with_latches, with_thr_pending}
pub use Rattle.uart_chip.specs.Conserved.{IsDrop, entered, kept, origin_stands, stands, arriving, between, cut_character, waiting}
pub use Rattle.uart_chip.specs.Machine.{MachineState, MachineStep, at_access, at_mark, before_mark, after_access, after_mark, before_access}
pub use Rattle.uart_chip.specs.Machine.{perform}
pub use Rattle.uart_chip.specs.Masks.{ier_bits, kept_mcr}
pub use Rattle.uart_chip.specs.Receiver.{ReceiverState, characters_of, is_data_pending, report, by_level, front_errors, grow_timeout}
pub use Rattle.uart_chip.specs.Receiver.{has_errors, mark_at, take_front, unreported}
pub use Rattle.uart_chip.specs.declared.receiver.Character.{Character}
pub use Rattle.uart_chip.specs.declared.receiver.Origin.TheVariants.{Arrived}
-- ---- laws of the chip

pub use Rattle.uart_chip.proofs.Bits.{has_and, has_not, has_one, has_or}
pub use Rattle.uart_chip.proofs.Lists.{each-append}
pub use Rattle.uart_chip.proofs.Sizes.{some_characters}
pub use Rattle.uart_chip.proofs.conservation.BlockLaws.{path_as, look_data, path_split}
pub use Rattle.uart_chip.proofs.conservation.Receives.{Drop, drop_split, no_drop-set}
pub use Rattle.uart_chip.proofs.conservation.SessionLaws.{drop_receivers}
-- ---- runs of calls over the chip

pub use Rattle.uart_run.specs.Ready.{Ready}
-- ---- laws of runs

pub use Rattle.uart_run.proofs.Latches.{Kept, kept_access, kept_step, keep, kept-before_mark, kept_after, kept_in, kept_list, kept_path}
-- ---- the rings: their state, and the accesses of their calls

pub use Rattle.uart_ring.specs.Handle.{Handles, Retriggers, RetriggersUnlessIdle, SendsAndRetriggers}
pub use Rattle.uart_ring.specs.Lossless.{Implies}
pub use Rattle.uart_ring.specs.Receive.{rts_at, AdjustsXoff, FillsReceiveRing, MakesRtsIfAny, Obeys, ObeysXoff, TellsIfAny, flow_character}
pub use Rattle.uart_ring.specs.Receive.{write_if_other, xon, AdjustsRts, ClearsReceive, EndsPause, PausesIfFull, TakesBytes}
pub use Rattle.uart_ring.specs.Ring.{free, ring_fields, RingFields, RingDid, RingDoing, looked, with_told_xoff, IfAny, OnDriver}
pub use Rattle.uart_ring.specs.Ring.{RingNext, RingSets, Stays, cleared, is_full, restarted, sendable, unchanged, with_hold, with_low}
pub use Rattle.uart_ring.specs.Ring.{with_low_mark, with_paused, with_queued, with_received, with_rounds, with_urgent, without_sent}
pub use Rattle.uart_ring.specs.Ring.{without_taken}
pub use Rattle.uart_ring.specs.Service.{SendsOnIf, ServesData, ServesInterrupt, ServesLine, ServesOne}
pub use Rattle.uart_ring.specs.Service.{ServesTimes, Stops, ServesUpTo, Services, ShowsInterrupt}
pub use Rattle.uart_ring.specs.Status.{TakesLine, TakesModem}
pub use Rattle.uart_ring.specs.Storm.{TriesToHandle, round_limit, CountsRound, HandlesRound, StaysStuck, counts_as, has_moved, unless_stuck}
pub use Rattle.uart_ring.specs.Storm.{CountsUnfinished, LooksOnceMore, Restarts, not_paused}
pub use Rattle.uart_ring.specs.Transmit.{Holds, Releases, ArmsIfLeft, ClearsTransmit, Pumps, Queues, QueuesUrgent, ResumesTransmit}
pub use Rattle.uart_ring.specs.Transmit.{SetsLowMark, TakesLow}
pub use Rattle.uart_ring.specs.declared.ring.receive.ReceiveMarks.{ReceiveMarks}
pub use Rattle.uart_ring.specs.declared.ring.service.HandleEnd.{HandleEnd}
pub use Rattle.uart_ring.specs.declared.ring.service.HandleEnd.TheVariants.{Idle, Limit, Unknown}
pub use Rattle.uart_ring.specs.declared.ring.service.Handled.{Handled}
pub use Rattle.uart_ring.specs.declared.ring.storm.StuckError.{StuckError}
-- ---- laws of the rings

pub use Rattle.uart_ring.proofs.Rts.{at_marks}
-- ---- runs of ring calls over the chip

pub use Rattle.uart_ring_runs.specs.OwnSession.{OwnConserves}
pub use Rattle.uart_ring_runs.specs.RingBytes.{to_take, gone}
pub use Rattle.uart_ring_runs.specs.RingRun.{RingState, ring_machine, RingLink, under, RingCallStep, RingChain, IsOfRings}
pub use Rattle.uart_ring_runs.specs.declared.call.RingAnswer.{RingAnswer}
pub use Rattle.uart_ring_runs.specs.declared.call.RingCall.{RingCall}
-- ---- laws of runs of ring calls

pub use Rattle.uart_ring_runs.proofs.RingBlocks.{MakesBlocks, MakesRingBlocks, in_blocks, AllLeaveLcr}
pub use Rattle.uart_ring_runs.proofs.RingEdges.{idle_is_down, named}
-- ---- how late a handler may be, as this crate defines them

pub use Rattle.uart_latency.specs.Arrivals.{is_below_level, receiver_of, spare, AllInTime, KeepsAll, arrived_in, level, since_level, waits}
pub use Rattle.uart_latency.specs.Ticks.{late_at, late_if, given_back, AreOthersQuick, IsPrompt, AreQuick, AreSpaced, IsEarly, beside}
pub use Rattle.uart_latency.specs.Ticks.{passing, IsPromptCall, IsQuickHandle, late_to_mark, reads, AreBetween, ArePrompt, IsInTime}
pub use Rattle.uart_latency.specs.Ticks.{IsPromptDid, SpacedAfter, begins_with_byte, late_by, reads_byte, ticks_of, visit}
