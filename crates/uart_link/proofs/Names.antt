-- The names of other crates and of specs/ that proofs here cite, passed on from one place. Declares nothing.

-- ---- numbers, lists, results, and their laws

pub use Rattle.std.proofs.Common.{◌≡◌, ◌∙◌, List, ap, sym, arith, refl, ℕ, [], length, ◌++◌, ◌∷◌, subst, ◌≤◌, true, Bool, false, ◌+◌, inl}
pub use Rattle.std.proofs.Common.{inr, ◌-◌, length-append, None, Some, suc, zero, take, ◌⊎◌, Option, append_assoc, if◌then◌else◌, map}
pub use Rattle.std.proofs.Common.{nat_lt, ◌<◌, drop, not, ◌==◌, append-nil, ◌&&◌, replicate, ◌≢◌, MatchBool, min, bit_or, nat_le}
pub use Rattle.std.proofs.Common.{vec_capacity, vec_len, ◌||◌, filter, zero-le, Result, add-one, bit_and, drop-cons, rules, slice_index_or}
pub use Rattle.std.proofs.Common.{◌*◌}
pub use Rattle.std.proofs.Math.Bool.{or-true, or-false}
pub use Rattle.std.proofs.Math.Seq.{drop-append_seam, take-append_seam}
pub use Rattle.std.proofs.lemmas.Bool.{eqb-true, or_right}
pub use Rattle.std.proofs.lemmas.Bool.Decides.{nat_tests}
pub use Rattle.std.proofs.lemmas.Grind.{common_steps}
pub use Rattle.std.proofs.lemmas.List.{length-drop, map-append, drop-append-le, drop_all, length-map, length-take, map-id, nil_from_length}
pub use Rattle.std.proofs.lemmas.List.{take-append-drop, append_cancel_left, append_cancel_right, drop-drop, take-append-le, take_min}
pub use Rattle.std.proofs.lemmas.List.Elements.{filter-append}
pub use Rattle.std.proofs.lemmas.List.Sums.{count_by-le-length, length-filter}
pub use Rattle.std.specs.List.{AllByRecursion, count_by, position, prefix_len}
pub use Rattle.std.specs.Prelude.{option_to_list, is_some, MatchOption, slice_range}
-- ---- registers, accesses, configurations and errors

pub use Rattle.uart_spec.specs.Access.{Path, saved_lsr}
pub use Rattle.uart_spec.specs.Bits.{has_any, has, IsWithin}
pub use Rattle.uart_spec.specs.FifoSize.{characters}
pub use Rattle.uart_spec.specs.declared.access.Access.{Access}
pub use Rattle.uart_spec.specs.declared.access.Access.TheVariants.{Read, Write}
pub use Rattle.uart_spec.specs.declared.registers.interrupt_type.InterruptType.{InterruptType}
pub use Rattle.uart_spec.specs.declared.setup.FifoSize.{FifoSize}
-- ---- what happens from outside: events, setups, calls

pub use Rattle.uart_events.specs.Build.{IsLegal, is_arrival, has_bad_errors, has_bad_lines, refusal}
pub use Rattle.uart_events.specs.declared.event.ArrivalMark.TheVariants.{Pending}
pub use Rattle.uart_events.specs.declared.event.Event.{Event}
pub use Rattle.uart_events.specs.declared.event.Event.TheVariants.{Arrive, Access as Gate, Mark, Lines, Ticks}
-- ---- the driver: its state, and the accesses that its calls may make

pub use Rattle.uart_16550.specs.Driver.{settings_of, Fields, Made, backend_of}
pub use Rattle.uart_16550.specs.Frame.{switched, unlooped, SetsControl, SetsOutput}
pub use Rattle.uart_16550.specs.Grammar.{Settings, Asks, Then, Never}
pub use Rattle.uart_16550.specs.Status.{Enables, Disables}
pub use Rattle.uart_16550.specs.Transmit.{Sends, LinesAllow, SendHit, SendRefused, burst_limit}
-- ---- the chip: what each access and each tick does to it

pub use Rattle.uart_chip.specs.Chip.{ChipState, is_loopback, after_write, after_read, cut_of, interrupt, is_dlab_set, rts_output, tick}
pub use Rattle.uart_chip.specs.Chip.{is_auto_flow, is_held_off, ticks, answer, arrive, change_lines, control_modem, is_thr_empty}
pub use Rattle.uart_chip.specs.Chip.{with_latches}
pub use Rattle.uart_chip.specs.Conserved.{out, waiting, stands, origin_stands, arriving, IsDrop, cut_character}
pub use Rattle.uart_chip.specs.Machine.{MachineState, MachineStep, at_access, arrivals, at_mark, before_access, perform, after_access}
pub use Rattle.uart_chip.specs.Machine.{before_mark, after_mark, cutting, fresh, sized}
pub use Rattle.uart_chip.specs.Masks.{kept_mcr}
pub use Rattle.uart_chip.specs.Receiver.{ReceiverState, is_data_pending, characters_of, mark_at, take_front, come_back, enter, grow_timeout}
pub use Rattle.uart_chip.specs.Receiver.{is_timed_out, replace, report}
pub use Rattle.uart_chip.specs.Sound.{IsSound, IsSoundChip, AllLegal, IsSoundTransmitter, IsTicking, AllInQueue}
pub use Rattle.uart_chip.specs.Transmitter.{TransmitterState, held, shift_bytes, shift, load, refill, room, looped_byte}
pub use Rattle.uart_chip.specs.declared.receiver.Character.{Character}
pub use Rattle.uart_chip.specs.declared.receiver.Origin.{Origin}
pub use Rattle.uart_chip.specs.declared.receiver.Origin.TheVariants.{Arrived}
pub use Rattle.uart_chip.specs.declared.transmitter.Shifting.{Shifting}
-- ---- laws of the chip

pub use Rattle.uart_chip.proofs.AutoFlow.{never_held_off, never_on}
pub use Rattle.uart_chip.proofs.Bits.{has_one, has_or, has_not, has_and, or_assoc}
pub use Rattle.uart_chip.proofs.Lists.{each-append, each-back, each-front}
pub use Rattle.uart_chip.proofs.McrBits.{kept_bit}
pub use Rattle.uart_chip.proofs.Sizes.{at_least_16, room_within}
pub use Rattle.uart_chip.proofs.conservation.BlockLaws.{IsOpen, path_as, Stands, look_room, passed-look}
pub use Rattle.uart_chip.proofs.conservation.Passed.{passed-mark, Passed}
pub use Rattle.uart_chip.proofs.conservation.Receives.{Drop, drop_split, Owed, Shows, no_drop-set}
pub use Rattle.uart_chip.proofs.conservation.SessionLaws.{drop_receivers, look_clears}
pub use Rattle.uart_chip.proofs.conservation.Went.{Modes, loopback-in, Went, arriving_cut, dlab-in, IsIn, went-refl, went-trans}
pub use Rattle.uart_chip.proofs.lasting.Lasting.{Lasts, LastsInEvents, chip_lasts-before, chip_lasts-before_mark, lasts-before}
pub use Rattle.uart_chip.proofs.lasting.Lasting.{lasts-before_mark, lasts-read, lasts-write}
pub use Rattle.uart_chip.proofs.soundness.Builds.{arrivals-count, whole_flowing, whole_sized}
pub use Rattle.uart_chip.proofs.soundness.Sounds.{latches-read, sound_access, sound_step, sound_mark, sound_path, sound_perform}
pub use Rattle.uart_chip.proofs.soundness.Sounds.{steady_arrive, steady_read, steady_tick, steady_ticks, steady_write, whole_perform}
pub use Rattle.uart_chip.proofs.soundness.Sounds.{whole_read, whole_tick, whole_write}
-- ---- runs of calls over the chip

pub use Rattle.uart_run.specs.Chains.{RunOf}
pub use Rattle.uart_run.specs.Progress.{most_held, IsUnheld, left, left_of}
pub use Rattle.uart_run.specs.Wired.{IsWired, IsWiredChip}
-- ---- laws of runs

pub use Rattle.uart_run.proofs.CallLaws.{InSession, session_room}
pub use Rattle.uart_run.proofs.Chains.{chain_keeps, ended, run_nothing, run_step, run_whole}
pub use Rattle.uart_run.proofs.Latches.{Kept, cuts_mark, cuts_path, kept_list}
pub use Rattle.uart_run.proofs.Sessions.{lasts_wired}
pub use Rattle.uart_run.proofs.SizeKept.{fits_by}
pub use Rattle.uart_run.proofs.Wired.{wired-ticks, wired_mark, wired_path, wired_step}
-- ---- the rings: their state, and the accesses of their calls

pub use Rattle.uart_ring.specs.Lossless.{data_written, data_read, Implies, untold_line}
pub use Rattle.uart_ring.specs.Queue.{Queue, latest}
pub use Rattle.uart_ring.specs.Receive.{AdjustsRts, EndsPause, MakesRtsIfAny, TellsIfAny, flow_character, is_flow_character, rts_at, xon}
pub use Rattle.uart_ring.specs.Receive.{AdjustsXoff, FillsReceiveRing, Obeys, ObeysXoff, PausesIfFull, held_as_told, last_told, to_tell}
pub use Rattle.uart_ring.specs.Receive.{write_if_other}
pub use Rattle.uart_ring.specs.Ring.{ring_fields, RingFields, IfAny, sendable, without_taken, OnDriver, RingDoing, Stays, free, with_paused}
pub use Rattle.uart_ring.specs.Ring.{with_queued, with_told_xoff, with_urgent, RingDid, RingSets, allowed, cleared, is_full}
pub use Rattle.uart_ring.specs.Ring.{looked, urgent_left, with_driver, with_hold, with_received, with_rounds}
pub use Rattle.uart_ring.specs.Transmit.{Pumps, ResumesTransmit, Holds, Releases}
pub use Rattle.uart_ring.specs.declared.ring.receive.ReceiveMarks.{ReceiveMarks}
pub use Rattle.uart_ring.specs.declared.ring.service.Handled.{Handled}
-- ---- laws of the rings

pub use Rattle.uart_ring.proofs.Losses.{data_written-append, sends_move, data_read-append, receives_move, resumes_lose_nothing, rts_moves}
-- ---- runs of ring calls over the chip

pub use Rattle.uart_ring_runs.specs.Edges.{is_line_up}
pub use Rattle.uart_ring_runs.specs.RingBytes.{to_take, to_send, queued_by, KeepsOrder, gone_in, to_send_with, taken_by}
pub use Rattle.uart_ring_runs.specs.RingRun.{ring_machine, RingState, under, IsOfRings, RingCallStep, RingCalled, line_answer, taken_answer}
pub use Rattle.uart_ring_runs.specs.declared.call.RingAnswer.{RingAnswer}
pub use Rattle.uart_ring_runs.specs.declared.call.RingCall.{RingCall}
-- ---- laws of runs of ring calls

pub use Rattle.uart_ring_runs.proofs.RingBlocks.{MakesBlocks, in_blocks}
pub use Rattle.uart_ring_runs.proofs.RingLasts.{wired_call}
pub use Rattle.uart_ring_runs.proofs.RingMeanings.{in_order, Meant, meaning_of}
pub use Rattle.uart_ring_runs.proofs.RingPasses.{ring_passes_call, untold_line_of, InLine, RingPasses}
pub use Rattle.uart_ring_runs.proofs.RingRts.{modes_at, begins_session, InRingSession, came_rts}
-- ---- two chips that a cable joins, as this crate defines them

pub use Rattle.uart_link.specs.Agreed.{IsText, TellsInTurn, Agree, Agreed, IsInTurn, KeepsAgreed, ObeysInTurn, not_looked_at, will_hold}
pub use Rattle.uart_link.specs.Brought.{brought, AllClean, IsBrought, numbered, IsClean}
pub use Rattle.uart_link.specs.Cable.{settled, on_cable, to_come, unknown, lines_from, events_of, arranged, lines_joined, with_ahead}
pub use Rattle.uart_link.specs.Cable.{may_happen, expecting, performed}
pub use Rattle.uart_link.specs.Carried.{IsJoined, receiver_at, OfEnd, queued_at, AllKeepOrderAt, bytes_gone, of_end, on_the_way, Carries}
pub use Rattle.uart_link.specs.Carried.{byte_of, gone_at, left_in, to_be_taken, Cleared, Gone, Taken, all_sent, not_dropped, BothReady}
pub use Rattle.uart_link.specs.Carried.{NoneCut, Queues, TakesAllGone, taken_among}
pub use Rattle.uart_link.specs.Flow.{DropsNothing, hold_of, CarriesAll, SeesLines, receive_room, arrived_in, beyond, since_at, since_call}
pub use Rattle.uart_link.specs.Flow.{AdjustsIfAny, AllInTime, BeginsPaced, Delivers, IsPaced, IsPacedStep, Pace}
pub use Rattle.uart_link.specs.Known.{AllUnmarked, IsKnown, IsUnmarked}
pub use Rattle.uart_link.specs.Link.{EndStep, at_end, Step, other, LinkChain, CabledCallStep, LinkCallStep, LetsPass}
pub use Rattle.uart_link.specs.Parts.{LinkConserves, RanLink}
pub use Rattle.uart_link.specs.Progress.{arrives_in, enough_ticks, HasRounds, ServedAll, in_calls_at, of_side, ticks_in, transmitter_at}
pub use Rattle.uart_link.specs.Progress.{AllLeaveArmed, Begin, BringAll, Comes, EmptiesReceiver, EndInNext, HandlesAll, HasJournals}
pub use Rattle.uart_link.specs.Progress.{IsEachTold, KeepsRtsOn, LeavesArmed, NoneAdjusts, NoneArrives, PassTime, Progresses, SendsOn}
pub use Rattle.uart_link.specs.Progress.{TakesAll, chip_at, enough_rounds}
pub use Rattle.uart_link.specs.Stays.{StaysAt}
pub use Rattle.uart_link.specs.Told.{NoLineAt, TellsDrops}
pub use Rattle.uart_link.specs.Xoff.{MayTell, has_told, is_holding, urged_by, xoff_hold_of, AdjustsXoffIfAny, AllObeyed, AllTellAndHold}
pub use Rattle.uart_link.specs.Xoff.{AllXoffInTime, BeginsByXoff, HoldsBack, HoldsInTime, IsPacedByXoff, IsXoffStep, ObeysInTime, SinceXoff}
pub use Rattle.uart_link.specs.Xoff.{TellsNext, XoffPace, counted_on, from_now_on, since_xoff, urgent_at}
pub use Rattle.uart_link.specs.declared.call.Moment.{Moment}
pub use Rattle.uart_link.specs.declared.call.Side.{Side}
pub use Rattle.uart_link.specs.declared.call.Side.TheVariants.{Left, Right}
pub use Rattle.uart_link.specs.declared.call.TheConstants.{CALL_MOMENTS}
pub use Rattle.uart_link.specs.declared.link.Link.{Link}
