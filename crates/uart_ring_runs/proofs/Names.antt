-- The names of other crates and of specs/ that proofs here cite, passed on from one place. Declares nothing.

-- ---- numbers, lists, results, and their laws

pub use Rattle.std.proofs.Common.{List, [], sym, ℕ, ◌∷◌, refl, ◌≡◌, subst, ◌++◌, ◌∙◌, ap, false, Bool, true, arith, Option, length, None}
pub use Rattle.std.proofs.Common.{Some, inl, inr, ◌==◌, take, ◌<◌, ◌⊎◌, not, suc, ◌≤◌, Ok, append_assoc, bit_and, bit_or, nat_lt, zero}
pub use Rattle.std.proofs.Common.{◌||◌, append-nil, length-append, ◌-◌, Err, MatchBool, Result, map, ◌+◌, min, ◌&&◌, ◌≢◌, if◌then◌else◌}
pub use Rattle.std.proofs.Common.{length-take, drop, length-drop, take-append-drop, ◌%◌, ◌/◌}
pub use Rattle.std.proofs.Math.Seq.{take-append_seam, drop-append-add, drop-append_seam}
pub use Rattle.std.proofs.lemmas.Bool.{false≢true, and_parts, not-true, or_cases}
pub use Rattle.std.proofs.lemmas.Bool.Decides.{nat_tests}
pub use Rattle.std.proofs.lemmas.Grind.{common_steps}
pub use Rattle.std.proofs.lemmas.List.{map-append, length-map, map-id, nil_from_length, take_min}
pub use Rattle.std.proofs.lemmas.List.Elements.{All-head, All-tail, All-cons, All-nil}
pub use Rattle.std.specs.List.{AllByRecursion, filter, list_any}
pub use Rattle.std.specs.Prelude.{All, MatchOption, is_some, option_to_list, ⊤}
pub use lib.Bits.{or_zero_r, and_zero_r}
-- ---- words of the kit's other libraries

pub use Rattle.bitflags.specs.Sets.{without}
-- ---- registers, accesses, configurations and errors

pub use Rattle.uart_spec.specs.Access.{Path, saved_lsr, saved_msr}
pub use Rattle.uart_spec.specs.Bits.{has_any, has, IsOnlyIfAny, flag}
pub use Rattle.uart_spec.specs.Fields.{Identifies}
pub use Rattle.uart_spec.specs.FifoSize.{characters}
pub use Rattle.uart_spec.specs.declared.access.Access.{Access}
pub use Rattle.uart_spec.specs.declared.access.Access.TheVariants.{Read, Write}
pub use Rattle.uart_spec.specs.declared.config.Config.{Config}
pub use Rattle.uart_spec.specs.declared.errors.ByteSendError.TheVariants.{NoCapacity, RemoteNotClearToSend}
pub use Rattle.uart_spec.specs.declared.errors.FifosOffError.{FifosOffError}
pub use Rattle.uart_spec.specs.declared.registers.fifo_trigger_level.FifoTriggerLevel.{FifoTriggerLevel}
pub use Rattle.uart_spec.specs.declared.registers.interrupt_type.InterruptType.{InterruptType}
-- ---- what happens from outside: events, setups, calls

pub use Rattle.uart_call.specs.declared.call.Answer.{Answer}
pub use Rattle.uart_call.specs.declared.call.Answer.TheVariants.{Done, Stalled}
pub use Rattle.uart_call.specs.declared.call.Call.{Call}
pub use Rattle.uart_events.specs.declared.event.Chip.{Chip}
pub use Rattle.uart_events.specs.declared.event.Chip.TheVariants.{Uart16550A, Uart16450}
pub use Rattle.uart_events.specs.declared.event.Event.{Event}
pub use Rattle.uart_events.specs.declared.event.Event.TheVariants.{Access as Gate, Mark, Arrive, Lines, Ticks}
-- ---- the driver: its state, and the accesses that its calls may make

pub use Rattle.uart_16550.specs.Driver.{Fields, settings_of, Doing, Saving, Did, backend_of, fields, Next, Sets}
pub use Rattle.uart_16550.specs.Frame.{unlooped, switched, SetsFrame, frame_writes, with_frame}
pub use Rattle.uart_16550.specs.Grammar.{Settings, Asks, Language, Only, Then, InOrder, Times}
pub use Rattle.uart_16550.specs.Init.{frame_bits, Inits, Begins, ChecksPresence, Discards, DrainsReceiver, Ends, SetsFifo, fifo_bits}
pub use Rattle.uart_16550.specs.Init.{line_writes, raised_outputs}
pub use Rattle.uart_16550.specs.Receive.{Receives, Hit}
pub use Rattle.uart_16550.specs.Setup.{SetsTrigger, SetsFrameWhenIdle, level_bits}
pub use Rattle.uart_16550.specs.Status.{Disables, Enables, TakesLsr, TakesMsr, retrigger_accesses}
pub use Rattle.uart_16550.specs.Transmit.{Sends, LinesAllow, SendMiss, WaitsFor, SendHit, data_writes}
pub use Rattle.uart_16550.specs.Tty.{inner_of}
pub use Rattle.uart_16550.specs.declared.driver.Uart16550.{Uart16550}
-- ---- the chip: what each access and each tick does to it

pub use Rattle.uart_chip.specs.Chip.{ChipState, is_dlab_set, cut_of, interrupt, is_loopback, is_thr_empty, after_read, enable, LatchesState}
pub use Rattle.uart_chip.specs.Chip.{control, line_status, after_write, arrive, change_lines, is_held_off, is_transmitter_empty, set_fifo}
pub use Rattle.uart_chip.specs.Chip.{tick, ticks, with_thr_pending}
pub use Rattle.uart_chip.specs.Conserved.{out, between, kept, stands}
pub use Rattle.uart_chip.specs.Laws.{reported_front, front_of, AllTold, IsTold}
pub use Rattle.uart_chip.specs.Machine.{MachineState, MachineStep, at_access, at_mark, after_access, before_access, perform}
pub use Rattle.uart_chip.specs.Masks.{ier_bits, kept_mcr}
pub use Rattle.uart_chip.specs.Receiver.{ReceiverState, front_errors, report, is_data_pending, is_timed_out, enter, grow_timeout}
pub use Rattle.uart_chip.specs.Receiver.{has_errors, replace, unreported}
pub use Rattle.uart_chip.specs.Sound.{IsSound, IsMarked}
pub use Rattle.uart_chip.specs.Transmitter.{room, TransmitterState, refill, shift, load}
pub use Rattle.uart_chip.specs.declared.receiver.Character.{Character}
pub use Rattle.uart_chip.specs.declared.transmitter.Shifting.{Shifting}
-- ---- laws of the chip

pub use Rattle.uart_chip.proofs.AccessMoves.{read_move, ReadMove, both_if, WriteMove, looks, takes, write_lasts}
pub use Rattle.uart_chip.proofs.Bits.{has_one, has_not, has_or, has_and, and_or, or_assoc}
pub use Rattle.uart_chip.proofs.FifoBits.{isr_of}
pub use Rattle.uart_chip.proofs.Lists.{each-append, each-weaker}
pub use Rattle.uart_chip.proofs.McrBits.{kept_bit}
pub use Rattle.uart_chip.proofs.Sizes.{at_least_16, some_characters}
pub use Rattle.uart_chip.proofs.conservation.BlockLaws.{path_as, IsOpen, PassedBlocks, stands-after, path_split, Stands, look_data, Took}
pub use Rattle.uart_chip.proofs.conservation.BlockLaws.{look_reported, look_room, nothing_taken, passed-look, passed_block, passed_quiet}
pub use Rattle.uart_chip.proofs.conservation.BlockLaws.{took}
pub use Rattle.uart_chip.proofs.conservation.Passed.{Passed, passed-refl, passed-trans, passed-mark, passed-access}
pub use Rattle.uart_chip.proofs.conservation.SessionLaws.{taken_entered, look_clears, received_kept, status_clears}
pub use Rattle.uart_chip.proofs.conservation.Went.{Modes, dlab-in, fixed, loopback-in}
pub use Rattle.uart_chip.proofs.lasting.Constants.{same_pace, same_pace-mark}
pub use Rattle.uart_chip.proofs.lasting.Lasting.{lasts-before, LastsInEvents, chip_lasts-before, chip_lasts-before_mark, either}
pub use Rattle.uart_chip.proofs.lasting.Lasting.{lasts-before_mark}
pub use Rattle.uart_chip.proofs.soundness.Sounds.{sound_access, sound_mark, sound_path, sound_read, sound_write}
-- ---- runs of calls over the chip

pub use Rattle.uart_run.specs.Chains.{calls_of, NoneIs, RunOf, EachLink, answers_of}
pub use Rattle.uart_run.specs.Progress.{IsUnchecked, IsTimely, HasRoom, IsUnheld, KeepsChecks}
pub use Rattle.uart_run.specs.Ready.{Ready, BurstsFit, IsInitialised}
pub use Rattle.uart_run.specs.ReceivedErrors.{character_errors, under_terminal}
pub use Rattle.uart_run.specs.Run.{CallStep, State, machine_of, Chain, IsRun, Link}
pub use Rattle.uart_run.specs.Reported.{reported_by, received_by, count_of, sent_byte_of, sent_of}
pub use Rattle.uart_run.specs.Session.{Follows, GoesOn, AllFollow, IsWithinSession}
pub use Rattle.uart_run.specs.Unhindered.{IsUnhindered}
pub use Rattle.uart_run.specs.Wired.{IsWired, IsWiredChip}
-- ---- laws of runs

pub use Rattle.uart_run.proofs.CallBlocks.{most_in, InBlocks, blocks_none, blocks_then, passed_in_blocks, receives_blocks, sends_blocks}
pub use Rattle.uart_run.proofs.CallLaws.{InSession, session_room, level_bits_keep, session_closed}
pub use Rattle.uart_run.proofs.Chains.{chain_keeps, ended, run_nothing, run_step, run_whole, step_is}
pub use Rattle.uart_run.proofs.ExactErrors.{and_twice, line_errors, none_reported}
pub use Rattle.uart_run.proofs.FrameLaws.{same_cut, GoOn, framed_by, go_within, passed_onwards, same_fifo, unlooped_off}
pub use Rattle.uart_run.proofs.Latches.{Kept, kept_step, kept_access, kept_in, kept-before_mark, keep, keep_control, kept_path, keep_write}
pub use Rattle.uart_run.proofs.Latches.{kept_after, kept_list}
pub use Rattle.uart_run.proofs.NeverSwitched.{NeverWrites, LeavesRegister, blocks_never, unwritten}
pub use Rattle.uart_run.proofs.Overruns.{lost_stays, Behind, HitTells, behind_came, came, flag_came, hit_tells}
pub use Rattle.uart_run.proofs.Pieces.{next_stages, then_parts}
pub use Rattle.uart_run.proofs.SessionCalls.{in_session, modes_of, modes_cut}
pub use Rattle.uart_run.proofs.Sessions.{Lasts, lasts_sound, lasts_wired, goes_on, lasts_call}
pub use Rattle.uart_run.proofs.SizeKept.{fits_by, fits_kept, keeps_size}
pub use Rattle.uart_run.proofs.initialising.FifoShown.{shows_64}
pub use Rattle.uart_run.proofs.initialising.Initialised.{initialises, ready_by}
-- ---- the rings: their state, and the accesses of their calls

pub use Rattle.uart_ring.specs.Armed.{ThrEmpty, known_after_all, Arms, KeepsIer, LeavesArmed, IsArmed, IsTrueOfIer, due_after_read}
pub use Rattle.uart_ring.specs.Armed.{known_after, shows_thr_empty}
pub use Rattle.uart_ring.specs.Handle.{Handles, RetriggersUnlessIdle, Retriggers, SendsAndRetriggers}
pub use Rattle.uart_ring.specs.Lossless.{data_read, data_written, Implies, LosesOnly, with_accepted, overtaken_by, untold_line}
pub use Rattle.uart_ring.specs.Lossless.{untold_modem}
pub use Rattle.uart_ring.specs.Notes.{Notes, NotesErrors, notes_of, with_access, bytes_of, errors_in, errors_of, noted_in, told_errors}
pub use Rattle.uart_ring.specs.Notes.{unnoted_in}
pub use Rattle.uart_ring.specs.Queue.{Queue, latest, with_latest}
pub use Rattle.uart_ring.specs.Receive.{rts_at, MakesRtsIfAny, FillsReceiveRing, PausesIfFull, TakesBytes, EndsPause, write_if_other}
pub use Rattle.uart_ring.specs.Receive.{AdjustsRts, AdjustsXoff, ClearsReceive, Obeys, ObeysXoff, TellsIfAny, flow_character, xon}
pub use Rattle.uart_ring.specs.Ring.{RingFields, ring_fields, RingDoing, free, RingDid, is_full, ring_backend_of, sendable}
pub use Rattle.uart_ring.specs.Ring.{waiting, IfAny, OnDriver, RingSets, Stays, allowed, urgent_left, with_hold, with_paused, with_queued}
pub use Rattle.uart_ring.specs.Ring.{with_rounds, without_sent, without_taken, AreEmpty, RingNext, cleared, driver_of, looked, unless_held}
pub use Rattle.uart_ring.specs.Ring.{with_driver, with_low, with_low_mark, with_received, with_told_xoff, with_urgent}
pub use Rattle.uart_ring.specs.Service.{SendsOnIf, ServesData, ServesOne, ServesTimes}
pub use Rattle.uart_ring.specs.Service.{Stops, ServesInterrupt, Services, IsWithin, ServesUpTo}
pub use Rattle.uart_ring.specs.Status.{TakesLine, TakesModem}
pub use Rattle.uart_ring.specs.Storm.{CountsRound, HandlesRound, StaysStuck, TriesToHandle, counts_as, every_bit, has_moved, round_limit}
pub use Rattle.uart_ring.specs.Storm.{CountsUnfinished, LooksOnceMore, Restarts, unless_stuck, TurnsOff, not_paused}
pub use Rattle.uart_ring.specs.Transmit.{Pumps, Releases, ArmsIfLeft, Holds, Queues, ResumesTransmit, SetsLowMark, TakesLow, ClearsTransmit}
pub use Rattle.uart_ring.specs.Transmit.{QueuesUrgent}
pub use Rattle.uart_ring.specs.declared.notes.ErrorNotes.{ErrorNotes}
pub use Rattle.uart_ring.specs.declared.ring.receive.ReceiveMarks.{ReceiveMarks}
pub use Rattle.uart_ring.specs.declared.ring.service.HandleEnd.{HandleEnd}
pub use Rattle.uart_ring.specs.declared.ring.service.HandleEnd.TheVariants.{Idle, Limit, Unknown}
pub use Rattle.uart_ring.specs.declared.ring.service.Handled.{Handled}
pub use Rattle.uart_ring.specs.declared.ring.service.TheConstants.{MAX_INTERRUPTS}
pub use Rattle.uart_ring.specs.declared.ring.storm.StuckError.{StuckError}
-- ---- laws of the rings

pub use Rattle.uart_ring.proofs.Losses.{adjusts_lose_nothing, Moves, data_read-append, data_written-append, receives_move, sends_move}
pub use Rattle.uart_ring.proofs.Pausing.{rid_of, Pausing, joined_with}
-- ---- runs of ring calls over the chip, as this crate defines them

pub use Rattle.uart_ring_runs.specs.Healthy.{news, IsInRoom, most_without_news, news_between}
pub use Rattle.uart_ring_runs.specs.NotedErrors.{IsInStep, shown_of, AreUnlooked, only_bytes, AreTheirs, NotedChain, NotedLink, NotedState}
pub use Rattle.uart_ring_runs.specs.NotedErrors.{links_without_notes, notes_in, without_notes, AreExact, MayBegin, NotedCallStep}
pub use Rattle.uart_ring_runs.specs.NotedErrors.{NotesExactly, link_without_notes, receiver_of}
pub use Rattle.uart_ring_runs.specs.RingArmed.{thr_empty_of, AllLeaveRingArmed, KeepsArmed, IsRingArmed, LeavesThrEmpty, RearmsRing, is_due}
pub use Rattle.uart_ring_runs.specs.RingBytes.{to_take, to_send, AllTakeInTurn, gone, gone_in, to_send_with, AllKeepOrder, TakesInTurn}
pub use Rattle.uart_ring_runs.specs.RingBytes.{queued, KeepsOrder, queued_by, ReceivesNothing, SendsNothing, gone_by, taken, taken_by}
pub use Rattle.uart_ring_runs.specs.RingFollows.{RingFollows, FollowsDriver, KeepsRingChecks, KeepsRingSize}
pub use Rattle.uart_ring_runs.specs.RingPlain.{IsPlain, AllLeaveEmptyOrDue, ArePlain, AreUntold, ConservesPlainly, IsEmptyOrDue}
pub use Rattle.uart_ring_runs.specs.RingPlain.{in_transmit_ring}
pub use Rattle.uart_ring_runs.specs.RingRun.{RingState, ring_machine, under, RingCallStep, RingLink, RingChain, IsOfRings, DriverCalled}
pub use Rattle.uart_ring_runs.specs.RingRun.{RingCalled, RingGoesOn, RingPerformed, line_answer, modem_answer}
pub use Rattle.uart_ring_runs.specs.RingSession.{AllWithinRingSession, IsWithinRingSession, RingConserves, AllRingFollow, RanRing}
pub use Rattle.uart_ring_runs.specs.RingSession.{AllSendInLine, ConservesBytesUncut, SendsInLine}
pub use Rattle.uart_ring_runs.specs.RingStatuses.{NeitherIs, RingTells, TellsAtEnd, TellsSinceFirst}
pub use Rattle.uart_ring_runs.specs.declared.call.RingAnswer.{RingAnswer}
pub use Rattle.uart_ring_runs.specs.declared.call.RingCall.{RingCall}
