-- Runs: each call of one follows what is promised of it alone, and each session in it conserves.
use Rattle.uart_run.proofs.Names.{List, [], ◌∷◌, sym, subst, fields, settings_of, inner_of, Call, Answer, IsSound, State, machine_of, Link}
use Rattle.uart_run.proofs.Names.{Chain, CallStep, IsRun, ComesTo, IsTimely, Succeeds, Follows, AllFollow, Ran}
use Rattle.uart_call.specs.declared.call.Call.TheVariants as call
use Rattle.uart_run.proofs.Sessions.{session_conserves, lasts_call, lasts_wired, sound_call, sound_chain}
use Rattle.uart_run.proofs.refining.PortRuns.{session_refines}
use Rattle.uart_run.proofs.{FrameLaws.frames, FrameLaws.attach_takes, FrameLaws.attach_finds, SetupLaws.frames_when_idle, SetupLaws.levels}
use Rattle.uart_run.proofs.{SetupLaws.quiets, SetupLaws.restores, OutputLaws.sets_outputs, OutputLaws.switches_rts, OutputLaws.switches_dtr}
use Rattle.uart_run.proofs.{CheckAnswers.checks, initialising.SetUp.arranges, initialising.Initialised.initialises}
use Rattle.uart_run.proofs.{loopback.LoopTests.tested, SizeKept.size_kept, SizeKept.sizes_kept, SizeKept.checks_kept, SizeKept.fits_kept}
use Rattle.uart_run.proofs.{ReadyKept.follows_ready, progress.Timely.timely_kept, progress.Timely.flow_kept}
use Rattle.uart_run.proofs.{initialising.InitSucceeds.init_succeeds, loopback.LoopSucceeds.test_succeeds}
use Rattle.uart_run.proofs.progress.Succeeds.{flush_succeeds, write_succeeds, send_exact_succeeds, text_succeeds}
use Rattle.uart_run.proofs.initialising.InitWithSucceeds.{init_with_succeeds, frame_when_idle_succeeds}

-- what a call comes to
comes_to : (s t : State) (call : Call) (a : Answer) → IsSound (machine_of s) → CallStep s call a t → ComesTo s call a t
comes_to s t (call.Init config) a w h = initialises s t config a w h
comes_to s t (call.InitWith config setup) a w h = arranges s t config setup a w h
comes_to s t call.Attach a w h = attach_takes s t a h
comes_to s t (call.SetFrame config) a w h = frames s t config a h
comes_to s t (call.SetFrameWhenIdle config) a w h = frames_when_idle s t config a h
comes_to s t (call.SetTriggerLevel level) a w h = levels s t level a w h
comes_to s t (call.SetModemControl outputs) a w h =
    sets_outputs s t outputs.0 (settings_of (fields (inner_of s))) h.did.list h.did.does.0 h.did.path
comes_to s t (call.SetRts on) a w h = switches_rts s t on (settings_of (fields (inner_of s))) h.did.list w h.did.does.0 h.did.path
comes_to s t (call.SetDtr on) a w h = switches_dtr s t on (settings_of (fields (inner_of s))) h.did.list w h.did.does.0 h.did.path
comes_to s t (call.CheckConfigured outputs) a w h = checks s t outputs a h
comes_to s t (call.Quiesce outputs fifos) a w h = quiets s t outputs.0 fifos h.did.list w h.did.does h.did.path
comes_to s t (call.Restore dump) a w h = restores s t dump h.did.list w h.did.does h.did.path
comes_to s t call.TestLoopback a w h = λ ready. tested s t a w ready h
comes_to s t other a w h = tt

-- and that it succeeds
succeeds : (s t : State) (call : Call) (a : Answer) → IsSound (machine_of s) → CallStep s call a t → IsTimely s → Succeeds s call a
succeeds s t (call.Init config) a w h timely =
    λ room divisor. init_succeeds s t config a w timely room divisor h (initialises s t config a w h).is_present
succeeds s t (call.InitWith config setup) a w h timely =
    λ unheld room divisor. init_with_succeeds s t config setup a w timely unheld room divisor h (arranges s t config setup a w h).is_present
succeeds s t (call.SetFrameWhenIdle config) a w h timely =
    λ ready unheld room divisor.
    frame_when_idle_succeeds s t config a h.did.list h.outcome w timely unheld room divisor h.answered h.did.does h.did.path
succeeds s t call.Attach a w h timely = λ ready some. attach_finds s t a h ready some
succeeds s t call.TestLoopback a w h timely = λ ready unheld room. test_succeeds s t a w ready timely unheld room h
succeeds s t call.Flush a w h timely =
    λ ready unheld room. flush_succeeds s t a h.did.list h.outcome w timely unheld room h.answered h.did.does.0 h.did.path
succeeds s t (call.SendExact bytes) a w h timely =
    λ ready unheld off room.
    send_exact_succeeds s t a h.did.list bytes.items h.outcome w ready timely unheld off room h.answered h.did.does.0 h.did.path
succeeds s t (call.Write bytes) a w h timely =
    λ ready unheld off room.
    write_succeeds s t a h.did.list bytes.items h.outcome w timely unheld off room h.answered h.did.does.0 h.did.path
succeeds s t (call.Text text) a w h timely =
    λ ready unheld off room.
    text_succeeds s t a h.did.list text.bytes h.outcome w ready timely unheld off room h.answered h.did.does.0.1 h.did.path
succeeds s t other a w h timely = tt

follow_chain : (s t : State) (links : List Link) → IsSound (machine_of s) → Chain s links t → AllFollow links
follow_chain s t [] w h = tt
follow_chain s t (link ∷ links) w h =
    let S : State → Type 0 = λ v. IsSound (machine_of v) in
    let begins = subst S (sym h.0) w in
    let follows : Follows link.before link.call link.answer link.after = record {
      ready = follows_ready link.before link.after link.call link.answer begins h.1;
      fits = fits_kept link.before link.after link.call link.answer h.1;
      wired = λ wired. lasts_call link.before link.after link.call link.answer lasts_wired wired h.1;
      takes = size_kept link.before link.after link.call link.answer h.1;
      size = sizes_kept link.before link.after link.call link.answer h.1;
      timely = timely_kept link.before link.after link.call link.answer h.1;
      checks = checks_kept link.before link.after link.call link.answer h.1;
      flow = flow_kept link.before link.after link.call link.answer h.1;
      comes_to = comes_to link.before link.after link.call link.answer begins h.1;
      succeeds = succeeds link.before link.after link.call link.answer begins h.1;
    } in
    (follows, follow_chain link.after t links (sound_call link.before link.after link.call link.answer begins h.1) h.2)

-- a run from a sound machine
pub ran : (s t : State) (calls : List Call) (answers : List Answer) → IsSound (machine_of s) → IsRun s calls answers t →
    Ran s calls answers t
ran s t calls answers sound r = record {
  run = r;
  follows = follow_chain s t r.links sound r.chain;
  sessions =
      λ front session rest a b parts before within after is. session_conserves a b session (sound_chain s a front sound before) is within;
  port =
      λ front session rest a b parts before within after is. session_refines a b session (sound_chain s a front sound before) is within;
}
