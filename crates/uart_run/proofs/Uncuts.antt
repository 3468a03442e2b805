-- A run over a machine without the option: nothing is cut.
use Rattle.uart_run.proofs.Names.{◌≡◌, ◌⊎◌, ℕ, Bool, false, List, [], ◌∷◌, ◌++◌, map, refl, ap, sym, ◌∙◌, subst, filter, map-id, Character}
use Rattle.uart_run.proofs.Names.{Call, Answer, Done, LoopbackRefused, ChipState, word_length, cut_to, cut_of, MachineState, stands}
use Rattle.uart_run.proofs.Names.{arriving, cut_character, between, entered, State, machine_of, Link, Chain, is_narrow, test_answer}
use Rattle.uart_run.proofs.Names.{reported, Conserves, Follows, AllFollow, Ran, IsUncut, entered_uncut, ConservesUncut, TestsUncut}
use Rattle.uart_run.proofs.Names.{FollowsUncut, AllFollowUncut, RanUncut, IsSound}
use Rattle.uart_spec.specs.declared.errors.LoopbackError.TheVariants.{Stalled}
use Rattle.uart_call.specs.declared.call.Call.TheVariants as call
use Rattle.uart_chip.specs.Conserved.{out}
use Rattle.uart_run.proofs.Latches.{cuts_path, cuts_mark}
use Rattle.uart_run.proofs.Sessions.{Lasts, lasts_call, lasts_chain, sound_chain, uncut_session_conserves}

lasts_uncut : Lasts (λ (m : MachineState). m.chip.cuts ≡ false)
lasts_uncut = record { path = cuts_path false; mark = cuts_mark false }

-- ---- a session

pub whole_cut : (c : ChipState) → c.cuts ≡ false → cut_of c ≡ (λ (byte : ℕ). byte)
whole_cut c e = ap {B = ℕ → ℕ} (λ (cuts : Bool) (byte : ℕ). cut_to cuts (word_length c.latches.lcr) byte) e

pub entered_whole : (m n : MachineState) → m.chip.cuts ≡ false → entered m n ≡ entered_uncut m n
entered_whole m n e =
    let came : List Character = arriving m.chip.receiver.arrived (between m n) in
    ap (λ (cut : ℕ → ℕ). m.chip.receiver.queue ++ map (cut_character cut) came) (whole_cut m.chip e) ∙
    ap (λ (characters : List Character). m.chip.receiver.queue ++ characters) (map-id came)

conserves_uncut : (s t : State) (links : List Link) → IsUncut s → Conserves s links t → ConservesUncut s links t
conserves_uncut s t links e c =
    let same = entered_whole (machine_of s) (machine_of t) e in
    let byte : Character → ℕ = λ character. character.byte in
    record {
      ready = c.ready;
      unbroken = c.unbroken;
      sent =
          c.sent ∙ (ap (λ (cut : ℕ → ℕ). out (machine_of s) ++ map cut (reported links)) (whole_cut (machine_of s).chip e) ∙
          ap (λ (bytes : List ℕ). out (machine_of s) ++ bytes) (map-id (reported links)));
      no_overflow = c.no_overflow;
      kept = c.kept ∙ ap (λ (characters : List Character). map byte (filter (stands (machine_of t).chip.receiver) characters)) same;
      all_entered = same;
      tells = c.tells;
      served = c.served;
    }

-- ---- a loopback test

wide : (c : ChipState) → c.cuts ≡ false → is_narrow c ≡ false
wide c e = rw e refl

tests_uncut : (s t : State) (a : Answer) → IsUncut s → Follows s call.TestLoopback a t → TestsUncut s a t
tests_uncut s t a e f =
    let same : test_answer (is_narrow (machine_of s).chip) ≡ Done = ap test_answer (wide (machine_of s).chip e) in
    record {
      answers = λ ready. subst (λ (b : Answer). (a ≡ b) ⊎ (a ≡ LoopbackRefused Stalled)) same (f.comes_to ready).answers;
      leaves = λ ready done. (f.comes_to ready).leaves (done ∙ sym same);
      succeeds = λ timely ready unheld room. f.succeeds timely ready unheld room ∙ same;
    }

follows_uncut : (s t : State) (call : Call) (a : Answer) → IsUncut s → Follows s call a t → FollowsUncut s call a t
follows_uncut s t call.TestLoopback a e f = tests_uncut s t a e f
follows_uncut s t other a e f = tt

all_follow_uncut : (s t : State) (links : List Link) → IsUncut s → Chain s links t → AllFollow links → AllFollowUncut links
all_follow_uncut s t [] e h f = tt
all_follow_uncut s t (link ∷ links) e h f =
    let U : State → Type 0 = λ v. IsUncut v in
    let here = subst U (sym h.0) e in (
      follows_uncut link.before link.after link.call link.answer here f.0,
      all_follow_uncut link.after t links (lasts_call link.before link.after link.call link.answer lasts_uncut here h.1) h.2 f.1,
    )

-- ---- a run

pub ran_uncut : (s t : State) (calls : List Call) (answers : List Answer) → IsSound (machine_of s) → Ran s calls answers t → IsUncut s →
    RanUncut s calls answers t
ran_uncut s t calls answers sound r e = record {
  run = r.run;
  follows = r.follows;
  tests = all_follow_uncut s t r.run.links e r.run.chain r.follows;
  sessions = λ front session rest a b parts before within after is.
      let here = lasts_chain s a front lasts_uncut e before in
      conserves_uncut a b session here
      (uncut_session_conserves a b session (sound_chain s a front sound before) (whole_cut (machine_of a).chip here) is within);
}
