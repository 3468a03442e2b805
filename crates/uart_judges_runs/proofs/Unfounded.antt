-- No warning of a session is without a cause: the twelve that are about how a call is made never come, and the other nine only with theirs.
use Rattle.std.proofs.Common.{if◌then◌else◌}
use Rattle.std.proofs.Common.{◌≡◌, ◌≤◌, ℕ, Bool, true, false, not, ◌&&◌, ◌||◌, List, [], ◌∷◌, Option, Some, None, refl, sym, ◌∙◌, subst}
use Rattle.std.proofs.Common.{arith}
use Rattle.std.proofs.lemmas.Bool.{or_parts}
use Rattle.uart_spec.specs.declared.access.Access.{Access as RegisterAccess}
use Rattle.uart_16550.specs.Driver.{Fields, settings_of}
use Rattle.uart_call.specs.declared.call.Answer.{Answer}
use Rattle.uart_call.specs.declared.call.Call.{Call}
use Rattle.uart_calls.specs.Lists.{IsListOf}
use Rattle.uart_spec.specs.FifoSize.{characters}
use Rattle.uart_spec.specs.declared.setup.FifoSize.{FifoSize}
use Rattle.uart_spec.specs.declared.setup.FifoSize.TheVariants.{Sixteen}
use Rattle.uart_chip.specs.Transmitter.{room}
use Rattle.uart_judges.specs.Findings.{findings_at, is_held, is_open}
use Rattle.uart_judges.specs.History.{known}
use Rattle.uart_judges.specs.Steps.{depth}
use Rattle.uart_judges.specs.declared.audit.auditor.Auditor.{Auditor}
use Rattle.uart_judges.specs.declared.audit.finding.Finding.{Finding}
use Rattle.uart_judges.specs.declared.audit.finding.Finding.TheVariants as found
use Rattle.uart_judges.specs.declared.recording.entry.Entry.{Entry}
use Rattle.uart_judges_runs.specs.Calls.{AreTaken, AreTakenFrom, IsSteady, KnowsAsTaken}
use Rattle.uart_judges_runs.specs.Causes.{AreShownFor, AreShownFrom, AsksFor, Causes, IsSetUpFor, KnowsFor}
use Rattle.uart_judges_runs.specs.Causes.{cause_some, has_cause, is_unfounded, is_warning}
use Rattle.uart_judges_runs.specs.Lost.{IsSo}
use Rattle.uart_judges_runs.specs.Told.{of_fifos}
use Rattle.uart_judges_runs.specs.Recorded.{HasNone, IsNot, NoneIs, accesses_in, is_of_calls, some_such, told}
use Rattle.uart_run.proofs.CallBlocks.{most_in}
use Rattle.uart_judges_runs.proofs.CallLists.{goes_list, list_of, fits_at_once}
use Rattle.uart_judges_runs.proofs.Founded.{is_of_caller}
use Rattle.uart_judges_runs.proofs.GoodCalls.{good_list}
use Rattle.uart_judges_runs.proofs.GoodLists.{Causal}
use Rattle.uart_judges_runs.proofs.Settled.{Settled, Stage}
use Rattle.uart_judges_runs.proofs.Walks.{Walks, by, founded_walk}

-- ---- twelve and nine

-- a warning is one of the twelve or of the nine
-- bytes beyond the room are told, or fit
beyond : (c : Causes) (other fits : Bool) (x y : ℕ) (sent : ℕ) →
    some_such is_of_calls (if other then Some (found.SentBeyondRoom sent x) else if fits then None else Some (found.SentBeyondRoom sent y))
    ≡ false →
    some_such (is_unfounded c) (if other then Some (found.SentBeyondRoom sent x) else if fits then None else Some
    (found.SentBeyondRoom sent y))
    ≡ false
beyond c true fits x y sent p = absurd (cc)
beyond c false true x y sent p = refl
beyond c false false x y sent p = absurd (cc)

neither : (size : FifoSize) (c : Causes) (f : Finding) → told (characters size) is_of_calls f ≡ false → is_of_caller c f ≡ false →
    told (characters size) (is_unfounded c) f ≡ false
neither size c (found.SentBeyondRoom sent space) p q = beyond c _ _ _ _ sent p
neither size c (found.SentIntoLatch byte) p q = absurd (cc)
neither size c (found.SentInBreak byte) p q = q
neither size c (found.SentInLoopback byte) p q = absurd (cc)
neither size c (found.WordTooShort byte) p q = q
neither size c found.SentWithoutCts p q = q
neither size c found.InterruptsCutOff p q = q
neither size c found.ReceivedFromEmpty p q = absurd (cc)
neither size c found.ReceivedWithoutLook p q = absurd (cc)
neither size c found.ErrorsNotRead p q = absurd (cc)
neither size c (found.ErrorsLost arrived) p q = q
neither size c found.ReceivedFromLatch p q = absurd (cc)
neither size c (found.InterruptsIntoLatch value) p q = absurd (cc)
neither size c found.HighByteNotSet p q = absurd (cc)
neither size c found.ZeroDivisor p q = q
neither size c found.FrameChangedWhileSending p q = absurd (cc)
neither size c found.DivisorChangedWhileSending p q = absurd (cc)
neither size c found.ResetWhileSending p q = absurd (cc)
neither size c found.WaitingDiscarded p q = absurd (cc)
neither size c (found.NotServed identified) p q = q
neither size c (found.LeftWithLineUp line) p q = q
neither size c _ p q = refl

-- what is none of the first and none of the second is none of the third
abbrev Joins : (P Q R : Finding → Bool) → Type 0
Joins P Q R = (f : Finding) → P f ≡ false → Q f ≡ false → R f ≡ false

is_neither : (P Q R : Finding → Bool) (o : Option Finding) → Joins P Q R → IsNot P o → IsNot Q o → IsNot R o
is_neither P Q R None join p q = tt
is_neither P Q R (Some f) join p q = join f p q

none_is : (P Q R : Finding → Bool) (l : List (Option Finding)) → Joins P Q R → NoneIs P l → NoneIs Q l → NoneIs R l
none_is P Q R [] join p q = tt
none_is P Q R (o ∷ l) join p q = (is_neither P Q R o join p.0 q.0, none_is P Q R l join p.1 q.1)

has_none : (P Q R : Finding → Bool) (past entries : List Entry) → Joins P Q R → HasNone P past entries → HasNone Q past entries →
    HasNone R past entries
has_none P Q R past [] join p q = tt
has_none P Q R past (e ∷ es) join p q = (none_is P Q R (findings_at e past) join p.0 q.0, has_none P Q R (e ∷ past) es join p.1 q.1)

pub unfounded : (size : FifoSize) (c : Causes) (past entries : List Entry) → HasNone (told (characters size) is_of_calls) past entries →
    HasNone (is_of_caller c) past entries → HasNone (told (characters size) (is_unfounded c)) past entries
unfounded size c past entries p q =
    has_none (told (characters size) is_of_calls) (is_of_caller c) (told (characters size) (is_unfounded c)) past entries
    (neither size c) p q

-- without a cause there is no warning at all
both_off : (on b d : Bool) → (on && (b || d)) ≡ false → ((on && b) ≡ false) × ((on && d) ≡ false)
both_off true b d e = or_parts b d e
both_off false b d e = (refl, refl)

none_of : (c : Causes) → cause_some c ≡ false → (f : Finding) → has_cause c f ≡ false
none_of c e f =
    let cuts = (or_parts c.break_is_sent _ e).1 in
    let unchecked = (or_parts c.bytes_are_cut _ cuts).1 in
    let interrupts = (or_parts (c.cts_is_unchecked && c.msr_is_read) _ unchecked).1 in
    let fifos = (or_parts (c.interrupts_are_on && (c.isr_is_read || c.out2_is_off)) _ interrupts).1 in
    let off = both_off c.interrupts_are_on c.isr_is_read c.out2_is_off (or_parts _ (c.fifos_are_off || c.divisor_is_zero) interrupts).0 in
    go f (or_parts c.break_is_sent _ e).0 (or_parts c.bytes_are_cut _ cuts).0 (or_parts (c.cts_is_unchecked && c.msr_is_read) _ unchecked).0
    off.0 off.1 (or_parts c.fifos_are_off _ fifos).0 (or_parts c.fifos_are_off _ fifos).1
  where
    go : (f : Finding) → c.break_is_sent ≡ false → c.bytes_are_cut ≡ false → (c.cts_is_unchecked && c.msr_is_read) ≡ false →
        (c.interrupts_are_on && c.isr_is_read) ≡ false → (c.interrupts_are_on && c.out2_is_off) ≡ false → c.fifos_are_off ≡ false →
        c.divisor_is_zero ≡ false → has_cause c f ≡ false
    go (found.SentInBreak byte) a b d g h i j = a
    go (found.WordTooShort byte) a b d g h i j = b
    go found.SentWithoutCts a b d g h i j = d
    go found.InterruptsCutOff a b d g h i j = h
    go (found.ErrorsLost arrived) a b d g h i j = i
    go found.ZeroDivisor a b d g h i j = j
    go (found.NotServed identified) a b d g h i j = g
    go (found.LeftWithLineUp line) a b d g h i j = g
    go _ a b d g h i j = refl

no_warning : (b : Bool) → (b && true) ≡ false → b ≡ false
no_warning true e = absurd (cc)
no_warning false e = refl

causeless : (c : Causes) → cause_some c ≡ false → (f : Finding) → is_unfounded c f ≡ false → is_warning f ≡ false
causeless c none f e =
    let g : (is_warning f && not (has_cause c f)) ≡ false = e in
    no_warning (is_warning f) (subst (λ (b : Bool). (is_warning f && not b) ≡ false) (none_of c none f) g)

some_weaker : (P R : Finding → Bool) (o : Option Finding) → ((f : Finding) → P f ≡ false → R f ≡ false) → some_such P o ≡ false →
    some_such R o ≡ false
some_weaker P R None weaker p = refl
some_weaker P R (Some f) weaker p = weaker f p

pub causeless_recording : (size : FifoSize) (c : Causes) (past entries : List Entry) → cause_some c ≡ false →
    HasNone (told (characters size) (is_unfounded c)) past entries → HasNone (told (characters size) is_warning) past entries
causeless_recording size c past entries none p =
    has_none (told (characters size) (is_unfounded c)) (told (characters size) (is_unfounded c)) (told
    (characters size) is_warning) past entries
    (λ f q r. some_weaker (is_unfounded c) is_warning (of_fifos (characters size) f) (λ g h. causeless c none g h) q) p p

-- ---- a list of accesses

-- what is read is seen
pub walks_of : (c : Causes) (line : ℕ) (fifo : Bool) (l : List RegisterAccess) (f : Stage) (End : Stage → Type 0) →
    AreShownFrom c line f.opened l → AreTakenFrom fifo f.opened l → Causal c line fifo f l End → Walks c line f l
walks_of c line fifo [] f End shown taken p = tt
walks_of c line fifo (x ∷ l) f End shown taken p =
    let r = p (shown.0, taken.0) in (r.0, walks_of c line fifo l (by x f) End shown.1 taken.1 r.1)

-- what is known at the beginning
shut : (o : Option Bool) → is_open o ≡ false → IsSo o (λ on. on ≡ false)
shut None e = tt
shut (Some on) e = e

on_room : (fifo : Bool) (o : Option Bool) → fifo ≡ true → room fifo Sixteen ≤ depth o → IsSo o (λ on. on ≡ true)
on_room true None e few = tt
on_room true (Some true) e few = refl
on_room true (Some false) e few = absurd (omega arith)
on_room false o e few = absurd (cc)

-- before a session MSR may have shown CTS clear, if the driver checks it before it sends
abbrev pub first : Fields → Stage
first f = record { opened = false; held = f.config.check_cts_before_sending; looked = false }

unheld : (b d e held : Bool) → (b ≡ false → d ≡ true) → (b ≡ true → e ≡ false → held ≡ false) → (b && e) ≡ false → d ≡ false → held ≡ false
unheld true d true held p q n g = absurd (cc)
unheld true d false held p q n g = q refl refl
unheld false d e held p q n g = absurd (let x : true ≡ false = sym (p refl) ∙ g in cc)

pub settled_at_first : (c : Causes) (line : ℕ) (f : Fields) (a : Auditor) → IsSetUpFor c line f → KnowsAsTaken f.fifo a →
    KnowsFor c line a →
    Settled c line (first f) a
settled_at_first c line f a set taken k = record {
  dlab = shut a.setup.is_open taken.dlab;
  lcr = k.lcr;
  interrupts = k.interrupts;
  not_handling = k.not_handling;
  out2 = k.out2;
  divisor = k.divisor;
  fifos = λ on. on_room f.fifo a.setup.has_fifo (set.fifos on) taken.room;
  clear = λ n g. unheld c.cts_is_unchecked f.config.check_cts_before_sending c.msr_is_read
      (is_held a.cts && a.was_cts_set) set.checks k.clear n g;
  seen = λ e g. absurd (cc);
}

-- ---- a call

pub unfounded_call : (c : Causes) (line : ℕ) (call : Call) (before after : Fields) (accesses : List RegisterAccess) (answer : Answer)
    (past entries : List Entry) → IsSteady call → AsksFor c line call → IsSetUpFor c line before →
    IsListOf call before accesses answer after →
    AreTaken before.fifo accesses → AreShownFor c line accesses → KnowsAsTaken before.fifo (known past) → KnowsFor c line (known past) →
    accesses_in entries ≡ accesses → HasNone (told (characters before.size) (is_unfounded c)) past entries
unfounded_call c line call before after accesses answer past entries steady asks set list taken shown knows knows_for is =
    let f : Stage = first before in
    let twelve = (goes_list before.size before.fifo (most_in (settings_of before)) accesses (fits_at_once before)
    (list_of call before after accesses answer steady list) taken past entries is knows).0 in
    let causal = good_list c line before set call after accesses answer steady asks list before.config.check_cts_before_sending false
    (λ n e. e) in
    let walks : Walks c line f accesses = walks_of c line before.fifo accesses f _ shown taken causal in
    let nine = founded_walk c line set.dlab set.not_in_break f past entries
    (subst (λ (l : List RegisterAccess). Walks c line f l) (sym is) walks)
    (settled_at_first c line before (known past) set knows knows_for) in
    unfounded before.size c past entries twelve nine

-- ---- a judge that knows nothing

pub known_at_first : (fifo : Bool) → KnowsAsTaken fifo (known [])
known_at_first true = record { dlab = refl; loopback = refl; room = omega arith }
known_at_first false = record { dlab = refl; loopback = refl; room = omega arith }

pub known_for_at_first : (c : Causes) (line : ℕ) → KnowsFor c line (known [])
known_for_at_first c line = record {
  lcr = tt;
  interrupts = λ e. refl;
  not_handling = λ e. refl;
  clear = λ e g. refl;
  out2 = λ e. refl;
  divisor = λ e. refl;
}
