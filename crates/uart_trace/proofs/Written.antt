-- What the listener of a trace has written, call by call.
use Rattle.std.proofs.Common.{◌≡◌, ℕ, Bool, true, false, cond, refl, sym, ◌∙◌, ap, subst, List, [], ◌∷◌, ◌++◌, map, drop}
use Rattle.std.specs.Prelude.{Option, None, Result, Ok, Err, OnOk, bytes_eq, codes, slice_index_or}
use Rattle.std.specs.Io.KnownBytes.{Appends}
use Rattle.std.specs.List.{flat_map, slice_split}
use Rattle.std.proofs.KnownBytes.{Appends-nil, Appends-trans}
use Rattle.std.proofs.lemmas.List.{append-nil}
use Rattle.uart_spec.specs.Access.{Path}
use Rattle.uart_spec.specs.declared.access.Access.{Access}
use Rattle.uart_language.specs.Script.{Plan}
use Rattle.uart_language.specs.declared.cause.Cause.{Cause}
use Rattle.uart_language.specs.declared.play_error.PlayError.{PlayError}
use Rattle.uart_language.specs.declared.play_error.PlayError.TheVariants as error
use Rattle.uart_trace.specs.Lines.{Adds, BeginsCall, EndsCall, HearsAccess, IsTried, IsWritten, Stays, Writes}
use Rattle.uart_trace.specs.Lines.{answer_of, answers_left, begin_said, end_said, error_of, line_of, lines_left}
use Rattle.uart_trace.specs.Run.{IsRecorded}
use Rattle.uart_trace.specs.Told.{IsTold, IsToldCall, IsToldRun}
use Rattle.uart_trace.specs.Trace.{CallTold, IsTraced, access_line, call_lines, call_said, calls_told, is_line_feed, line_said, printable}
use Rattle.uart_trace.specs.declared.tracing.Failure.{Failure}
use Rattle.uart_trace.specs.declared.tracing.Failure.TheVariants as failure
use Rattle.uart_trace.specs.declared.tracing.Lines.{Lines}
use Rattle.uart_trace.proofs.Traces.{adds_after, adds_more, adds_none, text_says}

-- ---- bytes

writes_none : (a : Option (List ℕ)) → Writes a a []
writes_none a = record { bytes = []; written = Appends-nil a; says = adds_none [] }

writes_more : (a b c : Option (List ℕ)) (said more : List (List ℕ)) → Writes a b said → Writes b c more → Writes a c (said ++ more)
writes_more a b c said more first second = record {
  bytes = first.bytes ++ second.bytes;
  written = Appends-trans a b c first.bytes second.bytes first.written second.written;
  says = adds_more [] first.bytes (first.bytes ++ second.bytes) said more first.says (adds_after first.bytes second.bytes more second.says);
}

-- ---- a call

said_by : (test : Bool) (x y z : List (List ℕ)) → (cond test [] x ++ y ++ cond test [] z) ≡ cond test y (x ++ y ++ z)
said_by true x y z = append-nil y
said_by false x y z = refl

abbrev call_of : List ℕ → List Access → List ℕ → CallTold
call_of line accesses answer = record { line = line; accesses = accesses; answer = answer }

-- what is written before its accesses, for them and after them is what is said of the call
call_whole : (line answer : List ℕ) (accesses : List Access)
    → ((begin_said line ++ map access_line accesses) ++ end_said line answer) ≡ call_said (call_of line accesses answer)
call_whole line answer accesses =
    said_by (bytes_eq line (codes "next")) (line_said line) (map access_line accesses) (line_said (codes "= " ++ answer))

-- ---- a listener

module _ {R W : Type 0} (contents : W → Option (List ℕ)) where
  written_more : (a b c : Lines R W) (said more : List (List ℕ)) → IsWritten contents said a b → IsWritten contents more b c
      → IsWritten contents (said ++ more) a c
  written_more a b c said more first second none =
      let after = second none in
      let before = first after.0 in
      (before.0, writes_more (contents a.writer) (contents b.writer) (contents c.writer) said more before.1 after.1)

  written_as : (a b : Lines R W) (said other : List (List ℕ)) → said ≡ other → IsWritten contents said a b → IsWritten contents other a b
  written_as a b said other same h = subst (λ s. IsWritten contents s a b) same h

  stays : (a : Lines R W) → Stays contents [] a a
  stays a = record { lines = refl; answers = refl; written = λ none. (none, writes_none (contents a.writer)) }

  stays_more : (a b c : Lines R W) (said more : List (List ℕ)) → Stays contents said a b → Stays contents more b c
      → Stays contents (said ++ more) a c
  stays_more a b c said more first second = record {
    lines = second.lines ∙ first.lines;
    answers = second.answers ∙ first.answers;
    written = written_more a b c said more first.written second.written;
  }

  heard : (a b : Lines R W) (accesses : List Access) → Path (HearsAccess contents) a accesses b
      → Stays contents (map access_line accesses) a b
  heard a b [] h = subst (λ (x : Lines R W). Stays contents [] a x) (sym h) (stays a)
  heard a b (access ∷ more) h =
      stays_more a h.0 b (access_line access ∷ []) (map access_line more) h.1 (heard h.0 b more h.2)

  -- the call that is next
  abbrev next_call : Lines R W → List Access → CallTold
  next_call a accesses = call_of (line_of a) accesses (answer_of a)

  told_call : (a b : Lines R W) (accesses : List Access)
      → IsToldCall (BeginsCall contents) (HearsAccess contents) (EndsCall contents) a accesses b
      → IsWritten contents (call_said (next_call a accesses)) a b × (lines_left b ≡ drop 1 (lines_left a))
      × (answers_left b ≡ drop 1 (answers_left a))
  told_call a b accesses h =
      let made : Stays contents (map access_line accesses) h.begun h.heard = heard h.begun h.heard accesses h.each in
      let before = stays_more a h.begun h.heard (begin_said (line_of a)) (map access_line accesses) h.first made in
      let line_same : line_of h.heard ≡ line_of a = ap (λ (ls : List (List ℕ)). printable (slice_index_or ls 0 [])) before.lines in
      let answer_same : answer_of h.heard ≡ answer_of a = ap (λ (ls : List (List ℕ)). printable (slice_index_or ls 0 [])) before.answers in
      let end : IsWritten contents (end_said (line_of a) (answer_of a)) h.heard b =
      written_as h.heard b (end_said (line_of h.heard) (answer_of h.heard)) (end_said (line_of a) (answer_of a))
      (ap (λ (l : List ℕ). end_said l (answer_of h.heard)) line_same ∙ ap (end_said (line_of a)) answer_same) h.last.written in
      let all = written_more a h.heard b (begin_said (line_of a) ++ map access_line accesses) (end_said (line_of a) (answer_of a))
      before.written end in (
        written_as a b ((begin_said (line_of a) ++ map access_line accesses) ++ end_said (line_of a) (answer_of a))
            (call_said (next_call a accesses))
            (call_whole (line_of a) (answer_of a) accesses) all,
        h.last.lines ∙ ap (drop 1) before.lines,
        h.last.answers ∙ ap (drop 1) before.answers,
      )

  told_calls : (a b : Lines R W) (accesses : List (List Access))
      → IsTold (BeginsCall contents) (HearsAccess contents) (EndsCall contents) a accesses b
      → IsWritten contents (flat_map call_said (calls_told (lines_left a) (answers_left a) accesses)) a b
  told_calls a b [] h = subst (λ (x : Lines R W). IsWritten contents [] a x) (sym h) (λ none. (none, writes_none (contents a.writer)))
  told_calls a b (accesses ∷ more) h =
      let first = told_call a h.0 accesses h.1 in
      let rest = told_calls h.0 b more h.2 in
      let same = ap (λ (ls : List (List ℕ)). flat_map call_said (calls_told ls (answers_left h.0) more)) first.1
      ∙ ap (λ (ls : List (List ℕ)). flat_map call_said (calls_told (drop 1 (lines_left a)) ls more)) first.2 in
      written_more a h.0 b (call_said (next_call a accesses))
      (flat_map call_said (calls_told (drop 1 (lines_left a)) (drop 1 (answers_left a)) more)) first.0
      (written_as h.0 b (flat_map call_said (calls_told (lines_left h.0) (answers_left h.0) more))
      (flat_map call_said (calls_told (drop 1 (lines_left a)) (drop 1 (answers_left a)) more)) same rest)

  -- the whole trace, with remarks at its end
  pub is_traced : {E : Type 0} (plan : Plan) (text printed : List ℕ) (a b c : Lines R W) (result : Result (Unit {0}) E)
      → IsToldRun (BeginsCall contents) (HearsAccess contents) (EndsCall contents) plan a b
      → lines_left a ≡ call_lines text → answers_left a ≡ slice_split is_line_feed printed → b.failure ≡ None
      → IsTried contents [] result b c → OnOk result (IsTraced plan text printed (contents a.writer) (contents c.writer))
  is_traced plan text printed a b c (Err e) told lines answers none tried = tt
  is_traced plan text printed a b c (Ok x) told lines answers none tried =
      let said = flat_map call_said (calls_told (lines_left a) (answers_left a) told.accesses) in
      let run = told_calls a b told.accesses told.told none in
      let all : Writes (contents a.writer) (contents c.writer) (said ++ []) =
      writes_more (contents a.writer) (contents b.writer) (contents c.writer) said [] run.1 tried.written in
      let same : said ≡ flat_map call_said (calls_told (call_lines text) (slice_split is_line_feed printed) told.accesses) =
      ap (λ (ls : List (List ℕ)). flat_map call_said (calls_told ls (answers_left a) told.accesses)) lines
      ∙ ap (λ (ls : List (List ℕ)). flat_map call_said (calls_told (call_lines text) ls told.accesses)) answers in
      record {
        accesses = told.accesses;
        recorded = told.recorded;
        written = all.bytes;
        appended = all.written;
        traced = text_says all.bytes (said ++ []) all.says ∙ append-nil said ∙ same;
      }

  -- the same, if the remarks were written
  pub is_traced_ok : {E : Type 0} (plan : Plan) (text printed : List ℕ) (a b c : Lines R W) (result : Result (Unit {0}) E)
      → IsToldRun (BeginsCall contents) (HearsAccess contents) (EndsCall contents) plan a b
      → lines_left a ≡ call_lines text → answers_left a ≡ slice_split is_line_feed printed → b.failure ≡ None
      → IsTried contents [] result b c → result ≡ Ok tt → IsTraced plan text printed (contents a.writer) (contents c.writer)
  is_traced_ok {E} plan text printed a b c result told lines answers none tried ok =
      subst (λ (r : Result (Unit {0}) E). OnOk r (IsTraced plan text printed (contents a.writer) (contents c.writer))) ok
      (is_traced plan text printed a b c result told lines answers none tried)

-- a failure is no refusal
pub never_refused : {T P : Type 0} (failed : Failure) (e : PlayError) (line : ℕ) (cause : Cause) → e ≡ error_of failed
    → ◌≡◌ {A = Result T PlayError} (Err e) (Err (error.Refused line cause)) → P
never_refused failure.OutOfMemory e line cause is same = absurd (cc)
never_refused failure.Writer e line cause is same = absurd (cc)
