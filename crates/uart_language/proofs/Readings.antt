-- Reading a script line by line, as a loop does.
use Rattle.std.proofs.Common.{◌≡◌, ℕ, ◌+◌, ◌<◌, ◌≤◌, Bool, true, false, eqb, List, [], ◌∷◌, ◌++◌, length, Result, Ok, Err}
use Rattle.std.proofs.Common.{refl, sym, ap, ◌∙◌, arith, append_assoc}
use Rattle.std.specs.Prelude.{flat_map, bytes_eq, IsOk}
use Rattle.std.specs.List.{position_or_len}
use Rattle.std.proofs.lemmas.Bool.{lt-ltb, le-ltb, eqb-true}
use Rattle.std.proofs.lemmas.List.{append-nil}
use Rattle.std.proofs.lemmas.List.Concat.{flat_map-cons}
use Rattle.uart_spec.specs.declared.setup.FifoSize.{FifoSize}
use Rattle.uart_spec.specs.declared.setup.FifoSize.TheVariants.{Sixteen}
use Rattle.uart_events.specs.declared.event.Event.{Event}
use Rattle.uart_call.specs.declared.call.Call.{Call}
use Rattle.uart_language.specs.declared.cause.Cause.{Cause}
use Rattle.uart_language.specs.declared.cause.Cause.TheVariants.{TooLong, Misplaced}
use Rattle.uart_language.specs.declared.cause.ScriptError.{ScriptError}
use Rattle.uart_language.specs.declared.cause.ScriptError.TheVariants as errors
use Rattle.uart_language.specs.declared.items.Header.{Header}
use Rattle.uart_language.specs.declared.limits.TheConstants.{MOST_BYTES, MOST_LINES, DEFAULT_LIMIT}
use Rattle.uart_language.specs.declared.parsing.Script.{Script}
use Rattle.uart_language.specs.declared.words.Word.TheVariants as word
use Rattle.uart_language.specs.Text.{lines_of, words_of, word_at}
use Rattle.uart_language.specs.Words.{name_of, fault_of, is_limited, place_of}
use Rattle.uart_language.specs.Sayings.{Saying, Nothing, events_said, calls_said}
use Rattle.uart_language.specs.Script.{Plan, limit_from, size_from}
use Rattle.uart_language.specs.Items.{item_at, header_at}
use Rattle.uart_language.specs.Reading.{Fault, sayings_from, sayings_after_first, with_saying, planned}
use Rattle.uart_language.specs.Reading.{from_lines, script_of, Refuses, BuildsPlan, Parses, added}
use Rattle.uart_language.proofs.Lines.{lines_first, is_end}

abbrev said : Saying → Result Saying Cause
said s = Ok s

abbrev refused : Cause → Result Saying Cause
refused c = Err c

pub too_long : (limited : Bool) (number : ℕ) (bytes : List ℕ) → 0 < length bytes → MOST_LINES < number
    → sayings_from limited number (lines_of bytes) ≡ Err (record { line = number; cause = TooLong })
unfolding sayings_from
too_long limited number bytes some lt = rw (lines_first bytes (position_or_len is_end bytes) some refl, lt-ltb MOST_LINES number lt) refl

pub next_is : (limited : Bool) (number : ℕ) (all line : List ℕ) (rest : List ℕ) (s : Saying) → lines_of all ≡ line ∷ lines_of rest
    → number ≤ MOST_LINES → said s ≡ item_at (place_of limited number) line
    → sayings_from limited number (lines_of all) ≡ with_saying s (sayings_from limited (number + 1) (lines_of rest))
unfolding sayings_from
next_is limited number all line rest s e le r = rw (e, le-ltb MOST_LINES number le, ← r) refl

pub next_fails : (limited : Bool) (number : ℕ) (all line : List ℕ) (rest : List ℕ) (c : Cause)
    → lines_of all ≡ line ∷ lines_of rest → number ≤ MOST_LINES → refused c ≡ item_at (place_of limited number) line
    → sayings_from limited number (lines_of all) ≡ Err (record { line = number; cause = c })
unfolding sayings_from
next_fails limited number all line rest c e le r = rw (e, le-ltb MOST_LINES number le, ← r) refl

pub fault_after : (s : Saying) (sayings : Result (List Saying) Fault) → fault_of (with_saying s sayings) ≡ fault_of sayings
fault_after s (Ok sayings) = refl
fault_after s (Err e) = refl

-- no line is left
pub no_lines : (limited : Bool) (number : ℕ) (bytes : List ℕ) → true ≡ eqb (length bytes) 0
    → sayings_from limited number (lines_of bytes) ≡ Ok []
unfolding sayings_from lines_of
no_lines limited number [] e = refl
no_lines limited number (b ∷ bytes) e = absurd (omega (arith, eqb-true _ _ (sym e)))

-- without a line, no line starts with `limit`
pub none_limited : (bytes : List ℕ) → true ≡ eqb (length bytes) 0 → false ≡ is_limited (lines_of bytes)
unfolding lines_of
none_limited [] e = refl
none_limited (b ∷ bytes) e = absurd (omega (arith, eqb-true _ _ (sym e)))

-- the first of some lines starts with `limit`, or does not
pub first_limited : (bytes line rest first : List ℕ) (b : Bool) → b ≡ bytes_eq (name_of word.Limit) first
    → first ≡ word_at 0 (words_of line) → lines_of bytes ≡ line ∷ lines_of rest → b ≡ is_limited (lines_of bytes)
first_limited bytes line rest first b e w l =
    e ∙ (ap (λ (x : List ℕ). bytes_eq (name_of word.Limit) x) w ∙ ap (λ (x : List (List ℕ)). is_limited x) (sym l))

-- one fault is that of all lines
same_fault : (part whole : Result (List Saying) Fault) (f : Fault) → fault_of part ≡ fault_of whole → part ≡ Err f → whole ≡ Err f
same_fault (Ok x) whole f e r = absurd cc
same_fault (Err g) (Ok x) f e r = absurd cc
same_fault (Err g) (Err h) f e r = cc

pub refuses : (part whole : Result (List Saying) Fault) (e : ScriptError) → fault_of part ≡ fault_of whole → Refuses e part
    → Refuses e whole
refuses part whole (errors.Refused line cause) same r = same_fault part whole _ same r
refuses part whole errors.OutOfMemory same r = r

pub all_read : (limited : Bool) (number : ℕ) (bytes : List ℕ) (whole : Result (List Saying) Fault) → true ≡ eqb (length bytes) 0
    → fault_of (sayings_from limited number (lines_of bytes)) ≡ fault_of whole → IsOk whole
all_read limited number bytes (Ok x) e h = refl
all_read limited number bytes (Err f) e h = let none = ap fault_of (no_lines limited number bytes e) in absurd cc

-- the script that plan becomes by the lines that are left
abbrev pub ends_in : Plan → Result (List Saying) Fault → Result Plan Fault
ends_in plan (Ok sayings) =
    Ok (record plan {
      limit = limit_from plan.limit sayings;
      driver_fifo_size = size_from plan.driver_fifo_size sayings;
      events = plan.events ++ flat_map events_said sayings;
      calls = plan.calls ++ flat_map calls_said sayings;
    })
ends_in plan (Err e) = Err e

limit_after : (limit : ℕ) (s : Saying) (sayings : List Saying)
    → limit_from limit (s ∷ sayings) ≡ limit_from (limit_from limit (s ∷ [])) sayings
limit_after limit Nothing sayings = refl
limit_after limit _ sayings = refl

size_after : (size : FifoSize) (s : Saying) (sayings : List Saying)
    → size_from size (s ∷ sayings) ≡ size_from (size_from size (s ∷ [])) sayings
size_after size Nothing sayings = refl
size_after size _ sayings = refl

pub grows : (plan : Plan) (s : Saying) (sayings : Result (List Saying) Fault)
    → ends_in plan (with_saying s sayings) ≡ ends_in (added plan s) sayings
grows plan s (Ok sayings) =
    let es : plan.events ++ flat_map events_said (s ∷ sayings) ≡ (plan.events ++ events_said s) ++ flat_map events_said sayings =
    ap (λ (x : List Event). plan.events ++ x) (flat_map-cons events_said s sayings)
    ∙ sym (append_assoc plan.events (events_said s) (flat_map events_said sayings)) in
    let cs : plan.calls ++ flat_map calls_said (s ∷ sayings) ≡ (plan.calls ++ calls_said s) ++ flat_map calls_said sayings =
    ap (λ (x : List Call). plan.calls ++ x) (flat_map-cons calls_said s sayings)
    ∙ sym (append_assoc plan.calls (calls_said s) (flat_map calls_said sayings)) in
    let ls : limit_from plan.limit (s ∷ sayings) ≡ limit_from (limit_from plan.limit (s ∷ [])) sayings = limit_after plan.limit s sayings in
    let zs : size_from plan.driver_fifo_size (s ∷ sayings) ≡ size_from (size_from plan.driver_fifo_size (s ∷ [])) sayings =
    size_after plan.driver_fifo_size s sayings in
    cc
grows plan s (Err e) = refl

abbrev pub empty_plan : Header → Plan
empty_plan header = record {
  chip = header.chip.model;
  fifo_size = header.chip.size;
  auto_flow = header.chip.auto_flow;
  ticks = header.ticks;
  wire_capacity = header.wire_capacity;
  cuts = header.cuts;
  limit = DEFAULT_LIMIT;
  driver_fifo_size = Sixteen;
  events = [];
  calls = [];
}

pub starts : (header : Header) (sayings : Result (List Saying) Fault) → ends_in (empty_plan header) sayings ≡ planned header sayings
unfolding planned
starts header (Ok sayings) = refl
starts header (Err e) = refl

ended : (plan : Plan) → ends_in plan (Ok []) ≡ Ok plan
ended plan =
    let es : plan.events ++ [] ≡ plan.events = append-nil plan.events in
    let cs : plan.calls ++ [] ≡ plan.calls = append-nil plan.calls in
    rw (es, cs) refl

pub all_built : (limited : Bool) (number : ℕ) (bytes : List ℕ) (plan : Plan) (whole : Result Plan Fault)
    → true ≡ eqb (length bytes) 0 → ends_in plan (sayings_from limited number (lines_of bytes)) ≡ whole → whole ≡ Ok plan
all_built limited number bytes plan whole e h = sym h ∙ ap (ends_in plan) (no_lines limited number bytes e) ∙ ended plan

-- a line that is reported while the script is built
pub build_refuses : (plan : Plan) (part : Result (List Saying) Fault) (whole : Result Plan Fault) (e : ScriptError)
    → ends_in plan part ≡ whole → Refuses e part → Refuses e whole
build_refuses plan part whole (errors.Refused line cause) h r = sym h ∙ ap (ends_in plan) r
build_refuses plan part whole errors.OutOfMemory h r = r

pub builds_refused : (e : ScriptError) (whole : Result Plan Fault) → Refuses e whole → BuildsPlan (Err e) whole
builds_refused (errors.Refused line cause) whole r = r
builds_refused errors.OutOfMemory whole r = tt

-- ---- the whole

abbrev header_read : Header → Result Header Cause
header_read h = Ok h

abbrev header_refused : Cause → Result Header Cause
header_refused c = Err c

pub whole_too_long : (bytes : List ℕ) → MOST_BYTES < length bytes → script_of bytes ≡ Err (record { line = 0; cause = TooLong })
unfolding script_of
whole_too_long bytes lt = rw (lt-ltb MOST_BYTES (length bytes) lt) refl

pub no_first_line : (bytes : List ℕ) → true ≡ eqb (length bytes) 0 → script_of bytes ≡ Err (record { line = 1; cause = Misplaced })
unfolding script_of from_lines lines_of
no_first_line [] e = refl
no_first_line (b ∷ bytes) e = absurd (omega (arith, eqb-true _ _ (sym e)))

pub first_line_fails : (bytes line rest : List ℕ) (c : Cause) → length bytes ≤ MOST_BYTES → lines_of bytes ≡ line ∷ lines_of rest
    → header_refused c ≡ header_at line → script_of bytes ≡ Err (record { line = 1; cause = c })
unfolding script_of from_lines
first_line_fails bytes line rest c le e h = rw (le-ltb MOST_BYTES (length bytes) le, e, ← h) refl

pub first_line_is : (bytes line rest : List ℕ) (header : Header) → length bytes ≤ MOST_BYTES → lines_of bytes ≡ line ∷ lines_of rest
    → header_read header ≡ header_at line → script_of bytes ≡ planned header (sayings_after_first (lines_of rest))
unfolding script_of from_lines
first_line_is bytes line rest header le e h = rw (le-ltb MOST_BYTES (length bytes) le, e, ← h) refl

later_fails : (header : Header) (sayings : Result (List Saying) Fault) (e : ScriptError) → Refuses e sayings
    → Parses (Err e) (planned header sayings)
unfolding planned
later_fails header sayings (errors.Refused line cause) r = rw r refl
later_fails header sayings errors.OutOfMemory r = absurd r

pub later_line_fails : (header : Header) (sayings : Result (List Saying) Fault) (whole : Result Plan Fault) (e : ScriptError)
    → whole ≡ planned header sayings → Refuses e sayings → Parses (Err e) whole
later_line_fails header sayings whole e h r = rw h (later_fails header sayings e r)

is_script : (header : Header) (sayings : Result (List Saying) Fault) → IsOk sayings → IsOk (planned header sayings)
unfolding planned
is_script header (Ok sayings) e = refl
is_script header (Err f) e = absurd cc

-- if there is a script, out of memory says no more
parses : (r : Result Script ScriptError) (read : Result Plan Fault) → IsOk read → BuildsPlan r read → Parses r read
parses (Ok s) read ok h = h
parses (Err (errors.Refused line cause)) read ok h = h
parses (Err errors.OutOfMemory) read ok h = ok

pub all_parsed : (header : Header) (sayings : Result (List Saying) Fault) (whole : Result Plan Fault) (r : Result Script ScriptError)
    → whole ≡ planned header sayings → IsOk sayings → BuildsPlan r (planned header sayings) → Parses r whole
all_parsed header sayings whole r h ok b = rw h (parses r _ (is_script header sayings ok) b)
