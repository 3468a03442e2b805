-- Every script can be played: its numbers are in their ranges, its events are legal and its calls runnable.
use Rattle.std.proofs.Common.{◌≡◌, ℕ, suc, ◌+◌, ◌*◌, ◌<◌, ◌≤◌, Bool, true, false, cond, leb, eqb, ◌&&◌, List, [], ◌∷◌, length, Result, Ok}
use Rattle.std.proofs.Common.{Err, Option, refl, sym, subst, arith, bit_and, ap, map, get_or}
use Rattle.std.specs.Prelude.{All, IfSome, flat_map}
use Rattle.std.specs.Char.{is_ascii_hexdigit, digit_value}
use Rattle.std.specs.Str.Parse.{digits_value}
use Rattle.std.proofs.lemmas.Bool.{agree_below_at, eqb-true, leb-true, and_parts}
use Rattle.std.proofs.lemmas.Bool.Decides.{nat_tests}
use Rattle.std.proofs.lemmas.List.Elements.{All-nil, All-cons, All-append}
use Rattle.std.proofs.lemmas.List.{get_or-map, length-map}
use Rattle.std.proofs.lemmas.List.Concat.{flat_map-cons}
use Rattle.uart_spec.specs.declared.config.BaudRate.{BaudRate}
use Rattle.uart_spec.specs.declared.config.BaudRate.TheVariants as rate
use Rattle.uart_spec.specs.BaudRate.{to_integer}
use Rattle.uart_language.specs.declared.cause.Cause.{Cause}
use Rattle.uart_language.specs.declared.cause.Cause.TheVariants.{BadWord}
use Rattle.uart_language.specs.declared.limits.TheConstants.{MOST_LIMIT, MOST_RATE, SCRIPT_DIGITS}
use Rattle.uart_language.specs.Fields.{◌>>=◌, is_number, number_in, number_of, lines_in, errors_in, rate_of, rate_in}
use Rattle.uart_call.specs.declared.call.Call.{Call}
use Rattle.uart_call.specs.declared.call.Call.TheVariants as call
use Rattle.uart_call.specs.declared.call.TheConstants.{CALL_BYTES}
use Rattle.uart_call.specs.Calls.{IsRunnable}
use Rattle.uart_spec.specs.declared.registers.line_status.TheConstants.LSR
use Rattle.uart_spec.specs.declared.registers.modem_status.TheConstants.MSR
use Rattle.uart_events.specs.declared.event.TheConstants.{MAX_CHAR_TICKS, MAX_WIRE_CAPACITY}
use Rattle.uart_events.specs.Build.{IsLegal}
use Rattle.uart_spec.specs.Bits.{IsWithin}
use Rattle.uart_language.specs.declared.words.Place.{Place}
use Rattle.uart_language.specs.declared.words.Word.{Word}
use Rattle.uart_language.specs.declared.words.Word.TheVariants as word
use Rattle.uart_language.specs.Words.{is_first, is_limited}
use Rattle.uart_language.specs.Sayings.{Saying, Limit, Happens, Calls, Marks, bare_call, Means}
use Rattle.uart_language.specs.Sayings.{events_said, calls_said, plain}
use Rattle.uart_language.specs.Sayings as row
use Rattle.uart_language.specs.Items.{item_at}
use Rattle.uart_language.proofs.Meanings.{says_what_is_read}
use Rattle.uart_language.specs.Script.{Plan, Says, blank, printable, SayInOrder, limit_from, IsScript, IsPlayable}

-- ---- fields

value_by : (test : Bool) (v n : ℕ) (fault : Cause) → cond test (Ok v) (Err fault) ≡ Ok n → (test ≡ true) × (v ≡ n)
value_by true v n fault e = (refl, cc)
value_by false v n fault e = absurd cc

number_range : (least most : ℕ) (word : List ℕ) (n : ℕ) → number_in least most word ≡ Ok n → (least ≤ n) × (n ≤ most)
unfolding number_of
number_range least most word n e =
    let r = value_by _ _ _ _ e in
    let parts = and_parts (is_number SCRIPT_DIGITS word && leb least (digits_value 10 word)) (leb (digits_value 10 word) most) r.0 in
    let first = and_parts (is_number SCRIPT_DIGITS word) (leb least (digits_value 10 word)) parts.0 in
    let low : least ≤ digits_value 10 word = leb-true _ _ first.1 in
    let high : digits_value 10 word ≤ most = leb-true _ _ parts.1 in
    (omega (arith, r.1), omega (arith, r.1))

hex_below : (d : ℕ) → is_ascii_hexdigit d ≡ true → digit_value d < 16
hex_below d e = grind (arith, nat_tests)

-- 16 times a digit has the bits of the modem lines alone
high_bits : (k : ℕ) → k < 16 → IsWithin (16 * k) MSR.LINES.0
high_bits k lt = eqb-true _ _ (agree_below_at (λ n. eqb (bit_and (16 * n) MSR.LINES.0) (16 * n)) (λ n. true) 16 k refl lt)

lines_legal : (word : List ℕ) (v : ℕ) → lines_in word ≡ Ok v → IsWithin v MSR.LINES.0
unfolding lines_in
lines_legal [] v e = absurd cc
lines_legal (d ∷ []) v e =
    let r = value_by _ _ _ _ e in
    let digit = (and_parts (is_ascii_hexdigit d) true r.0).0 in
    let is : 16 * digit_value d ≡ v = omega (arith, r.1) in
    subst (λ n. IsWithin n MSR.LINES.0) is (high_bits (digit_value d) (hex_below d digit))
lines_legal (d ∷ b ∷ word) v e =
    let r = value_by _ _ _ _ e in absurd (omega (arith, eqb-true _ _ (and_parts (eqb (suc (suc (length word))) 1) _ r.0).0))

record HasErrorBits (read : Result ℕ Cause) : Type 0 where
  bits : (v : ℕ) → read ≡ Ok v → IsWithin v LSR.CHARACTER_ERRORS.0

value_or : (test : Bool) (k : ℕ) (others : Result ℕ Cause) → IsWithin k LSR.CHARACTER_ERRORS.0 → HasErrorBits others
    → HasErrorBits (cond test (Ok k) others)
value_or true k others legal rest = record { bits = λ v e. let is : k ≡ v = cc in subst (λ n. IsWithin n LSR.CHARACTER_ERRORS.0) is legal }
value_or false k others legal rest = rest

no_value : HasErrorBits (Err BadWord)
no_value = record { bits = λ v e. absurd cc }

errors_legal : (word : List ℕ) → HasErrorBits (errors_in word)
unfolding errors_in
errors_legal word =
    value_or _ LSR.PARITY_ERROR.0 _ refl (value_or _ LSR.FRAMING_ERROR.0 _ refl (value_or _ LSR.BREAK_INTERRUPT.0 _ refl
    (value_or _ (LSR.PARITY_ERROR.0 + LSR.FRAMING_ERROR.0) _ refl
    (value_or _ (LSR.PARITY_ERROR.0 + LSR.BREAK_INTERRUPT.0) _ refl
    (value_or _ (LSR.FRAMING_ERROR.0 + LSR.BREAK_INTERRUPT.0) _ refl (value_or _ LSR.CHARACTER_ERRORS.0 _ refl no_value))))))

record IsPositive (rate : BaudRate) : Type 0 where
  number : 0 < to_integer rate

rate_or : (test : Bool) (named other : BaudRate) → 0 < to_integer named → IsPositive other → IsPositive (cond test named other)
rate_or true named other n o = record { number = n }
rate_or false named other n o = o

rate_positive : (n : ℕ) → 1 ≤ n → IsPositive (rate_of n)
rate_positive n le =
    rate_or _ rate.Baud115200 _ (omega arith) (rate_or _ rate.Baud57600 _ (omega arith) (rate_or _ rate.Baud38400 _ (omega arith)
    (rate_or _ rate.Baud9600 _ (omega arith) (rate_or _ rate.Baud4800 _ (omega arith) (rate_or _ rate.Baud2400 _ (omega arith)
    (rate_or _ rate.Baud1200 _ (omega arith) (rate_or _ rate.Baud600 _ (omega arith) (rate_or _ rate.Baud300 _ (omega arith)
    (rate_or _ rate.Baud150 _ (omega arith)
    (rate_or _ rate.Baud110 (rate.Custom n) (omega arith) (record { number = omega arith })))))))))))

-- a rate that was read is not zero
rate_read : (word : List ℕ) (rate : BaudRate) → rate_in word ≡ Ok rate → 0 < to_integer rate
unfolding rate_in
rate_read word rate e = rate_by (number_in 1 MOST_RATE word) refl e where
  rate_by : (r : Result ℕ Cause) → number_in 1 MOST_RATE word ≡ r → (r >>= (λ n. Ok (rate_of n))) ≡ Ok rate → 0 < to_integer rate
  rate_by (Ok n) h e =
      let is : rate_of n ≡ rate = cc in
      subst (λ (x : BaudRate). 0 < to_integer x) is (rate_positive n (number_range 1 MOST_RATE word n h).0).number
  rate_by (Err c) h e = absurd cc

-- ---- lines

-- what a line says is in its range, legal and runnable
abbrev IsGood : Saying → Type 0
IsGood (Limit n) = (1 ≤ n) × (n ≤ MOST_LIMIT)
IsGood (Happens e) = IsLegal e
IsGood (Calls c) = IsRunnable c
IsGood said = Unit {0}

-- a call that a word asks for by itself can be run
bare_good : (w : Word) → IfSome (bare_call w) IsRunnable
bare_good word.Loopback = tt
bare_good w = tt

means_good : {place : Place} {ws : List (List ℕ)} {said : Saying} → Means place ws said → IsGood said
means_good (row.limit {N = N} {n = n} e h) = number_range 1 MOST_LIMIT N n h
means_good (row.arrive h) = refl
means_good (row.arrive_faulty {E = E} h e) = (errors_legal E).bits _ e
means_good (row.lines {H = H} h) = lines_legal H _ h
means_good (row.init {BAUD = BAUD} f b c h l) = record {
  frequency = omega arith;
  baud_rate = rate_read BAUD _ b;
  prescaler_division_factor = omega arith;
}
means_good (row.init_with {BAUD = BAUD} f b c h l p w o) = record {
  frequency = omega arith;
  baud_rate = rate_read BAUD _ b;
  prescaler_division_factor = omega arith;
}
means_good (row.set_frame {BAUD = BAUD} b l) = record {
  frequency = omega arith;
  baud_rate = rate_read BAUD _ b;
  prescaler_division_factor = omega arith;
}
means_good (row.set_frame_when_idle {BAUD = BAUD} b l) = record {
  frequency = omega arith;
  baud_rate = rate_read BAUD _ b;
  prescaler_division_factor = omega arith;
}
means_good (row.receive_with_errors {N = N} h) = (number_range 0 CALL_BYTES N _ h).1
means_good (row.receive {N = N} h) = (number_range 0 CALL_BYTES N _ h).1
means_good (row.receive_exact {N = N} h) = (number_range 0 CALL_BYTES N _ h).1
means_good (row.read {N = N} h) = (number_range 0 CALL_BYTES N _ h).1
means_good (row.bare w e) = subst (λ (o : Option Call). IfSome o IsRunnable) e (bare_good w)
means_good m = tt

says_good : {place : Place} {line : List ℕ} {said : Saying} → Says place line said → IsGood said
says_good {said = said} (blank l e) = subst IsGood (sym e) tt
says_good (printable b m) = means_good m

-- ---- all lines

limit_good : (limited : Bool) (number : ℕ) (lines : List (List ℕ)) (sayings : List Saying) (limit : ℕ) → (1 ≤ limit) × (limit ≤ MOST_LIMIT)
    → SayInOrder limited number lines sayings → (1 ≤ limit_from limit sayings) × (limit_from limit sayings ≤ MOST_LIMIT)
limit_good limited number [] [] limit r h = r
limit_good limited number [] (s ∷ sayings) limit r h = absurd h
limit_good limited number (line ∷ lines) [] limit r h = absurd h
limit_good limited number (line ∷ lines) (Limit n ∷ sayings) limit r h = limit_good limited (number + 1) lines sayings n (says_good h.0) h.1
limit_good limited number (line ∷ lines) (s ∷ sayings) limit r h = limit_good limited (number + 1) lines sayings limit r h.1

All-one : {X : Type 0} (P : X → Type 0) (x : X) → P x → All P (x ∷ [])
All-one P x p = All-cons P x [] p (All-nil P)

events_good : (s : Saying) → IsGood s → All IsLegal (events_said s)
events_good (Happens e) g = All-one IsLegal e g
events_good Marks g = All-one IsLegal _ tt
events_good s g = All-nil IsLegal

calls_good : (s : Saying) → IsGood s → All IsRunnable (calls_said s)
calls_good (Calls c) g = All-one IsRunnable c g
calls_good Marks g = All-one IsRunnable _ tt
calls_good s g = All-nil IsRunnable

-- what holds of each line's part holds of all parts
all_parts : {X : Type 0} (P : X → Type 0) (part : Saying → List X) → ((s : Saying) → IsGood s → All P (part s))
    → (limited : Bool) (number : ℕ) (lines : List (List ℕ)) (sayings : List Saying) → SayInOrder limited number lines sayings
    → All P (flat_map part sayings)
all_parts P part good limited number [] [] h = All-nil P
all_parts P part good limited number [] (s ∷ sayings) h = absurd h
all_parts P part good limited number (line ∷ lines) [] h = absurd h
all_parts P part good limited number (line ∷ lines) (s ∷ sayings) h =
    rw (flat_map-cons part s sayings)
    (All-append P (part s) (flat_map part sayings) (good s (says_good h.0)) (all_parts P part good limited (number + 1) lines sayings h.1))

pub playable : (bytes : List ℕ) (plan : Plan) → IsScript bytes plan → IsPlayable plan
playable bytes plan s = record {
  ticks = number_range 1 MAX_CHAR_TICKS s.header.T plan.ticks s.header.ticks_is;
  wire_capacity = (number_range 0 MAX_WIRE_CAPACITY s.header.W plan.wire_capacity s.header.wire_capacity_is).1;
  limit = rw s.limit (limit_good (is_limited s.others) 2 s.others s.sayings MOST_LIMIT (omega arith, omega arith) s.body);
  events = rw s.events (all_parts IsLegal events_said events_good (is_limited s.others) 2 s.others s.sayings s.body);
  calls = rw s.calls (all_parts IsRunnable calls_said calls_good (is_limited s.others) 2 s.others s.sayings s.body);
}

-- the unused room of a text makes no difference to whether a call can run, nor to what it does
pub runnable_plain : (c : Call) → IsRunnable (plain c) → IsRunnable c
runnable_plain (call.Text text) h = tt
runnable_plain c h = h

-- the call of a line can be run
pub line_runnable : (place : Place) (line : List ℕ) (c : Call) → is_first place ≡ false → item_at place line ≡ Ok (Calls (plain c))
    → IsRunnable c
line_runnable place line c later is = runnable_plain c (says_good (says_what_is_read place line (Calls (plain c)) later is))

pub all_runnable : (calls plans : List Call) → map plain calls ≡ plans → All IsRunnable plans → All IsRunnable calls
all_runnable calls plans same all k d within =
    let few : k < length plans = omega (arith, ap length same, length-map calls plain) in
    let there = all k d few in
    runnable_plain (get_or calls k d) (rw (← same, get_or-map plain calls k d d within) at there)
