-- The parser reports the fault of a line according to the definition of the language.
use Rattle.std.proofs.Common.{◌≡◌, ℕ, suc, ◌≤◌, Bool, true, false, not, cond, eqb, ◌&&◌, List, [], ◌∷◌, ◌++◌, length, drop, Option, Some}
use Rattle.std.proofs.Common.{None, Result, Ok, Err, refl, sym, ap, subst, ◌∙◌, arith}
use Rattle.std.specs.Prelude.{codes, bytes_eq}
use Rattle.std.proofs.lemmas.Slice.Eq.{bytes_eq-Decides}
use Rattle.std.proofs.lemmas.Bool.{eqb-true, le-ltb}
use Rattle.uart_spec.specs.declared.setup.FifoSize.{FifoSize}
use Rattle.uart_events.specs.declared.event.Chip.{Chip}
use Rattle.uart_events.specs.declared.event.Event.TheVariants as event
use Rattle.uart_call.specs.declared.call.Call.{Call}
use Rattle.uart_call.specs.declared.call.Call.TheVariants as call
use Rattle.uart_language.specs.declared.cause.Cause.{Cause}
use Rattle.uart_language.specs.declared.cause.Cause.TheVariants.{BadByte, Misplaced, UnknownWord, WrongCount, BadWord}
use Rattle.uart_language.specs.declared.fields.ChipKind.{ChipKind}
use Rattle.uart_language.specs.declared.items.Header.{Header}
use Rattle.uart_language.specs.declared.limits.TheConstants.{MOST_LINES}
use Rattle.uart_language.specs.declared.words.Place.{Place}
use Rattle.uart_language.specs.declared.words.Place.TheVariants as place
use Rattle.uart_language.specs.declared.words.Word.{Word}
use Rattle.uart_language.specs.declared.words.Word.TheVariants as word
use Rattle.uart_language.specs.Text.{words_of, word_at, has_bad_byte}
use Rattle.uart_language.specs.Fields.{◌>>=◌, count_in, limit_in, ticks_in, char_ticks_in, wire_capacity_in, byte_in, lines_in, bytes_in}
use Rattle.uart_language.specs.Fields.{text_in, errors_in, kind, chip_in, cut_in, level_in, rate_in, cts_in, interrupts_in, word_length_in}
use Rattle.uart_language.specs.Fields.{check_in, wait_in, outputs_in, trigger_in, switch_in, fifos_in, dump_in, size_in}
use Rattle.uart_language.specs.Words.{name_of, word_of, fault_of, fields_of, has_count, place_of, is_first, is_placed}
use Rattle.uart_language.specs.Sayings.{Nothing, Limit, Size, Calls, Happens, configured, framed, arranged, array_of, text_of}
use Rattle.uart_language.specs.Script.{IsHeader, option_words, fault_where, first_of, field_faults, word_faults, fault_at}
use Rattle.uart_language.specs.Items.{config_in, setup_in, arrival_in, call_of, item_of, placed_word, starts_with}
use Rattle.uart_language.specs.Items.{item_at, header_in, header_at}
use Rattle.uart_language.proofs.Meanings.{not_one, not_first, neither, name_is}

-- ---- the fields of a line

made_fault : {A B : Type 0} (r : Result A Cause) (make : A → B) → fault_of (r >>= (λ x. Ok (make x))) ≡ fault_of r
made_fault (Ok x) make = refl
made_fault (Err c) make = refl

-- what is made of a value is faulty if the value is
call_made_fault : {A : Type 0} (r : Result A Cause) (make : A → Call)
    → fault_of (r >>= (λ x. Ok (make x)) >>= (λ c. Ok (Calls c))) ≡ fault_of r
call_made_fault r make = made_fault (r >>= (λ x. Ok (make x))) Calls ∙ made_fault r make

alone : (fault : Option Cause) → first_of (fault ∷ []) ≡ fault
alone None = refl
alone (Some c) = refl

two_fault : {A B C : Type 0} (a : Result A Cause) (b : Result B Cause) (make : A → B → C)
    → fault_of (a >>= (λ x. b >>= (λ y. Ok (make x y)))) ≡ first_of (fault_of a ∷ fault_of b ∷ [])
two_fault (Ok x) (Ok y) make = refl
two_fault (Ok x) (Err c) make = refl
two_fault (Err c) b make = refl

three_fault : {A B C D : Type 0} (a : Result A Cause) (b : Result B Cause) (c : Result C Cause) (make : A → B → C → D)
    → fault_of (a >>= (λ x. b >>= (λ y. c >>= (λ z. Ok (make x y z))))) ≡ first_of (fault_of a ∷ fault_of b ∷ fault_of c ∷ [])
three_fault (Ok x) (Ok y) (Ok z) make = refl
three_fault (Ok x) (Ok y) (Err d) make = refl
three_fault (Ok x) (Err d) c make = refl
three_fault (Err d) b c make = refl

four_fault : {A B C D E : Type 0} (a : Result A Cause) (b : Result B Cause) (c : Result C Cause) (d : Result D Cause)
    (make : A → B → C → D → E)
    → fault_of (a >>= (λ x. b >>= (λ y. c >>= (λ z. d >>= (λ u. Ok (make x y z u))))))
    ≡ first_of (fault_of a ∷ fault_of b ∷ fault_of c ∷ fault_of d ∷ [])
four_fault (Ok x) b c d make = three_fault b c d (make x)
four_fault (Err f) b c d make = refl

five_fault : {A B C D E F : Type 0} (a : Result A Cause) (b : Result B Cause) (c : Result C Cause) (d : Result D Cause) (e : Result E Cause)
    (make : A → B → C → D → E → F)
    → fault_of (a >>= (λ x. b >>= (λ y. c >>= (λ z. d >>= (λ u. e >>= (λ v. Ok (make x y z u v)))))))
    ≡ first_of (fault_of a ∷ fault_of b ∷ fault_of c ∷ fault_of d ∷ fault_of e ∷ [])
five_fault (Ok x) b c d e make = four_fault b c d e (make x)
five_fault (Err f) b c d e make = refl

-- a word that one field follows
field_fault : {A B : Type 0} (reader : List ℕ → Result A Cause) (make : A → B) (name : List ℕ) (rest : List (List ℕ))
    → eqb (suc (length rest)) 2 ≡ true
    → fault_of (reader (word_at 1 (name ∷ rest)) >>= (λ x. Ok (make x))) ≡ first_of (field_faults ((λ w. fault_of (reader w)) ∷ []) rest)
field_fault reader make name [] c = absurd cc
field_fault reader make name (W ∷ []) c = made_fault (reader W) make ∙ sym (alone (fault_of (reader W)))
field_fault reader make name (W ∷ V ∷ rest) c = absurd (omega (arith, eqb-true _ _ c))

call_field_fault : {A : Type 0} (reader : List ℕ → Result A Cause) (make : A → Call) (name : List ℕ) (rest : List (List ℕ))
    → eqb (suc (length rest)) 2 ≡ true
    → fault_of (reader (word_at 1 (name ∷ rest)) >>= (λ x. Ok (make x)) >>= (λ c. Ok (Calls c)))
    ≡ first_of (field_faults ((λ w. fault_of (reader w)) ∷ []) rest)
call_field_fault reader make name rest c =
    made_fault (reader (word_at 1 (name ∷ rest)) >>= (λ x. Ok (make x))) Calls ∙ field_fault reader make name rest c

arrival_fault : (name : List ℕ) (rest : List (List ℕ)) → has_count word.Arrive (suc (length rest)) ≡ true
    → fault_of (item_of word.Arrive (name ∷ rest)) ≡ first_of (field_faults (fields_of word.Arrive) rest)
unfolding item_of arrival_in
arrival_fault name [] c = absurd cc
arrival_fault name (HH ∷ []) c =
    made_fault (byte_in HH >>= (λ b. Ok (event.Arrive b 0))) Happens ∙ made_fault (byte_in HH) (λ b. event.Arrive b 0)
    ∙ sym (alone (fault_of (byte_in HH)))
arrival_fault name (HH ∷ E ∷ []) c =
    made_fault (byte_in HH >>= (λ b. errors_in E >>= (λ x. Ok (event.Arrive b x)))) Happens
    ∙ two_fault (byte_in HH) (errors_in E) event.Arrive
arrival_fault name (HH ∷ E ∷ X ∷ rest) c = absurd (neither (suc (suc (suc (suc (length rest))))) 2 3 (omega arith) (omega arith) c)

config_fault : (name : List ℕ) (rest : List (List ℕ)) → has_count word.Init (suc (length rest)) ≡ true
    → fault_of (item_of word.Init (name ∷ rest)) ≡ first_of (field_faults (fields_of word.Init) rest)
unfolding item_of call_of config_in
config_fault name (F ∷ BAUD ∷ C ∷ HH ∷ BITS ∷ []) c =
    call_made_fault (level_in F >>= (λ level. rate_in BAUD
    >>= (λ rate. cts_in C >>= (λ cts. interrupts_in HH >>= (λ i. word_length_in BITS >>= (λ l. Ok (configured level rate cts i l)))))))
    call.Init
    ∙ five_fault (level_in F) (rate_in BAUD) (cts_in C) (interrupts_in HH) (word_length_in BITS) configured
config_fault name (F ∷ BAUD ∷ C ∷ HH ∷ BITS ∷ X ∷ rest) c = absurd (omega (arith, eqb-true _ _ c))
config_fault name _ c = absurd cc

-- faults in two parts
first_parts : (xs ys : List (Option Cause)) → first_of (first_of xs ∷ first_of ys ∷ []) ≡ first_of (xs ++ ys)
first_parts [] ys = alone (first_of ys)
first_parts (None ∷ xs) ys = first_parts xs ys
first_parts (Some c ∷ xs) ys = refl

set_up_fault : (name : List ℕ) (rest : List (List ℕ)) → has_count word.InitWith (suc (length rest)) ≡ true
    → fault_of (item_of word.InitWith (name ∷ rest)) ≡ first_of (field_faults (fields_of word.InitWith) rest)
unfolding item_of call_of config_in setup_in
set_up_fault name (F ∷ BAUD ∷ C ∷ HH ∷ BITS ∷ P ∷ W ∷ OUT ∷ []) c =
    let config = level_in F >>= (λ level. rate_in BAUD
    >>= (λ rate. cts_in C >>= (λ cts. interrupts_in HH >>= (λ i. word_length_in BITS >>= (λ l. Ok (configured level rate cts i l)))))) in
    let setup = check_in P >>= (λ checks. wait_in W >>= (λ wait. outputs_in OUT >>= (λ outputs. Ok (arranged checks wait outputs)))) in
    let five = fault_of (level_in F) ∷ fault_of (rate_in BAUD) ∷ fault_of (cts_in C) ∷ fault_of (interrupts_in HH)
    ∷ fault_of (word_length_in BITS) ∷ [] in
    let three = fault_of (check_in P) ∷ fault_of (wait_in W) ∷ fault_of (outputs_in OUT) ∷ [] in
    made_fault (config >>= (λ x. setup >>= (λ y. Ok (call.InitWith x y)))) Calls
    ∙ (two_fault config setup call.InitWith
    ∙ (ap (λ fault. first_of (fault ∷ fault_of setup ∷ []))
    (five_fault (level_in F) (rate_in BAUD) (cts_in C) (interrupts_in HH) (word_length_in BITS) configured)
    ∙ (ap (λ fault. first_of (first_of five ∷ fault ∷ [])) (three_fault (check_in P) (wait_in W) (outputs_in OUT) arranged)
    ∙ first_parts five three)))
set_up_fault name (F ∷ BAUD ∷ C ∷ HH ∷ BITS ∷ P ∷ W ∷ OUT ∷ X ∷ rest) c = absurd (omega (arith, eqb-true _ _ c))
set_up_fault name _ c = absurd cc

-- a word that two fields follow
call_fields_fault : {A B : Type 0} (first : List ℕ → Result A Cause) (second : List ℕ → Result B Cause) (make : A → B → Call)
    (name : List ℕ) (rest : List (List ℕ)) → eqb (suc (length rest)) 3 ≡ true
    → fault_of (first (word_at 1 (name ∷ rest)) >>= (λ x. second (word_at 2 (name ∷ rest)) >>= (λ y. Ok (make x y)))
    >>= (λ c. Ok (Calls c)))
    ≡ first_of (field_faults ((λ w. fault_of (first w)) ∷ (λ w. fault_of (second w)) ∷ []) rest)
call_fields_fault first second make name [] c = absurd cc
call_fields_fault first second make name (V ∷ []) c = absurd cc
call_fields_fault first second make name (V ∷ W ∷ []) c =
    made_fault (first V >>= (λ x. second W >>= (λ y. Ok (make x y)))) Calls ∙ two_fault (first V) (second W) make
call_fields_fault first second make name (V ∷ W ∷ X ∷ rest) c = absurd (omega (arith, eqb-true _ _ c))

item_fault : (w : Word) (name : List ℕ) (rest : List (List ℕ)) → has_count w (suc (length rest)) ≡ true → (w ≡ word.Chip → ⊥)
    → fault_of (item_of w (name ∷ rest)) ≡ first_of (field_faults (fields_of w) rest)
unfolding item_of call_of
item_fault word.Chip name rest c other = absurd (other refl)
item_fault word.Init name rest c other = config_fault name rest c
item_fault word.Arrive name rest c other = arrival_fault name rest c
item_fault word.Limit name rest c other = field_fault limit_in (λ k. Limit k) name rest c
item_fault word.FifoSize name rest c other = field_fault size_in (λ k. Size k) name rest c
item_fault word.Tick name rest c other = field_fault ticks_in (λ k. Happens (event.Ticks k)) name rest c
item_fault word.Lines name rest c other = field_fault (lines_in) (λ v. Happens (event.Lines v)) name rest c
item_fault word.InitWith name rest c other = set_up_fault name rest c
item_fault word.SetFrame name rest c other =
    call_fields_fault rate_in word_length_in (λ rate length. call.SetFrame (framed rate length)) name rest c
item_fault word.SetFrameWhenIdle name rest c other =
    call_fields_fault rate_in word_length_in (λ rate length. call.SetFrameWhenIdle (framed rate length)) name rest c
item_fault word.SetTriggerLevel name rest c other = call_field_fault (trigger_in) (call.SetTriggerLevel) name rest c
item_fault word.SetBreak name rest c other = call_field_fault (switch_in) (call.SetBreak) name rest c
item_fault word.SetModemControl name rest c other = call_field_fault (outputs_in) (call.SetModemControl) name rest c
item_fault word.SetRts name rest c other = call_field_fault (switch_in) (call.SetRts) name rest c
item_fault word.SetDtr name rest c other = call_field_fault (switch_in) (call.SetDtr) name rest c
item_fault word.Quiesce name rest c other = call_fields_fault outputs_in fifos_in call.Quiesce name rest c
item_fault word.Restore name rest c other = call_field_fault (dump_in) (call.Restore) name rest c
item_fault word.CheckConfigured name rest c other = call_field_fault (outputs_in) (call.CheckConfigured) name rest c
item_fault word.ReceiveWithErrors name rest c other = call_field_fault count_in (call.ReceiveWithErrors) name rest c
item_fault word.TrySend name rest c other = call_field_fault (byte_in) (call.TrySend) name rest c
item_fault word.Enable name rest c other = call_field_fault (interrupts_in) (call.Enable) name rest c
item_fault word.Disable name rest c other = call_field_fault (interrupts_in) (call.Disable) name rest c
item_fault word.Receive name rest c other = call_field_fault count_in (call.Receive) name rest c
item_fault word.ReceiveExact name rest c other = call_field_fault count_in (call.ReceiveExact) name rest c
item_fault word.Read name rest c other = call_field_fault count_in (call.Read) name rest c
item_fault word.Send name rest c other = call_field_fault (bytes_in) (λ x. call.Send (array_of x)) name rest c
item_fault word.SendExact name rest c other = call_field_fault (bytes_in) (λ x. call.SendExact (array_of x)) name rest c
item_fault word.Write name rest c other = call_field_fault (bytes_in) (λ x. call.Write (array_of x)) name rest c
item_fault word.Text name rest c other = call_field_fault (text_in) (λ x. call.Text (text_of x)) name rest c
item_fault w name rest c other = refl

-- ---- a line after the first

-- a line has a word at least
no_count : (w : Word) → has_count w 0 ≡ true → ⊥
no_count word.Chip c = absurd cc
no_count w c = absurd cc

placed_fault : {A : Type 0} (place : Place) (w : Word) (ws : List (List ℕ)) (p c : Bool) (read : Word → Result A Cause)
    → (p ≡ true → c ≡ true → fault_of (read w) ≡ first_of (field_faults (fields_of w) (drop 1 ws)))
    → fault_of (cond p (cond c (Ok w) (Err WrongCount)) (Err Misplaced) >>= read)
    ≡ first_of (fault_where (not p) Misplaced ∷ fault_where (not c) WrongCount ∷ field_faults (fields_of w) (drop 1 ws))
placed_fault place w ws true true read f = f refl refl
placed_fault place w ws true false read f = refl
placed_fault place w ws false c read f = refl

unplaced_fault : {A : Type 0} (p : Bool) (read : Word → Result A Cause)
    → fault_of (cond p (Err UnknownWord) (Err Misplaced) >>= read) ≡ first_of (fault_where (not p) Misplaced ∷ Some UnknownWord ∷ [])
unplaced_fault true read = refl
unplaced_fault false read = refl

not_chip : (place : Place) (w : Word) → is_first place ≡ false → is_placed place (Some w) ≡ true → w ≡ word.Chip → ⊥
not_chip place w le p e =
    let first : is_first place ≡ true = subst (λ x. is_placed place (Some x) ≡ true) e p in absurd cc

word_fault : (place : Place) (first : Option Word) (ws : List (List ℕ)) → is_first place ≡ false
    → fault_of (placed_word place ws first >>= (λ w. item_of w ws)) ≡ first_of (word_faults place first ws)
word_fault place None ws le = unplaced_fault (is_placed place None) _
word_fault place (Some w) [] le = placed_fault place w [] _ _ (λ v. item_of v []) (λ p c. absurd (no_count w c))
word_fault place (Some w) (text ∷ rest) le =
    placed_fault place w (text ∷ rest) _ _ (λ v. item_of v (text ∷ rest)) (λ p c. item_fault w text rest c (not_chip place w le p))

line_fault_by : (limited : Bool) (number : ℕ) (line : List ℕ) (none bad : Bool) → 2 ≤ number
    → fault_of (cond none (Ok Nothing)
    (cond bad (Err BadByte) (placed_word (place_of limited number) (words_of line) (word_of (word_at 0 (words_of line))))
    >>= (λ w. item_of w (words_of line))))
    ≡ cond (none && not (eqb number 1)) None
    (first_of (fault_where bad BadByte ∷ word_faults (place_of limited number) (word_of (word_at 0 (words_of line))) (words_of line)))
line_fault_by limited number line true bad le = rw (not_one number le) refl
line_fault_by limited number line false true le = refl
line_fault_by limited number line false false le = word_fault (place_of limited number) _ (words_of line) (not_first limited number le)

-- the fault of a line after the first
pub line_fault : (limited : Bool) (number : ℕ) (line : List ℕ) → 2 ≤ number → number ≤ MOST_LINES
    → fault_of (item_at (place_of limited number) line) ≡ fault_at limited number line
unfolding item_at starts_with
line_fault limited number line le most = rw (le-ltb MOST_LINES number most) (line_fault_by limited number line _ _ le)

-- ---- the first line

-- a header, as a value
abbrev pub header_of : ChipKind → ℕ → ℕ → Bool → Header
header_of chip ticks capacity cuts = record { chip = chip; ticks = ticks; wire_capacity = capacity; cuts = cuts }

-- a chip line has four words, or five
more_words : (n : ℕ) → has_count word.Chip (suc (suc (suc (suc (suc (suc n)))))) ≡ true → ⊥
more_words n c = neither (suc (suc (suc (suc (suc (suc n)))))) 4 5 (omega arith) (omega arith) c

header_words_fault : (ws : List (List ℕ)) → has_count word.Chip (length ws) ≡ true
    → fault_of (header_in ws) ≡ first_of (field_faults (fields_of word.Chip) (drop 1 ws))
unfolding header_in
header_words_fault (name ∷ NAME ∷ T ∷ W ∷ []) c =
    three_fault (chip_in NAME) (char_ticks_in T) (wire_capacity_in W) (λ chip ticks capacity. header_of chip ticks capacity false)
header_words_fault (name ∷ NAME ∷ T ∷ W ∷ C ∷ []) c = four_fault (chip_in NAME) (char_ticks_in T) (wire_capacity_in W) (cut_in C) header_of
header_words_fault (name ∷ NAME ∷ T ∷ W ∷ C ∷ X ∷ rest) c = absurd (more_words (length rest) c)
header_words_fault _ c = absurd cc

first_word_fault : (first : Option Word) (ws : List (List ℕ))
    → fault_of (placed_word place.First ws first >>= (λ w. header_in ws)) ≡ first_of (word_faults place.First first ws)
first_word_fault None ws = refl
first_word_fault (Some word.Chip) ws = placed_fault place.First word.Chip ws true _ (λ w. header_in ws) (λ p c. header_words_fault ws c)
first_word_fault (Some w) ws = refl

header_fault_by : (line : List ℕ) (none bad : Bool)
    → fault_of (cond bad (Err BadByte) (placed_word place.First (words_of line) (word_of (word_at 0 (words_of line))))
    >>= (λ w. header_in (words_of line)))
    ≡ cond (none && false) None
    (first_of (fault_where bad BadByte ∷ word_faults place.First (word_of (word_at 0 (words_of line))) (words_of line)))
header_fault_by line true true = refl
header_fault_by line false true = refl
header_fault_by line true false = first_word_fault _ (words_of line)
header_fault_by line false false = first_word_fault _ (words_of line)

-- the fault of the first line
pub header_fault : (limited : Bool) (line : List ℕ) → fault_of (header_at line) ≡ fault_at limited 1 line
unfolding header_at starts_with
header_fault limited line = header_fault_by line _ _

-- ---- what the first line says

three_ok : {A B C D : Type 0} (a : Result A Cause) (b : Result B Cause) (c : Result C Cause) (make : A → B → C → D) (d : D)
    → (a >>= (λ x. b >>= (λ y. c >>= (λ z. Ok (make x y z))))) ≡ Ok d
    → (x : A) × (y : B) × (z : C) × (a ≡ Ok x) × (b ≡ Ok y) × (c ≡ Ok z) × (make x y z ≡ d)
three_ok (Ok x) (Ok y) (Ok z) make d e = (x, y, z, refl, refl, refl, cc)
three_ok (Ok x) (Ok y) (Err f) make d e = absurd cc
three_ok (Ok x) (Err f) c make d e = absurd cc
three_ok (Err f) b c make d e = absurd cc

four_ok : {A B C D E : Type 0} (a : Result A Cause) (b : Result B Cause) (c : Result C Cause) (d : Result D Cause)
    (make : A → B → C → D → E) (e : E)
    → (a >>= (λ x. b >>= (λ y. c >>= (λ z. d >>= (λ u. Ok (make x y z u)))))) ≡ Ok e
    → (x : A) × (y : B) × (z : C) × (u : D) × (a ≡ Ok x) × (b ≡ Ok y) × (c ≡ Ok z) × (d ≡ Ok u) × (make x y z u ≡ e)
four_ok (Ok x) (Ok y) (Ok z) (Ok u) make e h = (x, y, z, u, refl, refl, refl, refl, cc)
four_ok (Ok x) (Ok y) (Ok z) (Err f) make e h = absurd cc
four_ok (Ok x) (Ok y) (Err f) d make e h = absurd cc
four_ok (Ok x) (Err f) c d make e h = absurd cc
four_ok (Err f) b c d make e h = absurd cc

-- what the option's word is
is_cut : (C : List ℕ) (cuts : Bool) → cut_in C ≡ Ok cuts → C ∷ [] ≡ option_words cuts
unfolding cut_in
is_cut C cuts e = go (bytes_eq C (codes "cut")) refl cuts e
  where
    go : (b : Bool) → bytes_eq C (codes "cut") ≡ b → (cuts : Bool) → cond b (Ok true) (Err BadWord) ≡ Ok cuts → C ∷ [] ≡ option_words cuts
    go true f true e = ap (λ x. x ∷ []) ((bytes_eq-Decides C (codes "cut")).0 f)
    go true f false e = absurd cc
    go false f cuts e = absurd cc

words_are_header : (line : List ℕ) (ws : List (List ℕ)) (h : Header) → words_of line ≡ ws → has_bad_byte line ≡ false
    → name_of word.Chip ≡ word_at 0 ws → has_count word.Chip (length ws) ≡ true → header_in ws ≡ Ok h
    → IsHeader line h.chip.model h.chip.size h.chip.auto_flow h.ticks h.wire_capacity h.cuts
unfolding header_in
words_are_header line (name ∷ NAME ∷ T ∷ W ∷ []) h w b n c e =
    let make : ChipKind → ℕ → ℕ → Header = λ chip ticks capacity. header_of chip ticks capacity false in
    let r = three_ok (chip_in NAME) (char_ticks_in T) (wire_capacity_in W) make h e in
    subst (λ (x : Header). IsHeader line x.chip.model x.chip.size x.chip.auto_flow x.ticks x.wire_capacity x.cuts) r.6 (record {
      NAME = NAME;
      T = T;
      W = W;
      printable = b;
      words = w ∙ ap (λ x. x ∷ NAME ∷ T ∷ W ∷ []) (sym n);
      chip_is = r.3;
      ticks_is = r.4;
      wire_capacity_is = r.5;
    })
words_are_header line (name ∷ NAME ∷ T ∷ W ∷ C ∷ []) h w b n c e =
    let r = four_ok (chip_in NAME) (char_ticks_in T) (wire_capacity_in W) (cut_in C) header_of h e in
    let o = is_cut C r.3 r.7 in
    subst (λ (x : Header). IsHeader line x.chip.model x.chip.size x.chip.auto_flow x.ticks x.wire_capacity x.cuts) r.8
    (record {
      NAME = NAME;
      T = T;
      W = W;
      printable = b;
      words = w
          ∙ (ap (λ x. x ∷ NAME ∷ T ∷ W ∷ C ∷ []) (sym n) ∙ ap (λ rest. codes "chip" ∷ NAME ∷ T ∷ W ∷ rest) o);
      chip_is = r.4;
      ticks_is = r.5;
      wire_capacity_is = r.6;
    })
words_are_header line (name ∷ NAME ∷ T ∷ W ∷ C ∷ X ∷ rest) h w b n c e = absurd (more_words (length rest) c)
words_are_header line _ h w b n c e = absurd cc

counted : {A : Type 0} (c : Bool) (r : Result A Cause) (x : A) → (cond c (Ok word.Chip) (Err WrongCount) >>= (λ w. r)) ≡ Ok x
    → (c ≡ true) × (r ≡ Ok x)
counted true r x e = (refl, e)
counted false r x e = absurd cc

header_by : (line : List ℕ) (h : Header) (bad : Bool) (first : Option Word) → has_bad_byte line ≡ bad
    → word_of (word_at 0 (words_of line)) ≡ first
    → (cond bad (Err BadByte) (placed_word place.First (words_of line) first) >>= (λ w. header_in (words_of line))) ≡ Ok h
    → IsHeader line h.chip.model h.chip.size h.chip.auto_flow h.ticks h.wire_capacity h.cuts
header_by line h true first b f e = absurd cc
header_by line h false None b f e = absurd cc
header_by line h false (Some word.Chip) b f e =
    let r = counted (has_count word.Chip (length (words_of line))) (header_in (words_of line)) h e in
    words_are_header line (words_of line) h refl b (name_is _ word.Chip f) r.0 r.1
header_by line h false (Some w) b f e = absurd cc

pub says_header : (line : List ℕ) (h : Header) → header_at line ≡ Ok h
    → IsHeader line h.chip.model h.chip.size h.chip.auto_flow h.ticks h.wire_capacity h.cuts
unfolding header_at starts_with
says_header line h e = header_by line h _ _ refl refl e

pub reads_header : (line : List ℕ) (chip : Chip) (size : FifoSize) (flow : Bool) (ticks capacity : ℕ) (cuts : Bool)
    → IsHeader line chip size flow ticks capacity cuts
    → header_at line ≡ Ok (header_of (kind chip size flow) ticks capacity cuts)
unfolding header_at starts_with header_in word_of cut_in
reads_header line chip size flow ticks capacity false h = rw (h.printable, h.words, h.chip_is, h.ticks_is, h.wire_capacity_is) refl
reads_header line chip size flow ticks capacity true h = rw (h.printable, h.words, h.chip_is, h.ticks_is, h.wire_capacity_is) refl
