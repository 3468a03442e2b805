-- The parser reads a line as the definition of the language says.
use Rattle.std.proofs.Common.{◌≡◌, ℕ, suc, ◌<◌, ◌≤◌, Bool, true, false, cond, eqb, ◌||◌, ◌&&◌, List, [], ◌∷◌, length, Option, Some}
use Rattle.std.proofs.Common.{None, Result, Ok, Err, refl, sym, subst, arith, inl, inr}
use Rattle.std.specs.Prelude.{codes, bytes_eq, find}
use Rattle.std.proofs.Math.Dec.{eqb-suc-zero}
use Rattle.std.proofs.lemmas.Bool.{eqb-true, ne_eqb, or_cases}
use Rattle.std.proofs.lemmas.List.{nil_from_length}
use Rattle.std.proofs.lemmas.Slice.Eq.{bytes_eq-Decides}
use Rattle.uart_spec.specs.declared.config.BaudRate.{BaudRate}
use Rattle.uart_spec.specs.declared.registers.fifo_trigger_level.FifoTriggerLevel.{FifoTriggerLevel}
use Rattle.uart_spec.specs.declared.registers.frame.WordLength.{WordLength}
use Rattle.uart_spec.specs.declared.registers.interrupt_enable.IER.{IER}
use Rattle.uart_spec.specs.declared.registers.modem_control.MCR.{MCR}
use Rattle.uart_spec.specs.declared.setup.TransmitterWait.{TransmitterWait}
use Rattle.uart_events.specs.declared.event.Event.TheVariants as event
use Rattle.uart_call.specs.declared.call.Call.{Call}
use Rattle.uart_call.specs.declared.call.Call.TheVariants as call
use Rattle.uart_language.specs.declared.cause.Cause.{Cause}
use Rattle.uart_language.specs.declared.cause.Cause.TheVariants.{BadByte, Misplaced, UnknownWord, WrongCount}
use Rattle.uart_language.specs.declared.words.Place.{Place}
use Rattle.uart_language.specs.declared.words.Place.TheVariants as place
use Rattle.uart_language.specs.declared.words.Word.{Word}
use Rattle.uart_language.specs.declared.words.Word.TheVariants as word
use Rattle.uart_language.specs.Text.{words_of, word_at, has_bad_byte}
use Rattle.uart_language.specs.Fields.{◌>>=◌, count_in, limit_in, ticks_in, byte_in, lines_in, bytes_in, text_in, errors_in, level_in}
use Rattle.uart_language.specs.Fields.{rate_in, cts_in, interrupts_in, word_length_in, check_in, wait_in, outputs_in, trigger_in}
use Rattle.uart_language.specs.Fields.{switch_in, fifos_in, dump_in, size_in}
use Rattle.uart_language.specs.Words.{name_of, words, word_of, has_count, place_of, is_first, is_placed}
use Rattle.uart_language.specs.Sayings.{Saying, Nothing, Limit, Size, Happens, Calls, Marks, configured, framed, arranged}
use Rattle.uart_language.specs.Sayings.{array_of, text_of, bare_call, Means}
use Rattle.uart_language.specs.Sayings as row
use Rattle.uart_language.specs.Script.{Says, blank, printable}
use Rattle.uart_language.specs.Items.{config_in, setup_in, arrival_in, call_of, item_of, placed_word, starts_with, item_at}
use Rattle.uart_language.proofs.Results.{read, bind_ok, made_twice}

-- ---- what the words mean is what is read

-- what the words of a line are read as
abbrev read_of : Place → List (List ℕ) → Result Saying Cause
read_of place ws = placed_word place ws (word_of (word_at 0 ws)) >>= (λ word. item_of word ws)

pub not_one : (number : ℕ) → 2 ≤ number → eqb number 1 ≡ false
not_one number le = ne_eqb number 1 (λ e. omega arith)

later_place : (second behind : Bool) → is_first (cond second place.Second (cond behind place.BehindLimit place.Later)) ≡ false
later_place true behind = refl
later_place false true = refl
later_place false false = refl

-- a line after the first is at another place than the first
pub not_first : (limited : Bool) (number : ℕ) → 2 ≤ number → is_first (place_of limited number) ≡ false
not_first limited number le = rw (not_one number le) (later_place (eqb number 2) (eqb number 3 && limited))

bare_is_read : (place : Place) (w : Word) (c : Call) → is_first place ≡ false → bare_call w ≡ Some c
    → read_of place (name_of w ∷ []) ≡ Ok (Calls c)
unfolding word_of item_of call_of
bare_is_read place word.Limit c le e = absurd cc
bare_is_read place word.FifoSize c le e = absurd cc
bare_is_read place w c le e = rw le cc

pub is_read : {place : Place} {ws : List (List ℕ)} {said : Saying} → is_first place ≡ false → Means place ws said
    → read_of place ws ≡ Ok said
unfolding word_of item_of call_of config_in setup_in arrival_in
is_read {place = place} le (row.limit e h) = rw (e, h) refl
is_read {place = place} le (row.fifo_size e h) = rw (e, h) refl
is_read {place = place} le (row.tick h) = rw (le, h) refl
is_read {place = place} le (row.arrive h) = rw (le, h) refl
is_read {place = place} le (row.arrive_faulty h e) = rw (le, h, e) refl
is_read {place = place} le (row.lines h) = rw (le, h) refl
is_read {place = place} le row.access = rw le refl
is_read {place = place} le row.next = rw le refl
is_read {place = place} le (row.init f b c h l) = rw (le, f, b, c, h, l) refl
is_read {place = place} le (row.init_with f b c h l p w o) = rw (le, f, b, c, h, l, p, w, o) refl
is_read {place = place} le (row.set_frame b l) = rw (le, b, l) refl
is_read {place = place} le (row.set_frame_when_idle b l) = rw (le, b, l) refl
is_read {place = place} le (row.set_trigger_level h) = rw (le, h) refl
is_read {place = place} le (row.set_break h) = rw (le, h) refl
is_read {place = place} le (row.set_modem_control h) = rw (le, h) refl
is_read {place = place} le (row.set_rts h) = rw (le, h) refl
is_read {place = place} le (row.set_dtr h) = rw (le, h) refl
is_read {place = place} le (row.quiesce h a) = rw (le, h, a) refl
is_read {place = place} le (row.restore h) = rw (le, h) refl
is_read {place = place} le (row.check_configured h) = rw (le, h) refl
is_read {place = place} le (row.bare w {c = c} e) = bare_is_read place w c le e
is_read {place = place} le (row.try_send h) = rw (le, h) refl
is_read {place = place} le (row.enable h) = rw (le, h) refl
is_read {place = place} le (row.disable h) = rw (le, h) refl
is_read {place = place} le (row.receive h) = rw (le, h) refl
is_read {place = place} le (row.receive_exact h) = rw (le, h) refl
is_read {place = place} le (row.receive_with_errors h) = rw (le, h) refl
is_read {place = place} le (row.read h) = rw (le, h) refl
is_read {place = place} le (row.send h) = rw (le, h) refl
is_read {place = place} le (row.send_exact h) = rw (le, h) refl
is_read {place = place} le (row.write h) = rw (le, h) refl
is_read {place = place} le (row.text h) = rw (le, h) refl

-- ---- what is read is what the words mean

ok_is : {A : Type 0} {x y : A} → read x ≡ Ok y → x ≡ y
ok_is e = cc

module _ (place : Place) (name : List ℕ) where
  bare : (rest : List (List ℕ)) (s said : Saying) → eqb (suc (length rest)) 1 ≡ true → read said ≡ Ok s → Means place (name ∷ []) said
      → Means place (name ∷ rest) s
  bare [] s said c e m = subst (λ x. Means place (name ∷ []) x) (ok_is e) m
  bare (W ∷ rest) s said c e m = absurd (omega (arith, eqb-true _ _ c))

  field_meant : {A : Type 0} (W : List ℕ) (make : A → Saying) (r : Result A Cause) (s : Saying) → (r >>= (λ x. Ok (make x))) ≡ Ok s
      → ((x : A) → r ≡ Ok x → Means place (name ∷ W ∷ []) (make x)) → Means place (name ∷ W ∷ []) s
  field_meant W make (Ok x) s e m = subst (λ y. Means place (name ∷ W ∷ []) y) (ok_is e) (m x refl)
  field_meant W make (Err d) s e m = absurd cc

  field : {A : Type 0} (reader : List ℕ → Result A Cause) (make : A → Saying) (rest : List (List ℕ)) (s : Saying)
      → eqb (suc (length rest)) 2 ≡ true
      → (reader (word_at 1 (name ∷ rest)) >>= (λ x. Ok (make x))) ≡ Ok s
      → ((W : List ℕ) (x : A) → reader W ≡ Ok x → Means place (name ∷ W ∷ []) (make x)) → Means place (name ∷ rest) s
  field reader make [] s c e m = absurd cc
  field reader make (W ∷ []) s c e m = field_meant W make (reader W) s e (λ x h. m W x h)
  field reader make (W ∷ V ∷ rest) s c e m = absurd (omega (arith, eqb-true _ _ c))

  call_field : {A : Type 0} (reader : List ℕ → Result A Cause) (make : A → Call) (rest : List (List ℕ)) (s : Saying)
      → eqb (suc (length rest)) 2 ≡ true
      → ((reader (word_at 1 (name ∷ rest)) >>= (λ x. Ok (make x))) >>= (λ c. Ok (Calls c))) ≡ Ok s
      → ((W : List ℕ) (x : A) → reader W ≡ Ok x → Means place (name ∷ W ∷ []) (Calls (make x)))
      → Means place (name ∷ rest) s
  call_field reader make rest s c e m =
      field reader (λ x. Calls (make x)) rest s c (made_twice (reader (word_at 1 (name ∷ rest))) make Calls s e) m

  two_meant : {A B : Type 0} (V W : List ℕ) (make : A → B → Call) (a : Result A Cause) (b : Result B Cause) (s : Saying)
      → ((a >>= (λ x. b >>= (λ y. Ok (make x y)))) >>= (λ c. Ok (Calls c))) ≡ Ok s
      → ((x : A) (y : B) → a ≡ Ok x → b ≡ Ok y → Means place (name ∷ V ∷ W ∷ []) (Calls (make x y)))
      → Means place (name ∷ V ∷ W ∷ []) s
  two_meant V W make (Ok x) (Ok y) s e m = subst (λ z. Means place (name ∷ V ∷ W ∷ []) z) (ok_is e) (m x y refl refl)
  two_meant V W make (Ok x) (Err d) s e m = absurd cc
  two_meant V W make (Err d) b s e m = absurd cc

  call_fields : {A B : Type 0} (first : List ℕ → Result A Cause) (second : List ℕ → Result B Cause) (make : A → B → Call)
      (rest : List (List ℕ)) (s : Saying) → eqb (suc (length rest)) 3 ≡ true
      → ((first (word_at 1 (name ∷ rest)) >>= (λ x. second (word_at 2 (name ∷ rest)) >>= (λ y. Ok (make x y))))
      >>= (λ c. Ok (Calls c))) ≡ Ok s
      → ((V W : List ℕ) (x : A) (y : B) → first V ≡ Ok x → second W ≡ Ok y → Means place (name ∷ V ∷ W ∷ []) (Calls (make x y)))
      → Means place (name ∷ rest) s
  call_fields first second make [] s c e m = absurd cc
  call_fields first second make (V ∷ []) s c e m = absurd cc
  call_fields first second make (V ∷ W ∷ []) s c e m = two_meant V W make (first V) (second W) s e (λ x y h k. m V W x y h k)
  call_fields first second make (V ∷ W ∷ X ∷ rest) s c e m = absurd (omega (arith, eqb-true _ _ c))

-- a number is neither of two that are below it
pub neither : (n a b : ℕ) → a < n → b < n → (eqb n a || eqb n b) ≡ true → ⊥
neither n a b low_a low_b e = elim (or_cases (eqb n a) (eqb n b) e) [
  | inl is_a ↦ omega (arith, low_a, eqb-true _ _ is_a)
  | inr is_b ↦ omega (arith, low_b, eqb-true _ _ is_b)
]

-- arrive HH E
arrival_meant : (place : Place) (HH E : List ℕ) (b e : Result ℕ Cause) (s : Saying) → byte_in HH ≡ b → errors_in E ≡ e
    → (b >>= (λ byte. e >>= (λ errors. read (event.Arrive byte errors))) >>= (λ a. Ok (Happens a))) ≡ Ok s
    → Means place (codes "arrive" ∷ HH ∷ E ∷ []) s
arrival_meant place HH E (Ok byte) (Ok errors) s b e r =
    subst (λ x. Means place (codes "arrive" ∷ HH ∷ E ∷ []) x) (ok_is r) (row.arrive_faulty b e)
arrival_meant place HH E (Err c) e s b d r = absurd cc
arrival_meant place HH E (Ok byte) (Err c) s b e r = absurd cc

-- arrive HH, or arrive HH E
arrival : (place : Place) (rest : List (List ℕ)) (s : Saying) → has_count word.Arrive (suc (length rest)) ≡ true
    → item_of word.Arrive (codes "arrive" ∷ rest) ≡ Ok s → Means place (codes "arrive" ∷ rest) s
unfolding item_of arrival_in
arrival place [] s c e = absurd cc
arrival place (HH ∷ []) s c e =
    let r = made_twice (byte_in HH) (λ b. event.Arrive b 0) Happens s e in
    field place (codes "arrive") byte_in (λ b. Happens (event.Arrive b 0)) (HH ∷ []) s refl r (λ W x h. row.arrive h)
arrival place (HH ∷ E ∷ []) s c e = arrival_meant place HH E (byte_in HH) (errors_in E) s refl refl e
arrival place (HH ∷ E ∷ X ∷ rest) s c e = absurd (neither (suc (suc (suc (suc (length rest))))) 2 3 (omega arith) (omega arith) c)

-- init F BAUD C HH BITS, from the five fields
init_meant : (place : Place) (F BAUD C HH BITS : List ℕ) (f : Result (Option FifoTriggerLevel) Cause) (b : Result BaudRate Cause)
    (t : Result Bool Cause) (h : Result IER Cause) (l : Result WordLength Cause) (s : Saying)
    → level_in F ≡ f → rate_in BAUD ≡ b → cts_in C ≡ t → interrupts_in HH ≡ h → word_length_in BITS ≡ l
    → ((f >>= (λ level. b >>= (λ rate. t >>= (λ cts. h >>= (λ i. l >>= (λ w. read (configured level rate cts i w)))))))
    >>= (λ x. read (call.Init x)) >>= (λ x. Ok (Calls x))) ≡ Ok s
    → Means place (codes "init" ∷ F ∷ BAUD ∷ C ∷ HH ∷ BITS ∷ []) s
init_meant place F BAUD C HH BITS (Ok level) (Ok rate) (Ok cts) (Ok i) (Ok w) s f b t h l e =
    subst (λ x. Means place (codes "init" ∷ F ∷ BAUD ∷ C ∷ HH ∷ BITS ∷ []) x) (ok_is e) (row.init f b t h l)
init_meant place F BAUD C HH BITS (Err x) br tr hr lr s f b t h l e = absurd cc
init_meant place F BAUD C HH BITS (Ok level) (Err x) tr hr lr s f b t h l e = absurd cc
init_meant place F BAUD C HH BITS (Ok level) (Ok rate) (Err x) hr lr s f b t h l e = absurd cc
init_meant place F BAUD C HH BITS (Ok level) (Ok rate) (Ok cts) (Err x) lr s f b t h l e = absurd cc
init_meant place F BAUD C HH BITS (Ok level) (Ok rate) (Ok cts) (Ok i) (Err x) s f b t h l e = absurd cc

config : (place : Place) (rest : List (List ℕ)) (s : Saying) → has_count word.Init (suc (length rest)) ≡ true
    → item_of word.Init (codes "init" ∷ rest) ≡ Ok s → Means place (codes "init" ∷ rest) s
unfolding item_of call_of config_in
config place (F ∷ BAUD ∷ C ∷ HH ∷ BITS ∷ []) s c e =
    init_meant place F BAUD C HH BITS (level_in F) (rate_in BAUD) (cts_in C) (interrupts_in HH) (word_length_in BITS)
    s refl refl refl refl refl e
config place (F ∷ BAUD ∷ C ∷ HH ∷ BITS ∷ X ∷ rest) s c e = absurd (omega (arith, eqb-true _ _ c))
config place _ s c e = absurd cc

-- init-with F BAUD C HH BITS P W HH, from the eight fields
init_with_meant : (place : Place) (F BAUD C HH BITS P W OUT : List ℕ) (f : Result (Option FifoTriggerLevel) Cause)
    (b : Result BaudRate Cause) (t : Result Bool Cause) (h : Result IER Cause) (l : Result WordLength Cause) (p : Result Bool Cause)
    (w : Result TransmitterWait Cause) (o : Result MCR Cause) (s : Saying)
    → level_in F ≡ f → rate_in BAUD ≡ b → cts_in C ≡ t → interrupts_in HH ≡ h → word_length_in BITS ≡ l → check_in P ≡ p → wait_in W ≡ w
    → outputs_in OUT ≡ o
    → ((f >>= (λ level. b >>= (λ rate. t >>= (λ cts. h >>= (λ i. l >>= (λ v. read (configured level rate cts i v)))))))
    >>= (λ x. (p >>= (λ checks. w >>= (λ wait. o >>= (λ outputs. read (arranged checks wait outputs)))))
    >>= (λ y. read (call.InitWith x y))) >>= (λ x. Ok (Calls x))) ≡ Ok s
    → Means place (codes "init-with" ∷ F ∷ BAUD ∷ C ∷ HH ∷ BITS ∷ P ∷ W ∷ OUT ∷ []) s
init_with_meant place F BAUD C HH BITS P W OUT (Ok level) (Ok rate) (Ok cts) (Ok i) (Ok v) (Ok checks) (Ok wait) (Ok outputs) s
    f b t h l p w o e =
    subst (λ x. Means place (codes "init-with" ∷ F ∷ BAUD ∷ C ∷ HH ∷ BITS ∷ P ∷ W ∷ OUT ∷ []) x) (ok_is e) (row.init_with f b t h l p w o)
init_with_meant place F BAUD C HH BITS P W OUT (Err x) br tr hr lr pr wr or s f b t h l p w o e = absurd cc
init_with_meant place F BAUD C HH BITS P W OUT (Ok level) (Err x) tr hr lr pr wr or s f b t h l p w o e = absurd cc
init_with_meant place F BAUD C HH BITS P W OUT (Ok level) (Ok rate) (Err x) hr lr pr wr or s f b t h l p w o e = absurd cc
init_with_meant place F BAUD C HH BITS P W OUT (Ok level) (Ok rate) (Ok cts) (Err x) lr pr wr or s f b t h l p w o e = absurd cc
init_with_meant place F BAUD C HH BITS P W OUT (Ok level) (Ok rate) (Ok cts) (Ok i) (Err x) pr wr or s f b t h l p w o e = absurd cc
init_with_meant place F BAUD C HH BITS P W OUT (Ok level) (Ok rate) (Ok cts) (Ok i) (Ok v) (Err x) wr or s f b t h l p w o e = absurd cc
init_with_meant place F BAUD C HH BITS P W OUT (Ok level) (Ok rate) (Ok cts) (Ok i) (Ok v) (Ok checks) (Err x) or s f b t h l p w o e =
    absurd cc
init_with_meant place F BAUD C HH BITS P W OUT (Ok level) (Ok rate) (Ok cts) (Ok i) (Ok v) (Ok checks) (Ok wait) (Err x) s
    f b t h l p w o e = absurd cc

set_up : (place : Place) (rest : List (List ℕ)) (s : Saying) → has_count word.InitWith (suc (length rest)) ≡ true
    → item_of word.InitWith (codes "init-with" ∷ rest) ≡ Ok s → Means place (codes "init-with" ∷ rest) s
unfolding item_of call_of config_in setup_in
set_up place (F ∷ BAUD ∷ C ∷ HH ∷ BITS ∷ P ∷ W ∷ OUT ∷ []) s c e =
    init_with_meant place F BAUD C HH BITS P W OUT (level_in F) (rate_in BAUD) (cts_in C) (interrupts_in HH) (word_length_in BITS)
    (check_in P) (wait_in W) (outputs_in OUT) s refl refl refl refl refl refl refl refl e
set_up place (F ∷ BAUD ∷ C ∷ HH ∷ BITS ∷ P ∷ W ∷ OUT ∷ X ∷ rest) s c e = absurd (omega (arith, eqb-true _ _ c))
set_up place _ s c e = absurd cc

-- a line that begins with a word and says something means that
pub is_meant : (place : Place) (w : Word) (rest : List (List ℕ)) (s : Saying) → is_first place ≡ false → is_placed place (Some w) ≡ true
    → has_count w (suc (length rest)) ≡ true
    → item_of w (name_of w ∷ rest) ≡ Ok s → Means place (name_of w ∷ rest) s
unfolding item_of call_of
is_meant place word.Chip rest s le p c e = absurd cc
is_meant place word.Limit rest s le p c e = field place _ limit_in (λ k. Limit k) rest s c e (λ W x h. row.limit p h)
is_meant place word.FifoSize rest s le p c e = field place _ size_in (λ k. Size k) rest s c e (λ W x h. row.fifo_size p h)
is_meant place word.Arrive rest s le p c e = arrival place rest s c e
is_meant place word.Init rest s le p c e = config place rest s c e
is_meant place word.InitWith rest s le p c e = set_up place rest s c e
is_meant place word.SetFrame rest s le p c e =
    call_fields place _ rate_in word_length_in (λ rate length. call.SetFrame (framed rate length)) rest s c e
    (λ V W x y h k. row.set_frame h k)
is_meant place word.SetFrameWhenIdle rest s le p c e =
    call_fields place _ rate_in word_length_in (λ rate length. call.SetFrameWhenIdle (framed rate length)) rest s c e
    (λ V W x y h k. row.set_frame_when_idle h k)
is_meant place word.SetTriggerLevel rest s le p c e =
    call_field place _ (trigger_in) (call.SetTriggerLevel) rest s c e (λ W x h. row.set_trigger_level h)
is_meant place word.SetBreak rest s le p c e = call_field place _ (switch_in) (call.SetBreak) rest s c e (λ W x h. row.set_break h)
is_meant place word.SetModemControl rest s le p c e =
    call_field place _ (outputs_in) (call.SetModemControl) rest s c e (λ W x h. row.set_modem_control h)
is_meant place word.SetRts rest s le p c e = call_field place _ (switch_in) (call.SetRts) rest s c e (λ W x h. row.set_rts h)
is_meant place word.SetDtr rest s le p c e = call_field place _ (switch_in) (call.SetDtr) rest s c e (λ W x h. row.set_dtr h)
is_meant place word.Quiesce rest s le p c e =
    call_fields place _ outputs_in fifos_in call.Quiesce rest s c e (λ V W x y h k. row.quiesce h k)
is_meant place word.Restore rest s le p c e = call_field place _ (dump_in) (call.Restore) rest s c e (λ W x h. row.restore h)
is_meant place word.CheckConfigured rest s le p c e =
    call_field place _ (outputs_in) (call.CheckConfigured) rest s c e (λ W x h. row.check_configured h)
is_meant place word.ReceiveWithErrors rest s le p c e =
    call_field place _ count_in (call.ReceiveWithErrors) rest s c e (λ W x h. row.receive_with_errors h)
is_meant place word.Access rest s le p c e = bare place _ rest s (Happens event.Access) c e row.access
is_meant place word.Next rest s le p c e = bare place _ rest s (Marks) c e row.next
is_meant place word.Tick rest s le p c e = field place _ ticks_in (λ k. Happens (event.Ticks k)) rest s c e (λ W x h. row.tick h)
is_meant place word.Lines rest s le p c e = field place _ (lines_in) (λ v. Happens (event.Lines v)) rest s c e (λ W x h. row.lines h)
is_meant place word.TrySend rest s le p c e = call_field place _ (byte_in) (call.TrySend) rest s c e (λ W x h. row.try_send h)
is_meant place word.Enable rest s le p c e = call_field place _ (interrupts_in) (call.Enable) rest s c e (λ W x h. row.enable h)
is_meant place word.Disable rest s le p c e = call_field place _ (interrupts_in) (call.Disable) rest s c e (λ W x h. row.disable h)
is_meant place word.Receive rest s le p c e = call_field place _ count_in (call.Receive) rest s c e (λ W x h. row.receive h)
is_meant place word.ReceiveExact rest s le p c e =
    call_field place _ count_in (call.ReceiveExact) rest s c e (λ W x h. row.receive_exact h)
is_meant place word.Read rest s le p c e = call_field place _ count_in (call.Read) rest s c e (λ W x h. row.read h)
is_meant place word.Send rest s le p c e = call_field place _ (bytes_in) (λ x. call.Send (array_of x)) rest s c e (λ W x h. row.send h)
is_meant place word.SendExact rest s le p c e =
    call_field place _ (bytes_in) (λ x. call.SendExact (array_of x)) rest s c e (λ W x h. row.send_exact h)
is_meant place word.Write rest s le p c e = call_field place _ (bytes_in) (λ x. call.Write (array_of x)) rest s c e (λ W x h. row.write h)
is_meant place word.Text rest s le p c e = call_field place _ (text_in) (λ x. call.Text (text_of x)) rest s c e (λ W x h. row.text h)
is_meant place w rest s le p c e = bare place _ rest s _ c e (row.bare w refl)

-- ---- the first word

found_first : {X : Type 0} (p : X → Bool) (x y : X) (others : Option X) (b : Bool) → p y ≡ b → (others ≡ Some x → p x ≡ true)
    → cond b (Some y) others ≡ Some x → p x ≡ true
found_first p x y others true t h e = let same : y ≡ x = cc in subst (λ z. p z ≡ true) same t
found_first p x y others false t h e = h e

found : {X : Type 0} (p : X → Bool) (xs : List X) (x : X) → find p xs ≡ Some x → p x ≡ true
found p [] x e = absurd cc
found p (y ∷ ys) x e = found_first p x y (find p ys) (p y) refl (found p ys x) e

pub name_is : (text : List ℕ) (w : Word) → word_of text ≡ Some w → name_of w ≡ text
unfolding word_of
name_is text w e = (bytes_eq-Decides (name_of w) text).0 (found (λ w. bytes_eq (name_of w) text) words w e)

-- a word that is in its place before as many words as it takes
pub record IsPlaced (place : Place) (ws : List (List ℕ)) (first : Option Word) (w : Word) : Type 0 where
  pub word_is : first ≡ Some w
  pub placed : is_placed place (Some w) ≡ true
  pub count : has_count w (length ws) ≡ true

placed_by : (place : Place) (ws : List (List ℕ)) (v w : Word) (p c : Bool) → is_placed place (Some v) ≡ p → has_count v (length ws) ≡ c
    → cond p (cond c (read v) (Err WrongCount)) (Err Misplaced) ≡ Ok w → IsPlaced place ws (Some v) w
placed_by place ws v w true true p c e =
    let same : v ≡ w = ok_is e in subst (λ z. IsPlaced place ws (Some v) z) same (record { word_is = refl; placed = p; count = c })
placed_by place ws v w true false p c e = absurd cc
placed_by place ws v w false c p d e = absurd cc

no_word : {A : Type 0} (b : Bool) (x : A) → cond b (Err UnknownWord) (Err Misplaced) ≡ read x → ⊥
no_word true x e = absurd cc
no_word false x e = absurd cc

placed_is : (place : Place) (ws : List (List ℕ)) (first : Option Word) (w : Word) → placed_word place ws first ≡ Ok w
    → IsPlaced place ws first w
placed_is place ws None w e = absurd (no_word (is_placed place None) w e)
placed_is place ws (Some v) w e = placed_by place ws v w _ _ refl refl e

pub means_what_is_read : (place : Place) (ws : List (List ℕ)) (s : Saying) → is_first place ≡ false → read_of place ws ≡ Ok s
    → Means place ws s
unfolding word_of
means_what_is_read place [] s le e =
    let first = bind_ok (placed_word place [] None) (λ w. item_of w []) s e in
    absurd (no_word (is_placed place None) first.0 first.1)
means_what_is_read place (text ∷ rest) s le e =
    let first = bind_ok (placed_word place (text ∷ rest) (word_of text)) (λ w. item_of w (text ∷ rest)) s e in
    let p = placed_is place (text ∷ rest) (word_of text) first.0 first.1 in
    let name : name_of first.0 ≡ text = name_is text first.0 p.word_is in
    subst (λ x. Means place (x ∷ rest) s) name
    (is_meant place first.0 rest s le p.placed p.count (subst (λ x. item_of first.0 (x ∷ rest) ≡ Ok s) (sym name) first.2))

-- ---- a line after the first

says_by : (place : Place) (line : List ℕ) (s : Saying) (none bad : Bool) → is_first place ≡ false → eqb (length line) 0 ≡ none
    → has_bad_byte line ≡ bad
    → cond none (read Nothing)
    (cond bad (Err BadByte) (placed_word place (words_of line) (word_of (word_at 0 (words_of line)))) >>= (λ w. item_of w (words_of line)))
    ≡ Ok s → Says place line s
says_by place line s true bad le n b e = blank (nil_from_length line (eqb-true _ _ n)) (sym (ok_is e))
says_by place line s false true le n b e = absurd cc
says_by place line s false false le n b e = printable b (means_what_is_read place (words_of line) s le e)

pub says_what_is_read : (place : Place) (line : List ℕ) (s : Saying) → is_first place ≡ false → item_at place line ≡ Ok s
    → Says place line s
unfolding item_at starts_with
says_what_is_read place line s le e = says_by place line s _ _ le refl refl e

is_read_by : (place : Place) (line : List ℕ) (s : Saying) → is_first place ≡ false → has_bad_byte line ≡ false
    → read_of place (words_of line) ≡ Ok s
    → item_at place line ≡ Ok s
unfolding item_at starts_with word_of
is_read_by place [] s le b e =
    let first = bind_ok (placed_word place ([] ∷ []) None) (λ w. item_of w ([] ∷ [])) s e in
    absurd (no_word (is_placed place None) first.0 first.1)
is_read_by place (byte ∷ line) s le b e = rw (b, eqb-suc-zero (length line)) e

pub reads_what_is_said : (place : Place) (line : List ℕ) (s : Saying) → is_first place ≡ false → Says place line s
    → item_at place line ≡ Ok s
unfolding item_at
reads_what_is_said place line s le (blank l e) = rw (l, e) refl
reads_what_is_said place line s le (printable b m) = is_read_by place line s le b (is_read le m)
