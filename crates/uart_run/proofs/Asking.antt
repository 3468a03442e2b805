-- Calls that ask their caller, and bursts of any size: the lists that they make are those of other calls.
use Rattle.uart_run.proofs.Names.{◌≡◌, ◌<◌, ◌≤◌, ◌+◌, ◌-◌, ℕ, zero, suc, Bool, true, false, MatchBool, List, [], ◌∷◌, ◌++◌, length, map}
use Rattle.uart_run.proofs.Names.{take, drop, Option, Some, None, Result, Ok, Err, inl, inr, refl, sym, ◌∙◌, ap, subst, arith, bit_or}
use Rattle.uart_run.proofs.Names.{append_assoc, append-nil, length-append, length-drop, sum, or_zero_r, Path, saved_lsr, saved_msr, Access}
use Rattle.uart_run.proofs.Names.{ByteReceiveError, NoCapacity, RemoteNotClearToSend, StalledError, Config, LoopbackError, FifoSize}
use Rattle.uart_run.proofs.Names.{SendsBurst, Fields, Made, fields, settings_of, with_fifo_size, ShowsIdle, Inits, TestsLoopback, Starts}
use Rattle.uart_run.proofs.Names.{inner_of, SendsEach, SendsText, expansion, Asks, Language, Only, Settings, Then, InOrder, Times, Miss}
use Rattle.uart_run.proofs.Names.{TryReceive, Burst, IsCut, LinesAllow, SendHit, SendMiss, Sends, burst_size, did_made, some_limit}
use Rattle.uart_run.proofs.Names.{or_assoc, saved-append, Call, Answer, Count, Done, Flag, InitRefused, MachineState, MachineStep}
use Rattle.uart_run.proofs.Names.{path_split, State, under_terminal, Driver, StandsFor, StandsForRun, sends_of, in_vain, sent_by, found_of}
use Rattle.uart_run.proofs.Names.{answer_of, looks_of, WritesInTurn, IsTextSent, sends_one, counts_one, went_of, SendsSized, SendsInTurn}
use Rattle.uart_run.proofs.Names.{ReceivesInTurn, LooksInTurn, StartsTerminal, starts_of, started_of, loopback_answer}
use Rattle.std.proofs.lemmas.List.Sums.{sum_by-cons}
use Rattle.uart_spec.specs.declared.errors.Uart16550TtyError.{Uart16550TtyError}
use Rattle.uart_spec.specs.declared.errors.Uart16550TtyError.TheVariants.{AddressError, InitError, TestError}
use Rattle.uart_spec.specs.declared.registers.line_status.TheConstants.LSR
use Rattle.uart_spec.specs.declared.registers.offsets.TheConstants as offsets
use Rattle.uart_16550.specs.Patience.{Awaited, ByteAfter, FlushesWhile, InVain, ReceivesWhile, RoundAfter, SendsWhile, ShowsEmpty}
use Rattle.uart_16550.specs.Patience.{items_of, keeps_waiting, misses_of}
use Rattle.uart_16550.specs.declared.patience.WaitEnd.{WaitEnd}
use Rattle.uart_16550.specs.declared.patience.WaitEnd.TheVariants.{SpinLimit, Patience}
use Rattle.uart_16550.specs.declared.patience.WaitError.{WaitError}
use Rattle.uart_call.specs.declared.call.Call.TheVariants as call
use Rattle.uart_run.proofs.{built.Calls.call_does, built.Words.leaves}

-- ---- the driver after some accesses

-- it is over the machine that they lead to, and what their reads show is saved
abbrev past : Driver → List Access → MachineState → Driver
past d l m = record d {
  backend = m;
  saved_lsr = record { 0 = bit_or d.saved_lsr.0 (saved_lsr l) };
  saved_msr = record { 0 = bit_or d.saved_msr.0 (saved_msr l) };
}

past_none : (d : Driver) (l : List Access) (m : MachineState) → l ≡ [] → m ≡ d.backend → past d l m ≡ d
past_none d l m none same =
    let lsr : bit_or d.saved_lsr.0 (saved_lsr l) ≡ d.saved_lsr.0 = rw none (or_zero_r d.saved_lsr.0) in
    let msr : bit_or d.saved_msr.0 (saved_msr l) ≡ d.saved_msr.0 = rw none (or_zero_r d.saved_msr.0) in
    λ i. record {
      backend = same i;
      config = d.config;
      fifo_enabled = d.fifo_enabled;
      fifo_size = d.fifo_size;
      saved_lsr = record { 0 = lsr i };
      saved_msr = record { 0 = msr i };
      spin_limit = d.spin_limit;
    }

past_next : (d : Driver) (k l : List Access) (m n : MachineState) → past (past d k m) l n ≡ past d (k ++ l) n
past_next d k l m n =
    let lsr : bit_or (bit_or d.saved_lsr.0 (saved_lsr k)) (saved_lsr l) ≡ bit_or d.saved_lsr.0 (saved_lsr (k ++ l)) =
    or_assoc d.saved_lsr.0 (saved_lsr k) (saved_lsr l) ∙ ap (bit_or d.saved_lsr.0) (sym (saved-append _ _ k l)) in
    let msr : bit_or (bit_or d.saved_msr.0 (saved_msr k)) (saved_msr l) ≡ bit_or d.saved_msr.0 (saved_msr (k ++ l)) =
    or_assoc d.saved_msr.0 (saved_msr k) (saved_msr l) ∙ ap (bit_or d.saved_msr.0) (sym (saved-append _ _ k l)) in
    λ i. record {
      backend = n;
      config = d.config;
      fifo_enabled = d.fifo_enabled;
      fifo_size = d.fifo_size;
      saved_lsr = record { 0 = lsr i };
      saved_msr = record { 0 = msr i };
      spin_limit = d.spin_limit;
    }

past_made : {L : Language} (d e : Driver) (made : Made MachineStep L d e) → past d made.list e.backend ≡ e
past_made d e made = λ i. record {
  backend = e.backend;
  config = sym made.config i;
  fifo_enabled = sym made.fifo i;
  fifo_size = sym made.size i;
  saved_lsr = record { 0 = sym made.lsr i };
  saved_msr = record { 0 = sym made.msr i };
  spin_limit = sym made.limit i;
}

-- ---- calls in turn

-- calls in turn, along these accesses
abbrev Walks : Driver → List Call → List Answer → List Access → MachineState → Type 0
Walks d calls answers l n = StandsForRun d calls answers (past d l n)

walk_none : (d : Driver) (l : List Access) (n : MachineState) → l ≡ [] → Path MachineStep d.backend l n → Walks d [] [] l n
walk_none d l n none path =
    let P : List Access → Type 0 = λ k. Path MachineStep d.backend k n in
    let same : n ≡ d.backend = subst P none path in
    record { links = []; chain = ap under_terminal (past_none d l n none same); calls_same = refl; answers_same = refl }

walk_call : (d : Driver) (c : Call) (a : Answer) (k l : List Access) (m n : MachineState) (calls : List Call) (answers : List Answer) →
    StandsFor d c a (past d k m) → Walks (past d k m) calls answers l n → Walks d (c ∷ calls) (a ∷ answers) (k ++ l) n
walk_call d c a k l m n calls answers step rest =
    let W : Driver → Type 0 = λ e. StandsForRun (past d k m) calls answers e in
    let w = subst W (past_next d k l m n) rest in
    record {
      links = record { before = under_terminal d; call = c; answer = a; after = under_terminal (past d k m) } ∷ w.links;
      chain = (refl, step, w.chain);
      calls_same = ap (λ cs. c ∷ cs) w.calls_same;
      answers_same = ap (λ bs. a ∷ bs) w.answers_same;
    }

-- lists in order are calls in turn
module _ {A : Type 0} (L : A → Language) (called : A → Call) (answer : A → Answer)
    (each : (d : Driver) (item : A) (k : List Access) (m : MachineState) → Path MachineStep d.backend k m →
    L item (settings_of (fields d)) k → StandsFor d (called item) (answer item) (past d k m)) where
  walks : (items : List A) (d : Driver) (l : List Access) (n : MachineState) → Path MachineStep d.backend l n →
      InOrder L items (settings_of (fields d)) l → Walks d (map called items) (map answer items) l n
  walks [] d l n path t = walk_none d l n t.is path
  walks (item ∷ items) d l n path t =
      let P : List Access → Type 0 = λ k. Path MachineStep d.backend k n in
      let parts = path_split MachineStep d.backend n t.front t.back (subst P t.whole path) in
      let W : List Access → Type 0 = λ k. Walks d (called item ∷ map called items) (answer item ∷ map answer items) k n in
      subst W (sym t.whole) (walk_call d (called item) (answer item) t.front t.back parts.0 n (map called items) (map answer items)
      (each d item t.front parts.0 parts.1 t.first) (walks items (past d t.front parts.0) t.back n parts.2 t.second))

-- ---- lists

in_order_two : {A : Type 0} (P : A → Language) (xs ys : List A) (s : Settings) (l k : List Access) → InOrder P xs s l → InOrder P ys s k →
    InOrder P (xs ++ ys) s (l ++ k)
in_order_two P [] ys s l k t u = rw t.is u
in_order_two P (x ∷ xs) ys s l k t u = record {
  front = t.front;
  back = t.back ++ k;
  whole = ap (λ zs. zs ++ k) t.whole ∙ append_assoc t.front t.back k;
  first = t.first;
  second = in_order_two P xs ys s t.back k t.second u;
}

-- the same item so many times
abbrev same_times : {A : Type 0} → ℕ → A → List A
same_times zero x = []
same_times (suc n) x = x ∷ same_times n x

times_in_order : {A : Type 0} (P : A → Language) (Q : Language) (x : A) → ((s : Settings) (l : List Access) → Q s l → P x s l) → (n : ℕ)
    (s : Settings) (l : List Access) → Times n Q s l → InOrder P (same_times n x) s l
times_in_order P Q x each zero s l t = t
times_in_order P Q x each (suc n) s l t = record {
  front = t.front;
  back = t.back;
  whole = t.whole;
  first = each s t.front t.first;
  second = times_in_order P Q x each n s t.back t.second;
}

length_keeps : (n : ℕ) → length (keeps_waiting n) ≡ n
length_keeps zero = refl
length_keeps (suc n) = ap suc (length_keeps n)

length_same : {A : Type 0} (n : ℕ) (x : A) → length (same_times n x) ≡ n
length_same zero x = refl
length_same (suc n) x = ap suc (length_same n x)

-- a wait in vain is as many misses as the caller was asked after
vain_times : (Q : Language) (said : List Bool) (end : WaitEnd) (s : Settings) (l : List Access) → InVain Q said end s l →
    Times (length said) Q s l
vain_times Q said SpinLimit s l (kept, all) = rw (ap length kept ∙ length_keeps s.limit) all
vain_times Q said Patience s l (n, few, kept, all) =
    let long : length said ≡ n + 1 = ap length kept ∙ (length-append (keeps_waiting n) (false ∷ []) ∙ ap (λ k. k + 1) (length_keeps n)) in
    rw long all

-- ---- looks for an empty transmitter

looks_once : (d : Driver) (empty : Bool) (k : List Access) (m : MachineState) → Path MachineStep d.backend k m →
    ShowsIdle empty (settings_of (fields d)) k → StandsFor d call.IsIdle (Flag empty) (past d k m)
looks_once d empty k m path shows =
    record { outcome = empty; answered = refl; did = record { list = k; path = path; does = (shows, refl) } }

map_said : (said : List Bool) → map (λ (answer : Bool). false) said ≡ same_times (length said) false
map_said [] = refl
map_said (x ∷ said) = ap (λ xs. false ∷ xs) (map_said said)

looked : (said : List Bool) (result : Result (Unit {0}) WaitError) (s : Settings) (l : List Access) → FlushesWhile said result s l →
    InOrder ShowsIdle (looks_of result said) s l
looked said (Ok x) s l (n, kept, (few, t)) =
    let long : length said ≡ n = ap length kept ∙ length_keeps n in
    let same : map (λ (answer : Bool). false) said ≡ same_times n false = map_said said ∙ ap (λ (k : ℕ). same_times k false) long in
    let misses = times_in_order ShowsIdle (ShowsEmpty false) false (λ s l h. h) n s t.front t.first in
    let last : InOrder ShowsIdle (true ∷ []) s t.back = record {
      front = t.back;
      back = [];
      whole = sym (append-nil t.back);
      first = t.second;
      second = record { is = refl };
    } in
    let X : List Bool → Type 0 = λ xs. InOrder ShowsIdle (xs ++ true ∷ []) s l in
    let L : List Access → Type 0 = λ zs. InOrder ShowsIdle (same_times n false ++ true ∷ []) s zs in
    subst X (sym same) (subst L (sym t.whole) (in_order_two ShowsIdle (same_times n false) (true ∷ []) s t.front t.back misses last))
looked said (Err e) s l (none, vain) =
    let X : List Bool → Type 0 = λ xs. InOrder ShowsIdle xs s l in
    subst X (sym (map_said said))
    (times_in_order ShowsIdle (ShowsEmpty false) false (λ s l h. h) (length said) s l
    (vain_times (ShowsEmpty false) said e.ended_by s l vain))

pub looks_in_turn : LooksInTurn
looks_in_turn d e said result made =
    let W : Driver → Type 0 = λ f. StandsForRun d (map (λ shown. call.IsIdle) (looks_of result said)) (map Flag (looks_of result said)) f in
    subst W (past_made d e made)
    (walks ShowsIdle (λ shown. call.IsIdle) Flag looks_once (looks_of result said) d made.list e.backend made.path
    (looked said result (settings_of (fields d)) made.list made.fits))

-- ---- bytes that are received

-- what a `try_receive_byte` returns
abbrev result_of : Option ℕ → Result ℕ ByteReceiveError
result_of (Some byte) = Ok byte
result_of None = Err (record {})

abbrev Tries : Option ℕ → Language
Tries one = TryReceive (result_of one)

tries_once : (d : Driver) (one : Option ℕ) (k : List Access) (m : MachineState) → Path MachineStep d.backend k m →
    Tries one (settings_of (fields d)) k → StandsFor d call.TryReceive (answer_of one) (past d k m)
tries_once d (Some byte) k m path t =
    record { outcome = Ok byte; answered = refl; did = record { list = k; path = path; does = (t, refl) } }
tries_once d None k m path t =
    record { outcome = result_of None; answered = refl; did = record { list = k; path = path; does = (t, refl) } }

-- none so many times, and then what follows
abbrev nones : ℕ → List (Option ℕ)
nones n = same_times n None

found_none : (n : ℕ) (more : List (Option ℕ)) → found_of (nones n ++ more) ≡ found_of more
found_none zero more = refl
found_none (suc n) more = found_none n more

misses_tried : (n : ℕ) (s : Settings) (l : List Access) → Times n Miss s l → InOrder Tries (nones n) s l
misses_tried n s l t = times_in_order Tries Miss None (λ s l h. h) n s l t

-- the calls for bytes that were waited for
abbrev tries_for : List (Awaited ℕ) → List (Option ℕ)
tries_for [] = []
tries_for (one ∷ others) = nones one.misses ++ Some one.item ∷ tries_for others

found_for : (received : List (Awaited ℕ)) (more : List (Option ℕ)) →
    found_of (tries_for received ++ more) ≡ items_of received ++ found_of more
found_for [] more = refl
found_for (one ∷ others) more =
    let whole = append_assoc (nones one.misses) (Some one.item ∷ tries_for others) more in
    ap found_of whole ∙ (found_none one.misses (Some one.item ∷ (tries_for others ++ more))
    ∙ ap (λ bytes. one.item ∷ bytes) (found_for others more))

long_for : (received : List (Awaited ℕ)) → length (tries_for received) ≡ length (items_of received) + misses_of received
long_for [] = refl
long_for (one ∷ others) =
    let whole = length-append (nones one.misses) (Some one.item ∷ tries_for others) in
    let misses = length_same {A = Option ℕ} one.misses None in
    let rest = long_for others in
    omega (arith, whole, misses, rest)

awaited_tried : (received : List (Awaited ℕ)) (s : Settings) (l : List Access) → InOrder ByteAfter received s l →
    InOrder Tries (tries_for received) s l
awaited_tried [] s l t = t
awaited_tried (one ∷ others) s l t =
    let after = t.first.1 in
    let hit : InOrder Tries (Some one.item ∷ tries_for others) s (after.back ++ t.back) = record {
      front = after.back;
      back = t.back;
      whole = refl;
      first = after.second;
      second = awaited_tried others s t.back t.second;
    } in
    let whole : l ≡ after.front ++ (after.back ++ t.back) =
    t.whole ∙ (ap (λ zs. zs ++ t.back) after.whole ∙ append_assoc after.front after.back t.back) in
    rw whole (in_order_two Tries (nones one.misses) (Some one.item ∷ tries_for others) s after.front (after.back ++ t.back)
    (misses_tried one.misses s after.front after.first) hit)

pub receives_in_turn : ReceivesInTurn
receives_in_turn d e n bytes said result made = (
  tried.0,
  subst W (past_made d e made)
      (walks Tries (λ one. call.TryReceive) answer_of tries_once tried.0 d made.list e.backend made.path tried.1),
  tried.2,
  tried.3,
)
  where
    s : Settings
    s = settings_of (fields d)

    Tried : Type 0
    Tried = (got : List (Option ℕ)) × InOrder Tries got s made.list × (found_of got ≡ bytes) × (length got ≡ length bytes + length said)

    all : (other : Result (Unit {0}) WaitError) → ReceivesWhile n bytes said other s made.list → Tried
    all (Ok x) (received, are, long, asked, t) =
        let count = long_for received in
        let said_long : length said ≡ misses_of received = ap length asked ∙ length_keeps (misses_of received) in
        let bytes_long : length bytes ≡ length (items_of received) = ap length are in (
          tries_for received,
          awaited_tried received s made.list t,
          ap found_of (sym (append-nil (tries_for received))) ∙ (found_for received [] ∙ (append-nil (items_of received) ∙ sym are)),
          omega (arith, count, said_long, bytes_long),
        )
    all (Err error) (received, last, are, few, done, asked, t) =
        let count = long_for received in
        let asked_long = length-append (keeps_waiting (misses_of received)) last in
        let said_long : length said ≡ misses_of received + length last =
        ap length asked ∙ (asked_long ∙ ap (λ k. k + length last) (length_keeps (misses_of received))) in
        let bytes_long : length bytes ≡ length (items_of received) = ap length are in
        let nothing : found_of (nones (length last)) ≡ [] =
        ap found_of (sym (append-nil (nones (length last)))) ∙ found_none (length last) [] in
        let whole = length-append (tries_for received) (nones (length last)) in
        let misses = length_same {A = Option ℕ} (length last) None in (
          tries_for received ++ nones (length last),
          rw t.whole (in_order_two Tries (tries_for received) (nones (length last)) s t.front t.back
              (awaited_tried received s t.front t.first)
              (misses_tried (length last) s t.back (vain_times Miss last error.ended_by s t.back t.second))),
          found_for received (nones (length last))
              ∙ (ap (λ zs. items_of received ++ zs) nothing ∙ (append-nil (items_of received) ∙ sym are)),
          omega (arith, count, said_long, bytes_long, whole, misses),
        )

    tried : Tried
    tried = all result made.fits

    W : Driver → Type 0
    W f = StandsForRun d (map (λ one. call.TryReceive) tried.0) (map answer_of tried.0) f

-- ---- bytes that are sent

-- sends in turn, each of what the ones before it have left
abbrev SendsOn : List ℕ → List ℕ → Language
SendsOn bytes [] = Only []
SendsOn bytes (count ∷ counts) = Then (Sends bytes count) (SendsOn (drop count bytes) counts)

sends_walk : (counts bytes : List ℕ) (d : Driver) (l : List Access) (n : MachineState) → Path MachineStep d.backend l n →
    SendsOn bytes counts (settings_of (fields d)) l → Walks d (sends_of bytes counts) (map Count counts) l n
sends_walk [] bytes d l n path t = walk_none d l n t.is path
sends_walk (count ∷ counts) bytes d l n path t =
    let P : List Access → Type 0 = λ k. Path MachineStep d.backend k n in
    let parts = path_split MachineStep d.backend n t.front t.back (subst P t.whole path) in
    let c : Call = call.Send (record { items = bytes }) in
    let calls = sends_of (drop count bytes) counts in
    let W : List Access → Type 0 = λ k. Walks d (c ∷ calls) (Count count ∷ map Count counts) k n in
    let step : StandsFor d c (Count count) (past d t.front parts.0) =
    record { outcome = count; answered = refl; did = record { list = t.front; path = parts.1; does = (t.first, refl) } } in
    subst W (sym t.whole) (walk_call d c (Count count) t.front t.back parts.0 n calls (map Count counts) step
    (sends_walk counts (drop count bytes) (past d t.front parts.0) t.back n parts.2 t.second))

abbrev zeros : ℕ → List ℕ
zeros n = same_times n 0

misses_sent : (n : ℕ) (bytes counts : List ℕ) (s : Settings) (l k : List Access) → 0 < length bytes → Times n SendMiss s l →
    SendsOn bytes counts s k → SendsOn bytes (zeros n ++ counts) s (l ++ k)
misses_sent zero bytes counts s l k some t rest = rw t.is rest
misses_sent (suc n) bytes counts s l k some t rest = record {
  front = t.front;
  back = t.back ++ k;
  whole = ap (λ zs. zs ++ k) t.whole ∙ append_assoc t.front t.back k;
  first = inr (inl (some, refl, t.first));
  second = misses_sent n bytes counts s t.back k some t.second rest;
}

-- the numbers for rounds that were waited for
abbrev counts_for : Settings → List ℕ → List (Awaited (List ℕ)) → List ℕ
counts_for s bytes [] = []
counts_for s bytes (one ∷ others) =
    zeros one.misses ++ burst_size s bytes ∷ counts_for s (drop (burst_size s bytes) bytes) others

rounds_sent : (rounds : List (Awaited (List ℕ))) (bytes rest counts : List ℕ) (s : Settings) (l k : List Access) →
    IsCut s bytes (items_of rounds) rest → InOrder RoundAfter rounds s l → SendsOn rest counts s k →
    SendsOn bytes (counts_for s bytes rounds ++ counts) s (l ++ k)
rounds_sent [] bytes rest counts s l k cut t tail =
    let S : List ℕ → Type 0 = λ bs. SendsOn bs counts s k in
    rw t.is (subst S cut tail)
rounds_sent (one ∷ others) bytes rest counts s l k (some, piece, cut) t tail =
    let after = t.first.1 in
    let b = burst_size s bytes in
    let B : List ℕ → Type 0 = λ bs. Burst bs s after.back in
    let burst : SendsOn bytes (b ∷ (counts_for s (drop b bytes) others ++ counts)) s (after.back ++ (t.back ++ k)) = record {
      front = after.back;
      back = t.back ++ k;
      whole = refl;
      first = inr (inr (some, refl, subst B piece after.second));
      second = rounds_sent others (drop b bytes) rest counts s t.back k cut t.second tail;
    } in
    let whole : l ++ k ≡ after.front ++ (after.back ++ (t.back ++ k)) =
    ap (λ zs. zs ++ k) (t.whole ∙ (ap (λ zs. zs ++ t.back) after.whole ∙ append_assoc after.front after.back t.back))
    ∙ (append_assoc after.front (after.back ++ t.back) k ∙ ap (λ zs. after.front ++ zs) (append_assoc after.back t.back k)) in
    let later = counts_for s (drop b bytes) others ++ counts in
    let S : List ℕ → Type 0 = λ cs. SendsOn bytes cs s (l ++ k) in
    let T : List Access → Type 0 = λ zs. SendsOn bytes (zeros one.misses ++ b ∷ later) s zs in
    subst S (sym (append_assoc (zeros one.misses) (b ∷ counts_for s (drop b bytes) others) counts)) (subst T (sym whole)
    (misses_sent one.misses bytes (b ∷ later) s after.front (after.back ++ (t.back ++ k)) some after.first burst))

-- how many bytes they are, and how many sent none

sum_zeros : (n : ℕ) (counts : List ℕ) → sum (zeros n ++ counts) ≡ sum counts
sum_zeros zero counts = refl
sum_zeros (suc n) counts = sum_zeros n counts

vain_zeros : (n : ℕ) (counts : List ℕ) → in_vain (zeros n ++ counts) ≡ n + in_vain counts
vain_zeros zero counts = let all : in_vain counts ≡ 0 + in_vain counts = omega arith in all
vain_zeros (suc n) counts =
    let rest = vain_zeros n counts in
    let all : suc (in_vain (zeros n ++ counts)) ≡ suc n + in_vain counts = omega (arith, rest) in all

vain_some : (b : ℕ) (counts : List ℕ) → 0 < b → in_vain (b ∷ counts) ≡ in_vain counts
vain_some zero counts some = absurd (omega (arith, some))
vain_some (suc b) counts some = refl

burst_some : (s : Settings) (bytes : List ℕ) → 0 < length bytes → 0 < burst_size s bytes
burst_some s bytes some = let limit = some_limit s.fifo s.size in omega (arith, some, limit)

burst_within : (s : Settings) (bytes : List ℕ) → burst_size s bytes ≤ length bytes
burst_within s bytes = omega arith

rounds_sum : (rounds : List (Awaited (List ℕ))) (bytes rest counts : List ℕ) (s : Settings) → IsCut s bytes (items_of rounds) rest →
    sum (counts_for s bytes rounds ++ counts) + length rest ≡ length bytes + sum counts
rounds_sum [] bytes rest counts s cut =
    let same : length rest ≡ length bytes = ap length cut in
    let all : sum counts + length rest ≡ length bytes + sum counts = omega (arith, same) in all
rounds_sum (one ∷ others) bytes rest counts s (some, piece, cut) =
    let b : ℕ = burst_size s bytes in
    let later : List ℕ = counts_for s (drop b bytes) others ++ counts in
    let whole : sum (counts_for s bytes (one ∷ others) ++ counts) ≡ b + sum later =
    ap sum (append_assoc (zeros one.misses) (b ∷ counts_for s (drop b bytes) others) counts)
    ∙ (sum_zeros one.misses (b ∷ later) ∙ sum_by-cons (λ (x : ℕ). x) b later) in
    let rest_sum : sum later + length rest ≡ length (drop b bytes) + sum counts = rounds_sum others (drop b bytes) rest counts s cut in
    let dropped : length (drop b bytes) ≡ length bytes - b = length-drop b bytes in
    let within : b ≤ length bytes = burst_within s bytes in
    omega (arith, whole, rest_sum, dropped, within)

rounds_vain : (rounds : List (Awaited (List ℕ))) (bytes rest counts : List ℕ) (s : Settings) → IsCut s bytes (items_of rounds) rest →
    in_vain (counts_for s bytes rounds ++ counts) ≡ misses_of rounds + in_vain counts
rounds_vain [] bytes rest counts s cut = let all : in_vain counts ≡ 0 + in_vain counts = omega arith in all
rounds_vain (one ∷ others) bytes rest counts s (some, piece, cut) =
    let b : ℕ = burst_size s bytes in
    let later : List ℕ = counts_for s (drop b bytes) others ++ counts in
    let whole : in_vain (counts_for s bytes (one ∷ others) ++ counts) ≡ one.misses + in_vain (b ∷ later) =
    ap in_vain (append_assoc (zeros one.misses) (b ∷ counts_for s (drop b bytes) others) counts) ∙ vain_zeros one.misses (b ∷ later) in
    let hit : in_vain (b ∷ later) ≡ in_vain later = vain_some b later (burst_some s bytes some) in
    let rest_vain : in_vain later ≡ misses_of others + in_vain counts = rounds_vain others (drop b bytes) rest counts s cut in
    let both : misses_of (one ∷ others) ≡ one.misses + misses_of others = refl in
    omega (arith, whole, hit, rest_vain, both)

pub sends_in_turn : SendsInTurn
sends_in_turn d e bytes said result made =
    (sent.0, subst W (past_made d e made) (sends_walk sent.0 bytes d made.list e.backend made.path sent.1), sent.2, sent.3)
  where
    s : Settings
    s = settings_of (fields d)

    Sent : Result (Unit {0}) WaitError → Type 0
    Sent other =
        (counts : List ℕ) × SendsOn bytes counts s made.list
        × (sum counts ≡ sent_by other (length bytes)) × (in_vain counts ≡ length said)

    all : (other : Result (Unit {0}) WaitError) → SendsWhile bytes said other s made.list → Sent other
    all (Ok x) (rounds, cut, asked, t) =
        let counts = counts_for s bytes rounds in
        let nil = append-nil counts in
        let S : List ℕ → Type 0 = λ cs. SendsOn bytes cs s (made.list ++ []) in
        let T : List Access → Type 0 = λ l. SendsOn bytes counts s l in
        let sums = rounds_sum rounds bytes [] [] s cut in
        let vain = rounds_vain rounds bytes [] [] s cut in
        let same_sum = ap sum nil in
        let same_vain = ap in_vain nil in
        let said_long : length said ≡ misses_of rounds = ap length asked ∙ length_keeps (misses_of rounds) in (
          counts,
          subst T (append-nil made.list) (subst S nil (rounds_sent rounds bytes [] [] s made.list [] cut t (record { is = refl }))),
          omega (arith, sums, same_sum),
          omega (arith, vain, same_vain, said_long),
        )
    all (Err error) (rounds, last, rest, cut, some, done, asked, t) =
        let n = length last in
        let counts = counts_for s bytes rounds ++ zeros n in
        let nil = append-nil (zeros n) in
        let zero_sum : sum (zeros n) ≡ 0 = ap sum (sym nil) ∙ sum_zeros n [] in
        let plus : n + 0 ≡ n = omega arith in
        let zero_vain : in_vain (zeros n) ≡ n = ap in_vain (sym nil) ∙ (vain_zeros n [] ∙ plus) in
        let missed = vain_times SendMiss last error.ended_by s t.back t.second in
        let misses = misses_sent n rest [] s t.back [] some missed (record { is = refl }) in
        let S : List ℕ → Type 0 = λ cs. SendsOn rest cs s (t.back ++ []) in
        let T : List Access → Type 0 = λ l. SendsOn rest (zeros n) s l in
        let tail = subst T (append-nil t.back) (subst S nil misses) in
        let sums = rounds_sum rounds bytes rest (zeros n) s cut in
        let vain = rounds_vain rounds bytes rest (zeros n) s cut in
        let said_long : length said ≡ misses_of rounds + n =
        ap length asked ∙ (length-append (keeps_waiting (misses_of rounds)) last ∙ ap (λ k. k + n) (length_keeps (misses_of rounds))) in (
          counts,
          rw t.whole (rounds_sent rounds bytes rest (zeros n) s t.front t.back cut t.first tail),
          omega (arith, sums, zero_sum, done),
          omega (arith, vain, zero_vain, said_long),
        )

    sent : Sent result
    sent = all result made.fits

    W : Driver → Type 0
    W f = StandsForRun d (sends_of bytes sent.0) (map Count sent.0) f

-- ---- texts of any length

-- how many bytes are sent
abbrev one_if : Bool → ℕ
one_if true = 1
one_if false = 0

abbrev Single : ℕ × Bool → Language
Single one = Sends (one.0 ∷ []) (one_if one.1)

single_once : (d : Driver) (one : ℕ × Bool) (k : List Access) (m : MachineState) → Path MachineStep d.backend k m →
    Single one (settings_of (fields d)) k → StandsFor d (sends_one one) (counts_one one) (past d k m)
single_once d (byte, true) k m path t = record { outcome = 1; answered = refl; did = record { list = k; path = path; does = (t, refl) } }
single_once d (byte, false) k m path t = record { outcome = 0; answered = refl; did = record { list = k; path = path; does = (t, refl) } }

misses_single : (n byte : ℕ) (s : Settings) (l : List Access) → Times n SendMiss s l → InOrder Single (same_times n (byte, false)) s l
misses_single n byte s l t =
    times_in_order Single SendMiss (byte, false) (λ s l miss. inr (inl (omega arith, refl, miss))) n s l t

went_none : (n byte : ℕ) (more : List (ℕ × Bool)) → went_of (same_times n (byte, false) ++ more) ≡ went_of more
went_none zero byte more = refl
went_none (suc n) byte more = went_none n byte more

went_then : (tries more : List (ℕ × Bool)) → went_of (tries ++ more) ≡ went_of tries ++ went_of more
went_then [] more = refl
went_then ((byte, true) ∷ others) more = ap (λ bytes. byte ∷ bytes) (went_then others more)
went_then ((byte, false) ∷ others) more = went_then others more

each_single : (bytes : List ℕ) (s : Settings) (l : List Access) → SendsEach bytes s l →
    (tries : List (ℕ × Bool)) × InOrder Single tries s l × (went_of tries ≡ bytes)
each_single [] s l t = ([], t, refl)
each_single (byte ∷ bytes) s l t =
    let n = t.first.first.0 in
    let rest = each_single bytes s t.back t.second in
    let limit = some_limit s.fifo s.size in
    let hit : InOrder Single ((byte, true) ∷ rest.0) s (t.first.back ++ t.back) = record {
      front = t.first.back;
      back = t.back;
      whole = refl;
      first = inr (inr (omega arith, omega (arith, limit), t.first.second));
      second = rest.1;
    } in
    let whole : l ≡ t.first.front ++ (t.first.back ++ t.back) =
    t.whole ∙ (ap (λ zs. zs ++ t.back) t.first.whole ∙ append_assoc t.first.front t.first.back t.back) in (
      same_times n (byte, false) ++ (byte, true) ∷ rest.0,
      rw whole (in_order_two Single (same_times n (byte, false)) ((byte, true) ∷ rest.0) s t.first.front (t.first.back ++ t.back)
          (misses_single n byte s t.first.front t.first.first.2) hit),
      went_none n byte ((byte, true) ∷ rest.0) ∙ ap (λ others. byte ∷ others) rest.2,
    )

pub writes_in_turn : WritesInTurn
writes_in_turn s t text result made = (
  sent.0,
  subst W (past_made (inner_of s) (inner_of t) made)
      (walks Single sends_one counts_one single_once sent.0 (inner_of s) made.list (inner_of t).backend made.path sent.1),
  sent.2,
)
  where
    v : Settings
    v = settings_of (fields (inner_of s))

    Sent : Result (Unit {0}) StalledError → Type 0
    Sent other = (tries : List (ℕ × Bool)) × InOrder Single tries v made.list × IsTextSent text other (went_of tries)

    all : (other : Result (Unit {0}) StalledError) → SendsText text other v made.list → Sent other
    all (Ok x) each = each_single (expansion text) v made.list each
    all (Err error) (n, done, (few, t)) =
        let first = each_single (take n (expansion text)) v t.front t.first in
        let last : List (ℕ × Bool) = same_times v.limit (0, false) in
        let none : went_of last ≡ [] = ap went_of (sym (append-nil last)) ∙ went_none v.limit 0 [] in (
          first.0 ++ last,
          rw t.whole (in_order_two Single first.0 last v t.front t.back first.1 (misses_single v.limit 0 v t.back t.second)),
          (n, done, went_then first.0 last ∙ (ap (λ zs. went_of first.0 ++ zs) none ∙ (append-nil (went_of first.0) ∙ first.2))),
        )

    sent : Sent result
    sent = all result made.fits

    W : Driver → Type 0
    W f = StandsForRun (inner_of s) (map sends_one sent.0) (map counts_one sent.0) f

-- ---- bursts of a size that is given

module _ (s : Settings) (size : FifoSize) where
  -- the settings of a driver that takes the FIFOs for this size
  abbrev at_size : Settings
  at_size = record s { size = size }

  asks_at : (register bits : ℕ) (outcome : Bool) (l : List Access) → Asks register bits outcome s l → Asks register bits outcome at_size l
  asks_at register bits outcome l t = record { answer = t.answer; shows = t.shows; is = t.is }

  either_at : (b : Bool) {A B C D : Type 0} → (A → C) → (B → D) → MatchBool b A B → MatchBool b C D
  either_at true f g t = f t
  either_at false f g t = g t

  lines_at : (allowed : Bool) (l : List Access) → LinesAllow allowed s l → LinesAllow allowed at_size l
  lines_at allowed l (inl (allows, t)) = inl (allows, asks_at _ _ _ l t)
  lines_at allowed l (inr t) = inr (record {
    front = t.front;
    back = t.back;
    whole = t.whole;
    first = asks_at _ _ _ t.front t.first;
    second = asks_at _ _ _ t.back t.second;
  })

  -- the first look of a send check
  abbrev Room : Language
  Room = Asks offsets.LSR LSR.THR_EMPTY.0 true

  looks_at : (allowed : Bool) (l : List Access) → Then Room (LinesAllow allowed) s l → Then Room (LinesAllow allowed) at_size l
  looks_at allowed l t = record {
    front = t.front;
    back = t.back;
    whole = t.whole;
    first = asks_at _ _ _ t.front t.first;
    second = lines_at allowed t.back t.second;
  }

  hit_at : (l : List Access) → SendHit s l → SendHit at_size l
  hit_at l t = either_at s.checks (looks_at true l) (asks_at _ _ _ l) t

  miss_at : (l : List Access) → SendMiss s l → SendMiss at_size l
  miss_at l (NoCapacity, t) = (NoCapacity, asks_at _ _ _ l t)
  miss_at l (RemoteNotClearToSend, t) = (RemoteNotClearToSend, either_at s.checks (looks_at false l) (λ none. none) t)

  burst_at : (bytes : List ℕ) (l : List Access) → Burst bytes s l → Burst bytes at_size l
  burst_at bytes l t = record {
    front = t.front;
    back = t.back;
    whole = t.whole;
    first = hit_at t.front t.first;
    second = record { is = t.second.is };
  }

  sent_at : (bytes : List ℕ) (count : ℕ) (l : List Access) → SendsBurst size bytes count s l → Sends bytes count at_size l
  sent_at bytes count l (inl none) = inl none
  sent_at bytes count l (inr (inl (some, none, miss))) = inr (inl (some, none, miss_at l miss))
  sent_at bytes count l (inr (inr (some, whole, burst))) = inr (inr (some, whole, burst_at (take count bytes) l burst))

pub sends_sized : SendsSized
sends_sized d e size bytes count made =
    let did = did_made made in
    record {
      outcome = count;
      answered = refl;
      did = record {
        list = did.list;
        path = did.path;
        does = (sent_at (settings_of (fields d)) size bytes count did.list did.does.0, ap (with_fifo_size size) did.does.1);
      };
    }

-- ---- how a terminal is made

-- the driver with these fields
abbrev having : Driver → Fields → MachineState → Driver
having d f m = record {
  backend = m;
  config = f.config;
  fifo_enabled = f.fifo;
  fifo_size = f.size;
  saved_lsr = record { 0 = f.lsr };
  saved_msr = record { 0 = f.msr };
  spin_limit = d.spin_limit;
}

having_fields : (d : Driver) (f : Fields) (m : MachineState) → f.limit ≡ (fields d).limit → fields (having d f m) ≡ f
having_fields d f m same =
    λ i. record { config = f.config; fifo = f.fifo; size = f.size; lsr = f.lsr; msr = f.msr; limit = sym same i }

-- an `init` that is done, and then a loopback test
initialised : (d e : Driver) (config : Config) (tested : Result (Unit {0}) LoopbackError) (front back : List Access) (mid : Fields)
    (m : MachineState) → Path MachineStep d.backend front m → Path MachineStep m back e.backend →
    Inits {T = Unit {0}} config (Ok tt) (fields d) front mid → TestsLoopback tested mid back (fields e) →
    StandsForRun d (call.Init config ∷ call.TestLoopback ∷ []) (Done ∷ loopback_answer tested ∷ []) e
initialised d e config tested front back mid m before after inits tests =
    let limit : mid.limit ≡ (fields d).limit =
    ap (λ (told : FifoSize × ℕ). told.1) (leaves (call_does (call.Init config) (Ok tt)) (fields d) front mid inits).0 in
    let same = having_fields d mid m limit in
    let between : Driver = having d mid m in
    let I : Fields → Type 0 = λ f. Inits {T = Unit {0}} config (Ok tt) (fields d) front f in
    let T : Fields → Type 0 = λ f. TestsLoopback tested f back (fields e) in
    let first : StandsFor d (call.Init config) Done between =
    record { outcome = Ok tt; answered = refl; did = record { list = front; path = before; does = subst I (sym same) inits } } in
    let second : StandsFor between call.TestLoopback (loopback_answer tested) e =
    record { outcome = tested; answered = refl; did = record { list = back; path = after; does = subst T (sym same) tests } } in
    record {
      links =
          record { before = under_terminal d; call = call.Init config; answer = Done; after = under_terminal between }
          ∷ record {
            before = under_terminal between;
            call = call.TestLoopback;
            answer = loopback_answer tested;
            after = under_terminal e;
          } ∷ [];
      chain = (refl, first, (refl, second, refl));
      calls_same = refl;
      answers_same = refl;
    }

pub starts_terminal : StartsTerminal
starts_terminal d e config result did = all result did.does
  where
    path_at : (front back : List Access) → did.list ≡ front ++ back → Path MachineStep d.backend (front ++ back) e.backend
    path_at front back whole = let P : List Access → Type 0 = λ l. Path MachineStep d.backend l e.backend in subst P whole did.path

    all : (other : Result State Uart16550TtyError) → Starts config other (fields d) did.list (fields e) →
        StandsForRun d (starts_of config other) (started_of other) e
    all (Ok terminal) t =
        let parts = path_split MachineStep d.backend e.backend t.front t.back (path_at t.front t.back t.whole) in
        initialised d e config (Ok tt) t.front t.back t.mid parts.0 parts.1 parts.2 t.first t.second
    all (Err (AddressError cause)) t = absurd t
    all (Err (InitError cause)) t = record {
      links = record { before = under_terminal d; call = call.Init config; answer = InitRefused cause; after = under_terminal e } ∷ [];
      chain = (
        refl,
        record { outcome = Err cause; answered = refl; did = record { list = did.list; path = did.path; does = t } },
        refl,
      );
      calls_same = refl;
      answers_same = refl;
    }
    all (Err (TestError cause)) t =
        let parts = path_split MachineStep d.backend e.backend t.front t.back (path_at t.front t.back t.whole) in
        initialised d e config (Err cause) t.front t.back t.mid parts.0 parts.1 parts.2 t.first t.second
