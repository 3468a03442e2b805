-- After a read nothing more is learnt from the same read with the same value.
use Rattle.std.proofs.Common.{◌≡◌, ◌∙◌, ℕ, Bool, true, false, ◌&&◌, ◌==◌, refl, ap, sym, arith, suc, zero, List, [], ◌∷◌, ◌++◌}
use Rattle.std.proofs.Common.{Option, Some, None, is_some, subst, ◌≤◌}
use Rattle.std.specs.Prelude.{IsSome, if◌then◌else◌, replicate}
use Rattle.std.proofs.Math.Bool.{and-false}
use Rattle.std.proofs.lemmas.Bool.{and_parts}
use Rattle.uart_spec.specs.Bits.{has_any}
use Rattle.uart_spec.specs.declared.registers.interrupt_status.TheConstants.ISR
use Rattle.uart_spec.specs.declared.registers.line_status.TheConstants.LSR
use Rattle.uart_spec.specs.declared.registers.offsets.TheConstants as offsets
use Rattle.uart_events.specs.declared.event.Chip.{Chip}
use Rattle.uart_judges.specs.declared.replay.difference.Difference.{Difference}
use Rattle.uart_judges.specs.declared.replay.difference.Reported.{Reported}
use Rattle.uart_judges.specs.declared.replay.known.Known.{Known}
use Rattle.uart_judges.specs.declared.replay.known.Sender.{Sender}
use Rattle.uart_judges.specs.declared.replay.known.Sender.TheVariants.{Idle, ThrEmpty}
use Rattle.uart_judges.specs.declared.replay.known.Start.{Start}
use Rattle.uart_judges.specs.declared.replay.latches.KnownLatches.{KnownLatches}
use Rattle.uart_judges.specs.declared.replay.looped.Looped.{Looped}
use Rattle.uart_judges.specs.declared.replay.rule.Rule.{Rule}
use Rattle.uart_judges.specs.Known.{after_asking, after_read, first_known, is_data, is_empty, loops_back, sender_shown, takes}
use Rattle.uart_judges.specs.Known.{waits_after}
use Rattle.uart_judges.specs.Latches as latches
use Rattle.uart_judges.specs.Latches.{after_read_data, after_read_ier, data_read, dlab, ier_read, shown}
use Rattle.uart_judges.specs.Looped.{after, begun}
use Rattle.uart_judges.specs.Replays.{AreSound, NoneReturns, Seen, difference, difference_by, differences, each_of, known_after}
use Rattle.uart_judges.specs.Replays.{known_from, known_read, known_reads, seen_read}
use Rattle.uart_judges.specs.Rules.{broken, broken_data, broken_latch}
use Rattle.uart_judges.proofs.Explaining.{none_returns}
use Rattle.uart_judges.proofs.LatchesHold.{by_number}

-- ---- latches

-- the same read again teaches nothing, and no such read shows DLAB
data_again : (d : Option Bool) (value : ℕ) (l : KnownLatches) →
    (data_read d value (data_read d value l) ≡ data_read d value l) × (dlab (data_read d value l) ≡ dlab l)
data_again (Some true) value l = (refl, refl)
data_again _ value l = (refl, refl)

ier_again : (d : Option Bool) (value : ℕ) (l : KnownLatches) →
    (ier_read d value (ier_read d value l) ≡ ier_read d value l) × (dlab (ier_read d value l) ≡ dlab l)
ier_again (Some true) value l = (refl, refl)
ier_again _ value l = (refl, refl)

if_twice : (b : Bool) (f g : KnownLatches → KnownLatches) → ((l : KnownLatches) → f (f l) ≡ f l) →
    ((l : KnownLatches) → g (g l) ≡ g l) → (l : KnownLatches) →
    (if b then f (if b then f l else g l) else g (if b then f l else g l)) ≡ (if b then f l else g l)
if_twice true f g p q l = p l
if_twice false f g p q l = q l

-- a read of another register than offset 0
abbrev other_read : ℕ → ℕ → KnownLatches → KnownLatches
other_read offset value l =
    if offset == offsets.IER then after_read_ier l value
    else if offset == offsets.LCR then record l { lcr = Some value }
    else if offset == offsets.MCR then record l { mcr = Some value }
    else if offset == offsets.SPR then record l { scr = Some value }
    else l

latches_twice : (offset value : ℕ) (l : KnownLatches) →
    latches.after_read offset value (latches.after_read offset value l) ≡ latches.after_read offset value l
latches_twice offset value =
    let lcr : KnownLatches → KnownLatches = λ l. record l { lcr = Some value } in
    let mcr : KnownLatches → KnownLatches = λ l. record l { mcr = Some value } in
    let scr : KnownLatches → KnownLatches = λ l. record l { scr = Some value } in
    let last : KnownLatches → KnownLatches = λ l. if offset == offsets.SPR then scr l else l in
    let third : KnownLatches → KnownLatches = λ l. if offset == offsets.MCR then mcr l else last l in
    let second : KnownLatches → KnownLatches = λ l. if offset == offsets.LCR then lcr l else third l in
    let first : KnownLatches → KnownLatches = λ l. if offset == offsets.IER then after_read_ier l value else second l in
    if_twice (offset == offsets.DATA) (λ l. after_read_data l value) first
    (λ l. ap (λ d. data_read d value (after_read_data l value)) (data_again (dlab l) value l).1 ∙ (data_again (dlab l) value l).0)
    (if_twice (offset == offsets.IER) (λ l. after_read_ier l value) second
    (λ l. ap (λ d. ier_read d value (after_read_ier l value)) (ier_again (dlab l) value l).1 ∙ (ier_again (dlab l) value l).0)
    (if_twice (offset == offsets.LCR) lcr third (λ l. refl)
    (if_twice (offset == offsets.MCR) mcr last (λ l. refl)
    (if_twice (offset == offsets.SPR) scr (λ l. l) (λ l. refl) (λ l. refl)))))

-- ---- the other fields

fifo_twice : (b : Bool) (shown known : Option Bool) → (if b then shown else (if b then shown else known)) ≡ (if b then shown else known)
fifo_twice true shown known = refl
fifo_twice false shown known = refl

sender_twice : (lsr : ℕ) (s : Sender) → sender_shown lsr (sender_shown lsr s) ≡ sender_shown lsr s
sender_twice lsr s = go (has_any lsr LSR.TRANSMITTER_EMPTY.0) (has_any lsr LSR.THR_EMPTY.0)
  where
    shown : Bool → Bool → Sender → Sender
    shown idle empty s = if idle then Idle else if empty then ThrEmpty else s

    go : (idle empty : Bool) → shown idle empty (shown idle empty s) ≡ shown idle empty s
    go true empty = refl
    go false true = refl
    go false false = refl

if_sender : (b : Bool) (f : Sender → Sender) (s : Sender) → f (f s) ≡ f s →
    (if b then f (if b then f s else s) else (if b then f s else s)) ≡ (if b then f s else s)
if_sender true f s e = e
if_sender false f s e = refl

waits_twice : (d : Option Bool) (waits : Bool) → waits_after d (waits_after d waits) ≡ waits_after d waits
waits_twice (Some true) waits = refl
waits_twice _ waits = refl

waits_then : (value : ℕ) (l : KnownLatches) (waits : Bool) →
    waits_after (dlab (after_read_data l value)) (waits_after (dlab l) waits) ≡ waits_after (dlab l) waits
waits_then value l waits =
    ap (λ d. waits_after d (waits_after (dlab l) waits)) (data_again (dlab l) value l).1 ∙ waits_twice (dlab l) waits

-- whether a character waits, after a read and the same read
waits_read : (b c : Bool) (value : ℕ) (l other : KnownLatches) (shown waits : Bool) →
    let once = if b then waits_after (dlab l) waits else if c then shown else waits in
    (if b then waits_after (dlab (if b then after_read_data l value else other)) once else if c then shown else once) ≡ once
waits_read true c value l other shown waits = waits_then value l waits
waits_read false true value l other shown waits = refl
waits_read false false value l other shown waits = refl

-- and after a read and one whose value is left out
waits_asked : (b c : Bool) (value : ℕ) (l other : KnownLatches) (shown waits : Bool) →
    let once = if b then waits_after (dlab l) waits else if c then shown else waits in
    (if b then waits_after (dlab (if b then after_read_data l value else other)) once else once) ≡ once
waits_asked true c value l other shown waits = waits_then value l waits
waits_asked false c value l other shown waits = refl

waits_asked_twice : (b : Bool) (d : Option Bool) (waits : Bool) →
    let once = if b then waits_after d waits else waits in
    (if b then waits_after d once else once) ≡ once
waits_asked_twice true d waits = waits_twice d waits
waits_asked_twice false d waits = refl

-- whether LSR was read since
looked_read : (b c looked : Bool) →
    let once = if b then false else if c then true else looked in
    (if b then false else if c then true else once) ≡ once
looked_read true c looked = refl
looked_read false true looked = refl
looked_read false false looked = refl

looked_asked : (b c looked : Bool) →
    let once = if b then false else if c then true else looked in
    (if b then false else once) ≡ once
looked_asked true c looked = refl
looked_asked false c looked = refl

looked_asked_twice : (b looked : Bool) →
    let once = if b then false else looked in
    (if b then false else once) ≡ once
looked_asked_twice true looked = refl
looked_asked_twice false looked = refl

-- no read of offset 0 behind another certainly takes a character
takes_then : (d : Option Bool) (waits : Bool) → (waits_after d waits && is_data d) ≡ false
takes_then None waits = refl
takes_then (Some true) waits = and-false waits
takes_then (Some false) waits = refl

takes_read : (value : ℕ) (l : KnownLatches) (waits : Bool) →
    (waits_after (dlab l) waits && is_data (dlab (after_read_data l value))) ≡ false
takes_read value l waits =
    ap (λ d. waits_after (dlab l) waits && is_data d) (data_again (dlab l) value l).1 ∙ takes_then (dlab l) waits

-- what comes back, after a read and the same read
looped_twice : (offset value : ℕ) (k : Known) →
    (after_read offset value (after_read offset value k)).looped ≡ (after_read offset value k).looped
looped_twice offset value k = at_data (offset == offsets.DATA) refl
  where
    Same : ℕ → Type 0
    Same n = (after_read n value (after_read n value k)).looped ≡ (after_read n value k).looped

    once_more : (b : Bool) (l : Looped) → begun b (begun b l) ≡ begun b l
    once_more false l = refl
    once_more true l = go l.is_known refl
      where
        go : (known : Bool) → l.is_known ≡ known → begun true (begun true l) ≡ begun true l
        go true e = rw e refl
        go false e = rw e refl

    at_lsr : (offset == offsets.DATA) ≡ false → (b : Bool) → (offset == offsets.LSR) ≡ b → Same offset
    at_lsr e true f = by_number Same offset offsets.LSR f (once_more (is_empty value && loops_back k.latches.mcr) k.looped)
    at_lsr e false f = rw (e, f) refl

    at_data : (b : Bool) → (offset == offsets.DATA) ≡ b → Same offset
    at_data false e = at_lsr e (offset == offsets.LSR) refl
    at_data true e =
        by_number Same offset offsets.DATA e
        (ap (λ (b : Bool). if b then after (after_read offsets.DATA value k).looped value else (after_read offsets.DATA value k).looped)
        (takes_read value k.latches k.waits))

-- ---- all that is known

read_twice : (offset value : ℕ) (k : Known) → after_read offset value (after_read offset value k) ≡ after_read offset value k
read_twice offset value k = λ i. record (after_read offset value k) {
  latches = latches_twice offset value k.latches i;
  fifo = fifo_twice (offset == offsets.ISR) (Some (has_any value ISR.FIFOS_ENABLED.0)) k.fifo i;
  sender = if_sender (offset == offsets.LSR) (sender_shown value) k.sender (sender_twice value k.sender) i;
  waits =
      waits_read (offset == offsets.DATA) (offset == offsets.LSR) value k.latches (other_read offset value k.latches)
      (has_any value LSR.DATA_READY.0) k.waits i;
  is_looked = looked_read (offset == offsets.DATA) (offset == offsets.LSR) k.is_looked i;
  looped = looped_twice offset value k i;
}

read_asked : (offset value : ℕ) (k : Known) → after_asking offset (after_read offset value k) ≡ after_read offset value k
read_asked offset value k = λ i. record (after_read offset value k) {
  waits =
      waits_asked (offset == offsets.DATA) (offset == offsets.LSR) value k.latches (other_read offset value k.latches)
      (has_any value LSR.DATA_READY.0) k.waits i;
  is_looked = looked_asked (offset == offsets.DATA) (offset == offsets.LSR) k.is_looked i;
}

asked_twice : (offset : ℕ) (k : Known) → after_asking offset (after_asking offset k) ≡ after_asking offset k
asked_twice offset k = λ i. record k {
  waits = waits_asked_twice (offset == offsets.DATA) (dlab k.latches) k.waits i;
  is_looked = looked_asked_twice (offset == offsets.DATA) k.is_looked i;
}

-- a read whose value is left out changes nothing that a rule for it is about, but for one of DATA: behind it no character
-- certainly waits, and the same read teaches nothing
data_dlab : (o : Option Bool) → is_data o ≡ true → o ≡ Some false
data_dlab None e = absurd (cc)
data_dlab (Some true) e = absurd (cc)
data_dlab (Some false) e = refl

broken_latched : (value : ℕ) (k : Known) → takes k ≡ false → broken_data value k ≡ broken_latch (shown offsets.DATA k.latches) value
broken_latched value k e = rw e refl

read_asked_data : (value : ℕ) (k : Known) → dlab k.latches ≡ Some false →
    after_read offsets.DATA value (after_asking offsets.DATA k) ≡ after_asking offsets.DATA k
read_asked_data value k e = λ i. record (after_asking offsets.DATA k) {
  latches = ap (λ d. data_read d value k.latches) e i;
  waits = waits_twice (dlab k.latches) k.waits i;
  looped = ap (λ (b : Bool). if b then after k.looped value else k.looped) (takes_then (dlab k.latches) k.waits) i;
}

asked_data : (value : ℕ) (k : Known) (rule : Rule) → broken offsets.DATA value k ≡ Some rule →
    broken offsets.DATA value (after_asking offsets.DATA k) ≡ None →
    after_read offsets.DATA value (after_asking offsets.DATA k) ≡ after_asking offsets.DATA k
asked_data value k rule e f = go (takes k) refl
  where
    go : (b : Bool) → takes k ≡ b → after_read offsets.DATA value (after_asking offsets.DATA k) ≡ after_asking offsets.DATA k
    go true g = read_asked_data value k (data_dlab (dlab k.latches) (and_parts k.waits (is_data (dlab k.latches)) g).1)
    go false g =
        let same : broken_data value (after_asking offsets.DATA k) ≡ broken_data value k =
        broken_latched value (after_asking offsets.DATA k) (takes_then (dlab k.latches) k.waits) ∙ sym (broken_latched value k g) in
        absurd (let h : Some rule ≡ None = sym e ∙ (sym same ∙ f) in cc)

asked_otherwise : (offset value : ℕ) (k : Known) (rule : Rule) → broken offset value k ≡ Some rule →
    broken offset value (after_asking offset k) ≡ None → after_read offset value (after_asking offset k) ≡ after_asking offset k
asked_otherwise offset value k rule e f = go (offset == offsets.DATA) refl
  where
    asked : Bool → Known
    asked b = record k {
      waits = if b then waits_after (dlab k.latches) k.waits else k.waits;
      is_looked = if b then false else k.is_looked;
    }

    go : (b : Bool) → (offset == offsets.DATA) ≡ b → after_read offset value (after_asking offset k) ≡ after_asking offset k
    go false g =
        absurd (let h : Some rule ≡ None = sym e ∙ (sym (ap (λ (b : Bool). broken offset value (asked b)) g) ∙ f) in cc)
    go true g =
        by_number (λ n. broken n value k ≡ Some rule → broken n value (after_asking n k) ≡ None →
        after_read n value (after_asking n k) ≡ after_asking n k) offset offsets.DATA g (asked_data value k rule) e f

-- ---- the same read again

abbrev known_by : ℕ → ℕ → Known → Option Rule → Known
known_by offset value k found = known_after k (seen_read (is_some (difference_by offset value found)) offset value)

fixed_by : (offset value : ℕ) (k : Known) (first second : Option Rule) → broken offset value k ≡ first →
    broken offset value (known_by offset value k first) ≡ second →
    known_by offset value (known_by offset value k first) second ≡ known_by offset value k first
fixed_by offset value k None None e f = read_twice offset value k
fixed_by offset value k None (Some rule) e f = read_asked offset value k
fixed_by offset value k (Some rule) (Some other) e f = asked_twice offset k
fixed_by offset value k (Some rule) None e f = asked_otherwise offset value k rule e f

-- what is known after a read stays by the same read
pub read_fixed : (offset value : ℕ) (k : Known) → known_read offset value (known_read offset value k) ≡ known_read offset value k
read_fixed offset value k = fixed_by offset value k (broken offset value k) _ refl refl

fixed_reads : (n offset value : ℕ) (k : Known) → known_read offset value k ≡ k →
    (differences n offset value k ≡ replicate n (difference offset value k)) × (known_reads n offset value k ≡ k)
unfolding known_reads differences
fixed_reads zero offset value k e = (refl, refl)
fixed_reads (suc n) offset value k e =
    let rest = fixed_reads n offset value k e in (
      ap (λ l. difference offset value k ∷ l) (ap (differences n offset value) e ∙ rest.0),
      ap (known_reads n offset value) e ∙ rest.1,
    )

-- of reads in turn only the first and the second may be reported otherwise
pub reads_more : (n offset value : ℕ) (k : Known) →
    let after = known_read offset value k in
    (differences (suc n) offset value k ≡ difference offset value k ∷ replicate n (difference offset value after))
    × (known_reads (suc n) offset value k ≡ after)
unfolding known_reads differences
reads_more n offset value k =
    let rest = fixed_reads n offset value (known_read offset value k) (read_fixed offset value k) in
    (ap (λ l. difference offset value k ∷ l) rest.0, rest.1)

-- ---- no machine explains what is reported

known_from_more : (seen : List Seen) (k : Known) (one : Seen) →
    known_from k (seen ++ one ∷ []) ≡ known_after (known_from k seen) one
known_from_more [] k one = refl
known_from_more (first ∷ seen) k one = known_from_more seen (known_after k first) one

pub all_sound : (n : ℕ) (model : Chip) (start : Start) (seen : List Seen) (offset value : ℕ) (k : Known) →
    k ≡ known_from (first_known model start) seen → AreSound model start seen offset value (differences n offset value k)
unfolding differences
all_sound zero model start seen offset value k e = tt
all_sound (suc n) model start seen offset value k e = (
  sound_by (broken offset value k) refl,
  all_sound n model start _ offset value (known_read offset value k)
      (ap (λ k. known_after k one) e ∙ sym (known_from_more seen (first_known model start) one)),
)
  where
    one : Seen
    one = seen_read (is_some (difference offset value k)) offset value

    sound_by : (found : Option Rule) → broken offset value k ≡ found →
        IsSome (difference_by offset value found) → NoneReturns model start seen offset value
    sound_by None f some = absurd (cc)
    sound_by (Some rule) f some = none_returns model start seen offset value k rule e (sym f)

-- ---- so many reads, by two

pub none_read : (times offset value : ℕ) (k : Known) (reported : Reported) → times ≡ 0 →
    (each_of times reported ≡ differences times offset value k) × (k ≡ known_reads times offset value k)
unfolding known_reads differences
none_read zero offset value k reported e = (refl, refl)
none_read (suc n) offset value k reported e = absurd (omega arith)

pub one_read : (times offset value : ℕ) (k new : Known) (first others : Option Difference) → times ≡ 1 →
    first ≡ difference offset value k → new ≡ known_after k (seen_read (is_some first) offset value) →
    (each_of times (record { first = first; others = others }) ≡ differences times offset value k)
    × (new ≡ known_reads times offset value k)
unfolding known_reads differences
one_read zero offset value k new first others e f g = absurd (omega arith)
one_read (suc (suc n)) offset value k new first others e f g = absurd (omega arith)
one_read (suc zero) offset value k new first others e f g =
    ((λ i. f i ∷ []), g ∙ ap (λ d. known_after k (seen_read (is_some d) offset value)) f)

pub two_reads : (times offset value : ℕ) (k mid new : Known) (first others : Option Difference) → 2 ≤ times →
    first ≡ difference offset value k → mid ≡ known_after k (seen_read (is_some first) offset value) →
    others ≡ difference offset value mid → new ≡ known_after mid (seen_read (is_some others) offset value) →
    (each_of times (record { first = first; others = others }) ≡ differences times offset value k)
    × (new ≡ known_reads times offset value k)
two_reads zero offset value k mid new first others most f g h j = absurd (omega arith)
two_reads (suc n) offset value k mid new first others most f g h j =
    let after : mid ≡ known_read offset value k = g ∙ ap (λ d. known_after k (seen_read (is_some d) offset value)) f in
    let more = reads_more n offset value k in
    let last : others ≡ difference offset value (known_read offset value k) = h ∙ ap (difference offset value) after in
    let done : new ≡ known_read offset value (known_read offset value k) =
    j ∙ (λ i. known_after (after i) (seen_read (is_some (last i)) offset value)) in
    ((λ i. f i ∷ replicate n (last i)) ∙ sym more.0, done ∙ (read_fixed offset value k ∙ sym more.1))

pub reads_sound : (times : ℕ) (model : Chip) (start : Start) (seen : List Seen) (offset value : ℕ) (k : Known)
    (reported : List (Option Difference)) → reported ≡ differences times offset value k →
    k ≡ known_from (first_known model start) seen → AreSound model start seen offset value reported
reads_sound times model start seen offset value k reported e f =
    subst (AreSound model start seen offset value) (sym e) (all_sound times model start seen offset value k f)
