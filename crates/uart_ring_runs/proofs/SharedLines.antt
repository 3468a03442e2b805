-- That a line which several ports share is low once the line of each was lowered, whatever happens to the chips.
use Rattle.uart_ring_runs.proofs.Names.{◌≡◌, ◌≤◌, ℕ, zero, suc, Bool, true, false, List, [], ◌∷◌, ◌++◌, length, map, inl, inr, refl, sym}
use Rattle.uart_ring_runs.proofs.Names.{◌∙◌, ap, subst, arith, bit_and, is_some, false≢true, and_zero_r, Path, Access, Read, Write}
use Rattle.uart_ring_runs.proofs.Names.{ier_bits, ChipState, interrupt, is_dlab_set, MachineState, MachineStep, Kept, kept_in, kept_step}
use Rattle.uart_ring_runs.proofs.Names.{kept-before_mark, RingFields, ring_fields, every_bit, rid_of}
use Rattle.uart_spec.specs.declared.registers.offsets.TheConstants as offsets
use Rattle.uart_ring.specs.Line.{LowersLine, ServesInTurn, AtPort, EachGoes, IsSame, LowersPort, LowersAt, HandlesPorts}
use Rattle.uart_ring.specs.declared.line.LinePort.{LinePort}
use Rattle.uart_ring.specs.declared.ring.line.Lowered.{Lowered}
use Rattle.uart_ring.proofs.Lines.{turns_length}
use Rattle.uart_ring_runs.specs.SharedLine.{Moment, port_machine, is_shared_line_up, AreDlabsOff, Happened, AtAnyTime, WasLowered}
use Rattle.uart_ring_runs.specs.SharedLine.{WereLowered, last_of, RisesIn}
use Rattle.uart_ring_runs.proofs.RingBlocks.{LeavesLcr, AllLeaveLcr, MakesBlocks, in_blocks}
use Rattle.uart_ring_runs.proofs.RingDue.{IsDlabOff, off_step}
use Rattle.uart_ring_runs.proofs.RingWalk as walk

-- ---- one chip

-- IER is 0
abbrev IsOff : MachineState → Type 0
IsOff m = m.chip.latches.ier ≡ 0

-- events leave the registers as they are
kept_happened : (m n : MachineState) → Happened m n → kept_in n.chip ≡ kept_in m.chip
kept_happened m n h = ap (λ (o : MachineState). kept_in o.chip) h.chip ∙ kept-before_mark h.events m.chip

off_happened : (m n : MachineState) → Happened m n → IsOff m → IsOff n
off_happened m n h off = ap (λ (k : Kept). k.latches.ier) (kept_happened m n h) ∙ off

dlab_happened : (m n : MachineState) → Happened m n → IsDlabOff m → IsDlabOff n
dlab_happened m n h off = ap (λ (k : Kept). is_dlab_set k.latches) (kept_happened m n h) ∙ off

dlab_step : (access : Access) (m n : MachineState) → LeavesLcr access → IsDlabOff m → AtAnyTime m access n → IsDlabOff n
dlab_step access m n leaves off s = off_step access s.late n leaves (dlab_happened m s.late s.happened off) s.step

-- after the first of two lists DLAB is off, and the second goes on from there
split_off : (l k : List Access) (m n : MachineState) → AllLeaveLcr l → IsDlabOff m → Path AtAnyTime m (l ++ k) n →
    (o : MachineState) × IsDlabOff o × Path AtAnyTime o k n
split_off [] k m n leaves off p = (m, off, p)
split_off (access ∷ l) k m n leaves off p =
    split_off l k p.0 n leaves.1 (dlab_step access m p.0 leaves.0 off p.1) p.2

-- IER is 0 after a write without any of its bits
off_written : (ier : ℕ) (m n : MachineState) → IsDlabOff m → AtAnyTime m (Write offsets.IER (rid_of every_bit ier)) n → IsOff n
off_written ier m n off s =
    let there = dlab_happened m s.late s.happened off in
    let step = kept_step (Write offsets.IER (rid_of every_bit ier)) s.late n s.step in
    let kept : n.chip.latches.ier ≡ bit_and (rid_of every_bit ier) ier_bits = ap (λ (k : Kept). k.latches.ier) (rw there at step) in
    let zero_bits : rid_of every_bit ier ≡ 0 = and_zero_r ier in
    kept ∙ ap (λ bits. bit_and bits ier_bits) zero_bits

-- IER is read twice, and written so
off_last : (bits ier : ℕ) (m n : MachineState) → IsDlabOff m →
    Path AtAnyTime m (Read offsets.IER bits ∷ Read offsets.IER ier ∷ Write offsets.IER (rid_of every_bit ier) ∷ []) n → IsOff n
off_last bits ier m n off p =
    let first = dlab_step (Read offsets.IER bits) m p.0 tt off p.1 in
    let second = dlab_step (Read offsets.IER ier) p.0 p.2.0 tt first p.2.1 in
    let written : IsOff p.2.2.0 = off_written ier p.2.0 p.2.2.0 second p.2.2.1 in
    ap (λ (o : MachineState). o.chip.latches.ier) p.2.2.2 ∙ written

lowered_off : (limit rounds : ℕ) (lowered : Lowered) (f : RingFields) (l : List Access) (after : RingFields) →
    LowersLine limit rounds lowered f l after → (m n : MachineState) → IsDlabOff m → Path AtAnyTime m l n → IsOff n
lowered_off limit rounds lowered f l after t m n off path =
    let u = t.second in
    let leaves : AllLeaveLcr t.front =
    (walk.tries MakesBlocks in_blocks limit rounds lowered.handled f t.front t.mid t.first).lcr in
    let back : t.back ≡ Read offsets.IER lowered.enabled.0 ∷ Read offsets.IER u.second.0.0
    ∷ Write offsets.IER (rid_of every_bit u.second.0.0) ∷ [] = rw (u.whole, u.first.0.0.is, u.second.0.1) refl in
    let P : List Access → Type 0 = λ k. Path AtAnyTime m k n in
    let rest = split_off t.front t.back m n leaves off (subst P t.whole path) in
    let Q : List Access → Type 0 = λ k. Path AtAnyTime rest.0 k n in
    off_last lowered.enabled.0 u.second.0.0 rest.0 n rest.1 (subst Q back rest.2)

was_off : (limit rounds : ℕ) (m n : MachineState) → WasLowered limit rounds m n → IsDlabOff m → IsOff n
was_off limit rounds m n w off =
    off_happened w.last n w.happened (lowered_off limit rounds w.lowered w.before w.list w.after w.does m w.last off w.path)

-- its line is low then
none_enabled : (c : ChipState) → c.latches.ier ≡ 0 → is_some (interrupt c) ≡ false
none_enabled c off = ap (λ (ier : ℕ). is_some (interrupt (record c { latches = record c.latches { ier = ier } }))) off

-- ---- all chips

abbrev AllOff : Moment → Type 0
AllOff [] = Unit {0}
AllOff (m ∷ ms) = IsOff m × AllOff ms

-- so many at the front are off, and DLAB of the others is
abbrev FirstOff : ℕ → Moment → Type 0
FirstOff zero ms = AreDlabsOff ms
FirstOff (suc n) [] = Unit {0}
FirstOff (suc n) (m ∷ ms) = IsOff m × FirstOff n ms

dlabs_happened : (ms ns : Moment) → EachGoes Happened ms ns → AreDlabsOff ms → AreDlabsOff ns
dlabs_happened [] [] h off = tt
dlabs_happened [] (n ∷ ns) h off = absurd h
dlabs_happened (m ∷ ms) [] h off = absurd h
dlabs_happened (m ∷ ms) (n ∷ ns) h off = (dlab_happened m n h.0 off.0, dlabs_happened ms ns h.1 off.1)

next_off : (limit rounds port : ℕ) (ms ns : Moment) → AtPort (WasLowered limit rounds) Happened port ms ns → FirstOff port ms →
    FirstOff (suc port) ns
next_off limit rounds zero [] ns h off = absurd h
next_off limit rounds zero (m ∷ ms) [] h off = absurd h
next_off limit rounds zero (m ∷ ms) (n ∷ ns) h off = (was_off limit rounds m n h.0 off.0, dlabs_happened ms ns h.1 off.1)
next_off limit rounds (suc port) [] ns h off = absurd h
next_off limit rounds (suc port) (m ∷ ms) [] h off = absurd h
next_off limit rounds (suc port) (m ∷ ms) (n ∷ ns) h off = (off_happened m n h.0 off.0, next_off limit rounds port ms ns h.1 off.1)

first_off : (limit rounds number : ℕ) (ms ns : Moment) → WereLowered limit rounds number ms ns → AreDlabsOff ms → FirstOff number ns
first_off limit rounds zero ms ns h off = subst AreDlabsOff (sym h) off
first_off limit rounds (suc number) ms ns (mid, before, here) off =
    next_off limit rounds number mid ns here (first_off limit rounds number ms mid before off)

all_off : (number : ℕ) (ms : Moment) → length ms ≤ number → FirstOff number ms → AllOff ms
all_off number [] few off = tt
all_off zero (m ∷ ms) few off = absurd (omega (arith, few))
all_off (suc number) (m ∷ ms) few off = (off.0, all_off number ms (omega (arith, few)) off.1)

were_off : (limit rounds : ℕ) (before low : Moment) → AreDlabsOff before → WereLowered limit rounds (length before) before low → AllOff low
were_off limit rounds before low off h =
    let same = turns_length (WasLowered limit rounds) Happened (length before) before low h in
    all_off (length before) low (omega (arith, same)) (first_off limit rounds (length before) before low h off)

stay_off : (ms ns : Moment) → EachGoes Happened ms ns → AllOff ms → AllOff ns
stay_off [] [] h off = tt
stay_off [] (n ∷ ns) h off = absurd h
stay_off (m ∷ ms) [] h off = absurd h
stay_off (m ∷ ms) (n ∷ ns) h off = (off_happened m n h.0 off.0, stay_off ms ns h.1 off.1)

off_is_low : (ms : Moment) → AllOff ms → is_shared_line_up ms ≡ false
off_is_low [] off = refl
off_is_low (m ∷ ms) off = rw (none_enabled m.chip off.0) (off_is_low ms off.1)

-- ---- the law

pub all_low_at_once : (limit rounds : ℕ) (before low later : Moment) → AreDlabsOff before →
    WereLowered limit rounds (length before) before low → EachGoes Happened low later → is_shared_line_up later ≡ false
all_low_at_once limit rounds before low later off h happened =
    off_is_low later (stay_off low later happened (were_off limit rounds before low off h))

rises : (moment : Moment) (course : List Moment) → is_shared_line_up moment ≡ false → is_shared_line_up (last_of moment course) ≡ true →
    RisesIn moment course
rises moment [] down up = absurd (false≢true (sym down ∙ up))
rises moment (later ∷ course) down up = go (is_shared_line_up later) refl (λ still. rises later course still up)
  where
    go : (b : Bool) → is_shared_line_up later ≡ b → (is_shared_line_up later ≡ false → RisesIn later course) →
        RisesIn moment (later ∷ course)
    go true e rest = inl (down, e)
    go false e rest = inr (rest e)

pub shared_line_has_risen : (limit rounds : ℕ) (before low : Moment) (course : List Moment) → AreDlabsOff before →
    WereLowered limit rounds (length before) before low → is_shared_line_up (last_of low course) ≡ true → RisesIn low course
shared_line_has_risen limit rounds before low course off h up =
    rises low course (off_is_low low (were_off limit rounds before low off h)) up

-- ---- what `handle_ports` does over the software chip

nothing_happened : (m : MachineState) → Happened m m
nothing_happened m = record { events = []; chip = refl }

at_any_time : (l : List Access) (m n : MachineState) → Path MachineStep m l n → Path AtAnyTime m l n
at_any_time [] m n p = p
at_any_time (access ∷ l) m n p =
    (p.0, record { late = m; happened = nothing_happened m; step = p.1 }, at_any_time l p.0 n p.2)

port_lowered : (limit rounds : ℕ) (served : Bool) (p q : LinePort MachineState) → LowersPort MachineStep limit rounds served p q →
    WasLowered limit rounds (port_machine p) (port_machine q)
port_lowered limit rounds served p q h = record {
  before = ring_fields p.ring;
  after = ring_fields q.ring;
  lowered = q.lowered;
  list = h.did.list;
  does = h.did.does;
  last = port_machine q;
  path = at_any_time h.did.list (port_machine p) (port_machine q) h.did.path;
  happened = nothing_happened (port_machine q);
}

same_happened : (p q : LinePort MachineState) → IsSame p q → Happened (port_machine p) (port_machine q)
same_happened p q same =
    let P : LinePort MachineState → Type 0 = λ r. Happened (port_machine p) (port_machine r) in
    subst P (sym same) (nothing_happened (port_machine p))

each_same : (xs ys : List (LinePort MachineState)) → EachGoes IsSame xs ys → EachGoes Happened (map port_machine xs) (map port_machine ys)
each_same [] [] h = tt
each_same [] (y ∷ ys) h = absurd h
each_same (x ∷ xs) [] h = absurd h
each_same (x ∷ xs) (y ∷ ys) h = (same_happened x y h.0, each_same xs ys h.1)

at_machine : (limit rounds : ℕ) (served : Bool) (port : ℕ) (xs ys : List (LinePort MachineState)) →
    AtPort (LowersPort MachineStep limit rounds served) IsSame port xs ys →
    AtPort (WasLowered limit rounds) Happened port (map port_machine xs) (map port_machine ys)
at_machine limit rounds served zero [] ys h = absurd h
at_machine limit rounds served zero (x ∷ xs) [] h = absurd h
at_machine limit rounds served zero (x ∷ xs) (y ∷ ys) h = (port_lowered limit rounds served x y h.0, each_same xs ys h.1)
at_machine limit rounds served (suc port) [] ys h = absurd h
at_machine limit rounds served (suc port) (x ∷ xs) [] h = absurd h
at_machine limit rounds served (suc port) (x ∷ xs) (y ∷ ys) h =
    (same_happened x y h.0, at_machine limit rounds served port xs ys h.1)

in_turn : (limit rounds number : ℕ) (served : Bool) (xs ys : List (LinePort MachineState)) →
    ServesInTurn (LowersAt MachineStep limit rounds) number served xs ys →
    WereLowered limit rounds number (map port_machine xs) (map port_machine ys)
in_turn limit rounds zero served xs ys h = ap (map port_machine) h.1
in_turn limit rounds (suc number) served xs ys (before, here, mid, first, second, told) =
    (map port_machine mid, in_turn limit rounds number before xs mid first, at_machine limit rounds here number mid ys second)

pub handles_in_turn : (limit rounds number : ℕ) (served : Bool) (old new : List (LinePort MachineState)) →
    (h : HandlesPorts MachineStep limit rounds number served old new) →
    WereLowered limit rounds number (map port_machine old) (map port_machine h.all_low)
handles_in_turn limit rounds number served old new h = in_turn limit rounds number served old h.all_low h.lowers
