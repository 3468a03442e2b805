-- That received bytes have exactly the errors that they arrived with.
use Rattle.uart_run.proofs.Names.{◌≡◌, ◌<◌, ◌+◌, ℕ, Bool, true, false, inl, inr, List, [], ◌∷◌, ◌++◌, length, nat_lt, refl, arith, sym, ◌∙◌}
use Rattle.uart_run.proofs.Names.{ap, subst, append-nil, append_assoc, Option, None, bit_and, bit_or, if◌then◌else◌, ◌==◌, ◌&&◌, list_any}
use Rattle.uart_run.proofs.Names.{common_steps, and_assoc, or_comm, or_zero_r, and_zero_r, Path, has_any, flag, IsWithin, Access, Read}
use Rattle.uart_run.proofs.Names.{Settings, InOrder, Made, backend_of, fields, HitWithErrors, ReceivesWithErrors, Received, Uart16550}
use Rattle.uart_run.proofs.Names.{FifoSize, Character, Arrived, room, ReceiverState, enter, report, front_errors, unreported, has_errors}
use Rattle.uart_run.proofs.Names.{ChipState, is_dlab_set, is_transmitter_empty, line_status, MachineState, MachineStep, at_access, IsSound}
use Rattle.uart_run.proofs.Names.{reported_front, and_or, has_and, has_one, Told, FrontTold, Modes, dlab-in, loopback-in, Passed}
use Rattle.uart_run.proofs.Names.{passed-refl, passed-trans, passed-access, IsOpen, Stands, stands-after, path_as, path_split, passed-look}
use Rattle.uart_run.proofs.Names.{look_data, look_reported, Took, took, taken_entered, Ready, FlagTells, LeavesReceiver, OverrunsTell}
use Rattle.uart_run.proofs.Names.{OverrunsStand, character_errors, IsShown, AreShown, ReceivedExactly, under_terminal}
use Rattle.std.specs.Int.Bits.{and_self}
use Rattle.uart_spec.specs.declared.registers.line_status.TheConstants.LSR
use Rattle.uart_spec.specs.declared.registers.offsets.TheConstants as offsets
use Rattle.uart_chip.specs.Receiver as receiver
use Rattle.uart_run.proofs.{Between.access_lasts, SessionCalls.modes_of, SessionCalls.in_session}
use Rattle.uart_run.proofs.Overruns.{Behind, HitTells, hit_tells, lost_stays, Looked, looked, flag_lasts, tells_later}

-- ---- with the FIFO the front stays until it is taken

abbrev HasFront : Character → ReceiverState → Type 0
HasFront f r = (others : List Character) × (r.queue ≡ f ∷ others)

either_front : (f : Character) (b : Bool) (x y : ReceiverState) → HasFront f x → HasFront f y → HasFront f (if b then x else y)
either_front f true x y p q = p
either_front f false x y p q = q

front_enter : (f new : Character) (r : ReceiverState) → HasFront f r → HasFront f (enter true new r)
front_enter f new r (others, e) =
    either_front f (nat_lt (length r.queue) (room true r.size)) _ _ (others ++ new ∷ [], ap (λ q. q ++ new ∷ []) e) (others, e)

front_arrive : (f : Character) (r : ReceiverState) (byte errors : ℕ) → HasFront f r → HasFront f (receiver.arrive false true byte errors r)
front_arrive f r byte errors h =
    front_enter f (record { byte = byte; errors = errors; origin = Arrived r.arrived }) (record r { arrived = r.arrived + 1 }) h

-- ---- what the line status shows of the front

no_flag : (bit : ℕ) → bit_and bit LSR.CHARACTER_ERRORS.0 ≡ 0 → (on : Bool) → bit_and (flag on bit) LSR.CHARACTER_ERRORS.0 ≡ 0
no_flag bit none true = none
no_flag bit none false = refl

-- flags put together as the line status is: only the errors count
only_errors : (a b d f g : Bool) (e : ℕ) →
    bit_and (bit_or (bit_or (bit_or (flag a LSR.DATA_READY.0) (flag b LSR.OVERRUN_ERROR.0)) (bit_or e (flag d LSR.THR_EMPTY.0)))
    (bit_or (flag f LSR.TRANSMITTER_EMPTY.0) (flag g LSR.FIFO_DATA_ERROR.0))) LSR.CHARACTER_ERRORS.0
    ≡ bit_and e LSR.CHARACTER_ERRORS.0
only_errors a b d f g e =
    let mask = LSR.CHARACTER_ERRORS.0 in
    let arrived = bit_or (flag a LSR.DATA_READY.0) (flag b LSR.OVERRUN_ERROR.0) in
    let room = bit_or e (flag d LSR.THR_EMPTY.0) in
    let last = bit_or (flag f LSR.TRANSMITTER_EMPTY.0) (flag g LSR.FIFO_DATA_ERROR.0) in
    let p : bit_and arrived mask ≡ 0 = and_or (flag a LSR.DATA_READY.0) (flag b LSR.OVERRUN_ERROR.0) mask
    ∙ (λ i. bit_or (no_flag LSR.DATA_READY.0 refl a i) (no_flag LSR.OVERRUN_ERROR.0 refl b i)) in
    let q : bit_and room mask ≡ bit_and e mask = and_or e (flag d LSR.THR_EMPTY.0) mask
    ∙ (ap (bit_or (bit_and e mask)) (no_flag LSR.THR_EMPTY.0 refl d) ∙ or_zero_r (bit_and e mask)) in
    let r : bit_and last mask ≡ 0 = and_or (flag f LSR.TRANSMITTER_EMPTY.0) (flag g LSR.FIFO_DATA_ERROR.0) mask
    ∙ (λ i. bit_or (no_flag LSR.TRANSMITTER_EMPTY.0 refl f i) (no_flag LSR.FIFO_DATA_ERROR.0 refl g i)) in
    let front : bit_and (bit_or arrived room) mask ≡ bit_and e mask =
    and_or arrived room mask ∙ ((λ i. bit_or (p i) (q i)) ∙ zero_or (bit_and e mask)) in
    and_or (bit_or arrived room) last mask ∙ ((λ i. bit_or (front i) (r i)) ∙ or_zero_r (bit_and e mask))
  where
    zero_or : (n : ℕ) → bit_or 0 n ≡ n
    zero_or n = or_comm 0 n ∙ or_zero_r n

pub and_twice : (n mask : ℕ) → bit_and (bit_and n mask) mask ≡ bit_and n mask
and_twice n mask = and_assoc mask n mask ∙ ap (bit_and n) (and_self mask)

pub line_errors : (c : ChipState) →
    character_errors (line_status c) ≡ character_errors (front_errors c.receiver.queue c.receiver.is_front_reported)
line_errors c =
    only_errors (nat_lt 0 (length c.receiver.queue)) c.receiver.is_overrun (length c.transmitter.queue == 0)
    (is_transmitter_empty c.transmitter.queue c.transmitter.shift_register)
    (c.fifo && list_any has_errors (unreported c.receiver.queue c.receiver.is_front_reported))
    (front_errors c.receiver.queue c.receiver.is_front_reported)

shows_front : (c : ChipState) (f : Character) (others : List Character) → c.receiver.queue ≡ f ∷ others →
    c.receiver.is_front_reported ≡ false → character_errors (line_status c) ≡ character_errors f.errors
shows_front c f others e fresh =
    let shown : character_errors (front_errors c.receiver.queue c.receiver.is_front_reported) ≡ character_errors f.errors =
    rw (e, fresh) (and_twice f.errors LSR.CHARACTER_ERRORS.0) in
    line_errors c ∙ shown

shows_none : (c : ChipState) (f : Character) (others : List Character) → c.receiver.queue ≡ f ∷ others →
    c.receiver.is_front_reported ≡ true → character_errors (line_status c) ≡ 0
shows_none c f others e reported =
    let none : character_errors (front_errors c.receiver.queue c.receiver.is_front_reported) ≡ 0 = rw (e, reported) refl in
    line_errors c ∙ none

-- ---- one byte

front_told-start : (r : ReceiverState) → FrontTold (reported_front r) 0 r
front_told-start r = record { told = λ f others e i. inl (rw (e, i) refl) }

first_of : Character → List Character → Character
first_of other [] = other
first_of other (x ∷ xs) = x

same_first : (x y : Character) (xs ys : List Character) → x ∷ xs ≡ y ∷ ys → x ≡ y
unfolding first_of
same_first x y xs ys same = ap (first_of x) same

record Hit (x : Modes) (old : Option Character) (m n : MachineState) (line byte : ℕ) : Type 0 where
  pub character : Character
  pub overruns : HitTells line character m n
  pub is_byte : character.byte ≡ byte
  pub shown : IsShown old line character
  pub passed : Passed x m n (Read offsets.LSR line ∷ Read offsets.DATA byte ∷ []) [] (character ∷ [])
  pub cleared : n.chip.receiver.is_front_reported ≡ false

none_within : (e : ℕ) → IsWithin e 0 → e ≡ 0
none_within e h = sym h ∙ and_zero_r e

hit_shown : (x : Modes) (m : MachineState) (line : ℕ) → IsOpen x → Stands x m → line ≡ line_status (at_access m).chip → (f : Character)
    (others : List Character) → (at_access m).chip.receiver.queue ≡ f ∷ others → IsShown (reported_front m.chip.receiver) line f
hit_shown x m line o w l f others q = go c.receiver.is_front_reported refl
  where
    c : ChipState
    c = (at_access m).chip

    go : (b : Bool) → (at_access m).chip.receiver.is_front_reported ≡ b → IsShown (reported_front m.chip.receiver) line f
    go false e = inl (rw l (shows_front (at_access m).chip f others q e))
    go true e =
        let p = passed-access x m o.loopback w.sound w.modes in
        let nothing : character_errors line ≡ 0 = rw l (shows_none (at_access m).chip f others q e) in
        was nothing ((p.went.reports.front (reported_front m.chip.receiver) 0 (front_told-start m.chip.receiver)).told f others e q)
      where
        was : character_errors line ≡ 0 → Told (reported_front m.chip.receiver) 0 f → IsShown (reported_front m.chip.receiver) line f
        was nothing (inl old) = inr (old, nothing)
        was nothing (inr few) = inl (nothing ∙ sym (ap character_errors (none_within f.errors few)))

hit : (x : Modes) (m n : MachineState) (line byte : ℕ) → IsOpen x → x.fifo ≡ true → Stands x m → has_any line LSR.DATA_READY.0 ≡ true →
    Path MachineStep m (Read offsets.LSR line ∷ Read offsets.DATA byte ∷ []) n → Hit x (reported_front m.chip.receiver) m n line byte
hit x m n line byte o on w h (m₁, s₁, (m₂, s₂, e)) =
    let a = passed-look x m m₁ line o.loopback w s₁ in
    let t : nat_lt 0 (length m₁.chip.receiver.queue) ≡ true = sym (look_data m m₁ line s₁) ∙ h in
    let some : 0 < length m₁.chip.receiver.queue = grind (arith, common_steps) in
    let stands = stands-after x m m₁ _ _ _ a in
    let told = look_reported x.fifo m m₁ line s₁ some in
    let b : Took x m₁ m₂ byte = took x m₁ m₂ byte o stands told s₂ in
    let same : m₁.chip.receiver ≡ report (at_access m).chip.receiver = ap (λ (v : MachineState). v.chip.receiver) s₁.0 in
    let fifo : m₁.chip.fifo ≡ true = stands.modes.fifo ∙ on in
    let off : is_dlab_set (at_access m₁).chip.latches ≡ false =
    dlab-in x (at_access m₁).chip (passed-access x m₁ o.loopback stands.sound stands.modes).went.modes ∙ o.dlab in
    at (at_access m).chip.receiver.queue refl b (hit_tells x m m₁ m₂ line byte b.front b.rest on o w stands s₁ s₂ b.queue off)
    (rw same at some) (λ f others q. access_lasts (HasFront f) (λ r h. h)
    (λ r byte errors marked within h. front_arrive f r byte errors h)
    m₁ stands.sound fifo (loopback-in x m₁.chip stands.modes ∙ o.loopback) (others, ap (λ (r : ReceiverState). r.queue) same ∙ q))
    (passed-trans x x m m₁ m₂ (Read offsets.LSR line ∷ []) (Read offsets.DATA byte ∷ []) [] [] [] (b.front ∷ []) refl a b.passed)
    (rw (s₂.0, off, b.queue) refl)
  where
    at : (queue : List Character) → (at_access m).chip.receiver.queue ≡ queue → (b : Took x m₁ m₂ byte) → HitTells line b.front m m₂ →
        0 < length (at_access m).chip.receiver.queue →
        ((f : Character) (others : List Character) → (at_access m).chip.receiver.queue ≡ f ∷ others →
        HasFront f (at_access m₁).chip.receiver) →
        Passed x m m₂ (Read offsets.LSR line ∷ Read offsets.DATA byte ∷ []) [] (b.front ∷ []) →
        m₂.chip.receiver.is_front_reported ≡ false → Hit x (reported_front m.chip.receiver) m n line byte
    at [] q b tells some stays p cleared = let none : 0 < 0 = rw q at some in absurd (omega (arith, none))
    at (f ∷ others) q b tells some stays p cleared =
        let later = stays f others q in
        let is : f ≡ b.front = same_first f b.front later.0 b.rest (sym later.1 ∙ b.queue) in
        rw e (record {
          character = b.front;
          overruns = tells;
          is_byte = b.is_byte;
          shown = subst (λ (c : Character). IsShown (reported_front m.chip.receiver) line c) is
              (hit_shown x m line o w s₁.1 f others q);
          passed = p;
          cleared = cleared;
        })

-- ---- bytes in order

pub none_reported : (r : ReceiverState) → r.is_front_reported ≡ false → reported_front r ≡ None
none_reported r e = go r.queue refl
  where
    go : (queue : List Character) → r.queue ≡ queue → reported_front r ≡ None
    go [] q = rw q refl
    go (f ∷ others) q = rw (q, e) refl

record Hits (x : Modes) (old : Option Character) (m n : MachineState) (l : List Access) (items : List Received) : Type 0 where
  pub characters : List Character
  pub shown : AreShown old items characters
  pub passed : Passed x m n l [] characters
  pub stays : (size : FifoSize) (count : ℕ) (taken : List Character) → Behind size count taken m.chip.receiver →
      Behind size count (taken ++ characters) n.chip.receiver
  pub tell : FlagTells m.chip.receiver → OverrunsTell items characters n.chip.receiver
  pub flag : FlagTells m.chip.receiver → FlagTells n.chip.receiver

-- the line errors of a look have the errors of the character
shown_masked : (old : Option Character) (line errors : ℕ) (c : Character) → errors ≡ bit_and line LSR.LINE_ERRORS.0 → IsShown old line c →
    IsShown old errors c
shown_masked old line errors c e shown = go shown
  where
    same : character_errors errors ≡ character_errors line
    same = ap character_errors e ∙ and_assoc LSR.CHARACTER_ERRORS.0 line LSR.LINE_ERRORS.0

    go : IsShown old line c → IsShown old errors c
    go (inl is) = inl (same ∙ is)
    go (inr (was, none)) = inr (was, same ∙ none)

hits : (x : Modes) (old : Option Character) (items : List Received) (s : Settings) (l : List Access) (m n : MachineState) → IsOpen x →
    x.fifo ≡ true → Stands x m → reported_front m.chip.receiver ≡ old → InOrder HitWithErrors items s l → Path MachineStep m l n →
    Hits x old m n l items
hits x old [] s l m n o on w was t p =
    let none = path_as m n l [] t.is p in
    rw (t.is, none) (record {
      characters = [];
      shown = tt;
      passed = passed-refl x m w.sound w.modes;
      stays = λ size count taken p.
          subst (λ (cs : List Character). Behind size count cs m.chip.receiver) (sym (append-nil taken)) p;
      tell = λ f. tt;
      flag = λ f. f;
    })
hits x old (item ∷ items) s l m n o on w was t p =
    let parts = path_split MachineStep m n t.front t.back (path_as m n l (t.front ++ t.back) t.whole p) in
    let line = t.first.0 in
    let made = Read offsets.LSR line ∷ Read offsets.DATA item.byte ∷ [] in
    let ready : has_any line LSR.DATA_READY.0 ≡ true = sym (has_one 0 line) ∙ t.first.1 in
    let one = hit x m parts.0 line item.byte o on w ready (path_as m parts.0 t.front made t.first.3 parts.1) in
    let rest = hits x None items s t.back parts.0 n o on (stands-after x m parts.0 _ _ _ one.passed)
    (none_reported parts.0.chip.receiver one.cleared) t.second parts.2 in
    let whole : l ≡ made ++ t.back = t.whole ∙ ap (λ zs. zs ++ t.back) t.first.3 in
    rw whole (record {
      characters = one.character ∷ rest.characters;
      shown = (one.is_byte, shown_masked old line item.errors.0 one.character t.first.2 (rw was at one.shown), rest.shown);
      passed = passed-trans x x m parts.0 n made t.back [] [] (one.character ∷ []) rest.characters refl one.passed rest.passed;
      stays = λ size count taken p.
          subst (λ (cs : List Character). Behind size count cs n.chip.receiver) (append_assoc taken (one.character ∷ []) rest.characters)
          (rest.stays size count (taken ++ one.character ∷ []) (one.overruns.stays size count taken p));
      tell = λ f. (
        (λ shown. lost_stays parts.0.chip.receiver n.chip.receiver (one.character ∷ []) (one.character ∷ rest.characters)
            (λ count p. rest.stays parts.0.chip.receiver.size count (one.character ∷ []) p)
            (one.overruns.tells f (sym (has_and 1 line LSR.LINE_ERRORS.0 refl)
            ∙ (ap (λ (v : ℕ). has_any v LSR.OVERRUN_ERROR.0) (sym t.first.2) ∙ shown)))),
        rest.tell one.overruns.flag,
      );
      flag = λ f. rest.flag one.overruns.flag;
    })

look_passed : (x : Modes) (m n : MachineState) (line : ℕ) → IsOpen x → Stands x m → Path MachineStep m (Read offsets.LSR line ∷ []) n →
    Passed x m n (Read offsets.LSR line ∷ []) [] []
look_passed x m n line o w p = rw p.2 (passed-look x m p.0 line o.loopback w p.1)

receives : (x : Modes) (slots : ℕ) (items : List Received) (s : Settings) (l : List Access) (m n : MachineState) → IsOpen x →
    x.fifo ≡ true → Stands x m → ReceivesWithErrors slots items s l → Path MachineStep m l n →
    Hits x (reported_front m.chip.receiver) m n l items
receives x slots items s l m n o on w (inl (all, t)) p = hits x _ items s l m n o on w refl t p
receives x slots items s l m n o on w (inr (fewer, t)) p =
    let parts = path_split MachineStep m n t.front t.back (path_as m n l (t.front ++ t.back) t.whole p) in
    let some = hits x _ items s t.front m parts.0 o on w refl t.first parts.1 in
    let look = path_as parts.0 n t.back (Read offsets.LSR t.second.answer ∷ []) t.second.is parts.2 in
    let last : Passed x parts.0 n (Read offsets.LSR t.second.answer ∷ []) [] [] =
    look_passed x parts.0 n t.second.answer o (stands-after x m parts.0 _ _ _ some.passed) look in
    let end = looked x parts.0 look.0 t.second.answer on o (stands-after x m parts.0 _ _ _ some.passed) look.1 in
    let still : look.0 ≡ n = sym look.2 in
    let same : Looked parts.0 n = subst (λ (k : MachineState). Looked parts.0 k) still end in
    let whole : l ≡ t.front ++ Read offsets.LSR t.second.answer ∷ [] = t.whole ∙ ap (λ zs. t.front ++ zs) t.second.is in
    let both = passed-trans x x m parts.0 n t.front (Read offsets.LSR t.second.answer ∷ []) [] [] some.characters [] refl
    some.passed last in
    rw whole (record {
      characters = some.characters;
      shown = some.shown;
      passed = rw (append-nil some.characters) at both;
      stays = λ size count taken p. same.stays size count (taken ++ some.characters) (some.stays size count taken p);
      tell = λ f. tells_later items some.characters parts.0.chip.receiver n.chip.receiver same.stays (some.tell f);
      flag = λ f. same.flag;
    })

-- ---- the call

pub exactly_received : (x : Modes) (m n : MachineState) (slots : ℕ) (items : List Received) (s : Settings) (l : List Access) → IsOpen x →
    x.fifo ≡ true → Stands x m → ReceivesWithErrors slots items s l → Path MachineStep m l n → ReceivedExactly m items n
exactly_received x m n slots items s l o on w made path =
    let r = receives x slots items s l m n o on w made path in
    record { characters = r.characters; shown = r.shown; stay = taken_entered x m n l [] r.characters w.modes.cut r.passed }

-- and what its overrun flags tell
overruns_received : (x : Modes) (m n : MachineState) (slots : ℕ) (items : List Received) (s : Settings) (l : List Access) → IsOpen x →
    x.fifo ≡ true → Stands x m → FlagTells m.chip.receiver → ReceivesWithErrors slots items s l → Path MachineStep m l n →
    OverrunsStand m items n
overruns_received x m n slots items s l o on w flag made path =
    let r = receives x slots items s l m n o on w made path in
    record {
      exact = record { characters = r.characters; shown = r.shown; stay = taken_entered x m n l [] r.characters w.modes.cut r.passed };
      tell = r.tell flag;
      flag = r.flag flag;
    }

pub overruns_stand : (before after : Uart16550 MachineState) (slots : ℕ) (items : List Received) → IsSound (backend_of before) →
    Ready (under_terminal before) → (fields before).fifo ≡ true → FlagTells (backend_of before).chip.receiver →
    Made MachineStep (ReceivesWithErrors slots items) before after → OverrunsStand (backend_of before) items (backend_of after)
overruns_stand before after slots items sound ready on flag made =
    let s = under_terminal before in
    let x = modes_of s in
    let w = in_session s ready sound in
    overruns_received x (backend_of before) (backend_of after) slots items _ made.list w.open_modes (sym w.fifo ∙ on) w.stands flag
    made.fits made.path

pub flag_stands : (before : Uart16550 MachineState) → IsSound (backend_of before) → (access : Access) (after : MachineState) →
    Ready (under_terminal before) → (fields before).fifo ≡ true → LeavesReceiver access → MachineStep (backend_of before) access after →
    FlagTells (backend_of before).chip.receiver → FlagTells after.chip.receiver
flag_stands before sound access after ready on leaves step flag =
    let s = under_terminal before in
    let x = modes_of s in
    let w = in_session s ready sound in
    flag_lasts x access (backend_of before) after (sym w.fifo ∙ on) w.open_modes w.stands leaves step flag

pub received_exactly : (before after : Uart16550 MachineState) (slots : ℕ) (items : List Received) → IsSound (backend_of before) →
    Ready (under_terminal before) → (fields before).fifo ≡ true → Made MachineStep (ReceivesWithErrors slots items) before after →
    ReceivedExactly (backend_of before) items (backend_of after)
received_exactly before after slots items sound ready on made =
    let s = under_terminal before in
    let x = modes_of s in
    let w = in_session s ready sound in
    exactly_received x (backend_of before) (backend_of after) slots items _ made.list w.open_modes (sym w.fifo ∙ on) w.stands made.fits
    made.path
