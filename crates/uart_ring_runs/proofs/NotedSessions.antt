-- Which errors the bytes of the receive ring have after calls of the rings themselves, and what `take_with_errors` returns.
use Rattle.uart_ring_runs.proofs.Names.{◌≡◌, ℕ, zero, suc, ◌+◌, ◌-◌, ◌≤◌, true, false, min, List, [], ◌∷◌, ◌++◌, length, take, drop, None}
use Rattle.uart_ring_runs.proofs.Names.{refl, sym, ◌∙◌, ap, subst, arith, append_assoc, length-append, length-drop, length-take}
use Rattle.uart_ring_runs.proofs.Names.{take-append-drop, All, drop-append-add, drop-append_seam, take-append_seam, map-append, length-map}
use Rattle.uart_ring_runs.proofs.Names.{take_min, Path, has_any, Read, reported_front, MachineState, MachineStep, ReceiverState, IsSound}
use Rattle.uart_ring_runs.proofs.Names.{Character, taken_entered, Modes, dlab-in, calls_of, Ready, modes_of, modes_cut, in_session, Notes}
use Rattle.uart_ring_runs.proofs.Names.{NotesErrors, notes_of, noted_in, unnoted_in, errors_in, bytes_of, errors_of, latest, TakesBytes}
use Rattle.uart_ring_runs.proofs.Names.{RingDid, ring_fields, ring_backend_of, ErrorNotes, NotedState, without_notes, notes_in, receiver_of}
use Rattle.uart_ring_runs.proofs.Names.{only_bytes, AreTheirs, AreExact, shown_of, AreUnlooked, IsInStep, MayBegin, NotedLink, NotedChain}
use Rattle.uart_ring_runs.proofs.Names.{NotesExactly, links_without_notes, to_take, gone, under, ring_machine, IsOfRings}
use Rattle.uart_ring_runs.proofs.Names.{AllWithinRingSession}
use Rattle.uart_spec.specs.declared.received.Received.{Received}
use Rattle.uart_spec.specs.declared.registers.line_status.TheConstants.LSR
use Rattle.uart_spec.specs.declared.registers.offsets.TheConstants as offsets
use Rattle.uart_ring_runs.specs.NotedErrors.{Holds}
use Rattle.uart_ring_runs.proofs.NotedAccesses.{Along, notes_begin, theirs_later, theirs_append}
use Rattle.uart_ring_runs.proofs.{NotedBlocks.hit_begins, NotedCalls.CallNoted, NotedCalls.parted, NotedCalls.chain_noted}
use Rattle.uart_ring_runs.proofs.{NotedCalls.in_session_noted, RingRts.modes_at, RingRts.begins_session}

-- ---- some of them

theirs_drop : (count : ℕ) (errors : List ℕ) (characters : List Character) (r : ReceiverState) → AreTheirs errors characters r →
    AreTheirs (drop count errors) (drop count characters) r
theirs_drop zero errors characters r h = h
theirs_drop (suc count) [] characters r h = tt
theirs_drop (suc count) (one ∷ errors) [] r h = absurd h
theirs_drop (suc count) (one ∷ errors) (character ∷ characters) r h = theirs_drop count errors characters r h.2

theirs_take : (count : ℕ) (errors : List ℕ) (characters : List Character) (r : ReceiverState) → AreTheirs errors characters r →
    AreTheirs (take count errors) characters r
theirs_take zero errors characters r h = tt
theirs_take (suc count) [] characters r h = tt
theirs_take (suc count) (one ∷ errors) [] r h = absurd h
theirs_take (suc count) (one ∷ errors) (character ∷ characters) r h = (h.0, h.1, theirs_take count errors characters r h.2)

-- the last ones of two lists are those of the second, if it has as many
latest_append : (count : ℕ) (xs ys : List ℕ) → count ≤ length ys → latest count (xs ++ ys) ≡ latest count ys
latest_append count xs ys few =
    let whole : length (xs ++ ys) - count ≡ length xs + (length ys - count) =
    let long = length-append xs ys in omega (arith, long, few) in
    ap (λ n. drop n (xs ++ ys)) whole ∙ drop-append-add xs ys (length ys - count)

-- ---- what `take_with_errors` returns

pub taken_exactly : (s t : NotedState) (characters : List Character) (slots count : ℕ) (items : List Received) → Holds characters s →
    unnoted_in s ≡ 0 → RingDid (NotesErrors MachineStep) (TakesBytes slots (bytes_of items)) s t →
    errors_of items ≡ take count (errors_in s) → AreExact items characters (receiver_of s)
taken_exactly s t characters slots count items holds noted did errors =
    let there = to_take (without_notes s) in
    let is : bytes_of items ≡ take slots there = did.does.0 in
    let long : length items ≡ min slots (length there) =
    sym (length-map items (λ (received : Received). received.byte)) ∙ (ap length is ∙ length-take slots there) in
    record {
      bytes = is ∙ (sym (take_min slots there) ∙ (λ i. take (sym long i) (sym holds.bytes i)));
      errors = subst (λ (es : List ℕ). AreTheirs es characters (receiver_of s)) (sym errors)
          (theirs_take count (errors_in s) characters (receiver_of s) (holds.errors noted));
    }

-- ---- a session

module _ (x : Modes) (s t : NotedState) (before : List Character) (left : List ℕ) (holds : Holds before s) (noted : unnoted_in s ≡ 0)
    (g : CallNoted x s t left) where
  characters : List Character
  characters = before ++ g.takes

  bytes_read : left ++ to_take (without_notes t) ≡ only_bytes characters
  unfolding characters
  bytes_read =
      g.received ∙ ((λ i. sym holds.bytes i ++ only_bytes g.takes)
      ∙ sym (map-append (λ (character : Character). character.byte) before g.takes))

  -- the errors of all of them
  errors : List ℕ
  errors = errors_in s ++ g.noted.errors

  long : length errors ≡ length characters
  unfolding characters errors
  long =
      let there = to_take (without_notes s) in
      let first = length-append (errors_in s) g.noted.errors in
      let second = length-append before g.takes in
      let same : length before ≡ length there =
      sym (length-map before (λ (character : Character). character.byte)) ∙ ap length holds.bytes in
      let cut = length-drop (length (noted_in s) - length there) (noted_in s) in
      omega (arith, first, second, same, cut, noted, g.noted.as_many)

  theirs : AreTheirs errors characters (receiver_of t)
  unfolding characters errors
  theirs =
      let there = to_take (without_notes s) in
      let same : length before ≡ length there =
      sym (length-map before (λ (character : Character). character.byte)) ∙ ap length holds.bytes in
      let cut = length-drop (length (noted_in s) - length there) (noted_in s) in
      theirs_append (errors_in s) g.noted.errors before g.takes (receiver_of t) (omega (arith, same, cut, noted))
      (theirs_later (errors_in s) before g.takes (receiver_of s) (receiver_of t) g.noted.stays (holds.errors noted)) g.noted.theirs

  -- the last ones of what is noted
  last_noted : (count : ℕ) → count ≤ length (noted_in t) → count ≤ length errors → latest count (noted_in t) ≡ latest count errors
  unfolding errors
  last_noted count few fewer =
      let older = take (length (noted_in s) - length (to_take (without_notes s))) (noted_in s) in
      let whole : g.noted.front ++ noted_in t ≡ older ++ (errors_in s ++ g.noted.errors) =
      g.noted.noted ∙ (ap (λ zs. zs ++ g.noted.errors)
      (sym (take-append-drop (length (noted_in s) - length (to_take (without_notes s))) (noted_in s)))
      ∙ append_assoc older (errors_in s) g.noted.errors) in
      sym (latest_append count g.noted.front (noted_in t) few) ∙ (ap (latest count) whole
      ∙ latest_append count older (errors_in s ++ g.noted.errors) fewer)

  held : List Character
  held = drop (length left) characters

  gone_first : List Character
  gone_first = take (length left) characters

  drop_map : (count : ℕ) (cs : List Character) → only_bytes (drop count cs) ≡ drop count (only_bytes cs)
  drop_map zero cs = refl
  drop_map (suc count) [] = refl
  drop_map (suc count) (c ∷ cs) = drop_map count cs

  take_map : (count : ℕ) (cs : List Character) → only_bytes (take count cs) ≡ take count (only_bytes cs)
  take_map zero cs = refl
  take_map (suc count) [] = refl
  take_map (suc count) (c ∷ cs) = ap (λ zs. c.byte ∷ zs) (take_map count cs)

  held_bytes : only_bytes held ≡ to_take (without_notes t)
  unfolding held
  held_bytes =
      drop_map (length left) characters ∙ (ap (drop (length left)) (sym bytes_read) ∙ drop-append_seam left (to_take (without_notes t)))

  gone_bytes : only_bytes gone_first ≡ left
  unfolding gone_first
  gone_bytes =
      take_map (length left) characters ∙ (ap (take (length left)) (sym bytes_read) ∙ take-append_seam left (to_take (without_notes t)))

  holds_then : Holds held t
  unfolding held
  holds_then = record {
    bytes = held_bytes;
    errors = λ all.
        let there = to_take (without_notes t) in
        let sum : length left + length there ≡ length characters =
        sym (length-append left there) ∙ (ap length bytes_read ∙ length-map characters (λ (character : Character). character.byte)) in
        let same : latest (length there) (noted_in t) ≡ latest (length there) errors =
        last_noted (length there) (omega (arith, all)) (omega (arith, sum, long)) in
        let back : length errors - length there ≡ length left = omega (arith, sum, long) in
        let late : latest (length there) errors ≡ drop (length left) errors = ap (λ n. drop n errors) back in
        subst (λ (es : List ℕ). AreTheirs es (drop (length left) characters) (receiver_of t)) (sym (same ∙ late))
        (theirs_drop (length left) errors characters (receiver_of t) theirs);
  }

  all_there : gone_first ++ held ≡ before ++ g.takes
  unfolding held gone_first characters
  all_there = take-append-drop (length left) (before ++ g.takes)

pub notes_exactly : (s t : NotedState) (before : List Character) (links : List NotedLink) → IsSound (ring_machine (without_notes s)) →
    MayBegin before s → AllWithinRingSession (without_notes s) (links_without_notes links) → All IsOfRings (calls_of links) →
    NotedChain s links t → NotesExactly before s links t
notes_exactly s t before links sound begins within own chain =
    let ready = begins.ready in
    let on = begins.fifo in
    let step = begins.in_step in
    let holds = begins.holds in
    let noted = begins.noted in
    let plain = under (without_notes s) in
    let m = ring_machine (without_notes s) in
    let n = ring_machine (without_notes t) in
    let x = modes_of plain in
    let w = begins_session x (without_notes s) (in_session plain ready sound) in
    let along : Along (notes_in s) m = record {
      sound = sound;
      fifo = ready.fifo ∙ on;
      loopback = ready.loopback;
      latch = step.latch ∙ sym ready.dlab;
      fits = record { front = step.shown; lost = step.lost; flag = step.flag };
    } in
    let g = chain_noted x s t links (sym w.fifo ∙ on) w along within own chain in
    let left = gone (links_without_notes links) in
    let y = modes_at x (without_notes t) in
    let kept = taken_entered y m n g.made g.written g.takes (sym (modes_cut plain)) g.passed in
    let queue = (receiver_of t).queue in
    let v = in_session_noted x s t left w g in
    let dlab = dlab-in y n.chip g.passed.went.modes ∙ g.open_modes.dlab in
    record {
      left = gone_first x s t before left holds noted g;
      held = held x s t before left holds noted g;
      left_bytes = gone_bytes x s t before left holds noted g;
      holds = holds_then x s t before left holds noted g;
      stay = sym (append_assoc (gone_first x s t before left holds noted g) (held x s t before left holds noted g) queue)
          ∙ (ap (λ zs. zs ++ queue) (all_there x s t before left holds noted g)
          ∙ (append_assoc before g.takes queue ∙ ap (λ zs. before ++ zs) (sym kept)));
      in_step = record {
        latch = g.noted.along.latch ∙ dlab;
        shown = g.noted.along.fits.front;
        lost = g.noted.along.fits.lost;
        flag = g.noted.along.fits.flag;
      };
      ready = record {
        dlab = dlab;
        loopback = g.noted.along.loopback;
        fifo = g.noted.along.fifo ∙ sym (g.fifo ∙ on);
        fits = g.fits ready.fits;
      };
      fifo = g.fifo ∙ on;
    }

-- ---- where a session may begin

pub step_begins : (s : NotedState) → IsSound (ring_machine (without_notes s)) → (line : ℕ) (after : ErrorNotes MachineState) →
    Ready (under (without_notes s)) → (ring_fields s).driver.fifo ≡ true → AreUnlooked (notes_in s) →
    reported_front (receiver_of s) ≡ None → NotesErrors MachineStep (ring_backend_of s) (Read offsets.LSR line) after →
    IsInStep (notes_of after) after.backend.chip.receiver
step_begins s sound line after ready on begins none step =
    let I : Notes → Type 0 = λ v. IsInStep v after.backend.chip.receiver in
    subst I (sym step.noted) (notes_begin (notes_in s) (ring_machine (without_notes s)) after.backend line sound (ready.fifo ∙ on)
    ready.loopback begins (ap shown_of none) step.made)

pub byte_begins : (s : NotedState) → IsSound (ring_machine (without_notes s)) → (line byte : ℕ) (after : ErrorNotes MachineState) →
    Ready (under (without_notes s)) → (ring_fields s).driver.fifo ≡ true → (notes_in s).is_latch ≡ false →
    has_any line LSR.DATA_READY.0 ≡ true →
    Path (NotesErrors MachineStep) (ring_backend_of s) (Read offsets.LSR line ∷ Read offsets.DATA byte ∷ []) after →
    IsInStep (notes_of after) after.backend.chip.receiver
byte_begins s sound line byte after ready on closed shows path =
    let plain = under (without_notes s) in
    let w = in_session plain ready sound in
    let parts = parted (Read offsets.LSR line ∷ Read offsets.DATA byte ∷ []) (ring_backend_of s) after path in
    let I : Notes → Type 0 = λ v. IsInStep v after.backend.chip.receiver in
    subst I (sym parts.notes) (hit_begins (modes_of plain) (notes_in s) (ring_machine (without_notes s)) after.backend line byte
    w.open_modes (sym w.fifo ∙ on) w.stands closed shows parts.path)
