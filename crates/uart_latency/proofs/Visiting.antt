-- A visit of the handler that reads until nothing waits is never later than at its first byte.
use Rattle.uart_latency.proofs.Names.{◌≡◌, ℕ, ◌+◌, ◌-◌, ◌*◌, ◌≤◌, Bool, true, false, nat_le, nat_lt, List, [], ◌∷◌, ◌++◌, length, sym, ◌∙◌}
use Rattle.uart_latency.proofs.Names.{ap, subst, arith, if◌then◌else◌, common_steps, Path, has_any, Access, Read, MachineState, MachineStep}
use Rattle.uart_latency.proofs.Names.{characters_of, is_data_pending, some_characters, look_data, late_if, late_at, given_back, IsPrompt}
use Rattle.uart_latency.proofs.Names.{AreQuick, AreOthersQuick, reads, visit, IsInTime}
use Rattle.uart_spec.specs.declared.registers.line_status.TheConstants.LSR
use Rattle.uart_spec.specs.declared.registers.offsets.TheConstants as offsets
use Rattle.uart_latency.proofs.Quick.{most_if, late_most, prompt_after}

-- from here these accesses find it in time
abbrev pub Goes : (t d late : ℕ) (l : List Access) (m n : MachineState) → Path MachineStep m l n → Type 0
Goes t d late l m n path = (after : ℕ) × IsPrompt t d late after l m n path

-- wherever others come from that leave it so late, these go on
abbrev pub GoesOn : (t d b e : ℕ) (l : List Access) (n : MachineState) → Type 0
GoesOn t d b e l n =
    (late : ℕ) (m : MachineState) (path : Path MachineStep m l n) → late ≤ b → AreQuick e l m n path → Goes t d late l m n path

-- some accesses, and then others
pub fronts : (t d b e : ℕ) (front rest : List Access) (n : MachineState) → b + length front * e ≤ d →
    GoesOn t d (b + length front * e) e rest n → GoesOn t d b e (front ++ rest) n
fronts t d b e [] rest n fits on late m path first quick = on late m path (omega (arith, first)) quick
fronts t d b e (access ∷ front) rest n fits on late m path first quick =
    let now = late_at late m.ahead m.chip in
    let found = late_most m.ahead late m.chip in
    let most = most_if (now - given_back t access) path.0.chip in
    let B : ℕ → Type 0 = λ x. GoesOn t d x e rest n in
    let next = fronts t d (b + e) e front rest n (omega (arith, fits)) (subst B (omega arith) on)
    (late_if (now - given_back t access) path.0.chip) path.0 path.2 (omega (arith, most, found, first, quick.0)) quick.1 in
    (next.0, (omega (arith, found, first, quick.0, fits), next.1))

-- bytes are read, which takes no longer than they take to come
reading : (t d b e : ℕ) (bytes : List (ℕ × ℕ)) (rest : List Access) (n : MachineState) → b + 2 * e ≤ d → 2 * e ≤ t →
    GoesOn t d b e rest n → GoesOn t d b e (reads bytes ++ rest) n
reading t d b e [] rest n fits each on late m path first quick = on late m path first quick
reading t d b e ((line, byte) ∷ others) rest n fits each on late m (o, look, (p, read, path)) first quick =
    let now = late_at late m.ahead m.chip in
    let found = late_most m.ahead late m.chip in
    let left = late_if (now - 0) o.chip in
    let most = most_if (now - 0) o.chip in
    let next_found = late_at left o.ahead o.chip in
    let found_then = late_most o.ahead left o.chip in
    let most_then = most_if (next_found - t) p.chip in
    let next = reading t d b e others rest n fits each on (late_if (next_found - t) p.chip) p path
    (omega (arith, most_then, found_then, most, found, first, quick.0, quick.1.0, each)) quick.1.1 in
    let in_time : next_found ≤ d = omega (arith, found_then, most, found, first, quick.0, quick.1.0, fits) in
    (next.0, (omega (arith, found, first, quick.0, fits), (in_time, next.1)))

-- LSR shows that nothing waits
none_waits : (line : ℕ) (m n : MachineState) → MachineStep m (Read offsets.LSR line) n → has_any line LSR.DATA_READY.0 ≡ false →
    is_data_pending n.chip.fifo n.chip.receiver ≡ false
none_waits line m n step none = go n.chip.fifo
  where
    empty : nat_lt 0 (length n.chip.receiver.queue) ≡ false
    empty = sym (look_data m n line step) ∙ none

    go : (b : Bool) →
        (if b then nat_le (characters_of n.chip.receiver.size n.chip.receiver.trigger) (length n.chip.receiver.queue)
        else nat_lt 0 (length n.chip.receiver.queue)) ≡ false
    go true = let one = some_characters n.chip.receiver.size n.chip.receiver.trigger in let e = empty in grind (arith, common_steps)
    go false = empty

looked : (t d b e : ℕ) (line : ℕ) (back : List Access) (n : MachineState) → has_any line LSR.DATA_READY.0 ≡ false → b + e ≤ d →
    GoesOn t d 0 e back n → GoesOn t d b e (Read offsets.LSR line ∷ back) n
looked t d b e line back n none fits on late m (o, look, path) first quick =
    let now = late_at late m.ahead m.chip in
    let found = late_most m.ahead late m.chip in
    let nothing : late_if (now - 0) o.chip ≡ 0 = ap (λ b. if b then now - 0 else 0) (none_waits line m o look none) in
    let next = on (late_if (now - 0) o.chip) o path (omega (arith, nothing)) quick.1 in
    (next.0, (omega (arith, found, first, quick.0, fits), next.1))

-- whatever follows begins with nothing waiting
pub visits_on : (t d b e late line : ℕ) (first : Access) (front : List Access) (bytes : List (ℕ × ℕ)) (back : List Access)
    (m n : MachineState) (path : Path MachineStep m (visit first front bytes line back) n) → has_any line LSR.DATA_READY.0 ≡ false →
    late_at late m.ahead m.chip ≤ b → AreOthersQuick e (visit first front bytes line back) m n path → b + (length front + 2) * e ≤ d →
    2 * e ≤ t → GoesOn t d 0 e back n → (after : ℕ) × IsPrompt t d late after (visit first front bytes line back) m n path
visits_on t d b e late line first front bytes back m n path none begins quick room each others =
    let now = late_at late m.ahead m.chip in
    let most = most_if (now - given_back t first) path.0.chip in
    let behind = b + length front * e in
    let rest = reads bytes ++ Read offsets.LSR line ∷ back in
    let on = looked t d behind e line back n none (omega (arith, room)) others in
    let reading_on = reading t d behind e bytes (Read offsets.LSR line ∷ back) n (omega (arith, room)) each on in
    let next = fronts t d b e front rest n (omega (arith, room)) reading_on (late_if (now - given_back t first) path.0.chip) path.0 path.2
    (omega (arith, most, begins)) quick in
    (next.0, (omega (arith, begins, room), next.1))

pub visits : (t d b e late line : ℕ) (first : Access) (front : List Access) (bytes : List (ℕ × ℕ)) (back : List Access)
    (m n : MachineState) (path : Path MachineStep m (visit first front bytes line back) n) → has_any line LSR.DATA_READY.0 ≡ false →
    late_at late m.ahead m.chip ≤ b → AreOthersQuick e (visit first front bytes line back) m n path → IsInTime t d b e front back →
    (after : ℕ) × IsPrompt t d late after (visit first front bytes line back) m n path
visits t d b e late line first front bytes back m n path none begins quick fits =
    let others = fits.others in
    visits_on t d b e late line first front bytes back m n path none begins quick fits.first fits.bytes
    (λ late o q few quick. prompt_after t d 0 e late back o n q few quick (omega (arith, others)))
