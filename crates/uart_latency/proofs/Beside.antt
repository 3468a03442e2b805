-- Accesses in turn, of which those for a byte take no longer than the byte took to come: only the others make it later.
use Rattle.uart_latency.proofs.Names.{◌≡◌, ℕ, ◌+◌, ◌-◌, ◌*◌, ◌≤◌, ◌||◌, ◌⊎◌, inl, inr, Bool, true, false, List, [], ◌∷◌, ◌++◌, refl, ap}
use Rattle.uart_latency.proofs.Names.{arith, if◌then◌else◌, false≢true, mul-le-mul_right, Path, Access, Read, Write, MachineState}
use Rattle.uart_latency.proofs.Names.{MachineStep, late_if, late_at, given_back, AreQuick, AreOthersQuick, reads_byte, begins_with_byte}
use Rattle.uart_latency.proofs.Names.{beside}
use Rattle.uart_latency.proofs.{Quick.most_if, Quick.late_most, Visiting.Goes, Visiting.GoesOn}

-- fewer are behind some than in all
pub beside_back : (front back : List Access) → beside back ≤ beside (front ++ back)
beside_back [] back = omega arith
beside_back (access ∷ front) back = let less = beside_back front back in omega (arith, less)

-- a byte that is read gives back its time
gives : (t : ℕ) (access : Access) → reads_byte access ≡ true → given_back t access ≡ t
gives t (Read offset value) is = ap (λ b. if b then t else 0) is
gives t (Write offset value) is = absurd (false≢true is)

-- it is at most so late; or an access later, and a byte is read next
abbrev IsAbout : (e x late : ℕ) → List Access → Type 0
IsAbout e x late l = (late ≤ x) ⊎ ((late ≤ x + e) × (begins_with_byte l ≡ true))

-- the first of these accesses, if the others go on
first_goes : (t d e : ℕ) (access : Access) (l : List Access) (m n : MachineState) (path : Path MachineStep m (access ∷ l) n) → 2 * e ≤ t →
    AreQuick e (access ∷ l) m n path →
    ((x late : ℕ) → x + (beside l + 2) * e ≤ d → IsAbout e x late l → Goes t d late l path.0 n path.2) → (x late : ℕ) →
    x + (beside (access ∷ l) + 2) * e ≤ d → IsAbout e x late (access ∷ l) → Goes t d late (access ∷ l) m n path
first_goes t d e access l m n path each quick later x late fits about =
    by (reads_byte access) (begins_with_byte l) refl refl fits about
  where
    most : (byte : Bool) → (late ≤ x) ⊎ ((late ≤ x + e) × (byte ≡ true)) → late ≤ x + e
    most byte (inl few) = omega (arith, few)
    most byte (inr more) = more.0

    by : (byte next : Bool) → reads_byte access ≡ byte → begins_with_byte l ≡ next →
        x + ((if byte || next then 0 else 1) + beside l + 2) * e ≤ d → (late ≤ x) ⊎ ((late ≤ x + e) × (byte ≡ true)) →
        Goes t d late (access ∷ l) m n path
    by true next is follows fits about =
        let few = most true about in
        let found = late_most m.ahead late m.chip in
        let now = late_at late m.ahead m.chip in
        let left = most_if (now - given_back t access) path.0.chip in
        let back = gives t access is in
        let goes = later x (late_if (now - given_back t access) path.0.chip) (omega (arith, fits))
        (inl (omega (arith, left, found, few, back, each, quick.0))) in
        (goes.0, (omega (arith, found, few, quick.0, fits), goes.1))
    by false true is follows fits (inl few) =
        let found = late_most m.ahead late m.chip in
        let now = late_at late m.ahead m.chip in
        let left = most_if (now - given_back t access) path.0.chip in
        let goes = later x (late_if (now - given_back t access) path.0.chip) (omega (arith, fits))
        (inr (omega (arith, left, found, few, quick.0), follows)) in
        (goes.0, (omega (arith, found, few, quick.0, fits), goes.1))
    by false false is follows fits (inl few) =
        let found = late_most m.ahead late m.chip in
        let now = late_at late m.ahead m.chip in
        let left = most_if (now - given_back t access) path.0.chip in
        let goes = later (x + e) (late_if (now - given_back t access) path.0.chip) (omega (arith, fits))
        (inl (omega (arith, left, found, few, quick.0))) in
        (goes.0, (omega (arith, found, few, quick.0, fits), goes.1))
    by false next is follows fits (inr more) = absurd (false≢true more.1)

all_go : (t d e : ℕ) (l : List Access) (m n : MachineState) (path : Path MachineStep m l n) → 2 * e ≤ t → AreQuick e l m n path →
    (x late : ℕ) → x + (beside l + 2) * e ≤ d → IsAbout e x late l → Goes t d late l m n path
all_go t d e [] m n path each quick x late fits about = (late, refl)
all_go t d e (access ∷ l) m n path each quick x late fits about =
    first_goes t d e access l m n path each quick (all_go t d e l path.0 n path.2 each quick.1) x late fits about

-- wherever others come from that leave it so late, these go on
pub beside_goes : (t d x e : ℕ) (l : List Access) (n : MachineState) → 2 * e ≤ t → x + (beside l + 2) * e ≤ d → GoesOn t d x e l n
beside_goes t d x e l n each fits late m path few quick = all_go t d e l m n path each quick x late fits (inl few)

-- the first finds it not late at all
pub beside_prompt : (t d e late : ℕ) (l : List Access) (m n : MachineState) (path : Path MachineStep m l n) → 2 * e ≤ t →
    late_at late m.ahead m.chip ≡ 0 → AreOthersQuick e l m n path → (beside l + 2) * e ≤ d → Goes t d late l m n path
beside_prompt t d e late [] m n path each none quick fits = (late, refl)
beside_prompt t d e late (access ∷ l) m n path each none quick fits =
    let now = late_at late m.ahead m.chip in
    let left = most_if (now - given_back t access) path.0.chip in
    let less = beside_back (access ∷ []) l in
    let times = mul-le-mul_right e less in
    let goes = beside_goes t d 0 e l n each (omega (arith, fits, times)) (late_if (now - given_back t access) path.0.chip) path.0 path.2
    (omega (arith, left, none)) quick in
    (goes.0, (omega (arith, none), goes.1))
