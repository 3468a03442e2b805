-- How late accesses are found that follow each other soon.
use Rattle.uart_latency.proofs.Names.{ℕ, ◌+◌, ◌-◌, ◌*◌, ◌≤◌, Bool, true, false, List, [], ◌∷◌, ◌++◌, length, refl, arith, if◌then◌else◌}
use Rattle.uart_latency.proofs.Names.{Path, Access, Event, Ticks, Arrive, Lines, Gate, Mark, ChipState, tick, MachineState, MachineStep}
use Rattle.uart_latency.proofs.Names.{perform, is_data_pending, late_if, late_by, late_at, late_to_mark, ticks_of, given_back, passing}
use Rattle.uart_latency.proofs.Names.{IsPrompt, AreBetween, AreQuick, AreOthersQuick}

pub most_if : (late : ℕ) (c : ChipState) → late_if late c ≤ late
most_if late c = go (is_data_pending c.fifo c.receiver)
  where
    go : (b : Bool) → (if b then late else 0) ≤ late
    go true = omega arith
    go false = omega arith

-- no later than the ticks that pass
later_by : (late : ℕ) (event : Event) (events : List Event) (c : ChipState) →
    late_at (late_by late event c) events (perform event c) ≤ late_by late event c + passing events →
    late_at (late_by late event c) events (perform event c) ≤ late + (ticks_of event + passing events)
later_by late event events c h = let most = most_if (late + ticks_of event) (perform event c) in omega (arith, h, most)

pub late_most : (events : List Event) (late : ℕ) (c : ChipState) → late_at late events c ≤ late + passing events
late_most [] late c = most_if (late + 1) (tick c)
late_most (Gate ∷ events) late c = omega arith
late_most (Mark ∷ events) late c = most_if (late + 1) (tick c)
late_most (Ticks n ∷ events) late c =
    later_by late (Ticks n) events c (late_most events (late_by late (Ticks n) c) (perform (Ticks n) c))
late_most (Arrive byte errors ∷ events) late c =
    later_by late (Arrive byte errors) events c (late_most events (late_by late (Arrive byte errors) c) (perform (Arrive byte errors) c))
late_most (Lines inputs ∷ events) late c =
    later_by late (Lines inputs) events c (late_most events (late_by late (Lines inputs) c) (perform (Lines inputs) c))

-- behind events without an access it is as late as they leave it, and by what passes then
late_behind : (first others : List Event) (late : ℕ) (c : ChipState) → AreBetween first →
    late_at late (first ++ others) c ≤ late_to_mark late first c + passing others
late_behind [] others late c between = late_most others late c
late_behind (Gate ∷ first) others late c between = absurd between
late_behind (Mark ∷ first) others late c between = absurd between
late_behind (Ticks n ∷ first) others late c between =
    late_behind first others (late_by late (Ticks n) c) (perform (Ticks n) c) between
late_behind (Arrive byte errors ∷ first) others late c between =
    late_behind first others (late_by late (Arrive byte errors) c) (perform (Arrive byte errors) c) between
late_behind (Lines inputs ∷ first) others late c between =
    late_behind first others (late_by late (Lines inputs) c) (perform (Lines inputs) c) between

pub behind_others : (b taken late : ℕ) (first others : List Event) (c : ChipState) → AreBetween first →
    late_to_mark late first c ≤ b → passing others ≤ taken → late_at late (first ++ others) c ≤ b + taken
behind_others b taken late first others c between begins passes =
    omega (arith, late_behind first others late c between, begins, passes)

-- these accesses, if it is so late before the ticks of the first
pub prompt_after : (t d b e late : ℕ) (l : List Access) (m n : MachineState) (path : Path MachineStep m l n) → late ≤ b →
    AreQuick e l m n path → b + length l * e ≤ d → (after : ℕ) × IsPrompt t d late after l m n path
prompt_after t d b e late [] m n path first quick fits = (late, refl)
prompt_after t d b e late (access ∷ accesses) m n path first quick fits =
    let now = late_at late m.ahead m.chip in
    let found = late_most m.ahead late m.chip in
    let left = late_if (now - given_back t access) path.0.chip in
    let most = most_if (now - given_back t access) path.0.chip in
    let next = prompt_after t d (b + e) e left accesses path.0 n path.2 (omega (arith, most, found, first, quick.0)) quick.1
    (omega (arith, fits)) in
    (next.0, (omega (arith, found, first, quick.0, fits), next.1))

-- and if the first finds it so late
pub quick_prompt : (t d b e late : ℕ) (l : List Access) (m n : MachineState) (path : Path MachineStep m l n) →
    late_at late m.ahead m.chip ≤ b → AreOthersQuick e l m n path → b + length l * e ≤ d + e →
    (after : ℕ) × IsPrompt t d late after l m n path
quick_prompt t d b e late [] m n path first quick fits = (late, refl)
quick_prompt t d b e late (access ∷ accesses) m n path first quick fits =
    let now = late_at late m.ahead m.chip in
    let most = most_if (now - given_back t access) path.0.chip in
    let next = prompt_after t d b e (late_if (now - given_back t access) path.0.chip) accesses path.0 n path.2 (omega (arith, most, first))
    quick (omega (arith, fits)) in
    (next.0, (omega (arith, first, fits), next.1))
