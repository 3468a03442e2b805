-- How late the handler may be without flow control, in ticks, and so in character times.
use Rattle.std.specs.Prelude.{◌≡◌, ◌<◌, ◌≤◌, ℕ, ◌+◌, ◌-◌, ◌*◌, ◌==◌, ◌||◌, Bool, false, List, [], ◌∷◌, ◌++◌, length}
use Rattle.std.specs.Prelude.{if◌then◌else◌}
use Rattle.uart_spec.specs.Access.{Path}
use Rattle.uart_spec.specs.declared.access.Access.{Access}
use Rattle.uart_spec.specs.declared.access.Access.TheVariants.{Read, Write}
use Rattle.uart_spec.specs.declared.registers.offsets.TheConstants as offsets
use Rattle.uart_events.specs.declared.event.Event.{Event}
use Rattle.uart_events.specs.declared.event.Event.TheVariants.{Ticks, Arrive, Access as Gate, Mark}
use Rattle.uart_chip.specs.Chip.{ChipState, tick}
use Rattle.uart_chip.specs.Machine.{MachineState, MachineStep, perform}
use Rattle.uart_chip.specs.Receiver.{is_data_pending}
use Rattle.uart_ring.specs.Ring.{RingDoing, RingDid}
use Rattle.uart_ring_runs.specs.declared.call.RingAnswer.{RingAnswer}
use Rattle.uart_ring_runs.specs.declared.call.RingCall.{RingCall}
use Rattle.uart_ring_runs.specs.declared.call.RingCall.TheVariants as call
use Rattle.uart_ring_runs.specs.RingRun.{RingState, RingLink, RingChain, RingCallStep, ring_machine}
use Rattle.uart_latency.specs.Arrivals.{spare}

-- ---- the schedule

-- characters come at least t ticks apart; since the last one so many have passed
abbrev pub SpacedAfter : (t passed : ℕ) → List Event → Type 0
SpacedAfter t passed [] = Unit {0}
SpacedAfter t passed (Ticks n ∷ events) = SpacedAfter t (passed + n) events
SpacedAfter t passed (Arrive byte errors ∷ events) = (t ≤ passed) × SpacedAfter t 0 events
SpacedAfter t passed (_ ∷ events) = SpacedAfter t passed events

-- characters come at least t ticks apart, and the first may come at once
abbrev pub AreSpaced : (t : ℕ) → List Event → Type 0
AreSpaced t events = SpacedAfter t t events

-- ---- how late it is

-- It is late for as many ticks as have passed since as many characters wait as the trigger level. Each character that
-- is read gives back the time of one. Once fewer wait it is not late at all.

-- so late, if as many wait
abbrev pub late_if : (late : ℕ) → ChipState → ℕ
late_if late c = if is_data_pending c.fifo c.receiver then late else 0

-- how many ticks an event is
abbrev pub ticks_of : Event → ℕ
ticks_of (Ticks n) = n
ticks_of _ = 0

-- how late it is after an event
abbrev pub late_by : (late : ℕ) → Event → ChipState → ℕ
late_by late event c = late_if (late + ticks_of event) (perform event c)

-- as an access finds it: after the events up to it, or after those up to a Mark or the end, and one more tick
abbrev pub late_at : (late : ℕ) → List Event → ChipState → ℕ
late_at late [] c = late_if (late + 1) (tick c)
late_at late (Gate ∷ events) c = late
late_at late (Mark ∷ events) c = late_if (late + 1) (tick c)
late_at late (event ∷ events) c = late_at (late_by late event c) events (perform event c)

-- at the next Mark, or at the end
abbrev pub late_to_mark : (late : ℕ) → List Event → ChipState → ℕ
late_to_mark late [] c = late
late_to_mark late (Mark ∷ events) c = late
late_to_mark late (event ∷ events) c = late_to_mark (late_by late event c) events (perform event c)

-- what happens between two accesses: none of these is an access, or the end of a wait
abbrev pub AreBetween : List Event → Type 0
AreBetween [] = Unit {0}
AreBetween (Gate ∷ events) = ⊥
AreBetween (Mark ∷ events) = ⊥
AreBetween (event ∷ events) = AreBetween events

-- the time that an access gives back, if a character takes t ticks
abbrev pub given_back : (t : ℕ) → Access → ℕ
given_back t (Read offset value) = if offset == offsets.DATA then t else 0
given_back t (Write offset value) = 0

-- ---- the program

-- none of these accesses finds it later than d, and then it is this late
abbrev pub IsPrompt : (t d late after : ℕ) (l : List Access) (m n : MachineState) → Path MachineStep m l n → Type 0
IsPrompt t d late after [] m n path = after ≡ late
IsPrompt t d late after (access ∷ accesses) m n path =
    let now = late_at late m.ahead m.chip in
    (now ≤ d) × IsPrompt t d (late_if (now - given_back t access) path.0.chip) after accesses path.0 n path.2

-- the ticks that pass before an access
abbrev pub passing : List Event → ℕ
passing [] = 1
passing (Gate ∷ events) = 0
passing (Mark ∷ events) = 1
passing (event ∷ events) = ticks_of event + passing events

-- at most e ticks pass before each of these accesses
abbrev pub AreQuick : (e : ℕ) (l : List Access) (m n : MachineState) → Path MachineStep m l n → Type 0
AreQuick e [] m n path = Unit {0}
AreQuick e (access ∷ accesses) m n path = (passing m.ahead ≤ e) × AreQuick e accesses path.0 n path.2

-- at most e ticks pass before each of these accesses but the first, which may come after any time
abbrev pub AreOthersQuick : (e : ℕ) (l : List Access) (m n : MachineState) → Path MachineStep m l n → Type 0
AreOthersQuick e [] m n path = Unit {0}
AreOthersQuick e (access ∷ accesses) m n path = AreQuick e accesses path.0 n path.2

-- bytes are read, each behind a look at LSR
abbrev pub reads : List (ℕ × ℕ) → List Access
reads [] = []
reads ((line, byte) ∷ others) = Read offsets.LSR line ∷ Read offsets.DATA byte ∷ reads others

-- a visit of the handler: an access, and some more; then bytes are read until a look at LSR shows none; and then others
abbrev pub visit : (first : Access) (front : List Access) (bytes : List (ℕ × ℕ)) (line : ℕ) (back : List Access) →
    List Access
visit first front bytes line back = first ∷ (front ++ (reads bytes ++ Read offsets.LSR line ∷ back))

-- If the first access finds it at most b late, and at most e ticks pass before each other one: the first byte is read
-- in time; then it is no later, since two accesses for a byte take no longer than a character; and what follows begins
-- with nothing waiting, and makes few accesses
pub record IsInTime (t d b e : ℕ) (front back : List Access) : Type 0 where
  pub first : b + (length front + 2) * e ≤ d
  pub bytes : 2 * e ≤ t
  pub others : length back * e ≤ d

-- the access reads a byte; the first of these does
abbrev pub reads_byte : Access → Bool
reads_byte (Read offset value) = offset == offsets.DATA
reads_byte (Write offset value) = false

abbrev pub begins_with_byte : List Access → Bool
begins_with_byte [] = false
begins_with_byte (access ∷ accesses) = reads_byte access

-- how many of these accesses are for no byte: a read of DATA is for one, and so is the access right before it, which is
-- a look at LSR
abbrev pub beside : List Access → ℕ
beside [] = 0
beside (access ∷ accesses) =
    (if reads_byte access || begins_with_byte accesses then 0 else 1) + beside accesses

-- A run of `handle` that makes so many accesses for no byte: the first finds it at most b late, at most e ticks pass
-- before each other one, and the FIFO is read in pieces of so many. A line error may be told before the receiver's
-- interrupt, with a read of ISR and one of LSR. The first byte is read in time; two accesses for a byte take no longer
-- than a character; and so are all accesses in time, if the receiver is empty then, or has given a whole piece, each
-- character of which gave back what its accesses did not take
pub record IsQuickHandle (t d b e size count : ℕ) : Type 0 where
  pub first : b + 4 * e ≤ d
  pub each : 2 * e ≤ t
  pub others : (count + 2) * e ≤ d
  pub more : b + (count + 4) * e ≤ d + size * (t - 2 * e)

-- ---- a call

-- a property of accesses in turn
abbrev pub Accesses : Type 1
Accesses = (l : List Access) (m n : MachineState) → Path MachineStep m l n → Type 0

-- the accesses of a call of the rings have it; `Next` makes none
abbrev pub OfCall : Accesses → (s : RingState) (c : RingCall) (a : RingAnswer) (u : RingState) → RingCallStep s c a u →
    Type 0
OfCall P s (call.Driver c) a u h = ⊥
OfCall P s call.Next a u h = ⊥
OfCall P s other a u h = P h.did.list (ring_machine s) (ring_machine u) h.did.path

-- no access of a call finds it later than d, and then it is this late; so it is with those of a doing of the rings
abbrev pub IsPromptCall : (t d late after : ℕ) (s : RingState) (c : RingCall) (a : RingAnswer) (u : RingState) →
    RingCallStep s c a u → Type 0
IsPromptCall t d late after s call.Next a u h =
    let m = ring_machine s in
    (late_to_mark late m.ahead m.chip ≤ d) × (after ≡ late_to_mark late m.ahead m.chip)
IsPromptCall t d late after s c a u h = OfCall (IsPrompt t d late after) s c a u h

abbrev pub IsPromptDid : (t d late after : ℕ) (s u : RingState) {G : RingDoing} → RingDid MachineStep G s u → Type 0
IsPromptDid t d late after s u did = IsPrompt t d late after did.list (ring_machine s) (ring_machine u) did.path

-- no access of any of these calls finds it later than d, and then it is this late
abbrev pub ArePrompt : (t d late after : ℕ) (s : RingState) (links : List RingLink) (u : RingState) →
    RingChain s links u → Type 0
ArePrompt t d late after s [] u chain = after ≡ late
ArePrompt t d late after s (link ∷ links) u chain =
    (now : ℕ) × IsPromptCall t d late now link.before link.call link.answer link.after chain.1
    × ArePrompt t d now after link.after links u chain.2

-- so many ticks are fewer than the characters take for which the FIFO has room once as many wait as the trigger level,
-- and one more, which is on its way then
abbrev pub IsEarly : (t d : ℕ) → RingState → Type 0
IsEarly t d s = d < (spare s + 1) * t
