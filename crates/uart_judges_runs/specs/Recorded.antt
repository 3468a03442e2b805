-- What the judge finds at the entries of a recording, one after the other.
use Rattle.std.specs.Prelude.{◌≡◌, ℕ, Bool, true, false, List, [], ◌∷◌, ◌++◌, Option, Some, None}
use Rattle.uart_spec.specs.declared.access.Access.{Access as RegisterAccess}
use Rattle.uart_judges.specs.Findings.{findings_at}
use Rattle.uart_judges_runs.specs.Told.{of_fifos}
use Rattle.uart_judges.specs.declared.audit.finding.Finding.{Finding}
use Rattle.uart_judges.specs.declared.audit.finding.Finding.TheVariants as found
use Rattle.uart_judges.specs.declared.recording.entry.Entry.{Entry}
use Rattle.uart_judges.specs.declared.recording.entry.Happening.{Happening}
use Rattle.uart_judges.specs.declared.recording.entry.Happening.TheVariants.{Access}

-- the accesses of these entries, in order; arrivals, modem inputs and levels are none
abbrev pub access_in : Happening → List RegisterAccess
access_in (Access access) = access ∷ []
access_in _ = []

abbrev pub accesses_in : List Entry → List RegisterAccess
accesses_in [] = []
accesses_in (entry ∷ entries) = access_in entry.happening ++ accesses_in entries

-- these accesses are those of these entries, in order
abbrev pub AreRecorded : List RegisterAccess → List Entry → Type 0
AreRecorded accesses entries = accesses_in entries ≡ accesses

-- a finding that is about how a call is made, and not about which calls are made, or when: bytes beyond the room; bytes
-- into the divisor; bytes in loopback that are not read back; a read of DATA with no byte, without a look at LSR, or of
-- the divisor; a value of IER into the divisor; half a divisor, or another one while bytes go out; and FIFOs that are
-- emptied with bytes in them
abbrev pub is_of_calls : Finding → Bool
is_of_calls (found.SentBeyondRoom sent room) = true
is_of_calls (found.SentIntoLatch byte) = true
is_of_calls (found.SentInLoopback byte) = true
is_of_calls found.ReceivedFromEmpty = true
is_of_calls found.ReceivedWithoutLook = true
is_of_calls found.ErrorsNotRead = true
is_of_calls found.ReceivedFromLatch = true
is_of_calls (found.InterruptsIntoLatch value) = true
is_of_calls found.HighByteNotSet = true
is_of_calls found.DivisorChangedWhileSending = true
is_of_calls found.ResetWhileSending = true
is_of_calls found.WaitingDiscarded = true
is_of_calls _ = false

-- there is one, and it is such a finding
abbrev pub some_such : (Finding → Bool) → Option Finding → Bool
some_such is_such None = false
some_such is_such (Some finding) = is_such finding

-- the judge, which was told that the FIFOs have room for so many bytes, tells such a finding
abbrev pub told : (space : ℕ) → (Finding → Bool) → Finding → Bool
told space is_such finding = some_such is_such (of_fifos space finding)

-- none of these is such a finding
abbrev pub IsNot : (Finding → Bool) → Option Finding → Type 0
IsNot is_such None = Unit {0}
IsNot is_such (Some finding) = is_such finding ≡ false

abbrev pub NoneIs : (Finding → Bool) → List (Option Finding) → Type 0
NoneIs is_such [] = Unit {0}
NoneIs is_such (finding ∷ findings) = IsNot is_such finding × NoneIs is_such findings

-- at none of these entries, behind those of the past, there is such a finding. The past has the latest entry first
abbrev pub HasNone : (Finding → Bool) → (past entries : List Entry) → Type 0
HasNone is_such past [] = Unit {0}
HasNone is_such past (entry ∷ entries) =
    NoneIs is_such (findings_at entry past) × HasNone is_such (entry ∷ past) entries

-- all of them, the latest first
abbrev pub behind : (past entries : List Entry) → List Entry
behind past [] = past
behind past (entry ∷ entries) = behind (entry ∷ past) entries
