-- A chip that shows interrupts for ever: it is stuck, and its interrupts are off until a restart.
use Rattle.std.specs.Prelude.{◌≡◌, ◌==◌, ◌<◌, ◌≤◌, ◌⊎◌, ◌&&◌, ◌||◌, ℕ, suc, nat_lt, Bool, true, false, not, MatchBool}
use Rattle.std.specs.Prelude.{Option, Some, None, MatchOption, length, max}
use Rattle.std.specs.Option.{is_some}
use Rattle.std.specs.Prelude.{Result, Ok, Err, List, [], ◌∷◌, ◌++◌, if◌then◌else◌}
use Rattle.bitflags.specs.Sets.{without}
use Rattle.uart_spec.specs.declared.access.Access.{Access}
use Rattle.uart_spec.specs.declared.access.Access.TheVariants.{Read, Write}
use Rattle.uart_spec.specs.Bits.{has, IsOnlyIfAny}
use Rattle.uart_spec.specs.Fields.{Identifies}
use Rattle.uart_spec.specs.declared.registers.interrupt_enable.TheConstants.IER
use Rattle.uart_spec.specs.declared.registers.interrupt_status.TheConstants.ISR
use Rattle.uart_spec.specs.declared.registers.offsets.TheConstants as offsets
use Rattle.uart_16550.specs.Grammar.{Only}
use Rattle.uart_16550.specs.Driver.{Doing, Saving}
use Rattle.uart_16550.specs.Status.{Enables, Disables}
use Rattle.uart_ring.specs.declared.ring.service.HandleEnd.{HandleEnd}
use Rattle.uart_ring.specs.declared.ring.service.HandleEnd.TheVariants.{Idle, Unknown, Limit}
use Rattle.uart_ring.specs.declared.ring.service.Handled.{Handled}
use Rattle.uart_ring.specs.declared.ring.storm.StuckError.{StuckError}
use Rattle.uart_ring.specs.declared.ring.storm.StuckError.TheVariants as stuck
use Rattle.uart_ring.specs.Ring.{RingFields, RingDoing, OnDriver, RingNext, RingSets, unchanged, with_rounds}
use Rattle.uart_ring.specs.Ring.{with_stuck, restarted}
use Rattle.uart_ring.specs.Transmit.{ResumesTransmit}
use Rattle.uart_ring.specs.Service.{ShowsNone}
use Rattle.uart_ring.specs.Handle.{Handles}

-- all interrupts are disabled: IER is read, and written with none of its bits
abbrev pub every_bit : ℕ
every_bit = 255

abbrev pub TurnsOff : Doing
TurnsOff = Disables every_bit

-- why a chip is stuck, as ISR shows it: it shows an interrupt without a name, or this one
abbrev pub ShowsReason : StuckError → ℕ → Type 0
ShowsReason (stuck.Unknown register) isr =
    (register.0 ≡ isr) × IsOnlyIfAny (Identifies isr) None × (has isr ISR.INTERRUPT_STATUS.0 ≡ false)
ShowsReason (stuck.Pending interrupt) isr = IsOnlyIfAny (Identifies isr) (Some interrupt)

-- this is why, or no interrupt is pending
abbrev pub ShowsIfStuck : Option StuckError → ℕ → Type 0
ShowsIfStuck None isr = IsOnlyIfAny (Identifies isr) None × (has isr ISR.INTERRUPT_STATUS.0 ≡ true)
ShowsIfStuck (Some error) isr = ShowsReason error isr

-- one read of ISR, which shows why
abbrev pub ShowsStuck : StuckError → Doing
ShowsStuck error f l after =
    (isr : ℕ) × ShowsReason error isr × Saving (Only (Read offsets.ISR isr ∷ [])) f l after

-- ISR is read once more. If no interrupt is pending now, the chip is not stuck, and the count of rounds begins again;
-- else all interrupts are disabled
abbrev pub LooksOnceMore : Option StuckError → RingDoing
LooksOnceMore None = OnDriver (ShowsNone true) (with_rounds 0)
LooksOnceMore (Some error) =
    RingNext (OnDriver (ShowsStuck error) unchanged) (OnDriver TurnsOff (with_stuck error))

-- a round was left unfinished. It is counted, if there may be more in a row
abbrev pub CountsUnfinished : (rounds : ℕ) → Option StuckError → RingDoing
CountsUnfinished rounds found f l after = MatchBool (nat_lt (suc f.rounds) rounds)
    ((found ≡ None) × RingSets (with_rounds (suc f.rounds)) f l after)
    (LooksOnceMore found f l after)

-- how a round ended: if no interrupt is pending, the count of rounds begins again
abbrev pub CountsRound : (rounds : ℕ) → HandleEnd → Option StuckError → RingDoing
CountsRound rounds Idle found f l after = (found ≡ None) × RingSets (with_rounds 0) f l after
CountsRound rounds Unknown found f l after = CountsUnfinished rounds found f l after
CountsRound rounds Limit found f l after = CountsUnfinished rounds found f l after

-- a byte moved between the rings and the chip: other numbers of bytes are in them than these, or the urgent byte went
abbrev pub has_moved_since : (transmit : ℕ) → (is_urgent : Bool) → (receive : ℕ) → RingFields → Bool
has_moved_since transmit is_urgent receive f =
    not (length f.transmit.items == transmit) || (is_urgent && not (is_some f.urgent))
    || not (length f.receive.items == receive)

abbrev pub has_moved : (before after : RingFields) → Bool
has_moved f after = has_moved_since (length f.transmit.items) (is_some f.urgent) (length f.receive.items) after

-- how a round counts: one in which a byte moved as one that ended with no interrupt pending
abbrev pub counts_as : (moved : Bool) → HandleEnd → HandleEnd
counts_as true end = Idle
counts_as false end = end

abbrev pub CountsSince : (rounds : ℕ) → (before : RingFields) → HandleEnd → Option StuckError → RingDoing
CountsSince rounds before end found f l after = CountsRound rounds (counts_as (has_moved before f) end) found f l after

-- what was handled, unless the chip was found stuck
abbrev pub unless_stuck : Handled → Option StuckError → Result Handled StuckError
unless_stuck handled None = Ok handled
unless_stuck handled (Some error) = Err error

-- a `handle`, and its round is counted
abbrev pub HandlesRound : (limit rounds : ℕ) → Result Handled StuckError → RingDoing
HandlesRound limit rounds result f l after =
    (handled : Handled) × (found : Option StuckError) × (result ≡ unless_stuck handled found)
    × RingNext (Handles limit handled) (CountsSince rounds f handled.end found) f l after

-- while the chip is stuck, all interrupts are disabled again
abbrev pub StaysStuck : Result Handled StuckError → StuckError → RingDoing
StaysStuck result error f l after = (result ≡ Err error) × OnDriver TurnsOff unchanged f l after

-- A round of few interrupts is left unfinished also by a chip that works: one of a single interrupt never ends with no
-- interrupt pending. A working chip shows at most five in a row without a byte that moves and without news from
-- outside, so a round of six tells it from one that is stuck.

-- how many interrupts a round serves at most: as many as the caller allows, and at least six
abbrev pub round_limit : (limit : ℕ) → ℕ
round_limit limit = max limit 6

-- `try_handle`: a `handle`, whose round is counted, and after which the chip may be found stuck; or, if the chip is
-- stuck already, all interrupts are disabled again. The error is why it is stuck
abbrev pub TriesToHandle : (limit rounds : ℕ) → Result Handled StuckError → RingDoing
TriesToHandle limit rounds result f l after = MatchOption f.stuck
    (HandlesRound (round_limit limit) rounds result f l after)
    (λ error. StaysStuck result error f l after)

-- these interrupts, without DATA_READY while receiving is paused
abbrev pub not_paused : Bool → ℕ → ℕ
not_paused paused bits = if paused then without 8 bits IER.DATA_READY.0 else bits

-- `restart`: these interrupts are enabled, without DATA_READY while receiving is paused; the chip is not stuck any
-- more, and sending resumes
abbrev pub Restarts : ℕ → RingDoing
Restarts bits f l after =
    RingNext (OnDriver (Enables (not_paused f.is_paused bits)) restarted) ResumesTransmit f l after

-- ---- what ends a storm

-- this is the last of these accesses
abbrev pub EndsWith : Access → List Access → Type 0
EndsWith access l = (front : List Access) × (l ≡ front ++ access ∷ [])

-- IER is 0 in the end, and the chip is stuck for this reason
abbrev pub LeavesOff : StuckError → RingDoing
LeavesOff error f l after = EndsWith (Write offsets.IER 0) l × (after.stuck ≡ Some error)

-- if the chip was not stuck before, no byte moved, and this was the last of so many rounds in a row
abbrev pub IsLastStill : (rounds : ℕ) → RingDoing
IsLastStill rounds f l after = f.stuck ≡ None → (has_moved f after ≡ false) × (rounds ≤ suc f.rounds)

-- one more round in a row was left unfinished in which no byte moved, and more are allowed; or the count begins again:
-- a byte moved, or the last access read ISR, which showed that no interrupt is pending
abbrev pub CountsOrIsIdle : (rounds : ℕ) → RingDoing
CountsOrIsIdle rounds f l after =
    ((after.rounds ≡ suc f.rounds) × (suc f.rounds < rounds) × (has_moved f after ≡ false))
    ⊎ ((has_moved f after ≡ true) × (after.rounds ≡ 0))
    ⊎ ((isr : ℕ) × (has isr ISR.INTERRUPT_STATUS.0 ≡ true) × EndsWith (Read offsets.ISR isr) l × (after.rounds ≡ 0))
