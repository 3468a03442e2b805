-- Sessions of ring calls, and what holds in each.
use Rattle.std.specs.Prelude.{◌≡◌, List, [], ◌∷◌, ◌++◌, map}
use Rattle.uart_run.specs.Chains.{NoneIs}
use Rattle.uart_ring_runs.specs.declared.call.RingCall.TheVariants as call
use Rattle.uart_chip.specs.Chip.{cut_of}
use Rattle.uart_chip.specs.Conserved.{out, waiting, kept}
use Rattle.uart_run.specs.Chains.{EachLink, RunOf}
use Rattle.uart_run.specs.Ready.{Ready}
use Rattle.uart_run.specs.Session.{IsWithinSession, overflows}
use Rattle.uart_run.specs.Progress.{IsUnchecked}
use Rattle.uart_run.specs.Uncut.{IsUncut, kept_uncut}
use Rattle.uart_run.specs.Wired.{IsWired}
use Rattle.uart_ring_runs.specs.declared.call.RingCall.{RingCall}
use Rattle.uart_ring_runs.specs.declared.call.RingAnswer.{RingAnswer}
use Rattle.uart_ring_runs.specs.RingRun.{RingState, under, ring_machine, RingCallStep, RingLink, RingChain}
use Rattle.uart_ring_runs.specs.RingBytes.{to_send, to_take, queued, taken, gone, to_send_with, AllKeepOrder}
use Rattle.uart_ring_runs.specs.RingBytes.{AllTakeInTurn}
use Rattle.uart_ring_runs.specs.RingFollows.{RingFollows}
use Rattle.uart_ring_runs.specs.RingStatuses.{RingTells}
use Rattle.uart_ring_runs.specs.RingArmed.{AllLeaveRingArmed}

-- the call goes on with a session that began in this state: it may write MCR if the machine was wired, so that no modem
-- line changes by that, and a call of the driver goes on as in a session without rings; each of these does
abbrev pub IsWithinRingSession : RingState → RingCall → Type 0
IsWithinRingSession s (call.AdjustRts marks) = IsWired (under s)
IsWithinRingSession s (call.Driver c) = IsWithinSession (under s) c
IsWithinRingSession s other = Unit {0}

-- each call goes on with a session that began in this state
abbrev pub AllWithinRingSession : RingState → List RingLink → Type 0
AllWithinRingSession s [] = Unit {0}
AllWithinRingSession s (link ∷ links) = IsWithinRingSession s link.call × AllWithinRingSession s links

-- a session of ring calls: it begins in a ready state, and each call goes on with it
abbrev pub IsRingSession : RingState → List RingLink → Type 0
IsRingSession s links = Ready (under s) × AllWithinRingSession s links

-- what has been sent or is in the transmitter, and then what waits, grew by what was queued, if no call overtakes or
-- drops; what was taken or dropped, then the receive ring, then what is in the receiver, is what was in the receive
-- ring and what was kept since, if no call of the driver received past bytes in that ring
pub record ConservesBytesUncut (s : RingState) (links : List RingLink) (t : RingState) : Type 0 where
  pub sent : AllKeepOrder links →
      out (ring_machine t) ++ to_send t ≡ out (ring_machine s) ++ (to_send s ++ queued links)
  pub kept : AllTakeInTurn links → gone links ++ (to_take t ++ waiting (ring_machine t)) ≡
      to_take s ++ kept_uncut (ring_machine s) (ring_machine t)

-- a call: what has been sent or is in the transmitter, and then what waits, is what was there, as the call changes what
-- waits: an urgent byte overtakes all of it, and so does what a call of the driver sends; what is dropped is at its
-- end, and what is queued comes last
abbrev pub SendsInLine : RingLink → Type 0
SendsInLine link =
    let cut = map (cut_of (ring_machine link.before).chip) in
    out (ring_machine link.after) ++ cut (to_send link.after) ≡
    out (ring_machine link.before) ++ cut (to_send_with link.call link.answer (to_send link.before))

-- each of these calls sends what waits in its order: only an urgent byte and what a call of the driver sends overtake
abbrev pub AllSendInLine : List RingLink → Type 0
AllSendInLine [] = Unit {0}
AllSendInLine (link ∷ links) = SendsInLine link × AllSendInLine links

-- what a session of ring calls does: the bytes that were queued, with characters cut, are conserved, and those that
-- arrived; no data write met a full transmitter; a `take_line` or `take_modem` at the end reports drops, line errors
-- and changes; and there are never bytes that may be sent with no interrupt to come
pub record RingConserves (s : RingState) (links : List RingLink) (t : RingState) : Type 0 where
  pub ready : Ready (under t)
  -- a wired machine stays wired
  pub wired : IsWired (under s) → IsWired (under t)
  -- the wire and the transmitter, and then what waits to be sent, grew by what was queued, in order; a call that drops
  -- bytes says how many
  pub sent : AllKeepOrder links → let cut = map (cut_of (ring_machine s).chip) in
      out (ring_machine t) ++ cut (to_send t) ≡ out (ring_machine s) ++ (cut (to_send s) ++ cut (queued links))
  pub in_line : AllSendInLine links
  -- no data write met a full transmitter
  pub no_overflow : overflows (under t) ≡ overflows (under s)
  -- all that left the receive ring was taken
  pub all_taken : NoneIs call.ClearReceive links → gone links ≡ taken links
  -- what was taken or cleared, then the receive ring, then what waits in the chip, is what was there and what arrived,
  -- in order, less what was dropped
  pub kept : AllTakeInTurn links → gone links ++ (to_take t ++ waiting (ring_machine t)) ≡
      to_take s ++ kept (ring_machine s) (ring_machine t)
  -- a chip that cuts no characters does so with whole bytes
  pub uncut : IsUncut (under s) → ConservesBytesUncut s links t
  pub tells : RingTells s links t
  -- each call that finds the rings armed leaves them so: while bytes wait that may be sent, an interrupt is to come.
  -- Where the chip controls the flow, it comes once CTS lets the transmitter go on
  pub armed : IsUnchecked (under s) → AllLeaveRingArmed links

-- each of these calls does what is said of a call by itself
abbrev pub AllRingFollow : List RingLink → Type 0
AllRingFollow = EachLink RingFollows

-- these calls, with these answers, lead from s to t; each does what is said of it alone; and each session in them
-- conserves: of ring calls, only those of the driver end one
pub record RanRing (s : RingState) (calls : List RingCall) (answers : List RingAnswer) (t : RingState) : Type 0 where
  pub run : RunOf RingCallStep s calls answers t
  pub follows : AllRingFollow run.links
  -- each session among the calls conserves
  pub sessions : (front session rest : List RingLink) (a b : RingState) →
      -- these calls are a part of the run
      run.links ≡ front ++ (session ++ rest) →
      RingChain s front a → RingChain a session b → RingChain b rest t → IsRingSession a session →
      RingConserves a session b
