-- Sessions in which every call is one of the rings themselves, and none of the driver under them: what they conserve,
-- without the conditions that calls of the driver bring.
use Rattle.std.specs.Prelude.{◌≡◌, ◌⊎◌, ℕ, List, [], ◌∷◌, ◌++◌, map}
use Rattle.uart_chip.specs.Chip.{cut_of}
use Rattle.uart_chip.specs.Conserved.{out, waiting, kept}
use Rattle.uart_run.specs.Chains.{NoneIs}
use Rattle.uart_run.specs.Progress.{IsUnchecked}
use Rattle.uart_run.specs.Ready.{Ready}
use Rattle.uart_run.specs.Session.{overflows}
use Rattle.uart_run.specs.Statuses.{TellsLine, TellsNoOtherDrop, TellsChanges, TellsNoOtherChange}
use Rattle.uart_run.specs.Uncut.{IsUncut, kept_uncut}
use Rattle.uart_run.specs.Wired.{IsWired}
use Rattle.uart_ring_runs.specs.declared.call.RingCall.{RingCall}
use Rattle.uart_ring_runs.specs.declared.call.RingCall.TheVariants as call
use Rattle.uart_ring_runs.specs.declared.call.RingAnswer.{RingAnswer}
use Rattle.uart_ring_runs.specs.RingRun.{RingState, under, ring_machine, RingLink, line_answer, modem_answer}
use Rattle.uart_ring_runs.specs.RingBytes.{to_send, to_take, queued, taken, gone, AllKeepOrder}
use Rattle.uart_ring_runs.specs.RingArmed.{IsRingArmed, RearmsRing}
use Rattle.uart_ring_runs.specs.RingSession.{AllSendInLine}

-- ---- what `take_line` and `take_modem` report

-- if the calls end with c, and no call before it is c, this holds of what the last one returned
abbrev pub OwnTellsAtEnd : RingCall → (ℕ → RingAnswer) → List RingLink → (ℕ → Type 0) → Type 0
OwnTellsAtEnd c answer_of links Told =
    (some : List RingLink) (last : RingLink) (value : ℕ) → links ≡ some ++ last ∷ [] → NoneIs c some →
    last.call ≡ c → last.answer ≡ answer_of value → Told value

-- if they also begin with c, this holds of what the last one returned, and of the state after the first
abbrev pub OwnTellsSinceFirst : RingCall → (ℕ → RingAnswer) → List RingLink → (RingState → ℕ → Type 0) → Type 0
OwnTellsSinceFirst c answer_of links Told =
    (first : RingLink) (some : List RingLink) (last : RingLink) (value : ℕ) → links ≡ first ∷ (some ++ last ∷ []) →
    NoneIs c some → first.call ≡ c → last.call ≡ c → last.answer ≡ answer_of value → Told first.after value

-- in a session that ends with a `take_line` or a `take_modem`: what that call reports, since the start of the session,
-- as `TellsLine` and `TellsChanges` say it of an `lsr` and an `msr`; and if the session also begins with one, since
-- that one, and nothing else
pub record OwnTells (s : RingState) (links : List RingLink) (t : RingState) : Type 0 where
  pub line : OwnTellsAtEnd call.TakeLine line_answer links (TellsLine (under s) (under t))
  pub only_drops :
      OwnTellsSinceFirst call.TakeLine line_answer links (λ first. TellsNoOtherDrop (under first) (under t))
  pub changes : OwnTellsAtEnd call.TakeModem modem_answer links (TellsChanges (under s) (under t))
  pub only_changes :
      OwnTellsSinceFirst call.TakeModem modem_answer links (λ first. TellsNoOtherChange (under first) (under t))

-- ---- that an interrupt is to come

-- a call that finds the rings armed, or that arms them in any case, leaves them armed
abbrev pub OwnLeavesArmed : RingLink → Type 0
OwnLeavesArmed link = IsRingArmed link.before ⊎ RearmsRing link.call link.answer → IsRingArmed link.after

-- each of these calls leaves the rings armed in this way
abbrev pub AllOwnLeaveArmed : List RingLink → Type 0
AllOwnLeaveArmed [] = Unit {0}
AllOwnLeaveArmed (link ∷ links) = OwnLeavesArmed link × AllOwnLeaveArmed links

-- ---- the session

-- what has been sent or is in the transmitter, and then what waits, grew by what was queued, if no call overtakes or
-- drops; what was taken or dropped, then the receive ring, then what is in the receiver, is what was in the receive
-- ring and what was kept since
pub record OwnBytesUncut (s : RingState) (links : List RingLink) (t : RingState) : Type 0 where
  pub sent : AllKeepOrder links →
      out (ring_machine t) ++ to_send t ≡ out (ring_machine s) ++ (to_send s ++ queued links)
  pub kept : gone links ++ (to_take t ++ waiting (ring_machine t)) ≡
      to_take s ++ kept_uncut (ring_machine s) (ring_machine t)

-- what a session of calls of the rings themselves does: the bytes that were queued, with characters cut, are conserved,
-- and those that arrived; no data write met a full transmitter; a `take_line` or `take_modem` at the end reports drops,
-- line errors and changes; and there are never bytes that may be sent with no interrupt to come
pub record OwnConserves (s : RingState) (links : List RingLink) (t : RingState) : Type 0 where
  pub ready : Ready (under t)
  -- a wired machine stays wired
  pub wired : IsWired (under s) → IsWired (under t)
  -- the wire and the transmitter, and then what waits to be sent, grew by what was queued, in order
  pub sent : AllKeepOrder links → let cut = map (cut_of (ring_machine s).chip) in
      out (ring_machine t) ++ cut (to_send t) ≡ out (ring_machine s) ++ (cut (to_send s) ++ cut (queued links))
  pub in_line : AllSendInLine links
  -- no data write met a full transmitter
  pub no_overflow : overflows (under t) ≡ overflows (under s)
  -- all that left the receive ring was taken
  pub all_taken : NoneIs call.ClearReceive links → gone links ≡ taken links
  -- what was taken or cleared, then the receive ring, then what waits in the chip, is what was there and what arrived,
  -- in order, less what was dropped
  pub kept : gone links ++ (to_take t ++ waiting (ring_machine t)) ≡
      to_take s ++ kept (ring_machine s) (ring_machine t)
  -- a chip that cuts no characters does so with whole bytes
  pub uncut : IsUncut (under s) → OwnBytesUncut s links t
  pub tells : OwnTells s links t
  -- each call leaves an interrupt to come while bytes wait that may be sent, if CTS is not checked
  pub armed : IsUnchecked (under s) → AllOwnLeaveArmed links
