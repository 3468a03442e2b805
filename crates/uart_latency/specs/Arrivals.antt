-- How late the handler may be without flow control, in characters: how many may arrive while its interrupt waits.
use Rattle.std.specs.Prelude.{◌≡◌, ◌≤◌, ℕ, ◌+◌, ◌-◌, Bool, true, not, List, [], ◌∷◌, ◌++◌, length, map}
use Rattle.std.specs.Prelude.{if◌then◌else◌}
use Rattle.uart_spec.specs.FifoSize.{characters}
use Rattle.uart_chip.specs.Conserved.{IsDrop, waiting, entered}
use Rattle.uart_chip.specs.Receiver.{ReceiverState, characters_of, is_data_pending}
use Rattle.uart_ring_runs.specs.RingRun.{RingState, RingLink, ring_machine}
use Rattle.uart_ring_runs.specs.RingBytes.{to_take, gone}

-- the receiver of a state
abbrev pub receiver_of : RingState → ReceiverState
receiver_of s = (ring_machine s).chip.receiver

-- how many characters wait in it; how many wait when its interrupt comes, which is the trigger level; how many more its
-- FIFO takes then
abbrev pub waits : RingState → ℕ
waits s = length (receiver_of s).queue

abbrev pub level : RingState → ℕ
level s = characters_of (receiver_of s).size (receiver_of s).trigger

abbrev pub spare : RingState → ℕ
spare s = characters (receiver_of s).size - level s

-- fewer characters wait than the trigger level
abbrev pub is_below_level : RingState → Bool
is_below_level s = not (is_data_pending (ring_machine s).chip.fifo (receiver_of s))

-- how many characters arrive in a call, a `Next` among them
abbrev pub arrived_in : RingLink → ℕ
arrived_in link = (receiver_of link.after).arrived - (receiver_of link.before).arrived

-- how many have arrived after a call since as many waited as the trigger level, if `since` had before it. If fewer
-- waited then, the first that arrive make up the level, and the others count
abbrev pub since_level : (since : ℕ) → RingLink → ℕ
since_level since link =
    if is_below_level link.before
    then waits link.before + arrived_in link - level link.before
    else since + arrived_in link

-- From the moment at which as many characters wait as the trigger level, to the end of the call that leaves fewer,
-- which is the handler's visit: never do more arrive than the FIFO still takes. So many have before these calls
abbrev pub AllInTime : (since : ℕ) → List RingLink → Type 0
AllInTime since [] = Unit {0}
AllInTime since (link ∷ links) =
    let now = since_level since link in (now ≤ spare link.before) × AllInTime now links

-- what was taken or cleared, then the receive ring, and then the receiver: what was there, and all that arrived
abbrev pub KeepsAll : RingState → List RingLink → RingState → Type 0
KeepsAll s links t =
    gone links ++ (to_take t ++ waiting (ring_machine t)) ≡
    to_take s ++ map (λ character. character.byte) (entered (ring_machine s) (ring_machine t))

-- no character is dropped, so all that arrived is kept
pub record DropsNothing (s : RingState) (links : List RingLink) (t : RingState) : Type 0 where
  pub drops_nothing : IsDrop (ring_machine s) (ring_machine t) → ⊥
  pub keeps_all : KeepsAll s links t
