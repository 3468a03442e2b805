-- What has to come from outside before `try_handle` counts a round over a chip that works.
use Rattle.std.specs.Prelude.{◌≤◌, ◌+◌, ℕ, List, [], ◌∷◌, length}
use Rattle.uart_events.specs.declared.event.Event.{Event}
use Rattle.uart_events.specs.declared.event.Event.TheVariants.{Arrive, Lines}
use Rattle.uart_chip.specs.Conserved.{between}
use Rattle.uart_ring.specs.Ring.{ring_fields}
use Rattle.uart_ring_runs.specs.RingRun.{RingState, ring_machine}

-- how many of these events may bring an interrupt again that was served: characters that arrive, and changes of the
-- modem's inputs
abbrev pub news : List Event → ℕ
news [] = 0
news (Arrive byte errors ∷ events) = 1 + news events
news (Lines inputs ∷ events) = 1 + news events
news (_ ∷ events) = news events

-- how many came from the first state to the second
abbrev pub news_between : RingState → RingState → ℕ
news_between s t = news (between (ring_machine s) (ring_machine t))

-- how many interrupts a chip may show without news and without a byte that moves: a line error, data that has no place
-- in the receive ring, that the transmitter's queue becomes empty, that it has become so, and a change of the modem
-- lines
abbrev pub most_without_news : ℕ
most_without_news = 5

-- the receive ring holds no more than it has room for
abbrev pub IsInRoom : RingState → Type 0
IsInRoom s = length (ring_fields s).receive.items ≤ (ring_fields s).receive.capacity
