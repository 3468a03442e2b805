-- The bytes that ring calls accept and return, and those that the rings hold.
use Rattle.std.specs.Prelude.{◌≡◌, ◌⊎◌, ⊤, ℕ, List, [], ◌∷◌, ◌++◌, take, flat_map, option_to_list}
use Rattle.std.specs.List.{AllByRecursion}
use Rattle.uart_call.specs.declared.call.Call.{Call}
use Rattle.uart_call.specs.declared.call.Call.TheVariants as driver
use Rattle.uart_run.specs.Reported.{reported_by, received_by}
use Rattle.uart_ring.specs.Ring.{ring_fields, waiting}
use Rattle.uart_ring.specs.Lossless.{with_accepted, overtaken_by, without_dropped}
use Rattle.uart_ring_runs.specs.declared.call.RingCall.{RingCall}
use Rattle.uart_ring_runs.specs.declared.call.RingCall.TheVariants as call
use Rattle.uart_ring_runs.specs.declared.call.RingAnswer.{RingAnswer}
use Rattle.uart_ring_runs.specs.declared.call.RingAnswer.TheVariants as answer
use Rattle.uart_ring_runs.specs.RingRun.{RingState, RingLink}

-- the bytes that wait to be sent, which are an urgent one and then the transmit ring; those in the receive ring
abbrev pub to_send : RingState → List ℕ
to_send s = waiting (ring_fields s)

abbrev pub to_take : RingState → List ℕ
to_take s = (ring_fields s).receive.items

-- the bytes that a call accepted into the transmit ring
abbrev pub queued_by : RingCall → RingAnswer → List ℕ
queued_by (call.Queue bytes) (answer.Count count) = take count bytes.items
queued_by other a = []

-- the bytes that a call returned
abbrev pub taken_by : RingCall → RingAnswer → List ℕ
taken_by (call.Take slots) (answer.Bytes bytes) = bytes.items
taken_by (call.Driver c) (answer.Driver a) = received_by c a
taken_by other a = []

-- what a call makes of the bytes that wait, before it sends any: an urgent byte overtakes them, and so does what the
-- other end is told, and what a call of the driver sends; those that are dropped are the last ones, and those that are
-- accepted come last
abbrev pub to_send_with : RingCall → RingAnswer → List ℕ → List ℕ
to_send_with (call.QueueUrgent byte) (answer.Replaced replaced) bytes = overtaken_by byte replaced bytes
to_send_with (call.AdjustXoff marks) (answer.Told told) bytes = option_to_list told ++ bytes
to_send_with call.ClearTransmit (answer.Count count) bytes = without_dropped count bytes
to_send_with (call.Driver c) (answer.Driver a) bytes = reported_by c a ++ bytes
to_send_with other a bytes = with_accepted (queued_by other a) bytes

-- the call of the driver is none that sends; none that receives
abbrev pub SendsNothing : Call → Type 0
SendsNothing (driver.TrySend byte) = ⊥
SendsNothing (driver.Send bytes) = ⊥
SendsNothing (driver.SendExact bytes) = ⊥
SendsNothing (driver.Write bytes) = ⊥
SendsNothing (driver.Text text) = ⊥
SendsNothing other = ⊤

abbrev pub ReceivesNothing : Call → Type 0
ReceivesNothing driver.TryReceive = ⊥
ReceivesNothing (driver.Receive slots) = ⊥
ReceivesNothing (driver.ReceiveExact slots) = ⊥
ReceivesNothing (driver.ReceiveWithErrors slots) = ⊥
ReceivesNothing (driver.Read slots) = ⊥
ReceivesNothing other = ⊤

-- the call overtakes and drops no byte that waits to be sent; nor does any of these
abbrev pub KeepsOrder : RingCall → Type 0
KeepsOrder (call.QueueUrgent byte) = ⊥
KeepsOrder call.ClearTransmit = ⊥
KeepsOrder (call.AdjustXoff marks) = ⊥
KeepsOrder (call.Driver c) = SendsNothing c
KeepsOrder other = ⊤

-- no call overtakes and none drops a byte that waits to be sent
abbrev pub AllKeepOrder : List RingLink → Type 0
AllKeepOrder [] = Unit {0}
AllKeepOrder (link ∷ links) = KeepsOrder link.call × AllKeepOrder links

-- the bytes that left the receive ring in a call: those that it returned; or, if it clears the ring, all that were
-- there, which it dropped
abbrev pub gone_in : RingCall → RingAnswer → (there : List ℕ) → List ℕ
gone_in call.ClearReceive a there = there
gone_in other a there = taken_by other a

-- a call of the driver that receives passes the receive ring by. So what it received is in turn if the ring is empty
abbrev pub TakesInTurn : RingCall → (there : List ℕ) → Type 0
TakesInTurn (call.Driver c) there = ReceivesNothing c ⊎ (there ≡ [])
TakesInTurn other there = ⊤

-- no call of the driver receives past bytes in the receive ring
abbrev pub AllTakeInTurn : List RingLink → Type 0
AllTakeInTurn links = AllByRecursion (λ link. TakesInTurn link.call (to_take link.before)) links

abbrev pub gone_by : RingLink → List ℕ
gone_by link = gone_in link.call link.answer (to_take link.before)

-- the bytes that ring calls in turn queued, those that they took, and those that left the receive ring
abbrev pub queued : List RingLink → List ℕ
queued links = flat_map (λ link. queued_by link.call link.answer) links

abbrev pub taken : List RingLink → List ℕ
taken links = flat_map (λ link. taken_by link.call link.answer) links

abbrev pub gone : List RingLink → List ℕ
gone links = flat_map gone_by links
