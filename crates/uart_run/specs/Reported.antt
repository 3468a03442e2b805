-- What a call reported as sent, and what it received, by its answer.
use Rattle.std.specs.Prelude.{ℕ, List, [], ◌∷◌, ◌++◌, map, take}
use Rattle.uart_16550.specs.Expansion.{expansion}
use Rattle.uart_spec.specs.declared.received.Received.{Received}
use Rattle.uart_call.specs.declared.call.Call.{Call}
use Rattle.uart_call.specs.declared.call.Call.TheVariants as call
use Rattle.uart_call.specs.declared.call.Answer.{Answer}
use Rattle.uart_call.specs.declared.call.Answer.TheVariants as answer
use Rattle.uart_run.specs.Run.{Link}

-- the count of an answer, or of a stall
abbrev pub count_of : Answer → ℕ
count_of (answer.Count count) = count
count_of other = 0

-- those of these bytes that were sent according to the answer
abbrev pub sent_of : List ℕ → Answer → List ℕ
sent_of bytes answer.Done = bytes
sent_of bytes (answer.Stalled done) = take done bytes
sent_of bytes other = []

abbrev pub sent_byte_of : ℕ → Answer → List ℕ
sent_byte_of byte answer.Done = byte ∷ []
sent_byte_of byte other = []

-- the bytes that a call reported as sent
abbrev pub reported_by : Call → Answer → List ℕ
reported_by (call.TrySend byte) a = sent_byte_of byte a
reported_by (call.Send bytes) a = take (count_of a) bytes.items
reported_by (call.Write bytes) a = take (count_of a) bytes.items
reported_by (call.SendExact bytes) a = sent_of bytes.items a
reported_by (call.Text text) a = sent_of (expansion text.bytes) a
reported_by other a = []

-- the bytes of these, without their errors
abbrev pub only_bytes : List Received → List ℕ
only_bytes items = map (λ received. received.byte) items

-- the byte, and the bytes, of an answer
abbrev pub byte_of : Answer → List ℕ
byte_of (answer.Register byte) = byte ∷ []
byte_of other = []

abbrev pub bytes_of : Answer → List ℕ
bytes_of (answer.Bytes bytes) = bytes.items
bytes_of (answer.BytesWithErrors received) = only_bytes received.items
bytes_of (answer.ReceiveStalled bytes) = bytes.items
bytes_of other = []

-- the bytes that a call received
abbrev pub received_by : Call → Answer → List ℕ
received_by call.TryReceive a = byte_of a
received_by (call.Receive slots) a = bytes_of a
received_by (call.ReceiveExact slots) a = bytes_of a
received_by (call.ReceiveWithErrors slots) a = bytes_of a
received_by (call.Read slots) a = bytes_of a
received_by other a = []

-- the bytes that calls in turn reported as sent, and those that they received
abbrev pub reported : List Link → List ℕ
reported [] = []
reported (link ∷ links) = reported_by link.call link.answer ++ reported links

abbrev pub received : List Link → List ℕ
received [] = []
received (link ∷ links) = received_by link.call link.answer ++ received links
