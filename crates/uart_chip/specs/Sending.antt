-- A byte that goes onto the wire at once, as after a write of DATA and two ticks if a character takes one.
use Rattle.std.specs.Prelude.{ℕ, Bool, true, not, ◌&&◌, ◌==◌, [], ◌∷◌, ◌++◌, length, is_some, nat_lt}
use Rattle.uart_chip.specs.Transmitter.{TransmitterState}
use Rattle.uart_chip.specs.Chip.{ChipState, cut_of, is_dlab_set, is_loopback, is_held_off}

-- a transmitter that holds nothing, and whose wire has room
abbrev pub is_ready : TransmitterState → Bool
is_ready t = (length t.queue == 0) && (not (is_some t.shift_register) && nat_lt (length t.wire) t.capacity)

-- a byte that is written to DATA would be on the wire at once: DLAB and loopback are off, the transmitter is not held
-- off and holds nothing, and the wire has room
abbrev pub sends_at_once : ChipState → Bool
sends_at_once c =
    not (is_dlab_set c.latches) && (not (is_loopback c.latches) && (not (is_held_off c) && is_ready c.transmitter))

-- the byte is on the wire, and THR became empty, which is an interrupt
abbrev pub put_on_wire : ℕ → TransmitterState → TransmitterState
put_on_wire byte t = record t { wire = t.wire ++ byte ∷ []; is_thr_pending = true }

-- the byte, cut to the word length, is on the wire, and THR became empty, which is an interrupt; no time passed
abbrev pub send_at_once : ℕ → ChipState → ChipState
send_at_once value c = record c { transmitter = put_on_wire (cut_of c value) c.transmitter }
