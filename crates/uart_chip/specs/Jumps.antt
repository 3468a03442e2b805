-- Ticks in jumps: when a character moves next, what happens until then, and how many jumps there are at most. No
-- theorem rests on these definitions but that of `idle`, whose contract gives the effect of the ticks by those of
-- `Chip`.
use Rattle.std.specs.Prelude.{ℕ, ◌+◌, ◌-◌, ◌==◌, min, max, zero, suc, Bool, false, not, List, [], ◌∷◌, length}
use Rattle.std.specs.Prelude.{Option, Some, None, nat_lt}
use Rattle.std.specs.Prelude.{if◌then◌else◌}
use Rattle.uart_chip.specs.declared.transmitter.Shifting.{Shifting}
use Rattle.uart_spec.specs.FifoSize.{characters}
use Rattle.uart_spec.specs.declared.setup.FifoSize.{FifoSize}
use Rattle.uart_chip.specs.Transmitter.{TransmitterState}
use Rattle.uart_chip.specs.Receiver.{ReceiverState}
use Rattle.uart_chip.specs.Chip.{ChipState, is_loopback, is_held_off, tick}

-- the ticks until the character in the shift register leaves it, if it may, or the next one enters an empty one, if it
-- may
abbrev pub next_move_of : (may_leave may_enter : Bool) → Option Shifting → List ℕ → Option ℕ
next_move_of may_leave may_enter None [] = None
next_move_of may_leave may_enter None (x ∷ xs) = if may_enter then Some 1 else None
next_move_of may_leave may_enter (Some s) queue = if may_leave then Some (max s.ticks_left 1) else None

-- of a transmitter: none if it is empty, if it is held off and nothing is shifted out, or if the wire is full and it is
-- not in loopback
abbrev pub next_move : (loopback held_off : Bool) → TransmitterState → Option ℕ
next_move loopback held_off t =
    next_move_of (if loopback then loopback else nat_lt (length t.wire) t.capacity) (not held_off) t.shift_register
    t.queue

-- ---- n ticks in which no character moves

-- the ticks left for a character that stays in the shift register, after n ticks; the shift register with it
abbrev pub left_after : (n left : ℕ) → ℕ
left_after n left = if nat_lt n left then left - n else min left 1

abbrev pub place_after : ℕ → Option Shifting → Option Shifting
place_after n None = None
place_after n (Some s) = Some (record { byte = s.byte; ticks_left = left_after n s.ticks_left })

-- the transmitter after n ticks in which no character moves
abbrev pub count_down : ℕ → TransmitterState → TransmitterState
count_down n t = record t { shift_register = place_after n t.shift_register }

-- the ticks towards a reception timeout after n ticks without a character
abbrev pub timeout_after : (n ticks limit : ℕ) → ℕ
timeout_after zero ticks limit = ticks
timeout_after (suc n) ticks limit = min (ticks + suc n) limit

-- the receiver after n ticks in which no character arrives or is taken
abbrev pub count_up : ℕ → ReceiverState → ReceiverState
count_up n r = record r { timeout_ticks = timeout_after n r.timeout_ticks r.timeout_limit }

-- the chip after n ticks in which no character moves
abbrev pub skip : ℕ → ChipState → ChipState
skip n c = record c { transmitter = count_down n c.transmitter; receiver = count_up n c.receiver }

-- ---- jumps

-- whether a number of ticks is one
abbrev pub is_one : Option ℕ → Bool
is_one None = false
is_one (Some k) = k == 1

-- whether a character leaves the shift register or enters it in the next tick
abbrev pub is_moving : ChipState → Bool
is_moving c = is_one (next_move (is_loopback c.latches) (is_held_off c) c.transmitter)

-- The number of jumps is defined tick by tick, and not as the code jumps. That a jump of the code counts as one is then
-- something to prove.

-- how many jumps so many ticks are: each ends with a tick in which a character moves, and the last one with the last
-- tick
abbrev pub jumps_in : ℕ → ChipState → ℕ
jumps_in zero c = 0
jumps_in (suc n) c = if is_moving c then suc (jumps_in n (tick c)) else max 1 (jumps_in n (tick c))

-- how many more times a character may leave the shift register or enter an empty one
abbrev pub moves_of : Option Shifting → List ℕ → ℕ
moves_of None [] = 0
moves_of None (x ∷ xs) = suc (length (x ∷ xs))
moves_of (Some s) queue = suc (length queue)

abbrev pub moves : TransmitterState → ℕ
moves t = moves_of t.shift_register t.queue

-- the most jumps that any number of ticks takes with a FIFO of this size, which are 18 with one of 16: one for each
-- character in the queue, and for the one that enters or leaves the shift register, and one for what is left
abbrev pub most_jumps : FifoSize → ℕ
most_jumps size = characters size + 2
