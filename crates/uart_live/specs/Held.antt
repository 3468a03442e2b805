-- An option of the live chip: a reception timeout that is due stays so until the guest reads DATA.
use Rattle.std.specs.Prelude.{ℕ, Bool, if◌then◌else◌}
use Rattle.uart_chip.specs.Receiver.{is_timed_out}
use Rattle.uart_chip.specs.Chip.{ChipState, arrive_live}

-- a reception timeout is due
abbrev pub is_due : ChipState → Bool
is_due c = is_timed_out c.fifo c.receiver

-- the ticks towards a reception timeout are at their limit
abbrev pub expire : ChipState → ChipState
expire c = record c { receiver = record c.receiver { timeout_ticks = c.receiver.timeout_limit } }

-- a character arrives, and a timeout that is due stays due
abbrev pub arrive_holding : (byte errors : ℕ) → ChipState → ChipState
arrive_holding byte errors c = if is_due c then expire (arrive_live byte errors c) else arrive_live byte errors c
