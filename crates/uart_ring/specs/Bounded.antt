-- The most accesses that ring calls make.
use Rattle.std.specs.Prelude.{◌≤◌, ◌+◌, ◌*◌, ℕ, length}
use Rattle.uart_spec.specs.FifoSize.{characters}
use Rattle.uart_spec.specs.declared.setup.FifoSize.{FifoSize}
use Rattle.uart_ring.specs.Ring.{RingDoing}
use Rattle.uart_ring.specs.Storm.{round_limit}
use Rattle.uart_ring.specs.declared.ring.service.TheConstants.{MAX_INTERRUPTS}

-- this number of accesses, or fewer
abbrev pub MakesAtMost : ℕ → RingDoing
MakesAtMost most f l after = length l ≤ most

-- this number for the size of the FIFOs that is set, or fewer
abbrev pub MakesAtMostBySize : (FifoSize → ℕ) → RingDoing
MakesAtMostBySize most f l after = length l ≤ most f.driver.size

-- a change of IER: one read and one write
abbrev pub most_of_change : ℕ
most_of_change = 2

-- `adjust_rts`: one read and one write of MCR
abbrev pub most_of_adjust : ℕ
most_of_adjust = 2

-- a pump: a send check reads LSR, MCR and MSR, and a full FIFO is written; then a change of IER. With FIFOs of 16 it is
-- 21
abbrev pub most_of_pump : FifoSize → ℕ
most_of_pump size = 3 + characters size + most_of_change

-- a full FIFO is received, with a read of LSR before each byte; then a change of IER. With FIFOs of 16 it is 34
abbrev pub most_of_receiving : FifoSize → ℕ
most_of_receiving size = 2 * characters size + most_of_change

-- `service`: for each interrupt a read of ISR, and at most the accesses that receive a full FIFO
abbrev pub most_of_service : FifoSize → ℕ
most_of_service size = MAX_INTERRUPTS * (1 + most_of_receiving size)

-- `retrigger`: one read and two writes of IER
abbrev pub most_of_retrigger : ℕ
most_of_retrigger = 3

-- `handle`: the same for each interrupt as `service`, and a `retrigger`
abbrev pub most_of_handle : (limit : ℕ) → FifoSize → ℕ
most_of_handle limit size = limit * (1 + most_of_receiving size) + most_of_retrigger

-- `try_handle`: a `handle` of at least six interrupts, one more read of ISR, and a change of IER
abbrev pub most_of_try_handle : (limit : ℕ) → FifoSize → ℕ
most_of_try_handle limit size = most_of_handle (round_limit limit) size + (1 + most_of_change)

-- `config_register_dump`: five accesses for the divisor latch, seven registers, and a pump
abbrev pub most_of_dump : FifoSize → ℕ
most_of_dump size = 12 + most_of_pump size

-- `restart`: a change of IER, and a pump
abbrev pub most_of_restart : FifoSize → ℕ
most_of_restart size = most_of_change + most_of_pump size
