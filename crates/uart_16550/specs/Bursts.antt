-- Bursts to a transmitter FIFO whose size the caller names.
use Rattle.std.specs.Prelude.{◌≡◌, ◌<◌, ◌⊎◌, ℕ, List, [], length, take, min}
use Rattle.uart_spec.specs.declared.setup.FifoSize.{FifoSize}
use Rattle.uart_16550.specs.Grammar.{Language}
use Rattle.uart_16550.specs.Transmit.{Burst, SendMiss, burst_limit}

-- `send_burst`: nothing if there are no bytes; else a send check and, if it succeeds, bytes from the front are written
-- to DATA: as many as a FIFO of this size holds, or one if it is off. The result is how many
abbrev pub SendsBurst : FifoSize → List ℕ → ℕ → Language
SendsBurst size bytes k s l =
    ((length bytes ≡ 0) × (k ≡ 0) × (l ≡ []))
    ⊎ ((0 < length bytes) × (k ≡ 0) × SendMiss s l)
    ⊎ ((0 < length bytes) × (k ≡ min (length bytes) (burst_limit s.fifo size)) × Burst (take k bytes) s l)
