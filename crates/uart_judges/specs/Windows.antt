-- The bytes that were read ahead.
use Rattle.std.specs.Prelude.{ℕ, ◌-◌, List, slice_range}
use Rattle.uart_judges.specs.declared.recording.window.TheConstants.{WINDOW_BYTES}
use Rattle.uart_judges.specs.declared.recording.window.Window.{Window}

-- the bytes that are not used yet
abbrev pub items : Window → List ℕ
items window = slice_range window.bytes.items window.start window.end

-- how many more bytes there is room for behind them
abbrev pub room : Window → ℕ
room window = WINDOW_BYTES - window.end
