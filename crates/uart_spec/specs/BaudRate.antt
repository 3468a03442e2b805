-- Baud rates as numbers, and their order.
use Rattle.std.specs.Prelude.{◌≡◌, ℕ}
use Rattle.std.specs.declared.cmp.Ordering.{Ordering}
use Rattle.std.specs.Ordering.{nat_cmp, on, then_cmp}
use Rattle.uart_spec.specs.declared.config.BaudRate.{BaudRate}
use Rattle.uart_spec.specs.declared.config.BaudRate.TheVariants.{Baud115200, Baud57600, Baud38400, Baud9600, Baud4800}
use Rattle.uart_spec.specs.declared.config.BaudRate.TheVariants.{Baud2400, Baud1200, Baud600, Baud300, Baud150, Baud110}
use Rattle.uart_spec.specs.declared.config.BaudRate.TheVariants.{Custom}

-- the number of bits per second
abbrev pub to_integer : BaudRate → ℕ
to_integer (Custom rate) = rate
to_integer Baud115200 = 115200
to_integer Baud57600 = 57600
to_integer Baud38400 = 38400
to_integer Baud9600 = 9600
to_integer Baud4800 = 4800
to_integer Baud2400 = 2400
to_integer Baud1200 = 1200
to_integer Baud600 = 600
to_integer Baud300 = 300
to_integer Baud150 = 150
to_integer Baud110 = 110

-- 0 for a case with a name, 1 for `Custom`
abbrev pub rank : BaudRate → ℕ
rank (Custom rate) = 1
rank _ = 0

-- the case has a name: it is not `Custom`
abbrev pub IsNamed : BaudRate → Type 0
IsNamed rate = rank rate ≡ 0

-- the order: by the number; of two cases with one number, the case with a name comes first
abbrev pub baud_rate_cmp : BaudRate → BaudRate → Ordering
baud_rate_cmp = then_cmp (on to_integer nat_cmp) (on rank nat_cmp)
