-- The divisors of the usual clock that give a whole baud rate.
use Rattle.std.specs.Prelude.{◌≡◌, ℕ, ◌*◌, ◌≤◌, List, [], ◌∷◌}
use Rattle.uart_spec.specs.declared.registers.divisors.Divisor.{Divisor}
use Rattle.uart_spec.specs.declared.registers.divisors.Divisor.TheVariants.{Divisor1, Divisor2, Divisor3, Divisor4}
use Rattle.uart_spec.specs.declared.registers.divisors.Divisor.TheVariants.{Divisor5, Divisor6, Divisor8, Divisor9}
use Rattle.uart_spec.specs.declared.registers.divisors.Divisor.TheVariants.{Divisor10, Divisor12, Divisor15, Divisor16}
use Rattle.uart_spec.specs.declared.registers.divisors.Divisor.TheVariants.{Divisor18, Divisor20, Divisor24, Divisor25}
use Rattle.uart_spec.specs.declared.registers.divisors.Divisor.TheVariants.{Divisor30, Divisor32, Divisor36, Divisor40}
use Rattle.uart_spec.specs.declared.registers.divisors.Divisor.TheVariants.{Divisor45, Divisor48, Divisor50, Divisor60}
use Rattle.uart_spec.specs.declared.registers.divisors.Divisor.TheVariants.{Divisor64, Divisor72, Divisor75, Divisor80}
use Rattle.uart_spec.specs.declared.registers.divisors.Divisor.TheVariants.{Divisor90, Divisor96, Divisor100}
use Rattle.uart_spec.specs.declared.registers.divisors.Divisor.TheVariants.{Divisor120, Divisor128, Divisor144}
use Rattle.uart_spec.specs.declared.registers.divisors.Divisor.TheVariants.{Divisor150, Divisor160, Divisor180}
use Rattle.uart_spec.specs.declared.registers.divisors.Divisor.TheVariants.{Divisor192, Divisor200, Divisor225}
use Rattle.uart_spec.specs.declared.registers.divisors.Divisor.TheVariants.{Divisor240, Divisor256, Divisor288}
use Rattle.uart_spec.specs.declared.registers.divisors.Divisor.TheVariants.{Divisor300, Divisor320, Divisor360}
use Rattle.uart_spec.specs.declared.registers.divisors.Divisor.TheVariants.{Divisor384, Divisor400, Divisor450}
use Rattle.uart_spec.specs.declared.registers.divisors.Divisor.TheVariants.{Divisor480, Divisor512, Divisor576}
use Rattle.uart_spec.specs.declared.registers.divisors.Divisor.TheVariants.{Divisor600, Divisor640, Divisor720}
use Rattle.uart_spec.specs.declared.registers.divisors.Divisor.TheVariants.{Divisor768, Divisor800, Divisor900}
use Rattle.uart_spec.specs.declared.registers.divisors.Divisor.TheVariants.{Divisor960, Divisor1152, Divisor1200}
use Rattle.uart_spec.specs.declared.registers.divisors.Divisor.TheVariants.{Divisor1280, Divisor1440, Divisor1536}
use Rattle.uart_spec.specs.declared.registers.divisors.Divisor.TheVariants.{Divisor1600, Divisor1800, Divisor1920}
use Rattle.uart_spec.specs.declared.registers.divisors.Divisor.TheVariants.{Divisor2304, Divisor2400, Divisor2560}
use Rattle.uart_spec.specs.declared.registers.divisors.Divisor.TheVariants.{Divisor2880, Divisor3200, Divisor3600}
use Rattle.uart_spec.specs.declared.registers.divisors.Divisor.TheVariants.{Divisor3840, Divisor4608, Divisor4800}
use Rattle.uart_spec.specs.declared.registers.divisors.Divisor.TheVariants.{Divisor5760, Divisor6400, Divisor7200}
use Rattle.uart_spec.specs.declared.registers.divisors.Divisor.TheVariants.{Divisor7680, Divisor9600, Divisor11520}
use Rattle.uart_spec.specs.declared.registers.divisors.Divisor.TheVariants.{Divisor12800, Divisor14400, Divisor19200}
use Rattle.uart_spec.specs.declared.registers.divisors.Divisor.TheVariants.{Divisor23040, Divisor28800, Divisor38400}
use Rattle.uart_spec.specs.declared.registers.divisors.Divisor.TheVariants.{Divisor57600}

-- a case of `Divisor` as a number
abbrev pub number : Divisor → ℕ
number Divisor1 = 1
number Divisor2 = 2
number Divisor3 = 3
number Divisor4 = 4
number Divisor5 = 5
number Divisor6 = 6
number Divisor8 = 8
number Divisor9 = 9
number Divisor10 = 10
number Divisor12 = 12
number Divisor15 = 15
number Divisor16 = 16
number Divisor18 = 18
number Divisor20 = 20
number Divisor24 = 24
number Divisor25 = 25
number Divisor30 = 30
number Divisor32 = 32
number Divisor36 = 36
number Divisor40 = 40
number Divisor45 = 45
number Divisor48 = 48
number Divisor50 = 50
number Divisor60 = 60
number Divisor64 = 64
number Divisor72 = 72
number Divisor75 = 75
number Divisor80 = 80
number Divisor90 = 90
number Divisor96 = 96
number Divisor100 = 100
number Divisor120 = 120
number Divisor128 = 128
number Divisor144 = 144
number Divisor150 = 150
number Divisor160 = 160
number Divisor180 = 180
number Divisor192 = 192
number Divisor200 = 200
number Divisor225 = 225
number Divisor240 = 240
number Divisor256 = 256
number Divisor288 = 288
number Divisor300 = 300
number Divisor320 = 320
number Divisor360 = 360
number Divisor384 = 384
number Divisor400 = 400
number Divisor450 = 450
number Divisor480 = 480
number Divisor512 = 512
number Divisor576 = 576
number Divisor600 = 600
number Divisor640 = 640
number Divisor720 = 720
number Divisor768 = 768
number Divisor800 = 800
number Divisor900 = 900
number Divisor960 = 960
number Divisor1152 = 1152
number Divisor1200 = 1200
number Divisor1280 = 1280
number Divisor1440 = 1440
number Divisor1536 = 1536
number Divisor1600 = 1600
number Divisor1800 = 1800
number Divisor1920 = 1920
number Divisor2304 = 2304
number Divisor2400 = 2400
number Divisor2560 = 2560
number Divisor2880 = 2880
number Divisor3200 = 3200
number Divisor3600 = 3600
number Divisor3840 = 3840
number Divisor4608 = 4608
number Divisor4800 = 4800
number Divisor5760 = 5760
number Divisor6400 = 6400
number Divisor7200 = 7200
number Divisor7680 = 7680
number Divisor9600 = 9600
number Divisor11520 = 11520
number Divisor12800 = 12800
number Divisor14400 = 14400
number Divisor19200 = 19200
number Divisor23040 = 23040
number Divisor28800 = 28800
number Divisor38400 = 38400
number Divisor57600 = 57600

-- the number divides 115,200, the baud rate of divisor 1, and fits into the divisor latch
abbrev pub IsDivisor : ℕ → Type 0
IsDivisor n = (n ≤ 65535) × ((rate : ℕ) × (n * rate ≡ 115200))

-- all cases of `Divisor`, from the smallest up
abbrev pub divisors : List Divisor
divisors =
    Divisor1 ∷ Divisor2 ∷ Divisor3 ∷ Divisor4 ∷ Divisor5 ∷ Divisor6 ∷ Divisor8 ∷ Divisor9 ∷ Divisor10 ∷ Divisor12 ∷
    Divisor15 ∷ Divisor16 ∷ Divisor18 ∷ Divisor20 ∷ Divisor24 ∷ Divisor25 ∷ Divisor30 ∷ Divisor32 ∷ Divisor36 ∷
    Divisor40 ∷ Divisor45 ∷ Divisor48 ∷ Divisor50 ∷ Divisor60 ∷ Divisor64 ∷ Divisor72 ∷ Divisor75 ∷ Divisor80 ∷
    Divisor90 ∷ Divisor96 ∷ Divisor100 ∷ Divisor120 ∷ Divisor128 ∷ Divisor144 ∷ Divisor150 ∷ Divisor160 ∷
    Divisor180 ∷ Divisor192 ∷ Divisor200 ∷ Divisor225 ∷ Divisor240 ∷ Divisor256 ∷ Divisor288 ∷ Divisor300 ∷
    Divisor320 ∷ Divisor360 ∷ Divisor384 ∷ Divisor400 ∷ Divisor450 ∷ Divisor480 ∷ Divisor512 ∷ Divisor576 ∷
    Divisor600 ∷ Divisor640 ∷ Divisor720 ∷ Divisor768 ∷ Divisor800 ∷ Divisor900 ∷ Divisor960 ∷ Divisor1152 ∷
    Divisor1200 ∷ Divisor1280 ∷ Divisor1440 ∷ Divisor1536 ∷ Divisor1600 ∷ Divisor1800 ∷ Divisor1920 ∷ Divisor2304 ∷
    Divisor2400 ∷ Divisor2560 ∷ Divisor2880 ∷ Divisor3200 ∷ Divisor3600 ∷ Divisor3840 ∷ Divisor4608 ∷ Divisor4800 ∷
    Divisor5760 ∷ Divisor6400 ∷ Divisor7200 ∷ Divisor7680 ∷ Divisor9600 ∷ Divisor11520 ∷ Divisor12800 ∷
    Divisor14400 ∷ Divisor19200 ∷ Divisor23040 ∷ Divisor28800 ∷ Divisor38400 ∷ Divisor57600 ∷ []
