-- What the original interface has otherwise than the driver. Each case of its errors is one of the driver's, which has
-- stalls beside them.
use Rattle.std.specs.Prelude.{◌≡◌, ℕ, Ok}
use Rattle.uart_spec.specs.Checked.{IsCheckedRate}
use Rattle.uart_spec.specs.Dump.{divisor_of}
use Rattle.uart_spec.specs.declared.config.Config.{Config}
use Rattle.uart_spec.specs.declared.dump.ConfigRegisterDump.{ConfigRegisterDump}
use Rattle.uart_original.specs.declared.dump.ConfigRegisterDump.{ConfigRegisterDump as OwnConfigRegisterDump}
use Rattle.uart_spec.specs.declared.errors.InitError.{InitError}
use Rattle.uart_spec.specs.declared.errors.InvalidDivisorError.{InvalidDivisorError}
use Rattle.uart_spec.specs.declared.errors.LoopbackError.{LoopbackError}
use Rattle.uart_spec.specs.declared.errors.Uart16550TtyError.{Uart16550TtyError}
use Rattle.uart_spec.specs.declared.errors.InitError.TheVariants as init
use Rattle.uart_spec.specs.declared.errors.InvalidDivisorError.TheVariants as divisor
use Rattle.uart_spec.specs.declared.errors.LoopbackError.TheVariants as loopback
use Rattle.uart_spec.specs.declared.errors.Uart16550TtyError.TheVariants as tty
use Rattle.uart_original.specs.declared.errors.InitError.{InitError as OwnInitError}
use Rattle.uart_original.specs.declared.errors.InvalidDivisorError.{InvalidDivisorError as OwnInvalidDivisorError}
use Rattle.uart_original.specs.declared.errors.LoopbackError.{LoopbackError as OwnLoopbackError}
use Rattle.uart_original.specs.declared.errors.Uart16550TtyError.{Uart16550TtyError as OwnUart16550TtyError}
use Rattle.uart_original.specs.declared.errors.InitError.TheVariants as own_init
use Rattle.uart_original.specs.declared.errors.InvalidDivisorError.TheVariants as own_divisor
use Rattle.uart_original.specs.declared.errors.LoopbackError.TheVariants as own_loopback
use Rattle.uart_original.specs.declared.errors.Uart16550TtyError.TheVariants as own_tty

-- the driver's error for one of the original: the same case
abbrev pub divisor_error : OwnInvalidDivisorError → InvalidDivisorError
divisor_error (own_divisor.NonInteger cause) = divisor.NonInteger cause
divisor_error (own_divisor.OutOfRange n) = divisor.OutOfRange n

-- the same of an initialisation
abbrev pub init_error : OwnInitError → InitError
init_error own_init.DeviceNotPresent = init.DeviceNotPresent
init_error (own_init.InvalidBaudRate cause) = init.InvalidBaudRate (divisor_error cause)

-- the same of a loopback test
abbrev pub loopback_error : OwnLoopbackError → LoopbackError
loopback_error (own_loopback.SendError cause) = loopback.SendError cause
loopback_error (own_loopback.UnexpectedLoopbackByte expected actual) = loopback.UnexpectedLoopbackByte expected actual
loopback_error (own_loopback.UnexpectedLoopbackMsg expected actual) = loopback.UnexpectedLoopbackMsg expected actual

-- the same of a terminal
abbrev pub tty_error : OwnUart16550TtyError → Uart16550TtyError
tty_error (own_tty.AddressError cause) = tty.AddressError cause
tty_error (own_tty.InitError cause) = tty.InitError (init_error cause)
tty_error (own_tty.TestError cause) = tty.TestError (loopback_error cause)

-- a wait of the initialisation ended, which the original does not know
abbrev pub IsStalledInit : InitError → Type 0
IsStalledInit error = error ≡ init.Stalled

-- a wait of the loopback test ended, which the original does not know
abbrev pub IsStalledTest : LoopbackError → Type 0
IsStalledTest error = error ≡ loopback.Stalled

-- a dump as the driver has it: the same registers
abbrev pub driver_dump : OwnConfigRegisterDump → ConfigRegisterDump
driver_dump d = record {
  ier = d.ier;
  isr = d.isr;
  lcr = d.lcr;
  mcr = d.mcr;
  lsr = d.lsr;
  msr = d.msr;
  spr = d.spr;
  dll = d.dll;
  dlm = d.dlm;
}

-- the divisor of a dump gives a whole baud rate
abbrev pub HasBaudRate : Config → ConfigRegisterDump → Type 0
HasBaudRate config dump =
    (rate : ℕ) × IsCheckedRate config.frequency (divisor_of dump) config.prescaler_division_factor (Ok rate)
