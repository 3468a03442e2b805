-- The terminals over backends at addresses.
use Rattle.std.proofs.Common.{Result, Ok, Err}
use Rattle.uart_spec.specs.declared.config.Config.{Config}
use Rattle.uart_spec.specs.declared.config.TheConstants.Config.{DEFAULT}
use Rattle.uart_spec.specs.declared.errors.InvalidAddressError.{InvalidAddressError}
use Rattle.uart_spec.specs.declared.errors.Uart16550TtyError.{Uart16550TtyError}
use Rattle.uart_spec.specs.declared.errors.Uart16550TtyError.TheVariants.{AddressError, InitError, TestError}
use Rattle.uart_spec.specs.declared.access.Access.{Access}
use Rattle.uart_16550.specs.Driver.{IsFresh, backend_of}
use Rattle.uart_16550.specs.Tty.{IsStarted, BuildsTerminalAt}
use Rattle.uart_16550.specs.declared.driver.Uart16550.{Uart16550}
use Rattle.uart_16550.specs.declared.tty.Uart16550Tty.{Uart16550Tty}

-- a fresh driver whose backend lies at the address was started
pub built_at : {B : Type 0} (step : B → Access → B → Type 0) (Lies : B → Type 0) (Refuses : InvalidAddressError → Type 0) (config : Config)
    (driver : Uart16550 B)
    (result : Result (Uart16550Tty B) Uart16550TtyError) →
    IsFresh driver (backend_of driver) DEFAULT → Lies (backend_of driver) → IsStarted step config driver result →
    BuildsTerminalAt step Lies Refuses config result
built_at step Lies Refuses config driver (Err (AddressError e)) fresh lies started = absurd started.does.does
built_at step Lies Refuses config driver _ fresh lies started =
    (backend_of driver, lies, record { driver = driver; fresh = fresh; started = started })
