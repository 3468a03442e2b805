-- The driver under a terminal, and how a terminal is set up.
use Rattle.std.specs.Prelude.{◌≡◌, Result, Ok, Err, IfOk}
use Rattle.uart_spec.specs.declared.config.Config.{Config}
use Rattle.uart_spec.specs.declared.config.TheConstants.Config.{DEFAULT}
use Rattle.uart_spec.specs.declared.errors.InvalidAddressError.{InvalidAddressError}
use Rattle.uart_spec.specs.declared.errors.Uart16550TtyError.{Uart16550TtyError}
use Rattle.uart_spec.specs.declared.errors.Uart16550TtyError.TheVariants.{AddressError, InitError, TestError}
use Rattle.uart_spec.specs.declared.access.Access.{Access}
use Rattle.uart_16550.specs.Grammar.{Language}
use Rattle.uart_16550.specs.Driver.{Made, Did, Doing, Next, IsFresh}
use Rattle.uart_16550.specs.Init.{Inits}
use Rattle.uart_16550.specs.Loopback.{TestsLoopback}
use Rattle.uart_16550.specs.declared.driver.Uart16550.{Uart16550}
use Rattle.uart_16550.specs.declared.tty.Uart16550Tty.{Uart16550Tty}

-- the driver under a terminal
abbrev pub inner_of : {B : Type 0} → Uart16550Tty B → Uart16550 B
inner_of terminal = terminal.inner

-- the driver under the terminal made a list of the language
abbrev pub TerminalMade : {B : Type 0} → (B → Access → B → Type 0) → Language → Uart16550Tty B → Uart16550Tty B → Type 0
TerminalMade step L old new = Made step L old.inner new.inner

-- `init` and then `test_loopback`, up to the first refusal
abbrev pub Starts : {T : Type 0} → Config → Result T Uart16550TtyError → Doing
Starts config (Ok x) f l after =
    Next (Inits {T = Unit {0}} config (Ok tt)) (TestsLoopback {T = Unit {0}} (Ok tt)) f l after
Starts config (Err (AddressError e)) f l after = ⊥
Starts config (Err (InitError e)) f l after = Inits {T = Unit {0}} config (Err e) f l after
Starts config (Err (TestError e)) f l after =
    Next (Inits {T = Unit {0}} config (Ok tt)) (TestsLoopback {T = Unit {0}} (Err e)) f l after

-- the driver was started, and the terminal has it; or the start failed, and the driver was dropped in some state
pub record IsStarted {B : Type 0} (step : B → Access → B → Type 0) (config : Config) (driver : Uart16550 B)
    (result : Result (Uart16550Tty B) Uart16550TtyError) : Type 0 where
  pub last : Uart16550 B
  pub does : Did step (Starts config result) driver last
  pub kept : IfOk result (λ terminal. inner_of terminal ≡ last)

-- a new driver over this backend was started: by `init` and then `test_loopback`, up to the first refusal. If there is
-- none, the terminal has the driver
pub record BuildsTerminal {B : Type 0} (step : B → Access → B → Type 0) (backend : B) (config : Config)
    (result : Result (Uart16550Tty B) Uart16550TtyError) : Type 0 where
  pub driver : Uart16550 B
  pub fresh : IsFresh driver backend DEFAULT
  pub started : IsStarted step config driver result

-- the address was refused; or a new driver over a backend at this address was started: by `init` and then
-- `test_loopback`, up to the first refusal
abbrev pub BuildsTerminalAt : {B : Type 0} → (B → Access → B → Type 0) → (B → Type 0) → (InvalidAddressError → Type 0) →
    Config → Result (Uart16550Tty B) Uart16550TtyError → Type 0
BuildsTerminalAt step Lies Refuses config (Err (AddressError e)) = Refuses e
BuildsTerminalAt {B} step Lies Refuses config result =
    (backend : B) × Lies backend × BuildsTerminal step backend config result
