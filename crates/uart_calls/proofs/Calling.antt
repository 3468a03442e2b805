-- Calls that make no access.
use Rattle.std.proofs.Common.{◌≡◌, Bool, [], refl}
use Rattle.uart_spec.specs.declared.access.Access.{Access}
use Rattle.uart_16550.specs.Driver.{fields}
use Rattle.uart_16550.specs.declared.driver.Uart16550.{Uart16550}
use Rattle.uart_call.specs.declared.call.Answer.TheVariants.{Done, Flag}
use Rattle.uart_calls.specs.Meaning.{Meaning, Called, MakesNoAccess, ShowsFifo, tells_nothing}

-- `Next`
pub called_none : {B : Type 0} (step : B → Access → B → Type 0) (d : Uart16550 B) → Called step (tells_nothing MakesNoAccess) Done d d
called_none step d =
    record { outcome = tt; answered = refl; did = record { list = []; path = refl; does = (refl, refl) } }

-- `fifo_enabled`, of a driver that is still the same
pub called_fifo : {B : Type 0} (step : B → Access → B → Type 0) (d e : Uart16550 B) (on : Bool) → e ≡ d → on ≡ (fields e).fifo →
    Called step (Meaning.means ShowsFifo Flag) (Flag on) d d
called_fifo step d e on same shown =
    record { outcome = on; answered = refl; did = record { list = []; path = refl; does = (rw same at shown, (refl, refl)) } }
