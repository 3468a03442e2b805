-- The state of a driver without its backend, as a value.
use Rattle.std.specs.Prelude.{true}
use Rattle.std.specs.Int.NonZero.{non_zero_u64_get}
use Rattle.uart_spec.specs.declared.config.TheConstants.Config.{DEFAULT}
use Rattle.uart_spec.specs.declared.setup.FifoSize.TheVariants.{Sixteen}
use Rattle.uart_16550.specs.Driver.{Fields}
use Rattle.uart_16550.specs.declared.driver.TheConstants.{DEFAULT_SPIN_LIMIT}
use Rattle.uart_16550.specs.declared.driver.state.DriverState.{DriverState}

-- the fields of a driver in this state
abbrev pub fields_of : DriverState → Fields
fields_of s =
    record {
      config = s.config;
      fifo = s.fifo_enabled;
      size = s.fifo_size;
      lsr = s.saved_lsr.0;
      msr = s.saved_msr.0;
      limit = non_zero_u64_get s.spin_limit;
    }

-- the fields of a new driver
abbrev pub fresh_fields : Fields
fresh_fields =
    record { config = DEFAULT; fifo = true; size = Sixteen; lsr = 0; msr = 0; limit = DEFAULT_SPIN_LIMIT }
