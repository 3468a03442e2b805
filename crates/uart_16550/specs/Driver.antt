-- The driver's fields, and what a call does to them and to the backend.
use Rattle.std.specs.Prelude.{◌≡◌, ℕ, Bool, true, List, [], ◌++◌}
use Rattle.std.specs.Int.RustNames.{bit_or}
use Rattle.std.specs.Int.NonZero.{non_zero_u64_get}
use Rattle.uart_spec.specs.declared.config.Config.{Config}
use Rattle.uart_spec.specs.Access.{Path, saved_lsr, saved_msr}
use Rattle.uart_spec.specs.declared.access.Access.{Access}
use Rattle.uart_spec.specs.declared.setup.FifoSize.{FifoSize}
use Rattle.uart_spec.specs.declared.setup.FifoSize.TheVariants.{Sixteen}
use Rattle.uart_16550.specs.Grammar.{Language, Settings}
use Rattle.uart_16550.specs.declared.driver.TheConstants.{DEFAULT_SPIN_LIMIT}
use Rattle.uart_16550.specs.declared.driver.Uart16550.{Uart16550}

-- the backend of a driver, which makes its accesses
abbrev pub backend_of : {B : Type 0} → Uart16550 B → B
backend_of d = d.backend

-- a driver without its backend: its configuration, whether it takes the FIFO to be on and which size it takes it to
-- have, the saved bits of LSR and MSR, the spin limit
pub record Fields : Type 0 where
  pub config : Config
  pub fifo : Bool
  pub size : FifoSize
  pub lsr : ℕ
  pub msr : ℕ
  pub limit : ℕ

-- what this driver holds beside its backend
abbrev pub fields : {B : Type 0} → Uart16550 B → Fields
fields d = record {
  config = d.config;
  fifo = d.fifo_enabled;
  size = d.fifo_size;
  lsr = d.saved_lsr.0;
  msr = d.saved_msr.0;
  limit = non_zero_u64_get d.spin_limit;
}

-- what the lists of the next call depend on, as a function of the fields and of the driver
abbrev pub settings_of : Fields → Settings
settings_of f =
    record { checks = f.config.check_cts_before_sending; fifo = f.fifo; size = f.size; limit = f.limit }

abbrev pub settings : {B : Type 0} → Uart16550 B → Settings
settings d = record {
  checks = d.config.check_cts_before_sending;
  fifo = d.fifo_enabled;
  size = d.fifo_size;
  limit = non_zero_u64_get d.spin_limit;
}

-- a driver over this backend that has made no access: FIFO treated as on, and of 16 characters, nothing saved, limit
-- 1,000,000
pub record IsFresh {B : Type 0} (d : Uart16550 B) (given : B) (config : Config) : Type 0 where
  pub backend : d.backend ≡ given
  pub begins : fields d ≡ record {
    config = config;
    fifo = true;
    size = Sixteen;
    lsr = 0;
    msr = 0;
    limit = DEFAULT_SPIN_LIMIT;
  }

-- A backend's step relation is a parameter about which nothing is known. Only an access that was really made gives a
-- step. So 'the call made a path of steps with this list' says what happened, whatever the backend returns.
--
-- Two records carry the contracts of all calls. `Made` is for calls that save what their reads show, and change nothing
-- else. `Did` is for calls that change the fields, or read without saving: among them `init`, the loopback test, `lsr`
-- and `msr`.

-- the call made a list of the language along a path of the backend's steps, saved what its reads showed, and changed
-- nothing else
pub record Made {B : Type 0} (step : B → Access → B → Type 0) (L : Language) (old new : Uart16550 B) : Type 0 where
  pub list : List Access
  pub path : Path step old.backend list new.backend
  pub lsr : new.saved_lsr.0 ≡ bit_or old.saved_lsr.0 (saved_lsr list)
  pub msr : new.saved_msr.0 ≡ bit_or old.saved_msr.0 (saved_msr list)
  pub config : new.config ≡ old.config
  pub fifo : new.fifo_enabled ≡ old.fifo_enabled
  pub size : new.fifo_size ≡ old.fifo_size
  pub limit : new.spin_limit ≡ old.spin_limit
  pub fits : L (settings old) list

-- what a call does: the fields before it, its accesses, and the fields after it
abbrev pub Doing : Type 1
Doing = Fields → List Access → Fields → Type 0

-- the call did this, on a path of the backend's steps
pub record Did {B : Type 0} (step : B → Access → B → Type 0) (G : Doing) (old new : Uart16550 B) : Type 0 where
  pub list : List Access
  pub path : Path step old.backend list new.backend
  pub does : G (fields old) list (fields new)

-- the fields after a list whose reads are saved
abbrev pub saving : Fields → List Access → Fields
saving f l = record f { lsr = bit_or f.lsr (saved_lsr l); msr = bit_or f.msr (saved_msr l) }

-- a list of the language whose reads are saved
abbrev pub Saving : Language → Doing
Saving L f l after = L (settings_of f) l × (after ≡ saving f l)

-- a list of the language whose reads are not saved
abbrev pub Plain : Language → Doing
Plain L f l after = L (settings_of f) l × (after ≡ f)

-- no access, and this change to the fields
abbrev pub Sets : (Fields → Fields) → Doing
Sets change f l after = (l ≡ []) × (after ≡ change f)

-- the one, and then the other, over whatever fields they change
pub record Next {F : Type 0} (G H : F → List Access → F → Type 0) (f : F) (l : List Access) (after : F) : Type 0 where
  pub front : List Access
  pub back : List Access
  pub mid : F
  pub whole : l ≡ front ++ back
  pub first : G f front mid
  pub second : H mid back after

-- the fields with this configuration
abbrev pub with_config : Config → Fields → Fields
with_config config f = record f { config = config }

-- the fields with these interrupts in the configuration
abbrev pub with_interrupts : ℕ → Fields → Fields
with_interrupts bits f = with_config (record f.config { interrupts = record { 0 = bits } }) f

-- the fields of a driver that takes the FIFO to be on, or off
abbrev pub with_fifo : Bool → Fields → Fields
with_fifo on f = record f { fifo = on }

-- the fields of a driver that takes the FIFO to have this size
abbrev pub with_fifo_size : FifoSize → Fields → Fields
with_fifo_size size f = record f { size = size }

-- the fields with these saved bits of LSR and MSR
abbrev pub with_saved : ℕ → ℕ → Fields → Fields
with_saved lsr msr f = record f { lsr = lsr; msr = msr }

-- the fields with this spin limit
abbrev pub with_limit : ℕ → Fields → Fields
with_limit limit f = record f { limit = limit }
