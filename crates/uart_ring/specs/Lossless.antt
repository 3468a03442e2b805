-- What ring calls do not lose, whatever reads return: bytes to be sent, received bytes, line errors, and changes of
-- the modem lines.
use Rattle.std.specs.Prelude.{◌≡◌, ◌==◌, ◌-◌, ℕ, List, [], ◌∷◌, ◌++◌, length, take, drop, Option, bit_and, bit_or}
use Rattle.std.specs.Prelude.{if◌then◌else◌}
use Rattle.std.specs.Prelude.{option_to_list}
use Rattle.uart_spec.specs.Access.{saved_lsr, saved_msr}
use Rattle.uart_spec.specs.declared.access.Access.{Access}
use Rattle.uart_spec.specs.declared.access.Access.TheVariants.{Read, Write}
use Rattle.uart_spec.specs.declared.registers.line_status.TheConstants.LSR
use Rattle.uart_spec.specs.declared.registers.modem_status.TheConstants.MSR
use Rattle.uart_spec.specs.declared.registers.offsets.TheConstants as offsets
use Rattle.uart_16550.specs.Driver.{settings_of}
use Rattle.uart_ring.specs.Ring.{RingDoing, RingFields, waiting}

-- the bytes that were written to DATA, in order
abbrev pub data_written : List Access → List ℕ
data_written [] = []
data_written (Read offset answer ∷ accesses) = data_written accesses
data_written (Write offset value ∷ accesses) =
    (if offset == offsets.DATA then value ∷ [] else []) ++ data_written accesses

-- the bytes that were read from DATA, in order
abbrev pub data_read : List Access → List ℕ
data_read [] = []
data_read (Read offset answer ∷ accesses) =
    (if offset == offsets.DATA then answer ∷ [] else []) ++ data_read accesses
data_read (Write offset value ∷ accesses) = data_read accesses

-- the line errors that are still to be returned: those that the rings noted, and those that the driver saved
abbrev pub untold_line : RingFields → ℕ
untold_line f = bit_and (bit_or f.line f.driver.lsr) LSR.LINE_ERRORS.0

-- the changes of the modem lines that are still to be returned
abbrev pub untold_modem : RingFields → ℕ
untold_modem f = bit_and (bit_or f.modem f.driver.msr) MSR.CHANGES.0

-- what a call makes of the bytes that wait to be sent, before it sends any: it accepts more at the end; an urgent byte
-- overtakes all of them, in place of one that was replaced; or it drops so many at the end
abbrev pub with_accepted : List ℕ → List ℕ → List ℕ
with_accepted bytes waiting = waiting ++ bytes

abbrev pub overtaken_by : (byte : ℕ) → (replaced : Option ℕ) → List ℕ → List ℕ
overtaken_by byte replaced waiting = byte ∷ drop (length (option_to_list replaced)) waiting

abbrev pub without_dropped : (count : ℕ) → List ℕ → List ℕ
without_dropped count waiting = take (length waiting - count) waiting

-- what was written and what still waits to be sent are what waited before, as the call changes that; what was given and
-- what is still to be taken are what was there before and what was read; what was reported and what is still to be
-- reported are what was there before and what was seen
pub record LosesOnly (change : List ℕ → List ℕ) (given : List ℕ) (line modem : ℕ)
    (f : RingFields) (l : List Access) (after : RingFields) : Type 0 where
  -- what was written, and what still waits to be sent, is what waited, as the call changes it
  pub sent : data_written l ++ waiting after ≡ change (waiting f)
  -- what was returned or dropped, and what is still to be taken, is what was there and what was read
  pub received : given ++ after.receive.items ≡ f.receive.items ++ data_read l
  -- what was returned of LSR and MSR, and what is still to be returned, is what was there and what reads cleared
  pub line_told : bit_or (bit_and line LSR.LINE_ERRORS.0) (untold_line after) ≡ bit_or (untold_line f) (saved_lsr l)
  pub modem_told : bit_or (bit_and modem MSR.CHANGES.0) (untold_modem after) ≡ bit_or (untold_modem f) (saved_msr l)
  pub rooms : (after.transmit.capacity ≡ f.transmit.capacity) × (after.receive.capacity ≡ f.receive.capacity)
  pub settings : settings_of after.driver ≡ settings_of f.driver

-- what was written and what still waits to be sent are what waited before and what was accepted
abbrev pub LosesNothing : (accepted given : List ℕ) → (line modem : ℕ) → RingDoing
LosesNothing accepted given line modem = LosesOnly (with_accepted accepted) given line modem

-- whatever does the first also does the second
abbrev pub Implies : RingDoing → RingDoing → Type 0
Implies G H = (f : RingFields) (l : List Access) (after : RingFields) →
    -- the call did what its contract says
    G f l after → H f l after
