-- What may change the size of the FIFOs: only the switch of a 16750, which is a write of FCR while DLAB is set.
use Rattle.std.specs.Prelude.{◌≡◌, ℕ, Bool, false, ◌&&◌, List, [], ◌∷◌, ◌==◌, if◌then◌else◌}
use Rattle.uart_events.specs.declared.event.Event.{Event}
use Rattle.uart_spec.specs.Access.{Path}
use Rattle.uart_spec.specs.Bits.{has_any}
use Rattle.uart_spec.specs.declared.access.Access.{Access}
use Rattle.uart_spec.specs.declared.access.Access.TheVariants.{Read, Write}
use Rattle.uart_spec.specs.declared.registers.line_control.TheConstants.LCR
use Rattle.uart_spec.specs.declared.registers.offsets.TheConstants as offsets
use Rattle.uart_chip.specs.Chip.{ChipState, is_switching, after_read, after_write}
use Rattle.uart_chip.specs.Machine.{MachineState, MachineStep, perform}

-- both FIFOs of the second chip have the size that they have in the first
pub record SameSizes (c d : ChipState) : Type 0 where
  pub transmitter : d.transmitter.size ≡ c.transmitter.size
  pub receiver : d.receiver.size ≡ c.receiver.size

-- ---- one event, and one access

abbrev pub EventsKeepSizes : Type 0
EventsKeepSizes = (event : Event) (c : ChipState) → SameSizes c (perform event c)

abbrev pub ReadsKeepSizes : Type 0
ReadsKeepSizes = (offset : ℕ) (c : ChipState) → SameSizes c (after_read offset c)

-- only a write of FCR that switches the size changes it
abbrev pub OnlySwitchesResize : Type 0
OnlySwitchesResize =
    (offset value : ℕ) (c : ChipState) →
    -- if FCR is written, the write is no switch of the size
    (offset ≡ offsets.FCR → is_switching value c ≡ false) →
    SameSizes c (after_write offset value c)

-- ---- accesses of a machine

-- a chip that has no switch keeps its size for ever
abbrev pub SizesStayWithoutSwitch : Type 0
SizesStayWithoutSwitch =
    (accesses : List Access) (m n : MachineState) →
    -- the chip has no switch of the size
    m.chip.has_size_switch ≡ false → Path MachineStep m accesses n →
    SameSizes m.chip n.chip

-- LCR after an access, by what it was before
abbrev pub lcr_after : Access → (lcr : ℕ) → ℕ
lcr_after (Read offset value) lcr = lcr
lcr_after (Write offset value) lcr = if offset == offsets.LCR then value else lcr

-- the access writes FCR while DLAB is set in LCR, so a chip that has the switch may switch its FIFOs
abbrev pub may_switch : (lcr : ℕ) → Access → Bool
may_switch lcr (Read offset value) = false
may_switch lcr (Write offset value) = (offset == offsets.FCR) && has_any lcr LCR.DLAB.0

-- none of these accesses writes FCR while DLAB is set, if LCR holds this before them: so they switch the FIFOs of no
-- chip
abbrev pub NeverSwitches : (lcr : ℕ) → List Access → Type 0
NeverSwitches lcr [] = Unit {0}
NeverSwitches lcr (access ∷ rest) = (may_switch lcr access ≡ false) × NeverSwitches (lcr_after access lcr) rest

-- and each chip keeps it over such accesses
abbrev pub SizesStayWithoutDlab : Type 0
SizesStayWithoutDlab =
    (accesses : List Access) (m n : MachineState) → NeverSwitches m.chip.latches.lcr accesses →
    Path MachineStep m accesses n → SameSizes m.chip n.chip
