-- Writes of LCR, which a busy chip ignores.
use Rattle.std.specs.Prelude.{◌≡◌, ◌<◌, ◌⊎◌, ℕ, Bool, true, false, ◌==◌, [], ◌∷◌, ◌++◌, length}
use Rattle.std.specs.Int.RustNames.{bit_and, bit_or}
use Rattle.bitflags.specs.Sets.{without}
use Rattle.uart_spec.specs.Bits.{has}
use Rattle.uart_spec.specs.declared.access.Access.TheVariants.{Read, Write}
use Rattle.uart_spec.specs.declared.registers.fifo_control.TheConstants.FCR
use Rattle.uart_spec.specs.declared.registers.line_control.TheConstants.LCR
use Rattle.uart_spec.specs.declared.registers.line_status.TheConstants.LSR
use Rattle.uart_spec.specs.declared.registers.offsets.TheConstants as offsets
use Rattle.uart_design_ware.specs.declared.fault.DesignWareFault.TheVariants.{LineControlIgnored}
use Rattle.uart_design_ware.specs.declared.kept.TheConstants.{KEPT}
use Rattle.uart_design_ware.specs.declared.line.TheConstants.{BUSY}
use Rattle.uart_design_ware.specs.declared.registers.TheConstants.{USR}
use Rattle.uart_design_ware.specs.Held.{Held}
use Rattle.uart_design_ware.specs.Doing.{Doing, Sets, Nothing, Makes, Reads, Looks, Next, AnyOf, Where, If}
use Rattle.uart_design_ware.specs.Doing.{InOrder, Times}
use Rattle.uart_design_ware.specs.Faults.{opens_latch, BeginsFault, EndsFault}

-- whether USR says that the chip is busy
abbrev pub is_busy : ℕ → Bool
is_busy usr = has usr BUSY

-- whether LCR shows what was written to it. Some versions do not keep the bit of stick parity
abbrev pub shows_line : ℕ → ℕ → Bool
shows_line shown line = without 8 shown LCR.PARITY2.0 == without 8 line LCR.PARITY2.0

-- one read of USR, which says whether the chip is busy
abbrev pub AsksIfBusy : Bool → Doing
AsksIfBusy busy = AnyOf (λ usr. Where (busy ≡ is_busy usr) (Reads USR usr))

-- LCR is written and read back, and shows what was written or does not
abbrev pub TriesLine : ℕ → Bool → Doing
TriesLine line taken = AnyOf (λ shown. Where (taken ≡ shows_line shown line)
    (Makes (Write offsets.LCR line ∷ Read offsets.LCR shown ∷ [])))

-- a character with the errors that LSR showed for it, and those that were saved before
abbrev pub with_character : ℕ → ℕ → Held → Held
with_character lsr byte h = record h {
  kept = h.kept ++ record {
    byte = byte;
    errors = record { 0 = bit_or h.cleared (bit_and lsr LSR.LINE_ERRORS.0) };
  } ∷ [];
  cleared = 0;
}

-- whether there is room for no more characters
abbrev pub is_full : Held → Bool
is_full h = length h.kept == KEPT

-- one character is taken and kept: there is room for it, and LSR showed it before
abbrev pub Keeps : ℕ × ℕ → Doing
Keeps character h l after = (is_full h ≡ false) × (has character.0 LSR.DATA_READY.0 ≡ true)
    × (l ≡ Read offsets.LSR character.0 ∷ Read offsets.DATA character.1 ∷ [])
    × (after ≡ with_character character.0 character.1 h)

-- there is room for no more, or LSR shows no data
abbrev pub FindsNoMore : Doing
FindsNoMore = If is_full Nothing (AnyOf (λ lsr. Where (has lsr LSR.DATA_READY.0 ≡ false) (Looks lsr)))

-- characters are taken and kept, until there is room for no more, or LSR shows none
abbrev pub KeepsWaiting : Doing
KeepsWaiting = AnyOf (λ characters. Next (InOrder Keeps characters) FindsNoMore)

-- the receiver is reset, and an overrun is saved for it
abbrev pub ResetsReceiver : Doing
ResetsReceiver h l after = (l ≡ Write offsets.FCR (bit_or h.fifo_control FCR.RX_FIFO_RESET.0) ∷ [])
    × (after ≡ record h { cleared = bit_or h.cleared LSR.OVERRUN_ERROR.0 })

-- proved: Received data are discarded only while DLAB is set in the chip, where they cannot be read; LSR then shows an
--   overrun
-- on: `DiscardsUnreadable`, on `DesignWare::write`

-- while offset 0 is the divisor latch, data that LSR shows are discarded
abbrev pub DiscardsUnreadable : Doing
DiscardsUnreadable = AnyOf (λ lsr. Next (Looks lsr) (If (λ h. has lsr LSR.DATA_READY.0) ResetsReceiver Nothing))

-- received data, which keep the chip busy, are put out of the way
abbrev pub MakesRoom : Doing
MakesRoom = AnyOf (λ shown. Next (Reads offsets.LCR shown)
    (If (λ h. opens_latch shown) DiscardsUnreadable KeepsWaiting))

-- if the chip is not busy, LCR is written and read back. It is taken or not
abbrev pub OffersLine : ℕ → Bool → Doing
OffersLine line taken =
    AnyOf (λ busy. Next (AsksIfBusy busy) (If (λ h. busy) (Where (taken ≡ false) Nothing) (TriesLine line taken)))

-- a miss, and received data are put out of the way
abbrev pub TriesInVain : ℕ → Doing
TriesInVain line = Next (OffersLine line false) MakesRoom

-- misses as often as the patience allows. It is a fault, and the interrupt for the last write is ended
abbrev pub GivesUp : ℕ → Doing
GivesUp line h = Next (Times h.patience (TriesInVain line))
    (Next (BeginsFault LineControlIgnored) (AnyOf (λ usr. Reads USR usr))) h

-- fewer misses than the patience allows, and then LCR is taken
abbrev pub Succeeds : ℕ → Doing
Succeeds line h l after = (n : ℕ) × (n < h.patience)
    × Next (Times n (TriesInVain line)) (Next (OffersLine line true) EndsFault) h l after

-- what the driver writes to LCR is remembered
abbrev pub with_line : ℕ → Held → Held
with_line line h = record h { line = line }

-- a write of LCR: the chip takes it within the patience, or it is a fault
abbrev pub WritesLine : ℕ → Doing
WritesLine line = Next (Sets (with_line line)) (λ h l after. Succeeds line h l after ⊎ GivesUp line h l after)
