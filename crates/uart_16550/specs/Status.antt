-- The lists of the register calls, and of the register dump.
use Rattle.std.specs.Prelude.{◌≡◌, ℕ, Bool, true, false, List, [], ◌∷◌, ◌++◌, Result, Ok, Err}
use Rattle.std.specs.Int.RustNames.{bit_or}
use Rattle.bitflags.specs.Sets.{without}
use Rattle.uart_spec.specs.Bits.{has}
use Rattle.uart_spec.specs.declared.errors.RemoteReadyToReceiveError.{RemoteReadyToReceiveError}
use Rattle.uart_spec.specs.declared.errors.RemoteReadyToReceiveError.TheVariants.{
  NoRemoteConnectedNoDSR,
  NoRemoteConnectedNoCD,
  RemoteNotClearToSend,
}
use Rattle.uart_spec.specs.declared.registers.offsets.TheConstants as offsets
use Rattle.uart_spec.specs.declared.registers.line_control.TheConstants.LCR
use Rattle.uart_spec.specs.declared.registers.modem_status.TheConstants.MSR
use Rattle.uart_spec.specs.declared.access.Access.{Access}
use Rattle.uart_spec.specs.declared.access.Access.TheVariants.{Read, Write}
use Rattle.uart_16550.specs.Grammar.{Language, Asks}
use Rattle.uart_16550.specs.declared.driver.status.TheConstants.{UNDRIVEN}
use Rattle.uart_16550.specs.Driver.{Fields, Doing, saving, with_saved, with_interrupts}
use Rattle.uart_spec.specs.declared.dump.ConfigRegisterDump.{ConfigRegisterDump}

-- `lsr`: one read of LSR, which is returned joined with the saved bits, of which none are left
abbrev pub TakesLsr : ℕ → Doing
TakesLsr result f l after =
    (status : ℕ) × (l ≡ Read offsets.LSR status ∷ []) × (result ≡ bit_or status f.lsr) × (after ≡ with_saved 0 f.msr f)

-- `msr`: one read of MSR, which is returned joined with the saved bits, of which none are left
abbrev pub TakesMsr : ℕ → Doing
TakesMsr result f l after =
    (status : ℕ) × (l ≡ Read offsets.MSR status ∷ []) × (result ≡ bit_or status f.msr) × (after ≡ with_saved f.lsr 0 f)

-- `is_gone`: one read of MCR, which shows all bits set, as a bus does that nobody drives, exactly if the result is
-- `true`
abbrev pub ShowsGone : Bool → Language
ShowsGone gone = Asks offsets.MCR UNDRIVEN gone

-- DSR and CTS are set, or the line that the error reports is clear
abbrev pub ShowsConnection : {T : Type 0} → Result T RemoteReadyToReceiveError → ℕ → Type 0
ShowsConnection (Ok x) status = (has status MSR.DSR.0 ≡ true) × (has status MSR.CTS.0 ≡ true)
ShowsConnection (Err NoRemoteConnectedNoDSR) status = has status MSR.DSR.0 ≡ false
ShowsConnection (Err NoRemoteConnectedNoCD) status = ⊥
ShowsConnection (Err RemoteNotClearToSend) status = (has status MSR.DSR.0 ≡ true) × (has status MSR.CTS.0 ≡ false)

-- `check_connected`: one read of MSR, which shows DSR and CTS; or which does not show the one that the error names
abbrev pub Connects : {T : Type 0} → Result T RemoteReadyToReceiveError → Language
Connects result s l = (status : ℕ) × ShowsConnection result status × (l ≡ Read offsets.MSR status ∷ [])

-- the divisor latch is read under DLAB, low byte first, and LCR written back
abbrev pub divisor_accesses : (lcr low high : ℕ) → List Access
divisor_accesses lcr low high =
    Read offsets.LCR lcr ∷ Write offsets.LCR (bit_or lcr LCR.DLAB.0) ∷ Read offsets.DLL low ∷ Read offsets.DLM high ∷
    Write offsets.LCR lcr ∷ []

-- `dll_dlm`: LCR is read, and written with DLAB; the divisor latch is read, its low byte first; and LCR is written back
abbrev pub ReadsDivisor : (low high : ℕ) → Language
ReadsDivisor low high s l = (lcr : ℕ) × (l ≡ divisor_accesses lcr low high)

-- the interrupts are stored in the configuration and written to IER
abbrev pub StoresInterrupts : ℕ → Doing
StoresInterrupts bits f l after = (l ≡ Write offsets.IER bits ∷ []) × (after ≡ with_interrupts bits f)

-- `enable_interrupts`: IER is read; what it shows, with these bits added, is stored in the configuration and written
abbrev pub Enables : ℕ → Doing
Enables bits f l after = (ier : ℕ) × (l ≡ Read offsets.IER ier ∷ Write offsets.IER (bit_or ier bits) ∷ [])
    × (after ≡ with_interrupts (bit_or ier bits) f)

-- `disable_interrupts`: IER is read; what it shows, without these bits, is stored in the configuration and written
abbrev pub Disables : ℕ → Doing
Disables bits f l after = (ier : ℕ) × (l ≡ Read offsets.IER ier ∷ Write offsets.IER (without 8 ier bits) ∷ [])
    × (after ≡ with_interrupts (without 8 ier bits) f)

-- IER is read, and written with 0 and then with what was read
abbrev pub retrigger_accesses : (ier : ℕ) → List Access
retrigger_accesses ier = Read offsets.IER ier ∷ Write offsets.IER 0 ∷ Write offsets.IER ier ∷ []

-- `retrigger_interrupts`: IER is read, then 0 is written to it, and then what was read
abbrev pub Retriggers : Language
Retriggers s l = (ier : ℕ) × (l ≡ retrigger_accesses ier)

-- the seven registers after the divisor latch: IER, ISR, LCR, MCR, LSR, MSR, SPR
abbrev pub dump_reads : (lsr msr : ℕ) → ConfigRegisterDump → List Access
dump_reads lsr msr dump =
    Read offsets.IER dump.ier.0 ∷ Read offsets.ISR dump.isr.0 ∷ Read offsets.LCR dump.lcr.0 ∷
    Read offsets.MCR dump.mcr.0 ∷
    Read offsets.LSR lsr ∷ Read offsets.MSR msr ∷ Read offsets.SPR dump.spr ∷ []

-- `config_register_dump`: the divisor latch and the seven other registers are read. LSR and MSR are returned joined
-- with the saved bits, and all of these stay saved
pub record Dumps (dump : ConfigRegisterDump) (f : Fields) (l : List Access) (after : Fields) : Type 0 where
  pub lcr : ℕ
  pub lsr : ℕ
  pub msr : ℕ
  pub is : l ≡ divisor_accesses lcr dump.dll dump.dlm ++ dump_reads lsr msr dump
  pub shows_lsr : dump.lsr.0 ≡ bit_or lsr f.lsr
  pub shows_msr : dump.msr.0 ≡ bit_or msr f.msr
  pub keeps : after ≡ saving f l
