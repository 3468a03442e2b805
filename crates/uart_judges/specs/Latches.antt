-- What is known of the registers that keep what is written to them: at the start, and after a read or a write.
use Rattle.std.specs.Prelude.{ℕ, Bool, true, false, Option, Some, None, ◌==◌, bit_and, if◌then◌else◌}
use Rattle.uart_spec.specs.Bits.{has_any}
use Rattle.uart_spec.specs.declared.registers.line_control.TheConstants.LCR
use Rattle.uart_spec.specs.declared.registers.offsets.TheConstants as offsets
use Rattle.uart_chip.specs.Masks.{ier_bits, mcr_bits}
use Rattle.uart_judges.specs.declared.replay.known.Start.{Start}
use Rattle.uart_judges.specs.declared.replay.known.Start.TheVariants.{Reset, InUse}
use Rattle.uart_judges.specs.declared.replay.latches.KnownLatches.{KnownLatches}

-- the latches, all with this value
abbrev pub all_latches : Option ℕ → KnownLatches
all_latches each = record { ier = each; lcr = each; mcr = each; scr = each; dll = each; dlm = each }

-- the latches at power-on: all are clear
abbrev pub first_latches : Start → KnownLatches
first_latches Reset = all_latches (Some 0)
first_latches InUse = all_latches None

-- ---- what the latches show

-- DLAB in this value of LCR
abbrev pub dlab_in : Option ℕ → Option Bool
dlab_in None = None
dlab_in (Some lcr) = Some (has_any lcr LCR.DLAB.0)

-- offsets 0 and 1 are the divisor latch
abbrev pub dlab : KnownLatches → Option Bool
dlab l = dlab_in l.lcr

-- what a read returns that depends on DLAB
abbrev pub under_dlab : Option Bool → (on off : Option ℕ) → Option ℕ
under_dlab None on off = None
under_dlab (Some true) on off = on
under_dlab (Some false) on off = off

-- what a read of the register returns, if it keeps what is written to it and that is known
abbrev pub shown : ℕ → KnownLatches → Option ℕ
shown offset l =
    if offset == offsets.DATA then under_dlab (dlab l) l.dll None
    else if offset == offsets.IER then under_dlab (dlab l) l.dlm l.ier
    else if offset == offsets.LCR then l.lcr
    else if offset == offsets.MCR then l.mcr
    else if offset == offsets.SPR then l.scr
    else None

-- ---- a read that returned this value

-- what is known of the latches after a read of offset 0, under this DLAB
abbrev pub data_read : Option Bool → ℕ → KnownLatches → KnownLatches
data_read None value l = l
data_read (Some true) value l = record l { dll = Some value }
data_read (Some false) value l = l

abbrev pub after_read_data : KnownLatches → ℕ → KnownLatches
after_read_data l value = data_read (dlab l) value l

-- what is known of the latches after a read of offset 1, under this DLAB
abbrev pub ier_read : Option Bool → ℕ → KnownLatches → KnownLatches
ier_read None value l = l
ier_read (Some true) value l = record l { dlm = Some value }
ier_read (Some false) value l = record l { ier = Some value }

abbrev pub after_read_ier : KnownLatches → ℕ → KnownLatches
after_read_ier l value = ier_read (dlab l) value l

-- what is known after a read of any register
abbrev pub after_read : ℕ → ℕ → KnownLatches → KnownLatches
after_read offset value l =
    if offset == offsets.DATA then after_read_data l value
    else if offset == offsets.IER then after_read_ier l value
    else if offset == offsets.LCR then record l { lcr = Some value }
    else if offset == offsets.MCR then record l { mcr = Some value }
    else if offset == offsets.SPR then record l { scr = Some value }
    else l

-- ---- a write of this value

-- what is known of the latches after a write of offset 0, under this DLAB
abbrev pub data_written : Option Bool → ℕ → KnownLatches → KnownLatches
data_written None value l = record l { dll = None }
data_written (Some is_open) value l = data_read (Some is_open) value l

-- what is known of the latches after a write of offset 1, under this DLAB
abbrev pub ier_written : Option Bool → ℕ → KnownLatches → KnownLatches
ier_written None value l = record l { dlm = None; ier = None }
ier_written (Some true) value l = record l { dlm = Some value }
ier_written (Some false) value l = record l { ier = Some (bit_and value ier_bits) }

-- what is known after a write of any register: LCR and SPR keep the value, and MCR a part of it
abbrev pub after_write : ℕ → ℕ → KnownLatches → KnownLatches
after_write offset value l =
    if offset == offsets.DATA then data_written (dlab l) value l
    else if offset == offsets.IER then ier_written (dlab l) value l
    else if offset == offsets.MCR then record l { mcr = Some (bit_and value mcr_bits) }
    else after_read offset value l
