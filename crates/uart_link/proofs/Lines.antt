-- The outputs of one end are the lines of the other.
use Rattle.uart_link.proofs.Names.{◌≡◌, ℕ, Bool, true, false, not, ◌&&◌, [], ◌∷◌, refl, ◌∙◌, ap, if◌then◌else◌, or-true, has_any, Read}
use Rattle.uart_link.proofs.Names.{Write, Made, backend_of, switched, unlooped, SetsControl, SetsOutput, has_and, has_not, has_or}
use Rattle.uart_link.proofs.Names.{ChipState, is_loopback, is_auto_flow, rts_output, is_data_pending, MachineState, MachineStep, kept_mcr}
use Rattle.uart_link.proofs.Names.{kept_bit, Kept, kept_list, lines_joined, lines_from}
use Rattle.uart_spec.specs.declared.registers.modem_control.TheConstants.MCR
use Rattle.uart_spec.specs.declared.registers.modem_status.TheConstants.MSR
use Rattle.uart_spec.specs.declared.registers.offsets.TheConstants as offsets
use Rattle.uart_16550.specs.declared.driver.Uart16550.{Uart16550}
use Rattle.uart_run.proofs.FrameLaws.{unlooped_off}

-- ---- the lines by RTS and DTR

cts_by : (rts dtr : Bool) → has_any (lines_joined rts dtr) MSR.CTS.0 ≡ rts
cts_by true true = refl
cts_by true false = refl
cts_by false true = refl
cts_by false false = refl

dsr_by : (rts dtr : Bool) → has_any (lines_joined rts dtr) MSR.DSR.0 ≡ dtr
dsr_by true true = refl
dsr_by true false = refl
dsr_by false true = refl
dsr_by false false = refl

cd_by : (rts dtr : Bool) → has_any (lines_joined rts dtr) MSR.CD.0 ≡ dtr
cd_by true true = refl
cd_by true false = refl
cd_by false true = refl
cd_by false false = refl

-- without automatic flow control RTS is that of MCR
pub rts_of_mcr : (c : ChipState) → is_auto_flow c ≡ false → rts_output c ≡ has_any c.latches.mcr MCR.RTS.0
rts_of_mcr c off =
    ap (λ (b : Bool). has_any c.latches.mcr MCR.RTS.0 && not (b && (c.fifo && is_data_pending c.fifo c.receiver))) off
    ∙ yes_and (has_any c.latches.mcr MCR.RTS.0)
  where
    yes_and : (b : Bool) → (b && true) ≡ b
    yes_and true = refl
    yes_and false = refl

-- what is written to MCR, outside of loopback, is DTR
lines_out : (c : ChipState) (f : Bool) (value : ℕ) → c.latches.mcr ≡ kept_mcr f (unlooped value) →
    lines_from c ≡ lines_joined (rts_output c) (has_any value MCR.DTR.0)
lines_out c f value e =
    let off : is_loopback c.latches ≡ false = ap (λ mcr. has_any mcr MCR.LOOP_BACK.0) e ∙ unlooped_off f value in
    let dtr : has_any c.latches.mcr MCR.DTR.0 ≡ has_any value MCR.DTR.0 =
    ap (λ mcr. has_any mcr MCR.DTR.0) e ∙ (kept_bit f 0 (unlooped value) refl refl ∙ has_and 0 value 239 refl) in
    ap (λ (b : Bool). if b then 0 else lines_joined (rts_output c) (has_any c.latches.mcr MCR.DTR.0)) off
    ∙ ap (lines_joined (rts_output c)) dtr

rts_out : (c : ChipState) (f : Bool) (value : ℕ) → is_auto_flow c ≡ false → c.latches.mcr ≡ kept_mcr f (unlooped value) →
    rts_output c ≡ has_any value MCR.RTS.0
rts_out c f value off e =
    rts_of_mcr c off ∙ (ap (λ mcr. has_any mcr MCR.RTS.0) e ∙ (kept_bit f 1 (unlooped value) refl refl ∙ has_and 1 value 239 refl))

-- ---- the calls

pub control_lines : (outputs : ℕ) (before after : Uart16550 MachineState) → Made MachineStep (SetsControl outputs) before after →
    is_auto_flow (backend_of after).chip ≡ false →
    lines_from (backend_of after).chip ≡ lines_joined (has_any outputs MCR.RTS.0) (has_any outputs MCR.DTR.0)
control_lines outputs before after made off =
    let kept = kept_list made.list (Write offsets.MCR (unlooped outputs) ∷ []) (backend_of before) (backend_of after) made.fits.is
    made.path in
    let c = (backend_of after).chip in
    let mcr = ap (λ (k : Kept). k.latches.mcr) kept in
    let f = (backend_of before).chip.auto_flow in
    lines_out c f outputs mcr ∙ ap (λ (b : Bool). lines_joined b (has_any outputs MCR.DTR.0)) (rts_out c f outputs off mcr)

output_mcr : (output : ℕ) (on : Bool) (before after : Uart16550 MachineState) →
    (made : Made MachineStep (SetsOutput output on) before after) →
    (backend_of after).chip.latches.mcr ≡ kept_mcr (backend_of before).chip.auto_flow (unlooped (switched on output made.fits.0))
output_mcr output on before after made =
    let mcr = made.fits.0 in
    ap (λ (k : Kept). k.latches.mcr)
    (kept_list made.list (Read offsets.MCR mcr ∷ Write offsets.MCR (unlooped (switched on output mcr)) ∷ []) (backend_of before)
    (backend_of after) made.fits.1 made.path)

rts_switched : (on : Bool) (mcr : ℕ) → has_any (switched on MCR.RTS.0 mcr) MCR.RTS.0 ≡ on
rts_switched true mcr = has_or 1 mcr MCR.RTS.0 ∙ or-true (has_any mcr MCR.RTS.0)
rts_switched false mcr = has_not 1 mcr 253 refl

dtr_switched : (on : Bool) (mcr : ℕ) → has_any (switched on MCR.DTR.0 mcr) MCR.DTR.0 ≡ on
dtr_switched true mcr = has_or 0 mcr MCR.DTR.0 ∙ or-true (has_any mcr MCR.DTR.0)
dtr_switched false mcr = has_not 0 mcr 254 refl

pub rts_line : (on : Bool) (before after : Uart16550 MachineState) → Made MachineStep (SetsOutput MCR.RTS.0 on) before after →
    is_auto_flow (backend_of after).chip ≡ false → has_any (lines_from (backend_of after).chip) MSR.CTS.0 ≡ on
rts_line on before after made off =
    let value = switched on MCR.RTS.0 made.fits.0 in
    let c = (backend_of after).chip in
    let f = (backend_of before).chip.auto_flow in
    let mcr = output_mcr MCR.RTS.0 on before after made in
    ap (λ (lines : ℕ). has_any lines MSR.CTS.0) (lines_out c f value mcr)
    ∙ (cts_by (rts_output c) (has_any value MCR.DTR.0) ∙ (rts_out c f value off mcr ∙ rts_switched on made.fits.0))

pub dtr_lines : (on : Bool) (before after : Uart16550 MachineState) → Made MachineStep (SetsOutput MCR.DTR.0 on) before after →
    (has_any (lines_from (backend_of after).chip) MSR.DSR.0 ≡ on) × (has_any (lines_from (backend_of after).chip) MSR.CD.0 ≡ on)
dtr_lines on before after made =
    let value = switched on MCR.DTR.0 made.fits.0 in
    let rts = rts_output (backend_of after).chip in
    let dtr = has_any value MCR.DTR.0 in
    let now = lines_out (backend_of after).chip (backend_of before).chip.auto_flow value (output_mcr MCR.DTR.0 on before after made) in (
      ap (λ (lines : ℕ). has_any lines MSR.DSR.0) now ∙ (dsr_by rts dtr ∙ dtr_switched on made.fits.0),
      ap (λ (lines : ℕ). has_any lines MSR.CD.0) now ∙ (cd_by rts dtr ∙ dtr_switched on made.fits.0),
    )
