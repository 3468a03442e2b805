-- What the calls that write MCR alone leave: the outputs are as they were asked for.
use Rattle.uart_run.proofs.Names.{◌≡◌, ℕ, ◌-◌, Bool, true, false, List, [], ◌∷◌, refl, sym, ◌∙◌, ap, bit_and, bit_or, and_assoc, without}
use Rattle.uart_run.proofs.Names.{Path, has, IsWithin, Access, Read, Write, switched, unlooped, SetsControl, SetsOutput, ChangesOutput}
use Rattle.uart_run.proofs.Names.{Settings, MachineStep, mcr_bits, mcr_bits_of, kept_mcr, IsSound, and_or, kept_same, latches_of}
use Rattle.uart_run.proofs.Names.{ChangesOutputs, SetsOutputs, Switches, State, machine_of, path_as}
use Rattle.uart_spec.specs.declared.registers.modem_control.TheConstants.MCR
use Rattle.uart_spec.specs.declared.registers.offsets.TheConstants as offsets
use Rattle.uart_16550.proofs.Switching.{changes_rts, changes_dtr}
use Rattle.uart_run.proofs.{FrameLaws.mcr_read, Latches.Kept, Latches.kept_in, Latches.kept_list}

-- ---- MCR keeps all of what is written

-- the outputs among these bits stay among them
pub within_unlooped : (f : Bool) (value : ℕ) → IsWithin value (mcr_bits_of f) → kept_mcr f (unlooped value) ≡ unlooped value
within_unlooped f value within = kept_same f (unlooped value) (go f within)
  where
    go : (f : Bool) → IsWithin value (mcr_bits_of f) → IsWithin (unlooped value) (mcr_bits_of f)
    go true within = and_assoc (mcr_bits_of true) value 239 ∙ (sym (and_assoc 239 value (mcr_bits_of true))
        ∙ ap (λ (v : ℕ). bit_and v 239) within)
    go false within = and_assoc mcr_bits value 239 ∙ (sym (and_assoc 239 value mcr_bits) ∙ ap (λ (v : ℕ). bit_and v 239) within)

within_switched : (on : Bool) (output mcr mask : ℕ) → IsWithin mcr mask → IsWithin output mask →
    bit_and (255 - output) mask ≡ bit_and mask (255 - output) → IsWithin (switched on output mcr) mask
within_switched true output mcr mask within is swap = and_or mcr output mask ∙ (λ i. bit_or (within i) (is i))
within_switched false output mcr mask within is swap =
    and_assoc mask mcr (255 - output) ∙ (ap (bit_and mcr) swap ∙ (sym (and_assoc (255 - output) mcr mask)
    ∙ ap (λ (v : ℕ). bit_and v (255 - output)) within))

-- an output that each chip has, as its bit is in both masks
record IsOutput (output : ℕ) (f : Bool) : Type 0 where
  within : IsWithin output (mcr_bits_of f)
  swaps : bit_and (255 - output) (mcr_bits_of f) ≡ bit_and (mcr_bits_of f) (255 - output)

is_rts : (f : Bool) → IsOutput MCR.RTS.0 f
is_rts true = record { within = refl; swaps = refl }
is_rts false = record { within = refl; swaps = refl }

is_dtr : (f : Bool) → IsOutput MCR.DTR.0 f
is_dtr true = record { within = refl; swaps = refl }
is_dtr false = record { within = refl; swaps = refl }

-- ---- a write of MCR

-- MCR has this value, and nothing else changed
outputs_changed : (s t : State) (mcr : ℕ) →
    kept_in (machine_of t).chip ≡ record (kept_in (machine_of s).chip) { latches = record (latches_of s) { mcr = mcr } } →
    ChangesOutputs s t
outputs_changed s t mcr kept = record {
  latches = ap (λ (k : Kept). k.latches) kept
      ∙ ap (λ (v : ℕ). record (latches_of s) { mcr = v }) (sym (ap (λ (k : Kept). k.latches.mcr) kept));
  fifo = ap (λ (k : Kept). k.fifo) kept;
}

pub sets_outputs : (s t : State) (outputs : ℕ) (v : Settings) (l : List Access) → SetsControl outputs v l →
    Path MachineStep (machine_of s) l (machine_of t) → SetsOutputs outputs s t
sets_outputs s t outputs v l made path =
    let kept = kept_list l (Write offsets.MCR (unlooped outputs) ∷ []) (machine_of s) (machine_of t) made.is path in
    record { changes = outputs_changed s t _ kept; mcr = ap (λ (k : Kept). k.latches.mcr) kept }

switches : (s t : State) (output : ℕ) (on : Bool) (v : Settings) (l : List Access) → ChangesOutput output →
    ((f : Bool) → IsOutput output f) → IsSound (machine_of s) → SetsOutput output on v l →
    Path MachineStep (machine_of s) l (machine_of t) → Switches output on s t
switches s t output on v l changes is w (mcr, list) path =
    let f = (machine_of s).chip.auto_flow in
    let value = unlooped (switched on output mcr) in
    let made : List Access = Read offsets.MCR mcr ∷ Write offsets.MCR value ∷ [] in
    let p = path_as (machine_of s) (machine_of t) l made list path in
    let shown : mcr ≡ (latches_of s).mcr = mcr_read (machine_of s) p.0 mcr p.1 in
    let kept = kept_list l made (machine_of s) (machine_of t) list path in
    let within : IsWithin mcr (mcr_bits_of f) = ap (λ (n : ℕ). bit_and n (mcr_bits_of f)) shown ∙ (w.chip.latches.mcr ∙ sym shown) in
    let now : (latches_of t).mcr ≡ value = ap (λ (k : Kept). k.latches.mcr) kept
    ∙ within_unlooped f (switched on output mcr) (within_switched on output mcr (mcr_bits_of f) within (is f).within (is f).swaps) in
    let only = changes on mcr in
    record {
      changes = outputs_changed s t _ kept;
      is_on = ap (λ (n : ℕ). has n output) now ∙ only.0;
      others = ap (λ (n : ℕ). without 8 n output) now ∙ (only.1 ∙ ap (λ (n : ℕ). without 8 (unlooped n) output) shown);
    }

pub switches_rts : (s t : State) (on : Bool) (v : Settings) (l : List Access) → IsSound (machine_of s) → SetsOutput MCR.RTS.0 on v l →
    Path MachineStep (machine_of s) l (machine_of t) → Switches MCR.RTS.0 on s t
switches_rts s t on v l = switches s t MCR.RTS.0 on v l changes_rts is_rts

pub switches_dtr : (s t : State) (on : Bool) (v : Settings) (l : List Access) → IsSound (machine_of s) → SetsOutput MCR.DTR.0 on v l →
    Path MachineStep (machine_of s) l (machine_of t) → Switches MCR.DTR.0 on s t
switches_dtr s t on v l = switches s t MCR.DTR.0 on v l changes_dtr is_dtr
