-- The presence check finds the chip: its scratch register keeps what is written.
use Rattle.uart_run.proofs.Names.{◌≡◌, ℕ, false, ◌==◌, inl, inr, List, [], ◌∷◌, ◌∙◌, arith, ap, common_steps, Path, Access, Read, Write}
use Rattle.uart_run.proofs.Names.{Settings, Only, Then, Keeps, KeepsPatterns, ChecksPresence, MachineState, MachineStep, path_as}
use Rattle.uart_spec.specs.declared.registers.offsets.TheConstants as offsets
use Rattle.uart_run.proofs.{Latches.Kept, Latches.kept_access, Latches.kept_step, Pieces.then_parts}

scratch_kept : (pattern back : ℕ) (m n : MachineState) → Path MachineStep m (Write offsets.SPR pattern ∷ Read offsets.SPR back ∷ []) n →
    back ≡ pattern
scratch_kept pattern back m n (m₁, s₁, (m₂, s₂, e)) =
    s₂.1 ∙ ap (λ (k : Kept). k.latches.scr) (kept_access m₁ ∙ kept_step (Write offsets.SPR pattern) m m₁ s₁)

never_lost : (pattern : ℕ) (s : Settings) (l : List Access) (m n : MachineState) → Keeps pattern false s l → Path MachineStep m l n → ⊥
never_lost pattern s l m n (back, differs, is) p =
    let same = scratch_kept pattern back m n (path_as m n l (Write offsets.SPR pattern ∷ Read offsets.SPR back ∷ []) is p) in
    apart back pattern same differs
  where
    apart : (a b : ℕ) → a ≡ b → (a == b) ≡ false → ⊥
    apart a b e d = grind (arith, common_steps)

patterns_kept : (s : Settings) (l : List Access) (m n : MachineState) → KeepsPatterns false s l → Path MachineStep m l n → ⊥
patterns_kept s l m n (inl t) p = never_lost 66 s l m n t p
patterns_kept s l m n (inr t) p = let r = then_parts _ _ s l m n t p in never_lost 115 s r.back r.between n r.second r.after

-- no presence check fails
pub never_absent : (s : Settings) (l : List Access) (m n : MachineState) → ChecksPresence false s l → Path MachineStep m l n → ⊥
never_absent s l m n (old, t) p =
    let a = then_parts (Only (Read offsets.SPR old ∷ [])) (Then (KeepsPatterns false) (Only (Write offsets.SPR old ∷ []))) s l m n t p in
    let b = then_parts (KeepsPatterns false) (Only (Write offsets.SPR old ∷ [])) s a.back a.between n a.second a.after in
    patterns_kept s b.front a.between b.between b.first b.before
