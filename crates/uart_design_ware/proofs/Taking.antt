-- A write of LCR is taken, or a fault tells that it is not.
use Rattle.std.proofs.Common.{◌≡◌, ℕ, Bool, true, false, List, [], ◌∷◌, ◌++◌, refl, sym, ◌∙◌, ap, append_assoc, inl, inr, Some, None}
use Rattle.std.proofs.Common.{MatchBool}
use Rattle.std.specs.Prelude.{◌⊎◌}
use Rattle.uart_spec.specs.declared.access.Access.{Access}
use Rattle.uart_spec.specs.declared.access.Access.TheVariants.{Read, Write}
use Rattle.uart_spec.specs.declared.registers.offsets.TheConstants as offsets
use Rattle.uart_design_ware.specs.declared.fault.DesignWareFault.{DesignWareFault}
use Rattle.uart_design_ware.specs.declared.fault.DesignWareFault.TheVariants.{LineControlIgnored}
use Rattle.uart_design_ware.specs.Held.{Held}
use Rattle.uart_design_ware.specs.Doing.{Nothing, Next, If, Where, Writes, Sets}
use Rattle.uart_design_ware.specs.Faults.{BeginsFault, EndsFault, RestoresInterrupts, ends_now, opens_latch, with_fault}
use Rattle.uart_design_ware.specs.Line.{OffersLine, TriesLine, AsksIfBusy, GivesUp, Succeeds, shows_line}
use Rattle.uart_design_ware.specs.Laws.{IsTaken, LineIsTakenOrTold}
use Rattle.uart_design_ware.proofs.Meant.{line_is_meant}

abbrev Behind : List Access → Type 0
Behind l = (l ≡ []) ⊎ ((value : ℕ) × (l ≡ Write offsets.IER value ∷ []))

-- the end of a fault writes IER, or nothing
ends_behind : (h : Held) (l : List Access) (after : Held) → EndsFault h l after → Behind l
ends_behind h l after t =
    elim (ends_now h) as (λ b. MatchBool b (Next (Sets (with_fault None)) RestoresInterrupts h l after) (Nothing h l after) → Behind l) [
      | true ↦ λ t. inr (t.mid.interrupts, rw (t.whole, t.first.0, t.second.0) refl)
      | false ↦ λ t. inl t.0
    ] t

-- the accesses of an offer that is taken
record Offered (line : ℕ) (l : List Access) : Type 0 where
  usr : ℕ
  shown : ℕ
  is : l ≡ Read 31 usr ∷ Write offsets.LCR line ∷ Read offsets.LCR shown ∷ []
  shows : shows_line shown line ≡ true

offered_if : (line : ℕ) (h : Held) (l : List Access) (after : Held) (busy : Bool) →
    Next (AsksIfBusy busy) (If (λ h. busy) (Where (true ≡ false) Nothing) (TriesLine line true)) h l after → Offered line l
offered_if line h l after true t = let wrong : true ≡ false = t.second.0 in absurd cc
offered_if line h l after false t =
    let asked = t.first in
    let tried = t.second in
    record {
      usr = asked.0;
      shown = tried.0;
      is = rw (t.whole, asked.1.1.0, tried.1.1.0) refl;
      shows = sym tried.1.0;
    }

offered : (line : ℕ) (h : Held) (l : List Access) (after : Held) → OffersLine line true h l after → Offered line l
offered line h l after t = offered_if line h l after t.0 t.1

-- a fault that begins is there afterwards
begins : (fault : DesignWareFault) (h : Held) (l : List Access) (after : Held) → BeginsFault fault h l after → after.fault ≡ Some fault
begins fault h l after t =
    let shown = t.second.0 in
    let rest = t.second.1 in
    let ended : after ≡ rest.mid =
    elim (opens_latch shown) as (λ b.
    MatchBool b (Nothing rest.mid rest.back after) (Writes offsets.IER 0 rest.mid rest.back after) → after ≡ rest.mid) [
      | true ↦ λ u. u.1
      | false ↦ λ u. u.1
    ] rest.second in
    let same : after ≡ with_fault (Some fault) h = ended ∙ rest.first.1 ∙ t.first.1 in
    ap (λ (x : Held). x.fault) same

-- what comes after the write was remembered
taken_of : (line : ℕ) (h : Held) (l : List Access) (after : Held) → Succeeds line h l after → IsTaken line l
taken_of line h l after s =
    let tried = s.2 in
    let last = tried.second in
    let o = offered line tried.mid last.front last.mid last.first in
    record {
      before = tried.front ++ Read 31 o.usr ∷ [];
      behind = last.back;
      shown = o.shown;
      is = tried.whole
          ∙ ap (λ (x : List Access). tried.front ++ x) (last.whole ∙ ap (λ (x : List Access). x ++ last.back) o.is)
          ∙ sym (append_assoc tried.front (Read 31 o.usr ∷ []) (Write offsets.LCR line ∷ Read offsets.LCR o.shown ∷ last.back));
      shows = o.shows;
      last = ends_behind last.mid last.back after last.second;
    }

told_of : (line : ℕ) (h : Held) (l : List Access) (after : Held) → GivesUp line h l after → after.fault ≡ Some LineControlIgnored
told_of line h l after g =
    let fault = g.second.first in
    let ended = g.second.second in
    ap (λ (x : Held). x.fault) ended.1.1 ∙ begins LineControlIgnored g.mid g.second.front g.second.mid fault

pub taken_or_told : LineIsTakenOrTold
taken_or_told line h after l performed =
    let t = line_is_meant line h l after performed in
    let none : l ≡ t.back = t.whole ∙ ap (λ (x : List Access). x ++ t.back) t.first.0 in
    elim t.second [
      | inl s ↦ inl (rw none (taken_of line t.mid t.back after s))
      | inr g ↦ inr (told_of line t.mid t.back after g)
    ]
