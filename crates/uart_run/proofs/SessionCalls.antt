-- The calls of a session in turn.
use Rattle.uart_run.proofs.Names.{◌≡◌, ℕ, List, [], ◌∷◌, ◌++◌, refl, sym, ◌∙◌, ap, subst, bit_or, saved_lsr, saved_msr, fields, inner_of}
use Rattle.uart_run.proofs.Names.{cut_of, IsSound, State, machine_of, Link, Chain, Ready, Call, reported, received, reported_by}
use Rattle.uart_run.proofs.Names.{received_by, AllNoLsr, AllNoMsr, Modes, fixed}
use Rattle.uart_spec.specs.declared.registers.offsets.TheConstants as offsets
use Rattle.uart_spec.specs.declared.registers.line_status.TheConstants.LSR
use Rattle.uart_spec.specs.declared.registers.modem_status.TheConstants.MSR
use Rattle.uart_run.proofs.CallLaws.{Passes, InSession, passes_none, saved_both}
use Rattle.uart_run.proofs.FrameLaws.{Goes, GoOn, AllAt, goes_still, session_fits, in_session-gone, passed_onwards, same_cut}

-- the modes in which a session runs are those in which it begins
pub modes_of : State → Modes
modes_of s =
    record {
      lcr = (machine_of s).chip.latches.lcr;
      mcr = (machine_of s).chip.latches.mcr;
      fifo = (machine_of s).chip.fifo;
      cut = cut_of (machine_of s).chip;
    }

pub modes_cut : (s : State) → (modes_of s).cut ≡ cut_of (machine_of s).chip
unfolding modes_of
modes_cut s = refl

pub modes_mcr : (s : State) → (modes_of s).mcr ≡ (machine_of s).chip.latches.mcr
unfolding modes_of
modes_mcr s = refl

pub in_session : (s : State) → Ready s → IsSound (machine_of s) → InSession (modes_of s) s
unfolding modes_of
in_session s ready sound = record {
  open_modes = record { dlab = ready.dlab; loopback = ready.loopback };
  stands = record { sound = sound; modes = record { lcr = refl; mcr = refl; fifo = refl; cut = refl } };
  fifo = sym ready.fifo;
  fits = ready.fits;
}

passes-trans : (x y : Modes) (N M O P : Type 0) (s t u : State) (ws vs rs qs : List ℕ) → fixed y ≡ fixed x → Passes x N M s t ws rs →
    Passes y O P t u vs qs → Passes y (N × O) (M × P) s u (ws ++ vs) (rs ++ qs)
passes-trans x y N M O P s t u ws vs rs qs same p q = record {
  made = p.made ++ q.made;
  passed = passed_onwards x y (machine_of s) (machine_of t) (machine_of u) p.made q.made ws vs rs qs same p.passed q.passed;
  fifo = q.fifo ∙ p.fifo;
  lsr =
      λ n. q.lsr n.1
      ∙ (ap (λ v. bit_or v (saved_lsr q.made)) (p.lsr n.0) ∙ saved_both offsets.LSR LSR.LINE_ERRORS.0
      (fields (inner_of s)).lsr p.made q.made);
  msr =
      λ n. q.msr n.1
      ∙ (ap (λ v. bit_or v (saved_msr q.made)) (p.msr n.0) ∙ saved_both offsets.MSR MSR.CHANGES.0 (fields (inner_of s)).msr p.made q.made);
}

goes-trans : (x : Modes) (N M O P : Type 0) (s t u : State) (ws vs rs qs : List ℕ) → (p : Goes x N M s t ws rs) →
    Goes p.modes O P t u vs qs → Goes x (N × O) (M × P) s u (ws ++ vs) (rs ++ qs)
goes-trans x N M O P s t u ws vs rs qs p q = record {
  modes = q.modes;
  same = q.same ∙ p.same;
  unbroken = λ u. q.unbroken (p.unbroken u);
  open_modes = q.open_modes;
  passes = passes-trans p.modes q.modes N M O P s t u ws vs rs qs q.same p.passes q.passes;
}

-- the calls of a session in turn
pub goes_chain : {Within : State → Call → Type 0} {cut : ℕ → ℕ} (k : GoOn Within cut) (x : Modes) (s t : State) (links : List Link) →
    x.cut ≡ cut → InSession x s → AllAt Within links → Chain s links t →
    Goes x (AllNoLsr links) (AllNoMsr links) s t (reported links) (received links)
goes_chain k x s t [] same w i h = rw h (goes_still x _ _ s s [] [] w (passes_none x _ _ s w))
goes_chain {Within} {cut} k x s t (link ∷ links) same w i h =
    let W : State → Type 0 = λ v. InSession x v in
    let begins = subst W (sym h.0) w in
    let first = k.go x link.before link.after link.call link.answer same begins i.0 h.1 in
    let rest = goes_chain k first.modes link.after t links (same_cut x first.modes first.same ∙ same)
    (in_session-gone x _ _ link.before link.after _ _ begins first (session_fits x link.before link.after link.call link.answer begins h.1))
    i.1 h.2 in
    let P : State → Type 0 = λ v. Goes x (AllNoLsr (link ∷ links)) (AllNoMsr (link ∷ links)) v t (reported (link ∷ links))
    (received (link ∷ links)) in
    subst P h.0 (goes-trans x _ _ _ _ link.before link.after t (reported_by link.call link.answer) (reported links)
    (received_by link.call link.answer) (received links) first rest)
