-- Each call of a session is a list of steps of the port.
use Rattle.uart_run.proofs.Names.{◌≡◌, ◌≢◌, ℕ, ◌+◌, ◌-◌, Bool, true, false, ◌||◌, List, [], ◌∷◌, ◌++◌, map, length, length-append, arith}
use Rattle.uart_run.proofs.Names.{refl}
use Rattle.uart_run.proofs.Names.{sym, ◌∙◌, ap, subst, append-nil, bit_or, bit_and, or_zero_r, Path, saved_lsr, has_any, Access, Read, Call}
use Rattle.uart_run.proofs.Names.{Answer, Register, Event, fields, Fields, inner_of, cut_of, Port, Step, DoesAll, sent_in, received_in}
use Rattle.uart_run.proofs.Names.{came_in}
use Rattle.uart_run.proofs.Names.{told_in, arriving, between, cut_character, MachineState, MachineStep, Character, has_or, has_and}
use Rattle.uart_run.proofs.Names.{has_none}
use Rattle.uart_run.proofs.Names.{passed-look, PassedBlocks, nothing_taken, look_clears, Passed, Modes, inbox, port, overrun_in}
use Rattle.uart_run.proofs.Names.{does_all-append, sent-append, received-append, came-append, told-append, State, machine_of, CallStep}
use Rattle.uart_run.proofs.Names.{reported_by, received_by, port_of, told_by, arrived}
use Rattle.std.proofs.Math.Seq.{take-append_seam}
use Rattle.uart_spec.specs.declared.registers.line_status.TheConstants.LSR
use Rattle.uart_spec.specs.declared.registers.offsets.TheConstants as offsets
use Rattle.uart_call.specs.declared.call.Call.TheVariants as call
use Rattle.uart_chip.specs.Conserved.{out, waiting}
use Rattle.uart_chip.specs.Transmitter.{room}
use Rattle.uart_run.proofs.{CallLaws.Passes, CallLaws.InSession, FrameLaws.GoOn, FrameLaws.same_cut, FrameLaws.same_fifo}

-- from the one state to the other the port made these steps, in which this was sent, received and told, and what arrived
-- came
pub record PortSteps (s t : State) (written read : List ℕ) (flags : List Bool) : Type 0 where
  pub steps : List Step
  pub leads : DoesAll (port_of s) steps (port_of t)
  pub sent : sent_in steps ≡ map (cut_of (machine_of s).chip) written
  pub received : received_in steps ≡ read
  pub came : came_in steps ≡ arrived s t
  pub told : told_in steps ≡ flags

-- ---- what came

between_passed : (x : Modes) (m n : MachineState) (made : List Access) (ws : List ℕ) (ts : List Character)
    (p : Passed x m n made ws ts) → between m n ≡ p.events
between_passed x m n made ws ts p =
    let long : length m.ahead ≡ length p.events + length n.ahead = ap length p.ahead ∙ length-append p.events n.ahead in
    let few : length m.ahead - length n.ahead ≡ length p.events = omega arith in
    rw (few, p.ahead) (take-append_seam p.events n.ahead)

pub cut_bytes : (cut : ℕ → ℕ) (xs : List Character) →
    map (λ (character : Character). character.byte) (map (cut_character cut) xs) ≡ map (λ (character : Character). cut character.byte) xs
cut_bytes cut [] = refl
cut_bytes cut (x ∷ xs) = ap (λ zs. cut x.byte ∷ zs) (cut_bytes cut xs)

-- ---- a stretch, from a state to another

came_all : (x : Modes) (s t : State) (made : List Access) (ws rs : List ℕ) → cut_of (machine_of s).chip ≡ x.cut →
    (p : PassedBlocks x (machine_of s) (machine_of t) made ws rs) → came_in p.passed.went.receives.stepped.steps ≡ arrived s t
came_all x s t made ws rs cut p =
    let m = machine_of s in
    let n = machine_of t in
    let k = m.chip.receiver.arrived in
    p.passed.went.receives.stepped.came
    ∙ (cut_bytes x.cut (arriving k p.passed.events)
    ∙ (ap (λ (es : List Event). map (λ (character : Character). x.cut character.byte) (arriving k es))
    (sym (between_passed x m n made ws p.takes p.passed))
    ∙ ap (λ (f : ℕ → ℕ). map (λ (character : Character). f character.byte) (arriving k (between m n))) (sym cut)))

received_all : (x : Modes) (s t : State) (made : List Access) (ws rs : List ℕ) →
    (p : PassedBlocks x (machine_of s) (machine_of t) made ws rs) → received_in p.passed.went.receives.stepped.steps ≡ rs
received_all x s t made ws rs p = p.passed.went.receives.stepped.received ∙ p.bytes

-- the port up to what was sent and told
abbrev behind : Modes → State → State → List Access → Port
behind x s t made =
    inbox x.fifo (out (machine_of s)) (has_any (fields (inner_of s)).lsr LSR.OVERRUN_ERROR.0 || overrun_in (saved_lsr made))
    (machine_of t).chip.receiver

leads_all : (x : Modes) (s t : State) (made : List Access) (ws rs : List ℕ) → (machine_of s).chip.fifo ≡ x.fifo →
    (p : PassedBlocks x (machine_of s) (machine_of t) made ws rs) →
    DoesAll (port_of s) p.passed.went.receives.stepped.steps (behind x s t made)
leads_all x s t made ws rs fifo p =
    let st = p.passed.went.receives.stepped in
    let r = (machine_of s).chip.receiver in
    let saved = has_any (fields (inner_of s)).lsr LSR.OVERRUN_ERROR.0 in
    let same : port_of s ≡ inbox x.fifo (out (machine_of s)) saved r =
    ap (λ (f : Bool). port (out (machine_of s)) (waiting (machine_of s)) (r.is_overrun || saved) f (room f r.size)) fifo in
    subst (λ (q : Port). DoesAll q st.steps (behind x s t made)) (sym same) (st.leads (out (machine_of s)) saved)

-- ---- a call that is no `lsr`

by_passes : (x : Modes) (s t : State) (c : Call) (a : Answer) → cut_of (machine_of s).chip ≡ x.cut →
    (machine_of s).chip.fifo ≡ x.fifo → c ≢ call.Lsr → told_by c a ≡ [] →
    Passes x (c ≢ call.Lsr) (c ≢ call.Msr) s t (reported_by c a) (received_by c a) →
    PortSteps s t (reported_by c a) (received_by c a) (told_by c a)
by_passes x s t c a cut fifo other untold q =
    let ws = reported_by c a in
    let rs = received_by c a in
    let p = q.passed in
    let went = p.passed.went in
    let st = went.receives.stepped in
    let saved = has_any (fields (inner_of s)).lsr LSR.OVERRUN_ERROR.0 in
    let r = (machine_of t).chip.receiver in
    let last : List Step = Step.Sends (map x.cut ws) ∷ [] in
    let lost : has_any (fields (inner_of t)).lsr LSR.OVERRUN_ERROR.0 ≡ (saved || overrun_in (saved_lsr q.made)) =
    ap (λ v. has_any v LSR.OVERRUN_ERROR.0) (q.lsr other) ∙ has_or 1 (fields (inner_of s)).lsr (saved_lsr q.made) in
    let grows : out (machine_of t) ≡ out (machine_of s) ++ map x.cut ws = went.sends.grows in
    let on : (machine_of t).chip.fifo ≡ x.fifo = went.modes.fifo in
    let mid = inbox x.fifo (out (machine_of s)) (saved || overrun_in (saved_lsr q.made)) r in
    let ends : port_of t ≡ record mid { out = out (machine_of s) ++ map x.cut ws } =
    λ i. port (grows i) (waiting (machine_of t)) (r.is_overrun || lost i) (on i) (room (on i) r.size) in
    let first : DoesAll (port_of s) st.steps mid = leads_all x s t q.made ws rs fifo p in
    record {
      steps = st.steps ++ last;
      leads = does_all-append (port_of s) mid (port_of t) st.steps last first (port_of t, ends, refl);
      sent =
          sent-append st.steps last
          ∙ (ap (λ zs. zs ++ (map x.cut ws ++ [])) st.sent ∙ (append-nil (map x.cut ws)
          ∙ sym (ap (λ (f : ℕ → ℕ). map f ws) cut)));
      received = received-append st.steps last ∙ (append-nil (received_in st.steps) ∙ received_all x s t q.made ws rs p);
      came = came-append st.steps last ∙ (append-nil (came_in st.steps) ∙ came_all x s t q.made ws rs cut p);
      told = told-append st.steps last ∙ (append-nil (told_in st.steps) ∙ (st.told ∙ sym untold));
    }

-- ---- an `lsr`

shown_line : (line : ℕ) → overrun_in (bit_or (bit_and line LSR.LINE_ERRORS.0) 0) ≡ has_any line LSR.OVERRUN_ERROR.0
shown_line line =
    ap (λ v. has_any v LSR.OVERRUN_ERROR.0) (or_zero_r (bit_and line LSR.LINE_ERRORS.0)) ∙ has_and 1 line LSR.LINE_ERRORS.0 refl

or-swap : (a b : Bool) → (a || b) ≡ (b || a)
or-swap true true = refl
or-swap true false = refl
or-swap false true = refl
or-swap false false = refl

-- it read LSR once, told what it read and what was saved, and left nothing saved
by_look : (x : Modes) (s t : State) (a : Answer) (status : ℕ) → InSession x s → cut_of (machine_of s).chip ≡ x.cut →
    Path MachineStep (machine_of s) (Read offsets.LSR status ∷ []) (machine_of t) →
    a ≡ Register (bit_or status (fields (inner_of s)).lsr) → (fields (inner_of t)).lsr ≡ 0 → PortSteps s t [] [] (told_by call.Lsr a)
by_look x s t a status w cut path answered emptied =
    let m = machine_of s in
    let made : List Access = Read offsets.LSR status ∷ [] in
    let passed : Passed x m (machine_of t) made [] [] =
    subst (λ (n : MachineState). Passed x m n made [] []) (sym path.2)
    (passed-look x m path.0 status w.open_modes.loopback w.stands path.1) in
    let cleared : (machine_of t).chip.receiver.is_overrun ≡ false =
    ap (λ (n : MachineState). n.chip.receiver.is_overrun) path.2 ∙ look_clears m path.0 status path.1 in
    told_after x s t a status w cut answered emptied passed cleared
  where
    told_after : (x : Modes) (s t : State) (a : Answer) (status : ℕ) → InSession x s → cut_of (machine_of s).chip ≡ x.cut →
        a ≡ Register (bit_or status (fields (inner_of s)).lsr) → (fields (inner_of t)).lsr ≡ 0 →
        (passed : Passed x (machine_of s) (machine_of t) (Read offsets.LSR status ∷ []) [] []) →
        (machine_of t).chip.receiver.is_overrun ≡ false → PortSteps s t [] [] (told_by call.Lsr a)
    told_after x s t a status w cut answered emptied passed cleared =
        let made : List Access = Read offsets.LSR status ∷ [] in
        let p : PassedBlocks x (machine_of s) (machine_of t) made [] [] = nothing_taken x (machine_of s) (machine_of t) made [] passed in
        let went = p.passed.went in
        let st = went.receives.stepped in
        let r = (machine_of t).chip.receiver in
        let saved = has_any (fields (inner_of s)).lsr LSR.OVERRUN_ERROR.0 in
        let value = bit_or status (fields (inner_of s)).lsr in
        let told = has_any value LSR.OVERRUN_ERROR.0 in
        let last : List Step = Step.Tells told ∷ [] in
        let fifo : (machine_of s).chip.fifo ≡ x.fifo = w.stands.modes.fifo in
        let mid = inbox x.fifo (out (machine_of s)) (saved || overrun_in (saved_lsr made)) r in
        let is : told ≡ (r.is_overrun || (saved || overrun_in (saved_lsr made))) =
        has_or 1 status (fields (inner_of s)).lsr ∙ (or-swap (has_any status LSR.OVERRUN_ERROR.0) saved
        ∙ (ap (λ v. saved || v) (sym (shown_line status)) ∙ ap (λ v. v || (saved || overrun_in (saved_lsr made))) (sym cleared))) in
        let stays : out (machine_of t) ≡ out (machine_of s) = went.sends.grows ∙ append-nil (out (machine_of s)) in
        let on : (machine_of t).chip.fifo ≡ x.fifo = went.modes.fifo in
        let none : (r.is_overrun || has_any (fields (inner_of t)).lsr LSR.OVERRUN_ERROR.0) ≡ false =
        rw (cleared, emptied) (has_none 1) in
        let ends : port_of t ≡ record mid { lost = false } =
        λ i. port (stays i) (waiting (machine_of t)) (none i) (on i) (room (on i) r.size) in
        let first : DoesAll (port_of s) st.steps mid = leads_all x s t made [] [] fifo p in
        record {
          steps = st.steps ++ last;
          leads = does_all-append (port_of s) mid (port_of t) st.steps last first (port_of t, (is, ends), refl);
          sent = sent-append st.steps last ∙ (append-nil (sent_in st.steps) ∙ st.sent);
          received = received-append st.steps last ∙ (append-nil (received_in st.steps) ∙ received_all x s t made [] [] p);
          came = came-append st.steps last ∙ (append-nil (came_in st.steps) ∙ came_all x s t made [] [] cut p);
          told = told-append st.steps last ∙ (ap (λ zs. zs ++ told ∷ []) st.told ∙ rw answered refl);
        }

-- ---- each call

by_goes : {Within : State → Call → Type 0} {cut : ℕ → ℕ} (k : GoOn Within cut) (x : Modes) (s t : State) (c : Call) (a : Answer) →
    x.cut ≡ cut → InSession x s → Within s c → CallStep s c a t → c ≢ call.Lsr → told_by c a ≡ [] →
    PortSteps s t (reported_by c a) (received_by c a) (told_by c a)
by_goes k x s t c a same w within step other untold =
    let g = k.go x s t c a same w within step in
    let cut : cut_of (machine_of s).chip ≡ g.modes.cut = w.stands.modes.cut ∙ sym (same_cut x g.modes g.same) in
    let fifo : (machine_of s).chip.fifo ≡ g.modes.fifo = w.stands.modes.fifo ∙ sym (same_fifo x g.modes g.same) in
    by_passes g.modes s t c a cut fifo other untold g.passes

pub call_steps : {Within : State → Call → Type 0} {cut : ℕ → ℕ} (k : GoOn Within cut) (x : Modes) (s t : State) (c : Call)
    (a : Answer) → x.cut ≡ cut → InSession x s → Within s c → CallStep s c a t →
    PortSteps s t (reported_by c a) (received_by c a) (told_by c a)
call_steps k x s t call.Lsr a same w within step =
    let took = step.did.does in
    by_look x s t a took.0 w w.stands.modes.cut (rw took.1 at step.did.path)
    (step.answered ∙ ap (λ v. Register v) took.2) (ap (λ (g : Fields). g.lsr) took.3)
call_steps k x s t other a same w within step = by_goes k x s t other a same w within step (λ e. cc) refl

-- an `lsr` leaves no loss untold
pub lsr_leaves_none : (s t : State) (a : Answer) → CallStep s call.Lsr a t → (port_of t).lost ≡ false
lsr_leaves_none s t a step =
    let took = step.did.does in
    let path : Path MachineStep (machine_of s) (Read offsets.LSR took.0 ∷ []) (machine_of t) = rw took.1 at step.did.path in
    let cleared : (machine_of t).chip.receiver.is_overrun ≡ false =
    ap (λ (n : MachineState). n.chip.receiver.is_overrun) path.2 ∙ look_clears (machine_of s) path.0 took.0 path.1 in
    let emptied : (fields (inner_of t)).lsr ≡ 0 = ap (λ (g : Fields). g.lsr) took.3 in
    rw (cleared, emptied) (has_none 1)
