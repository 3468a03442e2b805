-- What each call of the rings themselves does to the machine and to the notes, with the FIFO on.
use Rattle.uart_ring_runs.proofs.Names.{◌≡◌, ℕ, Bool, true, false, List, [], ◌∷◌, ◌++◌, append-nil, append_assoc, refl, sym, ◌∙◌, ap, subst}
use Rattle.uart_ring_runs.proofs.Names.{Option, Some, None, All, map-append, All-head, All-tail, Path, has, has_any, Access, Read, Write}
use Rattle.uart_ring_runs.proofs.Names.{switched, unlooped, settings_of, Settings, MachineState, MachineStep, Character, IsOpen}
use Rattle.uart_ring_runs.proofs.Names.{stands-after, Passed, passed-refl, passed-trans, passed-mark, Modes, calls_of, BurstsFit, most_in}
use Rattle.uart_ring_runs.proofs.Names.{session_room, fits_by, has_not, IsWired, data_written, data_read, LosesOnly, with_accepted, Notes}
use Rattle.uart_ring_runs.proofs.Names.{NotesErrors, notes_of, write_if_other, rts_at, MakesRtsIfAny, RingDoing, RingFields, ring_fields}
use Rattle.uart_ring_runs.proofs.Names.{ring_backend_of, free, ErrorNotes, adjusts_lose_nothing, RingAnswer, RingCall, NotedState}
use Rattle.uart_ring_runs.proofs.Names.{without_notes, notes_in, only_bytes, NotedCallStep, NotedLink, NotedChain, link_without_notes}
use Rattle.uart_ring_runs.proofs.Names.{links_without_notes, to_take, gone_in, gone, under, ring_machine, IsOfRings, RingCalled}
use Rattle.uart_ring_runs.proofs.Names.{RingCallStep, RingChain, IsWithinRingSession, AllWithinRingSession}
use Rattle.uart_spec.specs.declared.registers.modem_control.TheConstants.MCR
use Rattle.uart_spec.specs.declared.registers.offsets.TheConstants as offsets
use Rattle.uart_ring_runs.specs.declared.call.RingCall.TheVariants as call
use Rattle.uart_ring_runs.proofs.NotedAccesses.{Along, Noted, Reads, Steers, AllTame, all_tame_noted, noted_then, noted_start, noted_mark}
use Rattle.uart_ring_runs.proofs.{NotedAccesses.with_accesses, NotedBlocks.no_bytes, NotedBlocks.noted_in_blocks, RingBlocks.MakesBlocks}
use Rattle.uart_ring_runs.proofs.{RingBlocks.in_blocks, RingLasts.first_within, RingMeanings.Meant, RingMeanings.meaning_of}
use Rattle.uart_ring_runs.proofs.{RingRts.with_mcr_of, RingRts.modes_at, RingRts.InRingSession, RingRts.came_rts}

-- ---- the machine under the notes

-- a path with notes is one of the machine under them, and the notes follow it
pub record Parted (l : List Access) (p q : ErrorNotes MachineState) : Type 0 where
  pub path : Path MachineStep p.backend l q.backend
  pub notes : notes_of q ≡ with_accesses l (notes_of p)

pub parted : (l : List Access) (p q : ErrorNotes MachineState) → Path (NotesErrors MachineStep) p l q → Parted l p q
parted [] p q h = record {
  path = ap (λ (v : ErrorNotes MachineState). v.backend) h;
  notes = ap (λ (v : ErrorNotes MachineState). notes_of v) h;
}
parted (access ∷ l) p q h =
    let rest = parted l h.0 q h.2 in
    record { path = (h.0.backend, h.1.made, rest.path); notes = rest.notes ∙ ap (with_accesses l) h.1.noted }

plain_called : {R : Type 0} {G : R → RingDoing} {answer_of : R → RingAnswer} {a : RingAnswer} {s t : NotedState} →
    RingCalled (NotesErrors MachineStep) G answer_of a s t → RingCalled MachineStep G answer_of a (without_notes s) (without_notes t)
plain_called {s} {t} h = record {
  outcome = h.outcome;
  answered = h.answered;
  did = record {
    list = h.did.list;
    path = (parted h.did.list (ring_backend_of s) (ring_backend_of t) h.did.path).path;
    does = h.did.does;
  };
}

-- a call of the rings themselves is one of the same rings over the machine itself
pub plain_step : (s t : NotedState) (c : RingCall) (a : RingAnswer) → IsOfRings c → NotedCallStep s c a t →
    RingCallStep (without_notes s) c a (without_notes t)
plain_step s t (call.Driver c) a o h = absurd o
plain_step s t call.Next a o h = h.0
plain_step s t other a o h = plain_called h

pub plain_chain : (s t : NotedState) (links : List NotedLink) → All IsOfRings (calls_of links) → NotedChain s links t →
    RingChain (without_notes s) (links_without_notes links) (without_notes t)
plain_chain s t [] own h = ap without_notes h
plain_chain s t (link ∷ links) own h = (
  ap without_notes h.0,
  plain_step link.before link.after link.call link.answer (All-head IsOfRings link.call (calls_of links) own) h.1,
  plain_chain link.after t links (All-tail IsOfRings link.call (calls_of links) own) h.2,
)

-- ---- what a call does

-- from s to t these characters were taken, and of each its errors noted; what left the receive ring, and what is there, was
-- there or was taken
pub record CallNoted (x : Modes) (s t : NotedState) (left : List ℕ) : Type 0 where
  pub made : List Access
  pub written : List ℕ
  pub takes : List Character
  pub open_modes : IsOpen (modes_at x (without_notes t))
  pub passed : Passed (modes_at x (without_notes t)) (ring_machine (without_notes s)) (ring_machine (without_notes t)) made written takes
  pub fifo : (ring_fields t).driver.fifo ≡ (ring_fields s).driver.fifo
  pub fits : BurstsFit (under (without_notes s)) → BurstsFit (under (without_notes t))
  pub noted : Noted (notes_in s) (notes_in t) (ring_machine (without_notes s)) (ring_machine (without_notes t)) takes
  pub received : left ++ to_take (without_notes t) ≡ to_take (without_notes s) ++ only_bytes takes

-- MCR is then as the modes have it
at_mcr : (x : Modes) (mcr : ℕ) (m n : MachineState) (made : List Access) (ws : List ℕ) (ts : List Character) →
    Passed (record x { mcr = mcr }) m n made ws ts → Passed (with_mcr_of x n) m n made ws ts
at_mcr x mcr m n made ws ts p =
    let P : ℕ → Type 0 = λ v. Passed (record x { mcr = v }) m n made ws ts in subst P (sym p.went.modes.mcr) p

open_at : (x : Modes) (mcr : ℕ) (m n : MachineState) (made : List Access) (ws : List ℕ) (ts : List Character) →
    IsOpen (record x { mcr = mcr }) → Passed (record x { mcr = mcr }) m n made ws ts → IsOpen (with_mcr_of x n)
open_at x mcr m n made ws ts o p =
    let O : ℕ → Type 0 = λ v. IsOpen (record x { mcr = v }) in subst O (sym p.went.modes.mcr) o

-- a usual call: its accesses are blocks
of_blocks : (x : Modes) (s t : NotedState) (c : RingCall) (a : RingAnswer) → x.fifo ≡ true → InRingSession x (without_notes s) →
    Along (notes_in s) (ring_machine (without_notes s)) → Meant (NotesErrors MachineStep) c a s t →
    CallNoted x s t (gone_in c a (to_take (without_notes s)))
of_blocks x s t c a on w along h =
    let m = ring_machine (without_notes s) in
    let n = ring_machine (without_notes t) in
    let parts = parted h.list (ring_backend_of s) (ring_backend_of t) h.path in
    let makes = h.walks MakesBlocks in_blocks in
    let y = modes_at x (without_notes s) in
    let p = noted_in_blocks y (most_in (settings_of (ring_fields s).driver)) (notes_in s) m n h.list (data_written h.list)
    (data_read h.list) w.open_modes on w.stands along (session_room y (under (without_notes s)) w) makes.blocks parts.path in
    let N : Notes → Type 0 = λ v. Noted (notes_in s) v m n p.takes in
    record {
      made = h.list;
      written = data_written h.list;
      takes = p.takes;
      open_modes = open_at x m.chip.latches.mcr m n h.list (data_written h.list) p.takes w.open_modes p.passed;
      passed = at_mcr x m.chip.latches.mcr m n h.list (data_written h.list) p.takes p.passed;
      fifo = ap (λ (settings : Settings). settings.fifo) makes.settings;
      fits = fits_by (under (without_notes s)) (under (without_notes t)) (ap (λ (settings : Settings). settings.size) makes.settings)
          p.passed.went.sends.size;
      noted = subst N (sym parts.notes) p.noted;
      received = h.loses.received ∙ ap (λ zs. (ring_fields s).receive.items ++ zs) (sym p.bytes);
    }

-- ---- `adjust_rts`

-- MCR is read, and perhaps written without loopback, and nothing is read from DATA
record Steered (l : List Access) : Type 0 where
  pub tame : AllTame l
  pub none : data_read l ≡ []

rts_steered : (shown on : Bool) (mcr value : ℕ) → has_any value MCR.LOOP_BACK.0 ≡ false →
    Steered (Read offsets.MCR mcr ∷ write_if_other shown on (Write offsets.MCR value))
rts_steered true true mcr value off = record { tame = (Reads offsets.MCR mcr refl refl, tt); none = refl }
rts_steered false false mcr value off = record { tame = (Reads offsets.MCR mcr refl refl, tt); none = refl }
rts_steered true false mcr value off =
    record { tame = (Reads offsets.MCR mcr refl refl, (Steers value off, tt)); none = refl }
rts_steered false true mcr value off =
    record { tame = (Reads offsets.MCR mcr refl refl, (Steers value off, tt)); none = refl }

steered : (wanted : Option Bool) (f : RingFields) (l : List Access) (after : RingFields) → MakesRtsIfAny wanted f l after → Steered l
steered None f l after t = rw t.0 (record { tame = tt; none = refl })
steered (Some on) f l after (((mcr, is), saved), same) =
    rw is (rts_steered (has mcr MCR.RTS.0) on mcr (unlooped (switched on MCR.RTS.0 mcr)) (has_not 4 (switched on MCR.RTS.0 mcr) 239 refl))

-- nothing was taken
none_left : (takes : List Character) → only_bytes takes ≡ [] → (items more : List ℕ) → more ≡ items ++ [] → more ≡ items ++ only_bytes takes
none_left takes none items more e = e ∙ ap (λ zs. items ++ zs) (sym none)

of_rts : (x : Modes) (s t : NotedState) (wanted : Option Bool) → x.fifo ≡ true → InRingSession x (without_notes s) →
    Along (notes_in s) (ring_machine (without_notes s)) → IsWired (under (without_notes s)) →
    (list : List Access) → MakesRtsIfAny wanted (ring_fields s) list (ring_fields t) →
    Path (NotesErrors MachineStep) (ring_backend_of s) list (ring_backend_of t) →
    LosesOnly (with_accepted []) [] 0 0 (ring_fields s) list (ring_fields t) → CallNoted x s t []
of_rts x s t wanted on w along wired list does path loses =
    let m = ring_machine (without_notes s) in
    let n = ring_machine (without_notes t) in
    let parts = parted list (ring_backend_of s) (ring_backend_of t) path in
    let plain = steered wanted (ring_fields s) list (ring_fields t) does in
    let came = came_rts x (without_notes s) (without_notes t) wanted list w wired does parts.path in
    let none : only_bytes came.passed.takes ≡ [] = came.passed.bytes ∙ plain.none in
    let N : Notes → Type 0 = λ v. Noted (notes_in s) v m n [] in
    let P : List Character → Type 0 = λ ts. Noted (notes_in s) (notes_in t) m n ts in
    record {
      made = list;
      written = data_written list;
      takes = came.passed.takes;
      open_modes = came.open_modes;
      passed = came.passed.passed;
      fifo = ap (λ (settings : Settings). settings.fifo) loses.settings;
      fits = fits_by (under (without_notes s)) (under (without_notes t)) (ap (λ (settings : Settings). settings.size) loses.settings)
          came.passed.passed.went.sends.size;
      noted = subst P (sym (no_bytes came.passed.takes none))
          (subst N (sym parts.notes) (all_tame_noted list (notes_in s) m n plain.tame along parts.path));
      received = loses.received ∙ ap (λ zs. (ring_fields s).receive.items ++ zs) (plain.none ∙ sym none);
    }

-- ---- each call

call_noted : (x : Modes) (s t : NotedState) (c : RingCall) (a : RingAnswer) → x.fifo ≡ true → InRingSession x (without_notes s) →
    Along (notes_in s) (ring_machine (without_notes s)) → IsOfRings c → IsWithinRingSession (without_notes s) c →
    NotedCallStep s c a t → CallNoted x s t (gone_in c a (to_take (without_notes s)))
call_noted x s t (call.AdjustRts marks) a on w along o i h =
    of_rts x s t (rts_at marks (free (ring_fields s).receive)) on w along i h.did.list h.did.does h.did.path
    (adjusts_lose_nothing marks (ring_fields s) h.did.list (ring_fields t) h.did.does)
call_noted x s t (call.Driver c) a on w along o i h = absurd o
call_noted x s t call.Next a on w along o i (goes, same) =
    let m = ring_machine (without_notes s) in
    let n = ring_machine (without_notes t) in
    let p = passed-mark (modes_at x (without_notes s)) m w.open_modes.loopback w.stands.sound w.stands.modes in
    let q : Passed (modes_at x (without_notes s)) m n [] [] [] = rw goes.machine p in
    let N : Notes → Type 0 = λ v. Noted (notes_in s) v m n [] in
    let M : MachineState → Type 0 = λ v. Noted (notes_in s) (notes_in s) m v [] in
    record {
      made = [];
      written = [];
      takes = [];
      open_modes = open_at x m.chip.latches.mcr m n [] [] [] w.open_modes q;
      passed = at_mcr x m.chip.latches.mcr m n [] [] [] q;
      fifo = ap (λ (f : RingFields). f.driver.fifo) goes.rings;
      fits = fits_by (under (without_notes s)) (under (without_notes t)) (ap (λ (f : RingFields). f.driver.size) goes.rings)
          q.went.sends.size;
      noted = subst N (sym same) (subst M (sym goes.machine) (noted_mark (notes_in s) m along));
      received = ap (λ (f : RingFields). f.receive.items) goes.rings ∙ sym (append-nil (to_take (without_notes s)));
    }
call_noted x s t other a on w along o i h = of_blocks x s t other a on w along (meaning_of s t other a tt h)

-- ---- calls in turn

pub in_session_noted : (x : Modes) (s t : NotedState) (left : List ℕ) → InRingSession x (without_notes s) → CallNoted x s t left →
    InRingSession x (without_notes t)
in_session_noted x s t left w g = record {
  open_modes = g.open_modes;
  stands = stands-after (modes_at x (without_notes t)) (ring_machine (without_notes s)) (ring_machine (without_notes t)) _ _ _ g.passed;
  fifo = g.fifo ∙ w.fifo;
  fits = g.fits w.fits;
}

noted_nowhere : (x : Modes) (s : NotedState) → InRingSession x (without_notes s) → Along (notes_in s) (ring_machine (without_notes s)) →
    CallNoted x s s []
noted_nowhere x s w along = record {
  made = [];
  written = [];
  takes = [];
  open_modes = w.open_modes;
  passed = passed-refl (modes_at x (without_notes s)) (ring_machine (without_notes s)) w.stands.sound w.stands.modes;
  fifo = refl;
  fits = λ fits. fits;
  noted = noted_start (notes_in s) (ring_machine (without_notes s)) along;
  received = sym (append-nil (to_take (without_notes s)));
}

calls_then : (x : Modes) (s t u : NotedState) (e f : List ℕ) → CallNoted x s t e → CallNoted x t u f → CallNoted x s u (e ++ f)
calls_then x s t u e f p q =
    let m = ring_machine (without_notes s) in
    let n = ring_machine (without_notes t) in
    let o = ring_machine (without_notes u) in
    let byte : Character → ℕ = λ character. character.byte in
    record {
      made = p.made ++ q.made;
      written = p.written ++ q.written;
      takes = p.takes ++ q.takes;
      open_modes = q.open_modes;
      passed = passed-trans (modes_at x (without_notes t)) (modes_at x (without_notes u)) m n o p.made q.made p.written q.written p.takes
          q.takes refl p.passed q.passed;
      fifo = q.fifo ∙ p.fifo;
      fits = λ fits. q.fits (p.fits fits);
      noted = noted_then (notes_in s) (notes_in t) (notes_in u) m n o p.takes q.takes p.noted q.noted;
      received = append_assoc e f (to_take (without_notes u)) ∙ (ap (λ zs. e ++ zs) q.received
          ∙ (sym (append_assoc e (to_take (without_notes t)) (only_bytes q.takes)) ∙ (ap (λ zs. zs ++ only_bytes q.takes) p.received
          ∙ (append_assoc (to_take (without_notes s)) (only_bytes p.takes) (only_bytes q.takes)
          ∙ ap (λ zs. to_take (without_notes s) ++ zs) (sym (map-append byte p.takes q.takes))))));
    }

pub chain_noted : (x : Modes) (s t : NotedState) (links : List NotedLink) → x.fifo ≡ true → InRingSession x (without_notes s) →
    Along (notes_in s) (ring_machine (without_notes s)) → AllWithinRingSession (without_notes s) (links_without_notes links) →
    All IsOfRings (calls_of links) → NotedChain s links t → CallNoted x s t (gone (links_without_notes links))
chain_noted x s t [] on w along i own h =
    let C : NotedState → Type 0 = λ v. CallNoted x s v [] in subst C (sym h) (noted_nowhere x s w along)
chain_noted x s t (link ∷ links) on w along i own h =
    let W : NotedState → Type 0 = λ v. InRingSession x (without_notes v) in
    let A : NotedState → Type 0 = λ v. Along (notes_in v) (ring_machine (without_notes v)) in
    let begins = subst W (sym h.0) w in
    let plain = plain_chain s t (link ∷ links) own h in
    let j = first_within (without_notes s) (without_notes t) (link_without_notes link) (links_without_notes links) i plain in
    let first = call_noted x link.before link.after link.call link.answer on begins (subst A (sym h.0) along)
    (All-head IsOfRings link.call (calls_of links) own) j.here h.1 in
    let rest = chain_noted x link.after t links on (in_session_noted x link.before link.after _ begins first) first.noted.along j.later
    (All-tail IsOfRings link.call (calls_of links) own) h.2 in
    let C : NotedState → Type 0 = λ v. CallNoted x v t (gone (links_without_notes (link ∷ links))) in
    subst C h.0 (calls_then x link.before link.after t _ _ first rest)
