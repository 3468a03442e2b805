-- An empty transmitter: while no byte is written it stays empty, in loopback or not, and the wire stays as it is.
use Rattle.uart_run.proofs.Names.{◌≡◌, ℕ, ◌%◌, ◌/◌, Bool, true, false, List, [], ◌∷◌, ◌++◌, append-nil, Option, Some, None, refl, sym, ◌∙◌}
use Rattle.uart_run.proofs.Names.{ap, bit_or, arith, common_steps, Path, Access, Read, Write, Settings, Asks, frame_writes, line_writes}
use Rattle.uart_run.proofs.Names.{WaitsFor, Shifting, has_any, TransmitterState, shift, refill, out, line_status, is_transmitter_empty}
use Rattle.uart_run.proofs.Names.{is_dlab_set, MachineState, MachineStep, at_access, has_one, has_or, status_empty, Lasts, AllSendNothing}
use Rattle.uart_run.proofs.Names.{lasts-path, lasts-latch, lasts-before, path_as, path_split}
use Rattle.uart_spec.specs.declared.registers.line_control.TheConstants.LCR
use Rattle.uart_spec.specs.declared.registers.offsets.TheConstants as offsets
use Rattle.uart_spec.specs.declared.registers.line_status.TheConstants.LSR
use Rattle.uart_chip.specs.Transmitter.{tick}
use Rattle.uart_run.proofs.Latches.{Kept, kept_access}

-- nothing is left to send
abbrev pub IsEmpty : TransmitterState → Type 0
IsEmpty t = is_transmitter_empty t.queue t.shift_register ≡ true

-- all that was to be sent has gone: the transmitter is empty, and the wire is this
pub record IsSent (gone : List ℕ) (t : TransmitterState) : Type 0 where
  pub queue : t.queue ≡ []
  pub place : t.shift_register ≡ None
  pub wire : t.wire ≡ gone

-- ---- as the line status shows it

empty_parts : (queue : List ℕ) (place : Option Shifting) → is_transmitter_empty queue place ≡ true → (queue ≡ []) × (place ≡ None)
empty_parts [] None e = (refl, refl)
empty_parts [] (Some s) e = absurd (cc)
empty_parts (x ∷ xs) place e = absurd (cc)

pub sent_shown : (t : TransmitterState) → IsEmpty t → IsSent (out t) t
sent_shown t e =
    let p = empty_parts t.queue t.shift_register e in record { queue = p.0; place = p.1; wire = rw (p.0, p.1) (sym (append-nil t.wire)) }

pub shown_sent : (gone : List ℕ) (t : TransmitterState) → IsSent gone t → IsEmpty t
shown_sent gone t s = rw (s.queue, s.place) refl

-- ---- it lasts

sent_shift : (loopback : Bool) (gone : List ℕ) (place : Option Shifting) (t : TransmitterState) → place ≡ None → IsSent gone t →
    IsSent gone (shift loopback place t)
sent_shift loopback gone None t e s = s
sent_shift loopback gone (Some shifting) t e s = absurd (cc)

sent_refill : (gone : List ℕ) (place : Option Shifting) (queue : List ℕ) (t : TransmitterState) → queue ≡ [] → IsSent gone t →
    IsSent gone (refill place queue t)
sent_refill gone (Some shifting) queue t e s = s
sent_refill gone None [] t e s = s
sent_refill gone None (x ∷ xs) t e s = absurd (cc)

pub sent_tick : (gone : List ℕ) (loopback held_off : Bool) (t : TransmitterState) → IsSent gone t → IsSent gone (tick loopback held_off t)
sent_tick gone loopback true t s = sent_shift loopback gone t.shift_register t s.place s
sent_tick gone loopback false t s =
    let u : TransmitterState = shift loopback t.shift_register t in
    let v : IsSent gone u = sent_shift loopback gone t.shift_register t s.place s in
    sent_refill gone u.shift_register u.queue u v.queue v

sent_lasts : (gone : List ℕ) → Lasts (IsSent gone)
sent_lasts gone = record {
  in_accesses = record {
    pending = λ t pending s. record { queue = s.queue; place = s.place; wire = s.wire };
    cleared = λ t pending s. record { queue = refl; place = s.place; wire = s.wire };
    resized = λ t size s. record { queue = refl; place = s.place; wire = s.wire };
  };
  in_tick = λ loopback held_off t s. sent_tick gone loopback held_off t s;
}

pub sent_path : (gone : List ℕ) (accesses : List Access) (m n : MachineState) → AllSendNothing accesses → IsSent gone m.chip.transmitter →
    Path MachineStep m accesses n → IsSent gone n.chip.transmitter
sent_path gone accesses m n silent s path = lasts-path (IsSent gone) (sent_lasts gone) accesses m n silent s path

-- under DLAB the divisor latch is written in place of the data
pub sent_latch : (gone : List ℕ) (value : ℕ) (m n : MachineState) → is_dlab_set m.chip.latches ≡ true → IsSent gone m.chip.transmitter →
    MachineStep m (Write offsets.DLL value) n → IsSent gone n.chip.transmitter
sent_latch gone value m n on s step =
    let lasts = sent_lasts gone in
    let under : is_dlab_set (at_access m).chip.latches ≡ true = ap (λ (k : Kept). is_dlab_set k.latches) (kept_access m) ∙ on in
    rw step (lasts-latch (IsSent gone) lasts.in_accesses value (at_access m).chip under
    (lasts-before (IsSent gone) lasts.in_tick m.ahead m.chip s))

-- an empty one stays so
pub empty_path : (accesses : List Access) (m n : MachineState) → AllSendNothing accesses → Path MachineStep m accesses n →
    IsEmpty m.chip.transmitter → IsEmpty n.chip.transmitter
empty_path accesses m n silent path e =
    let gone = out m.chip.transmitter in
    shown_sent gone n.chip.transmitter (sent_path gone accesses m n silent (sent_shown m.chip.transmitter e) path)

-- ---- the divisor latch, written under DLAB

-- with the interrupts disabled, as at the beginning of an initialisation
pub empty_lined : (divisor frame : ℕ) (m n : MachineState) → Path MachineStep m (line_writes divisor frame) n → IsEmpty m.chip.transmitter →
    IsEmpty n.chip.transmitter
empty_lined divisor frame m n (m₁, s₁, (m₂, s₂, (m₃, under, (m₄, latch, rest)))) e =
    let gone = out m.chip.transmitter in
    let a = sent_path gone (Write offsets.LCR 0 ∷ Write offsets.IER 0 ∷ Write offsets.LCR LCR.DLAB.0 ∷ []) m m₃ (refl, (refl, (refl, tt)))
    (sent_shown m.chip.transmitter e) (m₁, s₁, (m₂, s₂, (m₃, under, refl))) in
    let on : is_dlab_set m₃.chip.latches ≡ true = ap (λ (o : MachineState). is_dlab_set o.chip.latches) under in
    let b = sent_latch gone (divisor % 256) m₃ m₄ on a latch in
    shown_sent gone n.chip.transmitter
    (sent_path gone (Write offsets.DLM (divisor / 256) ∷ Write offsets.LCR 0 ∷ Write offsets.LCR frame ∷ []) m₄ n
    (refl, (refl, (refl, tt))) b rest)

-- as by a change of the frame
pub sent_framed : (gone : List ℕ) (divisor frame : ℕ) (m n : MachineState) → Path MachineStep m (frame_writes divisor frame) n →
    IsSent gone m.chip.transmitter → IsSent gone n.chip.transmitter
sent_framed gone divisor frame m n (m₁, under, (m₂, latch, rest)) s =
    let a = sent_path gone (Write offsets.LCR (bit_or frame LCR.DLAB.0) ∷ []) m m₁ (refl, tt) s (m₁, under, refl) in
    let on : is_dlab_set m₁.chip.latches ≡ true = ap (λ (o : MachineState). is_dlab_set o.chip.latches) under
    ∙ (has_or 7 frame 128 ∙ grind (arith, common_steps)) in
    sent_path gone (Write offsets.DLM (divisor / 256) ∷ Write offsets.LCR frame ∷ []) m₂ n (refl, (refl, tt))
    (sent_latch gone (divisor % 256) m₁ m₂ on a latch) rest

-- ---- looks that show it

pub look_empty : (m n : MachineState) (line : ℕ) → MachineStep m (Read offsets.LSR line) n →
    has_any line LSR.TRANSMITTER_EMPTY.0 ≡ is_transmitter_empty n.chip.transmitter.queue n.chip.transmitter.shift_register
look_empty m n line s =
    let e : has_any line LSR.TRANSMITTER_EMPTY.0 ≡ has_any (line_status (at_access m).chip) LSR.TRANSMITTER_EMPTY.0 =
    ap (λ l. has_any l LSR.TRANSMITTER_EMPTY.0) s.1 in
    e
    ∙
    (status_empty (at_access m).chip
    ∙ sym (ap (λ (o : MachineState). is_transmitter_empty o.chip.transmitter.queue o.chip.transmitter.shift_register) s.0))

-- a look that shows an empty transmitter leaves one
pub empty_shown : (s : Settings) (l : List Access) (m n : MachineState) → Asks offsets.LSR LSR.TRANSMITTER_EMPTY.0 true s l →
    Path MachineStep m l n → IsEmpty n.chip.transmitter
empty_shown s l m n t path = looked (path_as m n l (Read offsets.LSR t.answer ∷ []) t.is path)
  where
    looked : Path MachineStep m (Read offsets.LSR t.answer ∷ []) n → IsEmpty n.chip.transmitter
    looked (mid, step, same) =
        let empty : IsEmpty mid.chip.transmitter = sym (look_empty m mid t.answer step) ∙ (sym (has_one 6 t.answer) ∙ t.shows) in
        rw same empty

-- and so does a wait for it, that comes to its end
pub wait_empties : (s : Settings) (l : List Access) (m n : MachineState) → WaitsFor LSR.TRANSMITTER_EMPTY.0 true s l →
    Path MachineStep m l n → IsEmpty n.chip.transmitter
wait_empties s l m n h path =
    let q = path_split MachineStep m n h.front h.back (path_as m n l (h.front ++ h.back) h.whole path) in
    empty_shown s h.back q.0 n h.second q.2
