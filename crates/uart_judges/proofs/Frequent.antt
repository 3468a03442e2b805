-- What is not found at the accesses that drivers make most.
use Rattle.std.proofs.Common.{◌≡◌, refl, sym, ℕ, Bool, true, false, not, ◌&&◌, ◌||◌, ◌==◌, if◌then◌else◌, nat_lt}
use Rattle.std.proofs.Common.{Option, Some, None, List, [], ◌∷◌}
use Rattle.std.proofs.Math.Bool.{and-false}
use Rattle.uart_spec.specs.declared.registers.fifo_control.TheConstants.FCR as fcr_bits
use Rattle.uart_spec.specs.declared.registers.line_status.LSR.{LSR}
use Rattle.uart_judges.specs.Findings.{all_found, arrival, arrived_at, change, chip, discard, empty, flow, gate, is_at_rest, latch}
use Rattle.uart_judges.specs.Findings.{level, line_up, note, output, overrun, room, served_by, service, taken}
use Rattle.uart_judges.specs.Steps.{is_line_up, step_empties}
use Rattle.uart_judges.specs.Unread.{front}
use Rattle.uart_judges.specs.declared.audit.action.Action.TheVariants.{LooksAtLine, Receives, Sends}
use Rattle.uart_judges.specs.declared.audit.auditor.Auditor.{Auditor}
use Rattle.uart_judges.specs.declared.audit.auditor.Identified.{Identified}
use Rattle.uart_judges.specs.declared.audit.finding.Finding.{Finding}
use Rattle.uart_judges.specs.declared.audit.step.Step.{Step}
use Rattle.uart_judges.specs.declared.audit.unread.Arrived.{Arrived}

abbrev nothing : Option Finding
nothing = None

neither : (b : Bool) → (if b then nothing else nothing) ≡ nothing
neither true = refl
neither false = refl

not_served : (o : Option Identified) → served_by o None ≡ nothing
not_served None = refl
not_served (Some before) = refl

not_arrived : (a : Auditor) (o : Option Arrived) (byte : ℕ) → arrived_at a o (Sends byte) ≡ nothing
not_arrived a None byte = refl
not_arrived a (Some oldest) byte = refl

pub cons : (x y : Option Finding) (xs ys : List (Option Finding)) → x ≡ y → xs ≡ ys → x ∷ xs ≡ y ∷ ys
cons x y xs ys p q = rw (p, q) refl

-- ---- a read of LSR

pub looked : (a : Auditor) (s : Step) (lsr : LSR) (n r o e : Option Finding) → s.action ≡ LooksAtLine lsr → n ≡ note a s →
    r ≡ arrival a s → o ≡ overrun a s → e ≡ empty a s →
    n ∷ None ∷ None ∷ None ∷ None ∷ None ∷ r ∷ o ∷ e ∷ None ∷ None ∷ None ∷ None ∷ None ∷ None ∷ None ∷ [] ≡ all_found a s
looked a s lsr n r o e is pn pr po pe =
    let no_room : room a s ≡ nothing = rw is refl in
    let no_output : output a s ≡ nothing = rw is refl in
    let no_flow : flow a s ≡ nothing = rw is refl in
    let no_gate : gate a s ≡ nothing = rw is (neither (a.has_signalled || is_line_up s)) in
    let none_taken : taken a s ≡ nothing = rw is refl in
    let no_latch : latch a s ≡ nothing = rw is refl in
    let no_change : change a s ≡ nothing = rw is (neither (s.has_rested || (a.going_out == 0))) in
    let kept : step_empties fcr_bits.RX_FIFO_RESET.0 s ≡ false = rw is refl in
    let no_discard : discard a s ≡ nothing = rw (kept, and-false (nat_lt 0 a.waiting && not (is_at_rest a s.setup))) refl in
    let no_service : service a s ≡ nothing = rw is (not_served a.unserved) in
    let no_chip : chip a s ≡ nothing = rw is refl in
    let no_level : level a s ≡ nothing = rw is refl in
    let no_line : line_up a s ≡ nothing = rw is refl in
    cons _ _ _ _ pn (cons _ _ _ _ (sym no_room) (cons _ _ _ _ (sym no_output) (cons _ _ _ _ (sym no_flow)
    (cons _ _ _ _ (sym no_gate) (cons _ _ _ _ (sym none_taken) (cons _ _ _ _ pr (cons _ _ _ _ po (cons _ _ _ _ pe
    (cons _ _ _ _ (sym no_latch) (cons _ _ _ _ (sym no_change) (cons _ _ _ _ (sym no_discard)
    (cons _ _ _ _ (sym no_service) (cons _ _ _ _ (sym no_chip) (cons _ _ _ _ (sym no_level)
    (cons _ _ _ _ (sym no_line) refl)))))))))))))))

-- ---- an access to DATA

pub sent_one : (a : Auditor) (s : Step) (byte : ℕ) (n r o f g : Option Finding) → s.action ≡ Sends byte → n ≡ note a s →
    r ≡ room a s → o ≡ output a s → f ≡ flow a s → g ≡ gate a s →
    n ∷ r ∷ o ∷ f ∷ g ∷ None ∷ None ∷ None ∷ None ∷ None ∷ None ∷ None ∷ None ∷ None ∷ None ∷ None ∷ [] ≡ all_found a s
sent_one a s byte n r o f g is pn pr po pf pg =
    let none_taken : taken a s ≡ nothing = rw is refl in
    let none_arrived : arrival a s ≡ nothing = rw is (not_arrived a (front a.unread) byte) in
    let no_overrun : overrun a s ≡ nothing = rw is refl in
    let none_empty : empty a s ≡ nothing = rw is refl in
    let no_latch : latch a s ≡ nothing = rw is refl in
    let no_change : change a s ≡ nothing = rw is (neither (s.has_rested || (a.going_out == 0))) in
    let kept : step_empties fcr_bits.RX_FIFO_RESET.0 s ≡ false = rw is refl in
    let no_discard : discard a s ≡ nothing = rw (kept, and-false (nat_lt 0 a.waiting && not (is_at_rest a s.setup))) refl in
    let no_service : service a s ≡ nothing = rw is (not_served a.unserved) in
    let no_chip : chip a s ≡ nothing = rw is refl in
    let no_level : level a s ≡ nothing = rw is refl in
    let no_line : line_up a s ≡ nothing = rw is refl in
    cons _ _ _ _ pn (cons _ _ _ _ pr (cons _ _ _ _ po (cons _ _ _ _ pf (cons _ _ _ _ pg (cons _ _ _ _ (sym none_taken)
    (cons _ _ _ _ (sym none_arrived) (cons _ _ _ _ (sym no_overrun) (cons _ _ _ _ (sym none_empty)
    (cons _ _ _ _ (sym no_latch) (cons _ _ _ _ (sym no_change) (cons _ _ _ _ (sym no_discard)
    (cons _ _ _ _ (sym no_service) (cons _ _ _ _ (sym no_chip) (cons _ _ _ _ (sym no_level)
    (cons _ _ _ _ (sym no_line) refl)))))))))))))))

pub received_one : (a : Auditor) (s : Step) (byte : ℕ) (n g t r : Option Finding) → s.action ≡ Receives byte → n ≡ note a s →
    g ≡ gate a s → t ≡ taken a s → r ≡ arrival a s →
    n ∷ None ∷ None ∷ None ∷ g ∷ t ∷ r ∷ None ∷ None ∷ None ∷ None ∷ None ∷ None ∷ None ∷ None ∷ None ∷ [] ≡ all_found a s
received_one a s byte n g t r is pn pg pt pr =
    let no_room : room a s ≡ nothing = rw is refl in
    let no_output : output a s ≡ nothing = rw is refl in
    let no_flow : flow a s ≡ nothing = rw is refl in
    let no_overrun : overrun a s ≡ nothing = rw is refl in
    let none_empty : empty a s ≡ nothing = rw is refl in
    let no_latch : latch a s ≡ nothing = rw is refl in
    let no_change : change a s ≡ nothing = rw is (neither (s.has_rested || (a.going_out == 0))) in
    let kept : step_empties fcr_bits.RX_FIFO_RESET.0 s ≡ false = rw is refl in
    let no_discard : discard a s ≡ nothing = rw (kept, and-false (nat_lt 0 a.waiting && not (is_at_rest a s.setup))) refl in
    let no_service : service a s ≡ nothing = rw is (not_served a.unserved) in
    let no_chip : chip a s ≡ nothing = rw is refl in
    let no_level : level a s ≡ nothing = rw is refl in
    let no_line : line_up a s ≡ nothing = rw is refl in
    cons _ _ _ _ pn (cons _ _ _ _ (sym no_room) (cons _ _ _ _ (sym no_output) (cons _ _ _ _ (sym no_flow)
    (cons _ _ _ _ pg (cons _ _ _ _ pt (cons _ _ _ _ pr (cons _ _ _ _ (sym no_overrun) (cons _ _ _ _ (sym none_empty)
    (cons _ _ _ _ (sym no_latch) (cons _ _ _ _ (sym no_change) (cons _ _ _ _ (sym no_discard)
    (cons _ _ _ _ (sym no_service) (cons _ _ _ _ (sym no_chip) (cons _ _ _ _ (sym no_level)
    (cons _ _ _ _ (sym no_line) refl)))))))))))))))
