use Rattle.std.proofs.Common.{◌≡◌, length, map, None, List, sym, ap, ◌∙◌, arith}
use Rattle.std.proofs.lemmas.List.{length-map}
use Rattle.uart_spec.specs.declared.access.Access.{Access}
use Rattle.uart_16550.specs.Driver.{fields, backend_of}
use Rattle.uart_16550.specs.State.{fields_of}
use Rattle.uart_16550.specs.Tty.{inner_of}
use Rattle.uart_calls.specs.Tape.{Tape}
use Rattle.uart_calls.proofs.Checked.{called_by, followed_to_return, followed_to_request, followed_so}
use Rattle.uart_calls.proofs.Played.{shrinks}
use Rattle.uart_calls.proofs.checking.follow.Goals as goal
use Rattle.uart_calls.proofs.checking.follow.Goals.{in-Some, in-None}

-- the tape at the call and after it, and the fields at the call
at_call : (g : _) (c : goal.After-left g) → backend_of (inner_of c.from_inner-uart.result) ≡ c.new.result
at_call g c = ap backend_of c.from_inner-uart.ensures ∙ c.from_state.ensures.backend

after_call : (g : _) (c : goal.After-left g) → c.backend-tape.result.now ≡ backend_of (inner_of c.perform-answer.new.uart)
after_call g c = c.backend-tape.ensures ∙ ap backend_of c.inner.ensures

left_after : (g : _) (c : goal.After-left g) → c.left.result ≡ length (backend_of (inner_of c.perform-answer.new.uart)).left
left_after g c = c.left.ensures ∙ ap (λ (t : Tape). length t.left) (after_call g c)

list_at : (g : _) (c : goal.After-left g) →
    (backend_of (inner_of c.from_inner-uart.result)).left ≡ map g.R.Recorded.access c.args.accesses.now
list_at g c = ap (λ (t : Tape). t.left) (at_call g c ∙ c.new.ensures)

none_at : (g : _) (c : goal.After-left g) → (backend_of (inner_of c.from_inner-uart.result)).asked ≡ None
none_at g c = ap (λ (t : Tape). t.asked) (at_call g c ∙ c.new.ensures)

fields_at : (g : _) (c : goal.After-left g) → fields (inner_of c.from_inner-uart.result) ≡ fields_of c.args.state.now
fields_at g c = ap fields c.from_inner-uart.ensures ∙ c.from_state.ensures.fields

count_at : (g : _) (c : goal.After-left g) → length (backend_of (inner_of c.from_inner-uart.result)).left ≡ length c.args.accesses.now
count_at g c = ap (λ (l : List Access). length l) (list_at g c) ∙ length-map c.args.accesses.now g.R.Recorded.access

pub overflow_sub-result : goal.overflow_sub-result
overflow_sub-result g c =
    let made = (called_by _ c.perform-answer.ensures).did in
    omega (arith, shrinks _ _ made.list made.path, left_after g c, count_at g c)

pub returns : goal.returns
returns g c =
    elim c.match-asked.branch [
      | in-Some w ↦
          followed_so c.args.call.now c.left.result (fields_at g c) (list_at g c) (count_at g c) (sym w.turn-is)
          (followed_to_request c.args.call.now c.requires (inner_of c.from_inner-uart.result) (inner_of c.perform-answer.new.uart)
          c.perform-answer.result w.in-Some.request c.perform-answer.ensures (none_at g c)
          (sym (ap (λ (t : Tape). t.asked) (after_call g c)) ∙ sym c.asked.ensures ∙ w.in-Some.is) c.left.result (left_after g c))
      | in-None w ↦
          followed_so c.args.call.now c.left.result (fields_at g c) (list_at g c) (count_at g c) (sym w.turn-is)
          (followed_to_return c.args.call.now c.requires (inner_of c.from_inner-uart.result) (inner_of c.perform-answer.new.uart)
          (record { answer = c.perform-answer.result; state = w.state.result }) c.perform-answer.ensures (none_at g c)
          (w.state.ensures ∙ ap fields w.inner-in-None.ensures)
          (sym (ap (λ (t : Tape). t.asked) (after_call g c)) ∙ sym c.asked.ensures ∙ w.in-None.is) c.left.result (left_after g c))
    ]
