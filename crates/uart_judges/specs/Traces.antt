-- A trace: calls with their lists and answers, one after the other.
use Rattle.std.specs.Prelude.{◌≡◌, ◌⊎◌, ℕ, List, [], ◌∷◌, if◌then◌else◌, ⊤}
use Rattle.uart_spec.specs.declared.setup.FifoSize.{FifoSize}
use Rattle.uart_16550.specs.Driver.{Fields, with_fifo_size, with_limit}
use Rattle.uart_16550.specs.State.{fresh_fields}
use Rattle.uart_call.specs.declared.call.Answer.{Answer}
use Rattle.uart_language.specs.Output.{answer_text}
use Rattle.uart_calls.specs.Lists.{IsFollowed, IsListOf}
use Rattle.uart_judges.specs.declared.traces.judging.Stray.{Stray}
use Rattle.uart_judges.specs.declared.traces.exchange.Exchange.{Exchange}

-- from these fields the call makes the recorded list, returns an answer that is printed as recorded, and those fields
-- are after it
pub record IsExchange (x : Exchange) (before after : Fields) : Type 0 where
  pub answer : Answer
  pub makes : IsListOf x.call before x.accesses.items answer after
  pub printed : answer_text answer ≡ x.answer.items

-- the fields of a new driver with this limit, which takes the FIFOs for this size
abbrev pub new_driver : ℕ → FifoSize → Fields
new_driver limit size = with_fifo_size size (with_limit limit fresh_fields)

-- the fields before a call: those after the call before it, or those of a new driver
abbrev pub fields_before : (new : Fields) → Exchange → Fields → Fields
fields_before new x fields = if x.is_first then new else fields

-- each call in turn is as recorded, where a new driver has these fields
abbrev pub AreCalls : (new : Fields) → Fields → List Exchange → Type 0
AreCalls new fields [] = ⊤
AreCalls new fields (x ∷ xs) =
    (after : Fields) × IsExchange x (fields_before new x fields) after × AreCalls new after xs

-- A call leaves no choice, so the place at which a trace strays is one place.

-- the call from these fields is not as recorded, and this is reported: it, the number of accesses before the first that
-- no list of the call has, and what the driver does there instead
pub record StraysHere (before : Fields) (x : Exchange) (stray : Stray) : Type 0 where
  pub call : stray.exchange.now ≡ x
  pub none : (after : Fields) → IsExchange x before after → ⊥
  pub first :
      IsFollowed x.call before x.accesses.items (record { kept = stray.kept; turn = stray.turn })

-- this is reported for the first call that is not as recorded
abbrev pub IsStray : (new : Fields) → Fields → List Exchange → Stray → Type 0
IsStray new fields [] stray = ⊥
IsStray new fields (x ∷ xs) stray =
    StraysHere (fields_before new x fields) x stray
    ⊎ ((after : Fields) × IsExchange x (fields_before new x fields) after × IsStray new after xs stray)
