-- What the law of progress asks for stays true from call to call: ticks come, the limit is long enough, and the chip has automatic flow
-- control or has it not.
use Rattle.uart_run.proofs.Names.{◌≡◌, ℕ, ◌+◌, Bool, List, [], ◌∷◌, refl, ◌∙◌, Call, Answer, Event, Ticks, Gate, Mark, fields, inner_of}
use Rattle.uart_run.proofs.Names.{MachineState, after_mark, same_pace, same_pace-mark, flow-path, flow-mark, State, machine_of, CallStep}
use Rattle.uart_run.proofs.Names.{transmitter_of, KeepsSize, TickedAfter, IsTicked, IsTimely}
use Rattle.uart_run.proofs.{SizeKept.limit_kept, SizeKept.sizes_kept, Sessions.Lasts, Sessions.lasts_call, progress.Nearing.ticked-path}

-- the events up to a mark
ticked-mark : (passed : ℕ) (events : List Event) → TickedAfter passed events → TickedAfter 0 (after_mark events)
ticked-mark passed [] t = tt
ticked-mark passed (Ticks n ∷ events) t = ticked-mark (passed + n) events t
ticked-mark passed (Gate ∷ events) t = ticked-mark 0 events t.1
ticked-mark passed (Mark ∷ events) t = t
ticked-mark passed (_ ∷ events) t = ticked-mark passed events t

lasts_ticked : Lasts IsTicked
lasts_ticked = record { path = ticked-path; mark = λ m t. ticked-mark 0 m.ahead t }

-- how long a character takes
lasts_pace : (char_ticks : ℕ) → Lasts (λ (m : MachineState). m.chip.transmitter.char_ticks ≡ char_ticks)
lasts_pace char_ticks = record {
  path = λ made m n e p. (same_pace made m n p).char_ticks ∙ e;
  mark = λ m e. (same_pace-mark m).char_ticks ∙ e;
}

-- which chip has automatic flow control
lasts_flow : (auto_flow : Bool) → Lasts (λ (m : MachineState). m.chip.auto_flow ≡ auto_flow)
lasts_flow auto_flow = record { path = λ made m n e p. flow-path made m n p ∙ e; mark = λ m e. flow-mark m ∙ e }

-- ---- a call

pub flow_kept : (s t : State) (c : Call) (a : Answer) → CallStep s c a t →
    (machine_of t).chip.auto_flow ≡ (machine_of s).chip.auto_flow
flow_kept s t c a h = lasts_call s t c a (lasts_flow (machine_of s).chip.auto_flow) refl h

pub timely_kept : (s t : State) (c : Call) (a : Answer) → CallStep s c a t → KeepsSize s c → IsTimely s → IsTimely t
timely_kept s t c a h keeps timely =
    let size : (transmitter_of t).size ≡ (transmitter_of s).size = (sizes_kept s t c a h keeps).transmitter in
    let pace : (transmitter_of t).char_ticks ≡ (transmitter_of s).char_ticks =
    lasts_call s t c a (lasts_pace (transmitter_of s).char_ticks) refl h in
    let limit : (fields (inner_of t)).limit ≡ (fields (inner_of s)).limit = limit_kept s t c a h in
    record { ticked = lasts_call s t c a lasts_ticked timely.ticked h; limit = rw (size, pace, limit) timely.limit }
