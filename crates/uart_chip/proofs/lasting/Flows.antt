-- No event and no access gives a chip automatic flow control, or takes it away.
use Rattle.std.proofs.Common.{◌≡◌, ℕ, Bool, List, [], ◌∷◌, refl, ◌∙◌}
use Rattle.uart_spec.specs.declared.access.Access.{Access}
use Rattle.uart_spec.specs.declared.access.Access.TheVariants.{Read, Write}
use Rattle.uart_chip.specs.Chip.{ChipState, after_read}
use Rattle.uart_chip.specs.Machine.{MachineState, MachineStep, at_access}
use Rattle.uart_chip.specs.AutoFlow.{EventsKeepFlow, ReadsKeepFlow, WritesKeepFlow, AccessesKeepFlow, MarksKeepFlow, HeldOnlyWithFlow}
use Rattle.uart_chip.proofs.AccessMoves.{ReadMove, takes, read_move, WriteMove, sends, write_lasts}
use Rattle.uart_chip.proofs.AutoFlow.{never_on, never_held_off}
use Rattle.uart_chip.proofs.lasting.Lasting.{LastsInEvents, chip_lasts-perform, chip_lasts-before, chip_lasts-before_mark}

-- a chip that has it, or has it not
abbrev Flowing : Bool → ChipState → Type 0
Flowing has c = c.auto_flow ≡ has

flow_lasts : (has : Bool) → LastsInEvents (Flowing has)
flow_lasts has = record { in_tick = λ c e. e; in_arrival = λ byte errors c e. e; in_lines = λ inputs c e. e }

-- ---- events

pub flow-event : EventsKeepFlow
flow-event event c = chip_lasts-perform (Flowing c.auto_flow) (flow_lasts c.auto_flow) event c refl

pub flow-mark : MarksKeepFlow
flow-mark m = chip_lasts-before_mark (Flowing m.chip.auto_flow) (flow_lasts m.chip.auto_flow) m.ahead m.chip refl

flow-access : (m : MachineState) → (at_access m).chip.auto_flow ≡ m.chip.auto_flow
flow-access m = chip_lasts-before (Flowing m.chip.auto_flow) (flow_lasts m.chip.auto_flow) m.ahead m.chip refl

-- ---- accesses

in_read : (offset : ℕ) (c d : ChipState) → ReadMove offset c d → d.auto_flow ≡ c.auto_flow
in_read offset c d (takes e q) = refl
in_read offset c d _ = refl

pub flow-read : ReadsKeepFlow
flow-read offset c = in_read offset c (after_read offset c) (read_move offset c)

in_write : (has : Bool) (offset value : ℕ) (c d : ChipState) → WriteMove offset value c d → Flowing has c → Flowing has d
in_write has offset value c d (sends e q) h = h
in_write has offset value c d _ h = h

pub flow-write : WritesKeepFlow
flow-write offset value c = write_lasts (Flowing c.auto_flow) offset value (in_write c.auto_flow offset value) c refl

flow-step : (m n : MachineState) (access : Access) → MachineStep m access n → n.chip.auto_flow ≡ m.chip.auto_flow
flow-step m n (Read offset value) step = rw step.0 (flow-read offset (at_access m).chip ∙ flow-access m)
flow-step m n (Write offset value) step = rw step (flow-write offset value (at_access m).chip ∙ flow-access m)

pub flow-path : AccessesKeepFlow
flow-path [] m n path = rw path refl
flow-path (access ∷ made) m n (mid, step, rest) = flow-path made mid n rest ∙ flow-step m mid access step

-- ---- a chip that has it not

pub held_only_with_flow : HeldOnlyWithFlow
held_only_with_flow c lacks = record { off = never_on c lacks; goes_on = never_held_off c lacks }
