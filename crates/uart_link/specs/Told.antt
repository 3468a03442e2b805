-- That a drop is told.
use Rattle.std.specs.Prelude.{◌≡◌, ◌≢◌, true, ℕ, List, [], ◌∷◌, ◌++◌}
use Rattle.uart_spec.specs.Bits.{has_any}
use Rattle.uart_spec.specs.declared.registers.line_status.TheConstants.LSR
use Rattle.uart_chip.specs.Conserved.{IsDrop}
use Rattle.uart_ring_runs.specs.declared.call.RingCall.TheVariants as call
use Rattle.uart_ring_runs.specs.RingRun.{ring_machine, line_answer}
use Rattle.uart_link.specs.declared.call.Side.{Side}
use Rattle.uart_link.specs.declared.link.Link.{Link}
use Rattle.uart_link.specs.Carried.{OfEnd}
use Rattle.uart_link.specs.Link.{at_end, Step}

-- no call of an end tells its line status
abbrev pub NoLineAt : Side → List Step → Type 0
NoLineAt end [] = Unit {0}
NoLineAt end (step ∷ steps) = OfEnd end step.call.side (step.call.call ≢ call.TakeLine) × NoLineAt end steps

-- if the calls end with a `take_line` of an end, and none of that end comes before it, then a drop at that end since
-- they began shows as the overrun flag
abbrev pub TellsDrops : Side → Link → List Step → Link → Type 0
TellsDrops end a steps b =
    (some : List Step) (last : Step) (value : ℕ) →
    -- this is the last call
    steps ≡ some ++ last ∷ [] → NoLineAt end some →
    -- the last call is one of that end
    last.call.side ≡ end →
    -- it is a `take_line`
    last.call.call ≡ call.TakeLine →
    -- this is what it returned
    last.answer ≡ line_answer value →
    IsDrop (ring_machine (at_end end a)) (ring_machine (at_end end b)) → has_any value LSR.OVERRUN_ERROR.0 ≡ true
