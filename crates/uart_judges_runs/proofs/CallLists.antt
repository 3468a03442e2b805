-- The lists of the calls of a session: each is in blocks, sets the trigger level, or is that of a check.
use Rattle.std.proofs.Common.{◌≡◌, ◌≤◌, ℕ, Bool, true, List, [], ◌∷◌, ◌∙◌, sym, subst, arith}
use Rattle.uart_spec.specs.declared.access.Access.{Access as RegisterAccess}
use Rattle.uart_spec.specs.declared.access.Access.TheVariants.{Write}
use Rattle.uart_spec.specs.declared.registers.offsets.TheConstants as offsets
use Rattle.uart_spec.specs.declared.setup.FifoSize.{FifoSize}
use Rattle.uart_chip.specs.Transmitter.{room}
use Rattle.uart_16550.specs.Driver.{Fields, settings_of}
use Rattle.uart_call.specs.declared.call.Answer.{Answer}
use Rattle.uart_call.specs.declared.call.Call.{Call}
use Rattle.uart_call.specs.declared.call.Call.TheVariants as call
use Rattle.uart_calls.specs.Lists.{IsListOf}
use Rattle.uart_chip.proofs.conservation.Effects.{IsLevel as LevelOfRun}
use Rattle.uart_chip.proofs.Bits.{has_one}
use Rattle.uart_run.proofs.CallBlocks.{InBlocks, most_in}
use Rattle.uart_run.proofs.CheckLists.{CheckList}
use Rattle.uart_run.proofs.Steady.{OfSession, in_blocks, as_checked}
use Rattle.uart_run.proofs.Steady.{sets_level as level_of_run}
use Rattle.uart_run.proofs.Steady.{IsSteady as IsSteadyInRuns}
use Rattle.uart_run.proofs.Steady.{steady_call}
use Rattle.uart_judges_runs.specs.Calls.{AreTaken, IsSteady, KnowsAsTaken}
use Rattle.uart_judges_runs.proofs.Recordings.{Goes, goes_one}
use Rattle.uart_judges_runs.proofs.Kept.{stays_knows}
use Rattle.uart_judges_runs.proofs.Steps.{IsLevel, sets_level}
use Rattle.uart_judges_runs.proofs.Blocks.{goes_check, goes_in_blocks}

-- the list is in blocks, whatever is written and read; or it sets the trigger level; or it is that of `check_configured`
pub data IsOfSession (fifo : Bool) (most : ℕ) (l : List RegisterAccess) : Type 0 where
  blocks : (ws rs : List ℕ) → InBlocks most l ws rs → IsOfSession fifo most l
  level : (value : ℕ) → fifo ≡ true → IsLevel value → l ≡ Write offsets.FCR value ∷ [] → IsOfSession fifo most l
  check : CheckList l → IsOfSession fifo most l

-- a level of a run is one that the judge takes for such
judged_level : (value : ℕ) → LevelOfRun value → IsLevel value
judged_level value k = record {
  on = has_one 0 value ∙ k.on;
  keeps_received = has_one 1 value ∙ k.keeps_received;
  keeps_queued = has_one 2 value ∙ k.keeps_queued;
}

without_bytes : (fifo : Bool) (most : ℕ) (l : List RegisterAccess) (ws rs : List ℕ) → OfSession fifo most l ws rs →
    IsOfSession fifo most l
without_bytes fifo most l ws rs (in_blocks b) = blocks ws rs b
without_bytes fifo most l ws rs (level_of_run value on keeps is unwritten unread) = level value on (judged_level value keeps) is
without_bytes fifo most l ws rs (as_checked c unwritten unread) = check c

-- the calls of a session are the steady ones of a run
pub steady_in_runs : (c : Call) → IsSteady c → IsSteadyInRuns c
steady_in_runs call.Next i = i
steady_in_runs other i = i

-- each call
pub list_of : (c : Call) (f after : Fields) (l : List RegisterAccess) (a : Answer) → IsSteady c → IsListOf c f l a after →
    IsOfSession f.fifo (most_in (settings_of f)) l
list_of c f after l a i h =
    without_bytes f.fifo (most_in (settings_of f)) l _ _ (steady_call c (steady_in_runs c i) h.outcome f l after h.does).list

-- a driver writes no more at once than fits, where the FIFOs are as large as it takes them to be
pub fits_at_once : (f : Fields) → most_in (settings_of f) ≤ room f.fifo f.size
fits_at_once f = omega arith

-- and so is each list of a session, if it writes no more at once
pub goes_list : (size : FifoSize) (fifo : Bool) (most : ℕ) (l : List RegisterAccess) → most ≤ room fifo size → IsOfSession fifo most l →
    AreTaken fifo l → Goes size (KnowsAsTaken fifo) l (KnowsAsTaken fifo)
goes_list size fifo most l fits (blocks ws rs b) t = goes_in_blocks size fifo most l ws rs fits b t
goes_list size fifo most l fits (check c) t = goes_check size fifo l c t
goes_list size fifo most l fits (level value on v is) t =
    let one : Goes size (KnowsAsTaken true) (Write offsets.FCR value ∷ []) (KnowsAsTaken true) =
    goes_one size (KnowsAsTaken true) (KnowsAsTaken true) (Write offsets.FCR value) (stays_knows size true) (stays_knows size true)
    (sets_level size value v) in
    subst (λ (l : List RegisterAccess). Goes size (KnowsAsTaken fifo) l (KnowsAsTaken fifo)) (sym is)
    (subst (λ (b : Bool). Goes size (KnowsAsTaken b) (Write offsets.FCR value ∷ []) (KnowsAsTaken b)) (sym on) one)
