-- Sessions of ring calls that begin with empty rings.
use Rattle.std.proofs.Common.{◌≡◌, List, [], ap, refl, sym}
use Rattle.std.specs.Prelude.{All}
use Rattle.std.proofs.lemmas.List.{append-nil}
use Rattle.std.proofs.lemmas.List.Elements.{All-same}
use Rattle.uart_spec.specs.declared.config.Config.{Config}
use Rattle.uart_spec.specs.declared.setup.FifoSize.TheVariants.{Sixteen}
use Rattle.uart_16550.specs.Driver.{Fields, IsFresh, fields}
use Rattle.uart_16550.specs.declared.driver.Uart16550.{Uart16550}
use Rattle.uart_chip.specs.Machine.{MachineState}
use Rattle.uart_ring_runs.specs.declared.call.RingCall.{RingCall}
use Rattle.uart_ring_runs.specs.declared.call.RingAnswer.{RingAnswer}
use Rattle.uart_ring_runs.specs.RingBytes.{to_send, to_take, AllTakeInTurn}
use Rattle.uart_ring_runs.specs.RingRun.{RingState, RingLink, IsOfRings, under}
use Rattle.uart_ring_runs.specs.RingSession.{AllWithinRingSession, RanRing, RingConserves}
use Rattle.uart_run.specs.Chains.{calls_of, answers_of}
use Rattle.uart_run.specs.Ready.{Ready, BurstsFit}
use Rattle.uart_run.specs.ReceivedErrors.{under_terminal}
use Rattle.uart_run.specs.Wired.{IsWired}
use Rattle.uart_ring_runs.proofs.RingOwn.{own_within, own_in_turn}

-- a new driver takes the FIFOs for no larger than they are, by the law that none does that takes them for the smallest
abbrev pub SmallestFits : Type 0
SmallestFits = (uart : Uart16550 MachineState) → (fields uart).size ≡ Sixteen → BurstsFit (under_terminal uart)

pub new_fits : SmallestFits → (uart : Uart16550 MachineState) (given : MachineState) (config : Config) → IsFresh uart given config →
    BurstsFit (under_terminal uart)
new_fits law uart given config fresh = law uart (ap (λ (f : Fields). f.size) fresh.begins)

-- a run of ring calls is one session
ring_conserves : (s t : RingState) (calls : List RingCall) (answers : List RingAnswer) (ran : RanRing s calls answers t) →
    Ready (under s) → AllWithinRingSession s ran.run.links → RingConserves s ran.run.links t
ring_conserves s t calls answers ran ready within =
    ran.sessions [] ran.run.links [] s t (sym (append-nil ran.run.links)) refl ran.run.chain refl (ready, within)

-- a run from empty rings
pub runs_from_empty : (begins ends : RingState) (calls : List RingCall) (answers : List RingAnswer) →
    (to_send begins ≡ []) × (to_take begins ≡ []) → RanRing begins calls answers ends → Ready (under begins) →
    IsWired (under begins) →
    (s : RingState) × (links : List RingLink) × (to_send s ≡ []) × (to_take s ≡ []) × IsWired (under s)
    × (calls_of links ≡ calls) × (answers_of links ≡ answers)
    × (AllWithinRingSession s links → RingConserves s links ends)
    × (All IsOfRings calls → AllWithinRingSession s links × AllTakeInTurn links)
runs_from_empty begins ends calls answers empty ran ready wired = (
  begins,
  ran.run.links,
  empty.0,
  empty.1,
  wired,
  ran.run.calls_same,
  ran.run.answers_same,
  λ within. ring_conserves begins ends calls answers ran ready within,
  λ own.
      let own_links = All-same IsOfRings (calls_of ran.run.links) calls ran.run.calls_same own in
      (own_within begins ran.run.links own_links wired, own_in_turn ran.run.links own_links),
)
