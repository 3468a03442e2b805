-- A part in the middle of a run. What is asked for where a part begins is asked for where the run began.
use Rattle.std.specs.Prelude.{◌≡◌, false, List, ◌++◌}
use Rattle.uart_ring_runs.specs.declared.call.RingAnswer.{RingAnswer}
use Rattle.uart_link.specs.declared.call.LinkCall.{LinkCall}
use Rattle.uart_link.specs.declared.call.Side.{Side}
use Rattle.uart_link.specs.declared.link.Link.{Link}
use Rattle.uart_link.specs.Carried.{AllKeepOrderAt, BothReady, NoneCut, IsJoined}
use Rattle.uart_link.specs.Flow.{DropsNothing}
use Rattle.uart_link.specs.Link.{at_end, other, Step, LinkChain}
use Rattle.uart_link.specs.Parts.{LinkConserves, RanLink}
use Rattle.uart_link.specs.Progress.{chip_at, transmitter_at, Comes, TurnsRtsOn, NoneAdjusts, IsRtsOn}
use Rattle.uart_link.specs.Progress.{HasJournals, HasRounds, enough_ticks, enough_rounds, TakesQueued}
use Rattle.uart_link.specs.Stays.{StaysAt}

-- All that was queued before a part is taken in it, after as many rounds as bytes wait where it begins, and one more.
-- At the beginning of the run, in s, the sender's chip has no automatic flow control, a character takes so many ticks,
-- and both chips have room for all that is sent until the part ends
abbrev pub ProgressesLater : Side → (s : Link) → (front : List Step) → (a : Link) → (part : List Step) → Link → Type 0
ProgressesLater end s front a part b =
    (chip_at end s).auto_flow ≡ false → AllKeepOrderAt end (front ++ part) → DropsNothing (other end) a b →
    HasJournals end s (front ++ part) →
    HasRounds end (enough_ticks (transmitter_at end s)) (enough_rounds (at_end end a)) part → TakesQueued end a part

-- RTS stays on that was turned on in the part, if the chip of the end had no automatic flow control in s
abbrev pub KeepsRtsOnLater : Side → (s : Link) → (part : List Step) → (b : Link) → Type 0
KeepsRtsOnLater end s part b =
    (chip_at end s).auto_flow ≡ false → Comes (TurnsRtsOn end) (NoneAdjusts end) part → IsRtsOn end b

-- from s over the calls `front`, and then in a part from a to b
pub record GoesOn (s : Link) (front : List Step) (a : Link) (part : List Step) (b : Link) : Type 0 where
  pub conserves : LinkConserves a part b
  pub stays : (end : Side) → StaysAt (at_end end s) (at_end end a)
  pub progress : (end : Side) → ProgressesLater end s front a part b
  pub rts : (end : Side) → KeepsRtsOnLater end s part b

-- so it is with each part of a run that begins joined, with both ends ready, on chips that cut no characters
abbrev pub PartsGoOn : Type 0
PartsGoOn =
    (s t : Link) (calls : List LinkCall) (answers : List RingAnswer) (ran : RanLink s calls answers t)
    (front part rest : List Step) (a b : Link) →
    -- these calls are a part of the run
    ran.run.links ≡ front ++ (part ++ rest) → LinkChain s front a → LinkChain a part b → LinkChain b rest t →
    IsJoined s → BothReady s → NoneCut s → GoesOn s front a part b
