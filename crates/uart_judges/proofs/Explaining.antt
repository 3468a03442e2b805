-- A machine that explains the accesses never returns a value that is reported.
use Rattle.std.proofs.Common.{◌≡◌, ℕ, Bool, true, false, List, [], ◌∷◌, Option, Some, None, refl, ◌∙◌}
use Rattle.uart_spec.specs.Access.{Path}
use Rattle.uart_spec.specs.declared.access.Access.{Access}
use Rattle.uart_spec.specs.declared.access.Access.TheVariants.{Read, Write}
use Rattle.uart_events.specs.declared.event.Chip.{Chip}
use Rattle.uart_events.specs.declared.event.Chip.TheVariants.{Uart16550A, Uart16450}
use Rattle.uart_chip.specs.Chip.{ChipState}
use Rattle.uart_chip.specs.Machine.{MachineState, MachineStep, at_access}
use Rattle.uart_judges.specs.declared.replay.known.Known.{Known}
use Rattle.uart_judges.specs.declared.replay.known.Sender.TheVariants.{Unknown}
use Rattle.uart_judges.specs.declared.replay.known.Start.{Start}
use Rattle.uart_judges.specs.declared.replay.known.Start.TheVariants.{Reset, InUse}
use Rattle.uart_judges.specs.declared.replay.rule.Rule.{Rule}
use Rattle.uart_judges.specs.Latches.{first_latches}
use Rattle.uart_judges.specs.Known.{first_fifo, first_known}
use Rattle.uart_judges.specs.Looped.{unknown}
use Rattle.uart_judges.specs.Rules.{broken}
use Rattle.uart_judges.specs.Replays.{Seen, Did, Asked, SeenStep, SeenPath, IsBuilt, IsUsed, Begins, NoneReturns, known_after, known_from}
use Rattle.uart_judges.proofs.Holding.{Agrees, Holds, holds_before}
use Rattle.uart_judges.proofs.Effects.{holds_asked, holds_read, holds_write}
use Rattle.uart_judges.proofs.Looped.{IsMachine, machine_access, machine_path, machine_seen, machine_built}
use Rattle.uart_judges.proofs.Fitting.{none_broken}
use Rattle.uart_judges.proofs.Returning.{unknown_holds}

-- ---- what is known holds after each access

at : (k : Known) (m : MachineState) → Holds k m.chip → Holds k (at_access m).chip
at k m h = holds_before m.ahead k m.chip h

holds_step : (k : Known) (m n : MachineState) (access : Seen) → Holds k m.chip → SeenStep m access n → Holds (known_after k access) n.chip
holds_step k m n (Did (Read offset value)) h s =
    rw (s.0, s.1) (holds_read offset k (at_access m).chip (at k m h))
holds_step k m n (Did (Write offset value)) h s = rw s (holds_write offset value k (at_access m).chip (at k m h))
holds_step k m n (Asked offset) h s = rw s.1.0 (holds_asked offset k (at_access m).chip (at k m h))

holds_path : (k : Known) (m n : MachineState) (seen : List Seen) → Holds k m.chip → SeenPath m seen n → Holds (known_from k seen) n.chip
holds_path k m n [] h p = rw p h
holds_path k m n (access ∷ seen) h p =
    holds_path (known_after k access) p.0 n seen (holds_step k m p.0 access h p.1) p.2

-- ---- at the start

holds_built : (model : Chip) (m : MachineState) → IsBuilt model m → Holds (first_known model Reset) m.chip
holds_built model m b = rw b.built (record {
  model = refl;
  flow = refl;
  switch = refl;
  latches = record { ier = refl; lcr = refl; mcr = refl; scr = refl; dll = refl; dlm = refl };
  fifo = off model;
  sender = (refl, refl);
  waits = λ e. absurd (cc);
  looped = unknown_holds _;
})
  where
    off : (model : Chip) → Agrees (first_fifo model Reset) false
    off Uart16550A = refl
    off Uart16450 = refl

-- nothing is known but the model
abbrev only_model : Chip → Known
only_model model =
    record {
      model = model;
      latches = first_latches InUse;
      fifo = None;
      sender = Unknown;
      waits = false;
      is_looked = false;
      looped = unknown;
    }

holds_model : (c : ChipState) → c.auto_flow ≡ false → c.has_size_switch ≡ false → Holds (only_model c.model) c
holds_model c flow switch = record {
  model = refl;
  flow = flow;
  switch = switch;
  latches = record { ier = tt; lcr = tt; mcr = tt; scr = tt; dll = tt; dlm = tt };
  fifo = tt;
  sender = tt;
  waits = λ e. absurd (cc);
  looped = unknown_holds c;
}

-- the model, and that it has no automatic flow control and no switch of its size
record SameMake (m n : MachineState) : Type 0 where
  model : n.chip.model ≡ m.chip.model
  flow : n.chip.auto_flow ≡ false
  switch : n.chip.has_size_switch ≡ false

same_make : (m n : MachineState) (accesses : List Access) → m.chip.auto_flow ≡ false → m.chip.has_size_switch ≡ false →
    Path MachineStep m accesses n → SameMake m n
same_make m n [] flow switch p = rw p (record { model = refl; flow = flow; switch = switch })
same_make m n (access ∷ accesses) flow switch p =
    let first = once access p.0 p.1 in
    let rest = same_make p.0 n accesses first.flow first.switch p.2 in
    record { model = rest.model ∙ first.model; flow = rest.flow; switch = rest.switch }
  where
    once : (access : Access) (mid : MachineState) → MachineStep m access mid → SameMake m mid
    once (Read offset value) mid s =
        let h = holds_step (only_model m.chip.model) m mid (Did (Read offset value)) (holds_model m.chip flow switch) s in
        record { model = h.model; flow = h.flow; switch = h.switch }
    once (Write offset value) mid s =
        let h = holds_step (only_model m.chip.model) m mid (Did (Write offset value)) (holds_model m.chip flow switch) s in
        record { model = h.model; flow = h.flow; switch = h.switch }

machine_used : (model : Chip) (m : MachineState) → IsUsed model m → IsMachine m
machine_used model m u = machine_path u.first m u.accesses (machine_built model u.first u.built) u.path

holds_used : (model : Chip) (m : MachineState) → IsUsed model m → Holds (first_known model InUse) m.chip
holds_used model m u =
    let w : IsMachine m = machine_used model m u in
    let first = holds_built model u.first u.built in
    let make = same_make u.first m u.accesses first.flow first.switch u.path in
    let same : m.chip.model ≡ model = make.model ∙ first.model in
    record {
      model = same;
      flow = make.flow;
      switch = make.switch;
      latches = record { ier = tt; lcr = tt; mcr = tt; scr = tt; dll = tt; dlm = tt };
      fifo = off model same w.sound.chip.implemented;
      sender = tt;
      waits = λ e. absurd (cc);
      looped = unknown_holds m.chip;
    }
  where
    off : (model : Chip) → m.chip.model ≡ model → (m.chip.fifo ≡ true → m.chip.model ≡ Uart16550A) →
        Agrees (first_fifo model InUse) m.chip.fifo
    off Uart16550A e h = tt
    off Uart16450 e h = never m.chip.fifo refl
      where
        never : (b : Bool) → m.chip.fifo ≡ b → m.chip.fifo ≡ false
        never false f = f
        never true f = let has_fifo : m.chip.model ≡ Uart16550A = h f in absurd (cc)

pub holds_begins : (model : Chip) (start : Start) (m : MachineState) → Begins model start m → Holds (first_known model start) m.chip
holds_begins model Reset m b = holds_built model m b
holds_begins model InUse m b = holds_used model m b

machine_begins : (model : Chip) (start : Start) (m : MachineState) → Begins model start m → IsMachine m
machine_begins model Reset m b = machine_built model m b
machine_begins model InUse m u = machine_used model m u

-- ---- a value that is reported

some_broken : (rule : Rule) (o : Option Rule) → Some rule ≡ o → o ≡ None → ⊥
some_broken rule o some none = absurd (cc)

pub none_returns : (model : Chip) (start : Start) (seen : List Seen) (offset value : ℕ) (k : Known) (rule : Rule) →
    k ≡ known_from (first_known model start) seen → Some rule ≡ broken offset value k → NoneReturns model start seen offset value
none_returns model start seen offset value k rule same some m n o begins path step =
    let first : Holds (first_known model start) m.chip = holds_begins model start m begins in
    let last : Holds k n.chip = rw same (holds_path (first_known model start) m n seen first path) in
    let w : IsMachine (at_access n) =
    machine_access n (machine_seen m n seen (machine_begins model start m begins) path) in
    some_broken rule (broken offset value k) some
    (rw step.1 (none_broken offset k (at_access n).chip (at k n last) w.sound.chip.modem w.looped))
