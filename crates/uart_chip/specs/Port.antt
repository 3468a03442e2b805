-- A serial port as a program sees it: what was accepted to be sent, what waits to be received, and whether there was a
-- loss that was not told. It knows no register, no schedule and no driver.
use Rattle.std.specs.Prelude.{◌≡◌, ℕ, ◌<◌, ◌≤◌, Bool, true, false, List, [], ◌∷◌, ◌++◌, length}

-- a port
pub record Port : Type 0 where
  -- all that was accepted to be sent, in order
  pub out : List ℕ
  -- what waits to be received
  pub waiting : List ℕ
  -- there was a loss that was not told
  pub lost : Bool
  -- the FIFO is on
  pub fifo : Bool
  -- how many bytes can wait: 1 without FIFO
  pub room : ℕ

-- what happens to a port: bytes are sent or received, a byte arrives, a new byte is lost or an old one to a new one, or
-- it is told whether there was a loss
pub data Step : Type 0 where
  Sends Receives : (bytes : List ℕ) → Step
  Arrives LosesNew LosesOld : (byte : ℕ) → Step
  Tells : (overrun : Bool) → Step

-- the step leads from the one port to the other: a byte that comes is put last if there is room; else with FIFO it is
-- lost itself, and without FIFO it takes the place of the one that waits
abbrev pub Does : Port → Step → Port → Type 0
Does p (Step.Sends bytes) q = q ≡ record p { out = p.out ++ bytes }
Does p (Step.Receives bytes) q = (p.waiting ≡ bytes ++ q.waiting) × (q ≡ record p { waiting = q.waiting })
Does p (Step.Arrives byte) q = (length p.waiting < p.room) × (q ≡ record p { waiting = p.waiting ++ byte ∷ [] })
Does p (Step.LosesNew byte) q = (p.fifo ≡ true) × (p.room ≤ length p.waiting) × (q ≡ record p { lost = true })
Does p (Step.LosesOld byte) q =
    (p.fifo ≡ false) × ((old : ℕ) × (p.waiting ≡ old ∷ []) × (q ≡ record p { waiting = byte ∷ []; lost = true }))
Does p (Step.Tells overrun) q = (overrun ≡ p.lost) × (q ≡ record p { lost = false })

-- the steps in turn lead from the one port to the other
abbrev pub DoesAll : Port → List Step → Port → Type 0
DoesAll p [] q = q ≡ p
DoesAll p (step ∷ steps) q = (mid : Port) × Does p step mid × DoesAll mid steps q

-- ---- what of it is seen

-- the bytes that were sent
abbrev pub sent_in : List Step → List ℕ
sent_in [] = []
sent_in (Step.Sends bytes ∷ steps) = bytes ++ sent_in steps
sent_in (_ ∷ steps) = sent_in steps

-- the bytes that were received
abbrev pub received_in : List Step → List ℕ
received_in [] = []
received_in (Step.Receives bytes ∷ steps) = bytes ++ received_in steps
received_in (_ ∷ steps) = received_in steps

-- the bytes that came, lost ones too
abbrev pub came_in : List Step → List ℕ
came_in [] = []
came_in (Step.Arrives byte ∷ steps) = byte ∷ came_in steps
came_in (Step.LosesNew byte ∷ steps) = byte ∷ came_in steps
came_in (Step.LosesOld byte ∷ steps) = byte ∷ came_in steps
came_in (_ ∷ steps) = came_in steps

-- what was told
abbrev pub told_in : List Step → List Bool
told_in [] = []
told_in (Step.Tells overrun ∷ steps) = overrun ∷ told_in steps
told_in (_ ∷ steps) = told_in steps
