-- The errors of received bytes, over the machine.
use Rattle.std.specs.Prelude.{◌≡◌, ◌⊎◌, ℕ, List, [], ◌∷◌, ◌++◌, Option, Some, None, bit_and}
use Rattle.std.specs.List.{filter}
use Rattle.uart_spec.specs.declared.registers.line_status.TheConstants.LSR
use Rattle.uart_spec.specs.declared.received.Received.{Received}
use Rattle.uart_16550.specs.declared.driver.Uart16550.{Uart16550}
use Rattle.uart_chip.specs.declared.receiver.Character.{Character}
use Rattle.uart_chip.specs.Conserved.{stands, entered}
use Rattle.uart_chip.specs.Laws.{reported_front}
use Rattle.uart_chip.specs.Machine.{MachineState}
use Rattle.uart_run.specs.Run.{State}

-- a parity error, a framing error, and a break: the errors of one character
abbrev pub character_errors : ℕ → ℕ
character_errors line = bit_and line LSR.CHARACTER_ERRORS.0

-- these line errors are exactly those of the character; or an earlier look has shown its errors, and this one shows
-- none
abbrev pub IsShown : (reported : Option Character) → (line : ℕ) → Character → Type 0
IsShown reported line character =
    (character_errors line ≡ character_errors character.errors)
    ⊎ ((reported ≡ Some character) × (character_errors line ≡ 0))

-- each of these is the character at its place: its byte and its errors. Only of the first the errors may have been
-- shown before
abbrev pub AreShown : (reported : Option Character) → List Received → List Character → Type 0
AreShown reported [] [] = Unit {0}
AreShown reported [] (character ∷ characters) = ⊥
AreShown reported (received ∷ items) [] = ⊥
AreShown reported (received ∷ items) (character ∷ characters) =
    (character.byte ≡ received.byte) × IsShown reported received.errors.0 character × AreShown None items characters

-- what was received with its errors are the first characters of those that were in the receiver and arrived since, in
-- order, without those that were dropped; the rest of them is in the receiver
pub record ReceivedExactly (m : MachineState) (items : List Received) (n : MachineState) : Type 0 where
  pub characters : List Character
  pub shown : AreShown (reported_front m.chip.receiver) items characters
  pub stay : filter (stands n.chip.receiver) (entered m n) ≡ characters ++ n.chip.receiver.queue

-- a driver over the machine, under a terminal of its own
abbrev pub under_terminal : Uart16550 MachineState → State
under_terminal driver = record { inner = driver }
