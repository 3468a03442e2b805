-- The devices of the examples.
use Rattle.std.specs.Prelude.{◌≡◌, ℕ, ◌%◌, List, [], ◌∷◌, ◌++◌, ◌==◌, nat_lt, length, slice_index, slice_set}
use Rattle.std.specs.Prelude.{◌+◌, if◌then◌else◌, ◌&&◌}
use Rattle.uart_spec.specs.declared.registers.offsets.TheConstants as offsets
use Rattle.uart_spec.specs.declared.registers.line_status.TheConstants.LSR
use Rattle.uart_spec.specs.declared.access.Access.{Access}
use Rattle.uart_spec.specs.declared.access.Access.TheVariants.{Read, Write}

-- 32 cells of memory, which repeat: a load returns the cell of its address, and a store sets it
abbrev pub CellStep : List ℕ → Access → List ℕ → Type 0
CellStep old (Read address value) new = (value ≡ slice_index old (address % 32)) × (new ≡ old)
CellStep old (Write address value) new = new ≡ slice_set old (address % 32) value

-- a console that is always idle: what is written to DATA is shown, as long as there is room
abbrev pub ConsoleStep : List ℕ → Access → List ℕ → Type 0
ConsoleStep shown (Read offset answer) new =
    (answer ≡ (if offset == offsets.LSR then LSR.THR_EMPTY.0 + LSR.TRANSMITTER_EMPTY.0 else 0)) × (new ≡ shown)
ConsoleStep shown (Write offset value) new =
    new ≡ (if offset == offsets.DATA && nat_lt (length shown) 64 then shown ++ value ∷ [] else shown)
