-- Accesses of registers at ports or at addresses.
use Rattle.std.specs.Prelude.{ℕ}
use Rattle.uart_spec.specs.declared.access.Access.{Access}
use Rattle.uart_spec.specs.declared.access.Access.TheVariants.{Read, Write}

-- an access as it is made at the place of its register: a port or an address takes the place of the offset
abbrev pub access_at : (ℕ → ℕ) → Access → Access
access_at place (Read offset answer) = Read (place offset) answer
access_at place (Write offset value) = Write (place offset) value
