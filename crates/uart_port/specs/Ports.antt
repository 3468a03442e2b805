-- Access to the ports of a file, which ends at the first fault.
use Rattle.std.specs.Prelude.{◌≡◌, ◌⊎◌, ℕ, ⊤, Option, Some, None, Result, Ok, Err, MatchOption}
use Rattle.std.specs.declared.io.Error.{Error}
use Rattle.uart_spec.specs.declared.access.Access.{Access}
use Rattle.uart_spec.specs.declared.access.Access.TheVariants.{Read, Write}
use Rattle.uart_port.specs.declared.ports.TheConstants.{FLOATING}
use Rattle.uart_port.specs.declared.ports.PortFault.{PortFault}
use Rattle.uart_port.specs.declared.ports.GuardedPorts.{GuardedPorts}

-- an access to a port that was made, with its answer or its value, or one that failed for a cause
pub data Attempt : Type 0 where
  Made : Access → Attempt
  Failed : (port : ℕ) → (cause : Error) → Attempt

-- the attempt to read a port, and the one to write to it, with this result
abbrev pub read_attempt : ℕ → Result ℕ Error → Attempt
read_attempt port (Ok value) = Made (Read port value)
read_attempt port (Err cause) = Failed port cause

abbrev pub write_attempt : ℕ → ℕ → Result (Unit {0}) Error → Attempt
write_attempt port value (Ok x) = Made (Write port value)
write_attempt port value (Err cause) = Failed port cause

-- the file, and the first fault
abbrev pub file_of : {F : Type 0} → GuardedPorts F → F
file_of ports = ports.file

abbrev pub fault_of : {F : Type 0} → GuardedPorts F → Option PortFault
fault_of ports = ports.fault

-- which port an access goes to
abbrev pub port_of : Access → ℕ
port_of (Read port answer) = port
port_of (Write port value) = port

-- a read returns what it returns if nothing is at the port
abbrev pub IsFloating : Access → Type 0
IsFloating (Read port answer) = answer ≡ FLOATING
IsFloating (Write port value) = ⊤

-- the file made the access, and nothing has failed
pub record IsMade {F : Type 0} (step : F → Attempt → F → Type 0) (old : GuardedPorts F) (access : Access)
    (new : GuardedPorts F) : Type 0 where
  pub made : step (file_of old) (Made access) (file_of new)
  pub fault : fault_of new ≡ None

-- the file failed at the access, which is the first fault, with its cause
pub record IsFailed {F : Type 0} (step : F → Attempt → F → Type 0) (old : GuardedPorts F) (access : Access)
    (new : GuardedPorts F) : Type 0 where
  pub first : PortFault
  pub failed : step (file_of old) (Failed (port_of access) first.cause) (file_of new)
  pub fault : fault_of new ≡ Some first
  pub port : first.port ≡ port_of access
  pub floating : IsFloating access

-- proved: Before a fault of a port an access is exactly the one requested, or fails; after it no access is made, and
--   reads return `ff`
-- on: `PortAccess` of `GuardedPorts`

-- before a fault the file makes the access or fails at it; after one nothing happens
abbrev pub GuardedStep : {F : Type 0} → (F → Attempt → F → Type 0) → GuardedPorts F → Access → GuardedPorts F →
    Type 0
GuardedStep step old access new = MatchOption (fault_of old)
    (IsMade step old access new ⊎ IsFailed step old access new)
    (λ fault. (new ≡ old) × IsFloating access)
