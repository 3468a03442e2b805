-- Registers at I/O ports.
use Rattle.std.specs.Prelude.{◌≡◌, ℕ, ◌+◌, ◌<◌, ◌≤◌}
use Rattle.uart_spec.specs.declared.errors.InvalidAddressError.{InvalidAddressError}
use Rattle.uart_spec.specs.declared.errors.InvalidAddressError.TheVariants.{InvalidBaseAddress}
use Rattle.uart_spec.specs.declared.registers.offsets.TheConstants as offsets
use Rattle.uart_spec.specs.declared.access.Access.{Access}
use Rattle.uart_16550.specs.Backend.{access_at}

-- what contracts see of a `PioBackend`: the port of the first register, and the object that reaches the ports
pub record Ports (P : Type 0) : Type 0 where
  pub base : ℕ
  pub access : P

-- there are 65,536 ports
abbrev pub last_port : ℕ
last_port = 65535

-- the port of the last register is one of them
abbrev pub IsPortBase : ℕ → Type 0
IsPortBase base = base + offsets.SPR ≤ last_port

-- the registers are at the ports from this one on, and this object accesses them
pub record IsAtPorts {P : Type 0} (ports : Ports P) (port : ℕ) (object : P) : Type 0 where
  pub base : ports.base ≡ port
  pub access : ports.access ≡ object
  pub in_range : IsPortBase port

-- why no registers can be at the ports from this one on: the last of them would be beyond the last port
pub record IsPortRefusal (port : ℕ) (e : InvalidAddressError) : Type 0 where
  pub is : e ≡ InvalidBaseAddress port
  pub beyond : last_port < port + offsets.SPR

-- promise: I/O ports and memory are touched at base and offset alone
-- with: PortStep.made, MemoryStep.made
-- shown by: ports_are_reached_one_by_one, a_device_in_memory
-- refused: ports_write_twice, memory_reads_the_first_register

-- the object makes the access at the port base + offset, and the base does not change
pub record PortStep {P : Type 0} (step : P → Access → P → Type 0) (old : Ports P) (access : Access)
    (new : Ports P) : Type 0 where
  pub made : step old.access (access_at (λ offset. old.base + offset) access) new.access
  pub base : new.base ≡ old.base
