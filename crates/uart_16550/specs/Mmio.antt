-- Registers in memory.
use Rattle.std.specs.Prelude.{◌≡◌, ℕ, ◌+◌, ◌*◌, ◌^◌, ◌<◌, ◌≤◌, false, IsTrue}
use Rattle.std.specs.Int.{is_power_of_two}
use Rattle.std.specs.Int.NonZero.{non_zero_usize_get, non_zero_u8_get}
use Rattle.std.specs.declared.num.NonZeroUsize.{NonZeroUsize}
use Rattle.std.specs.declared.num.NonZeroU8.{NonZeroU8}
use Rattle.uart_spec.specs.declared.errors.InvalidAddressError.{InvalidAddressError}
use Rattle.uart_spec.specs.declared.errors.InvalidAddressError.TheVariants.{InvalidBaseAddress, InvalidStride}
use Rattle.uart_spec.specs.declared.registers.offsets.TheConstants as offsets
use Rattle.uart_spec.specs.declared.access.Access.{Access}
use Rattle.uart_16550.specs.Backend.{access_at}

-- the address of the first register, the distance between two registers in bytes, and the object that accesses the
-- memory
pub record Mapped (M : Type 0) : Type 0 where
  pub base : NonZeroUsize
  pub stride : NonZeroU8
  pub access : M

-- the address of a register: base + offset * stride
abbrev pub address_of : (base stride offset : ℕ) → ℕ
address_of base stride offset = base + offset * stride

-- the stride is a power of two, and the address of the last register is below 2^64
pub record IsMapping (base stride : ℕ) : Type 0 where
  pub power : IsTrue (is_power_of_two stride)
  pub in_range : address_of base stride offsets.SPR < 2 ^ 64

-- the registers are in memory from this address on, with this distance, and this object accesses them
pub record IsInMemory {M : Type 0} (mapped : Mapped M) (address : NonZeroUsize) (apart : ℕ) (object : M) : Type 0 where
  pub base : mapped.base ≡ address
  pub stride : non_zero_u8_get mapped.stride ≡ apart
  pub access : mapped.access ≡ object
  pub mapping : IsMapping (non_zero_usize_get address) apart

-- why no registers can be in memory from this address on: the stride is checked first
abbrev pub IsMappingRefusal : (address apart : ℕ) → InvalidAddressError → Type 0
IsMappingRefusal address apart (InvalidStride s) = (s ≡ apart) × (is_power_of_two apart ≡ false)
IsMappingRefusal address apart (InvalidBaseAddress a) =
    (a ≡ address) × IsTrue (is_power_of_two apart) × (2 ^ 64 ≤ address_of address apart offsets.SPR)

-- the object makes the access at the address base + offset * stride, and base and stride do not change
pub record MemoryStep {M : Type 0} (step : M → Access → M → Type 0) (old : Mapped M) (access : Access)
    (new : Mapped M) : Type 0 where
  pub made : step old.access
      (access_at (address_of (non_zero_usize_get old.base) (non_zero_u8_get old.stride)) access) new.access
  pub base : new.base ≡ old.base
  pub stride : new.stride ≡ old.stride
