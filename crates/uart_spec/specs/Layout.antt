-- How the registers of a device lie at ports and in memory.
use Rattle.std.specs.Prelude.{◌≡◌, ℕ, ◌+◌, ◌*◌, ◌%◌, ◌^◌, ◌<◌, ◌≤◌, false, IsTrue}
use Rattle.std.specs.Int.{is_power_of_two}
use Rattle.uart_spec.specs.declared.errors.InvalidAddressError.{InvalidAddressError}
use Rattle.uart_spec.specs.declared.errors.InvalidAddressError.TheVariants.{InvalidBaseAddress, InvalidStride}
use Rattle.uart_spec.specs.declared.layout.InvalidLayoutError.{InvalidLayoutError}
use Rattle.uart_spec.specs.declared.layout.InvalidLayoutError.TheVariants.{InvalidAddress, StrideTooSmall}
use Rattle.uart_spec.specs.declared.layout.InvalidLayoutError.TheVariants.{MisalignedBase}
use Rattle.uart_spec.specs.declared.layout.RegisterLayout.{RegisterLayout}
use Rattle.uart_spec.specs.declared.layout.RegisterWidth.{RegisterWidth}
use Rattle.uart_spec.specs.declared.layout.RegisterWidth.TheVariants.{Bits8, Bits16, Bits32}
use Rattle.uart_spec.specs.declared.registers.offsets.TheConstants as offsets

-- how many bytes an access of this width has
abbrev pub bytes_of : RegisterWidth → ℕ
bytes_of Bits8 = 1
bytes_of Bits16 = 2
bytes_of Bits32 = 4

-- the eight ports from this one on exist: there are 65,536
abbrev pub ArePorts : (base : ℕ) → Type 0
ArePorts base = base + offsets.SPR ≤ 65535

-- registers are a power of two apart, and the last one, whose number this is, has an address below 2^64
pub record IsSpaced (base stride last : ℕ) : Type 0 where
  pub power : IsTrue (is_power_of_two stride)
  pub in_range : base + last * stride < 2 ^ 64

-- why registers cannot be so: the distance is checked first
abbrev pub IsSpacingRefusal : (base stride last : ℕ) → InvalidAddressError → Type 0
IsSpacingRefusal base stride last (InvalidStride s) = (s ≡ stride) × (is_power_of_two stride ≡ false)
IsSpacingRefusal base stride last (InvalidBaseAddress a) =
    (a ≡ base) × IsTrue (is_power_of_two stride) × (2 ^ 64 ≤ base + last * stride)

-- eight registers can lie so from this address on: no two overlap, and each is aligned to its width
pub record IsLaidOut (base : ℕ) (layout : RegisterLayout) : Type 0 where
  pub spaced : IsSpaced base layout.stride offsets.SPR
  pub apart : bytes_of layout.width ≤ layout.stride
  pub aligned : base % bytes_of layout.width ≡ 0

-- why they cannot, in the order of the checks
abbrev pub IsLayoutRefusal : (base : ℕ) → RegisterLayout → InvalidLayoutError → Type 0
IsLayoutRefusal base layout (InvalidAddress cause) = IsSpacingRefusal base layout.stride offsets.SPR cause
IsLayoutRefusal base layout (StrideTooSmall stride width) =
    IsSpaced base layout.stride offsets.SPR
    × (stride ≡ layout.stride) × (width ≡ layout.width) × (stride < bytes_of width)
IsLayoutRefusal base layout (MisalignedBase address width) =
    IsSpaced base layout.stride offsets.SPR × (bytes_of layout.width ≤ layout.stride)
    × (address ≡ base) × (width ≡ layout.width) × (0 < address % bytes_of width)
