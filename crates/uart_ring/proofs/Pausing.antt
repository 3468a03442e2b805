-- Changes of IER, and of the pause that goes with one of them.
use Rattle.std.proofs.Common.{◌≡◌, ℕ, Bool, MatchBool, [], ◌∷◌, bit_or}
use Rattle.bitflags.specs.Sets.{without}
use Rattle.uart_spec.specs.declared.access.Access.TheVariants.{Read, Write}
use Rattle.uart_spec.specs.declared.registers.offsets.TheConstants as offsets
use Rattle.uart_16550.specs.Driver.{Doing, with_interrupts}
use Rattle.uart_ring.specs.Ring.{RingDoing, OnDriver, Stays, with_paused}

-- IER with these interrupts too, and without them
abbrev pub joined_with : (bits ier : ℕ) → ℕ
joined_with bits ier = bit_or ier bits

abbrev pub rid_of : (bits ier : ℕ) → ℕ
rid_of bits ier = without 8 ier bits

-- what `enable_interrupts` and `disable_interrupts` do: IER is read, and written as this makes of it
abbrev pub ChangesIer : (ℕ → ℕ) → Doing
ChangesIer change f l after = (ier : ℕ) × (l ≡ Read offsets.IER ier ∷ Write offsets.IER (change ier) ∷ [])
    × (after ≡ with_interrupts (change ier) f)

-- what a full receive ring and the end of a pause do: if so, IER is changed, and receiving is paused or not
abbrev pub Pausing : (ℕ → ℕ) → (paused when : Bool) → RingDoing
Pausing change paused when f l after = MatchBool when (OnDriver (ChangesIer change) (with_paused paused) f l after) (Stays f l after)
