-- A wait for one slot: the byte that came, or none.
use Rattle.std.proofs.Common.{◌≡◌, ◌<◌, ℕ, List, [], ◌∷◌, length, append-nil, arith, slice_index_or}
use Rattle.uart_spec.specs.declared.access.Access.{Access}
use Rattle.uart_16550.specs.Grammar.{AllMisses, InOrder, Settings, Then}
use Rattle.uart_16550.specs.Receive.{Awaited, Miss}

-- a slot that was filled has a byte that was waited for
pub heard_one : (bytes : List ℕ) (s : Settings) (l : List Access) → length bytes ≡ 1 → InOrder Awaited bytes s l →
    Awaited (slice_index_or bytes 0 0) s l
heard_one [] s l all t = absurd (omega (arith, all))
heard_one (byte ∷ []) s l all t = rw t.whole (rw t.second.is (rw (append-nil t.front) t.first))
heard_one (byte ∷ other ∷ bytes) s l all t = absurd (omega (arith, all))

-- a slot that was not filled was waited for in vain
pub silent_one : (bytes : List ℕ) (s : Settings) (l : List Access) → length bytes < 1 →
    Then (InOrder Awaited bytes) (AllMisses Miss) s l → AllMisses Miss s l
silent_one [] s l few t = rw t.whole (rw t.first.is t.second)
silent_one (byte ∷ bytes) s l few t = absurd (omega (arith, few))
