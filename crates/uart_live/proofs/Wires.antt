-- What the invariant of a wire in an array says of the bytes that wait.
use Rattle.std.proofs.Common.{◌≡◌, ℕ, ◌<◌, ◌≤◌, List, length, take, drop, arith}
use Rattle.std.proofs.lemmas.List.{length-take-le}
use Rattle.uart_live.specs.Ring.{window}
use Rattle.uart_live.proofs.Rings.{length-window}

-- half of the places are all that there is room for, no more wait than that, and their window has as many
pub wire_facts : (start count limit : ℕ) (slots : List ℕ) →
    (start < 64) × (count ≤ limit) × (limit ≤ 64) × (length slots ≡ 128) × (drop 64 slots ≡ take 64 slots) →
    (length (take 64 slots) ≡ 64) × (count ≤ 64) × (length (window start count (take 64 slots)) ≡ count)
wire_facts start count limit slots sound =
    let half = length-take-le 64 slots (omega (arith, sound.3)) in
    let fits : count ≤ 64 = omega (arith, sound.1, sound.2) in
    (half, fits, length-window 64 start count (take 64 slots) sound.0 fits half)
