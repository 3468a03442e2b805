-- The data of C beside those of a live chip.
use Rattle.std.proofs.Common.{◌≡◌, ◌==◌, ◌*◌, ◌&&◌, ℕ, Bool, true, false, List, [], ◌∷◌, map, take, length, refl, sym, ap, ◌∙◌}
use Rattle.std.proofs.Common.{subst, arith}
use Rattle.std.specs.List.{list_all}
use Rattle.std.proofs.lemmas.Grind.{common_steps}
use Rattle.std.proofs.lemmas.List.{take_min, length-take, length-map}
use Rattle.uart_c.proofs.Queues.{same_size}
use Rattle.uart_c.specs.Queue.{fifo_size_of, wire_of}
use Rattle.uart_c.specs.Saved.{IsLiveChip, is_sound}
use Rattle.uart_c.specs.State.{chip_data, chip_of, latches_of}
use Rattle.uart_c.specs.declared.chip.UartChip.{UartChip}
use Rattle.uart_chip.specs.Chip.{ChipState, with_size}
use Rattle.uart_chip.specs.Snapshot as snapshot
use Rattle.uart_chip.specs.declared.receiver.Character.{Character}
use Rattle.uart_chip.specs.Sound.{HoldBytes}
use Rattle.uart_live.proofs.Saves.{live_of, of_live}
use Rattle.uart_live.specs.Live.{IsLive}
use Rattle.uart_live.specs.Saved.{is_live}
use Rattle.uart_live.specs.declared.sound.TheConstants.{TIMEOUT_CHARACTERS}
use Rattle.uart_spec.specs.FifoSize.{characters}
use Rattle.uart_spec.specs.declared.setup.FifoSize.{FifoSize}

all_map : {X Y : Type 0} (p : Y → Bool) (f : X → Y) (xs : List X) → list_all (λ x. p (f x)) xs ≡ list_all p (map f xs)
all_map p f [] = refl
all_map p f (x ∷ xs) = ap (λ more. p (f x) && more) (all_map p f xs)

-- all characters of a queue are all that are in its array before its end
pub all_of_queue : {X : Type 0} (p : Character → Bool) (f : X → Character) (n len : ℕ) (items : List X) →
    len ≡ length (map f (take n items)) → list_all (λ x. p (f x)) (take len items) ≡ list_all p (map f (take n items))
all_of_queue p f n len items is =
    let whole : take len items ≡ take n items =
    ap (λ k. take k items) (is ∙ length-map (take n items) f ∙ length-take n items) ∙ take_min n items in
    all_map p f (take len items) ∙ ap (λ xs. list_all p (map f xs)) whole

-- ---- the whole chip

both-true : (a b : Bool) → (a && b) ≡ true → (a ≡ true) × (b ≡ true)
both-true true b e = (refl, e)
both-true false b e = absurd (cc)

true-both : (a b : Bool) → a ≡ true → b ≡ true → (a && b) ≡ true
true-both a b p q = rw (p, q) refl

equal : (a b : ℕ) → (a == b) ≡ true → a ≡ b
equal a b e = grind (arith, common_steps)

is-equal : (a b : ℕ) → a ≡ b → (a == b) ≡ true
is-equal a b e = grind (arith, common_steps)

-- the chip that the data of C are is the one that is saved so
same_chip : (c : UartChip) → c.receiver.timeout_limit ≡ TIMEOUT_CHARACTERS * c.transmitter.char_ticks →
    fifo_size_of c.receiver.fifo_size ≡ fifo_size_of c.transmitter.fifo_size →
    chip_of c ≡ with_size (fifo_size_of c.transmitter.fifo_size) (snapshot.chip_of (chip_data c) (wire_of c.transmitter.wire))
same_chip c e sizes =
    ap (λ (limit : ℕ). record (chip_of c) { receiver = record (chip_of c).receiver { timeout_limit = limit } }) e ∙
    ap (λ (size : FifoSize). record (chip_of c) {
      receiver = record (chip_of c).receiver { size = size; timeout_limit = TIMEOUT_CHARACTERS * c.transmitter.char_ticks };
    }) sizes

-- FIFOs of as many characters have one size
one_size : (m n : ℕ) → characters (fifo_size_of m) ≡ characters (fifo_size_of n) → fifo_size_of m ≡ fifo_size_of n
one_size m n e = sym (same_size m) ∙ ap (λ (count : ℕ). fifo_size_of count) e ∙ same_size n

pub sound_live : (c : UartChip) → is_sound c ≡ true → HoldBytes (latches_of c.latches) → IsLiveChip (chip_of c)
sound_live c e bytes =
    let size : FifoSize = fifo_size_of c.transmitter.fifo_size in
    let wire : List ℕ = wire_of c.transmitter.wire in
    let both = both-true (is_live size (chip_data c) wire) _ e in
    let others = both-true (c.receiver.timeout_limit == TIMEOUT_CHARACTERS * c.transmitter.char_ticks) _ both.1 in
    subst (λ (d : ChipState). IsLive size d)
    (sym (same_chip c (equal _ _ others.0) (one_size c.receiver.fifo_size c.transmitter.fifo_size (equal _ _ others.1))))
    (live_of size (chip_data c) wire both.0 bytes)

pub live_sound : (c : UartChip) → IsLiveChip (chip_of c) → is_sound c ≡ true
live_sound c w =
    let size : FifoSize = fifo_size_of c.transmitter.fifo_size in
    let limit = w.whole.sound.chip.limit in
    let sizes = w.whole.sound.chip.sizes in
    true-both _ _
    (of_live size (chip_data c) (wire_of c.transmitter.wire) (subst (λ (d : ChipState). IsLive size d) (same_chip c limit sizes) w))
    (true-both _ _ (is-equal _ _ limit) (is-equal _ _ (ap (λ (size : FifoSize). characters size) sizes)))
