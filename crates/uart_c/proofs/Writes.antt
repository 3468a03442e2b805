-- A byte that is written to DATA goes into the queue of a FIFO as it is.
use Rattle.std.proofs.Common.{◌≡◌, ℕ, ◌≤◌, Bool, true, false, not, ◌&&◌, [], ◌∷◌, ◌++◌, length, nat_lt, refl, ap, sym, ◌∙◌, arith}
use Rattle.std.proofs.Common.{if◌then◌else◌}
use Rattle.std.proofs.lemmas.Grind.{common_steps}
use Rattle.uart_chip.proofs.Sizes.{at_least_16}
use Rattle.uart_chip.specs.Chip.{ChipState, after_write, cut_of, cut_to, is_dlab_set, with_latches}
use Rattle.uart_chip.specs.Transmitter.{TransmitterState, load}
use Rattle.uart_live.proofs.Sends.{each, unset}
use Rattle.uart_spec.specs.FifoSize.{characters}
use Rattle.uart_spec.specs.declared.baud.TheConstants.{FIFO_SIZE}
use Rattle.uart_spec.specs.declared.registers.offsets.TheConstants as offsets

-- where a FIFO of 16 has room, each has
wider : (n most : ℕ) → 16 ≤ most → nat_lt n FIFO_SIZE ≡ true → nat_lt n most ≡ true
wider n most h few = grind (arith, common_steps)

-- there is room in the FIFO
loaded : (fifo : Bool) (byte : ℕ) (t : TransmitterState) → fifo ≡ true → nat_lt (length t.queue) FIFO_SIZE ≡ true →
    load fifo byte t ≡ record t { queue = t.queue ++ byte ∷ []; is_thr_pending = false }
loaded true byte t on room = rw (wider (length t.queue) (characters t.size) (at_least_16 t.size) room) refl
loaded false byte t on room = absurd (cc)

-- characters are not cut
uncut : (cuts : Bool) (length byte : ℕ) → cuts ≡ false → cut_to cuts length byte ≡ byte
uncut false length byte off = refl
uncut true length byte off = absurd (cc)

second : (b : Bool) (x y : ChipState) → b ≡ false → (if b then x else y) ≡ y
second false x y e = refl
second true x y e = absurd (cc)

pub queued : (offset value : ℕ) (c : ChipState) (t : TransmitterState) → offset ≡ offsets.DATA →
    (not (is_dlab_set c.latches) &&
    (not c.cuts && (c.fifo && nat_lt (length c.transmitter.queue) FIFO_SIZE))) ≡ true →
    t ≡ record c.transmitter { queue = c.transmitter.queue ++ value ∷ []; is_thr_pending = false } →
    record c { transmitter = t } ≡ after_write offset value c
queued offset value c t first whole is =
    let a = each (not (is_dlab_set c.latches)) _ whole in
    let b = each (not c.cuts) _ a.1 in
    let d = each c.fifo _ b.1 in
    let same : cut_of c value ≡ value = uncut c.cuts _ value (unset _ b.0) in
    let put : t ≡ load c.fifo (cut_of c value) c.transmitter =
    is ∙ sym (loaded c.fifo value c.transmitter d.0 d.1) ∙ ap (λ (byte : ℕ). load c.fifo byte c.transmitter) (sym same) in
    ap (λ (u : TransmitterState). record c { transmitter = u }) put ∙
    sym (second (is_dlab_set c.latches) (with_latches (record c.latches { dll = value }) c) _ (unset _ a.0)) ∙
    ap (λ (n : ℕ). after_write n value c) (sym first)
