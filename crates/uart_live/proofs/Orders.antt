-- What goes out of a live chip and comes into it keeps its order.
use Rattle.std.proofs.Common.{◌≡◌, ◌≢◌, ℕ, zero, suc, ◌<◌, Bool, true, false, ◌||◌, nat_lt, List, [], ◌∷◌, ◌++◌, length}
use Rattle.std.proofs.Common.{take, drop, append_assoc, append-nil, refl, ap, sym, ◌∙◌}
use Rattle.std.proofs.lemmas.List.{take-append-drop}
use Rattle.uart_chip.specs.declared.receiver.Character.{Character}
use Rattle.uart_chip.specs.declared.receiver.Origin.TheVariants.{Live}
use Rattle.uart_chip.specs.Transmitter as transmitter
use Rattle.uart_chip.specs.Transmitter.{TransmitterState, room, held, out}
use Rattle.uart_chip.specs.Receiver.{ReceiverState, enter, replace, take_front}
use Rattle.uart_chip.specs.Chip.{ChipState, cut_of, is_loopback, is_held_off, line_status, ticks, arrive_live}
use Rattle.uart_chip.specs.Chip.{after_read}
use Rattle.uart_chip.proofs.conservation.Sends.{sends-tick, sends-load}
use Rattle.uart_chip.proofs.soundness.Sounds.{latches-ticks}
use Rattle.uart_chip.proofs.statuses.Status.{status_overrun}
use Rattle.uart_spec.specs.Bits.{has_any}
use Rattle.uart_spec.specs.declared.registers.line_status.TheConstants.LSR
use Rattle.uart_spec.specs.declared.registers.offsets.TheConstants as offsets
use Rattle.uart_live.specs.Held.{is_due, expire, arrive_holding}
use Rattle.uart_live.specs.Laws.{Act, Read, Write, Ticks, Arrive, ArriveHolding, TakeWire, after}
use Rattle.uart_live.specs.Laws.{after_all, in_turn, AllInTurn, is_data, is_plain}
use Rattle.uart_live.specs.Laws.{sent, taken, IsCareful, BytesLeaveInOrder, came, read, IsUnreset, shows_overrun, some_overrun}
use Rattle.uart_live.specs.Laws.{CharactersAreReadInOrder, PlainReadsChangeNothing}
use Rattle.uart_chip.proofs.AccessMoves.{both_if, ReadMove, stays, takes, acknowledges, looks, sees, read_move}
use Rattle.uart_chip.proofs.AccessMoves.{WriteMove, ignores, sets_low, sends, sets_high, enables, switches, resizes, clears}
use Rattle.uart_chip.proofs.AccessMoves.{empties, triggers, frames, steers, notes}
use Rattle.uart_chip.proofs.AccessMoves.{write_move}

-- ---- what goes out

-- the bytes that are to go out are those
abbrev pub Goes : List ℕ → ChipState → Type 0
Goes bytes c = out c.transmitter ≡ bytes

goes-reads : (offset : ℕ) (c d : ChipState) → ReadMove offset c d → Goes (out c.transmitter) d
goes-reads offset c d (takes p q) = refl
goes-reads offset c d _ = refl

goes-read : (offset : ℕ) (c : ChipState) → Goes (out c.transmitter) (after_read offset c)
goes-read offset c = goes-reads offset c _ (read_move offset c)

goes-ticks : (n : ℕ) (c : ChipState) → is_loopback c.latches ≡ false → Goes (out c.transmitter) (ticks n c)
goes-ticks zero c l = refl
goes-ticks (suc n) c l =
    let d : ChipState = ticks n c in
    let outside : is_loopback d.latches ≡ false = rw (latches-ticks n c) l in
    let ticked : out (transmitter.tick (is_loopback d.latches) (is_held_off d) d.transmitter) ≡ out d.transmitter =
    rw outside ((sends-tick (is_held_off d) d.transmitter).grows ∙ append-nil (out d.transmitter)) in
    ticked ∙ goes-ticks n c l

-- a write of another register than FCR
goes-writes : (offset value : ℕ) (c d : ChipState) → WriteMove offset value c d → offset ≢ offsets.FCR →
    (is_data offset c ≡ true → length c.transmitter.queue < room c.fifo c.transmitter.size) →
    Goes (out c.transmitter ++ sent (Write offset value) c) d
goes-writes offset value c d (sends e q) f free =
    rw (e, q) (sends-load c.fifo (cut_of c value) c.transmitter (free (rw (e, q) refl))).grows
goes-writes offset value c d (sets_low e q) f free = rw (e, q) (sym (append-nil (out c.transmitter)))
goes-writes offset value c d (empties e) f free = absurd (f e)
goes-writes offset value c d (ignores none) f free = rw none (sym (append-nil (out c.transmitter)))
goes-writes offset value c d (switches e m on) f free = absurd (f e)
goes-writes offset value c d (resizes e s) f free = absurd (f e)
goes-writes offset value c d (clears e) f free = absurd (f e)
goes-writes offset value c d (triggers e level) f free = absurd (f e)
goes-writes offset value c d (sets_high e q) f free = rw e (sym (append-nil (out c.transmitter)))
goes-writes offset value c d (enables e q) f free = rw e (sym (append-nil (out c.transmitter)))
goes-writes offset value c d (frames e) f free = rw e (sym (append-nil (out c.transmitter)))
goes-writes offset value c d (steers e) f free = rw e (sym (append-nil (out c.transmitter)))
goes-writes offset value c d (notes e) f free = rw e (sym (append-nil (out c.transmitter)))

goes-after : (act : Act) (c : ChipState) → IsCareful act c →
    taken act c ++ out (after act c).transmitter ≡ out c.transmitter ++ sent act c
goes-after (Read offset) c h = goes-read offset c ∙ sym (append-nil (out c.transmitter))
goes-after (Write offset value) c h = goes-writes offset value c _ (write_move offset value c h.0) h.0 h.1
goes-after (Ticks count) c h = goes-ticks count c h ∙ sym (append-nil (out c.transmitter))
goes-after (TakeWire count) c h =
    let t : TransmitterState = c.transmitter in
    sym (append_assoc (take count t.wire) (drop count t.wire) (held t)) ∙
    (ap (λ xs. xs ++ held t) (take-append-drop count t.wire) ∙ sym (append-nil (out t)))
goes-after (ArriveHolding byte errors) c h =
    let same : out c.transmitter ≡ out c.transmitter ++ [] = sym (append-nil (out c.transmitter)) in
    let d : ChipState = arrive_live byte errors c in
    both_if (Goes (out c.transmitter ++ [])) (expire d) d (is_due c) same same
goes-after _ c h = sym (append-nil (out c.transmitter))

pub bytes_leave : BytesLeaveInOrder
bytes_leave [] c h = sym (append-nil (out c.transmitter))
bytes_leave (act ∷ acts) c h =
    let d : ChipState = after act c in
    let e : ChipState = after_all acts d in
    append_assoc (taken act c) (in_turn taken acts d) (out e.transmitter) ∙
    (ap (λ xs. taken act c ++ xs) (bytes_leave acts d h.1) ∙
    (sym (append_assoc (taken act c) (out d.transmitter) (in_turn sent acts d)) ∙
    (ap (λ xs. xs ++ in_turn sent acts d) (goes-after act c h.0) ∙
    append_assoc (out c.transmitter) (sent act c) (in_turn sent acts d))))

-- ---- what comes in

-- from one receiver to another these came in and those were read, and no overrun was pending before
pub record Passes (r s : ReceiverState) (entering leaving : List Character) : Type 0 where
  pub kept : r.queue ++ entering ≡ leaving ++ s.queue
  pub calm : r.is_overrun ≡ false

-- nothing moves
passes-same : (r s : ReceiverState) → s.queue ≡ r.queue → s.is_overrun ≡ r.is_overrun → s.is_overrun ≡ false → Passes r s [] []
passes-same r s q o calm = record { kept = append-nil r.queue ∙ sym q; calm = sym o ∙ calm }

passes-enter : (fifo : Bool) (new : Character) (r : ReceiverState) → (enter fifo new r).is_overrun ≡ false →
    Passes r (enter fifo new r) (new ∷ []) []
passes-enter fifo new r calm = go (nat_lt (length r.queue) (room fifo r.size)) refl fifo refl calm
  where
    swap : (queue : List Character) → r.queue ≡ queue → nat_lt (length queue) 1 ≡ false → (replace queue new r).is_overrun ≡ false →
        Passes r (replace queue new r) (new ∷ []) []
    swap [] q full calm = absurd (cc)
    swap (old ∷ others) q full calm = absurd (cc)

    go : (b : Bool) → nat_lt (length r.queue) (room fifo r.size) ≡ b → (on : Bool) → fifo ≡ on → (enter fifo new r).is_overrun ≡ false →
        Passes r (enter fifo new r) (new ∷ []) []
    go true free on f calm = rw free (record { kept = refl; calm = rw free at calm })
    go false full true f calm = let no : true ≡ false = rw (full, f) at calm in absurd (cc)
    go false full false f calm =
        rw (full, f) (swap r.queue refl (rw f at full) (rw (full, f) at calm))

passes-arrival : (byte errors : ℕ) (c : ChipState) → (arrive_live byte errors c).receiver.is_overrun ≡ false →
    Passes c.receiver (arrive_live byte errors c).receiver (came (Arrive byte errors) c) []
passes-arrival byte errors c calm = go (is_loopback c.latches) refl calm
  where
    go : (b : Bool) → is_loopback c.latches ≡ b → (arrive_live byte errors c).receiver.is_overrun ≡ false →
        Passes c.receiver (arrive_live byte errors c).receiver (came (Arrive byte errors) c) []
    go true l calm = rw l (passes-same c.receiver c.receiver refl refl (rw l at calm))
    go false l calm =
        rw l (passes-enter c.fifo (record { byte = cut_of c byte; errors = errors; origin = Live }) c.receiver (rw l at calm))

passes-hold : (byte errors : ℕ) (c : ChipState) → (arrive_holding byte errors c).receiver.is_overrun ≡ false →
    Passes c.receiver (arrive_holding byte errors c).receiver (came (ArriveHolding byte errors) c) []
passes-hold byte errors c calm =
    let d : ChipState = arrive_live byte errors c in
    let e : ChipState = arrive_holding byte errors c in
    let queue : e.receiver.queue ≡ d.receiver.queue =
    both_if (λ (x : ChipState). x.receiver.queue ≡ d.receiver.queue) (expire d) d (is_due c) refl refl in
    let overrun : e.receiver.is_overrun ≡ d.receiver.is_overrun =
    both_if (λ (x : ChipState). x.receiver.is_overrun ≡ d.receiver.is_overrun) (expire d) d (is_due c) refl refl in
    let w = passes-arrival byte errors c (sym overrun ∙ calm) in
    record { kept = w.kept ∙ sym queue; calm = w.calm }

passes-ticks : (n : ℕ) (c : ChipState) → is_loopback c.latches ≡ false →
    ((ticks n c).receiver.queue ≡ c.receiver.queue) × ((ticks n c).receiver.is_overrun ≡ c.receiver.is_overrun)
passes-ticks zero c l = (refl, refl)
passes-ticks (suc n) c l =
    let outside : is_loopback (ticks n c).latches ≡ false = rw (latches-ticks n c) l in rw outside (passes-ticks n c l)

passes-take : (queue : List Character) (r : ReceiverState) → r.queue ≡ queue → (take_front queue r).is_overrun ≡ false →
    Passes r (take_front queue r) [] (take 1 queue)
passes-take [] r q calm = record { kept = append-nil r.queue ∙ q ∙ sym q; calm = calm }
passes-take (front ∷ others) r q calm = record { kept = append-nil r.queue ∙ q; calm = calm }

-- a read, but one of the data outside of the divisor latch takes the front
passes-reads : (offset : ℕ) (c d : ChipState) → ReadMove offset c d → shows_overrun (Read offset) c ≡ false →
    d.receiver.is_overrun ≡ false →
    Passes c.receiver d.receiver [] (read (Read offset) c)
passes-reads offset c d (takes e q) unseen calm = rw (e, q) (passes-take c.receiver.queue c.receiver refl calm)
passes-reads offset c d (acknowledges e) unseen calm = rw e (passes-same c.receiver c.receiver refl refl calm)
passes-reads offset c d (looks e) unseen calm =
    let unshown : has_any (line_status c) LSR.OVERRUN_ERROR.0 ≡ false = rw e at unseen in
    rw e (record { kept = append-nil c.receiver.queue; calm = sym (status_overrun c) ∙ unshown })
passes-reads offset c d (sees e) unseen calm = rw e (passes-same c.receiver c.receiver refl refl calm)
passes-reads offset c d (stays none) unseen calm = rw none (passes-same c.receiver c.receiver refl refl calm)

passes-writes : (offset value : ℕ) (c d : ChipState) → WriteMove offset value c d → offset ≢ offsets.FCR → d.receiver ≡ c.receiver
passes-writes offset value c d (switches e m on) f = absurd (f e)
passes-writes offset value c d (resizes e s) f = absurd (f e)
passes-writes offset value c d (clears e) f = absurd (f e)
passes-writes offset value c d (triggers e level) f = absurd (f e)
passes-writes offset value c d _ f = refl

passes-after : (act : Act) (c : ChipState) → IsUnreset act c → shows_overrun act c ≡ false → (after act c).receiver.is_overrun ≡ false →
    Passes c.receiver (after act c).receiver (came act c) (read act c)
passes-after (Read offset) c h unseen calm = passes-reads offset c _ (read_move offset c) unseen calm
passes-after (Write offset value) c h unseen calm =
    let e = passes-writes offset value c _ (write_move offset value c h) h in
    passes-same c.receiver _ (ap (λ (r : ReceiverState). r.queue) e) (ap (λ (r : ReceiverState). r.is_overrun) e) calm
passes-after (Ticks count) c h unseen calm =
    let same = passes-ticks count c h in passes-same c.receiver (ticks count c).receiver same.0 same.1 calm
passes-after (Arrive byte errors) c h unseen calm = passes-arrival byte errors c calm
passes-after (ArriveHolding byte errors) c h unseen calm = passes-hold byte errors c calm
passes-after _ c h unseen calm = passes-same c.receiver c.receiver refl refl calm

none-of : (a b : Bool) → (a || b) ≡ false → (a ≡ false) × (b ≡ false)
none-of true b e = absurd (cc)
none-of false b e = (refl, e)

passes-all : (acts : List Act) (c : ChipState) → AllInTurn IsUnreset acts c → some_overrun acts c ≡ false →
    (after_all acts c).receiver.is_overrun ≡ false →
    Passes c.receiver (after_all acts c).receiver (in_turn came acts c) (in_turn read acts c)
passes-all [] c h unseen calm = passes-same c.receiver c.receiver refl refl calm
passes-all (act ∷ acts) c h unseen calm =
    let d : ChipState = after act c in
    let both = none-of (shows_overrun act c) (some_overrun acts d) unseen in
    let later = passes-all acts d h.1 both.1 calm in
    let first = passes-after act c h.0 both.0 later.calm in
    record {
      kept =
          sym (append_assoc c.receiver.queue (came act c) (in_turn came acts d)) ∙
          (ap (λ xs. xs ++ in_turn came acts d) first.kept ∙
          (append_assoc (read act c) d.receiver.queue (in_turn came acts d) ∙
          (ap (λ xs. read act c ++ xs) later.kept ∙
          sym (append_assoc (read act c) (in_turn read acts d) (after_all acts d).receiver.queue))));
      calm = first.calm;
    }

pub characters_read : CharactersAreReadInOrder
characters_read acts c h unseen calm = (passes-all acts c h unseen calm).kept

-- ---- reads without effect

plain-reads : (offset : ℕ) (c d : ChipState) → is_plain offset c ≡ true → ReadMove offset c d → d ≡ c
plain-reads offset c d h (stays none) = refl
plain-reads offset c d h (takes e q) = let no : false ≡ true = rw (e, q) at h in absurd (cc)
plain-reads offset c d h (acknowledges e) = let no : false ≡ true = rw e at h in absurd (cc)
plain-reads offset c d h (looks e) = let no : false ≡ true = rw e at h in absurd (cc)
plain-reads offset c d h (sees e) = let no : false ≡ true = rw e at h in absurd (cc)

pub plain_reads : PlainReadsChangeNothing
plain_reads offset c h = plain-reads offset c _ h (read_move offset c)
