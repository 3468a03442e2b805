-- A byte that is taken as soon as it is written, and reads of LSR that show no error.
use Rattle.std.specs.List.{list_any}
use Rattle.std.proofs.Common.{◌||◌, ◌<◌, ◌≤◌, Option, Some, None}
use Rattle.std.proofs.Common.{◌≡◌, ℕ, Bool, true, false, not, ◌&&◌, ◌==◌, List, [], ◌∷◌, ◌++◌, length, drop, bit_and, refl, ap, sym, ◌∙◌}
use Rattle.std.proofs.Common.{subst, arith, if◌then◌else◌}
use Rattle.std.proofs.lemmas.Grind.{common_steps}
use Rattle.uart_chip.proofs.Bits.{has_and, has_none}
use Rattle.uart_chip.proofs.statuses.Status.{status_overrun}
use Rattle.uart_chip.specs.Chip.{ChipState, after_read, cut_of, line_status, take_wire}
use Rattle.uart_chip.proofs.soundness.Sounds.{steady_receiver, steady_transmitter}
use Rattle.uart_chip.specs.Sending.{send_at_once}
use Rattle.uart_live.proofs.Lives.{live-part}
use Rattle.uart_live.specs.Live.{IsLive}
use Rattle.uart_chip.specs.Receiver.{has_errors}
use Rattle.uart_live.specs.Quick.{clear_status, passed}
use Rattle.uart_spec.specs.Bits.{has_any}
use Rattle.uart_spec.specs.declared.registers.line_status.TheConstants.LSR
use Rattle.uart_spec.specs.declared.registers.offsets.TheConstants as offsets
use Rattle.uart_spec.specs.declared.setup.FifoSize.{FifoSize}

-- on an empty wire the byte would be alone, and then it is taken
pub pass : (value : ℕ) (c : ChipState) → c.transmitter.wire ≡ [] → passed c ≡ take_wire 1 (send_at_once value c)
pass value c none =
    ap (λ (wire : List ℕ). record c { transmitter = record c.transmitter { wire = wire; is_thr_pending = true } })
    (none ∙ ap (λ (wire : List ℕ). drop 1 (wire ++ cut_of c value ∷ [])) (sym none))

pub live-pass : {size : FifoSize} (c : ChipState) → IsLive size c → IsLive size (passed c)
live-pass c w =
    let t = w.whole.sound.chip.transmitter in
    live-part c (passed c) w
    (steady_transmitter c (record c.transmitter { is_thr_pending = true }) w.whole.sound.chip (record {
      in_room = t.in_room;
      ticking = t.ticking;
      at_least_one = t.at_least_one;
      at_most = t.at_most;
      on_wire = t.on_wire;
    }) refl refl) refl
    (w.none_lost, ((w.room, w.size), (w.flow, w.switch)))

-- ---- reads of LSR

no_bits : (n : ℕ) → not (n == 0) ≡ false → n ≡ 0
no_bits n e = grind (arith, common_steps)

-- LSR shows no error, so no character was lost
no_overrun : (c : ChipState) → has_any (line_status c) LSR.LINE_ERRORS.0 ≡ false → c.receiver.is_overrun ≡ false
no_overrun c e =
    sym (status_overrun c) ∙ (sym (has_and 1 (line_status c) LSR.LINE_ERRORS.0 refl) ∙
    (ap (λ (n : ℕ). has_any n LSR.OVERRUN_ERROR.0) (no_bits (bit_and (line_status c) LSR.LINE_ERRORS.0) e) ∙ has_none 1))

-- then a read of it leaves a chip in which no character waits
pub clear_read : (c : ChipState) → has_any (line_status c) LSR.LINE_ERRORS.0 ≡ false → length c.receiver.queue ≡ 0 →
    c ≡ after_read offsets.LSR c
clear_read c e none =
    ap (λ (overrun : Bool). record c { receiver = record c.receiver { is_overrun = overrun } }) (no_overrun c e) ∙
    ap (λ (n : ℕ). record c {
      receiver = record c.receiver {
        is_overrun = false;
        is_front_reported = if n == 0 then c.receiver.is_front_reported else true;
      };
    }) (sym none)

-- and has the front reported, if one waits
pub clear_report : (c : ChipState) → has_any (line_status c) LSR.LINE_ERRORS.0 ≡ false → (length c.receiver.queue == 0) ≡ false →
    record c { receiver = record c.receiver { is_front_reported = true } } ≡ after_read offsets.LSR c
clear_report c e some =
    ap (λ (overrun : Bool). record c { receiver = record c.receiver { is_overrun = overrun; is_front_reported = true } })
    (no_overrun c e) ∙
    ap (λ (none : Bool). record c {
      receiver = record c.receiver {
        is_overrun = false;
        is_front_reported = if none then c.receiver.is_front_reported else true;
      };
    }) (sym some)

-- what it answers, by whether LSR shows an error
pub unclear : (c : ChipState) → has_any (line_status c) LSR.LINE_ERRORS.0 ≡ true → ◌≡◌ {A = Option ℕ} None (clear_status c)
unclear c e = go (list_any has_errors c.receiver.queue) (has_any (line_status c) LSR.LINE_ERRORS.0) e
  where
    go : (a b : Bool) → b ≡ true → ◌≡◌ {A = Option ℕ} None (if a || b then None else Some (line_status c))
    go true b e = refl
    go false true e = refl
    go false false e = absurd (cc)

pub clear_is : (c : ChipState) (n : ℕ) → n ≡ line_status c → false ≡ list_any has_errors c.receiver.queue →
    has_any (line_status c) LSR.LINE_ERRORS.0 ≡ false → ◌≡◌ {A = Option ℕ} (Some n) (clear_status c)
clear_is c n is none e =
    ap (λ (n : ℕ). Some n) is ∙ go (list_any has_errors c.receiver.queue) (has_any (line_status c) LSR.LINE_ERRORS.0) none e
  where
    go : (a b : Bool) → false ≡ a → b ≡ false →
        ◌≡◌ {A = Option ℕ} (Some (line_status c)) (if a || b then None else Some (line_status c))
    go true b p q = absurd (cc)
    go false true p q = absurd (cc)
    go false false p q = refl

pub none_waits : (n : ℕ) → n ≤ 0 → n ≡ 0
none_waits n none = omega (arith, none)

pub some_waits : (n : ℕ) → 0 < n → (n == 0) ≡ false
some_waits n some = grind (arith, common_steps)

-- that the front was reported changes nothing that holds of a live chip
pub live-reported : {size : FifoSize} (c : ChipState) → IsLive size c →
    IsLive size (record c { receiver = record c.receiver { is_front_reported = true } })
live-reported c w =
    let r = w.whole.sound.chip.receiver in
    let d : ChipState = record c { receiver = record c.receiver { is_front_reported = true } } in
    live-part c d w
    (steady_receiver c.receiver.arrived c d.receiver w.whole.sound.chip (record {
      sound = record {
        marked = record {
          wait = r.marked.wait;
          distinct = r.marked.distinct;
          to_come = r.marked.to_come;
          in_room = r.marked.in_room;
          counted = r.marked.counted;
        };
        settled = r.settled;
        no_other = r.no_other;
        legal = r.legal;
        idle = r.idle;
      };
      number = refl;
      known = refl;
      limit = refl;
      size = refl;
    })) refl
    (w.none_lost, ((w.room, w.size), (w.flow, w.switch)))
