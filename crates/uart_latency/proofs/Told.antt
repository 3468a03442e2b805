-- Once a look at LSR has told the line errors, none is shown until the next character is read, as long as there is room for those that
-- come. So the receiver's interrupt is the first then.
use Rattle.uart_latency.proofs.Names.{◌≡◌, ℕ, ◌≤◌, ◌<◌, ◌==◌, ◌&&◌, ◌⊎◌, inl, inr, Bool, true, false, nat_lt, List, [], ◌∷◌, length}
use Rattle.uart_latency.proofs.Names.{length-append, refl, sym, ◌∙◌, ap, subst, arith, if◌then◌else◌, Option, Some, bit_or, list_any}
use Rattle.uart_latency.proofs.Names.{false≢true, nat_tests, has_any, flag, characters, InterruptType, ReceiverLineStatus}
use Rattle.uart_latency.proofs.Names.{ReceivedDataReady, Character, ChipState, is_loopback, is_transmitter_empty, line_status, interrupt}
use Rattle.uart_latency.proofs.Names.{tick, arrive, cut_of, ReceiverState, report, front_errors, unreported, has_errors, is_data_pending}
use Rattle.uart_spec.specs.declared.registers.interrupt_enable.TheConstants.IER
use Rattle.uart_spec.specs.declared.registers.line_status.TheConstants.LSR
use Rattle.uart_chip.specs.Receiver as receiver
use Rattle.uart_latency.proofs.Moves.{tick_is, tick_keeps}

-- a character waits, whose errors were told, and no overrun is noted
pub record IsTold (r : ReceiverState) : Type 0 where
  pub overrun : r.is_overrun ≡ false
  pub front : r.is_front_reported ≡ true
  pub some : 1 ≤ length r.queue

-- ---- it becomes so, and stays so

pub told_report : (r : ReceiverState) → 1 ≤ length r.queue → IsTold (report r)
told_report r some =
    let more : (length r.queue == 0) ≡ false = grind (arith, nat_tests) in
    record { overrun = refl; front = ap (λ b. if b then r.is_front_reported else true) more; some = some }

pub told_tick : (c : ChipState) → is_loopback c.latches ≡ false → IsTold c.receiver → IsTold (tick c).receiver
told_tick c off h = record {
  overrun = ap (λ (d : ChipState). d.receiver.is_overrun) (tick_is c off) ∙ h.overrun;
  front = ap (λ (d : ChipState). d.receiver.is_front_reported) (tick_is c off) ∙ h.front;
  some = let same = tick_keeps c off in let some = h.some in omega (arith, same, some);
}

told_enters : (r : ReceiverState) (byte errors : ℕ) → nat_lt (length r.queue) (characters r.size) ≡ true → IsTold r →
    IsTold (receiver.arrive false true byte errors r)
told_enters r byte errors e h =
    let some = h.some in
    let more : (length r.queue == 0) ≡ false = grind (arith, nat_tests) in
    rw e (record {
      overrun = h.overrun;
      front = ap (λ b. if b then false else r.is_front_reported) more ∙ h.front;
      some = simp length-append (omega arith);
    })

-- a character comes, for which there is room
pub told_arrives : (byte errors : ℕ) (c : ChipState) → c.fifo ≡ true → is_loopback c.latches ≡ false →
    length c.receiver.queue < characters c.receiver.size → IsTold c.receiver → IsTold (arrive byte errors c).receiver
told_arrives byte errors c on off room h =
    let cut = cut_of c byte in
    let fits : nat_lt (length c.receiver.queue) (characters c.receiver.size) ≡ true = grind (arith, nat_tests) in
    let same : receiver.arrive (is_loopback c.latches) c.fifo cut errors c.receiver ≡ receiver.arrive false true cut errors c.receiver =
    ap (λ (b : Bool). receiver.arrive b c.fifo cut errors c.receiver) off ∙
    ap (λ (b : Bool). receiver.arrive false b cut errors c.receiver) on in
    let P : ReceiverState → Type 0 = λ s. IsTold s in subst P (sym same) (told_enters c.receiver cut errors fits h)

-- ---- what is shown

-- without an overrun and without an error in front LSR shows none, whatever else it shows
no_error : (readable thr empty error : Bool) →
    has_any (bit_or (bit_or (bit_or (flag readable LSR.DATA_READY.0) (flag false LSR.OVERRUN_ERROR.0))
    (bit_or 0 (flag thr LSR.THR_EMPTY.0)))
    (bit_or (flag empty LSR.TRANSMITTER_EMPTY.0) (flag error LSR.FIFO_DATA_ERROR.0))) LSR.LINE_ERRORS.0 ≡ false
no_error true true true true = refl
no_error true true true false = refl
no_error true true false true = refl
no_error true true false false = refl
no_error true false true true = refl
no_error true false true false = refl
no_error true false false true = refl
no_error true false false false = refl
no_error false true true true = refl
no_error false true true false = refl
no_error false true false true = refl
no_error false true false false = refl
no_error false false true true = refl
no_error false false true false = refl
no_error false false false true = refl
no_error false false false false = refl

none_in_front : (queue : List Character) (told : Bool) → told ≡ true → front_errors queue told ≡ 0
none_in_front [] told e = refl
none_in_front (front ∷ others) told e = rw e refl

no_line_error : (c : ChipState) → IsTold c.receiver → has_any (line_status c) LSR.LINE_ERRORS.0 ≡ false
no_line_error c h =
    let none = none_in_front c.receiver.queue c.receiver.is_front_reported h.front in
    rw (h.overrun, none) (no_error (nat_lt 0 (length c.receiver.queue)) (length c.transmitter.queue == 0)
    (is_transmitter_empty c.transmitter.queue c.transmitter.shift_register)
    (c.fifo && list_any has_errors (unreported c.receiver.queue c.receiver.is_front_reported)))

readable : (c : ChipState) → has_any c.latches.ier IER.DATA_READY.0 ≡ true → is_data_pending c.fifo c.receiver ≡ true →
    (has_any c.latches.ier IER.DATA_READY.0 && is_data_pending c.fifo c.receiver) ≡ true
readable c enabled pending = ap (λ b. b && is_data_pending c.fifo c.receiver) enabled ∙ pending

-- As many wait as the trigger level: the first interrupt is the receiver's, or a line error
pub first_told : (c : ChipState) → has_any c.latches.ier IER.DATA_READY.0 ≡ true → is_data_pending c.fifo c.receiver ≡ true →
    (interrupt c ≡ Some ReceiverLineStatus) ⊎ (interrupt c ≡ Some ReceivedDataReady)
first_told c enabled pending = by _ _ _ (readable c enabled pending)
  where
    by : (line data_waits : Bool) (others : Option InterruptType) → data_waits ≡ true →
        ((if line then Some ReceiverLineStatus else if data_waits then Some ReceivedDataReady else others) ≡ Some ReceiverLineStatus)
        ⊎ ((if line then Some ReceiverLineStatus else if data_waits then Some ReceivedDataReady else others) ≡ Some ReceivedDataReady)
    by true data_waits others e = inl refl
    by false true others e = inr refl
    by false false others e = absurd (false≢true e)

-- and the receiver's, if the line errors were told
pub then_told : (c : ChipState) → IsTold c.receiver → has_any c.latches.ier IER.DATA_READY.0 ≡ true →
    is_data_pending c.fifo c.receiver ≡ true → interrupt c ≡ Some ReceivedDataReady
then_told c h enabled pending =
    by (has_any c.latches.ier IER.RECEIVER_LINE_STATUS.0) _ _ _ (no_line_error c h) (readable c enabled pending)
  where
    by : (told line data_waits : Bool) (others : Option InterruptType) → line ≡ false → data_waits ≡ true →
        (if told && line then Some ReceiverLineStatus else if data_waits then Some ReceivedDataReady else others) ≡ Some ReceivedDataReady
    by told true data_waits others e f = absurd (false≢true (sym e))
    by true false true others e f = refl
    by false false true others e f = refl
    by told false false others e f = absurd (false≢true f)
