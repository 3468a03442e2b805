use Rattle.std.proofs.Common.{◌≡◌, ◌<◌, ◌⊎◌, ℕ, zero, suc, ◌+◌, ◌*◌, false, true, inl, inr, refl, sym, arith}
use Rattle.uart_spec.specs.declared.registers.offsets.TheConstants as offsets
use Rattle.uart_spec.specs.declared.registers.interrupt_status.TheConstants.ISR
use Rattle.uart_spec.specs.declared.registers.line_control.TheConstants.LCR
use Rattle.uart_spec.specs.declared.registers.modem_control.TheConstants.MCR
use Rattle.uart_16550.specs.Driver.{with_fifo}
use Rattle.uart_16550.specs.Status.{ReadsDivisor}
use Rattle.uart_16550.proofs.Making.{made_among, made_asks, made_then}
use Rattle.uart_16550.proofs.Doings.{did_then, did_made, did_set, did_among}
use Rattle.uart_16550.proofs.driver.Uart16550.attach.Goals as goal

above_0 : (n : ℕ) → (n ≡ 0 → ⊥) → 0 < n
above_0 zero not = absurd (not refl)
above_0 (suc n) not = omega arith

-- a divisor of which one byte is not 0
some_divisor : (low high : ℕ) → (low ≡ 0 × (high ≡ 0 → ⊥)) ⊎ (low ≡ 0 → ⊥) → 0 < 256 * high + low
some_divisor low high (inl t) =
    let some : 0 < high = above_0 high t.1 in
    omega (arith, some)
some_divisor low high (inr not) =
    let some : 0 < low = above_0 low not in
    omega (arith, some)

pub returns-then-contains-2 : goal.returns-then-contains-2
returns-then-contains-2 g c =
    let latch = made_asks offsets.LCR _ LCR.DLAB.0 false c.lcr.ensures (sym (c.if-contains.ensures tt)) in
    let looped = made_asks offsets.MCR _ MCR.LOOP_BACK.0 true c.mcr.ensures (sym (c.if-contains-2.ensures tt)) in
    did_among (λ f l after t. t) (did_made (made_then latch looped))

pub returns-then-dlm-eq0 : goal.returns-then-dlm-eq0
returns-then-dlm-eq0 g c =
    let latch = made_asks offsets.LCR _ LCR.DLAB.0 false c.lcr.ensures (sym (c.if-contains.ensures tt)) in
    let looped = made_asks offsets.MCR _ MCR.LOOP_BACK.0 false c.mcr.ensures (sym (c.if-contains-2.ensures tt)) in
    let none = made_among {M = ReadsDivisor 0 0} (λ l t. rw (c.if-dll-eq0.true, c.if-dlm-eq0.true) at t) c.dll_dlm-dll.ensures in
    did_among (λ f l after t. t) (did_made (made_then (made_then latch looped) none))

pub returns : goal.returns
returns g c =
    let latch = made_asks offsets.LCR _ LCR.DLAB.0 false c.lcr.ensures (sym (c.if-contains.ensures tt)) in
    let looped = made_asks offsets.MCR _ MCR.LOOP_BACK.0 false c.mcr.ensures (sym (c.if-contains-2.ensures tt)) in
    let on = c.fifo_enabled-self.result in
    let fifo = made_asks offsets.ISR _ ISR.FIFOS_ENABLED.0 on c.isr.ensures (sym c.fifo_enabled-self.ensures) in
    let some = some_divisor c.dll_dlm-dll.result.0 c.dll_dlm-dll.result.1 c.else-dll-eq0.either in
    did_among (λ f l after t. (some, on, t))
    (did_then (did_made (made_then (made_then (made_then latch looped) c.dll_dlm-dll.ensures) fifo))
    (did_set _ (with_fifo on) _ _ refl refl))
