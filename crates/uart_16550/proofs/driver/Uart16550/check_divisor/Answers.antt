use Rattle.std.proofs.Common.{◌≡◌, ◌+◌, ◌*◌, Ok, Err, refl, rules, bit_or}
use Rattle.uart_spec.specs.declared.errors.ConfigurationError.TheVariants.{Divisor}
use Rattle.uart_spec.specs.declared.registers.line_control.TheConstants.LCR
use Rattle.uart_spec.specs.declared.registers.offsets.TheConstants as offsets
use Rattle.uart_16550.specs.Configured.{KeepsLine, OpensLatch, ReadsLatch, IsDivisor}
use Rattle.uart_16550.proofs.Loopbacks.{made_value}
use Rattle.uart_16550.proofs.Making.{made_then, made_among, made_only, made_none}
use Rattle.uart_16550.proofs.Checks.{made_found, made_passed, latch_read}
use Rattle.uart_16550.proofs.driver.Uart16550.check_divisor.Goals as goal

pub returns-in-Err : goal.returns-in-Err
returns-in-Err g c =
    let lcr = c.lcr-lcr.result.0 in
    let unopened = made_among {M = KeepsLine (bit_or lcr LCR.DLAB.0) (Err c.in-Err.ignored)} (λ l t. rw (c.union.ensures tt) at t)
    c.in-Err.ensures in
    let closed = made_value offsets.LCR _ lcr (c.bits.ensures tt) c.write_register.ensures in
    made_among (λ l t. (lcr, t))
    (made_then c.lcr-lcr.ensures
    (made_found (OpensLatch lcr) (ReadsLatch c.args.expected lcr) c.in-Err.ignored (made_then unopened closed)))

pub returns-in_err-keep_line : goal.returns-in_err-keep_line
returns-in_err-keep_line g c =
    let lcr = c.lcr-lcr.result.0 in
    let low = c.read_register-dll.result in
    let high = c.read_register-dlm.result in
    let e = c.in_err-keep_line.field-0.0 in
    let is : c.from_residual.result ≡ Err e = search rules in
    let opened = made_among {M = KeepsLine (bit_or lcr LCR.DLAB.0) (Ok tt)} (λ l t. rw (c.union.ensures tt) at t) c.in_default.ensures in
    let bytes = made_only _ _ c.read_register-dll.ensures c.read_register-dlm.ensures in
    rw is
    (latch_read c.args.expected lcr low high (Err e) c.lcr-lcr.ensures opened bytes
    (made_found (KeepsLine lcr) (IsDivisor c.args.expected (256 * high + low)) e c.in_err-keep_line.ensures))

pub returns-then-shown-expected : goal.returns-then-shown-expected
returns-then-shown-expected g c =
    let lcr = c.lcr-lcr.result.0 in
    let low = c.read_register-dll.result in
    let high = c.read_register-dlm.result in
    let e = Divisor c.args.expected (256 * high + low) in
    let opened = made_among {M = KeepsLine (bit_or lcr LCR.DLAB.0) (Ok tt)} (λ l t. rw (c.union.ensures tt) at t) c.in_default.ensures in
    let bytes = made_only _ _ c.read_register-dll.ensures c.read_register-dlm.ensures in
    latch_read c.args.expected lcr low high (Err e) c.lcr-lcr.ensures opened bytes
    (made_passed (KeepsLine lcr) (IsDivisor c.args.expected (256 * high + low)) (Err e) c.in_ok-keep_line.ensures
    (made_among (λ l t. (c.if-shown-expected.true, refl, t.is)) made_none))

pub returns : goal.returns
returns g c =
    let lcr = c.lcr-lcr.result.0 in
    let low = c.read_register-dll.result in
    let high = c.read_register-dlm.result in
    let opened = made_among {M = KeepsLine (bit_or lcr LCR.DLAB.0) (Ok tt)} (λ l t. rw (c.union.ensures tt) at t) c.in_default.ensures in
    let bytes = made_only _ _ c.read_register-dll.ensures c.read_register-dlm.ensures in
    latch_read c.args.expected lcr low high (Ok tt) c.lcr-lcr.ensures opened bytes
    (made_passed (KeepsLine lcr) (IsDivisor c.args.expected (256 * high + low)) (Ok tt) c.in_ok-keep_line.ensures
    (made_among (λ l t. (c.if-shown-expected.false, t.is)) made_none))
