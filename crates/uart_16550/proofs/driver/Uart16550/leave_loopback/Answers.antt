use Rattle.std.proofs.Common.{◌∙◌, refl, ap, bit_or}
use Rattle.std.specs.Int.NonZero.{non_zero_u64_get}
use Rattle.uart_spec.specs.declared.registers.offsets.TheConstants as offsets
use Rattle.uart_spec.specs.Lines.{line_changes}
use Rattle.uart_16550.specs.Loopback.{with_changes}
use Rattle.uart_16550.proofs.Making.{made_only}
use Rattle.uart_16550.proofs.Doings.{did_then, did_made, did_set, did_among}
use Rattle.uart_16550.proofs.Loopbacks.{made_value}
use Rattle.uart_16550.proofs.driver.Uart16550.leave_loopback.Goals as goal

pub returns : goal.returns
returns g c =
    let d = c.write_register-3.new.self in
    let now = c.read_plain.result in
    let left = made_value offsets.MCR _ _ (c.bits.ensures tt ∙ c.difference.ensures tt) c.write_register.ensures in
    let restored =
    made_only _ _ (made_value offsets.MCR _ _ (c.bits-2.ensures tt) c.write_register-2.ensures)
    (made_value offsets.IER _ _ (c.bits-3.ensures tt) c.write_register-3.ensures) in
    let changes = c.changes_since.ensures ∙ ap (line_changes c.args.before.0) (c.from_bits_retain-now.ensures tt) in
    let msr = c.insert.ensures tt ∙ ap (bit_or d.saved_msr.0) changes in
    did_among (λ f l after t. (now, t))
    (did_then (did_made left) (did_then c.read_plain.ensures (did_then (did_made restored)
    (did_set _ (with_changes c.args.noted.0 (line_changes c.args.before.0 now)) d
    (record d { saved_lsr = c.args.noted; saved_msr = c.insert.new.self }) refl
    (λ i. record {
      config = d.config;
      fifo = d.fifo_enabled;
      size = d.fifo_size;
      lsr = c.args.noted.0;
      msr = msr i;
      limit = non_zero_u64_get d.spin_limit;
    })))))
