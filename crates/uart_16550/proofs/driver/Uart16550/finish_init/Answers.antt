use Rattle.std.proofs.Common.{◌∙◌, ℕ, [], ◌∷◌, ap, refl}
use Rattle.std.specs.Int.NonZero.{non_zero_u64_get}
use Rattle.uart_spec.specs.declared.registers.offsets.TheConstants as offsets
use Rattle.uart_spec.specs.declared.access.Access.TheVariants.{Write}
use Rattle.uart_16550.specs.Grammar.{Only}
use Rattle.uart_16550.specs.Driver.{Made, Fields, with_saved}
use Rattle.uart_16550.proofs.Making.{made_among}
use Rattle.uart_16550.proofs.Doings.{did_then, did_made, did_set, plain_then, plain_read}
use Rattle.uart_16550.proofs.driver.Uart16550.finish_init.Goals as goal

pub returns : goal.returns
returns g c =
    let read =
    plain_then (plain_read offsets.LSR _ c.read_plain.ensures)
    (plain_then (plain_read offsets.ISR _ c.read_plain-2.ensures) (plain_read offsets.MSR _ c.read_plain-3.ensures)) in
    let d = c.read_plain-3.new.self in
    let lsr = c.from_bits_retain-self.ensures tt in
    let msr = c.from_bits_retain-self-2.ensures tt in
    let bits = c.bits.ensures tt ∙ ap (λ (f : Fields). f.config.interrupts.0) read.does.1 in
    let enabled : Made g.B.Backend.step (Only (Write offsets.IER c.args.self.now.config.interrupts.0 ∷ []))
    (record d { saved_lsr = c.from_bits_retain-self.result; saved_msr = c.from_bits_retain-self-2.result }) c.write_register.new.self =
    made_among (λ l t. record { is = t.is ∙ ap (λ (x : ℕ). Write offsets.IER x ∷ []) bits }) c.write_register.ensures in
    did_then read
    (did_then
    (did_set _ (with_saved 0 0) _ _ refl
    (λ i. record {
      config = d.config;
      fifo = d.fifo_enabled;
      size = d.fifo_size;
      lsr = lsr i;
      msr = msr i;
      limit = non_zero_u64_get d.spin_limit;
    }))
    (did_made enabled))
