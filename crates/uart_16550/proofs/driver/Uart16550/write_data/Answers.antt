use Rattle.std.proofs.Common.{◌<◌, length, arith}
use Rattle.std.proofs.lemmas.List.{map_more}
use Rattle.uart_spec.specs.declared.registers.offsets.TheConstants as offsets
use Rattle.uart_spec.specs.declared.access.Access.TheVariants.{Write}
use Rattle.uart_16550.proofs.Making.{made_none, made_only}
use Rattle.uart_16550.proofs.driver.Uart16550.write_data.Goals as goal

pub loop-byte-init : goal.loop-byte-init
loop-byte-init g c = made_none

pub loop-byte-preserved : goal.loop-byte-preserved
loop-byte-preserved g c =
    let within : c.loop-byte.byte-index < length c.args.bytes.now = omega arith in
    rw (map_more (λ byte. Write offsets.DATA byte) c.args.bytes.now c.loop-byte.byte-index 0 within)
    (made_only _ _ c.loop-byte.invariant c.write_byte.ensures)
