use Rattle.std.proofs.Common.{drop}
use Rattle.uart_chip.specs.Machine.{MachineState}
use Rattle.uart_chip.proofs.soundness.Builds.{whole_flowing}
use Rattle.uart_chip.proofs.device.Device16550.with_auto_flow.Goals as goal

pub invariant_of-result : goal.invariant_of-result
invariant_of-result c =
    let here : MachineState = record { chip = c.self.inside.uart; ahead = drop c.self.inside.cursor c.self.inside.schedule.items } in
    (c.self.invariant.0, rw c.with_auto_flow.ensures (whole_flowing here c.self.invariant.1))
