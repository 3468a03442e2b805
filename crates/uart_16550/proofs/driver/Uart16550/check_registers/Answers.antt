use Rattle.std.proofs.Common.{◌≡◌, Err, rules}
use Rattle.uart_16550.specs.Configured.{InTurn, ShowsFrame, ShowsOutputs, ShowsInterrupts, ShowsDivisor, ShowsFifos}
use Rattle.uart_16550.proofs.Checks.{made_found, made_passed}
use Rattle.uart_16550.proofs.driver.Uart16550.check_registers.Goals as goal

pub returns-in_err-check_frame : goal.returns-in_err-check_frame
returns-in_err-check_frame g c =
    let e = c.in_err-check_frame.field-0.0 in
    let is : c.from_residual.result ≡ Err e = search rules in
    let from_divisor = InTurn (ShowsDivisor c.args.divisor) (ShowsFifos c.args.interrupts.0) in
    let from_interrupts = InTurn (ShowsInterrupts c.args.interrupts.0) from_divisor in
    let from_outputs = InTurn (ShowsOutputs c.args.outputs.0) from_interrupts in
    rw is (made_found (ShowsFrame c.args.frame.0) from_outputs e c.in_err-check_frame.ensures)

pub returns-in_err-check_outputs : goal.returns-in_err-check_outputs
returns-in_err-check_outputs g c =
    let e = c.in_err-check_outputs.field-0.0 in
    let is : c.from_residual-in_err-check_outputs.result ≡ Err e = search rules in
    let from_divisor = InTurn (ShowsDivisor c.args.divisor) (ShowsFifos c.args.interrupts.0) in
    let from_interrupts = InTurn (ShowsInterrupts c.args.interrupts.0) from_divisor in
    let from_outputs = InTurn (ShowsOutputs c.args.outputs.0) from_interrupts in
    rw is
    (made_passed (ShowsFrame c.args.frame.0) from_outputs (Err e) c.in_ok-check_frame.ensures
    (made_found (ShowsOutputs c.args.outputs.0) from_interrupts e c.in_err-check_outputs.ensures))

pub returns-in_err-check_interrupts : goal.returns-in_err-check_interrupts
returns-in_err-check_interrupts g c =
    let e = c.in_err-check_interrupts.field-0.0 in
    let is : c.from_residual-in_err-check_interrupts.result ≡ Err e = search rules in
    let from_divisor = InTurn (ShowsDivisor c.args.divisor) (ShowsFifos c.args.interrupts.0) in
    let from_interrupts = InTurn (ShowsInterrupts c.args.interrupts.0) from_divisor in
    let from_outputs = InTurn (ShowsOutputs c.args.outputs.0) from_interrupts in
    rw is
    (made_passed (ShowsFrame c.args.frame.0) from_outputs (Err e) c.in_ok-check_frame.ensures
    (made_passed (ShowsOutputs c.args.outputs.0) from_interrupts (Err e) c.in_ok-check_outputs.ensures
    (made_found (ShowsInterrupts c.args.interrupts.0) from_divisor e c.in_err-check_interrupts.ensures)))

pub returns-in_err-check_divisor : goal.returns-in_err-check_divisor
returns-in_err-check_divisor g c =
    let e = c.in_err-check_divisor.field-0.0 in
    let is : c.from_residual-in_err-check_divisor.result ≡ Err e = search rules in
    let from_divisor = InTurn (ShowsDivisor c.args.divisor) (ShowsFifos c.args.interrupts.0) in
    let from_interrupts = InTurn (ShowsInterrupts c.args.interrupts.0) from_divisor in
    let from_outputs = InTurn (ShowsOutputs c.args.outputs.0) from_interrupts in
    rw is
    (made_passed (ShowsFrame c.args.frame.0) from_outputs (Err e) c.in_ok-check_frame.ensures
    (made_passed (ShowsOutputs c.args.outputs.0) from_interrupts (Err e) c.in_ok-check_outputs.ensures
    (made_passed (ShowsInterrupts c.args.interrupts.0) from_divisor (Err e) c.in_ok-check_interrupts.ensures
    (made_found (ShowsDivisor c.args.divisor) (ShowsFifos c.args.interrupts.0) e c.in_err-check_divisor.ensures))))

pub returns : goal.returns
returns g c =
    let found = c.check_fifos.result in
    let from_divisor = InTurn (ShowsDivisor c.args.divisor) (ShowsFifos c.args.interrupts.0) in
    let from_interrupts = InTurn (ShowsInterrupts c.args.interrupts.0) from_divisor in
    let from_outputs = InTurn (ShowsOutputs c.args.outputs.0) from_interrupts in
    made_passed (ShowsFrame c.args.frame.0) from_outputs found c.in_ok-check_frame.ensures
    (made_passed (ShowsOutputs c.args.outputs.0) from_interrupts found c.in_ok-check_outputs.ensures
    (made_passed (ShowsInterrupts c.args.interrupts.0) from_divisor found c.in_ok-check_interrupts.ensures
    (made_passed (ShowsDivisor c.args.divisor) (ShowsFifos c.args.interrupts.0) found c.in_ok-check_divisor.ensures
    c.check_fifos.ensures)))
