use Rattle.std.proofs.Common.{◌≡◌, ℕ, Option, Result, inl, inr, refl, [], subst, true}
use Rattle.uart_spec.specs.declared.access.Access.{Access}
use Rattle.uart_spec.specs.declared.errors.FifoSizeError.{FifoSizeError}
use Rattle.uart_spec.specs.declared.registers.fifo_trigger_level.FifoTriggerLevel.{FifoTriggerLevel}
use Rattle.uart_spec.specs.declared.setup.FifoSize.{FifoSize}
use Rattle.uart_16550.specs.Driver.{Did, fields}
use Rattle.uart_16550.specs.Setup.{level_of}
use Rattle.uart_16550.specs.Loopback.{EntersAt, Inside}
use Rattle.uart_16550.specs.Sizing.{Sizes, SizesInLoopback}
use Rattle.uart_16550.specs.declared.driver.Uart16550.{Uart16550}
use Rattle.uart_16550.proofs.Making.{made_then, made_only}
use Rattle.uart_16550.proofs.Doings.{did_then, did_made}
use Rattle.uart_16550.proofs.Loopbacks.{inside}
use Rattle.uart_16550.proofs.driver.Uart16550.find_fifo_size.Goals as goal

-- the level under another name
sized : {B : Type 0} {step : B → Access → B → Type 0} (level : Option FifoTriggerLevel) (found : Result FifoSize FifoSizeError)
    (mcr ier : ℕ) {a d : Uart16550 B} → level ≡ level_of true (fields a).config.fifo_trigger_level →
    Did step (Inside (EntersAt level) (Sizes level found) mcr ier) a d → Did step (SizesInLoopback found mcr ier) a d
sized {B} {step} level found mcr ier {a} {d} same did =
    let M : Option FifoTriggerLevel → Type 0 = λ x. Did step (Inside (EntersAt x) (Sizes x found) mcr ier) a d in
    let all = subst M same did in
    record { list = all.list; path = all.path; does = all.does }

pub returns-then-not-self : goal.returns-then-not-self
returns-then-not-self g c = record { list = []; path = refl; does = inl (refl, c.if-not-self.true, refl, refl) }

pub returns-then-not-wait_for : goal.returns-then-not-wait_for
returns-then-not-wait_for g c =
    let waits = did_made (made_then (made_only _ _ c.mcr-mcr.ensures c.ier-ier.ensures) c.if-not-wait_for.ensures) in
    record { list = waits.list; path = waits.path; does = inr (c.if-not-self.false, (_, _, inl (refl, waits.does))) }

pub returns : goal.returns
returns g c =
    let begun = did_made (made_then (made_only _ _ c.mcr-mcr.ensures c.ier-ier.ensures) c.if-not-wait_for.ensures) in
    let level = c.level_of-level.result in
    let found = c.find_and_reset-found.result in
    let inner = inside {enters = EntersAt level} {during = Sizes level found} _ _ _ _ c.enter_loopback-before.ensures
    c.find_and_reset-found.ensures c.leave_loopback.ensures in
    let all = did_then begun (sized level found _ _ c.level_of-level.ensures inner) in
    record { list = all.list; path = all.path; does = inr (c.if-not-self.false, (_, _, inr all.does)) }
