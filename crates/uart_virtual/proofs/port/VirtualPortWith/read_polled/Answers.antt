use Rattle.std.proofs.Common.{◌≡◌, ◌∙◌, ap, sym, subst}
use Rattle.uart_spec.specs.declared.registers.offsets.TheConstants as offsets
use Rattle.uart_chip.specs.Chip.{ChipState, after_read}
use Rattle.uart_live.proofs.Lives.{live-expire, live-read}
use Rattle.uart_live.specs.Held.{expire}
use Rattle.uart_live.specs.Live.{IsLive}
use Rattle.uart_live.specs.Size.{fifo_size}
use Rattle.uart_virtual.specs.Port.{PortState, Read, IsPort, after, todo, kind_of, stays_up, settle, nothing_new, reads_polled}
use Rattle.uart_virtual.proofs.Tells.{told_holds}
use Rattle.uart_virtual.proofs.Times.{still_settle, paced-happen}
use Rattle.uart_virtual.proofs.Polls.{ReadsPolled, reads_parts, did_read, read_todo}
use Rattle.uart_virtual.proofs.Sizes.{within_port}
use Rattle.uart_virtual.proofs.port.VirtualPortWith.read_polled.Goals as goal

pub invariant_of-self : goal.invariant_of-self
invariant_of-self g c =
    let p : PortState = record { chip = c.self.inside.chip; told = c.self.inside.told } in
    let parts : ReadsPolled p =
    reads_parts p (ap (λ (q : PortState). reads_polled q) c.self.view_is ∙
    (sym c.reads_polled.ensures ∙ c.if-not-reads_polled.false)) in
    let read : IsLive (fifo_size g.row.FIFO) (after_read offsets.DATA p.chip) =
    live-read offsets.DATA p.chip c.read_data-value.ensures.live in
    let same : record { chip = c.expire_timeout.new.self; told = p.told } ≡ after (Read offsets.DATA) p =
    did_read p c.expire_timeout.new.self (live-expire _ read) c.self.invariant parts
    (c.expire_timeout.ensures ∙ ap (λ (x : ChipState). expire x) c.read_data-value.ensures.after) in
    subst (λ (q : PortState). IsPort q) (sym same) (record {
      told = told_holds (kind_of (Read offsets.DATA) p.chip) (stays_up (Read offsets.DATA) (after_read offsets.DATA p.chip))
          (settle (after_read offsets.DATA p.chip)) p.told;
      still = still_settle (after_read offsets.DATA p.chip) read.whole.sound.chip read.flow
          (paced-happen (Read offsets.DATA) p.chip c.self.invariant.still.paced);
    })

pub returns-clause-read : goal.returns-clause-read
returns-clause-read g c = λ _.
    let p : PortState = record { chip = c.self.inside.chip; told = c.self.inside.told } in
    let parts : ReadsPolled p =
    reads_parts p (ap (λ (q : PortState). reads_polled q) c.self.view_is ∙
    (sym c.reads_polled.ensures ∙ c.if-not-reads_polled.false)) in
    let w : IsLive (fifo_size g.row.FIFO) (expire (after_read offsets.DATA p.chip)) =
    live-expire _ (live-read offsets.DATA p.chip c.read_data-value.ensures.live) in
    did_read p c.expire_timeout.new.self w c.self.invariant parts
    (c.expire_timeout.ensures ∙ ap (λ (x : ChipState). expire x) c.read_data-value.ensures.after) ∙
    ap (λ (q : PortState). after (Read offsets.DATA) q) c.self.view_is

pub returns-clause-todo : goal.returns-clause-todo
returns-clause-todo g c = λ _.
    let p : PortState = record { chip = c.self.inside.chip; told = c.self.inside.told } in
    let parts : ReadsPolled p =
    reads_parts p (ap (λ (q : PortState). reads_polled q) c.self.view_is ∙
    (sym c.reads_polled.ensures ∙ c.if-not-reads_polled.false)) in
    let w : IsLive (fifo_size g.row.FIFO) (expire (after_read offsets.DATA p.chip)) =
    live-expire _ (live-read offsets.DATA p.chip c.read_data-value.ensures.live) in
    subst (λ (q : PortState). todo (Read offsets.DATA) q ≡ nothing_new q) c.self.view_is
    (read_todo p w c.self.invariant parts.off parts.room)

-- a port takes no more memory than there can be, and its chip less than the port
pub read_data-value-requires : goal.read_data-value-requires
read_data-value-requires g c = within_port _ 9223372036854775808 (assumption c)

pub expire_timeout-requires : goal.expire_timeout-requires
expire_timeout-requires g c = within_port _ 9223372036854775808 (assumption c)
