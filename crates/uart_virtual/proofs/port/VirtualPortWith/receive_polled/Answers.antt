use Rattle.std.proofs.Common.{◌≡◌, ◌∙◌, ap, sym, subst, ℕ, Bool, true, false, not, ◌==◌, ◌&&◌, [], ◌∷◌, refl}
use Rattle.uart_chip.specs.Chip.{ChipState, arrive_live}
use Rattle.uart_live.proofs.Lives.{live-arrival, live-expire}
use Rattle.uart_live.specs.Held.{expire}
use Rattle.uart_live.specs.Live.{IsLive}
use Rattle.uart_live.specs.Size.{fifo_size}
use Rattle.uart_virtual.specs.Port.{PortState, PortCall, Receive, IsPort, after, todo, nothing_new, has_room, happen, settle}
use Rattle.uart_virtual.specs.Port.{is_polled, receives_polled, kind_of, stays_up}
use Rattle.uart_virtual.proofs.Polls.{no_interrupts, interrupts_on, nothing_and, happens_one, received, receive_todo}
use Rattle.uart_virtual.proofs.Tells.{told_holds}
use Rattle.uart_virtual.proofs.Times.{still_settle, paced-happen}
use Rattle.uart_virtual.proofs.Sizes.{within_port}
use Rattle.uart_virtual.proofs.port.VirtualPortWith.receive_polled.Goals.{then-has_interrupts_on-via-then-has_interrupts_on}
use Rattle.uart_virtual.proofs.port.VirtualPortWith.receive_polled.Goals.{then-has_interrupts_on-via-else-has_interrupts_on+then-not-self}
use Rattle.uart_virtual.proofs.port.VirtualPortWith.receive_polled.Goals as goal

pub returns-clause-received : goal.returns-clause-received
returns-clause-received g c = λ _.
    let p : PortState = record { chip = c.self.inside.chip; told = c.self.inside.told } in
    let off : (p.chip.latches.ier == 0) ≡ true =
    no_interrupts p.chip c.has_interrupts_on.result c.has_interrupts_on.ensures.on c.if-has_interrupts_on.false in
    let known : p.told.has_room ≡ true = c.if-not-self.false in
    let some : has_room p.chip ≡ true = sym c.arrive_in_room.ensures.room ∙ c.if-not-arrive_in_room.false in
    let w : IsLive (fifo_size g.row.FIFO) (expire (arrive_live c.args.byte 0 p.chip)) =
    live-expire _ (live-arrival c.args.byte 0 p.chip refl c.has_interrupts_on.ensures.live) in
    received c.args.byte p c.expire_timeout.new.self (not (c.receive_room.result == 0)) w c.self.invariant off some known
    (c.expire_timeout.ensures ∙
    ap (λ (x : ChipState). expire x) (c.arrive_in_room.ensures.arrived c.if-not-arrive_in_room.false))
    (ap (λ (n : ℕ). not (n == 0)) c.receive_room.ensures) ∙
    ap (λ (q : PortState). after (Receive (c.args.byte ∷ [])) q) c.self.view_is

pub returns-clause-todo : goal.returns-clause-todo
returns-clause-todo g c = λ _.
    let p : PortState = record { chip = c.self.inside.chip; told = c.self.inside.told } in
    let off : (p.chip.latches.ier == 0) ≡ true =
    no_interrupts p.chip c.has_interrupts_on.result c.has_interrupts_on.ensures.on c.if-has_interrupts_on.false in
    let known : p.told.has_room ≡ true = c.if-not-self.false in
    let some : has_room p.chip ≡ true = sym c.arrive_in_room.ensures.room ∙ c.if-not-arrive_in_room.false in
    let w : IsLive (fifo_size g.row.FIFO) (expire (arrive_live c.args.byte 0 p.chip)) =
    live-expire _ (live-arrival c.args.byte 0 p.chip refl c.has_interrupts_on.ensures.live) in
    subst (λ (q : PortState). todo (Receive (c.args.byte ∷ [])) q ≡ nothing_new q) c.self.view_is
    (receive_todo c.args.byte p w c.self.invariant off some known)

-- a port takes no more memory than there can be, and its chip less than the port
pub has_interrupts_on-requires : goal.has_interrupts_on-requires
has_interrupts_on-requires g c = within_port _ 9223372036854775808 (assumption c)

pub arrive_in_room-requires : goal.arrive_in_room-requires
arrive_in_room-requires g c = within_port _ 9223372036854775808 (assumption c)

pub expire_timeout-requires : goal.expire_timeout-requires
expire_timeout-requires g c = within_port _ 9223372036854775808 (assumption c)

pub receive_room-requires : goal.receive_room-requires
receive_room-requires g c = within_port _ 9223372036854775808 (assumption c)

pub returns-then-has_interrupts_on-clause-polled : goal.returns-then-has_interrupts_on-clause-polled
returns-then-has_interrupts_on-clause-polled g c =
    let p : PortState = record { chip = c.self.inside.chip; told = c.self.inside.told } in
    elim c.then-has_interrupts_on.branch [
      | then-has_interrupts_on-via-then-has_interrupts_on w ↦
          let on : (p.chip.latches.ier == 0) ≡ false =
          interrupts_on p.chip c.has_interrupts_on.result c.has_interrupts_on.ensures.on w.if-has_interrupts_on.true in
          sym (ap (λ (b : Bool). b && (p.told.has_room && has_room p.chip)) on) ∙
          ap (λ (q : PortState). receives_polled q) c.self.view_is
      | then-has_interrupts_on-via-else-has_interrupts_on+then-not-self w ↦
          sym (nothing_and (p.chip.latches.ier == 0)) ∙
          (sym (ap (λ (b : Bool). is_polled p && (b && has_room p.chip)) w.if-not-self.true) ∙
          ap (λ (q : PortState). receives_polled q) c.self.view_is)
    ]

pub invariant_of-self-2 : goal.invariant_of-self-2
invariant_of-self-2 g c =
    let p : PortState = record { chip = c.self.inside.chip; told = c.self.inside.told } in
    let call : PortCall = Receive (c.args.byte ∷ []) in
    let off : (p.chip.latches.ier == 0) ≡ true =
    no_interrupts p.chip c.has_interrupts_on.result c.has_interrupts_on.ensures.on c.if-has_interrupts_on.false in
    let known : p.told.has_room ≡ true = c.if-not-self.false in
    let some : has_room p.chip ≡ true = sym c.arrive_in_room.ensures.room ∙ c.if-not-arrive_in_room.false in
    let arrived : IsLive (fifo_size g.row.FIFO) (arrive_live c.args.byte 0 p.chip) =
    live-arrival c.args.byte 0 p.chip refl c.has_interrupts_on.ensures.live in
    let d : ChipState = happen call p.chip in
    let same : d ≡ arrive_live c.args.byte 0 p.chip = happens_one c.args.byte p.chip some in
    let live : IsLive (fifo_size g.row.FIFO) d = rw same arrived in
    subst (λ (q : PortState). IsPort q)
    (sym (received c.args.byte p c.expire_timeout.new.self (not (c.receive_room.result == 0)) (live-expire _ arrived) c.self.invariant
    off some known
    (c.expire_timeout.ensures ∙
    ap (λ (x : ChipState). expire x) (c.arrive_in_room.ensures.arrived c.if-not-arrive_in_room.false))
    (ap (λ (n : ℕ). not (n == 0)) c.receive_room.ensures)))
    (record {
      told = told_holds (kind_of call p.chip) (stays_up call d) (settle d) p.told;
      still = still_settle d live.whole.sound.chip live.flow (paced-happen call p.chip c.self.invariant.still.paced);
    })

pub returns-clause-polled : goal.returns-clause-polled
returns-clause-polled g c =
    let p : PortState = record { chip = c.self.inside.chip; told = c.self.inside.told } in
    let off : (p.chip.latches.ier == 0) ≡ true =
    no_interrupts p.chip c.has_interrupts_on.result c.has_interrupts_on.ensures.on c.if-has_interrupts_on.false in
    let some : has_room p.chip ≡ true = sym c.arrive_in_room.ensures.room ∙ c.if-not-arrive_in_room.false in
    sym (ap (λ (b : Bool). b && (p.told.has_room && has_room p.chip)) off ∙
    (ap (λ (b : Bool). b && has_room p.chip) c.if-not-self.false ∙ some)) ∙
    ap (λ (q : PortState). receives_polled q) c.self.view_is
