use Rattle.std.proofs.Common.{◌≡◌, ◌∙◌, ap, sym, subst, refl, [], ◌∷◌}
use Rattle.uart_chip.specs.Chip.{ChipState, arrive_live}
use Rattle.uart_live.proofs.Lives.{live-arrival, live-expire}
use Rattle.uart_live.specs.Held.{expire}
use Rattle.uart_live.specs.Live.{IsLive}
use Rattle.uart_live.specs.Size.{fifo_size}
use Rattle.uart_virtual.specs.Port.{PortState, IsStill, Receive, after, todo, receives_first}
use Rattle.uart_virtual.proofs.Inputs.{First, first_parts, level_first, received_first, todo_first}
use Rattle.uart_virtual.proofs.Passes.{same_some}
use Rattle.uart_virtual.proofs.Times.{paced-all, still-expire, unmoved-all}
use Rattle.uart_virtual.proofs.Sizes.{within_port}
use Rattle.uart_virtual.proofs.port.VirtualPortWith.receive_first.Goals as goal

pub decide_at-todo-requires : goal.decide_at-todo-requires
decide_at-todo-requires g c = (
  within_port _ 9223372036854775808 (assumption c),
  (
    let p : PortState = record { chip = c.self.inside.chip; told = c.self.inside.told } in
        let f : First p =
        first_parts p (ap (λ (q : PortState). receives_first q) c.self.view_is ∙
        (sym c.receives_first.ensures.first ∙ c.if-not-receives_first.false)) in
        let chip : c.expire_timeout.new.self ≡ expire (arrive_live c.args.byte 0 p.chip) =
        c.expire_timeout.ensures ∙
        ap (λ (x : ChipState). expire x) (c.arrive_in_room-arrived.ensures.arrived (c.arrive_in_room-arrived.ensures.room ∙ f.some)) in
        let still : IsStill (expire (arrive_live c.args.byte 0 p.chip)) =
        still-expire (arrive_live c.args.byte 0 p.chip) (paced-all (c.args.byte ∷ []) p.chip c.self.invariant.still.paced)
        (unmoved-all (c.args.byte ∷ []) p.chip c.self.invariant.still.unmoved) in
        rw chip still.paced,
    let p : PortState = record { chip = c.self.inside.chip; told = c.self.inside.told } in
        let f : First p =
        first_parts p (ap (λ (q : PortState). receives_first q) c.self.view_is ∙
        (sym c.receives_first.ensures.first ∙ c.if-not-receives_first.false)) in
        let chip : c.expire_timeout.new.self ≡ expire (arrive_live c.args.byte 0 p.chip) =
        c.expire_timeout.ensures ∙
        ap (λ (x : ChipState). expire x) (c.arrive_in_room-arrived.ensures.arrived (c.arrive_in_room-arrived.ensures.room ∙ f.some)) in
        let still : IsStill (expire (arrive_live c.args.byte 0 p.chip)) =
        still-expire (arrive_live c.args.byte 0 p.chip) (paced-all (c.args.byte ∷ []) p.chip c.self.invariant.still.paced)
        (unmoved-all (c.args.byte ∷ []) p.chip c.self.invariant.still.unmoved) in
        rw chip (sym (level_first c.args.byte p.chip f.outside f.none f.on still)),
  ),
)

pub invariant_of-self : goal.invariant_of-self
invariant_of-self g c =
    let p : PortState = record { chip = c.self.inside.chip; told = c.self.inside.told } in
    let f : First p =
    first_parts p (ap (λ (q : PortState). receives_first q) c.self.view_is ∙
    (sym c.receives_first.ensures.first ∙ c.if-not-receives_first.false)) in
    let chip : c.expire_timeout.new.self ≡ expire (arrive_live c.args.byte 0 p.chip) =
    c.expire_timeout.ensures ∙
    ap (λ (x : ChipState). expire x) (c.arrive_in_room-arrived.ensures.arrived (c.arrive_in_room-arrived.ensures.room ∙ f.some)) in
    let still : IsStill (expire (arrive_live c.args.byte 0 p.chip)) =
    still-expire (arrive_live c.args.byte 0 p.chip) (paced-all (c.args.byte ∷ []) p.chip c.self.invariant.still.paced)
    (unmoved-all (c.args.byte ∷ []) p.chip c.self.invariant.still.unmoved) in
    record { told = c.decide_at-todo.ensures.holds; still = rw chip still }

pub returns-clause-received : goal.returns-clause-received
returns-clause-received g c = λ _.
    let p : PortState = record { chip = c.self.inside.chip; told = c.self.inside.told } in
    let f : First p =
    first_parts p (ap (λ (q : PortState). receives_first q) c.self.view_is ∙
    (sym c.receives_first.ensures.first ∙ c.if-not-receives_first.false)) in
    let chip : c.expire_timeout.new.self ≡ expire (arrive_live c.args.byte 0 p.chip) =
    c.expire_timeout.ensures ∙
    ap (λ (x : ChipState). expire x) (c.arrive_in_room-arrived.ensures.arrived (c.arrive_in_room-arrived.ensures.room ∙ f.some)) in
    let w : IsLive (fifo_size g.row.FIFO) (expire (arrive_live c.args.byte 0 p.chip)) =
    live-expire _ (live-arrival c.args.byte 0 p.chip refl
    (subst (λ (q : PortState). IsLive (fifo_size g.row.FIFO) q.chip) (sym c.self.view_is) c.receives_first.ensures.live)) in
    received_first c.args.byte p c.expire_timeout.new.self c.decide_at-todo.new.told w c.self.invariant f chip
    c.decide_at-todo.ensures.told ∙ ap (λ (q : PortState). after (Receive (c.args.byte ∷ [])) q) c.self.view_is

pub returns-clause-todo : goal.returns-clause-todo
returns-clause-todo g c = λ it same.
    let p : PortState = record { chip = c.self.inside.chip; told = c.self.inside.told } in
    let f : First p =
    first_parts p (ap (λ (q : PortState). receives_first q) c.self.view_is ∙
    (sym c.receives_first.ensures.first ∙ c.if-not-receives_first.false)) in
    let chip : c.expire_timeout.new.self ≡ expire (arrive_live c.args.byte 0 p.chip) =
    c.expire_timeout.ensures ∙
    ap (λ (x : ChipState). expire x) (c.arrive_in_room-arrived.ensures.arrived (c.arrive_in_room-arrived.ensures.room ∙ f.some)) in
    let w : IsLive (fifo_size g.row.FIFO) (expire (arrive_live c.args.byte 0 p.chip)) =
    live-expire _ (live-arrival c.args.byte 0 p.chip refl
    (subst (λ (q : PortState). IsLive (fifo_size g.row.FIFO) q.chip) (sym c.self.view_is) c.receives_first.ensures.live)) in
    sym (same_some c.decide_at-todo.result it same) ∙
    (c.decide_at-todo.ensures.todo ∙
    (todo_first c.args.byte p c.expire_timeout.new.self w c.self.invariant f chip ∙
    ap (λ (q : PortState). todo (Receive (c.args.byte ∷ [])) q) c.self.view_is))

-- a port takes no more memory than there can be, and its chip less than the port
pub arrive_in_room-arrived-requires : goal.arrive_in_room-arrived-requires
arrive_in_room-arrived-requires g c = within_port _ 9223372036854775808 (assumption c)

pub expire_timeout-requires : goal.expire_timeout-requires
expire_timeout-requires g c = within_port _ 9223372036854775808 (assumption c)
