use Rattle.uart_link.proofs.Names.{◌∙◌, ◌+◌, length, arith, sym, ap, count_by, is_arrival, MachineState, arrivals-count}
use Rattle.uart_link.proofs.{Arranges.put_arranged, Arranges.is_put, Schedules.has_settled, Schedules.few_remain}
use Rattle.uart_link.proofs.device.CabledChip.arrange.Goals as goal

pub overflow_sub-arrived : goal.overflow_sub-arrived
overflow_sub-arrived c =
    let marks = ap (λ (m : MachineState). length m.chip.receiver.marks) c.self.view_is in
    let few = few_remain _ _ _ c.self.invariant.2 in omega (arith, marks, few, c.arrivals.ensures.number)

pub overflow_sub-self : goal.overflow_sub-self
overflow_sub-self c =
    let here = c.self.inside in
    let items = c.put_events.new.events.items in
    let settled = has_settled c.args.self.now here.uart _ here.remaining (c.self.view_is ∙ c.settle.ensures) c.self.invariant.2 in
    let marks = ap (λ (m : MachineState). length m.chip.receiver.marks) c.self.view_is in
    let wire = ap length c.wire-wire.ensures in
    let events = put_arranged c.args.moments.now c.args.there.now.chip here.uart c.args.self.now here.remaining c.min-first.result
    (c.min-first.result + c.min.result) c.lines.result.0 items settled
    (omega (arith, marks, wire, c.arrivals.ensures.number, c.min-first.ensures)) (omega (arith, wire, c.min.ensures)) c.lines.ensures
    (rw c.wire-wire.ensures at c.put_events.ensures.items) in
    let put = is_put c.args.moments.now c.args.there.now.chip here.uart c.args.self.now here.remaining c.arrivals-2.result items settled
    events (c.arrivals-2.ensures ∙ (ap (count_by is_arrival) c.deref.ensures.value ∙ sym (arrivals-count items))) in
    put.few

pub invariant_of-self : goal.invariant_of-self
invariant_of-self c =
    let here = c.self.inside in
    let items = c.put_events.new.events.items in
    let settled = has_settled c.args.self.now here.uart _ here.remaining (c.self.view_is ∙ c.settle.ensures) c.self.invariant.2 in
    let marks = ap (λ (m : MachineState). length m.chip.receiver.marks) c.self.view_is in
    let wire = ap length c.wire-wire.ensures in
    let events = put_arranged c.args.moments.now c.args.there.now.chip here.uart c.args.self.now here.remaining c.min-first.result
    (c.min-first.result + c.min.result) c.lines.result.0 items settled
    (omega (arith, marks, wire, c.arrivals.ensures.number, c.min-first.ensures)) (omega (arith, wire, c.min.ensures)) c.lines.ensures
    (rw c.wire-wire.ensures at c.put_events.ensures.items) in
    let put = is_put c.args.moments.now c.args.there.now.chip here.uart c.args.self.now here.remaining c.arrivals-2.result items settled
    events (c.arrivals-2.ensures ∙ (ap (count_by is_arrival) c.deref.ensures.value ∙ sym (arrivals-count items))) in
    (omega arith, omega (arith, c.put_events.ensures.room, c.clear.ensures.capacity, c.self.invariant.1), put.arranges.known)

pub returns : goal.returns
returns c =
    let here = c.self.inside in
    let items = c.put_events.new.events.items in
    let settled = has_settled c.args.self.now here.uart _ here.remaining (c.self.view_is ∙ c.settle.ensures) c.self.invariant.2 in
    let marks = ap (λ (m : MachineState). length m.chip.receiver.marks) c.self.view_is in
    let wire = ap length c.wire-wire.ensures in
    let events = put_arranged c.args.moments.now c.args.there.now.chip here.uart c.args.self.now here.remaining c.min-first.result
    (c.min-first.result + c.min.result) c.lines.result.0 items settled
    (omega (arith, marks, wire, c.arrivals.ensures.number, c.min-first.ensures)) (omega (arith, wire, c.min.ensures)) c.lines.ensures
    (rw c.wire-wire.ensures at c.put_events.ensures.items) in
    let put = is_put c.args.moments.now c.args.there.now.chip here.uart c.args.self.now here.remaining c.arrivals-2.result items settled
    events (c.arrivals-2.ensures ∙ (ap (count_by is_arrival) c.deref.ensures.value ∙ sym (arrivals-count items))) in
    put.arranges.same
