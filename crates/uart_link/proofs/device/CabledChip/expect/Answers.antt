use Rattle.uart_link.proofs.Names.{◌∙◌, ap, arith, sym, count_by, is_arrival, arrivals-count}
use Rattle.uart_link.proofs.Schedules.{has_settled, is_expected}
use Rattle.uart_link.proofs.device.CabledChip.expect.Goals as goal

pub overflow_sub-self : goal.overflow_sub-self
overflow_sub-self c =
    let here = c.self.inside in
    let items = c.put_alone.new.events.items in
    let settled = has_settled c.args.self.now here.uart _ here.remaining (c.self.view_is ∙ c.settle.ensures) c.self.invariant.2 in
    let put = is_expected c.args.event here.uart c.args.self.now here.remaining c.arrivals.result items settled c.put_alone.ensures.items
    (c.arrivals.ensures ∙ (ap (count_by is_arrival) c.deref.ensures.value ∙ sym (arrivals-count items))) c.requires.legal
    c.requires.unmarked c.requires.few in
    put.few

pub invariant_of-self : goal.invariant_of-self
invariant_of-self c =
    let here = c.self.inside in
    let items = c.put_alone.new.events.items in
    let settled = has_settled c.args.self.now here.uart _ here.remaining (c.self.view_is ∙ c.settle.ensures) c.self.invariant.2 in
    let put = is_expected c.args.event here.uart c.args.self.now here.remaining c.arrivals.result items settled c.put_alone.ensures.items
    (c.arrivals.ensures ∙ (ap (count_by is_arrival) c.deref.ensures.value ∙ sym (arrivals-count items))) c.requires.legal
    c.requires.unmarked c.requires.few in
    (omega arith, omega (arith, c.put_alone.ensures.room, c.self.invariant.1), put.known)

pub returns : goal.returns
returns c =
    let here = c.self.inside in
    let items = c.put_alone.new.events.items in
    let settled = has_settled c.args.self.now here.uart _ here.remaining (c.self.view_is ∙ c.settle.ensures) c.self.invariant.2 in
    let put = is_expected c.args.event here.uart c.args.self.now here.remaining c.arrivals.result items settled c.put_alone.ensures.items
    (c.arrivals.ensures ∙ (ap (count_by is_arrival) c.deref.ensures.value ∙ sym (arrivals-count items))) c.requires.legal
    c.requires.unmarked c.requires.few in
    put.same
