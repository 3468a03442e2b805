use Rattle.uart_link.proofs.link.make_end_call.Goals as goal

pub returns : goal.returns
returns c = record { begins = c.arrange.new.here; arranges = c.arrange.ensures; called = c.make_ring_call.ensures }
