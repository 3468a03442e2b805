use Rattle.std.proofs.Common.{arith, None}
use Rattle.uart_judges.proofs.Again.{none_read, one_read, reads_sound, two_reads}
use Rattle.uart_judges.proofs.replay.replayer.Replayer.reads.Goals as goal

pub returns-then-times-eq0-clause-exact : goal.returns-then-times-eq0-clause-exact
returns-then-times-eq0-clause-exact c =
    (none_read c.args.times c.args.offset c.args.value c.args.self.now.known (record { first = None; others = None })
    (omega arith)).0

pub returns-then-times-eq0-clause-after : goal.returns-then-times-eq0-clause-after
returns-then-times-eq0-clause-after c =
    (none_read c.args.times c.args.offset c.args.value c.args.self.now.known (record { first = None; others = None })
    (omega arith)).1

pub returns-then-times-eq0-clause-sound : goal.returns-then-times-eq0-clause-sound
returns-then-times-eq0-clause-sound c model start seen same =
    reads_sound c.args.times model start seen c.args.offset c.args.value c.args.self.now.known _
    (none_read c.args.times c.args.offset c.args.value c.args.self.now.known (record { first = None; others = None })
    (omega arith)).0
    same

pub returns-then-times-eq1-clause-exact : goal.returns-then-times-eq1-clause-exact
returns-then-times-eq1-clause-exact c =
    (one_read c.args.times c.args.offset c.args.value c.args.self.now.known c.read-first.new.self.known
    c.read-first.result None (omega arith) c.read-first.ensures.exact c.read-first.ensures.after).0

pub returns-then-times-eq1-clause-after : goal.returns-then-times-eq1-clause-after
returns-then-times-eq1-clause-after c =
    (one_read c.args.times c.args.offset c.args.value c.args.self.now.known c.read-first.new.self.known
    c.read-first.result None (omega arith) c.read-first.ensures.exact c.read-first.ensures.after).1

pub returns-then-times-eq1-clause-sound : goal.returns-then-times-eq1-clause-sound
returns-then-times-eq1-clause-sound c model start seen same =
    reads_sound c.args.times model start seen c.args.offset c.args.value c.args.self.now.known _
    (one_read c.args.times c.args.offset c.args.value c.args.self.now.known c.read-first.new.self.known
    c.read-first.result None (omega arith) c.read-first.ensures.exact c.read-first.ensures.after).0
    same

pub returns-clause-exact : goal.returns-clause-exact
returns-clause-exact c =
    (two_reads c.args.times c.args.offset c.args.value c.args.self.now.known c.read-first.new.self.known
    c.read-others.new.self.known c.read-first.result c.read-others.result (omega arith) c.read-first.ensures.exact
    c.read-first.ensures.after c.read-others.ensures.exact c.read-others.ensures.after).0

pub returns-clause-after : goal.returns-clause-after
returns-clause-after c =
    (two_reads c.args.times c.args.offset c.args.value c.args.self.now.known c.read-first.new.self.known
    c.read-others.new.self.known c.read-first.result c.read-others.result (omega arith) c.read-first.ensures.exact
    c.read-first.ensures.after c.read-others.ensures.exact c.read-others.ensures.after).1

pub returns-clause-sound : goal.returns-clause-sound
returns-clause-sound c model start seen same =
    reads_sound c.args.times model start seen c.args.offset c.args.value c.args.self.now.known _
    (two_reads c.args.times c.args.offset c.args.value c.args.self.now.known c.read-first.new.self.known
    c.read-others.new.self.known c.read-first.result c.read-others.result (omega arith) c.read-first.ensures.exact
    c.read-first.ensures.after c.read-others.ensures.exact c.read-others.ensures.after).0
    same
