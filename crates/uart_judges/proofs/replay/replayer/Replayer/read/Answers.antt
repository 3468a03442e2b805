use Rattle.uart_judges.proofs.Explaining.{none_returns}
use Rattle.uart_judges.proofs.replay.replayer.Replayer.read.Goals as goal

pub returns-in-Some-clause-sound : goal.returns-in-Some-clause-sound
returns-in-Some-clause-sound c =
    λ some model start seen same. none_returns model start seen c.args.offset c.args.value c.args.self.now.known c.in-Some.rule same
    c.in-Some.ensures
