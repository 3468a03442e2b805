use Rattle.std.proofs.Common.{refl}
use lib.Count.{ones}
use Rattle.uart_discovery.proofs.tree.console.stride_of.Goals as goal

pub returns-in-0-clause-power : goal.returns-in-0-clause-power
unfolding ones
returns-in-0-clause-power c = refl

pub returns-in-1-clause-power : goal.returns-in-1-clause-power
unfolding ones
returns-in-1-clause-power c = refl

pub returns-in-2-clause-power : goal.returns-in-2-clause-power
unfolding ones
returns-in-2-clause-power c = refl

pub returns-in-3-clause-power : goal.returns-in-3-clause-power
unfolding ones
returns-in-3-clause-power c = refl

pub returns-in-4-clause-power : goal.returns-in-4-clause-power
unfolding ones
returns-in-4-clause-power c = refl

pub returns-in-5-clause-power : goal.returns-in-5-clause-power
unfolding ones
returns-in-5-clause-power c = refl

pub returns-in-6-clause-power : goal.returns-in-6-clause-power
unfolding ones
returns-in-6-clause-power c = refl

pub returns-in-7-clause-power : goal.returns-in-7-clause-power
unfolding ones
returns-in-7-clause-power c = refl
