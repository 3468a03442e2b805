use Rattle.std.proofs.Common.{◌≡◌, map}
use Rattle.std.specs.List.{flat_map}
use Rattle.uart_trace.specs.Comments.{ended}
use Rattle.uart_trace.proofs.comments.without_comments.Given as goal

abbrev pub invariant-loop-line : goal.invariant-loop-line
invariant-loop-line l = l.text.items ≡ flat_map ended (map (λ line. line.now) l.yielded)
