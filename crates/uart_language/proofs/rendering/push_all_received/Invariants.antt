use Rattle.std.proofs.Common.{◌≡◌, ◌++◌, take}
use Rattle.std.specs.List.{flat_map}
use Rattle.uart_language.specs.Output.{received_text}
use Rattle.uart_language.proofs.rendering.push_all_received.Given as goal

abbrev pub invariant-loop-received : goal.invariant-loop-received
invariant-loop-received l = l.out.items ≡ l.fn.out.items ++ flat_map received_text (take l.received-index l.items)
