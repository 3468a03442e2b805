use Rattle.std.proofs.Common.{◌≡◌, ◌-◌, ◌/◌, length}
use Rattle.uart_discovery.specs.Tree.{property_in, property_of, tokens_from}
use Rattle.uart_discovery.proofs.tree.node.property.Given as goal

-- what is still to be looked at gives what all does
abbrev pub invariant-loop-token : goal.invariant-loop-token
invariant-loop-token l =
    let s = l.tree.structure.now in
    property_in s l.tree.strings.now (tokens_from (length s / 4 - l._token) s l.at) l.name
    ≡ property_of s l.tree.strings.now l.node l.name
