use Rattle.std.proofs.Common.{◌≡◌, ◌-◌, ◌/◌, length}
use Rattle.std.specs.Prelude.{filter, slice_get}
use Rattle.uart_discovery.specs.Tree.{is_port, nodes_in, ports_in, tokens_from}
use Rattle.uart_discovery.proofs.tree.ports.nth_port.Given as goal

-- of the ports that are still to come, that which is looked for is the one with this index of all
abbrev pub invariant-loop-token : goal.invariant-loop-token
invariant-loop-token l =
    let s = l.tree.structure.now in
    let strings = l.tree.strings.now in
    slice_get (filter (is_port s strings) (nodes_in (tokens_from (length s / 4 - l._token) s l.at))) l.left
    ≡ slice_get (ports_in s strings) l.fn.index
