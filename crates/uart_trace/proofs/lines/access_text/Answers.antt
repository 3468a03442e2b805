use Rattle.std.proofs.Common.{[], ◌∷◌}
use Rattle.uart_trace.specs.Trace.{access_line}
use Rattle.uart_trace.proofs.Traces.{adds_more, from_none}
use Rattle.uart_trace.proofs.lines.access_text.Goals as goal

pub returns : goal.returns
returns g c =
    from_none c.new-text.result.items _ _ c.new-text.ensures.items
    (adds_more c.new-text.result.items c.push_remarks.new.out.items c.push_access_line.new.out.items [] (access_line c.args.access ∷ [])
    c.in_ok-push_remarks.ensures c.in_ok-push_access_line.ensures)
