use Rattle.std.proofs.Common.{◌∙◌}
use Rattle.uart_trace.proofs.Traces.{printed_is_line}
use Rattle.uart_trace.proofs.tracing.Lines.write_begin.Goals as goal

pub begin_text-requires : goal.begin_text-requires
begin_text-requires g c =
    printed_is_line c.as_bytes.result.now c.first_or_empty.result.now (c.as_bytes.ensures.value ∙ c.in_ok-line.ensures)
