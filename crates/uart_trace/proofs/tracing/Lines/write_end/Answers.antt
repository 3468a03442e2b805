use Rattle.std.proofs.Common.{◌∙◌}
use Rattle.uart_trace.proofs.Traces.{printed_is_line}
use Rattle.uart_trace.proofs.tracing.Lines.write_end.Goals as goal

pub end_text-requires : goal.end_text-requires
end_text-requires g c =
    printed_is_line c.as_bytes-answer.result.now c.first_or_empty-2.result.now (c.as_bytes-answer.ensures.value ∙ c.in_ok-answer.ensures)
