use Rattle.uart_judges.proofs.recording.lines.own_in.Goals as goal

pub returns-in-Some-Again-clause-entry : goal.returns-in-Some-Again-clause-entry
returns-in-Some-Again-clause-entry c = c.again_in.ensures.entry c.args.number
