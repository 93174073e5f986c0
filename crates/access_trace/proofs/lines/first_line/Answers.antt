use Rattle.access_trace.proofs.FirstLine.{lines_of_more}
use Rattle.access_trace.proofs.lines.first_line.Goals as goal

pub returns-in-Some-clause-lines : goal.returns-in-Some-clause-lines
returns-in-Some-clause-lines c = lines_of_more c.args.text.now c.in-Some.cut.0.now c.in-Some.cut.1.now c.in-Some.ensures.parts
