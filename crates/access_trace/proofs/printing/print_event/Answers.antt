use Rattle.std.proofs.Common.{◌∙◌, ap}
use Rattle.access_trace.specs.Texts.{read_line}
use Rattle.access_trace.proofs.Digits.{after_none}
use Rattle.access_trace.proofs.ReadBack.{read_line_of}
use Rattle.access_trace.proofs.printing.print_event.Goals as goal

pub returns-clause-text : goal.returns-clause-text
returns-clause-text c = after_none _ _ _ c.requires.empty c.print_line.ensures.text

pub returns-clause-read_back : goal.returns-clause-read_back
returns-clause-read_back c = ap read_line (after_none _ _ _ c.requires.empty c.print_line.ensures.text) ∙ read_line_of c.args.event.now c.requires.event
