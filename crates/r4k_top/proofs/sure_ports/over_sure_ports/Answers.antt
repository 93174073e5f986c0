use Rattle.r4k_top.specs.Clauses.{EndsWith}
use Rattle.r4k_top.specs.Command.{command_of, out_name}
use Rattle.r4k_top.proofs.Headline.{text_of_complete}
use Rattle.r4k_top.proofs.SurePorts.{no_fault}
use Rattle.r4k_top.proofs.sure_ports.over_sure_ports.Goals as goal

pub returns-clause-answer : goal.returns-clause-answer
returns-clause-answer c =
    no_fault (out_name (command_of c.args.words.now)) (EndsWith (command_of c.args.words.now) c.args.shelf.now) c.workstation.result c.workstation.ensures.answer

pub returns-clause-done : goal.returns-clause-done
returns-clause-done c = text_of_complete _ _ _ _ _ c.workstation.ensures.stands
