use Rattle.std.proofs.Common.{is_some, map, sym, ap, ◌∙◌}
use Rattle.line_arena.specs.Holding.{Holding}
use Rattle.library_cases.proofs.Holds.{none_marked}
use Rattle.library_cases.proofs.lines.Lines.new.Goals as goal

pub invariant_of-result : goal.invariant_of-result
invariant_of-result c = (
  c.in_ok-marks.ensures ∙ none_marked c.args.holders ∙ ap (λ (a : Holding). map is_some a.slots) (sym c.in_ok-new.ensures),
  ap (λ (a : Holding). a.line) (sym c.in_ok-new.ensures),
)
