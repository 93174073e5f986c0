use Rattle.std.proofs.Common.{◌≡◌, drop}
use Rattle.std.specs.List.{position_from}
use Rattle.tlb_model.specs.Translation as law
use Rattle.tlb_model.proofs.translation.first_index.Given as goal

-- the first match is not among those before
abbrev pub invariant-loop-at : goal.invariant-loop-at
invariant-loop-at l = position_from (law.is_match l.va l.asid) l.at (drop l.at l.pairs) ≡ law.first_index l.pairs l.va l.asid
