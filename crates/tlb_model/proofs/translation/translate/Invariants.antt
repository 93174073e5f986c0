use Rattle.std.proofs.Common.{◌≡◌, drop}
use Rattle.tlb_model.specs.Translation as law
use Rattle.tlb_model.proofs.translation.translate.Given as goal

-- the first match is not among those before
abbrev pub invariant-loop-pair : goal.invariant-loop-pair
invariant-loop-pair l = law.first_match (drop l.pair-index l.pairs) l.va l.asid ≡ law.first_match l.pairs l.va l.asid
