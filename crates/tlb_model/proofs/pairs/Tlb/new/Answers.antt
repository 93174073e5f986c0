use Rattle.tlb_model.proofs.Storable.{zeros_are_pairs}
use Rattle.tlb_model.proofs.pairs.Tlb.new.Goals as goal

pub invariant_of-result : goal.invariant_of-result
invariant_of-result c = zeros_are_pairs 48
