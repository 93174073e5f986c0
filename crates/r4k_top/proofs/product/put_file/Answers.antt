-- The other files stay, whatever the put answers.
use Rattle.std.proofs.Common.{subst}
use Rattle.r4k_top.specs.Outcome.{file_name}
use Rattle.r4k_top.specs.Clauses.{OthersStay}
use Rattle.r4k_top.proofs.Delivery.{others_put}
use Rattle.r4k_top.proofs.product.put_file.Goals as goal

pub returns-in-Some-clause-others : goal.returns-in-Some-clause-others
returns-in-Some-clause-others g c =
    subst (λ file. OthersStay (file_name file) (g.F.Shelf.held c.args.shelf.now) (g.F.Shelf.held c.put.new.self)) c.in-Some.ensures.file
    (others_put c.put.result _ _ _ _ c.put.ensures.ok c.put.ensures.err)
