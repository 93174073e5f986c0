-- The text, while the run is made, and then the file.
use Rattle.r4k_top.proofs.Delivery.{delivered, undelivered, placed_traced}
use Rattle.r4k_top.proofs.product.deliver_traced.Goals as goal

pub returns-in-Ok-clause-delivered : goal.returns-in-Ok-clause-delivered
returns-in-Ok-clause-delivered g c =
    delivered _ _ _ _ _ _ _ _ _ _ _ _ c.in-Ok.ensures.ok c.in-Ok.ensures.flushed
    (placed_traced _ _ _ _ _ _ _ _ _ _ c.in-Ok.ensures.whole c.place.ensures)

pub returns-in-Err-clause-delivered : goal.returns-in-Err-clause-delivered
returns-in-Err-clause-delivered g c = undelivered _ _ _ _ _ _ _ _ _ _ c.in-Err.ensures.err c.in-Err.ensures.cause.on_err
