-- The text, and then the file.
use Rattle.r4k_top.proofs.Delivery.{delivered, undelivered}
use Rattle.r4k_top.proofs.product.deliver_finished.Goals as goal

pub returns-in-Ok : goal.returns-in-Ok
returns-in-Ok g c = delivered _ _ _ _ _ _ _ _ _ _ _ _ c.in-Ok.ensures.ok c.in-Ok.ensures.flushed c.place.ensures

pub returns-in-Err : goal.returns-in-Err
returns-in-Err g c = undelivered _ _ _ _ _ _ _ _ _ _ c.in-Err.ensures.err c.in-Err.ensures.cause.on_err
