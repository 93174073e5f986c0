use Rattle.line_moves.proofs.Calls.{pidx_set_is}
use Rattle.line_moves.proofs.caches.Caches.set_pidx.Goals as goal

pub returns : goal.returns
returns c = record { set = pidx_set_is _ _ _ _ _ _ _ c.self.view_is c.self.invariant c.requires.within c.tag-tag.ensures.tag c.set.ensures.set }
