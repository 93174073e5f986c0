use Rattle.std.proofs.Common.{◌<◌, Some, None, length, take, ap, ◌∙◌, length-set}
use Rattle.line_arena.specs.Holding.{Holding, is_shared}
use Rattle.line_arena.proofs.Views.{bytes_back, free_before, own_alone, split_is}
use Rattle.line_arena.proofs.holders.Arena.split.Goals as goal

pub returns-then-shares-clause-split : goal.returns-then-shares-clause-split
returns-then-shares-clause-split c =
    let taken = c.take.ensures.taken in
    λ shared. (
      taken.0,
      free_before c.args.self.now c.args.holder taken.0 c.requires.place shared (rw c.give_back.ensures.left at taken.1),
      split_is c.args.self.now c.give_back.new.self c.take.new.self c.args.holder taken.0 c.bytes-bytes.result c.give_back.ensures.left c.bytes-bytes.ensures.bytes taken.2,
    )

pub returns-then-shares-clause-alone : goal.returns-then-shares-clause-alone
returns-then-shares-clause-alone c =
    let taken = c.take.ensures.taken in
    let place : c.args.holder < length c.give_back.new.self.slots = rw (c.give_back.ensures.left, length-set c.args.self.now.slots c.args.holder None) c.requires.place in
    ap (λ (a : Holding). is_shared a c.args.holder) taken.2
    ∙ own_alone c.give_back.new.self c.args.holder taken.0 (Some (take c.give_back.new.self.line c.bytes-bytes.result)) place taken.1

pub returns-then-shares-clause-bytes : goal.returns-then-shares-clause-bytes
returns-then-shares-clause-bytes c =
    let taken = c.take.ensures.taken in
    ap (λ (a : Holding). a.bytes) (split_is c.args.self.now c.give_back.new.self c.take.new.self c.args.holder taken.0 c.bytes-bytes.result c.give_back.ensures.left c.bytes-bytes.ensures.bytes taken.2)
    ∙ bytes_back c.args.self.now c.args.holder taken.0
