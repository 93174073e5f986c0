use Rattle.std.proofs.Common.{List, ℕ, map, ap, ◌∙◌}
use Rattle.slab.specs.Slab.{Slab}
use Rattle.line_arena.specs.Parts.{bytes_in}
use Rattle.line_arena.proofs.Made.{nobody_is}
use Rattle.line_arena.proofs.Views.{made_of}
use Rattle.line_arena.proofs.holders.Arena.new.Goals as goal

pub returns : goal.returns
returns c =
    ap (λ (s : Slab (List ℕ)). made_of c.args.line c.in_ok-no_slots.field-0.items (map (bytes_in c.args.line s) c.in_ok-no_slots.field-0.items) c.in_ok-no_owners.field-0.items) c.store.view_is
    ∙ nobody_is c.args.line c.args.holders c.in_ok-store.store c.in_ok-no_slots.field-0.items c.in_ok-no_owners.field-0.items c.in_ok-no_slots.ensures c.in_ok-no_owners.ensures
