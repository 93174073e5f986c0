use Rattle.std.proofs.Common.{◌≡◌, ◌+◌, ◌*◌, ◌/◌, ◌%◌, ap, ◌∙◌}
use Rattle.r4_shape.specs.Address.{granule, colour}
use Rattle.rule_ledger.specs.Cells.{grid_of}
use Rattle.rule_ledger.specs.Marks.{place_of}
use Rattle.rule_ledger.proofs.AnyEvent.{granule_inside, colour_inside}
use Rattle.rule_ledger.proofs.Grids.{grid_is, places_are}
use Rattle.rule_ledger.proofs.Placing.{place_inside}
use Rattle.rule_ledger.proofs.tables.Tables.place_of_access.Goals as goal

pub returns : goal.returns
returns c =
    let shape = c.self.inside.shape in
    let is = c.self.invariant.0 in
    let g = granule shape c.args.pa in
    let k = colour shape c.args.va in
    let same : c.accessed_copy.result ≡ place_of (grid_of shape) g k =
    c.accessed_copy.ensures.is ∙ ap (λ lines. g / (grid_of shape).page * lines + (k * (grid_of shape).page + g % (grid_of shape).page)) (places_are _ is) in
    let inside = place_inside (grid_of shape) (grid_is _ is) g k (granule_inside _ is c.args.pa c.requires.ram) (colour_inside _ is c.args.va) in
    rw (← c.self.view_is) (record {
      place = same;
      in_data = rw (same, c.self.invariant.1.cells) inside;
      in_instructions = rw (same, c.self.invariant.2.cells) inside;
    })
