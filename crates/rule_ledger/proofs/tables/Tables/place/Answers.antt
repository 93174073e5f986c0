use Rattle.std.proofs.Common.{◌≡◌, ◌+◌, ◌*◌, ◌/◌, ◌%◌, ap, ◌∙◌}
use Rattle.rule_ledger.specs.Cells.{grid_of}
use Rattle.rule_ledger.specs.Marks.{place_of}
use Rattle.rule_ledger.proofs.Grids.{grid_is, places_are}
use Rattle.rule_ledger.proofs.Placing.{place_inside}
use Rattle.rule_ledger.proofs.tables.Tables.place.Goals as goal

pub returns : goal.returns
returns c =
    let is = c.self.invariant.0 in
    let same : c.copy_of.result ≡ place_of (grid_of c.self.inside.shape) c.args.granule c.args.colour =
    c.copy_of.ensures.is ∙ ap (λ lines. c.args.granule / (grid_of c.self.inside.shape).page * lines + (c.args.colour * (grid_of c.self.inside.shape).page + c.args.granule % (grid_of c.self.inside.shape).page)) (places_are _ is) in
    let inside = place_inside (grid_of c.self.inside.shape) (grid_is _ is) c.args.granule c.args.colour (rw (← c.self.view_is) at c.requires.granule) (rw (← c.self.view_is) at c.requires.colour) in
    rw (← c.self.view_is) (record {
      place = same;
      in_data = rw (same, c.self.invariant.1.cells) inside;
      in_instructions = rw (same, c.self.invariant.2.cells) inside;
    })
