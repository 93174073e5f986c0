use Rattle.std.proofs.Common.{◌≡◌, ◌*◌, List, ℕ, sym, ap, ◌∙◌, arith}
use Rattle.flat_ram.specs.Bytes.{bytes_at, put_bytes}
use Rattle.line_moves.specs.Lines.{line_bytes}
use Rattle.line_moves.specs.Moves as law
use Rattle.line_moves.proofs.Granules.{granule_put, granules_put}
use Rattle.line_moves.proofs.hierarchy.Hier.put_granules.Goals as goal

pub loop-part-preserved : goal.loop-part-preserved
loop-part-preserved c =
    let at_place : List ℕ = line_bytes (law.line_of c.args.place c.args.self.now) in
    let granule_is : c.granule-granule.result.now ≡ bytes_at at_place (c.loop-part.part * c.line-line.result) c.line-line.result =
    rw c.loop-part.invariant.caches at c.granule-granule.ensures.bytes
    ∙ ap (λ (line : ℕ). bytes_at at_place (c.loop-part.part * line) line) (sym c.loop-part.invariant.line) in
    record {
      ends = c.loop-part.invariant.ends;
      line = c.loop-part.invariant.line;
      caches = c.loop-part.invariant.caches;
      ram = rw (c.set_bytes.ensures, c.from.ensures, granule_is, c.loop-part.invariant.ram)
          (granule_put c.args.self.now.caches c.args.place c.args.self.now.ram c.args.pa c.loop-part.part c.line-line.result c.shape.ensures.lines c.requires.within c.requires.held
          c.loop-part.invariant.line (rw c.loop-part.invariant.ends at c.loop-part-test.true) (rw c.size-size.ensures.whole c.requires.room));
    }

pub returns-clause-ram : goal.returns-clause-ram
returns-clause-ram c =
    let last = c.loop-part.auto.part-end in
    let past = c.loop-part-test.false in
    let all : c.loop-part.part ≡ c.granules-part-end.result = omega arith in
    c.loop-part.invariant.ram
    ∙ ap (λ (bytes : List ℕ). put_bytes c.args.self.now.ram c.args.pa bytes)
    (granules_put c.args.self.now.caches c.args.place c.loop-part.part c.line-line.result c.shape.ensures.lines c.requires.within c.requires.held
    c.loop-part.invariant.line (all ∙ c.loop-part.invariant.ends))
