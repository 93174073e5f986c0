-- An access keeps the shape.
use Rattle.std.proofs.Common.{ℕ, ◌%◌, Bool, true, false, nat_lt, if◌then◌else◌, refl, ◌∙◌}
use Rattle.std.specs.Int.{bytes_high_first}
use Rattle.flat_ram.specs.Map.{ram_size}
use Rattle.r4_shape.specs.Address.{granule}
use Rattle.line_moves.specs.declared.hierarchy.Hier.{Hier}
use Rattle.line_moves.specs.declared.places.Place.{Place}
use Rattle.line_moves.specs.declared.places.Side.{Side}
use Rattle.line_moves.specs.Lines.{place_of}
use Rattle.line_moves.specs.Moves.{ready, is_conflict}
use Rattle.line_moves.proofs.Parts.{SameShape, put_shape, ready_shape}
use Rattle.cache_tree.specs.Access.{Accessed, accessed, carried}
use Rattle.cache_tree.specs.declared.answers.Access.TheVariants.{Bus, Vce}
use Rattle.cache_tree.specs.declared.answers.MemOp.{MemOp}
use Rattle.cache_tree.specs.declared.answers.MemOp.TheVariants.{Read, Write}

either : (test : Bool) (x y : Accessed) (m : Hier) → SameShape x.memory m → SameShape y.memory m → SameShape (if test then x else y).memory m
either true x y m p q = p
either false x y m p q = q

carried_shape : (p : Place) (at : ℕ) (op : MemOp) (m : Hier) → SameShape (carried p at op m).memory m
carried_shape p at (Read size) m = refl
carried_shape p at (Write size value) m = put_shape p at (bytes_high_first size value) m

pub accessed_shape : (side : Side) (va pa : ℕ) (op : MemOp) (m : Hier) → SameShape (accessed side va pa op m).memory m
accessed_shape side va pa op m =
    let p : Place = place_of side va m.caches.shape in
    let n : ℕ = granule m.caches.shape pa in
    let at : ℕ = pa % m.caches.shape.line in
    let r : Hier = ready p va n m in
    either (nat_lt pa ram_size) _ (record { memory = m; answer = Bus }) m
    (either (is_conflict p va n m) (record { memory = m; answer = Vce }) (carried p at op r) m refl
    (carried_shape p at op r ∙ ready_shape p va n m))
    refl
