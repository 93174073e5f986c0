-- The labels of a map are those of its entries.
use Rattle.std.proofs.Common.{◌≡◌, ℕ, List, [], ◌∷◌, ◌++◌, Option, Some, None, IsSome, IfSome, cond, nat_eq, rules, refl, ap}
use Rattle.std.specs.Prelude.{bytes_eq, unwrap_or}
use Rattle.std.specs.Cmp.Lexicographic.{pointwise}
use Rattle.std.specs.Map.{lookup}
use Rattle.std.specs.declared.vec.Vec.{Vec}
use Rattle.std.specs.declared.alloc.Global.{Global}
use Rattle.mips_text.specs.Coded.{label_at}
use Rattle.mips_asm.specs.LabelsOf.{labels_shown}

pub lookup_shown : (name : List ℕ) (entries : List (Vec ℕ Global × ℕ)) → lookup (λ key. pointwise nat_eq name key.items) entries ≡ label_at (labels_shown entries) name
lookup_shown name [] = refl
lookup_shown name (entry ∷ entries) = ap (λ later. cond (bytes_eq name entry.0.items) (Some entry.1) later) (lookup_shown name entries)

pub labels_shown_append : (entries : List (Vec ℕ Global × ℕ)) (key : Vec ℕ Global) (address : ℕ) → labels_shown (entries ++ (key, address) ∷ []) ≡ labels_shown entries ++ (key.items, address) ∷ []
labels_shown_append [] key address = refl
labels_shown_append (entry ∷ entries) key address = ap (λ later. (entry.0.items, entry.1) ∷ later) (labels_shown_append entries key address)

-- the bytes of a text that has them
pub text_given : (found : Option (List ℕ)) (old new : List ℕ) → IfSome found (λ bytes. new ≡ old ++ bytes) → IsSome found → new ≡ old ++ unwrap_or found []
text_given (Some bytes) old new is some = is
text_given None old new is some = absurd (search rules)
