-- Words that match no row.
use Rattle.std.proofs.Common.{◌≡◌, ◌<◌, ℕ, List, [], ◌∷◌, None, length, refl, arith}
use Rattle.std.specs.Prelude.{◌==◌}
use Rattle.std.proofs.lemmas.List.Splits.{length-slice_split}
use Rattle.input_script.specs.Grammar.{row_of, parts_of}

after_three : (name line level : List ℕ) (more : List (List ℕ)) → 0 < length more → row_of (name ∷ line ∷ level ∷ more) ≡ None
after_three name line level [] some = absurd (omega arith)
after_three name line level (one ∷ more) some = refl

-- four words or more, since there is no text without parts
pub row_of_four : (code : ℕ) (name line level text : List ℕ) → row_of (name ∷ line ∷ level ∷ parts_of code text) ≡ None
row_of_four code name line level text = after_three name line level (parts_of code text) (omega (arith, length-slice_split (λ byte. byte == code) text))
