-- The first line of a source.
use Rattle.std.proofs.Common.{◌≡◌, ◌+◌, ◌<◌, ◌≤◌, ◌==◌, ℕ, zero, suc, Bool, true, false, not, List, [], ◌∷◌, length, take, drop, cond, refl, ap, arith, add-one}
use Rattle.std.specs.List.{prefix_len}
use Rattle.mips_asm.specs.Layout.{before_lines, lines_of}
use Rattle.mips_asm.specs.LabelsOf.{in_line}

-- a source whose first line has so many bytes, and ends
ended : (source : List ℕ) (n : ℕ) → prefix_len in_line source ≡ n → n < length source → lines_of source ≡ take n source ∷ lines_of (drop (suc n) source)
ended [] n is lt = absurd (omega arith)
ended (code ∷ rest) n is lt = by_code code rest (ended rest) n (code == 10) is lt
  where
    by_code : (code : ℕ) (rest : List ℕ) (hyp : (m : ℕ) → prefix_len in_line rest ≡ m → m < length rest → lines_of rest ≡ take m rest ∷ lines_of (drop (suc m) rest)) (n : ℕ) (b : Bool) → cond (not b) (1 + prefix_len in_line rest) 0 ≡ n → n < length (code ∷ rest) → cond b ([] ∷ lines_of rest) (before_lines code (lines_of rest)) ≡ take n (code ∷ rest) ∷ lines_of (drop (suc n) (code ∷ rest))
    by_code code rest hyp zero true is lt = refl
    by_code code rest hyp (suc m) true is lt = absurd (omega arith)
    by_code code rest hyp zero false is lt = absurd (omega arith)
    by_code code rest hyp (suc m) false is lt = ap (before_lines code) (hyp m (omega arith) (omega arith))

pub lines_of_more : (source : List ℕ) (n : ℕ) → n < length source → prefix_len in_line source ≡ n → lines_of source ≡ take n source ∷ lines_of (drop (n + 1) source)
lines_of_more source n lt is = rw (add-one) (ended source n is lt)

-- a source of one line that does not end
pub lines_of_last : (source : List ℕ) → 0 < length source → length source ≤ prefix_len in_line source → lines_of source ≡ source ∷ []
lines_of_last [] some le = absurd (omega arith)
lines_of_last (code ∷ rest) some le = by_code code rest (lines_of_last rest) (code == 10) le
  where
    by_code : (code : ℕ) (rest : List ℕ) (hyp : 0 < length rest → length rest ≤ prefix_len in_line rest → lines_of rest ≡ rest ∷ []) (b : Bool) → length (code ∷ rest) ≤ cond (not b) (1 + prefix_len in_line rest) 0 → cond b ([] ∷ lines_of rest) (before_lines code (lines_of rest)) ≡ (code ∷ rest) ∷ []
    by_code code rest hyp true le = absurd (omega arith)
    by_code code [] hyp false le = refl
    by_code code (next ∷ more) hyp false le = ap (before_lines code) (hyp (omega arith) (omega arith))
