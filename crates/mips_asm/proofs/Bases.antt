-- The base of a source, a line at a time.
use Rattle.std.proofs.Common.{◌≡◌, ℕ, List, [], ◌∷◌, length, map, refl, ap, ◌∙◌, arith, subst}
use Rattle.mips_text.specs.Line.{Reading, read_line}
use Rattle.mips_asm.specs.Layout.{base_by, base_of, lines_of, readings_of, usual_base}

-- the reading of the first line
pub readings_more : (source line rest : List ℕ) → lines_of source ≡ line ∷ lines_of rest → readings_of source ≡ read_line line ∷ readings_of rest
readings_more source line rest is = ap (map read_line) is

-- a source that ends has no lines
pub readings_end : (source : List ℕ) → length source ≡ 0 → readings_of source ≡ []
readings_end [] none = refl
readings_end (code ∷ rest) none = absurd (omega arith)

base_of_nothing : base_of [] ≡ usual_base
unfolding base_of
base_of_nothing = refl

base_of_reading : (reading : Reading) (readings : List Reading) → base_of (reading ∷ readings) ≡ base_by reading (base_of readings)
unfolding base_of
base_of_reading reading readings = refl

-- the base by the first line
pub base_of_more : (source line rest : List ℕ) → lines_of source ≡ line ∷ lines_of rest → base_of (readings_of source) ≡ base_by (read_line line) (base_of (readings_of rest))
base_of_more source line rest is = ap base_of (readings_more source line rest is) ∙ base_of_reading (read_line line) (readings_of rest)

pub base_of_end : (source : List ℕ) → length source ≡ 0 → base_of (readings_of source) ≡ usual_base
base_of_end source none = ap base_of (readings_end source none) ∙ base_of_nothing

-- what is known of the readings of the rest of a source, by its first line
pub with_first : (P : List Reading → Type 0) (source line rest : List ℕ) → lines_of source ≡ line ∷ lines_of rest → P (readings_of source) → P (read_line line ∷ readings_of rest)
with_first P source line rest is holds = subst P (readings_more source line rest is) holds

-- and at its end
pub with_none : (P : List Reading → Type 0) (source : List ℕ) → length source ≡ 0 → P (readings_of source) → P []
with_none P source none holds = subst P (readings_end source none) holds
