-- How a shape is kept: each of its numbers is a power of two, so its logarithm stands for it, and an address is cut by shifts and
-- masks.
-- Source: this project's own.
use Rattle.std.specs.Prelude.{◌≡◌, ℕ, ◌^◌, ◌≤◌, Bool, true, if◌then◌else◌}
use Rattle.std.specs.Int.Count.{count_trailing_zeros}
use Rattle.r4_shape.specs.Numbers.{Numbers}

-- the numbers of a shape whose logarithms are these, in the order of its record: those of the secondary cache are 0 where there is none
abbrev pub numbers_of : Bool → ℕ → ℕ → ℕ → ℕ → Numbers
numbers_of sc prim line group size = record {
  sc = sc;
  prim = 2 ^ prim;
  line = 2 ^ line;
  group = if sc then 2 ^ group else 0;
  size = if sc then 2 ^ size else 0;
}

-- the logarithm of a power of two
abbrev pub logarithm : ℕ → ℕ
logarithm n = count_trailing_zeros 32 n

-- the same for a number that is 0 where there is no secondary cache
abbrev pub secondary_logarithm : Bool → ℕ → ℕ
secondary_logarithm sc n = if sc then logarithm n else 0

-- The logarithms of a shape's numbers: of a primary cache and of a line in it; and, where there is a secondary cache, of a line in
-- it and of that cache, both 0 where there is none. So the numbers tell the logarithms.
pub record ArePowers (sc : Bool) (prim line group size : ℕ) : Type 0 where
  pub prim_is : prim ≡ 13
  pub line_least : 4 ≤ line
  pub line_most : line ≤ 5
  pub holds : sc ≡ true → line ≤ group
  pub group_most : group ≤ 7
  pub size_least : sc ≡ true → 17 ≤ size
  pub size_most : size ≤ 20
  pub prim_back : logarithm (2 ^ prim) ≡ prim
  pub line_back : logarithm (2 ^ line) ≡ line
  pub group_back : secondary_logarithm sc (if sc then 2 ^ group else 0) ≡ group
  pub size_back : secondary_logarithm sc (if sc then 2 ^ size else 0) ≡ size
