-- The names of the shapes: words with a slash between them. `pc/16` has primary caches alone, in lines of 16 bytes; and
-- `sc/16/64/128K` has a secondary cache of 128 KB in lines of 64 bytes before them.
-- Source: this project's own.
use Rattle.std.specs.Prelude.{ℕ, nat_le, List, [], ◌∷◌, ◌++◌, map, filter, Option, codes, bytes_eq}
use Rattle.std.specs.List.{find, flat_map}
use Rattle.std.specs.Option.{option_map}
use Rattle.r4_shape.specs.Numbers.{Numbers, primary_alone, with_secondary}

-- A word and the number of bytes that it stands for.
pub record Word : Type 0 where
  pub text : List ℕ
  pub number : ℕ

abbrev pub word : List ℕ → ℕ → Word
word text number = record { text = text; number = number }

-- the lines of the primary caches
abbrev pub lines : List Word
lines = word (codes "16") 16 ∷ word (codes "32") 32 ∷ []

-- the lines of the secondary cache, and its sizes
abbrev pub groups : List Word
groups = word (codes "16") 16 ∷ word (codes "32") 32 ∷ word (codes "64") 64 ∷ word (codes "128") 128 ∷ []

abbrev pub sizes : List Word
sizes = word (codes "128K") 131072 ∷ word (codes "256K") 262144 ∷ word (codes "512K") 524288 ∷ word (codes "1M") 1048576 ∷ []

-- A name and its shape.
pub record Name : Type 0 where
  pub text : List ℕ
  pub shape : Numbers

abbrev pub name : List ℕ → Numbers → Name
name text shape = record { text = text; shape = shape }

-- the code of the slash
abbrev pub slash : ℕ
slash = 47

-- the names with a word and a slash before each
abbrev pub under : List ℕ → List Name → List Name
under first names = map (λ rest. name (first ++ slash ∷ rest.text) rest.shape) names

-- L
abbrev pub primary_names : ℕ → List Name
primary_names prim = map (λ line. name line.text (primary_alone prim line.number)) lines

-- SIZE, LS/SIZE where LS is not below the primary line, and L/LS/SIZE
abbrev pub size_names : ℕ → ℕ → ℕ → List Name
size_names prim line group = map (λ size. name size.text (with_secondary prim line group size.number)) sizes

unfoldable pub group_names : ℕ → ℕ → List Name
group_names prim line =
    flat_map (λ group. under group.text (size_names prim line group.number))
    (filter (λ group. nat_le line group.number) groups)

unfoldable pub secondary_names : ℕ → List Name
secondary_names prim = flat_map (λ line. under line.text (group_names prim line.number)) lines

-- all names: pc/L and sc/L/LS/SIZE
abbrev pub names : List Name
names = under (codes "pc") (primary_names 8192) ++ under (codes "sc") (secondary_names 8192)

-- the shape that has a name among some: none where no shape has it
abbrev pub shape_of : List Name → List ℕ → Option Numbers
shape_of some text = option_map (λ one. one.shape) (find (λ one. bytes_eq text one.text) some)

-- the shape of a name: none for every other text
unfoldable pub read_shape : List ℕ → Option Numbers
read_shape text = shape_of names text
