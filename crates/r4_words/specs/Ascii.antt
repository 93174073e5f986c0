-- Characters by name, each by its code. Source: ASCII.
use Rattle.std.specs.Prelude.{ℕ}

abbrev pub tab : ℕ
tab = 9

abbrev pub newline : ℕ
newline = 10

abbrev pub carriage_return : ℕ
carriage_return = 13

abbrev pub blank : ℕ
blank = 32

-- `"`
abbrev pub quote : ℕ
quote = 34

-- `#`
abbrev pub hash : ℕ
hash = 35

-- `$`
abbrev pub dollar : ℕ
dollar = 36

-- `(`
abbrev pub left_parenthesis : ℕ
left_parenthesis = 40

-- `)`
abbrev pub right_parenthesis : ℕ
right_parenthesis = 41

-- `,`
abbrev pub comma : ℕ
comma = 44

-- `-`
abbrev pub minus : ℕ
minus = 45

-- `.`
abbrev pub dot : ℕ
dot = 46

-- `0`
abbrev pub digit_0 : ℕ
digit_0 = 48

-- `:`
abbrev pub colon : ℕ
colon = 58

-- `A`, `F` and `Z`
abbrev pub capital_a : ℕ
capital_a = 65

abbrev pub capital_f : ℕ
capital_f = 70

abbrev pub capital_z : ℕ
capital_z = 90

-- `\`
abbrev pub backslash : ℕ
backslash = 92

-- `_`
abbrev pub underscore : ℕ
underscore = 95

-- `a`, `c`, `f`, `n`, `x` and `z`
abbrev pub small_a : ℕ
small_a = 97

abbrev pub small_c : ℕ
small_c = 99

abbrev pub small_f : ℕ
small_f = 102

abbrev pub small_n : ℕ
small_n = 110

abbrev pub small_x : ℕ
small_x = 120

abbrev pub small_z : ℕ
small_z = 122
