-- What the rules say of an image.
use Rattle.std.proofs.Common.{◌≡◌, ℕ, ◌+◌, ◌*◌, ◌≤◌, ◌<◌, Bool, true, false, List, [], ◌∷◌, length, refl, arith, if◌then◌else◌, Option, Some, None}
use Rattle.std.specs.List.{find}
use Rattle.elf_image.proofs.Table.{good_at}
use Rattle.std.specs.Option.{option_map}
use Rattle.std.proofs.lemmas.Bool.{leb-true}
use Rattle.elf_image.specs.declared.rules.ImageFault.{ImageFault}
use Rattle.elf_image.specs.declared.rules.ImageRule.TheVariants.{Range, Table, Short}
use Rattle.elf_image.specs.Header.{table_of, count_of, headers_of}
use Rattle.elf_image.specs.Rules.{image_fault, first_fault, short_fault, magic_fault, class_fault, machine_fault, kind_fault, table_fault, range_fault, entry_fault, breaks_range, broken, unless}

-- the first broken rule is the fault, where the rules before it are kept
pub broken_short : (bytes : List ℕ) (fault : ImageFault) → short_fault bytes ≡ Some fault → image_fault bytes ≡ Some fault
unfolding image_fault
broken_short bytes fault is = rw (is) refl

pub broken_magic : (bytes : List ℕ) (fault : ImageFault) → short_fault bytes ≡ None → magic_fault bytes ≡ Some fault → image_fault bytes ≡ Some fault
unfolding image_fault
broken_magic bytes fault short is = rw (short, is) refl

pub broken_class : (bytes : List ℕ) (fault : ImageFault) → short_fault bytes ≡ None → magic_fault bytes ≡ None → class_fault bytes ≡ Some fault → image_fault bytes ≡ Some fault
unfolding image_fault
broken_class bytes fault short magic is = rw (short, magic, is) refl

pub broken_machine : (bytes : List ℕ) (fault : ImageFault) → short_fault bytes ≡ None → magic_fault bytes ≡ None → class_fault bytes ≡ None → machine_fault bytes ≡ Some fault → image_fault bytes ≡ Some fault
unfolding image_fault
broken_machine bytes fault short magic class is = rw (short, magic, class, is) refl

pub broken_kind : (bytes : List ℕ) (fault : ImageFault) → short_fault bytes ≡ None → magic_fault bytes ≡ None → class_fault bytes ≡ None → machine_fault bytes ≡ None → kind_fault bytes ≡ Some fault → image_fault bytes ≡ Some fault
unfolding image_fault
broken_kind bytes fault short magic class machine is = rw (short, magic, class, machine, is) refl

pub broken_table : (bytes : List ℕ) (fault : ImageFault) → short_fault bytes ≡ None → magic_fault bytes ≡ None → class_fault bytes ≡ None → machine_fault bytes ≡ None → kind_fault bytes ≡ None → table_fault bytes ≡ Some fault → image_fault bytes ≡ Some fault
unfolding image_fault
broken_table bytes fault short magic class machine kind is = rw (short, magic, class, machine, kind, is) refl

pub broken_range : (bytes : List ℕ) (fault : ImageFault) → short_fault bytes ≡ None → magic_fault bytes ≡ None → class_fault bytes ≡ None → machine_fault bytes ≡ None → kind_fault bytes ≡ None → table_fault bytes ≡ None → range_fault bytes ≡ Some fault → image_fault bytes ≡ Some fault
unfolding image_fault
broken_range bytes fault short magic class machine kind table is = rw (short, magic, class, machine, kind, table, is) refl

pub broken_entry : (bytes : List ℕ) (fault : ImageFault) → short_fault bytes ≡ None → magic_fault bytes ≡ None → class_fault bytes ≡ None → machine_fault bytes ≡ None → kind_fault bytes ≡ None → table_fault bytes ≡ None → range_fault bytes ≡ None → entry_fault bytes ≡ Some fault → image_fault bytes ≡ Some fault
unfolding image_fault
broken_entry bytes fault short magic class machine kind table range is = rw (short, magic, class, machine, kind, table, range, is) refl

pub none_broken : (bytes : List ℕ) → short_fault bytes ≡ None → magic_fault bytes ≡ None → class_fault bytes ≡ None → machine_fault bytes ≡ None → kind_fault bytes ≡ None → table_fault bytes ≡ None → range_fault bytes ≡ None → entry_fault bytes ≡ None → image_fault bytes ≡ None
unfolding image_fault
none_broken bytes short magic class machine kind table range entry = rw (short, magic, class, machine, kind, table, range, entry) refl

-- what tells the fault of an image from the answers of its rules in turn
pub ruleset rule_by_rule = (broken_short, broken_magic, broken_class, broken_machine, broken_kind, broken_table, broken_range, broken_entry, none_broken)

AllKept : List (Option ImageFault) → Type 0
AllKept [] = Unit {0}
AllKept (rule ∷ rules) = (rule ≡ None) × AllKept rules

all_kept : (rules : List (Option ImageFault)) → first_fault rules ≡ None → AllKept rules
unfolding AllKept
all_kept [] is = tt
all_kept (None ∷ rules) is = (refl, all_kept rules is)
all_kept (Some fault ∷ rules) is = absurd (cc)

-- an image keeps each rule
record Keeps (bytes : List ℕ) : Type 0 where
  short : short_fault bytes ≡ None
  table : table_fault bytes ≡ None
  range : range_fault bytes ≡ None

keeps_rules : (bytes : List ℕ) → image_fault bytes ≡ None → Keeps bytes
unfolding image_fault AllKept
keeps_rules bytes is =
    let rules = short_fault bytes ∷ magic_fault bytes ∷ class_fault bytes ∷ machine_fault bytes ∷ kind_fault bytes ∷ table_fault bytes ∷ range_fault bytes ∷ entry_fault bytes ∷ [] in
    let kept = all_kept rules is in
    record { short = kept.0; table = kept.1.1.1.1.1.0; range = kept.1.1.1.1.1.1.0 }

unless_none : (holds : Bool) (fault : ImageFault) → unless holds fault ≡ None → holds ≡ true
unless_none true fault is = refl
unless_none false fault is = absurd (cc)

pub accepted_length : (bytes : List ℕ) → image_fault bytes ≡ None → 52 ≤ length bytes
unfolding short_fault
accepted_length bytes is = leb-true _ _ (unless_none _ (broken Short (length bytes)) (keeps_rules bytes is).short)

table_cases : (other : Bool) (lies : Bool) → (if other then Some (broken Table 42) else unless lies (broken Table 28)) ≡ None → lies ≡ true
table_cases true lies is = absurd (cc)
table_cases false lies is = unless_none lies (broken Table 28) is

pub accepted_table : (bytes : List ℕ) → image_fault bytes ≡ None → table_of bytes + 32 * count_of bytes ≤ length bytes
unfolding table_fault
accepted_table bytes is = leb-true _ _ (table_cases _ _ (keeps_rules bytes is).table)

none_mapped : (found : Option ℕ) → option_map (broken Range) found ≡ None → found ≡ None
none_mapped None is = refl
none_mapped (Some at) is = absurd (cc)

pub accepted_range : (bytes : List ℕ) → image_fault bytes ≡ None → find (breaks_range bytes) (headers_of bytes) ≡ None
unfolding range_fault
accepted_range bytes is = none_mapped _ (keeps_rules bytes is).range

-- where the table of an accepted image lies, and what its headers keep
pub ruleset accepted_headers = (accepted_table, accepted_range)

-- an image's program headers lie in the file, and are in range
pub accepted_header : (bytes : List ℕ) (table at count index : ℕ) → image_fault bytes ≡ None → table ≡ table_of bytes → count ≡ count_of bytes → index < count → at ≡ table + 32 * index →
    (at + 32 ≤ length bytes) × (breaks_range bytes at ≡ false)
accepted_header bytes table at count index is t c lt here =
    let lies = accepted_table bytes is in
    let fits : at + 32 ≤ length bytes = omega arith in
    (fits, good_at bytes (table_of bytes) at (count_of bytes) index (accepted_range bytes is) (omega arith) (omega arith))
