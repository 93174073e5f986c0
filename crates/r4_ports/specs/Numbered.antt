-- Counts of calls and of faults, and a list of the numbers of those calls that fail.
use Rattle.std.specs.Prelude.{◌==◌, ◌+◌, ◌-◌, ◌^◌, ℕ, Bool, min, List, if◌then◌else◌}
use Rattle.std.specs.List.{list_any}

-- the next number; a count stands still at the end of its type
abbrev pub counted : ℕ → ℕ
counted count = min (count + 1) (2 ^ 64 - 1)

-- the count of faults after a call that failed, or did not
abbrev pub counted_if : Bool → ℕ → ℕ
counted_if fails count = if fails then counted count else count

-- the call with this number is listed to fail
abbrev pub is_listed : List ℕ → ℕ → Bool
is_listed failing number = list_any (λ listed. listed == number) failing
