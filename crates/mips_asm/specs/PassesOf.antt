-- What the calls of the two passes come to.
use Rattle.std.specs.Prelude.{◌≡◌, ℕ, ◌+◌, ◌++◌, List, [], ◌∷◌, Option, Some, Ok}
use Rattle.mips_text.specs.declared.reason.AsmWhy.{AsmWhy}
use Rattle.mips_text.specs.declared.item.Line.{Line}
use Rattle.mips_text.specs.Line.{Reading}
use Rattle.mips_asm.specs.declared.coding.Stop.{Stop}
use Rattle.mips_asm.specs.declared.coding.Stop.TheVariants.{Lacks, Memory}
use Rattle.mips_asm.specs.declared.built.AsmFault.{AsmFault}
use Rattle.mips_asm.specs.declared.built.AsmFault.TheVariants as fault
use Rattle.mips_asm.specs.Layout.{size_read, placed_at, labels_of}
use Rattle.mips_asm.specs.Assembly.{IsFirstFault}

-- the address after lines, the first of which stands at this one
abbrev pub address_after : ℕ → List Reading → ℕ
address_after address [] = address
address_after address (reading ∷ readings) = address_after (address + size_read address reading) readings

-- the labels after a line that can be read and stands at this address
abbrev pub labels_after : List (List ℕ × ℕ) → ℕ → Line → List (List ℕ × ℕ)
labels_after labels address line = labels ++ labels_of (placed_at address (Ok line) ∷ [])

-- a line has this fault; want of memory says nothing of it
abbrev pub IsStopped : Option AsmWhy → Stop → Type 0
IsStopped fault (Lacks reason) = fault ≡ Some reason
IsStopped fault Memory = Unit {0}

-- the first line that has a fault of a kind; want of memory says nothing of the lines
abbrev pub IsFaultOf : (ℕ → Option AsmWhy) → AsmFault → Type 0
IsFaultOf faults (fault.Bad line reason) = IsFirstFault faults line reason
IsFaultOf faults fault.Memory = Unit {0}
