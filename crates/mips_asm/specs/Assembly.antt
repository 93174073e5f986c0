-- What a source is assembled to: the base, the entry and the bytes of an image, or the first line that is refused.
-- A line may have a fault of two kinds. It has one of the first kind where it can not be read, or can not stand at its
-- address (Layout.antt); and one of the second kind where it has no bytes, with all labels known: a label that it names
-- is none, or its branch or jump can not reach. A source is refused at the first line that has a fault of the first
-- kind, else at the first that has one of the second kind; else its bytes are those of its lines in a row.
-- Source: the assembler language of this project. What one line says and which bytes its statement puts is defined in
-- mips_text, specs/Line.antt and specs/Coded.antt.
use Rattle.std.specs.Prelude.{◌≡◌, ℕ, ◌+◌, ◌<◌, ◌⊎◌, List, [], length, slice_get, Option, Some, None, option_map, option_and_then, codes, unwrap_or, Ok, Err}
use Rattle.std.specs.List.{flat_map}
use Rattle.mips_text.specs.declared.reason.AsmWhy.{AsmWhy}
use Rattle.mips_text.specs.declared.item.Item.{Item}
use Rattle.mips_text.specs.Line.{Reading}
use Rattle.mips_text.specs.Least.{least}
use Rattle.mips_text.specs.Coded.{Coded, Given, Lacking, coded_of, label_at}
use Rattle.mips_asm.specs.declared.built.AsmFault.{AsmFault}
use Rattle.mips_asm.specs.declared.built.AsmFault.TheVariants as fault
use Rattle.mips_asm.specs.Layout.{Placed, placed_all, readings_of, base_of, labels_of, layout_fault}

-- What a source is assembled to.
pub data Assembly : Type 0 where
  -- the base, the entry and the bytes
  Image : ℕ → ℕ → List ℕ → Assembly
  -- the number of the first line that is refused, from 1, and the reason
  Bad : ℕ → AsmWhy → Assembly

-- THE BYTES OF A LINE

-- what a line says, if it can be read
abbrev pub item_read : Reading → Option Item
item_read (Ok line) = line.item
item_read (Err reason) = None

-- what a line puts where it stands, with these labels
abbrev pub coded_line : List (List ℕ × ℕ) → Placed → Coded
coded_line labels line = coded_of labels line.address (item_read line.reading)

-- the bytes that there are
abbrev pub bytes_given : Coded → List ℕ
bytes_given (Given bytes) = bytes
bytes_given (Lacking reason) = []

-- the reason for which there are none
abbrev pub reason_lacking : Coded → Option AsmWhy
reason_lacking (Given bytes) = None
reason_lacking (Lacking reason) = Some reason

-- The bytes of lines in a row.
abbrev pub bytes_of_lines : List (List ℕ × ℕ) → List Placed → List ℕ
bytes_of_lines labels lines = flat_map (λ line. bytes_given (coded_line labels line)) lines

-- The reason for which the line that has n lines before it has no bytes, with these labels. None where it has bytes, or
-- where there is no such line.
unfoldable pub coding_fault : List (List ℕ × ℕ) → List Placed → ℕ → Option AsmWhy
coding_fault labels lines n = option_and_then (λ line. reason_lacking (coded_line labels line)) (slice_get lines n)

-- the entry is the label `start`, else the base
abbrev pub entry_of : ℕ → List (List ℕ × ℕ) → ℕ
entry_of base labels = unwrap_or (label_at labels (codes "start")) base

-- THE FIRST FAULT

-- No line has a fault.
abbrev pub HasNoFault : (ℕ → Option AsmWhy) → Type 0
HasNoFault fault = (n : ℕ) → fault n ≡ None

-- The line of this number, counted from 1, has this fault, and no line before it has any.
pub record IsFirstFault (fault : ℕ → Option AsmWhy) (number : ℕ) (reason : AsmWhy) : Type 0 where
  -- how many lines stand before it
  pub before : ℕ
  pub counted : number ≡ before + 1
  pub has : fault before ≡ Some reason
  pub none_before : (n : ℕ) → n < before → fault n ≡ None

-- the fault of a line with the number of lines before it
abbrev pub numbered_fault : (ℕ → Option AsmWhy) → ℕ → Option (ℕ × AsmWhy)
numbered_fault fault n = option_map (λ reason. (n, reason)) (fault n)

-- the first fault of so many lines, with the number of lines before it
abbrev pub first_fault : (ℕ → Option AsmWhy) → ℕ → Option (ℕ × AsmWhy)
first_fault fault count = least (numbered_fault fault) count

-- THE ASSEMBLY

-- of lines without a fault of the first kind, by the first line that has one of the second kind
abbrev pub assembled_by_coding : ℕ → List (List ℕ × ℕ) → List Placed → Option (ℕ × AsmWhy) → Assembly
assembled_by_coding base labels lines (Some bad) = Bad (bad.0 + 1) bad.1
assembled_by_coding base labels lines None = Image base (entry_of base labels) (bytes_of_lines labels lines)

-- of lines, by the first one that has a fault of the first kind
abbrev pub assembled_by_layout : ℕ → List Placed → Option (ℕ × AsmWhy) → Assembly
assembled_by_layout base lines (Some bad) = Bad (bad.0 + 1) bad.1
assembled_by_layout base lines None =
    assembled_by_coding base (labels_of lines) lines (first_fault (coding_fault (labels_of lines) lines) (length lines))

-- of all lines of a source
abbrev pub assembled_all : ℕ → List Placed → Assembly
assembled_all base lines = assembled_by_layout base lines (first_fault (layout_fault base lines) (length lines))

-- the same of the lines as they are read
abbrev pub assembled_readings : List Reading → Assembly
assembled_readings readings = assembled_all (base_of readings) (placed_all readings)

-- The assembly of a source.
unfoldable pub assembled : List ℕ → Assembly
assembled source = assembled_readings (readings_of source)

-- THE SAME AS FACTS

-- the base of a source
abbrev pub source_base : List ℕ → ℕ
source_base source = base_of (readings_of source)

-- the lines of a source in their places
abbrev pub source_lines : List ℕ → List Placed
source_lines source = placed_all (readings_of source)

-- the labels of a source
abbrev pub source_labels : List ℕ → List (List ℕ × ℕ)
source_labels source = labels_of (source_lines source)

-- the bytes of a source
abbrev pub source_bytes : List ℕ → List ℕ
source_bytes source = bytes_of_lines (source_labels source) (source_lines source)

-- the faults of the first kind that the lines of a source have
abbrev pub layout_faults : List ℕ → ℕ → Option AsmWhy
layout_faults source = layout_fault (source_base source) (source_lines source)

-- the faults of the second kind that the lines of a source have
abbrev pub coding_faults : List ℕ → ℕ → Option AsmWhy
coding_faults source = coding_fault (source_labels source) (source_lines source)

-- No line of a source has a fault.
abbrev pub IsFaultless : List ℕ → Type 0
IsFaultless source = HasNoFault (layout_faults source) × HasNoFault (coding_faults source)

-- A source is refused at the line of this number for this reason: it is the first line that has a fault of the first
-- kind, or no line has one and it is the first that has a fault of the second kind.
abbrev pub IsRefusedAt : List ℕ → ℕ → AsmWhy → Type 0
IsRefusedAt source number reason =
    IsFirstFault (layout_faults source) number reason
    ⊎ (HasNoFault (layout_faults source) × IsFirstFault (coding_faults source) number reason)

-- A source is refused for what a fault of the assembler says; want of memory says nothing of the source.
abbrev pub IsRefusedBy : List ℕ → AsmFault → Type 0
IsRefusedBy source (fault.Bad line reason) = IsRefusedAt source line reason
IsRefusedBy source fault.Memory = Unit {0}
