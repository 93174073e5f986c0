-- What is printed is read back: a printed statement is a line of a source, and puts the word that was printed.
-- Source: the assembler language of this project, by the definitions of a line and of its bytes that the assembler has.
use Rattle.std.specs.Prelude.{◌≡◌, ℕ, List, Option, Some, None, Ok}
use Rattle.flat_ram.specs.Bytes.{bytes_of}
use Rattle.mips3_table.specs.declared.instruction.Inst.{Inst}
use Rattle.mips3_code.specs.Coding.{encoded}
use Rattle.mips_text.specs.declared.item.Item.{Item}
use Rattle.mips_text.specs.Line.{read_line}
use Rattle.mips_text.specs.Coded.{Given, coded_at}

-- A text, as one line of a source, is a statement without a label, and at this address it puts this word, whatever labels
-- the source has.
pub record ReadsAs (text : List ℕ) (at word : ℕ) : Type 0 where
  pub item : Item
  pub is_read : read_line text ≡ Ok (record { label = None; item = Some item })
  pub is_word : (labels : List (List ℕ × ℕ)) → coded_at labels at item ≡ Given (bytes_of word)

-- The word that a printed word is read back as: that of its instruction, whose unused bits are zero, and a reserved word
-- itself.
abbrev pub word_kept : ℕ → Option Inst → ℕ
word_kept word (Some inst) = encoded inst
word_kept word None = word
