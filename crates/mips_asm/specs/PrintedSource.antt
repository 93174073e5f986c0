-- Printed text is a source: after an `.org` of an address, the text that is printed of a word at that address assembles
-- to an image of that word alone.
-- Source: the assembler language of this project.
use Rattle.std.specs.Prelude.{◌≡◌, ℕ, ◌<◌, ◌%◌, ◌^◌, true, List, ◌∷◌, ◌++◌, codes}
use Rattle.r4_words.specs.Ascii.{newline}
use Rattle.flat_ram.specs.Bytes.{bytes_of}
use Rattle.flat_ram.specs.Unmapped.{is_unmapped}
use Rattle.mips3_table.specs.declared.instruction.Inst.{Inst}
use Rattle.mips3_table.specs.Instructions.{IsInst}
use Rattle.mips3_code.specs.Coding.{decoded, encoded}
use Rattle.mips_text.specs.Values.{hex_text}
use Rattle.mips_text.specs.Printed.{text_of, word_text}
use Rattle.mips_text.specs.ReadBack.{word_kept}
use Rattle.mips_asm.specs.Assembly.{Image, assembled}

-- an address of an image at which a word may stand
pub record IsPlace (at : ℕ) : Type 0 where
  pub unmapped : is_unmapped at ≡ true
  pub aligned : at % 4 ≡ 0

-- the source of two lines that puts a text at an address: `.org 0x` with the address in hexadecimal, and the text
abbrev pub source_at : ℕ → List ℕ → List ℕ
source_at at text = codes ".org " ++ hex_text at ++ newline ∷ text

-- a text at an address assembles to this word, there and alone
abbrev pub AssemblesTo : List ℕ → ℕ → ℕ → Type 0
AssemblesTo text at word = assembled (source_at at text) ≡ Image at at (bytes_of word)

-- What is printed of an instruction of the table assembles to the instruction's word.
abbrev pub InstructionsAssemble : Type 0
InstructionsAssemble =
    (inst : Inst) (at : ℕ) → IsInst inst → IsPlace at → AssemblesTo (text_of inst at) at (encoded inst)

-- What is printed of a word assembles to the word that is kept of it: its instruction's, and a reserved word itself.
abbrev pub WordsAssemble : Type 0
WordsAssemble =
    (word at : ℕ) → word < 2 ^ 32 → IsPlace at → AssemblesTo (word_text word at) at (word_kept word (decoded word))
