-- The words of the handler, at their addresses, in a PROM that has it.
use Rattle.std.proofs.Common.{◌≡◌, ◌+◌, ◌∙◌, ℕ, refl, ap, sym}
use Rattle.std.specs.Prelude.{slice_index}
use Rattle.std.proofs.lemmas.List.{get_or-drop}
use Rattle.flat_ram.specs.declared.memory.Prom.{Prom}
use Rattle.prom_code.specs.HandlerOf.{vector_words, HasHandler, word_in}
use Rattle.prom_code.specs.PromWords.{boot_words, boot_prom}

-- this project's PROM has it
pub boot_has_handler : HasHandler boot_prom
unfolding boot_words vector_words
boot_has_handler = refl

-- The words that a coherency exception passes, by their physical addresses.
pub record HasWords (words : ℕ → ℕ) : Type 0 where
  pub w380 : words 0x1fc00380 ≡ 0x401a6800
  pub w384 : words 0x1fc00384 ≡ 0x335a007c
  pub w388 : words 0x1fc00388 ≡ 0x3b5b007c
  pub w38c : words 0x1fc0038c ≡ 0x13600007
  pub w390 : words 0x1fc00390 ≡ 0x3b5a0038
  pub w394 : words 0x1fc00394 ≡ 0x13400005
  pub w398 : words 0x1fc00398 ≡ 0
  pub w3ac : words 0x1fc003ac ≡ 0x401a4000
  pub w3b0 : words 0x1fc003b0 ≡ 0xbf570000
  pub w3b4 : words 0x1fc003b4 ≡ 0x42000018

-- a word of the PROM from 200 on
vector_word : (prom : Prom) → HasHandler prom → (at : ℕ) → slice_index prom.words (0x80 + at) ≡ slice_index vector_words at
vector_word prom has at = sym (get_or-drop 0x80 prom.words at 0) ∙ ap (λ words. slice_index words at) has

pub has_words : (prom : Prom) → HasHandler prom → HasWords (word_in prom)
unfolding vector_words
has_words prom has = record {
  w380 = vector_word prom has 0x60;
  w384 = vector_word prom has 0x61;
  w388 = vector_word prom has 0x62;
  w38c = vector_word prom has 0x63;
  w390 = vector_word prom has 0x64;
  w394 = vector_word prom has 0x65;
  w398 = vector_word prom has 0x66;
  w3ac = vector_word prom has 0x6b;
  w3b0 = vector_word prom has 0x6c;
  w3b4 = vector_word prom has 0x6d;
}
