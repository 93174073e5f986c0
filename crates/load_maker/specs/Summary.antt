-- The summary of the run of such a program, a line. The format is this project's own.
use Rattle.std.specs.Prelude.{ℕ, List, ◌++◌, codes, Option, Some, None}
use Rattle.r4_words.specs.Texts.{dec_of, hex_of}
use Rattle.access_trace.specs.declared.event.Verdict.{Verdict}
use Rattle.access_trace.specs.declared.event.Verdict.TheVariants.{Yes, No}
use Rattle.load_maker.specs.declared.summary.Summary.{Summary}

-- the verdict on the run
abbrev pub verdict_word : Verdict → List ℕ
verdict_word Yes = codes "yes"
verdict_word (No event breach) = codes "no"

-- the halt code, zero where the machine did not halt
abbrev pub halt_code : Option ℕ → ℕ
halt_code (Some code) = code
halt_code None = 0

-- `words W ticks T halt H yes`, with a newline: W and T are decimal, H has 8 hexadecimal digits
unfoldable pub summary_text : Summary → List ℕ
summary_text summary =
    codes "words " ++ dec_of summary.words ++ codes " ticks " ++ dec_of summary.ticks
    ++ codes " halt " ++ hex_of 8 (halt_code summary.halt) ++ codes " " ++ verdict_word summary.verdict ++ codes "\n"
