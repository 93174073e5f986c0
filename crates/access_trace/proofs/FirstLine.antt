-- The first line of a text.
use Rattle.std.proofs.Common.{◌≡◌, ◌==◌, ◌<◌, ℕ, List, [], ◌∷◌, length, refl, ap, ◌∙◌, arith}
use Rattle.access_trace.specs.Pieces.{pieces}
use Rattle.access_trace.specs.Traces.{newline, lines_of_parts, lines_of}
use Rattle.access_trace.proofs.Splits.{has_part}

parts_more : (line : List ℕ) (parts : List (List ℕ)) → 0 < length parts → lines_of_parts (line ∷ parts) ≡ line ∷ lines_of_parts parts
parts_more line [] some = absurd (omega arith)
parts_more line (next ∷ parts) some = refl

-- a line that a newline ends, before the lines of what follows it
pub lines_of_more : (text line rest : List ℕ) → pieces newline text ≡ line ∷ pieces newline rest → lines_of text ≡ line ∷ lines_of rest
lines_of_more text line rest parts = ap lines_of_parts parts ∙ parts_more line (pieces newline rest) (has_part (λ code. code == newline) rest)

-- a text without a newline is one line, unless it is empty
pub lines_of_last : (text : List ℕ) → 0 < length text → pieces newline text ≡ text ∷ [] → lines_of text ≡ text ∷ []
lines_of_last [] some parts = absurd (omega arith)
lines_of_last (code ∷ text) some parts = ap lines_of_parts parts
