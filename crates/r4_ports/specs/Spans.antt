-- Texts in one buffer, each at a span of it.
use Rattle.std.specs.Prelude.{◌≤◌, ◌+◌, ℕ, List, length, slice_range}
use Rattle.r4_ports.specs.declared.spans.Span.{Span}

-- the text that stands in a buffer at a span
abbrev pub text_at : List ℕ → Span → List ℕ
text_at buffer span = slice_range buffer span.start span.end

-- the span of a text that is appended to a buffer
abbrev pub span_after : List ℕ → List ℕ → Span
span_after buffer text = record { start = length buffer; end = length buffer + length text }

-- a span lies within so many bytes
pub record Within (size : ℕ) (span : Span) : Type 0 where
  pub ordered : span.start ≤ span.end
  pub inside : span.end ≤ size
