-- What a source is assembled to, by its first fault.
use Rattle.std.proofs.Common.{◌≡◌, ◌<◌, ℕ, List, Some, length, ap, sym, ◌∙◌, inl, inr}
use Rattle.mips_text.specs.declared.reason.AsmWhy.{AsmWhy}
use Rattle.mips_asm.specs.Layout.{Placed, labels_of, layout_fault}
use Rattle.mips_asm.specs.Assembly.{Image, Bad, HasNoFault, IsFirstFault, IsFaultless, IsRefusedAt, first_fault, coding_fault, entry_of, bytes_of_lines, assembled_by_layout, assembled_by_coding, assembled_all, assembled, source_base, source_lines, source_labels, source_bytes, layout_faults, coding_faults}
use Rattle.mips_asm.proofs.Faults.{found_within, first_fault_is, no_first_fault}

layout_within : (base : ℕ) (lines : List Placed) (n : ℕ) (reason : AsmWhy) → layout_fault base lines n ≡ Some reason → n < length lines
unfolding layout_fault
layout_within base lines n reason is = found_within _ lines n reason is

coding_within : (labels : List (List ℕ × ℕ)) (lines : List Placed) (n : ℕ) (reason : AsmWhy) → coding_fault labels lines n ≡ Some reason → n < length lines
unfolding coding_fault
coding_within labels lines n reason is = found_within _ lines n reason is

-- a source whose first fault is of the first kind
refused_by_layout : (source : List ℕ) (number : ℕ) (reason : AsmWhy) → IsFirstFault (layout_faults source) number reason → assembled source ≡ Bad number reason
unfolding assembled
refused_by_layout source number reason is =
    ap (assembled_by_layout (source_base source) (source_lines source))
    (first_fault_is (layout_faults source) (length (source_lines source)) is.before reason (layout_within (source_base source) (source_lines source) is.before reason is.has) is.has is.none_before)
    ∙ ap (λ n. Bad n reason) (sym is.counted)

laid_out : (source : List ℕ) → HasNoFault (layout_faults source) →
    assembled source ≡ assembled_by_coding (source_base source) (source_labels source) (source_lines source) (first_fault (coding_faults source) (length (source_lines source)))
unfolding assembled
laid_out source none = ap (assembled_by_layout (source_base source) (source_lines source)) (no_first_fault (layout_faults source) (length (source_lines source)) none)

-- a source whose first fault is of the second kind
refused_by_coding : (source : List ℕ) (number : ℕ) (reason : AsmWhy) → HasNoFault (layout_faults source) → IsFirstFault (coding_faults source) number reason → assembled source ≡ Bad number reason
refused_by_coding source number reason none is =
    laid_out source none
    ∙ ap (assembled_by_coding (source_base source) (source_labels source) (source_lines source))
    (first_fault_is (coding_faults source) (length (source_lines source)) is.before reason (coding_within (source_labels source) (source_lines source) is.before reason is.has) is.has is.none_before)
    ∙ ap (λ n. Bad n reason) (sym is.counted)

-- lines without a fault
pub image_of_lines : (base : ℕ) (lines : List Placed) → HasNoFault (layout_fault base lines) → HasNoFault (coding_fault (labels_of lines) lines) → assembled_all base lines ≡ Image base (entry_of base (labels_of lines)) (bytes_of_lines (labels_of lines) lines)
image_of_lines base lines laid coded =
    ap (assembled_by_layout base lines) (no_first_fault (layout_fault base lines) (length lines) laid)
    ∙ ap (assembled_by_coding base (labels_of lines) lines) (no_first_fault (coding_fault (labels_of lines) lines) (length lines) coded)

-- a source without a fault
image_of : (source : List ℕ) → HasNoFault (layout_faults source) → HasNoFault (coding_faults source) → assembled source ≡ Image (source_base source) (entry_of (source_base source) (source_labels source)) (source_bytes source)
unfolding assembled
image_of source laid coded = image_of_lines (source_base source) (source_lines source) laid coded

-- the same, where an image has these parts
pub image_by_facts : (source : List ℕ) (base entry : ℕ) (bytes : List ℕ) → base ≡ source_base source → entry ≡ entry_of base (source_labels source) → bytes ≡ source_bytes source → IsFaultless source → assembled source ≡ Image base entry bytes
image_by_facts source base entry bytes based entered filled faultless =
    image_of source faultless.0 faultless.1
    ∙ ap (λ at. Image (source_base source) at (source_bytes source)) (sym (entered ∙ ap (λ at. entry_of at (source_labels source)) based))
    ∙ ap (λ at. Image at entry (source_bytes source)) (sym based)
    ∙ ap (Image base entry) (sym filled)

-- a source that is refused at this line for this reason
pub refused_by_facts : (source : List ℕ) (number : ℕ) (reason : AsmWhy) → IsRefusedAt source number reason → assembled source ≡ Bad number reason
refused_by_facts source number reason (inl is) = refused_by_layout source number reason is
refused_by_facts source number reason (inr is) = refused_by_coding source number reason is.0 is.1
