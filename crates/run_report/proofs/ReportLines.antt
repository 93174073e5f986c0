-- The lines of the report, one after another.
use Rattle.std.proofs.Common.{◌≡◌, ℕ, zero, suc, ◌+◌, ◌*◌, List, [], ◌∷◌, ◌++◌, take, drop, refl, ap, ◌∙◌, arith, add-one, append-nil}
use Rattle.std.proofs.lemmas.List.Concat.{flat_map-append}
use Rattle.std.specs.List.{flat_map, range_with_len}
use Rattle.mips3_alu.specs.declared.registers.Regs.{Regs}
use Rattle.tlb_model.specs.declared.pairs.Pair.{Pair}
use Rattle.tlb_model.specs.Pairs.{pair_at}
use Rattle.run_report.specs.Report.{register_lines, register_line, system_lines, system_line, pair_lines, pair_line, bytes_lines, bytes_line}

-- one number more
range_more : (a n : ℕ) → range_with_len a (suc n) ≡ range_with_len a n ++ (a + n) ∷ []
range_more a zero = ap (λ k. k ∷ []) (omega arith)
range_more a (suc n) = ap (λ (rest : List ℕ). a ∷ rest) (range_more (a + 1) n ∙ ap (λ k. range_with_len (a + 1) n ++ k ∷ []) (omega arith))

-- one line more
lines_more : (line : ℕ → List ℕ) (n : ℕ) → flat_map line (range_with_len 0 (n + 1)) ≡ flat_map line (range_with_len 0 n) ++ line n
lines_more line n =
    let last_is : 0 + n ≡ n = omega arith in
    ap (λ k. flat_map line (range_with_len 0 k)) (add-one n)
    ∙ ap (flat_map line) (range_more 0 n ∙ ap (λ k. range_with_len 0 n ++ k ∷ []) last_is) ∙ flat_map-append line (range_with_len 0 n) (n ∷ [])
    ∙ ap (λ last. flat_map line (range_with_len 0 n) ++ last) (append-nil (line n))

pub register_lines_none : (regs : Regs) → register_lines regs 0 ≡ []
unfolding register_lines
register_lines_none regs = refl

pub register_lines_more : (regs : Regs) (n : ℕ) → register_lines regs (n + 1) ≡ register_lines regs n ++ register_line regs (4 * n)
unfolding register_lines
register_lines_more regs n = lines_more (λ line. register_line regs (4 * line)) n

pub bytes_lines_none : (bytes : List ℕ) → bytes_lines bytes 0 ≡ []
unfolding bytes_lines
bytes_lines_none bytes = refl

pub bytes_lines_more : (bytes : List ℕ) (n : ℕ) → bytes_lines bytes (n + 1) ≡ bytes_lines bytes n ++ bytes_line (take 32 (drop (32 * n) bytes))
unfolding bytes_lines
bytes_lines_more bytes n = lines_more (λ line. bytes_line (take 32 (drop (32 * line) bytes))) n

pub system_lines_none : (cp0 : List ℕ) → system_lines cp0 0 ≡ []
unfolding system_lines
system_lines_none cp0 = refl

pub system_lines_more : (cp0 : List ℕ) (n : ℕ) → system_lines cp0 (n + 1) ≡ system_lines cp0 n ++ system_line cp0 (4 * n)
unfolding system_lines
system_lines_more cp0 n = lines_more (λ line. system_line cp0 (4 * line)) n

pub pair_lines_none : (pairs : List Pair) → pair_lines pairs 0 ≡ []
unfolding pair_lines
pair_lines_none pairs = refl

pub pair_lines_more : (pairs : List Pair) (n : ℕ) → pair_lines pairs (n + 1) ≡ pair_lines pairs n ++ pair_line n (pair_at pairs n)
unfolding pair_lines
pair_lines_more pairs n = lines_more (λ at. pair_line at (pair_at pairs at)) n
