-- Which bits the registers can have: what MTC0 writes is among them, and so are those of each field.
use Rattle.std.proofs.Common.{◌≡◌, refl, sym, subst, inl, inr, ℕ, zero, suc, ◌^◌, Bool, true, false, List, [], ◌∷◌, Option, Some, length, arith}
use Rattle.std.specs.Prelude.{◌<◌, ◌≤◌, ◌≢◌, bit_and, ◌==◌, cond, slice_index, slice_set, replicate}
use Rattle.std.specs.List.{find, list_all}
use Rattle.std.proofs.lemmas.Bool.{and_parts, cases_Bool, eqb-true, eqb-false}
use Rattle.std.proofs.lemmas.List.{get_or-set_same, get_or-set_other}
use Rattle.cp0_regs.specs.Bits.{HasOnly}
use Rattle.cp0_regs.specs.declared.fields.Field.{Field}
use Rattle.cp0_regs.specs.Fields.{bits_of, timer_line, device_lines, exc_code, ce, bd, exl, erl, bad_vpn2, vpn2}
use Rattle.cp0_regs.proofs.Masking.{pair_only, word_only}
use Rattle.cp0_regs.specs.State.{IsFree}
use Rattle.cp0_regs.specs.Registers.{Register, registers, written_bits, written_in, possible_bits, possible_in}

-- MTC0 writes only bits that the register can have
abbrev writes_possible : Register → Bool
writes_possible register = bit_and register.written register.possible == register.written

in_found : (test : Register → Bool) (table : List Register) → list_all writes_possible table ≡ true
    → bit_and (written_in (find test table)) (possible_in (find test table)) ≡ written_in (find test table)
in_found test [] all = refl
in_found test (register ∷ rest) all =
    let parts = and_parts (writes_possible register) (list_all writes_possible rest) all in
    let found : Bool → Option Register = λ b. cond b (Some register) (find test rest) in
    let here : (b : Bool) → bit_and (written_in (found b)) (possible_in (found b)) ≡ written_in (found b) =
    λ b. elim b as (λ v. bit_and (written_in (found v)) (possible_in (found v)) ≡ written_in (found v))
    [ true ↦ eqb-true _ _ parts.0 | false ↦ in_found test rest parts.1 ] in
    here (test register)

pub written_possible : (number : ℕ) → HasOnly (written_bits number) (possible_bits number)
unfolding written_bits possible_bits
written_possible number = record { is = in_found (λ register. number == register.number) registers refl }

-- ---- the fields that are set one by one: their registers can have their bits, and are neither Random nor PageMask
abbrev free : (f : Field) → f.register < 32 → f.low ≤ f.high → f.high < 32 → bit_and (bits_of f) (possible_bits f.register) ≡ bits_of f
    → f.register ≢ 1 → f.register ≢ 5 → IsFree f
free f register order in_word possible not_random not_page_mask = record {
  is_field = record { register = register; order = order; in_word = in_word };
  possible = record { is = possible };
  not_random = not_random;
  not_page_mask = not_page_mask;
}

pub timer_line_is_free : IsFree timer_line
unfolding possible_bits
timer_line_is_free = free timer_line (omega arith) (omega arith) (omega arith) refl (λ same. omega arith) (λ same. omega arith)

pub device_lines_is_free : IsFree device_lines
unfolding possible_bits
device_lines_is_free = free device_lines (omega arith) (omega arith) (omega arith) refl (λ same. omega arith) (λ same. omega arith)

pub exc_code_is_free : IsFree exc_code
unfolding possible_bits
exc_code_is_free = free exc_code (omega arith) (omega arith) (omega arith) refl (λ same. omega arith) (λ same. omega arith)

pub ce_is_free : IsFree ce
unfolding possible_bits
ce_is_free = free ce (omega arith) (omega arith) (omega arith) refl (λ same. omega arith) (λ same. omega arith)

pub bd_is_free : IsFree bd
unfolding possible_bits
bd_is_free = free bd (omega arith) (omega arith) (omega arith) refl (λ same. omega arith) (λ same. omega arith)

pub exl_is_free : IsFree exl
unfolding possible_bits
exl_is_free = free exl (omega arith) (omega arith) (omega arith) refl (λ same. omega arith) (λ same. omega arith)

pub erl_is_free : IsFree erl
unfolding possible_bits
erl_is_free = free erl (omega arith) (omega arith) (omega arith) refl (λ same. omega arith) (λ same. omega arith)

-- the fields that the levels EXL and ERL are, and those that say that an exception was taken and why
pub ruleset free_levels = (exl_is_free, erl_is_free)

pub ruleset free_cause_and_level = (exc_code_is_free, exl_is_free)

pub bad_vpn2_is_free : IsFree bad_vpn2
unfolding possible_bits
bad_vpn2_is_free = free bad_vpn2 (omega arith) (omega arith) (omega arith) refl (λ same. omega arith) (λ same. omega arith)

pub vpn2_is_free : IsFree vpn2
unfolding possible_bits
vpn2_is_free = free vpn2 (omega arith) (omega arith) (omega arith) refl (λ same. omega arith) (λ same. omega arith)

-- ---- the registers at reset
abbrev pub AllPossible : List ℕ → Type 0
AllPossible cp0 = (number : ℕ) → HasOnly (slice_index cp0 number) (possible_bits number)

-- the index of a pair can stand in Random
pub pair_possible : (number : ℕ) → number ≤ 47 → HasOnly number (possible_bits 1)
unfolding possible_bits
pair_possible number small = pair_only number small

-- each word can stand in BadVAddr, Count, EPC and LLAddr
pub bad_vaddr_possible : (number : ℕ) → number < 2 ^ 32 → HasOnly number (possible_bits 8)
unfolding possible_bits
bad_vaddr_possible number small = word_only number small

pub count_possible : (number : ℕ) → number < 2 ^ 32 → HasOnly number (possible_bits 9)
unfolding possible_bits
count_possible number small = word_only number small

pub epc_possible : (number : ℕ) → number < 2 ^ 32 → HasOnly number (possible_bits 14)
unfolding possible_bits
epc_possible number small = word_only number small

pub ll_addr_possible : (number : ℕ) → number < 2 ^ 32 → HasOnly number (possible_bits 17)
unfolding possible_bits
ll_addr_possible number small = word_only number small

zero_possible : (possible : ℕ) → HasOnly 0 possible
zero_possible possible = record { is = refl }

none_set : (count : ℕ) (number : ℕ) → slice_index (replicate count 0) number ≡ 0
none_set zero number = refl
none_set (suc count) zero = refl
none_set (suc count) (suc number) = none_set count number

-- registers of which one was made a value that it can have
with_possible : (cp0 : List ℕ) (changed value : ℕ) → changed < length cp0 → AllPossible cp0 → HasOnly value (possible_bits changed) → AllPossible (slice_set cp0 changed value)
with_possible cp0 changed value inside all can number =
    elim (cases_Bool (number == changed)) [
      | inl same ↦ let is : number ≡ changed = eqb-true number changed same in
          subst (λ n. HasOnly (slice_index (slice_set cp0 changed value) n) (possible_bits n)) (sym is)
          (subst (λ n. HasOnly n (possible_bits changed)) (sym (get_or-set_same cp0 changed value 0 inside)) can)
      | inr other ↦ subst (λ n. HasOnly n (possible_bits number)) (sym (get_or-set_other cp0 changed number value 0 (eqb-false number changed other))) (all number)
    ]

pub reset_possible : (shape : ℕ) → shape < 2 ^ 32
    → AllPossible (slice_set (slice_set (slice_set (slice_set (replicate 32 0) 1 47) 12 0x00400004) 15 0x400) 16 shape)
unfolding possible_bits
reset_possible shape small =
    let blank : List ℕ = replicate 32 0 in
    let with_random : List ℕ = slice_set blank 1 47 in
    let with_status : List ℕ = slice_set with_random 12 0x00400004 in
    let with_prid : List ℕ = slice_set with_status 15 0x400 in
    let of_blank : AllPossible blank = λ number. subst (λ n. HasOnly n (possible_bits number)) (sym (none_set 32 number)) (zero_possible (possible_bits number)) in
    let of_random : AllPossible with_random = with_possible blank 1 47 (omega arith) of_blank (record { is = refl }) in
    let of_status : AllPossible with_status = with_possible with_random 12 0x00400004 (omega arith) of_random (record { is = refl }) in
    let of_prid : AllPossible with_prid = with_possible with_status 15 0x400 (omega arith) of_status (record { is = refl }) in
    with_possible with_prid 16 shape (omega arith) of_prid (word_only shape small)
