-- An arena in which nobody holds a slot, and the bytes of a line after some were replaced.
use Rattle.std.proofs.Common.{◌≡◌, ℕ, ◌+◌, ◌-◌, ◌<◌, ◌≤◌, ◌^◌, Bool, false, List, [], ◌++◌, length, get_or, map, take, drop, replicate, Option, Some, None, sym, ap, ◌∙◌, inl, inr, arith}
use Rattle.std.proofs.lemmas.Bool.{cases_lt}
use Rattle.std.proofs.Math.Seq.{take-append-add}
use Rattle.std.proofs.lemmas.Grind.{same_number_lists}
use Rattle.std.proofs.lemmas.List.{drop-take, get_or-map, get_or-replicate, get_or-take, get_or_past, length-map, length-replicate, length-take-le, same_lists, take-take}
use Rattle.std.proofs.lemmas.Option.{none-some}
use Rattle.slab.specs.Slab.{Slab}
use Rattle.line_arena.specs.Holding.{IsOwned, is_slot, nobody}
use Rattle.line_arena.specs.Parts.{Parts, IsKept, bytes_in}
use Rattle.line_arena.proofs.Lists.{count_none}
use Rattle.line_arena.proofs.Owners.{differ}
use Rattle.line_arena.proofs.Views.{made_of, same_holding}

-- one value at each place
all_same : {X : Type 0} (n k : ℕ) (x : X) → get_or (replicate n x) k x ≡ x
all_same n k x = elim (cases_lt k n) [
  | inl lt ↦ get_or-replicate n k x x lt
  | inr past ↦ get_or_past (replicate n x) k x (rw (length-replicate n x) past)
]

mapped : {X Y : Type 0} (f : X → Y) (n : ℕ) (x : X) → map f (replicate n x) ≡ replicate n (f x)
mapped f n x =
    let long : length (map f (replicate n x)) ≡ n = length-map (replicate n x) f ∙ length-replicate n x in
    same_lists _ _ (long ∙ sym (length-replicate n (f x))) (λ k d lt.
    let below : k < n = omega (arith, long) in
    get_or-map f (replicate n x) k x d (rw (length-replicate n x) below) ∙ ap f (get_or-replicate n k x x below) ∙ sym (get_or-replicate n k (f x) d below))

abbrev fresh : ℕ → ℕ → Slab (List ℕ) → Parts
fresh line holders store = record { line = line; store = store; held = replicate holders None; counts = replicate store.capacity 0; owns = replicate holders false }

-- In an arena without slots nobody has one.
pub nobody_is : (line holders : ℕ) (store : Slab (List ℕ)) (held : List (Option ℕ)) (owns : List Bool) → held ≡ replicate holders None → owns ≡ replicate holders false → made_of line held (map (bytes_in line store) held) owns ≡ nobody line holders
nobody_is line holders store held owns e f = same_holding line _ _ _ _ _ _ e (ap (λ (xs : List (Option ℕ)). map (bytes_in line store) xs) e ∙ mapped (bytes_in line store) holders None) f

nobody_owned : (holders : ℕ) → IsOwned (replicate holders None) (replicate holders false)
nobody_owned holders = record {
  length_is = length-replicate {A = Bool} holders false ∙ sym (length-replicate {A = Option ℕ} holders None);
  owned = λ k slot e. absurd (none-some slot (sym (all_same holders k None) ∙ e));
  one = λ k j slot e _ _ _. absurd (none-some slot (sym (all_same holders k None) ∙ e));
  holds = λ k o. absurd (differ (sym (all_same holders k false) ∙ o));
}

pub kept_new : (line holders : ℕ) (store : Slab (List ℕ)) → line ≤ 32 → holders < 2 ^ 32 → store.slots ≡ [] → holders ≤ store.capacity → IsKept (fresh line holders store)
kept_new line holders store short few empty room = record {
  line_is = short;
  few = rw (length-replicate {A = Option ℕ} holders None) few;
  owners = nobody_owned holders;
  room = rw (length-replicate {A = Option ℕ} holders None) room;
  in_use = rw empty (sym (count_none (λ own. own) (replicate holders false) false (λ k _. all_same holders k false)));
  within = λ k slot e. absurd (none-some slot (sym (all_same holders k None) ∙ e));
  stored = λ k slot e. absurd (none-some slot (sym (all_same holders k None) ∙ e));
  sized = λ slot bytes e. absurd (none-some bytes (rw empty at e));
  counts_length = length-replicate {A = ℕ} store.capacity 0;
  counted = λ slot below.
      all_same {X = ℕ} store.capacity slot 0
      ∙ sym (count_none (is_slot (Some slot)) (replicate holders None) None (λ k _. ap (is_slot (Some slot)) (all_same holders k None)));
}

-- The longest line's first zeros are a line's.
pub zeros : (line : ℕ) → line ≤ 32 → take {A = ℕ} line (replicate 32 0) ≡ replicate line 0
zeros line short =
    let all : List ℕ = replicate {A = ℕ} 32 0 in
    let long : length (take line all) ≡ line = length-take-le line all (rw (length-replicate {A = ℕ} 32 0) short) in
    same_number_lists _ _ (long ∙ sym (length-replicate {A = ℕ} line 0)) (λ k lt.
    let below : k < line = omega (arith, long) in
    get_or-take line all k 0 below ∙ all_same {X = ℕ} 32 k 0 ∙ sym (all_same {X = ℕ} line k 0))

-- Bytes that are replaced in a line are replaced in the line's slot.
pub put_in_line : (all bytes : List ℕ) (at line : ℕ) → line ≤ length all → at + length bytes ≤ line → take line (take at all ++ (bytes ++ drop (at + length bytes) all)) ≡ take at (take line all) ++ (bytes ++ drop (at + length bytes) (take line all))
put_in_line all bytes at line short fits =
    let front : List ℕ = take at all in
    let end : ℕ = at + length bytes in
    let more : ℕ = line - (at + length bytes) in
    let long : length front ≡ at = length-take-le at all (omega arith) in
    let whole : line ≡ length front + (length bytes + more) = omega (arith, long) in
    let last : end + more ≡ line = omega arith in
    ap (λ (n : ℕ). take n (front ++ (bytes ++ drop end all))) whole
    ∙ take-append-add front (bytes ++ drop end all) (length bytes + more)
    ∙ ap (λ (r : List ℕ). front ++ r) (take-append-add bytes (drop end all) more ∙ ap (λ (r : List ℕ). bytes ++ r) (sym (drop-take end more all) ∙ ap (λ (n : ℕ). drop end (take n all)) last))
    ∙ ap (λ (a : List ℕ). a ++ (bytes ++ drop end (take line all))) (sym (take-take at line all (omega arith)))
