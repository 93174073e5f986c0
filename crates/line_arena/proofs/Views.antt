-- What stands with each holder, after each change of the parts.
use Rattle.std.proofs.Common.{◌≡◌, ◌≢◌, ◌⊎◌, ◌==◌, ℕ, ◌<◌, ◌≤◌, Bool, true, false, not, List, length, get_or, set, map, take, Option, Some, None, is_some, IsSome, position, refl, sym, ap, ◌∙◌, inl, inr, arith, get_or-set_same, get_or-set_other}
use Rattle.std.specs.List.{list_any}
use Rattle.std.specs.Option.{option_map}
use Rattle.std.proofs.Math.ListN.{get_or-map}
use Rattle.std.proofs.lemmas.Bool.{cases_Bool, cases_eq, eq-eqb, eqb-true}
use Rattle.std.proofs.lemmas.List.{length-take-le, set-set, set-get_or}
use Rattle.std.proofs.lemmas.Option.{none-some, same_Some}
use Rattle.slab.specs.Slab.{Slab, get, Updates}
use Rattle.line_arena.specs.Holding.{Holding, IsFree, IsHolding, bytes_of, heir, is_shared, is_slot, left, lent, others, passed, slot_of, with_slot}
use Rattle.line_arena.specs.Parts.{Parts, IsKept, bytes_in, holding}
use Rattle.line_arena.proofs.Lists.{any_cases, count_loss, count_none, count_some, first_cases, map_set, set_cases}
use Rattle.line_arena.proofs.Owners.{is_holder}
use Rattle.line_arena.proofs.Kept.{alone, alone_owns, count_read, is_free, is_it, is_other, slot_is}

abbrev at : List (Option ℕ) → ℕ → Option ℕ
at held k = get_or held k None

-- a holder reads its slot's bytes
pub reads : (line : ℕ) (store : Slab (List ℕ)) (held : List (Option ℕ)) (k : ℕ) → get_or (map (bytes_in line store) held) k None ≡ bytes_in line store (at held k)
reads line store held k = get_or-map (bytes_in line store) held k None

pub reads_in : (line : ℕ) (store : Slab (List ℕ)) (held : List (Option ℕ)) (k slot : ℕ) (bytes : List ℕ) → at held k ≡ Some slot → get store slot ≡ Some bytes → get_or (map (bytes_in line store) held) k None ≡ Some (take line bytes)
reads_in line store held k slot bytes has there = reads line store held k ∙ ap (bytes_in line store) has ∙ ap (option_map (λ all. take line all)) there

same_bytes : (line : ℕ) (old new : Slab (List ℕ)) (o : Option ℕ) → ((slot : ℕ) → o ≡ Some slot → get new slot ≡ get old slot) → bytes_in line new o ≡ bytes_in line old o
same_bytes line old new None same = refl
same_bytes line old new (Some slot) same = ap (option_map (λ all. take line all)) (same slot refl)

-- The bytes where one holder's slot was replaced, and no other holder's slot has other bytes.
pub bytes_set : (line : ℕ) (old new : Slab (List ℕ)) (held : List (Option ℕ)) (h : ℕ) (o : Option ℕ) (bytes : Option (List ℕ)) → ((k slot : ℕ) → k ≢ h → at held k ≡ Some slot → get new slot ≡ get old slot) → bytes_in line new o ≡ bytes → map (bytes_in line new) (set held h o) ≡ set (map (bytes_in line old) held) h bytes
bytes_set line old new held h o bytes same is =
    map_set (bytes_in line old) (bytes_in line new) held h o None (λ k ne lt. same_bytes line old new (at held k) (λ slot e. same k slot ne e))
    ∙ ap (λ (b : Option (List ℕ)). set (map (bytes_in line old) held) h b) is

some_bytes : (line : ℕ) (o : Option (List ℕ)) → is_some (option_map (λ bytes. take line bytes) o) ≡ is_some o
some_bytes line None = refl
some_bytes line (Some bytes) = refl

long_bytes : (line : ℕ) (o : Option (List ℕ)) (bytes : List ℕ) → line ≤ 32 → ((all : List ℕ) → o ≡ Some all → length all ≡ 32) → option_map (λ all. take line all) o ≡ Some bytes → length bytes ≡ line
long_bytes line None bytes short long e = absurd (none-some bytes e)
long_bytes line (Some all) bytes short long e =
    let is = long all refl in
    ap length (sym (same_Some (take line all) bytes e)) ∙ length-take-le line all (omega arith)

-- What the arena keeps tells what is so of all holders.
pub is_holding : (p : Parts) → IsKept p → IsHolding (holding p)
is_holding p is = record {
  held = λ k. ap is_some (reads p.line p.store p.held k) ∙ held_in (at p.held k) (λ slot e. is.stored k slot e);
  whole = λ k bytes e. whole_in (at p.held k) bytes (sym (reads p.line p.store p.held k) ∙ e);
  alike = λ k j e. reads p.line p.store p.held k ∙ ap (bytes_in p.line p.store) e ∙ sym (reads p.line p.store p.held j);
  owners = is.owners;
}
  where
    held_in : (o : Option ℕ) → ((slot : ℕ) → o ≡ Some slot → IsSome (get p.store slot)) → is_some (bytes_in p.line p.store o) ≡ is_some o
    held_in None there = refl
    held_in (Some slot) there = some_bytes p.line (get p.store slot) ∙ there slot refl

    whole_in : (o : Option ℕ) (bytes : List ℕ) → bytes_in p.line p.store o ≡ Some bytes → length bytes ≡ p.line
    whole_in None bytes e = absurd (none-some bytes e)
    whole_in (Some slot) bytes e = long_bytes p.line (get p.store slot) bytes is.line_is (λ all f. is.sized slot all f) e

-- A slot is shared where its holders are more than one.
pub shared_is : (p : Parts) (h s : ℕ) → IsKept p → at p.held h ≡ Some s → ((get_or p.counts s 0 ≡ 1) × (is_shared (holding p) h ≡ false)) ⊎ ((get_or p.counts s 0 ≢ 1) × (is_shared (holding p) h ≡ true))
shared_is p h s is has =
    let lt = is_holder p.held h s has in
    let fewer = count_loss (is_slot (Some s)) p.held h None None lt (rw has (is_it s)) refl in
    let counted = is.counted s (is.within h s has) in
    elim (any_cases (is_slot (Some s)) (set p.held h None)) [
      | inl some ↦ inr (λ e. omega (arith, e, counted, fewer, some.1), ap (λ (o : Option ℕ). list_any (is_slot o) (set p.held h None)) has ∙ some.0)
      | inr none ↦ inl (omega (arith, counted, fewer, none.1), ap (λ (o : Option ℕ). list_any (is_slot o) (set p.held h None)) has ∙ none.0)
    ]

-- where a slot is not shared, no other holder has it
pub alone_if : (p : Parts) (h s : ℕ) → IsKept p → at p.held h ≡ Some s → is_shared (holding p) h ≡ false → get_or p.counts s 0 ≡ 1
alone_if p h s is has apart = elim (shared_is p h s is has) [
  | inl one ↦ one.0
  | inr more ↦ absurd (differ (sym apart ∙ more.1))
]
  where
    differ : false ≡ true → ⊥
    differ e = cc

-- The heir has the slot still, and there is one where another holder has it.
pub heir_is : (p : Parts) (h s : ℕ) → IsKept p → at p.held h ≡ Some s → get_or p.counts s 0 ≢ 1 → (next : ℕ) × (position (is_slot (Some s)) (set p.held h None) ≡ Some next) × (next ≢ h) × (at p.held next ≡ Some s)
heir_is p h s is has more =
    let lt = is_holder p.held h s has in
    let fewer = count_loss (is_slot (Some s)) p.held h None None lt (rw has (is_it s)) refl in
    elim (first_cases (is_slot (Some s)) (set p.held h None) None) [
      | inl none ↦ absurd (more (omega (arith, is.counted s (is.within h s has), fewer, none.1)))
      | inr found ↦
          let there : at (set p.held h None) found.0 ≡ Some s = slot_is s (at (set p.held h None) found.0) found.3 in
          elim (set_cases p.held h found.0 None None lt) [
            | inl here ↦ absurd (none-some s (sym here.1 ∙ there))
            | inr other ↦ (found.0, found.1, other.0, sym other.1 ∙ there)
          ]
    ]

pub heir_found : (p : Parts) (h s next : ℕ) → IsKept p → h < length p.held → Some next ≡ position (is_slot (Some s)) (set p.held h None) → (next ≢ h) × (at p.held next ≡ Some s)
heir_found p h s next is lt e = elim (first_cases (is_slot (Some s)) (set p.held h None) None) [
  | inl none ↦ absurd (none-some next (sym none.0 ∙ sym e))
  | inr found ↦
      let there : at (set p.held h None) found.0 ≡ Some s = slot_is s (at (set p.held h None) found.0) found.3 in
      let same : found.0 ≡ next = same_Some found.0 next (sym found.1 ∙ sym e) in
      elim (set_cases p.held h found.0 None None lt) [
        | inl here ↦ absurd (none-some s (sym here.1 ∙ there))
        | inr other ↦ ((λ q. other.0 (same ∙ q)), ap (at p.held) (sym same) ∙ sym other.1 ∙ there)
      ]
]

-- where no other holder has the slot, there is no heir
pub no_heir : (p : Parts) (h s : ℕ) → IsKept p → at p.held h ≡ Some s → get_or p.counts s 0 ≡ 1 → position (is_slot (Some s)) (set p.held h None) ≡ None
no_heir p h s is has one =
    let lt = is_holder p.held h s has in
    let fewer = count_loss (is_slot (Some s)) p.held h None None lt (rw has (is_it s)) refl in
    elim (first_cases (is_slot (Some s)) (set p.held h None) None) [
      | inl none ↦ none.0
      | inr found ↦
          let some = count_some (is_slot (Some s)) (set p.held h None) found.0 None found.2 found.3 in
          absurd (omega (arith, is.counted s (is.within h s has), fewer, some, one))
    ]

-- The same facts make the same arena.
abbrev pub made_of : ℕ → List (Option ℕ) → List (Option (List ℕ)) → List Bool → Holding
made_of line slots bytes owns = record { line = line; slots = slots; bytes = bytes; owns = owns }

pub same_holding : (line : ℕ) (s t : List (Option ℕ)) (b d : List (Option (List ℕ))) (o q : List Bool) → s ≡ t → b ≡ d → o ≡ q → made_of line s b o ≡ made_of line t d q
same_holding line s t b d o q e f g = ap (λ (x : List (Option ℕ)). made_of line x b o) e ∙ ap (λ (x : List (Option (List ℕ))). made_of line t x o) f ∙ ap (λ (x : List Bool). made_of line t d x) g

pub shared_test : (p : Parts) (h s n : ℕ) → IsKept p → at p.held h ≡ Some s → n ≡ get_or p.counts s n → not (n == 1) ≡ is_shared (holding p) h
shared_test p h s n is has read =
    let value = count_read p h s n is has read in
    elim (shared_is p h s is has) [
      | inl one ↦ ap not (eq-eqb n 1 (value.0 ∙ one.0)) ∙ sym one.1
      | inr more ↦ elim (cases_Bool (n == 1)) [
        | inl single ↦ absurd (more.0 (sym value.0 ∙ eqb-true n 1 single))
        | inr several ↦ ap not several ∙ sym more.1
      ]
    ]

-- A holder takes a free slot.
pub taken_view : (p : Parts) (h s : ℕ) (bytes : List ℕ) (store : Slab (List ℕ)) → IsKept p → get p.store s ≡ None → Updates p.store store s (Some bytes) → holding (record p { store = store; held = set p.held h (Some s); owns = set p.owns h true }) ≡ with_slot h s (Some (take p.line bytes)) (holding p)
taken_view p h s bytes store is vacant updates =
    same_holding p.line _ _ _ _ _ _ refl
    (bytes_set p.line p.store store p.held h (Some s) (Some (take p.line bytes)) (λ k slot ne e. updates.others slot (λ q. is_free p s is vacant k (e ∙ ap Some q))) (ap (option_map (λ all. take p.line all)) updates.changed))
    refl

-- A holder gets the slot of another.
pub lent_view : (p : Parts) (from h s : ℕ) → IsKept p → at p.held from ≡ Some s → holding (record p { held = set p.held h (Some s) }) ≡ lent from h (holding p)
lent_view p from h s is has =
    same_holding p.line _ _ _ _ _ _ (ap (λ (o : Option ℕ). set p.held h o) (sym has))
    (bytes_set p.line p.store p.store p.held h (Some s) (get_or (map (bytes_in p.line p.store) p.held) from None) (λ k slot ne e. refl) (sym (reads p.line p.store p.held from ∙ ap (bytes_in p.line p.store) has)))
    refl

-- A holder leaves its slot, and its heir owns it.
left_view : (p : Parts) (h : ℕ) (store : Slab (List ℕ)) (owns : List Bool) (to : Option ℕ) → heir (holding p) h ≡ to → owns ≡ passed to (set p.owns h false) → ((k slot : ℕ) → k ≢ h → at p.held k ≡ Some slot → get store slot ≡ get p.store slot) → holding (record p { store = store; held = set p.held h None; owns = owns }) ≡ left h (holding p)
left_view p h store owns to is owners stays =
    same_holding p.line _ _ _ _ _ _ refl
    (bytes_set p.line p.store store p.held h None None stays refl)
    (owners ∙ ap (λ (o : Option ℕ). passed o (set p.owns h false)) (sym is))

pub given_view : (p : Parts) (h s : ℕ) (store : Slab (List ℕ)) → IsKept p → at p.held h ≡ Some s → get_or p.counts s 0 ≡ 1 → Updates p.store store s None → holding (record p { store = store; held = set p.held h None; owns = set p.owns h false }) ≡ left h (holding p)
given_view p h s store is has one updates =
    let none : heir (holding p) h ≡ None = rw (alone_owns p h s is has one, has) (no_heir p h s is has one) in
    left_view p h store (set p.owns h false) None none refl (λ k slot ne e. updates.others slot (λ q. alone p h s is has one k ne (e ∙ ap Some q)))

pub borrower_view : (p : Parts) (h : ℕ) → IsKept p → get_or p.owns h false ≡ false → holding (record p { held = set p.held h None; owns = set p.owns h false }) ≡ left h (holding p)
borrower_view p h is unowned =
    let none : heir (holding p) h ≡ None = rw unowned refl in
    left_view p h p.store (set p.owns h false) None none refl (λ k slot ne e. refl)

pub passed_view : (p : Parts) (h s to : ℕ) → IsKept p → at p.held h ≡ Some s → get_or p.owns h false ≡ true → position (is_slot (Some s)) (set p.held h None) ≡ Some to → holding (record p { held = set p.held h None; owns = set (set p.owns h false) to true }) ≡ left h (holding p)
passed_view p h s to is has owner found =
    let some : heir (holding p) h ≡ Some to = rw (owner, has) found in
    left_view p h p.store (set (set p.owns h false) to true) (Some to) some refl (λ k slot ne e. refl)

-- A slot that is free once a holder left its shared one was free before.
pub free_before : (a : Holding) (h slot : ℕ) → h < length a.slots → is_shared a h ≡ true → IsFree (left h a) slot → IsFree a slot
free_before a h slot lt shared free = λ k e. elim (cases_eq k h) [
  | inl q ↦
      let has : slot_of a h ≡ Some slot = ap (slot_of a) (sym q) ∙ e in
      let any : list_any (is_slot (Some slot)) (others a h) ≡ true = ap (λ (o : Option ℕ). list_any (is_slot o) (others a h)) (sym has) ∙ shared in
      elim (first_cases (is_slot (Some slot)) (others a h) None) [
        | inl none ↦ elim (any_cases (is_slot (Some slot)) (others a h)) [
          | inl some ↦ omega (arith, some.1, none.1)
          | inr never ↦ differ (sym never.0 ∙ any)
        ]
        | inr found ↦ free found.0 (slot_is slot (at (others a h) found.0) found.3)
      ]
  | inr ne ↦ free k (get_or-set_other a.slots h k None None ne ∙ e)
]
  where
    differ : false ≡ true → ⊥
    differ e = cc

-- A holder that has a slot which was free shares it with no other.
pub own_alone : (a : Holding) (h slot : ℕ) (bytes : Option (List ℕ)) → h < length a.slots → IsFree a slot → is_shared (with_slot h slot bytes a) h ≡ false
own_alone a h slot bytes lt free =
    let mine : at (set a.slots h (Some slot)) h ≡ Some slot = get_or-set_same a.slots h (Some slot) None lt in
    let none = count_none (is_slot (Some slot)) (set a.slots h None) None (λ k _. is_other slot (at (set a.slots h None) k) (λ e. elim (set_cases a.slots h k None None lt) [
      | inl here ↦ none-some slot (sym here.1 ∙ e)
      | inr other ↦ free k (sym other.1 ∙ e)
    ])) in
    elim (any_cases (is_slot (Some slot)) (set a.slots h None)) [
      | inl some ↦ absurd (omega (arith, none, some.1))
      | inr never ↦
          ap (λ (o : Option ℕ). list_any (is_slot o) (set (set a.slots h (Some slot)) h None)) mine
          ∙ ap (λ (xs : List (Option ℕ)). list_any (is_slot (Some slot)) xs) (set-set a.slots h (Some slot) None)
          ∙ never.0
    ]

-- A holder leaves its slot, and has another with the same bytes.
pub split_is : (a b new : Holding) (h slot : ℕ) (bytes : List ℕ) → b ≡ left h a → bytes_of a h ≡ Some (take a.line bytes) → new ≡ with_slot h slot (Some (take b.line bytes)) b → new ≡ with_slot h slot (bytes_of a h) (left h a)
split_is a b new h slot bytes is read made =
    made
    ∙ ap (λ (b : Holding). with_slot h slot (Some (take b.line bytes)) b) is
    ∙ ap (λ (o : Option (List ℕ)). with_slot h slot o (left h a)) (sym read)

-- A holder that left its slot and has another with the bytes that it read before: all read as before.
pub bytes_back : (a : Holding) (h slot : ℕ) → (with_slot h slot (bytes_of a h) (left h a)).bytes ≡ a.bytes
bytes_back a h slot = set-set a.bytes h None (bytes_of a h) ∙ set-get_or a.bytes h None
