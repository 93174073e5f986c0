-- A list of who holds a slot, beside the slots of the holders.
use Rattle.std.proofs.Common.{◌≡◌, ◌<◌, ℕ, Bool, true, false, List, length, get_or, set, map, replicate, Option, Some, None, is_some, refl, sym, ap, ◌∙◌, inl, inr, arith}
use Rattle.std.proofs.Math.ListN.{get_or-map}
use Rattle.std.proofs.lemmas.List.{get_or-map as get_or-map_within, get_or-replicate, length-map, length-replicate, map-set, same_lists, set-get_or, set-set}
use Rattle.std.proofs.lemmas.Bool.{cases_Bool}
use Rattle.line_arena.specs.Holding.{Holding, IsFree, bytes_of, is_shared, left, slot_of, with_slot}

-- a holder's slot is another one, or none
pub mark_set : (slots : List (Option ℕ)) (holds : List Bool) (h : ℕ) (o : Option ℕ) (b : Bool) → holds ≡ map is_some slots → is_some o ≡ b → set holds h b ≡ map is_some (set slots h o)
mark_set slots holds h o b same is =
    ap (λ (xs : List Bool). set xs h b) same ∙ ap (λ (c : Bool). set (map is_some slots) h c) (sym is) ∙ sym (map-set is_some slots h o)

-- a holder that has a slot gets another
pub mark_stays : (slots : List (Option ℕ)) (holds : List Bool) (h s : ℕ) → holds ≡ map is_some slots → is_some (get_or slots h None) ≡ true → holds ≡ map is_some (set (set slots h None) h (Some s))
mark_stays slots holds h s same has =
    same
    ∙ sym (set-get_or (map is_some slots) h false)
    ∙ ap (λ (c : Bool). set (map is_some slots) h c) (get_or-map is_some slots h None ∙ has)
    ∙ sym (map-set is_some slots h (Some s))
    ∙ ap (map is_some) (sym (set-set slots h None (Some s)))

-- who holds a slot after a split: whoever did before
pub split_marks : (a new : Holding) (holds : List Bool) (h : ℕ) → (is_shared a h ≡ false → new ≡ a) → (is_shared a h ≡ true → (slot : ℕ) × IsFree a slot × (new ≡ with_slot h slot (bytes_of a h) (left h a))) → holds ≡ map is_some a.slots → is_some (slot_of a h) ≡ true → (holds ≡ map is_some new.slots) × (new.line ≡ a.line)
split_marks a new holds h alone shared same has = elim (cases_Bool (is_shared a h)) [
  | inl several ↦
      let made = shared several in
      (mark_stays a.slots holds h made.0 same has ∙ ap (λ (n : Holding). map is_some n.slots) (sym made.2), ap (λ (n : Holding). n.line) made.2)
  | inr single ↦ (same ∙ ap (λ (n : Holding). map is_some n.slots) (sym (alone single)), ap (λ (n : Holding). n.line) (alone single))
]

-- nobody holds a slot
pub none_marked : (holders : ℕ) → replicate holders false ≡ map is_some (replicate {A = Option ℕ} holders None)
none_marked holders =
    let none : List (Option ℕ) = replicate holders None in
    let long : length none ≡ holders = length-replicate {A = Option ℕ} holders None in
    let few : length (replicate holders false) ≡ holders = length-replicate {A = Bool} holders false in
    same_lists _ _ (few ∙ sym (length-map none is_some ∙ long)) (λ k d lt.
    let below : k < holders = omega (arith, few) in
    get_or-replicate holders k false d below
    ∙ ap is_some (sym (get_or-replicate {A = Option ℕ} holders k None None below))
    ∙ sym (get_or-map_within is_some none k None d (omega (arith, long))))
