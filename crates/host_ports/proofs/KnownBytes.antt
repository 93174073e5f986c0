-- What several reads consumed and several writes appended, of bytes that are known.
use Rattle.std.proofs.Common.{◌≡◌, ◌≤◌, ℕ, List, [], ◌++◌, length, take, drop, ◌+◌, ◌-◌, subst, length-drop, Option, Some, None, IfSome, refl, sym, ap, ◌∙◌, append_assoc, append-nil, arith}
use Rattle.std.specs.Io.KnownBytes.{Appends, Consumes, Keeps, IsAtEnd}
use Rattle.std.proofs.lemmas.List.{take_all}
use Rattle.std.proofs.Math.Seq.{take-add, take-append_seam}

-- bytes, and then more, were consumed
pub consumes_then : (a b c : Option (List ℕ)) (x y : List ℕ) → Consumes a b x → Consumes b c y → Consumes a c (x ++ y)
consumes_then None b c x y p q = tt
consumes_then (Some a) None c x y p q = absurd p
consumes_then (Some a) (Some b) None x y p q = absurd q
consumes_then (Some a) (Some b) (Some c) x y p q = p ∙ ap (λ s. x ++ s) q ∙ sym (append_assoc x y c)

-- nothing was consumed
pub consumes_nothing : (a : Option (List ℕ)) → Consumes a a []
consumes_nothing None = tt
consumes_nothing (Some a) = refl

-- bytes, and then more, were appended
pub appends_then : (a b c : Option (List ℕ)) (x y : List ℕ) → Appends a b x → Appends b c y → Appends a c (x ++ y)
appends_then None b c x y p q = tt
appends_then (Some a) None c x y p q = absurd p
appends_then (Some a) (Some b) None x y p q = absurd q
appends_then (Some a) (Some b) (Some c) x y p q = q ∙ ap (λ s. s ++ y) p ∙ append_assoc a x y

-- nothing was appended
pub appends_nothing : (a : Option (List ℕ)) → Appends a a []
appends_nothing None = tt
appends_nothing (Some a) = sym (append-nil a)

-- as many as were asked for are the first ones
pub first_ones : (a b : Option (List ℕ)) (x : List ℕ) (cap : ℕ) → Consumes a b x → length x ≡ cap → IfSome a (λ left. x ≡ take cap left)
first_ones None b x cap p all = tt
first_ones (Some a) None x cap p all = absurd p
first_ones (Some a) (Some b) x cap p all = sym (ap (take cap) p ∙ ap (λ n. take n (x ++ b)) (sym all) ∙ take-append_seam x b)

-- and where no more is left, fewer are all
pub all_of_them : (a b : Option (List ℕ)) (x : List ℕ) (cap : ℕ) → Consumes a b x → IsAtEnd b → length x ≤ cap → IfSome a (λ left. x ≡ take cap left)
all_of_them None b x cap p end few = tt
all_of_them (Some a) None x cap p end few = absurd p
all_of_them (Some a) (Some b) x cap p end few = sym (ap (take cap) (p ∙ ap (λ s. x ++ s) end ∙ append-nil x) ∙ take_all cap x few)

-- the bytes behind a place, of which so many more were appended
pub appended_more : (a b c : Option (List ℕ)) (bytes : List ℕ) (at count : ℕ) → at ≤ length bytes → count ≤ length (take (length bytes - at) (drop at bytes)) →
    Appends a b (take at bytes) → Appends b c (take count (take (length bytes - at) (drop at bytes))) → (at + count ≤ length bytes) × Appends a c (take (at + count) bytes)
appended_more a b c bytes at count within bound before more =
    let left : length (drop at bytes) ≡ length bytes - at = length-drop at bytes in
    let behind : take (length bytes - at) (drop at bytes) ≡ drop at bytes = take_all (length bytes - at) (drop at bytes) (omega (arith, left)) in
    let fits : count ≤ length (drop at bytes) = subst (λ s. count ≤ length s) behind bound in
    let taken : Appends b c (take count (drop at bytes)) = subst (λ s. Appends b c (take count s)) behind more in
    (omega (arith, left, fits), subst (Appends a c) (sym (take-add at count bytes)) (appends_then a b c (take at bytes) (take count (drop at bytes)) before taken))

-- bytes that were appended, and then kept, are a first part of themselves
pub appended_kept : (a b c : Option (List ℕ)) (x : List ℕ) → Appends a b x → Keeps b c → (count : ℕ) × Appends a c (take count x)
appended_kept None b c x p q = (0, tt)
appended_kept (Some a) None c x p q = absurd p
appended_kept (Some a) (Some b) None x p q = absurd q
appended_kept (Some a) (Some b) (Some c) x p q = (length x, q ∙ p ∙ ap (λ s. a ++ s) (sym (take_all (length x) x (omega arith))))
