-- A length or a size that is none of the first three has the last number.
use Rattle.std.proofs.Common.{◌≡◌, ◌≢◌, ℕ, inl, inr}
use Rattle.secondary_cache.specs.Tags.{IsGeometry}

pub longest : (group size : ℕ) → IsGeometry group size → group ≢ 16 → group ≢ 32 → group ≢ 64 → group ≡ 128
longest group size is a b c = elim is.lengths [ inl e ↦ absurd (a e) | inr o ↦ elim o [ inl e ↦ absurd (b e) | inr p ↦ elim p [ inl e ↦ absurd (c e) | inr e ↦ e ] ] ]

pub largest : (group size : ℕ) → IsGeometry group size → size ≢ 131072 → size ≢ 262144 → size ≢ 524288 → size ≡ 1048576
largest group size is a b c = elim is.sizes [ inl e ↦ absurd (a e) | inr o ↦ elim o [ inl e ↦ absurd (b e) | inr p ↦ elim p [ inl e ↦ absurd (c e) | inr e ↦ e ] ] ]
