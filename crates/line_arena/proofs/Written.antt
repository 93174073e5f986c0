-- What the arena keeps, and what stands with each holder, after bytes of a slot were replaced.
use Rattle.std.proofs.Common.{◌≡◌, ℕ, ◌+◌, ◌≤◌, false, List, ◌++◌, length, get_or, set, map, take, drop, Option, Some, None, refl, sym, ap, ◌∙◌, arith, length-append, length-drop}
use Rattle.std.specs.Option.{option_map}
use Rattle.std.proofs.lemmas.List.{length-take-le, set-get_or}
use Rattle.slab.specs.Slab.{Slab, get, with_value}
use Rattle.slab.proofs.SlabLemmas.{Updates-with_value}
use Rattle.line_arena.specs.Holding.{bytes_of, is_shared, put_bytes, written}
use Rattle.line_arena.specs.Parts.{Parts, IsKept, bytes_in, holding}
use Rattle.line_arena.proofs.Kept.{alone, kept_written}
use Rattle.line_arena.proofs.Made.{put_in_line}
use Rattle.line_arena.proofs.Views.{alone_if, bytes_set, reads_in, same_holding}

length_put : (at : ℕ) (bytes all : List ℕ) → at + length bytes ≤ length all → length (put_bytes at bytes all) ≡ length all
length_put at bytes all fits =
    let rest : List ℕ = drop (at + length bytes) all in
    omega (arith, length-append (take at all) (bytes ++ rest), length-append bytes rest, length-take-le at all (omega arith), length-drop (at + length bytes) all)

pub kept_put : (p : Parts) (h s at : ℕ) (bytes all new : List ℕ) → IsKept p → get_or p.held h None ≡ Some s → get p.store s ≡ Some all → at + length bytes ≤ p.line → new ≡ put_bytes at bytes all → IsKept (record p { store = with_value p.store s new })
kept_put p h s at bytes all new is has there fits made =
    let long = is.sized s all there in
    kept_written p h s new is has (ap length made ∙ length_put at bytes all (omega (arith, long, is.line_is)) ∙ long)

pub written_view : (p : Parts) (h s at : ℕ) (bytes all new : List ℕ) → IsKept p → get_or p.held h None ≡ Some s → is_shared (holding p) h ≡ false → get p.store s ≡ Some all → at + length bytes ≤ p.line → new ≡ put_bytes at bytes all → holding (record p { store = with_value p.store s new }) ≡ written h at bytes (holding p)
written_view p h s at bytes all new is has apart there fits made =
    let long = is.sized s all there in
    let store : Slab (List ℕ) = with_value p.store s new in
    let updates = Updates-with_value p.store s new (is.stored h s has) in
    let same : set p.held h (Some s) ≡ p.held = ap (λ (o : Option ℕ). set p.held h o) (sym has) ∙ set-get_or p.held h None in
    let mine : bytes_in p.line store (Some s) ≡ option_map (put_bytes at bytes) (bytes_of (holding p) h) =
    ap (option_map (λ (all : List ℕ). take p.line all)) updates.changed
    ∙ ap (λ (all : List ℕ). Some (take p.line all)) made
    ∙ ap Some (put_in_line all bytes at p.line (omega (arith, long, is.line_is)) fits)
    ∙ ap (option_map (put_bytes at bytes)) (sym (reads_in p.line p.store p.held h s all has there)) in
    same_holding p.line _ _ _ _ _ _ refl
    (ap (λ (xs : List (Option ℕ)). map (bytes_in p.line store) xs) (sym same)
    ∙ bytes_set p.line p.store store p.held h (Some s) (option_map (put_bytes at bytes) (bytes_of (holding p) h)) (λ k slot ne e. updates.others slot (λ q. alone p h s is has (alone_if p h s is has apart) k ne (e ∙ ap Some q))) mine)
    refl
