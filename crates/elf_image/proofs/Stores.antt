-- One segment: where it is stored, and what that does.
use Rattle.std.proofs.Common.{◌≡◌, ℕ, ◌+◌, ◌≤◌, nat_le, Bool, true, false, ◌&&◌, not, List, length, refl, sym, ap, subst, if◌then◌else◌}
use Rattle.std.proofs.lemmas.Bool.{leb-true, and_parts}
use Rattle.flat_ram.specs.Bytes.{put_bytes}
use Rattle.flat_ram.specs.Unmapped.{physical}
use Rattle.elf_image.specs.declared.segments.Segment.{Segment}
use Rattle.elf_image.specs.Header.{segment_at}
use Rattle.elf_image.specs.Rules.{breaks_range, is_stored, is_in_range}
use Rattle.elf_image.specs.Loading.{memory_of, stored}

and_not : (a b : Bool) → (a && not b) ≡ false → a ≡ true → b ≡ true
and_not true true e is = refl
and_not true false e is = absurd (cc)
and_not false b e is = absurd (cc)

-- a stored segment whose header keeps the rule of ranges is in range
pub in_range : (bytes : List ℕ) (at : ℕ) (segment : Segment) → segment ≡ segment_at bytes at → breaks_range bytes at ≡ false → is_stored segment ≡ true → is_in_range (length bytes) segment ≡ true
unfolding breaks_range
in_range bytes at segment same keeps is =
    let here : is_stored (segment_at bytes at) ≡ true = subst (λ s. is_stored s ≡ true) same is in
    subst (λ s. is_in_range (length bytes) s ≡ true) (sym same) (and_not (is_stored (segment_at bytes at)) (is_in_range (length bytes) (segment_at bytes at)) keeps here)

pub stored_is : (bytes ram : List ℕ) (segment : Segment) → is_stored segment ≡ true → put_bytes ram (physical segment.address) (memory_of bytes segment) ≡ stored bytes ram segment
unfolding stored
stored_is bytes ram segment is = sym (ap (λ b. if b then put_bytes ram (physical segment.address) (memory_of bytes segment) else ram) is)

pub stored_not : (bytes ram : List ℕ) (segment : Segment) → is_stored segment ≡ false → ram ≡ stored bytes ram segment
unfolding stored
stored_not bytes ram segment is = sym (ap (λ b. if b then put_bytes ram (physical segment.address) (memory_of bytes segment) else ram) is)

-- the bytes of a segment in range lie in the file
pub file_in_range : (size : ℕ) (segment : Segment) → is_in_range size segment ≡ true → segment.offset + segment.file_size ≤ size
file_in_range size segment is = leb-true _ _ (and_parts (nat_le segment.file_size segment.memory_size) (nat_le (segment.offset + segment.file_size) size) (and_parts _ _ is).0).1
