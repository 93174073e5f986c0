-- An operation keeps the shape.
use Rattle.std.proofs.Common.{ℕ, ◌*◌, ◌==◌, true, nat_lt, Option, Some, None, refl, ◌∙◌}
use Rattle.flat_ram.specs.Map.{ram_size}
use Rattle.r4_shape.specs.Address.{pidx}
use Rattle.line_moves.specs.declared.hierarchy.Hier.{Hier}
use Rattle.line_moves.specs.declared.places.Place.{Place}
use Rattle.line_moves.specs.declared.places.Held.{Held}
use Rattle.line_moves.specs.Lines.{holds}
use Rattle.line_moves.specs.Moves.{back, discard, discard_parts, discard_whole, forge, in_secondary, is_under_other_pidx, mark, out_at, ready_below, write_below_at, write_back}
use Rattle.line_moves.proofs.Parts.{SameShape, shape_if, back_shape, discard_shape, discard_parts_shape, discard_whole_shape, fill_shape, forge_shape, mark_shape, out_shape, ready_below_shape, set_pidx_shape, write_below_at_shape, write_back_shape}
use Rattle.cache_codes.specs.Codes.{code_of}
use Rattle.cache_codes.specs.declared.codes.Cache.{Cache}
use Rattle.cache_codes.specs.declared.codes.Cache.TheVariants.{PrimaryInstruction, PrimaryData, SecondaryInstruction, SecondaryData}
use Rattle.cache_codes.specs.declared.codes.CacheCode.{CacheCode}
use Rattle.cache_codes.specs.declared.codes.Verb.{Verb}
use Rattle.cache_codes.specs.declared.codes.Verb.TheVariants.{IndexWritebackInvalidate, IndexLoadTag, IndexStoreTag, CreateDirtyExclusive, HitInvalidate, HitWritebackInvalidate, HitWriteback, HitSetVirtual}
use Rattle.cache_ops.specs.declared.operands.Operands.{Operands}
use Rattle.cache_ops.specs.Operations.{i_place, d_place, s_place, number_of, where_hit, where_in_ram, where_no_other_pidx, where_secondary, where_secondary_hit, state_field, secondary_state_field, made_by, secondary_made_by, store_tag, store_secondary_tag, create_dirty, create_secondary, refill, set_virtual, on_instructions, on_data, on_secondary, operated, outcome, outcome_of}

-- ---- moves under a condition

hit_shape : (p : Place) (o : Operands) (move : Hier → Hier) (m : Hier) → SameShape (move m) m → SameShape (where_hit p o move m) m
hit_shape p o move m is = shape_if (holds p (number_of o m) m.caches) (move m) m m is refl

ram_shape : (o : Operands) (move : Hier → Hier) (m : Hier) → SameShape (move m) m → SameShape (where_in_ram o move m) m
ram_shape o move m is = shape_if (nat_lt o.pa ram_size) (move m) m m is refl

no_other_pidx_shape : (o : Operands) (move : Hier → Hier) (m : Hier) → SameShape (move m) m → SameShape (where_no_other_pidx o move m) m
no_other_pidx_shape o move m is = shape_if (is_under_other_pidx (number_of o m * m.caches.shape.line) (pidx o.va) m) m (move m) m refl is

secondary_shape : (move : Hier → Hier) (m : Hier) → SameShape (move m) m → SameShape (where_secondary move m) m
secondary_shape move m is = shape_if m.caches.shape.sc (move m) m m is refl

secondary_hit_shape : (o : Operands) (move : Hier → Hier) (m : Hier) → SameShape (move m) m → SameShape (where_secondary_hit o move m) m
secondary_hit_shape o move m is = shape_if (in_secondary o.pa m) (move m) m m is refl

-- ---- what operations are made of

evict_shape : (p : Place) (m : Hier) → SameShape (discard p (back p m)) m
evict_shape p m = discard_shape p (back p m) ∙ back_shape p m

tag_shape : (p : Place) (tag : ℕ) (m : Hier) → SameShape (store_tag p tag m) m
tag_shape p tag m =
    shape_if (state_field tag == 0) (discard p m) (forge p (made_by m.caches.shape p tag) (discard p m)) m (discard_shape p m)
    (forge_shape p (made_by m.caches.shape p tag) (discard p m) ∙ discard_shape p m)

secondary_tag_shape : (o : Operands) (m : Hier) → SameShape (store_secondary_tag o m) m
secondary_tag_shape o m =
    let w : Hier = discard_whole (s_place o m).index m in
    let made : Held = secondary_made_by m.caches.shape (s_place o m) o.tag in
    shape_if (nat_lt (secondary_state_field o.tag) 4) w (forge (s_place o m) made w) m (discard_whole_shape (s_place o m).index m)
    (forge_shape (s_place o m) made w ∙ discard_whole_shape (s_place o m).index m)

create_shape : (o : Operands) (m : Hier) → SameShape (create_dirty o m) m
create_shape o m =
    let p : Place = d_place o m in
    let d : Hier = discard p (back p m) in
    let w : Hier = ready_below (number_of o m * m.caches.shape.line) (pidx o.va) d in
    shape_if (holds p (number_of o m) m.caches) (mark p true m) (forge p (record { pa = o.pa; dirty = true; pidx = 0 }) w) m (mark_shape p true m)
    (forge_shape p (record { pa = o.pa; dirty = true; pidx = 0 }) w ∙ ready_below_shape (number_of o m * m.caches.shape.line) (pidx o.va) d ∙ evict_shape p m)

create_secondary_shape : (o : Operands) (m : Hier) → SameShape (create_secondary o m) m
create_secondary_shape o m =
    let p : Place = s_place o m in
    let w : Hier = out_at o.pa m in
    shape_if (in_secondary o.pa m) (mark p true m) (forge p (record { pa = o.pa; dirty = true; pidx = pidx o.va }) w) m (mark_shape p true m)
    (forge_shape p (record { pa = o.pa; dirty = true; pidx = pidx o.va }) w ∙ out_shape p.index m)

refill_shape : (o : Operands) (m : Hier) → SameShape (refill o m) m
refill_shape o m =
    let d : Hier = discard (i_place o m) m in
    let w : Hier = ready_below (number_of o m * m.caches.shape.line) (pidx o.va) d in
    fill_shape (i_place o m) (number_of o m) w ∙ ready_below_shape (number_of o m * m.caches.shape.line) (pidx o.va) d ∙ discard_shape (i_place o m) m

virtual_shape : (o : Operands) (m : Hier) → SameShape (set_virtual o m) m
virtual_shape o m =
    set_pidx_shape (s_place o m) (pidx o.va) (discard_parts (s_place o m).index m) ∙ discard_parts_shape (s_place o m).index m

-- ---- each operation

instructions_shape : (verb : Verb) (o : Operands) (m : Hier) → SameShape (on_instructions verb o m) m
instructions_shape IndexWritebackInvalidate o m = discard_shape (i_place o m) m
instructions_shape IndexLoadTag o m = refl
instructions_shape IndexStoreTag o m = tag_shape (i_place o m) o.tag m
instructions_shape CreateDirtyExclusive o m = refl
instructions_shape HitInvalidate o m = hit_shape (i_place o m) o (discard (i_place o m)) m (discard_shape (i_place o m) m)
instructions_shape HitWritebackInvalidate o m =
    ram_shape o (where_no_other_pidx o (refill o)) m (no_other_pidx_shape o (refill o) m (refill_shape o m))
instructions_shape HitWriteback o m = hit_shape (i_place o m) o (write_below_at (i_place o m)) m (write_below_at_shape (i_place o m) m)
instructions_shape HitSetVirtual o m = refl

data_shape : (verb : Verb) (o : Operands) (m : Hier) → SameShape (on_data verb o m) m
data_shape IndexWritebackInvalidate o m = evict_shape (d_place o m) m
data_shape IndexLoadTag o m = refl
data_shape IndexStoreTag o m = tag_shape (d_place o m) o.tag m
data_shape CreateDirtyExclusive o m =
    ram_shape o (where_no_other_pidx o (create_dirty o)) m (no_other_pidx_shape o (create_dirty o) m (create_shape o m))
data_shape HitInvalidate o m = hit_shape (d_place o m) o (discard (d_place o m)) m (discard_shape (d_place o m) m)
data_shape HitWritebackInvalidate o m =
    hit_shape (d_place o m) o (λ m. discard (d_place o m) (back (d_place o m) m)) m (evict_shape (d_place o m) m)
data_shape HitWriteback o m = hit_shape (d_place o m) o (back (d_place o m)) m (back_shape (d_place o m) m)
data_shape HitSetVirtual o m = refl

on_secondary_shape : (verb : Verb) (o : Operands) (m : Hier) → SameShape (on_secondary verb o m) m
on_secondary_shape IndexWritebackInvalidate o m = secondary_shape (out_at o.pa) m (out_shape (s_place o m).index m)
on_secondary_shape IndexLoadTag o m = refl
on_secondary_shape IndexStoreTag o m = secondary_shape (store_secondary_tag o) m (secondary_tag_shape o m)
on_secondary_shape CreateDirtyExclusive o m =
    secondary_shape (where_in_ram o (create_secondary o)) m (ram_shape o (create_secondary o) m (create_secondary_shape o m))
on_secondary_shape HitInvalidate o m =
    secondary_hit_shape o (discard_whole (s_place o m).index) m (discard_whole_shape (s_place o m).index m)
on_secondary_shape HitWritebackInvalidate o m = secondary_hit_shape o (out_at o.pa) m (out_shape (s_place o m).index m)
on_secondary_shape HitWriteback o m = secondary_hit_shape o (write_back (s_place o m).index) m (write_back_shape (s_place o m).index m)
on_secondary_shape HitSetVirtual o m = secondary_hit_shape o (set_virtual o) m (virtual_shape o m)

pub operated_shape : (cache : Cache) (verb : Verb) (o : Operands) (m : Hier) → SameShape (operated cache verb o m) m
operated_shape PrimaryInstruction verb o m = instructions_shape verb o m
operated_shape PrimaryData verb o m = data_shape verb o m
operated_shape SecondaryInstruction verb o m = refl
operated_shape SecondaryData verb o m = on_secondary_shape verb o m

pub outcome_shape : (code va pa tag : ℕ) (m : Hier) → SameShape (outcome code va pa tag m).memory m
outcome_shape code va pa tag m = on (code_of code)
  where
    on : (o : Option CacheCode) → SameShape (outcome_of o (record { va = va; pa = pa; tag = tag }) m).memory m
    on None = refl
    on (Some code) = operated_shape code.cache code.verb (record { va = va; pa = pa; tag = tag }) m
