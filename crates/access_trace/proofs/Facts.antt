-- What the grammar says of an event, one fact a lemma.
use Rattle.std.proofs.Common.{◌≡◌, ◌==◌, ◌<◌, ◌≤◌, ◌+◌, ◌%◌, ◌^◌, Bool, true, false, ◌&&◌, ◌||◌, not, nat_lt, nat_le, refl, subst}
use Rattle.std.proofs.lemmas.Bool.{eqb-true, ltb-true, leb-true}
use Rattle.access_trace.specs.Grammar.{ram_size, is_beat, is_data, is_fetch, reaches_ram, fits_its_fields, has_fields, keeps_its_page, is_in_ram, is_whole_beat, is_whole_word, is_in_doubleword, IsEvent}
use Rattle.access_trace.specs.declared.event.EventKind.TheVariants.{Cache}
use Rattle.access_trace.specs.declared.event.Event.{Event}

both : (a b : Bool) → (a && b) ≡ true → (a ≡ true) × (b ≡ true)
both true true e = (refl, refl)
both true false e = absurd (cc)
both false b e = absurd (cc)

-- a test that is asked for where another one holds
where_asked : (asked test : Bool) → (not asked || test) ≡ true → asked ≡ true → test ≡ true
where_asked true test e is = e
where_asked false test e is = absurd (cc)

-- a test that is asked for unless another one holds
unless_asked : (spared test : Bool) → (spared || test) ≡ true → spared ≡ false → test ≡ true
unless_asked true test e is = absurd (cc)
unless_asked false test e is = e

-- the conditions, each by itself
pub record Conditions (event : Event) : Type 0 where
  pub widths : fits_its_fields event ≡ true
  pub fields : has_fields event.kind event ≡ true
  pub page : keeps_its_page event ≡ true
  pub ram : is_in_ram event ≡ true
  pub beat : is_whole_beat event ≡ true
  pub word : is_whole_word event ≡ true
  pub doubleword : is_in_doubleword event ≡ true

pub conditions_of : (event : Event) → IsEvent event → Conditions event
conditions_of event grammar =
    let widths = both (fits_its_fields event) _ grammar.is in
    let fields = both (has_fields event.kind event) _ widths.1 in
    let page = both (keeps_its_page event) _ fields.1 in
    let ram = both (is_in_ram event) _ page.1 in
    let beat = both (is_whole_beat event) _ ram.1 in
    let word = both (is_whole_word event) (is_in_doubleword event) beat.1 in
    record { widths = widths.0; fields = fields.0; page = page.0; ram = ram.0; beat = beat.0; word = word.0; doubleword = word.1 }

-- a beat, and a fetch, load or store through the caches, lies in RAM
pub in_ram : (event : Event) → IsEvent event → reaches_ram event.kind event.cached ≡ true → event.pa < ram_size
in_ram event grammar asked = ltb-true event.pa ram_size (where_asked (reaches_ram event.kind event.cached) (nat_lt event.pa ram_size) (conditions_of event grammar).ram asked)

-- but for a beat, the physical address has the virtual one's place in its page
pub same_place : (event : Event) → IsEvent event → is_beat event.kind ≡ false → event.pa % 4096 ≡ event.va % 4096
same_place event grammar no_beat = eqb-true _ _ (unless_asked (is_beat event.kind) (event.pa % 4096 == event.va % 4096) (conditions_of event grammar).page no_beat)

-- a beat begins at a multiple of 32
pub whole_beat : (event : Event) → IsEvent event → is_beat event.kind ≡ true → event.pa % 32 ≡ 0
whole_beat event grammar asked = eqb-true _ _ (where_asked (is_beat event.kind) (event.pa % 32 == 0) (conditions_of event grammar).beat asked)

-- a fetch begins at a multiple of 4
pub whole_word : (event : Event) → IsEvent event → is_fetch event.kind ≡ true → event.pa % 4 ≡ 0
whole_word event grammar asked = eqb-true _ _ (where_asked (is_fetch event.kind) (event.pa % 4 == 0) (conditions_of event grammar).word asked)

-- a load or a store lies in one aligned doubleword
pub in_doubleword : (event : Event) → IsEvent event → is_data event.kind ≡ true → event.pa % 8 + event.size ≤ 8
in_doubleword event grammar asked = leb-true _ 8 (where_asked (is_data event.kind) (nat_le (event.pa % 8 + event.size) 8) (conditions_of event grammar).doubleword asked)

-- a physical address has 36 bits
pub pa_width : (event : Event) → IsEvent event → event.pa < 2 ^ 36
pa_width event grammar =
    let tick = both (nat_lt event.tick (2 ^ 32)) _ (conditions_of event grammar).widths in
    let va = both (nat_lt event.va (2 ^ 32)) _ tick.1 in
    ltb-true event.pa (2 ^ 36) (both (nat_lt event.pa (2 ^ 36)) (nat_lt event.value (2 ^ 64)) va.1).0

cache_fields : (event : Event) → has_fields Cache event ≡ true → (event.size < 32) × (event.value < 2 ^ 32)
cache_fields event is =
    let parts = both (nat_lt event.size 32) (nat_lt event.value (2 ^ 32)) is in
    (ltb-true event.size 32 parts.0, ltb-true event.value (2 ^ 32) parts.1)

-- a cache operation has a code of 5 bits and a TagLo of 32
pub operation_fields : (event : Event) → IsEvent event → event.kind ≡ Cache → (event.size < 32) × (event.value < 2 ^ 32)
operation_fields event grammar is = cache_fields event (subst (λ kind. has_fields kind event ≡ true) is (conditions_of event grammar).fields)
