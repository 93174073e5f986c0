-- Where a script's ticks never fall, and the inputs of the ticks 0, 1, 2 and so on are asked for in this order, what comes at a tick
-- is exactly the inputs that the script has for it, in script order.
use Rattle.std.proofs.Common.{◌≡◌, ◌+◌, ◌<◌, ℕ, zero, suc, Bool, true, false, List, [], ◌∷◌, length, get_or, drop, refl, sym, ap, ◌∙◌, arith}
use Rattle.std.specs.Prelude.{cond, not, ◌&&◌, ◌==◌, nat_le, filter, take_while}
use Rattle.std.specs.List.{prefix_len}
use Rattle.std.specs.List.Sorted.{IsNonDecreasingBy, IsPartitionedBy}
use Rattle.std.proofs.lemmas.Bool.{true≢false, false_from_ne_true, le-leb}
use Rattle.std.proofs.lemmas.Bool.Decides.{nat_tests}
use Rattle.std.proofs.lemmas.Grind.{common_steps}
use Rattle.std.proofs.lemmas.List.Sums.{take_while-cons}
use Rattle.std.proofs.lemmas.List.Elements.{filter_agree}
use Rattle.std.proofs.lemmas.List.Sorted.{IsPartitionedBy-leb}
use Rattle.std.proofs.lemmas.List.Kept.{IsNonDecreasingBy-filter}
use Rattle.input_script.specs.declared.inputs.Input.{Input}
use Rattle.dma_devices.specs.RecordedInputs.{RecordedState, is_due, due, still_pending, after_inputs, applied, inputs_of_tick, inputs_from, pending_at}

-- ---- filters of lists that a test parts

-- a filter that no element passes keeps nothing, and one that each element passes keeps all
filter_none : {X : Type 0} (p : X → Bool) (xs : List X) → ((k : ℕ) (d : X) → k < length xs → p (get_or xs k d) ≡ false) → filter p xs ≡ []
filter_none p [] fails = refl
filter_none p (x ∷ xs) fails =
    let first : p x ≡ false = fails 0 x (omega arith) in
    ap (λ b. cond b (x ∷ filter p xs) (filter p xs)) first ∙ filter_none p xs (λ k d inside. fails (suc k) d (omega arith))

filter_whole : {X : Type 0} (p : X → Bool) (xs : List X) → ((k : ℕ) (d : X) → k < length xs → p (get_or xs k d) ≡ true) → filter p xs ≡ xs
filter_whole p [] passes = refl
filter_whole p (x ∷ xs) passes =
    let first : p x ≡ true = passes 0 x (omega arith) in
    ap (λ b. cond b (x ∷ filter p xs) (filter p xs)) first ∙ ap (λ rest. x ∷ rest) (filter_whole p xs (λ k d inside. passes (suc k) d (omega arith)))

-- after an element that fails comes none that passes
fails_behind : {X : Type 0} (p : X → Bool) (x : X) (xs : List X) → IsPartitionedBy p (x ∷ xs) → p x ≡ false → (k : ℕ) (d : X) → k < length xs → p (get_or xs k d) ≡ false
fails_behind p x xs parted first k d inside =
    false_from_ne_true (p (get_or xs k d)) (λ passes. true≢false (sym (parted 0 (suc k) d (omega arith) (omega arith) passes) ∙ first))

parted_behind : {X : Type 0} (p : X → Bool) (x : X) (xs : List X) → IsPartitionedBy p (x ∷ xs) → IsPartitionedBy p xs
parted_behind p x xs parted i j d order inside passes = parted (suc i) (suc j) d (omega arith) (omega arith) passes

-- where no element that passes comes after one that fails, the front that passes is all that passes
front_step : {X : Type 0} (p : X → Bool) (x : X) (xs : List X) (b : Bool) → p x ≡ b → IsPartitionedBy p (x ∷ xs) → take_while p xs ≡ filter p xs →
    cond b (x ∷ take_while p xs) [] ≡ cond b (x ∷ filter p xs) (filter p xs)
front_step p x xs true is parted front = ap (λ rest. x ∷ rest) front
front_step p x xs false is parted front = sym (filter_none p xs (fails_behind p x xs parted is))

front_passes : {X : Type 0} (p : X → Bool) (xs : List X) → IsPartitionedBy p xs → take_while p xs ≡ filter p xs
front_passes p [] parted = refl
front_passes p (x ∷ xs) parted =
    take_while-cons p x xs ∙ front_step p x xs (p x) refl parted (front_passes p xs (parted_behind p x xs parted))

-- and the rest is all that fails
rest_step : {X : Type 0} (p : X → Bool) (x : X) (xs : List X) (b : Bool) → p x ≡ b → IsPartitionedBy p (x ∷ xs) → drop (prefix_len p xs) xs ≡ filter (λ x. not (p x)) xs →
    drop (cond b (1 + prefix_len p xs) 0) (x ∷ xs) ≡ cond (not b) (x ∷ filter (λ x. not (p x)) xs) (filter (λ x. not (p x)) xs)
rest_step p x xs true is parted rest = grind (arith, common_steps)
rest_step p x xs false is parted rest =
    ap (λ rest. x ∷ rest) (sym (filter_whole (λ x. not (p x)) xs (λ k d inside. ap not (fails_behind p x xs parted is k d inside))))

rest_fails : {X : Type 0} (p : X → Bool) (xs : List X) → IsPartitionedBy p xs → drop (prefix_len p xs) xs ≡ filter (λ x. not (p x)) xs
rest_fails p [] parted = refl
rest_fails p (x ∷ xs) parted = rest_step p x xs (p x) refl parted (rest_fails p xs (parted_behind p x xs parted))

-- a filter of a filter keeps what passes both
twice_step : {X : Type 0} (p q : X → Bool) (x : X) (xs : List X) (b : Bool) → q x ≡ b → filter p (filter q xs) ≡ filter (λ x. q x && p x) xs →
    filter p (cond b (x ∷ filter q xs) (filter q xs)) ≡ cond (b && p x) (x ∷ filter (λ x. q x && p x) xs) (filter (λ x. q x && p x) xs)
twice_step p q x xs true is rest = ap (λ rest. cond (p x) (x ∷ rest) rest) rest
twice_step p q x xs false is rest = rest

filter_twice : {X : Type 0} (p q : X → Bool) (xs : List X) → filter p (filter q xs) ≡ filter (λ x. q x && p x) xs
filter_twice p q [] = refl
filter_twice p q (x ∷ xs) = twice_step p q x xs (q x) refl (filter_twice p q xs)

-- ---- the inputs of a tick

-- the ticks of a script never fall
abbrev pub TicksNeverFall : List Input → Type 0
TicksNeverFall script = IsNonDecreasingBy (λ (input : Input). input.tick) script

-- the inputs from a tick on are parted at that tick
parted_from : (tick : ℕ) (script : List Input) → TicksNeverFall script → IsPartitionedBy (is_due tick) (inputs_from tick script)
parted_from tick script ordered =
    IsPartitionedBy-leb (λ (input : Input). input.tick) (inputs_from tick script) tick
    (IsNonDecreasingBy-filter (λ (input : Input). input.tick) (λ (input : Input). nat_le tick input.tick) script ordered)

at_tick : (a tick : ℕ) → (nat_le tick a && nat_le a tick) ≡ (a == tick)
at_tick a tick = grind (arith, nat_tests)

past_tick : (a tick : ℕ) → (nat_le tick a && not (nat_le a tick)) ≡ nat_le (tick + 1) a
past_tick a tick = grind (arith, nat_tests)

-- of the inputs from a tick on, those that are due are the inputs of that tick
pub due_at_tick : (tick : ℕ) (script : List Input) → TicksNeverFall script → due tick (inputs_from tick script) ≡ inputs_of_tick tick script
due_at_tick tick script ordered =
    front_passes (is_due tick) (inputs_from tick script) (parted_from tick script ordered)
    ∙ filter_twice (is_due tick) (λ (input : Input). nat_le tick input.tick) script
    ∙ filter_agree (λ (input : Input). nat_le tick input.tick && nat_le input.tick tick) (λ (input : Input). input.tick == tick) (λ input. at_tick input.tick tick) script

-- and those that are still to come are the inputs from the next tick on
pub pending_past_tick : (tick : ℕ) (script : List Input) → TicksNeverFall script → still_pending tick (inputs_from tick script) ≡ inputs_from (tick + 1) script
pending_past_tick tick script ordered =
    rest_fails (is_due tick) (inputs_from tick script) (parted_from tick script ordered)
    ∙ filter_twice (λ (input : Input). not (is_due tick input)) (λ (input : Input). nat_le tick input.tick) script
    ∙ filter_agree (λ (input : Input). nat_le tick input.tick && not (nat_le input.tick tick)) (λ (input : Input). nat_le (tick + 1) input.tick) (λ input. past_tick input.tick tick) script

-- at reset the inputs from tick 0 on are to come
pub all_from_reset : (script : List Input) → inputs_from 0 script ≡ script
all_from_reset script = filter_whole (λ (input : Input). nat_le 0 input.tick) script (λ k d inside. le-leb 0 (get_or script k d).tick (omega arith))

-- A tick whose inputs are asked for while those from it on are to come: the devices take the inputs of that tick, in script order, and
-- those from the next tick on are to come.
pub applied_at_tick : (recorded : RecordedState) (tick : ℕ) (script : List Input) → TicksNeverFall script → recorded.pending ≡ inputs_from tick script →
    applied recorded tick ≡ record { devices = after_inputs recorded.devices (inputs_of_tick tick script); pending = inputs_from (tick + 1) script }
unfolding applied
applied_at_tick recorded tick script ordered pending =
    ap (λ inputs. record { devices = after_inputs recorded.devices (due tick inputs); pending = still_pending tick inputs }) pending
    ∙ ap (λ inputs. record { devices = after_inputs recorded.devices inputs; pending = still_pending tick (inputs_from tick script) }) (due_at_tick tick script ordered)
    ∙ ap (λ inputs. record { devices = after_inputs recorded.devices (inputs_of_tick tick script); pending = inputs }) (pending_past_tick tick script ordered)

-- after the ticks below one, asked for from 0 on in order, the inputs from it on are to come
pub pending_in_order : (tick : ℕ) (script : List Input) → TicksNeverFall script → pending_at tick script ≡ inputs_from tick script
unfolding pending_at
pending_in_order zero script ordered = sym (all_from_reset script)
pending_in_order (suc tick) script ordered =
    ap (still_pending tick) (pending_in_order tick script ordered) ∙ pending_past_tick tick script ordered ∙ ap (λ n. inputs_from n script) (omega arith)

-- so what comes at it is exactly the inputs that the script has for it
pub due_in_order : (tick : ℕ) (script : List Input) → TicksNeverFall script → due tick (pending_at tick script) ≡ inputs_of_tick tick script
due_in_order tick script ordered = ap (due tick) (pending_in_order tick script ordered) ∙ due_at_tick tick script ordered
