-- The first pair of digits.
use Rattle.std.proofs.Common.{◌≡◌, ◌+◌, ◌*◌, ◌<◌, ◌≤◌, ℕ, Bool, true, false, ◌&&◌, List, [], ◌∷◌, ◌++◌, length, map, refl, ap, sym, ◌∙◌, arith, append_assoc, append-nil}
use Rattle.std.specs.List.{list_all}
use Rattle.std.specs.Char.{is_ascii_hexdigit}
use Rattle.std.proofs.lemmas.Grind.{common_steps}
use Rattle.r4_words.specs.Texts.{value_of_digit}
use Rattle.input_script.specs.declared.inputs.What.TheVariants.{Key}
use Rattle.input_script.specs.declared.inputs.Input.{Input}
use Rattle.input_script.specs.Inputs.{AreUpTo, keys_of}
use Rattle.input_script.specs.Grammar.{bytes_of_pairs, inputs_at}
use Rattle.input_script.proofs.InputList.{keys_push, up_to_push}

-- the inputs of digits
abbrev pub keys_at : ℕ → List ℕ → List Input
keys_at tick digits = inputs_at tick (map Key (bytes_of_pairs digits))

-- the input of the first pair
abbrev pub key_at : ℕ → ℕ → ℕ → Input
key_at tick high low = record { tick = tick; what = Key (value_of_digit high * 16 + value_of_digit low) }

-- the inputs of the first pair and of the rest
pub keys_more : (tick high low : ℕ) (digits : List ℕ) (before : List Input) → before ++ keys_at tick (high ∷ low ∷ digits) ≡ (before ++ key_at tick high low ∷ []) ++ keys_at tick digits
keys_more tick high low digits before = sym (append_assoc before (key_at tick high low ∷ []) (keys_at tick digits))

-- a digit stands for a number below 16
pub hexdigit_lt : (code : ℕ) → is_ascii_hexdigit code ≡ true → value_of_digit code < 16
hexdigit_lt code is = grind (arith, common_steps)

both : (a b : Bool) → (a && b) ≡ true → (a ≡ true) × (b ≡ true)
both true true e = (refl, refl)
both true false e = absurd (cc)
both false b e = absurd (cc)

-- the first two digits, and the rest
pub two_digits : (high low : ℕ) (digits : List ℕ) → list_all is_ascii_hexdigit (high ∷ low ∷ digits) ≡ true → (value_of_digit high < 16) × (value_of_digit low < 16) × (list_all is_ascii_hexdigit digits ≡ true)
two_digits high low digits are =
    let one = both (is_ascii_hexdigit high) (list_all is_ascii_hexdigit (low ∷ digits)) are in
    let two = both (is_ascii_hexdigit low) (list_all is_ascii_hexdigit digits) one.1 in
    (hexdigit_lt high one.0, hexdigit_lt low two.0, two.1)

-- less than a pair is nothing
pub keys_end : (tick : ℕ) (digits : List ℕ) → length digits < 2 → keys_at tick digits ≡ []
keys_end tick [] lt = refl
keys_end tick (one ∷ []) lt = refl
keys_end tick (high ∷ low ∷ digits) lt = absurd (omega arith)

-- the inputs of digits were put after those of a script, up to the rest of the digits
pub record IsPutTo (tick : ℕ) (old : List Input) (digits : List ℕ) (new : List Input) (rest : List ℕ) : Type 0 where
  pub inputs : new ++ keys_at tick rest ≡ old ++ keys_at tick digits
  pub order : AreUpTo tick new
  pub room : keys_of new + length rest ≤ keys_of old + length digits
  pub are : list_all is_ascii_hexdigit rest ≡ true

-- one pair more
pub put_more : (tick : ℕ) (old : List Input) (digits : List ℕ) (new : List Input) (high low : ℕ) (rest : List ℕ) (more : List Input) → IsPutTo tick old digits new (high ∷ low ∷ rest) → more ≡ new ++ key_at tick high low ∷ [] → IsPutTo tick old digits more rest
put_more tick old digits new high low rest more is pushed =
    let input : Input = key_at tick high low in
    record {
      inputs = ap (λ front. front ++ keys_at tick rest) pushed ∙ sym (keys_more tick high low rest new) ∙ is.inputs;
      order = rw pushed (up_to_push new input is.order);
      room = rw pushed (omega (arith, keys_push new input, is.room));
      are = (two_digits high low rest is.are).2;
    }

-- all pairs
pub put_all : (tick : ℕ) (old : List Input) (digits : List ℕ) (new : List Input) (rest : List ℕ) → IsPutTo tick old digits new rest → length rest < 2 → new ≡ old ++ keys_at tick digits
put_all tick old digits new rest is lt = sym (append-nil new) ∙ ap (λ last. new ++ last) (sym (keys_end tick rest lt)) ∙ is.inputs
