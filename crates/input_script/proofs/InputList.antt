-- A list of inputs with one more.
use Rattle.std.proofs.Common.{◌≡◌, ◌+◌, ◌-◌, ◌≤◌, ℕ, List, [], ◌∷◌, ◌++◌, length, cond, arith}
use Rattle.std.proofs.lemmas.List.Sorted.{IsNonDecreasingBy-push}
use Rattle.std.proofs.lemmas.List.Elements.{All-push}
use Rattle.std.proofs.lemmas.List.Sums.{sum_by-append}
use Rattle.input_script.specs.declared.inputs.Input.{Input}
use Rattle.input_script.specs.Inputs.{IsScript, AreUpTo, NamesALine, is_key, keys_of}

-- the order and the lines with one input more
pub script_push : (inputs : List Input) (input : Input) → IsScript inputs → AreUpTo input.tick inputs → NamesALine input.what → IsScript (inputs ++ input ∷ [])
script_push inputs input is order line = record {
  ordered = IsNonDecreasingBy-push (λ (one : Input). one.tick) inputs input is.ordered (λ d some. order (length inputs - 1) d (omega arith));
  lines = All-push (λ (one : Input). NamesALine one.what) inputs input is.lines line;
}

-- the number of keys with one input more
pub keys_push : (inputs : List Input) (input : Input) → keys_of (inputs ++ input ∷ []) ≡ keys_of inputs + cond (is_key input.what) 1 0
keys_push inputs input = omega (arith, sum_by-append (λ (one : Input). cond (is_key one.what) 1 0) inputs (input ∷ []))

-- the last tick with one input more
pub up_to_push : (inputs : List Input) (input : Input) → AreUpTo input.tick inputs → AreUpTo input.tick (inputs ++ input ∷ [])
up_to_push inputs input order = All-push (λ (earlier : Input). earlier.tick ≤ input.tick) inputs input order (omega arith)

-- a later tick
pub up_to_later : (inputs : List Input) (tick later : ℕ) → AreUpTo tick inputs → tick ≤ later → AreUpTo later inputs
up_to_later inputs tick later order le = λ k d lt. let low : _ = order k d lt in omega (arith, low, le)
