use Rattle.std.proofs.Common.{◌≡◌, ◌<◌, Some, ℕ, ◌+◌, ◌*◌, ◌/◌, ◌%◌, arith, refl}
use Rattle.std.proofs.lemmas.Bool.{lt-ltb}
use Rattle.cache_codes.specs.declared.codes.CacheCode.{CacheCode}
use Rattle.cache_codes.specs.Codes.{cache_of, code_of, verb_of}
use Rattle.cache_codes.proofs.codes.CacheCode.number.Goals as goal

-- the code of a verb's number above a cache's
read_back : (verb cache : ℕ) (code : CacheCode) → verb < 8 → cache < 4 → verb_of verb ≡ code.verb → cache_of cache ≡ code.cache
    → code_of (verb * 4 + cache) ≡ Some code
unfolding code_of
read_back verb cache code few some is on =
    let above : (verb * 4 + cache) / 4 ≡ verb = omega arith in
    let below : (verb * 4 + cache) % 4 ≡ cache = omega arith in
    rw (lt-ltb (verb * 4 + cache) 32 (omega arith), above, below, is, on) refl

pub returns-clause-undone : goal.returns-clause-undone
returns-clause-undone c =
    read_back c.number.result c.number-2.result c.args.self c.number.ensures.bits c.number-2.ensures.bits c.number.ensures.undone c.number-2.ensures.undone
