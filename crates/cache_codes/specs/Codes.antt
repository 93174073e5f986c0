-- The numbers of the codes of the CACHE instruction.
-- Source: MIPS R4000 Microprocessor User's Manual, 2nd edition (Heinrich), appendix A, CACHE: bits 20 to 18 of the instruction word have
-- the operation, bits 17 and 16 the cache.
use Rattle.std.specs.Prelude.{ℕ, ◌+◌, ◌*◌, ◌/◌, ◌%◌, nat_lt, List, [], ◌∷◌, get_or, Option, Some, None, if◌then◌else◌}
use Rattle.cache_codes.specs.declared.codes.Cache.{Cache}
use Rattle.cache_codes.specs.declared.codes.Cache.TheVariants.{PrimaryInstruction, PrimaryData, SecondaryInstruction, SecondaryData}
use Rattle.cache_codes.specs.declared.codes.CacheCode.{CacheCode}
use Rattle.cache_codes.specs.declared.codes.Verb.{Verb}
use Rattle.cache_codes.specs.declared.codes.Verb.TheVariants.{IndexWritebackInvalidate, IndexLoadTag, IndexStoreTag, CreateDirtyExclusive, HitInvalidate, HitWritebackInvalidate, HitWriteback, HitSetVirtual}

-- the verbs in the order of their numbers, from 0 on, and the caches
abbrev pub verbs : List Verb
verbs =
    IndexWritebackInvalidate
    ∷ IndexLoadTag
    ∷ IndexStoreTag
    ∷ CreateDirtyExclusive
    ∷ HitInvalidate
    ∷ HitWritebackInvalidate
    ∷ HitWriteback
    ∷ HitSetVirtual
    ∷ []

abbrev pub caches : List Cache
caches = PrimaryInstruction ∷ PrimaryData ∷ SecondaryInstruction ∷ SecondaryData ∷ []

-- the verb of a number below 8, and the cache of a number below 4
abbrev pub verb_of : ℕ → Verb
verb_of number = get_or verbs number HitSetVirtual

abbrev pub cache_of : ℕ → Cache
cache_of number = get_or caches number SecondaryData

-- the code of a number of five bits, none for a greater one
unfoldable pub code_of : ℕ → Option CacheCode
code_of number = if nat_lt number 32 then Some (record { verb = verb_of (number / 4); cache = cache_of (number % 4) }) else None

-- the number of a verb, of a cache and of a code
abbrev pub verb_number : Verb → ℕ
verb_number IndexWritebackInvalidate = 0
verb_number IndexLoadTag = 1
verb_number IndexStoreTag = 2
verb_number CreateDirtyExclusive = 3
verb_number HitInvalidate = 4
verb_number HitWritebackInvalidate = 5
verb_number HitWriteback = 6
verb_number HitSetVirtual = 7

abbrev pub cache_number : Cache → ℕ
cache_number PrimaryInstruction = 0
cache_number PrimaryData = 1
cache_number SecondaryInstruction = 2
cache_number SecondaryData = 3

abbrev pub number_of : CacheCode → ℕ
number_of code = verb_number code.verb * 4 + cache_number code.cache
