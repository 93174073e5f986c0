-- The operations of the CACHE instruction, as far as the rules tell them apart on a machine without a secondary cache.
-- Source: MIPS R4000 Microprocessor User's Manual (Heinrich, 2nd edition), appendix A, CACHE; chapter 11 for TagLo. Which of them are
-- Forge and Peek is this project's own.
use Rattle.std.specs.Prelude.{ℕ, ◌/◌, ◌%◌, ◌^◌, ◌==◌, not, Bool, true, false, Option, Some, None, if◌then◌else◌}
use Rattle.cache_codes.specs.Codes.{code_of}
use Rattle.cache_codes.specs.declared.codes.Cache.{Cache}
use Rattle.cache_codes.specs.declared.codes.Cache.TheVariants.{PrimaryInstruction, PrimaryData, SecondaryInstruction, SecondaryData}
use Rattle.cache_codes.specs.declared.codes.CacheCode.{CacheCode}
use Rattle.cache_codes.specs.declared.codes.Verb.{Verb}
use Rattle.cache_codes.specs.declared.codes.Verb.TheVariants as verb
use Rattle.rule_ledger.specs.declared.operations.IndexOperation.{IndexOperation}
use Rattle.rule_ledger.specs.declared.operations.IndexOperation.TheVariants.{InvalidateI, WritebackInvalidateD, StoreTagD}
use Rattle.rule_ledger.specs.declared.operations.HitOperation.TheVariants.{HitInvalidateI, HitInvalidateD, FillI, HitWritebackInvalidateD, HitWritebackD}
use Rattle.rule_ledger.specs.declared.operations.Operation.{Operation}
use Rattle.rule_ledger.specs.declared.operations.Operation.TheVariants.{Index, Hit, Forge, Peek, Nothing}

-- the state in TagLo, bits 7:6, is a valid one
abbrev pub is_valid : ℕ → Bool
is_valid tag_lo = not (tag_lo / 2 ^ 6 % 2 ^ 2 == 0)

-- Index Store Tag forges a line where the state is valid.
abbrev pub stored : ℕ → IndexOperation → Operation
stored tag_lo invalid = if is_valid tag_lo then Forge else Index invalid

-- What a verb is on the instruction cache, where the sixth one is Fill. Index Store Tag throws the line away where the state is
-- invalid. The verbs that a cache does not have do nothing.
abbrev pub on_instructions : Verb → ℕ → Operation
on_instructions verb.IndexWritebackInvalidate tag_lo = Index InvalidateI
on_instructions verb.IndexLoadTag tag_lo = Peek
on_instructions verb.IndexStoreTag tag_lo = stored tag_lo InvalidateI
on_instructions verb.CreateDirtyExclusive tag_lo = Nothing
on_instructions verb.HitInvalidate tag_lo = Hit HitInvalidateI
on_instructions verb.HitWritebackInvalidate tag_lo = Hit FillI
on_instructions verb.HitWriteback tag_lo = Forge
on_instructions verb.HitSetVirtual tag_lo = Nothing

-- what it is on the data cache
abbrev pub on_data : Verb → ℕ → Operation
on_data verb.IndexWritebackInvalidate tag_lo = Index WritebackInvalidateD
on_data verb.IndexLoadTag tag_lo = Peek
on_data verb.IndexStoreTag tag_lo = stored tag_lo StoreTagD
on_data verb.CreateDirtyExclusive tag_lo = Forge
on_data verb.HitInvalidate tag_lo = Hit HitInvalidateD
on_data verb.HitWritebackInvalidate tag_lo = Hit HitWritebackInvalidateD
on_data verb.HitWriteback tag_lo = Hit HitWritebackD
on_data verb.HitSetVirtual tag_lo = Nothing

-- what it is on a cache: nothing on a secondary one, which such a machine does not have
abbrev pub ruled : Cache → Verb → ℕ → Operation
ruled PrimaryInstruction verb tag_lo = on_instructions verb tag_lo
ruled PrimaryData verb tag_lo = on_data verb tag_lo
ruled SecondaryInstruction verb tag_lo = Nothing
ruled SecondaryData verb tag_lo = Nothing

-- the operation of a code: a number that is none does nothing
abbrev pub ruled_by : Option CacheCode → ℕ → Operation
ruled_by None tag_lo = Nothing
ruled_by (Some code) tag_lo = ruled code.cache code.verb tag_lo

abbrev pub operation_of : ℕ → ℕ → Operation
operation_of code tag_lo = ruled_by (code_of code) tag_lo

-- The operations on an index that no fact can forbid: a ledger need not look at the cells of the index.
abbrev pub flushes : IndexOperation → Bool
flushes InvalidateI = true
flushes WritebackInvalidateD = true
flushes StoreTagD = false

abbrev pub is_flush : Operation → Bool
is_flush (Index operation) = flushes operation
is_flush (Hit operation) = false
is_flush Forge = false
is_flush Peek = false
is_flush Nothing = false
