-- Decoding an instruction's word gives it back, and the word's unused bits are zero.
use Rattle.mips3_code.proofs.RoundTrip.{decoded_encoded, encoded_unused}
use Rattle.mips3_code.proofs.coding.encode.Goals as goal

pub returns-clause-decoded : goal.returns-clause-decoded
returns-clause-decoded c = rw c.word_of.ensures (decoded_encoded c.args.inst.now c.requires)

pub returns-clause-unused : goal.returns-clause-unused
returns-clause-unused c = rw c.word_of.ensures (encoded_unused c.args.inst.now c.requires)
