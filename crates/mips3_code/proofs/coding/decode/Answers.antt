-- What is decoded is in range, and encoding it gives the word back.
use Rattle.mips3_code.proofs.RoundTrip.{decoded_none, decoded_in_range, decoded_encoded_back}
use Rattle.mips3_code.proofs.coding.decode.Goals as goal

pub returns-clause-reserved : goal.returns-clause-reserved
returns-clause-reserved c = rw c.instruction_of.ensures (decoded_none c.args.word)

pub returns-clause-in_range : goal.returns-clause-in_range
returns-clause-in_range c = rw c.instruction_of.ensures (decoded_in_range c.args.word c.ranges.word.fits)

pub returns-clause-encoded : goal.returns-clause-encoded
returns-clause-encoded c = rw c.instruction_of.ensures (decoded_encoded_back c.args.word c.ranges.word.fits)
