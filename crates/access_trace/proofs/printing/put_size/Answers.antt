use Rattle.std.proofs.Common.{◌≤◌, arith, length}
use Rattle.r4_words.specs.Texts.{dec_of}
use Rattle.access_trace.proofs.Digits.{length_behind, length_dec_of_byte}
use Rattle.access_trace.proofs.printing.put_size.Goals as goal

pub returns-clause-len : goal.returns-clause-len
returns-clause-len c =
    let few : length (dec_of c.from.result) ≤ 3 = length_dec_of_byte c.from.result (omega arith) in
    length_behind _ _ (dec_of c.from.result) 3 c.put_short.ensures.items few
