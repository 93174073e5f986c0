use Rattle.access_trace.proofs.Digits.{digit_and_word}
use Rattle.access_trace.proofs.printing.put_address.Goals as goal

pub returns-clause-items : goal.returns-clause-items
returns-clause-items c = digit_and_word c.args.value c.hex_pair.result _ _ _ _ c.hex_pair.ensures c.push.ensures.items c.put_word.ensures.items
