use Rattle.std.proofs.Common.{◌++◌, ◌∷◌, [], ◌∙◌, ◌/◌, ◌^◌, ◌-◌, ap, sym, append-nil, arith}
use Rattle.r4_words.proofs.Written.{hex_of_none, hex_of_pushed}
use Rattle.r4_words.proofs.writing.put_hex.Goals as goal

pub loop-place-init : goal.loop-place-init
loop-place-init c = (sym (ap (λ text. c.args.line.now.items ++ text) (hex_of_none 0 (c.args.value / 16 ^ (c.args.digits - 0)) (omega arith)) ∙ append-nil c.args.line.now.items), omega arith)

pub loop-place-preserved : goal.loop-place-preserved
loop-place-preserved c = (
  hex_of_pushed c.args.value c.args.digits c.loop-place.place c.args.line.now.items c.loop-place.line.items c.push.new.self.items c.loop-place-test.true c.loop-place.invariant.0
      (c.push.ensures.items ∙ ap (λ last. c.loop-place.line.items ++ last ∷ []) c.hex_digit.ensures),
  omega (arith, c.push.ensures.len, c.loop-place.invariant.1),
)
