use Rattle.std.proofs.Common.{◌≡◌, Some, None, sym, ap, ◌∙◌}
use Rattle.flat_ram.specs.Bytes.{bytes_of}
use Rattle.mips_text.specs.Coded.{Given, word_with, word_number, jump_to}
use Rattle.mips_text.proofs.Reached.{given_number}
use Rattle.mips_asm.proofs.coding.jump_word.Goals as goal

pub returns-in-Some : goal.returns-in-Some
unfolding jump_to
returns-in-Some c =
    let given = c.jump_number.ensures in
    let reached : word_number c.args.at c.args.target ≡ Some c.in-Some.imm = sym (given_number c.args.at c.args.target c.jump_number.result given.number given.too_far) ∙ c.in-Some.is in
    ap (λ word. Given (bytes_of word)) c.encode.ensures.value ∙ sym (ap (word_with c.args.inst.now) reached)

pub returns-in-None : goal.returns-in-None
unfolding jump_to
returns-in-None c =
    let given = c.jump_number.ensures in
    let missed : word_number c.args.at c.args.target ≡ None = sym (given_number c.args.at c.args.target c.jump_number.result given.number given.too_far) ∙ c.in-None.is in
    sym (ap (word_with c.args.inst.now) missed)
