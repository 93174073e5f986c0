use Rattle.std.proofs.Common.{◌≡◌, Some, None, sym, ap, ◌∙◌}
use Rattle.flat_ram.specs.Bytes.{bytes_of}
use Rattle.mips_text.specs.Coded.{Given, word_with, distance_to, branch_to}
use Rattle.mips_text.proofs.Reached.{given_distance}
use Rattle.mips_asm.proofs.coding.branch_word.Goals as goal

pub returns-in-Some : goal.returns-in-Some
unfolding branch_to
returns-in-Some c =
    let given = c.branch_distance.ensures in
    let reached : distance_to c.args.at c.args.target ≡ Some c.in-Some.imm = sym (given_distance c.args.at c.args.target c.branch_distance.result given.distance given.too_far) ∙ c.in-Some.is in
    ap (λ word. Given (bytes_of word)) c.encode.ensures.value ∙ sym (ap (word_with c.args.inst.now) reached)

pub returns-in-None : goal.returns-in-None
unfolding branch_to
returns-in-None c =
    let given = c.branch_distance.ensures in
    let missed : distance_to c.args.at c.args.target ≡ None = sym (given_distance c.args.at c.args.target c.branch_distance.result given.distance given.too_far) ∙ c.in-None.is in
    sym (ap (word_with c.args.inst.now) missed)
