use Rattle.std.proofs.Common.{◌≡◌, ◌<◌, ◌/◌, ◌%◌, ◌^◌, ap, sym, ◌∙◌, subst, arith}
use Rattle.mips3_table.specs.declared.instruction.Inst.{Inst}
use Rattle.mips3_table.specs.Instructions.{IsInst}
use Rattle.mips_text.specs.Line.{bare, lui_row}
use Rattle.mips_asm.proofs.NamedRows.{lui_inst}
use Rattle.mips_asm.proofs.coding.upper_loading.Goals as goal

pub returns : goal.returns
returns c =
    let half : c.args.number / 65536 ≡ c.args.number / 2 ^ 16 % 2 ^ 16 = omega (arith, c.ranges.number.fits) in
    let fits : c.args.number / 2 ^ 16 % 2 ^ 16 < 2 ^ 16 = omega arith in
    let value =
    ap (λ (inst : Inst). record inst { rt = c.args.register; imm = c.args.number / 65536 }) (c.bare.ensures ∙ ap bare c.lui_row.ensures)
    ∙ ap (λ imm. record (bare lui_row) { rt = c.args.register; imm = imm }) half in
    record { value = value; is_inst = subst IsInst (sym value) (lui_inst c.args.register (c.args.number / 2 ^ 16 % 2 ^ 16) c.requires fits) }
