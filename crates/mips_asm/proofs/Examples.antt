-- Whole sources, computed by the definitions alone.
use Rattle.std.proofs.Common.{◌≡◌, [], ◌∷◌, refl}
use Rattle.std.specs.Prelude.{codes}
use Rattle.flat_ram.specs.Bytes.{zeros_of}
use Rattle.mips3_table.specs.Rows.{rows, row_at}
use Rattle.mips3_code.specs.Coding.{encoded}
use Rattle.mips_text.specs.declared.reason.AsmWhy.TheVariants as why
use Rattle.mips_text.specs.Tokens.{tokens_of, cut_from, start_of}
use Rattle.mips_text.specs.Names.{register_names, register_of, cp0_names, cp0_register_of}
use Rattle.mips_text.specs.Values.{number_of, bytes_of_text}
use Rattle.mips3_table.specs.Matching.{row_named}
use Rattle.mips_text.specs.Forms.{statement_named}
use Rattle.mips3_code.specs.Targets.{branch_target, jump_target}
use Rattle.mips_text.specs.Line.{operands_fault, item_of, read_statement, read_line, beq_row, ori_row, lui_row, or_row}
use Rattle.mips_text.proofs.Reached.{distance_is, number_is}
use Rattle.mips_asm.specs.Layout.{base_of, size_at, fault_at, layout_fault}
use Rattle.mips_text.specs.Least.{least}
use Rattle.mips_text.specs.Coded.{distance_to, word_number, branch_to, jump_to, loading, bytes_of_words, coded_at}
use Rattle.mips_asm.specs.Assembly.{Image, Bad, coding_fault, assembled}

a_short_program : assembled (codes ".org 0xa0010000\nlui t0,0xbf00\nori t1,zero,0x41\nsw t1,0(t0)\nsw t1,32(t0)\nnop\n") ≡ Image 0xa0010000 0xa0010000 (bytes_of_words (0x3c08bf00 ∷ 0x34090041 ∷ 0xad090000 ∷ 0xad090020 ∷ 0 ∷ []))
unfolding assembled base_of read_line read_statement item_of operands_fault size_at fault_at layout_fault coding_fault least coded_at loading branch_to jump_to distance_to word_number tokens_of cut_from start_of register_of register_names cp0_register_of cp0_names statement_named row_named row_at rows number_of bytes_of_text encoded branch_target jump_target zeros_of
a_short_program = refl

no_statement : assembled (codes "foo") ≡ Bad 1 why.Unknown
unfolding assembled base_of read_line read_statement item_of operands_fault size_at fault_at layout_fault coding_fault least coded_at loading branch_to jump_to distance_to word_number tokens_of cut_from start_of register_of register_names cp0_register_of cp0_names statement_named row_named row_at rows number_of bytes_of_text encoded branch_target jump_target zeros_of
no_statement = refl

a_label_twice : assembled (codes "x: nop\nx: nop\n") ≡ Bad 2 why.Twice
unfolding assembled base_of read_line read_statement item_of operands_fault size_at fault_at layout_fault coding_fault least coded_at loading branch_to jump_to distance_to word_number tokens_of cut_from start_of register_of register_names cp0_register_of cp0_names statement_named row_named row_at rows number_of bytes_of_text encoded branch_target jump_target zeros_of
a_label_twice = refl

no_label : assembled (codes "j y") ≡ Bad 1 why.NoLabel
unfolding assembled base_of read_line read_statement item_of operands_fault size_at fault_at layout_fault coding_fault least coded_at loading branch_to jump_to distance_to word_number tokens_of cut_from start_of register_of register_names cp0_register_of cp0_names statement_named row_named row_at rows number_of bytes_of_text encoded branch_target jump_target zeros_of
no_label = refl

no_label_to_load : assembled (codes "nop\nla t0,y") ≡ Bad 2 why.NoLabel
unfolding assembled base_of read_line read_statement item_of operands_fault size_at fault_at layout_fault coding_fault least coded_at loading branch_to jump_to distance_to word_number tokens_of cut_from start_of register_of register_names cp0_register_of cp0_names statement_named row_named row_at rows number_of bytes_of_text encoded branch_target jump_target zeros_of
no_label_to_load = refl

an_empty_source : assembled (codes "") ≡ Image 0x80010000 0x80010000 []
unfolding assembled base_of read_line read_statement item_of operands_fault size_at fault_at layout_fault coding_fault least coded_at loading branch_to jump_to distance_to word_number tokens_of cut_from start_of register_of register_names cp0_register_of cp0_names statement_named row_named row_at rows number_of bytes_of_text encoded branch_target jump_target zeros_of
an_empty_source = refl

a_text_without_its_end : assembled (codes "foo \"abc") ≡ Bad 1 why.Operand
unfolding assembled base_of read_line read_statement item_of operands_fault size_at fault_at layout_fault coding_fault least coded_at loading branch_to jump_to distance_to word_number tokens_of cut_from start_of register_of register_names cp0_register_of cp0_names statement_named row_named row_at rows number_of bytes_of_text encoded branch_target jump_target zeros_of
a_text_without_its_end = refl

a_number_for_a_name : assembled (codes "5") ≡ Bad 1 why.Operand
unfolding assembled base_of read_line read_statement item_of operands_fault size_at fault_at layout_fault coding_fault least coded_at loading branch_to jump_to distance_to word_number tokens_of cut_from start_of register_of register_names cp0_register_of cp0_names statement_named row_named row_at rows number_of bytes_of_text encoded branch_target jump_target zeros_of
a_number_for_a_name = refl

two_labels : assembled (codes "x: y: nop") ≡ Bad 1 why.Unknown
unfolding assembled base_of read_line read_statement item_of operands_fault size_at fault_at layout_fault coding_fault least coded_at loading branch_to jump_to distance_to word_number tokens_of cut_from start_of register_of register_names cp0_register_of cp0_names statement_named row_named row_at rows number_of bytes_of_text encoded branch_target jump_target zeros_of
two_labels = refl

too_few_operands : assembled (codes "addu t0,t1") ≡ Bad 1 why.Operand
unfolding assembled base_of read_line read_statement item_of operands_fault size_at fault_at layout_fault coding_fault least coded_at loading branch_to jump_to distance_to word_number tokens_of cut_from start_of register_of register_names cp0_register_of cp0_names statement_named row_named row_at rows number_of bytes_of_text encoded branch_target jump_target zeros_of
too_few_operands = refl

too_many_operands : assembled (codes "nop 5") ≡ Bad 1 why.Operand
unfolding assembled base_of read_line read_statement item_of operands_fault size_at fault_at layout_fault coding_fault least coded_at loading branch_to jump_to distance_to word_number tokens_of cut_from start_of register_of register_names cp0_register_of cp0_names statement_named row_named row_at rows number_of bytes_of_text encoded branch_target jump_target zeros_of
too_many_operands = refl

no_register : assembled (codes "addu t0,foo") ≡ Bad 1 why.Unknown
unfolding assembled base_of read_line read_statement item_of operands_fault size_at fault_at layout_fault coding_fault least coded_at loading branch_to jump_to distance_to word_number tokens_of cut_from start_of register_of register_names cp0_register_of cp0_names statement_named row_named row_at rows number_of bytes_of_text encoded branch_target jump_target zeros_of
no_register = refl

no_base_register : assembled (codes "lw t0,4(foo)") ≡ Bad 1 why.Unknown
unfolding assembled base_of read_line read_statement item_of operands_fault size_at fault_at layout_fault coding_fault least coded_at loading branch_to jump_to distance_to word_number tokens_of cut_from start_of register_of register_names cp0_register_of cp0_names statement_named row_named row_at rows number_of bytes_of_text encoded branch_target jump_target zeros_of
no_base_register = refl

a_number_for_a_register : assembled (codes "addu t0,t1,5") ≡ Bad 1 why.Operand
unfolding assembled base_of read_line read_statement item_of operands_fault size_at fault_at layout_fault coding_fault least coded_at loading branch_to jump_to distance_to word_number tokens_of cut_from start_of register_of register_names cp0_register_of cp0_names statement_named row_named row_at rows number_of bytes_of_text encoded branch_target jump_target zeros_of
a_number_for_a_register = refl

unknown_before_operand : assembled (codes "addu 5,foo,t1") ≡ Bad 1 why.Unknown
unfolding assembled base_of read_line read_statement item_of operands_fault size_at fault_at layout_fault coding_fault least coded_at loading branch_to jump_to distance_to word_number tokens_of cut_from start_of register_of register_names cp0_register_of cp0_names statement_named row_named row_at rows number_of bytes_of_text encoded branch_target jump_target zeros_of
unknown_before_operand = refl

a_label_of_a_number : assembled (codes "$5: j $5") ≡ Image 0x80010000 0x80010000 (bytes_of_words (0x08004000 ∷ []))
unfolding assembled base_of read_line read_statement item_of operands_fault size_at fault_at layout_fault coding_fault least coded_at loading branch_to jump_to tokens_of cut_from start_of register_of register_names cp0_register_of cp0_names statement_named row_named row_at rows number_of bytes_of_text encoded branch_target jump_target zeros_of
a_label_of_a_number = rw (number_is 0x80010000 0x80010000, number_is 0x80010000 0x80010000) refl

no_such_register : assembled (codes "jr $32") ≡ Bad 1 why.Unknown
unfolding assembled base_of read_line read_statement item_of operands_fault size_at fault_at layout_fault coding_fault least coded_at loading branch_to jump_to distance_to word_number tokens_of cut_from start_of register_of register_names cp0_register_of cp0_names statement_named row_named row_at rows number_of bytes_of_text encoded branch_target jump_target zeros_of
no_such_register = refl

a_leading_zero : assembled (codes "jr $05") ≡ Bad 1 why.Unknown
unfolding assembled base_of read_line read_statement item_of operands_fault size_at fault_at layout_fault coding_fault least coded_at loading branch_to jump_to distance_to word_number tokens_of cut_from start_of register_of register_names cp0_register_of cp0_names statement_named row_named row_at rows number_of bytes_of_text encoded branch_target jump_target zeros_of
a_leading_zero = refl

an_unnamed_register : assembled (codes "mtc0 t0,c7") ≡ Image 0x80010000 0x80010000 (bytes_of_words (0x40883800 ∷ []))
unfolding assembled base_of read_line read_statement item_of operands_fault size_at fault_at layout_fault coding_fault least coded_at loading branch_to jump_to distance_to word_number tokens_of cut_from start_of register_of register_names cp0_register_of cp0_names statement_named row_named row_at rows number_of bytes_of_text encoded branch_target jump_target zeros_of
an_unnamed_register = refl

an_unnamed_register_with_a_zero : assembled (codes "mtc0 t0,c07") ≡ Bad 1 why.Unknown
unfolding assembled base_of read_line read_statement item_of operands_fault size_at fault_at layout_fault coding_fault least coded_at loading branch_to jump_to distance_to word_number tokens_of cut_from start_of register_of register_names cp0_register_of cp0_names statement_named row_named row_at rows number_of bytes_of_text encoded branch_target jump_target zeros_of
an_unnamed_register_with_a_zero = refl

a_lone_minus : assembled (codes "li t0,-") ≡ Bad 1 why.Unknown
unfolding assembled base_of read_line read_statement item_of operands_fault size_at fault_at layout_fault coding_fault least coded_at loading branch_to jump_to distance_to word_number tokens_of cut_from start_of register_of register_names cp0_register_of cp0_names statement_named row_named row_at rows number_of bytes_of_text encoded branch_target jump_target zeros_of
a_lone_minus = refl

the_lowest_immediate : assembled (codes "addiu t0,t0,-32768") ≡ Image 0x80010000 0x80010000 (bytes_of_words (0x25088000 ∷ []))
unfolding assembled base_of read_line read_statement item_of operands_fault size_at fault_at layout_fault coding_fault least coded_at loading branch_to jump_to distance_to word_number tokens_of cut_from start_of register_of register_names cp0_register_of cp0_names statement_named row_named row_at rows number_of bytes_of_text encoded branch_target jump_target zeros_of
the_lowest_immediate = refl

an_immediate_too_large : assembled (codes "addiu t0,t0,0xffff") ≡ Bad 1 why.Range
unfolding assembled base_of read_line read_statement item_of operands_fault size_at fault_at layout_fault coding_fault least coded_at loading branch_to jump_to distance_to word_number tokens_of cut_from start_of register_of register_names cp0_register_of cp0_names statement_named row_named row_at rows number_of bytes_of_text encoded branch_target jump_target zeros_of
an_immediate_too_large = refl

the_largest_unsigned_immediate : assembled (codes "ori t0,t0,65535") ≡ Image 0x80010000 0x80010000 (bytes_of_words (0x3508ffff ∷ []))
unfolding assembled base_of read_line read_statement item_of operands_fault size_at fault_at layout_fault coding_fault least coded_at loading branch_to jump_to distance_to word_number tokens_of cut_from start_of register_of register_names cp0_register_of cp0_names statement_named row_named row_at rows number_of bytes_of_text encoded branch_target jump_target zeros_of
the_largest_unsigned_immediate = refl

a_negative_unsigned_immediate : assembled (codes "ori t0,t0,-1") ≡ Bad 1 why.Range
unfolding assembled base_of read_line read_statement item_of operands_fault size_at fault_at layout_fault coding_fault least coded_at loading branch_to jump_to distance_to word_number tokens_of cut_from start_of register_of register_names cp0_register_of cp0_names statement_named row_named row_at rows number_of bytes_of_text encoded branch_target jump_target zeros_of
a_negative_unsigned_immediate = refl

no_number : assembled (codes ".word") ≡ Bad 1 why.Operand
unfolding assembled base_of read_line read_statement item_of operands_fault size_at fault_at layout_fault coding_fault least coded_at loading branch_to jump_to distance_to word_number tokens_of cut_from start_of register_of register_names cp0_register_of cp0_names statement_named row_named row_at rows number_of bytes_of_text encoded branch_target jump_target zeros_of
no_number = refl

a_comma_at_the_end : assembled (codes ".word 1,") ≡ Bad 1 why.Operand
unfolding assembled base_of read_line read_statement item_of operands_fault size_at fault_at layout_fault coding_fault least coded_at loading branch_to jump_to distance_to word_number tokens_of cut_from start_of register_of register_names cp0_register_of cp0_names statement_named row_named row_at rows number_of bytes_of_text encoded branch_target jump_target zeros_of
a_comma_at_the_end = refl

no_code : assembled (codes "syscall") ≡ Bad 1 why.Operand
unfolding assembled base_of read_line read_statement item_of operands_fault size_at fault_at layout_fault coding_fault least coded_at loading branch_to jump_to distance_to word_number tokens_of cut_from start_of register_of register_names cp0_register_of cp0_names statement_named row_named row_at rows number_of bytes_of_text encoded branch_target jump_target zeros_of
no_code = refl

no_link_register : assembled (codes "jalr t0") ≡ Bad 1 why.Operand
unfolding assembled base_of read_line read_statement item_of operands_fault size_at fault_at layout_fault coding_fault least coded_at loading branch_to jump_to distance_to word_number tokens_of cut_from start_of register_of register_names cp0_register_of cp0_names statement_named row_named row_at rows number_of bytes_of_text encoded branch_target jump_target zeros_of
no_link_register = refl

an_alignment : assembled (codes ".byte 1\n.align 2\nnop") ≡ Image 0x80010000 0x80010000 (bytes_of_words (0x01000000 ∷ 0 ∷ []))
unfolding assembled base_of read_line read_statement item_of operands_fault size_at fault_at layout_fault coding_fault least coded_at loading branch_to jump_to distance_to word_number tokens_of cut_from start_of register_of register_names cp0_register_of cp0_names statement_named row_named row_at rows number_of bytes_of_text encoded branch_target jump_target zeros_of
an_alignment = refl

a_base_of_33_bits : assembled (codes ".org 4294967296\nnop") ≡ Bad 1 why.Range
unfolding assembled base_of read_line read_statement item_of operands_fault size_at fault_at layout_fault coding_fault least coded_at loading branch_to jump_to distance_to word_number tokens_of cut_from start_of register_of register_names cp0_register_of cp0_names statement_named row_named row_at rows number_of bytes_of_text encoded branch_target jump_target zeros_of
a_base_of_33_bits = refl

a_base_that_is_mapped : assembled (codes ".org 0x1") ≡ Bad 1 why.Range
unfolding assembled base_of read_line read_statement item_of operands_fault size_at fault_at layout_fault coding_fault least coded_at loading branch_to jump_to distance_to word_number tokens_of cut_from start_of register_of register_names cp0_register_of cp0_names statement_named row_named row_at rows number_of bytes_of_text encoded branch_target jump_target zeros_of
a_base_that_is_mapped = refl

an_entry_between_words : assembled (codes "start:\n.org 0x80010002") ≡ Bad 1 why.Align
unfolding assembled base_of read_line read_statement item_of operands_fault size_at fault_at layout_fault coding_fault least coded_at loading branch_to jump_to distance_to word_number tokens_of cut_from start_of register_of register_names cp0_register_of cp0_names statement_named row_named row_at rows number_of bytes_of_text encoded branch_target jump_target zeros_of
an_entry_between_words = refl

no_byte_before_the_base : assembled (codes ".align 2\n.space 0\n.ascii \"\"\n.org 0xa0010010\nnop") ≡ Image 0xa0010010 0xa0010010 (bytes_of_words (0 ∷ []))
unfolding assembled base_of read_line read_statement item_of operands_fault size_at fault_at layout_fault coding_fault least coded_at loading branch_to jump_to distance_to word_number tokens_of cut_from start_of register_of register_names cp0_register_of cp0_names statement_named row_named row_at rows number_of bytes_of_text encoded branch_target jump_target zeros_of
no_byte_before_the_base = refl

a_base_between_words : assembled (codes ".org 0x80010002\n.byte 1") ≡ Image 0x80010002 0x80010002 (1 ∷ [])
unfolding assembled base_of read_line read_statement item_of operands_fault size_at fault_at layout_fault coding_fault least coded_at loading branch_to jump_to distance_to word_number tokens_of cut_from start_of register_of register_names cp0_register_of cp0_names statement_named row_named row_at rows number_of bytes_of_text encoded branch_target jump_target zeros_of
a_base_between_words = refl

a_number_of_32_bits : assembled (codes "li t0,-1") ≡ Image 0x80010000 0x80010000 (bytes_of_words (0x3c08ffff ∷ 0x3508ffff ∷ []))
unfolding assembled base_of read_line read_statement item_of operands_fault size_at fault_at layout_fault coding_fault least coded_at loading branch_to jump_to distance_to word_number tokens_of cut_from start_of register_of register_names cp0_register_of cp0_names statement_named row_named row_at rows number_of bytes_of_text encoded branch_target jump_target zeros_of lui_row ori_row
a_number_of_32_bits = refl

the_address_of_a_label : assembled (codes "la t0,x\nx: nop") ≡ Image 0x80010000 0x80010000 (bytes_of_words (0x3c088001 ∷ 0x35080008 ∷ 0 ∷ []))
unfolding assembled base_of read_line read_statement item_of operands_fault size_at fault_at layout_fault coding_fault least coded_at loading branch_to jump_to distance_to word_number tokens_of cut_from start_of register_of register_names cp0_register_of cp0_names statement_named row_named row_at rows number_of bytes_of_text encoded branch_target jump_target zeros_of lui_row ori_row
the_address_of_a_label = refl

a_branch_that_just_reaches : assembled (codes "b 0x80030000") ≡ Image 0x80010000 0x80010000 (bytes_of_words (0x10007fff ∷ []))
unfolding assembled base_of read_line read_statement item_of operands_fault size_at fault_at layout_fault coding_fault least coded_at loading branch_to jump_to tokens_of cut_from start_of register_of register_names cp0_register_of cp0_names statement_named row_named row_at rows number_of bytes_of_text encoded branch_target jump_target zeros_of beq_row
a_branch_that_just_reaches = rw (distance_is 0x80010000 0x80030000, distance_is 0x80010000 0x80030000) refl

a_branch_too_far : assembled (codes "b 0x80030004") ≡ Bad 1 why.Range
unfolding assembled base_of read_line read_statement item_of operands_fault size_at fault_at layout_fault coding_fault least coded_at loading branch_to jump_to tokens_of cut_from start_of register_of register_names cp0_register_of cp0_names statement_named row_named row_at rows number_of bytes_of_text encoded branch_target jump_target zeros_of
a_branch_too_far = rw (distance_is 0x80010000 0x80030004) refl

a_branch_back_that_just_reaches : assembled (codes "b 0x7fff0004") ≡ Image 0x80010000 0x80010000 (bytes_of_words (0x10008000 ∷ []))
unfolding assembled base_of read_line read_statement item_of operands_fault size_at fault_at layout_fault coding_fault least coded_at loading branch_to jump_to tokens_of cut_from start_of register_of register_names cp0_register_of cp0_names statement_named row_named row_at rows number_of bytes_of_text encoded branch_target jump_target zeros_of beq_row
a_branch_back_that_just_reaches = rw (distance_is 0x80010000 0x7fff0004, distance_is 0x80010000 0x7fff0004) refl

a_branch_back_too_far : assembled (codes "b 0x7fff0000") ≡ Bad 1 why.Range
unfolding assembled base_of read_line read_statement item_of operands_fault size_at fault_at layout_fault coding_fault least coded_at loading branch_to jump_to tokens_of cut_from start_of register_of register_names cp0_register_of cp0_names statement_named row_named row_at rows number_of bytes_of_text encoded branch_target jump_target zeros_of
a_branch_back_too_far = rw (distance_is 0x80010000 0x7fff0000) refl

a_branch_between_words : assembled (codes "b 0x80010002") ≡ Bad 1 why.Range
unfolding assembled base_of read_line read_statement item_of operands_fault size_at fault_at layout_fault coding_fault least coded_at loading branch_to jump_to tokens_of cut_from start_of register_of register_names cp0_register_of cp0_names statement_named row_named row_at rows number_of bytes_of_text encoded branch_target jump_target zeros_of
a_branch_between_words = rw (distance_is 0x80010000 0x80010002) refl

a_jump_that_just_reaches : assembled (codes "j 0x8ffffffc") ≡ Image 0x80010000 0x80010000 (bytes_of_words (0x0bffffff ∷ []))
unfolding assembled base_of read_line read_statement item_of operands_fault size_at fault_at layout_fault coding_fault least coded_at loading branch_to jump_to tokens_of cut_from start_of register_of register_names cp0_register_of cp0_names statement_named row_named row_at rows number_of bytes_of_text encoded branch_target jump_target zeros_of
a_jump_that_just_reaches = rw (number_is 0x80010000 0x8ffffffc, number_is 0x80010000 0x8ffffffc) refl

a_jump_too_far : assembled (codes "j 0x90000000") ≡ Bad 1 why.Range
unfolding assembled base_of read_line read_statement item_of operands_fault size_at fault_at layout_fault coding_fault least coded_at loading branch_to jump_to tokens_of cut_from start_of register_of register_names cp0_register_of cp0_names statement_named row_named row_at rows number_of bytes_of_text encoded branch_target jump_target zeros_of
a_jump_too_far = rw (number_is 0x80010000 0x90000000) refl

a_jump_between_words : assembled (codes "j 0x80010002") ≡ Bad 1 why.Range
unfolding assembled base_of read_line read_statement item_of operands_fault size_at fault_at layout_fault coding_fault least coded_at loading branch_to jump_to tokens_of cut_from start_of register_of register_names cp0_register_of cp0_names statement_named row_named row_at rows number_of bytes_of_text encoded branch_target jump_target zeros_of
a_jump_between_words = rw (number_is 0x80010000 0x80010002) refl

a_long_label : assembled (codes "aaaaaaaaaaaaaaaaaaaaaaaaaaaaaaaaaaaaaaaaaaaaaaaaaaaaaaaaaaaaaaaa: nop") ≡ Image 0x80010000 0x80010000 (bytes_of_words (0 ∷ []))
unfolding assembled base_of read_line read_statement item_of operands_fault size_at fault_at layout_fault coding_fault least coded_at loading branch_to jump_to distance_to word_number tokens_of cut_from start_of register_of register_names cp0_register_of cp0_names statement_named row_named row_at rows number_of bytes_of_text encoded branch_target jump_target zeros_of
a_long_label = refl

a_label_too_long : assembled (codes "aaaaaaaaaaaaaaaaaaaaaaaaaaaaaaaaaaaaaaaaaaaaaaaaaaaaaaaaaaaaaaaaa: nop") ≡ Bad 1 why.Range
unfolding assembled base_of read_line read_statement item_of operands_fault size_at fault_at layout_fault coding_fault least coded_at loading branch_to jump_to distance_to word_number tokens_of cut_from start_of register_of register_names cp0_register_of cp0_names statement_named row_named row_at rows number_of bytes_of_text encoded branch_target jump_target zeros_of
a_label_too_long = refl

an_alignment_too_large : assembled (codes ".align 13") ≡ Bad 1 why.Align
unfolding assembled base_of read_line read_statement item_of operands_fault size_at fault_at layout_fault coding_fault least coded_at loading branch_to jump_to distance_to word_number tokens_of cut_from start_of register_of register_names cp0_register_of cp0_names statement_named row_named row_at rows number_of bytes_of_text encoded branch_target jump_target zeros_of
an_alignment_too_large = refl

a_negative_alignment : assembled (codes ".align -1") ≡ Bad 1 why.Align
unfolding assembled base_of read_line read_statement item_of operands_fault size_at fault_at layout_fault coding_fault least coded_at loading branch_to jump_to distance_to word_number tokens_of cut_from start_of register_of register_names cp0_register_of cp0_names statement_named row_named row_at rows number_of bytes_of_text encoded branch_target jump_target zeros_of
a_negative_alignment = refl

range_before_twice : assembled (codes "x: nop\nx: addiu t0,t0,40000") ≡ Bad 2 why.Range
unfolding assembled base_of read_line read_statement item_of operands_fault size_at fault_at layout_fault coding_fault least coded_at loading branch_to jump_to distance_to word_number tokens_of cut_from start_of register_of register_names cp0_register_of cp0_names statement_named row_named row_at rows number_of bytes_of_text encoded branch_target jump_target zeros_of
range_before_twice = refl

twice_before_alignment : assembled (codes "x: .byte 1\nx: nop") ≡ Bad 2 why.Twice
unfolding assembled base_of read_line read_statement item_of operands_fault size_at fault_at layout_fault coding_fault least coded_at loading branch_to jump_to distance_to word_number tokens_of cut_from start_of register_of register_names cp0_register_of cp0_names statement_named row_named row_at rows number_of bytes_of_text encoded branch_target jump_target zeros_of
twice_before_alignment = refl

a_statement_between_words : assembled (codes ".byte 1\nnop") ≡ Bad 2 why.Align
unfolding assembled base_of read_line read_statement item_of operands_fault size_at fault_at layout_fault coding_fault least coded_at loading branch_to jump_to distance_to word_number tokens_of cut_from start_of register_of register_names cp0_register_of cp0_names statement_named row_named row_at rows number_of bytes_of_text encoded branch_target jump_target zeros_of
a_statement_between_words = refl

too_many_bytes : assembled (codes "nop\n.space 8388605") ≡ Bad 2 why.Range
unfolding assembled base_of read_line read_statement item_of operands_fault size_at fault_at layout_fault coding_fault least coded_at loading branch_to jump_to distance_to word_number tokens_of cut_from start_of register_of register_names cp0_register_of cp0_names statement_named row_named row_at rows number_of bytes_of_text encoded branch_target jump_target zeros_of
too_many_bytes = refl

moving_back : assembled (codes ".org 0x80010004\n.org 0x80010000") ≡ Bad 2 why.Range
unfolding assembled base_of read_line read_statement item_of operands_fault size_at fault_at layout_fault coding_fault least coded_at loading branch_to jump_to distance_to word_number tokens_of cut_from start_of register_of register_names cp0_register_of cp0_names statement_named row_named row_at rows number_of bytes_of_text encoded branch_target jump_target zeros_of
moving_back = refl

moving_on : assembled (codes ".org 0x80010000\n.org 0x80010004\nnop") ≡ Image 0x80010000 0x80010000 (bytes_of_words (0 ∷ 0 ∷ []))
unfolding assembled base_of read_line read_statement item_of operands_fault size_at fault_at layout_fault coding_fault least coded_at loading branch_to jump_to distance_to word_number tokens_of cut_from start_of register_of register_names cp0_register_of cp0_names statement_named row_named row_at rows number_of bytes_of_text encoded branch_target jump_target zeros_of
moving_on = refl

a_text : assembled (codes ".ascii \"a #\\n\\0\\\\\\\"\" # end") ≡ Image 0x80010000 0x80010000 (97 ∷ 32 ∷ 35 ∷ 10 ∷ 0 ∷ 92 ∷ 34 ∷ [])
unfolding assembled base_of read_line read_statement item_of operands_fault size_at fault_at layout_fault coding_fault least coded_at loading branch_to jump_to distance_to word_number tokens_of cut_from start_of register_of register_names cp0_register_of cp0_names statement_named row_named row_at rows number_of bytes_of_text encoded branch_target jump_target zeros_of
a_text = refl

no_escape : assembled (codes ".ascii \"\\x\"") ≡ Bad 1 why.Operand
unfolding assembled base_of read_line read_statement item_of operands_fault size_at fault_at layout_fault coding_fault least coded_at loading branch_to jump_to distance_to word_number tokens_of cut_from start_of register_of register_names cp0_register_of cp0_names statement_named row_named row_at rows number_of bytes_of_text encoded branch_target jump_target zeros_of
no_escape = refl

bytes : assembled (codes ".byte -128,255,0x7F") ≡ Image 0x80010000 0x80010000 (128 ∷ 255 ∷ 127 ∷ [])
unfolding assembled base_of read_line read_statement item_of operands_fault size_at fault_at layout_fault coding_fault least coded_at loading branch_to jump_to distance_to word_number tokens_of cut_from start_of register_of register_names cp0_register_of cp0_names statement_named row_named row_at rows number_of bytes_of_text encoded branch_target jump_target zeros_of
bytes = refl

a_byte_too_large : assembled (codes ".byte 256") ≡ Bad 1 why.Range
unfolding assembled base_of read_line read_statement item_of operands_fault size_at fault_at layout_fault coding_fault least coded_at loading branch_to jump_to distance_to word_number tokens_of cut_from start_of register_of register_names cp0_register_of cp0_names statement_named row_named row_at rows number_of bytes_of_text encoded branch_target jump_target zeros_of
a_byte_too_large = refl

words_of_both_signs : assembled (codes ".word -2147483648,4294967295") ≡ Image 0x80010000 0x80010000 (bytes_of_words (0x80000000 ∷ 0xffffffff ∷ []))
unfolding assembled base_of read_line read_statement item_of operands_fault size_at fault_at layout_fault coding_fault least coded_at loading branch_to jump_to distance_to word_number tokens_of cut_from start_of register_of register_names cp0_register_of cp0_names statement_named row_named row_at rows number_of bytes_of_text encoded branch_target jump_target zeros_of
words_of_both_signs = refl

a_word_too_large : assembled (codes ".word 4294967296") ≡ Bad 1 why.Range
unfolding assembled base_of read_line read_statement item_of operands_fault size_at fault_at layout_fault coding_fault least coded_at loading branch_to jump_to distance_to word_number tokens_of cut_from start_of register_of register_names cp0_register_of cp0_names statement_named row_named row_at rows number_of bytes_of_text encoded branch_target jump_target zeros_of
a_word_too_large = refl

a_cache_operation : assembled (codes "cache 0x15,4(t0)") ≡ Image 0x80010000 0x80010000 (bytes_of_words (0xbd150004 ∷ []))
unfolding assembled base_of read_line read_statement item_of operands_fault size_at fault_at layout_fault coding_fault least coded_at loading branch_to jump_to distance_to word_number tokens_of cut_from start_of register_of register_names cp0_register_of cp0_names statement_named row_named row_at rows number_of bytes_of_text encoded branch_target jump_target zeros_of
a_cache_operation = refl

a_move_from_coprocessor_0 : assembled (codes "mfc0 k0,EPC") ≡ Image 0x80010000 0x80010000 (bytes_of_words (0x401a7000 ∷ []))
unfolding assembled base_of read_line read_statement item_of operands_fault size_at fault_at layout_fault coding_fault least coded_at loading branch_to jump_to distance_to word_number tokens_of cut_from start_of register_of register_names cp0_register_of cp0_names statement_named row_named row_at rows number_of bytes_of_text encoded branch_target jump_target zeros_of
a_move_from_coprocessor_0 = refl

a_trap : assembled (codes "tge t0,t1,3") ≡ Image 0x80010000 0x80010000 (bytes_of_words (0x010900f0 ∷ []))
unfolding assembled base_of read_line read_statement item_of operands_fault size_at fault_at layout_fault coding_fault least coded_at loading branch_to jump_to distance_to word_number tokens_of cut_from start_of register_of register_names cp0_register_of cp0_names statement_named row_named row_at rows number_of bytes_of_text encoded branch_target jump_target zeros_of
a_trap = refl

the_largest_shift : assembled (codes "sll t0,t1,31") ≡ Image 0x80010000 0x80010000 (bytes_of_words (0x000947c0 ∷ []))
unfolding assembled base_of read_line read_statement item_of operands_fault size_at fault_at layout_fault coding_fault least coded_at loading branch_to jump_to distance_to word_number tokens_of cut_from start_of register_of register_names cp0_register_of cp0_names statement_named row_named row_at rows number_of bytes_of_text encoded branch_target jump_target zeros_of
the_largest_shift = refl

a_shift_too_large : assembled (codes "sll t0,t1,32") ≡ Bad 1 why.Range
unfolding assembled base_of read_line read_statement item_of operands_fault size_at fault_at layout_fault coding_fault least coded_at loading branch_to jump_to distance_to word_number tokens_of cut_from start_of register_of register_names cp0_register_of cp0_names statement_named row_named row_at rows number_of bytes_of_text encoded branch_target jump_target zeros_of
a_shift_too_large = refl

a_move : assembled (codes "move t0,$9") ≡ Image 0x80010000 0x80010000 (bytes_of_words (0x01204025 ∷ []))
unfolding assembled base_of read_line read_statement item_of operands_fault size_at fault_at layout_fault coding_fault least coded_at loading branch_to jump_to distance_to word_number tokens_of cut_from start_of register_of register_names cp0_register_of cp0_names statement_named row_named row_at rows number_of bytes_of_text encoded branch_target jump_target zeros_of or_row
a_move = refl

a_negative_offset : assembled (codes "\tlw  t0 , -4 (sp)") ≡ Image 0x80010000 0x80010000 (bytes_of_words (0x8fa8fffc ∷ []))
unfolding assembled base_of read_line read_statement item_of operands_fault size_at fault_at layout_fault coding_fault least coded_at loading branch_to jump_to distance_to word_number tokens_of cut_from start_of register_of register_names cp0_register_of cp0_names statement_named row_named row_at rows number_of bytes_of_text encoded branch_target jump_target zeros_of
a_negative_offset = refl

an_entry : assembled (codes "nop\nstart: nop") ≡ Image 0x80010000 0x80010004 (bytes_of_words (0 ∷ 0 ∷ []))
unfolding assembled base_of read_line read_statement item_of operands_fault size_at fault_at layout_fault coding_fault least coded_at loading branch_to jump_to distance_to word_number tokens_of cut_from start_of register_of register_names cp0_register_of cp0_names statement_named row_named row_at rows number_of bytes_of_text encoded branch_target jump_target zeros_of
an_entry = refl

a_later_line_hides_no_earlier_one : assembled (codes "x: nop\nx: nop\nfoo") ≡ Bad 2 why.Twice
unfolding assembled base_of read_line read_statement item_of operands_fault size_at fault_at layout_fault coding_fault least coded_at loading branch_to jump_to distance_to word_number tokens_of cut_from start_of register_of register_names cp0_register_of cp0_names statement_named row_named row_at rows number_of bytes_of_text encoded branch_target jump_target zeros_of
a_later_line_hides_no_earlier_one = refl

an_unreadable_line_before_a_label_twice : assembled (codes "foo\nx: nop\nx: nop") ≡ Bad 1 why.Unknown
unfolding assembled base_of read_line read_statement item_of operands_fault size_at fault_at layout_fault coding_fault least coded_at loading branch_to jump_to distance_to word_number tokens_of cut_from start_of register_of register_names cp0_register_of cp0_names statement_named row_named row_at rows number_of bytes_of_text encoded branch_target jump_target zeros_of
an_unreadable_line_before_a_label_twice = refl

-- the first kind of fault comes first, also in a later line
a_line_that_can_not_be_read_before_a_branch_too_far : assembled (codes "b 0x80030004\nfoo") ≡ Bad 2 why.Unknown
unfolding assembled base_of read_line read_statement item_of operands_fault size_at fault_at layout_fault coding_fault least coded_at loading branch_to jump_to distance_to word_number tokens_of cut_from start_of register_of register_names cp0_register_of cp0_names statement_named row_named row_at rows number_of bytes_of_text encoded branch_target jump_target zeros_of
a_line_that_can_not_be_read_before_a_branch_too_far = refl

a_label_twice_before_no_label : assembled (codes "j y\nx: nop\nx: nop") ≡ Bad 3 why.Twice
unfolding assembled base_of read_line read_statement item_of operands_fault size_at fault_at layout_fault coding_fault least coded_at loading branch_to jump_to distance_to word_number tokens_of cut_from start_of register_of register_names cp0_register_of cp0_names statement_named row_named row_at rows number_of bytes_of_text encoded branch_target jump_target zeros_of
a_label_twice_before_no_label = refl

the_first_of_two_lines_without_a_label : assembled (codes "nop\nj y\nb 0x80030008") ≡ Bad 2 why.NoLabel
unfolding assembled base_of read_line read_statement item_of operands_fault size_at fault_at layout_fault coding_fault least coded_at loading branch_to jump_to distance_to word_number tokens_of cut_from start_of register_of register_names cp0_register_of cp0_names statement_named row_named row_at rows number_of bytes_of_text encoded branch_target jump_target zeros_of
the_first_of_two_lines_without_a_label = refl
