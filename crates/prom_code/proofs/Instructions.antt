-- What each word of the handler does, in kernel mode.
use Rattle.std.proofs.Common.{◌≡◌, ◌==◌, ◌+◌, ◌%◌, ◌^◌, ℕ, true, false, refl}
use Rattle.std.specs.Prelude.{bit_and, bit_xor, slice_index}
use Rattle.r4_words.specs.Words.{sext32}
use Rattle.mips3_table.specs.Matching.{row_of}
use Rattle.mips3_table.specs.Rows.{rows, row_at}
use Rattle.mips3_code.specs.Coding.{decoded}
use Rattle.mips3_code.specs.Targets.{branch_target}
use Rattle.mips3_alu.specs.Registers.{register}
use Rattle.cp0_regs.specs.Modes.{is_kernel}
use Rattle.mips3_exec.specs.declared.processor.Cpu.{Cpu}
use Rattle.mips3_exec.specs.declared.effects.Touch.TheVariants as touch
use Rattle.mips3_exec.specs.declared.references.Reference.{Reference}
use Rattle.mips3_exec.specs.Effects.{effect_of, carried_out}
use Rattle.mips3_exec.specs.Processor.{with_result, branched, gone_back, advanced}
use Rattle.mips3_exec.specs.References.{went, operate_by, operate}
use Rattle.mips3_exec.specs.Routes.{route_of}
use Rattle.mips3_exec.specs.Step.{carry_out, perform, refusal_of}
use Rattle.mips3_exec.specs.SystemControl.{controlled, control_end}

module _ (cpu : Cpu) (kernel : is_kernel cpu.cp0 ≡ true) where
  -- mfc0 k0,Cause
  pub mfc0_cause : carry_out cpu 0x401a6800 ≡ went (with_result cpu 26 (sext32 (slice_index cpu.cp0 13)))
  unfolding carry_out decoded row_of rows row_at refusal_of perform effect_of carried_out controlled control_end
  mfc0_cause = rw kernel refl

  -- andi k0,k0,0x7c
  pub andi_k0 : carry_out cpu 0x335a007c ≡ went (with_result cpu 26 (bit_and (register cpu.regs 26) 0x7c))
  unfolding carry_out decoded row_of rows row_at refusal_of perform effect_of carried_out
  andi_k0 = rw kernel refl

  -- xori k1,k0,0x7c
  pub xori_k1 : carry_out cpu 0x3b5b007c ≡ went (with_result cpu 27 (bit_xor (register cpu.regs 26) 0x7c))
  unfolding carry_out decoded row_of rows row_at refusal_of perform effect_of carried_out
  xori_k1 = rw kernel refl

  -- beq k1,zero,3ac
  pub beq_k1 : carry_out cpu 0x13600007 ≡ went (branched cpu (register cpu.regs 27 == register cpu.regs 0) false (branch_target cpu.pc 7))
  unfolding carry_out decoded row_of rows row_at refusal_of perform effect_of carried_out
  beq_k1 = rw kernel refl

  -- xori k0,k0,0x38
  pub xori_k0 : carry_out cpu 0x3b5a0038 ≡ went (with_result cpu 26 (bit_xor (register cpu.regs 26) 0x38))
  unfolding carry_out decoded row_of rows row_at refusal_of perform effect_of carried_out
  xori_k0 = rw kernel refl

  -- beq k0,zero,3ac
  pub beq_k0 : carry_out cpu 0x13400005 ≡ went (branched cpu (register cpu.regs 26 == register cpu.regs 0) false (branch_target cpu.pc 5))
  unfolding carry_out decoded row_of rows row_at refusal_of perform effect_of carried_out
  beq_k0 = rw kernel refl

  -- nop
  pub nop : carry_out cpu 0 ≡ went (advanced cpu)
  unfolding carry_out decoded row_of rows row_at refusal_of perform effect_of carried_out
  nop = rw kernel refl

  -- mfc0 k0,BadVAddr
  pub mfc0_bad : carry_out cpu 0x401a4000 ≡ went (with_result cpu 26 (sext32 (slice_index cpu.cp0 8)))
  unfolding carry_out decoded row_of rows row_at refusal_of perform effect_of carried_out controlled control_end
  mfc0_bad = rw kernel refl

  -- cache 0x17,0(k0)
  abbrev pub aimed : ℕ → Reference
  aimed va = record { kind = touch.Cache; va = va; first = va; size = 1; reg = 23 }

  pub cache_k0 : carry_out cpu 0xbf570000
      ≡ operate_by cpu (aimed ((register cpu.regs 26 + 0) % 2 ^ 32)) (route_of cpu false ((register cpu.regs 26 + 0) % 2 ^ 32) ((register cpu.regs 26 + 0) % 2 ^ 32))
  unfolding carry_out decoded row_of rows row_at refusal_of perform effect_of carried_out operate
  cache_k0 = rw kernel refl

  -- eret
  pub eret : carry_out cpu 0x42000018 ≡ went (gone_back cpu)
  unfolding carry_out decoded row_of rows row_at refusal_of perform effect_of carried_out controlled control_end
  eret = rw kernel refl
