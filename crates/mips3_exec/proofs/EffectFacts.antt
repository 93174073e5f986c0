-- What holds of the effect of every operation.
use Rattle.std.proofs.Common.{◌≡◌, ◌==◌, ℕ, ◌+◌, ◌-◌, ◌<◌, ◌≤◌, ◌%◌, Bool, true, false, Option, Some, None, if◌then◌else◌, refl, sym, ap, ◌∙◌, arith, zero, suc}
use Rattle.std.proofs.lemmas.Bool.{eqb-true}
use Rattle.mips3_table.specs.declared.instruction.Inst.{Inst}
use Rattle.mips3_table.specs.declared.operand_forms.Form.{Form}
use Rattle.mips3_table.specs.declared.operations.Operation.{Operation}
use Rattle.mips3_table.specs.declared.operations.Operation.TheVariants.{Jump, Branch, Add, Subtract, Multiply, Divide, MoveToHi, MoveToLo, TrapWhere, SystemCall, Breakpoint, Synchronize, Load, LoadLeft, LoadRight, LoadLinked, Store, StoreLeft, StoreRight, StoreConditional, OperateCache, UseCoprocessor, MoveFromCp0, MoveToCp0, ReadTlb, WriteIndexedTlb, WriteRandomTlb, ProbeTlb, ReturnFromException}
use Rattle.mips3_table.specs.declared.operations.Coprocessor.TheVariants.{One, Two}
use Rattle.mips3_table.specs.declared.operations.Link.{Link}
use Rattle.mips3_table.specs.declared.operations.Link.TheVariants.{Unlinked, IntoRegister31, IntoDestination}
use Rattle.mips3_table.specs.declared.operations.Width.{Width}
use Rattle.mips3_table.specs.declared.operations.Width.TheVariants.{Word, Double}
use Rattle.mips3_table.specs.declared.operations.Size.{Size}
use Rattle.mips3_table.specs.declared.operations.Size.TheVariants.{Byte, Half, Wide}
use Rattle.mips3_table.specs.Operands.{widths_of}
use Rattle.mips3_alu.specs.declared.registers.Regs.{Regs}
use Rattle.mips3_exec.specs.Operands.{destination_of, link_register, address_of}
use Rattle.mips3_exec.specs.Accesses.{bytes_of_size, bytes_of_width, left, right, begins_aligned}
use Rattle.mips3_exec.specs.Effects.{carried_out, set_or_overflow, trap_where}
use Rattle.mips3_exec.specs.Ranges.{HasFields, HasRegisters, LeavesSystem, RaisesItsOwn, TouchesMoved, TouchesFew, AlignsByBytes}

-- ---- registers

either_below : (b : Bool) (one other : ℕ) → one < 32 → other < 32 → (if b then one else other) < 32
either_below true one other low low_other = low
either_below false one other low low_other = low_other

destination_below : (form : Form) (inst : Inst) → HasFields form inst → destination_of form inst < 32
destination_below form inst fields = either_below ((widths_of form).rd == 0) inst.rt inst.rd fields.rt fields.rd

link_below : (link : Link) (inst : Inst) → inst.rd < 32 → link_register link inst < 32
link_below Unlinked inst low = omega arith
link_below IntoRegister31 inst low = omega arith
link_below IntoDestination inst low = low

set_register : (reg : ℕ) (value : Option ℕ) → reg < 32 → HasRegisters (set_or_overflow reg value)
set_register reg (Some value) low = low
set_register reg None low = tt

trap_register : (condition : Bool) → HasRegisters (trap_where condition)
trap_register true = tt
trap_register false = tt

pub registers_of : (form : Form) (inst : Inst) (regs : Regs) (pc : ℕ) (operation : Operation) → HasFields form inst → HasRegisters (carried_out form inst regs pc operation)
unfolding carried_out
registers_of form inst regs pc (Jump link) fields = link_below link inst fields.rd
registers_of form inst regs pc (Branch comparison slot link) fields = link_below link inst fields.rd
registers_of form inst regs pc (Add width overflow) fields = set_register _ _ (destination_below form inst fields)
registers_of form inst regs pc (Subtract width overflow) fields = set_register _ _ (destination_below form inst fields)
registers_of form inst regs pc (Multiply width signedness) fields = tt
registers_of form inst regs pc (Divide width signedness) fields = tt
registers_of form inst regs pc MoveToHi fields = tt
registers_of form inst regs pc MoveToLo fields = tt
registers_of form inst regs pc (TrapWhere comparison) fields = trap_register _
registers_of form inst regs pc SystemCall fields = tt
registers_of form inst regs pc Breakpoint fields = tt
registers_of form inst regs pc Synchronize fields = tt
registers_of form inst regs pc (Load size signedness) fields = fields.rt
registers_of form inst regs pc (LoadLeft width) fields = fields.rt
registers_of form inst regs pc (LoadRight width) fields = fields.rt
registers_of form inst regs pc (LoadLinked width) fields = fields.rt
registers_of form inst regs pc (Store size) fields = fields.rt
registers_of form inst regs pc (StoreLeft width) fields = fields.rt
registers_of form inst regs pc (StoreRight width) fields = fields.rt
registers_of form inst regs pc (StoreConditional width) fields = fields.rt
registers_of form inst regs pc OperateCache fields = fields.rt
registers_of form inst regs pc (UseCoprocessor One) fields = tt
registers_of form inst regs pc (UseCoprocessor Two) fields = tt
registers_of form inst regs pc (MoveFromCp0 width) fields = tt
registers_of form inst regs pc (MoveToCp0 width) fields = tt
registers_of form inst regs pc ReadTlb fields = tt
registers_of form inst regs pc WriteIndexedTlb fields = tt
registers_of form inst regs pc WriteRandomTlb fields = tt
registers_of form inst regs pc ProbeTlb fields = tt
registers_of form inst regs pc ReturnFromException fields = tt
registers_of form inst regs pc _ fields = destination_below form inst fields

-- ---- what is left to coprocessor 0

left_set : (operation : Operation) (number reg : ℕ) (value : Option ℕ) → LeavesSystem operation number (set_or_overflow reg value)
left_set operation number reg (Some value) = tt
left_set operation number reg None = tt

left_trap : (operation : Operation) (number : ℕ) (condition : Bool) → LeavesSystem operation number (trap_where condition)
left_trap operation number true = tt
left_trap operation number false = tt

pub system_of : (form : Form) (inst : Inst) (regs : Regs) (pc : ℕ) (operation : Operation) → LeavesSystem operation inst.row (carried_out form inst regs pc operation)
unfolding carried_out
system_of form inst regs pc (Add width overflow) = left_set _ inst.row _ _
system_of form inst regs pc (Subtract width overflow) = left_set _ inst.row _ _
system_of form inst regs pc (TrapWhere comparison) = left_trap _ inst.row _
system_of form inst regs pc (UseCoprocessor One) = tt
system_of form inst regs pc (UseCoprocessor Two) = tt
system_of form inst regs pc (MoveFromCp0 width) = record { row_is = refl; is_its_own = refl }
system_of form inst regs pc (MoveToCp0 width) = record { row_is = refl; is_its_own = refl }
system_of form inst regs pc ReadTlb = record { row_is = refl; is_its_own = refl }
system_of form inst regs pc WriteIndexedTlb = record { row_is = refl; is_its_own = refl }
system_of form inst regs pc WriteRandomTlb = record { row_is = refl; is_its_own = refl }
system_of form inst regs pc ProbeTlb = record { row_is = refl; is_its_own = refl }
system_of form inst regs pc ReturnFromException = record { row_is = refl; is_its_own = refl }
system_of form inst regs pc _ = tt

-- ---- exceptions

raised_set : (reg : ℕ) (value : Option ℕ) → RaisesItsOwn (set_or_overflow reg value)
raised_set reg (Some value) = tt
raised_set reg None = refl

raised_trap : (condition : Bool) → RaisesItsOwn (trap_where condition)
raised_trap true = refl
raised_trap false = tt

pub raised_of : (form : Form) (inst : Inst) (regs : Regs) (pc : ℕ) (operation : Operation) → RaisesItsOwn (carried_out form inst regs pc operation)
unfolding carried_out
raised_of form inst regs pc (Add width overflow) = raised_set _ _
raised_of form inst regs pc (Subtract width overflow) = raised_set _ _
raised_of form inst regs pc (TrapWhere comparison) = raised_trap _
raised_of form inst regs pc SystemCall = refl
raised_of form inst regs pc Breakpoint = refl
raised_of form inst regs pc (UseCoprocessor One) = refl
raised_of form inst regs pc (UseCoprocessor Two) = refl
raised_of form inst regs pc _ = tt

-- ---- accesses

moved_set : (operation : Operation) (reg : ℕ) (value : Option ℕ) → TouchesMoved operation (set_or_overflow reg value)
moved_set operation reg (Some value) = tt
moved_set operation reg None = tt

moved_trap : (operation : Operation) (condition : Bool) → TouchesMoved operation (trap_where condition)
moved_trap operation true = tt
moved_trap operation false = tt

pub access_of : (form : Form) (inst : Inst) (regs : Regs) (pc : ℕ) (operation : Operation) → TouchesMoved operation (carried_out form inst regs pc operation)
unfolding carried_out
access_of form inst regs pc (Add width overflow) = moved_set _ _ _
access_of form inst regs pc (Subtract width overflow) = moved_set _ _ _
access_of form inst regs pc (TrapWhere comparison) = moved_trap _ _
access_of form inst regs pc (UseCoprocessor One) = tt
access_of form inst regs pc (UseCoprocessor Two) = tt
access_of form inst regs pc (Load size signedness) = record { load = λ reads. refl; store = λ writes. cc; first_is = refl; size_is = refl }
access_of form inst regs pc (LoadLeft width) = record { load = λ reads. refl; store = λ writes. cc; first_is = refl; size_is = refl }
access_of form inst regs pc (LoadRight width) = record { load = λ reads. refl; store = λ writes. cc; first_is = refl; size_is = refl }
access_of form inst regs pc (LoadLinked width) = record { load = λ reads. refl; store = λ writes. cc; first_is = refl; size_is = refl }
access_of form inst regs pc (Store size) = record { load = λ reads. cc; store = λ writes. refl; first_is = refl; size_is = refl }
access_of form inst regs pc (StoreLeft width) = record { load = λ reads. cc; store = λ writes. refl; first_is = refl; size_is = refl }
access_of form inst regs pc (StoreRight width) = record { load = λ reads. cc; store = λ writes. refl; first_is = refl; size_is = refl }
access_of form inst regs pc (StoreConditional width) = record { load = λ reads. cc; store = λ writes. refl; first_is = refl; size_is = refl }
access_of form inst regs pc OperateCache = record { load = λ reads. cc; store = λ writes. cc; first_is = refl; size_is = refl }
access_of form inst regs pc _ = tt

few_set : (operation : Operation) (reg : ℕ) (value : Option ℕ) → TouchesFew operation (set_or_overflow reg value)
few_set operation reg (Some value) = tt
few_set operation reg None = tt

few_trap : (operation : Operation) (condition : Bool) → TouchesFew operation (trap_where condition)
few_trap operation true = tt
few_trap operation false = tt

inside_2 : (va : ℕ) → va % 2 ≡ 0 → va % 8 + 2 ≤ 8
inside_2 va aligned = omega arith

inside_4 : (va : ℕ) → va % 4 ≡ 0 → va % 8 + 4 ≤ 8
inside_4 va aligned = omega arith

inside_8 : (va : ℕ) → va % 8 ≡ 0 → va % 8 + 8 ≤ 8
inside_8 va aligned = omega arith

-- whole units, of a load for one
few_whole : (size : Size) (va : ℕ) → (1 ≤ bytes_of_size size) × (bytes_of_size size ≤ 8) × ((va % bytes_of_size size == 0) ≡ true → va % 8 + bytes_of_size size ≤ 8)
few_whole Byte va = (omega arith, omega arith, λ aligned. omega arith)
few_whole Half va = (omega arith, omega arith, λ aligned. inside_2 va (eqb-true _ _ aligned))
few_whole (Wide Word) va = (omega arith, omega arith, λ aligned. inside_4 va (eqb-true _ _ aligned))
few_whole (Wide Double) va = (omega arith, omega arith, λ aligned. inside_8 va (eqb-true _ _ aligned))

few_left : (width : Width) (va : ℕ) → (1 ≤ (left (bytes_of_width width) va).size) × ((left (bytes_of_width width) va).size ≤ 8) × (va % 8 + (left (bytes_of_width width) va).size ≤ 8)
few_left Word va = (omega arith, omega arith, omega arith)
few_left Double va = (omega arith, omega arith, omega arith)

few_right : (width : Width) (va : ℕ) → (1 ≤ (right (bytes_of_width width) va).size) × ((right (bytes_of_width width) va).size ≤ 8)
    × ((right (bytes_of_width width) va).first % 8 + (right (bytes_of_width width) va).size ≤ 8)
few_right Word va = (omega arith, omega arith, omega arith)
few_right Double va = (omega arith, omega arith, omega arith)

pub few_of : (form : Form) (inst : Inst) (regs : Regs) (pc : ℕ) (operation : Operation) → TouchesFew operation (carried_out form inst regs pc operation)
unfolding carried_out
few_of form inst regs pc (Add width overflow) = few_set _ _ _
few_of form inst regs pc (Subtract width overflow) = few_set _ _ _
few_of form inst regs pc (TrapWhere comparison) = few_trap _ _
few_of form inst regs pc (UseCoprocessor One) = tt
few_of form inst regs pc (UseCoprocessor Two) = tt
few_of form inst regs pc (Load size signedness) = let few = few_whole size (address_of form inst regs) in record { some = few.0; most = few.1; inside = few.2 }
few_of form inst regs pc (LoadLeft width) = let few = few_left width (address_of form inst regs) in record { some = few.0; most = few.1; inside = λ aligned. few.2 }
few_of form inst regs pc (LoadRight width) = let few = few_right width (address_of form inst regs) in record { some = few.0; most = few.1; inside = λ aligned. few.2 }
few_of form inst regs pc (LoadLinked width) = let few = few_whole (Wide width) (address_of form inst regs) in record { some = few.0; most = few.1; inside = few.2 }
few_of form inst regs pc (Store size) = let few = few_whole size (address_of form inst regs) in record { some = few.0; most = few.1; inside = few.2 }
few_of form inst regs pc (StoreLeft width) = let few = few_left width (address_of form inst regs) in record { some = few.0; most = few.1; inside = λ aligned. few.2 }
few_of form inst regs pc (StoreRight width) = let few = few_right width (address_of form inst regs) in record { some = few.0; most = few.1; inside = λ aligned. few.2 }
few_of form inst regs pc (StoreConditional width) = let few = few_whole (Wide width) (address_of form inst regs) in record { some = few.0; most = few.1; inside = few.2 }
few_of form inst regs pc OperateCache = let few = few_whole Byte (address_of form inst regs) in record { some = few.0; most = few.1; inside = few.2 }
few_of form inst regs pc _ = tt

-- ---- alignment, by the operation and by the bytes

is_zero : (n : ℕ) → n ≡ 0 → (n == 0) ≡ true
is_zero n zero_is = ap (λ v. v == 0) zero_is

always : (va : ℕ) → (va % 1 == 0) ≡ true
always va = is_zero (va % 1) (omega arith)

begins_left_4 : (va b : ℕ) → va % 4 ≡ b → begins_aligned va (4 - b) ≡ true
begins_left_4 va zero at = is_zero (va % 4) at
begins_left_4 va (suc zero) at = refl
begins_left_4 va (suc (suc zero)) at = is_zero (va % 2) (omega arith)
begins_left_4 va (suc (suc (suc zero))) at = refl
begins_left_4 va (suc (suc (suc (suc b)))) at = absurd (omega arith)

begins_left_8 : (va b : ℕ) → va % 8 ≡ b → begins_aligned va (8 - b) ≡ true
begins_left_8 va zero at = is_zero (va % 8) at
begins_left_8 va (suc zero) at = refl
begins_left_8 va (suc (suc zero)) at = refl
begins_left_8 va (suc (suc (suc zero))) at = refl
begins_left_8 va (suc (suc (suc (suc zero)))) at = is_zero (va % 4) (omega arith)
begins_left_8 va (suc (suc (suc (suc (suc zero))))) at = refl
begins_left_8 va (suc (suc (suc (suc (suc (suc zero)))))) at = is_zero (va % 2) (omega arith)
begins_left_8 va (suc (suc (suc (suc (suc (suc (suc zero))))))) at = refl
begins_left_8 va (suc (suc (suc (suc (suc (suc (suc (suc b)))))))) at = absurd (omega arith)

begins_right_4 : (va b : ℕ) → va % 4 ≡ b → begins_aligned (va - b) (b + 1) ≡ true
begins_right_4 va zero at = refl
begins_right_4 va (suc zero) at = is_zero ((va - 1) % 2) (omega arith)
begins_right_4 va (suc (suc zero)) at = refl
begins_right_4 va (suc (suc (suc zero))) at = is_zero ((va - 3) % 4) (omega arith)
begins_right_4 va (suc (suc (suc (suc b)))) at = absurd (omega arith)

begins_right_8 : (va b : ℕ) → va % 8 ≡ b → begins_aligned (va - b) (b + 1) ≡ true
begins_right_8 va zero at = refl
begins_right_8 va (suc zero) at = is_zero ((va - 1) % 2) (omega arith)
begins_right_8 va (suc (suc zero)) at = refl
begins_right_8 va (suc (suc (suc zero))) at = is_zero ((va - 3) % 4) (omega arith)
begins_right_8 va (suc (suc (suc (suc zero)))) at = refl
begins_right_8 va (suc (suc (suc (suc (suc zero))))) at = refl
begins_right_8 va (suc (suc (suc (suc (suc (suc zero)))))) at = refl
begins_right_8 va (suc (suc (suc (suc (suc (suc (suc zero))))))) at = is_zero ((va - 7) % 8) (omega arith)
begins_right_8 va (suc (suc (suc (suc (suc (suc (suc (suc b)))))))) at = absurd (omega arith)

whole_aligned : (size : Size) (va : ℕ) → (va % bytes_of_size size == 0) ≡ begins_aligned va (bytes_of_size size)
whole_aligned Byte va = always va
whole_aligned Half va = refl
whole_aligned (Wide Word) va = refl
whole_aligned (Wide Double) va = refl

left_aligned : (width : Width) (va : ℕ) → (va % 1 == 0) ≡ begins_aligned va (left (bytes_of_width width) va).size
left_aligned Word va = always va ∙ sym (begins_left_4 va (va % 4) refl)
left_aligned Double va = always va ∙ sym (begins_left_8 va (va % 8) refl)

right_aligned : (width : Width) (va : ℕ) → (va % 1 == 0) ≡ begins_aligned (right (bytes_of_width width) va).first (right (bytes_of_width width) va).size
right_aligned Word va = always va ∙ sym (begins_right_4 va (va % 4) refl)
right_aligned Double va = always va ∙ sym (begins_right_8 va (va % 8) refl)

aligned_set : (operation : Operation) (reg : ℕ) (value : Option ℕ) → AlignsByBytes operation (set_or_overflow reg value)
aligned_set operation reg (Some value) = tt
aligned_set operation reg None = tt

aligned_trap : (operation : Operation) (condition : Bool) → AlignsByBytes operation (trap_where condition)
aligned_trap operation true = tt
aligned_trap operation false = tt

pub aligned_of : (form : Form) (inst : Inst) (regs : Regs) (pc : ℕ) (operation : Operation) → AlignsByBytes operation (carried_out form inst regs pc operation)
unfolding carried_out
aligned_of form inst regs pc (Add width overflow) = aligned_set (Add width overflow) _ _
aligned_of form inst regs pc (Subtract width overflow) = aligned_set (Subtract width overflow) _ _
aligned_of form inst regs pc (TrapWhere comparison) = aligned_trap (TrapWhere comparison) _
aligned_of form inst regs pc (UseCoprocessor One) = tt
aligned_of form inst regs pc (UseCoprocessor Two) = tt
aligned_of form inst regs pc (Load size signedness) = whole_aligned size (address_of form inst regs)
aligned_of form inst regs pc (LoadLeft width) = left_aligned width (address_of form inst regs)
aligned_of form inst regs pc (LoadRight width) = right_aligned width (address_of form inst regs)
aligned_of form inst regs pc (LoadLinked width) = whole_aligned (Wide width) (address_of form inst regs)
aligned_of form inst regs pc (Store size) = whole_aligned size (address_of form inst regs)
aligned_of form inst regs pc (StoreLeft width) = left_aligned width (address_of form inst regs)
aligned_of form inst regs pc (StoreRight width) = right_aligned width (address_of form inst regs)
aligned_of form inst regs pc (StoreConditional width) = whole_aligned (Wide width) (address_of form inst regs)
aligned_of form inst regs pc OperateCache = always (address_of form inst regs)
aligned_of form inst regs pc _ = tt
