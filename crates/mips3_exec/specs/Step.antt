-- One step of the processor, as a talk: an interrupt, or the fetch of an instruction and what it does.
-- The exceptions are tested in this order, which is this project's own where the manual leaves it open:
--   interrupt; address error, TLB refill or invalid, bus error and virtual coherency of the fetch; the instruction's own
--   (reserved, coprocessor unusable, overflow, system call, breakpoint, trap); address error, TLB refill or invalid, TLB
--   modified, bus error and virtual coherency of its data.
-- Source: MIPS R4000 Microprocessor User's Manual, 2nd edition (Heinrich), chapter 5 (exceptions and their priority) and
-- chapter 4 (operating modes).
use Rattle.std.specs.Prelude.{ℕ, false, not, ◌==◌, ◌&&◌, ◌%◌, Option, Some, None, if◌then◌else◌}
use Rattle.mips3_table.specs.declared.instruction.Inst.{Inst}
use Rattle.mips3_table.specs.Rows.{row_at}
use Rattle.mips3_code.specs.Coding.{decoded}
use Rattle.mips3_alu.specs.Registers.{with_register}
use Rattle.cp0_regs.specs.Modes.{is_kernel, has_coprocessor_0, takes_interrupt}
use Rattle.cp0_exceptions.specs.Codes as codes
use Rattle.cp0_exceptions.specs.declared.raising.Raised.{Raised}
use Rattle.mips3_exec.specs.declared.processor.Cpu.{Cpu}
use Rattle.mips3_exec.specs.declared.effects.Effect.{Effect}
use Rattle.mips3_exec.specs.declared.effects.Effect.TheVariants.{Nothing, Set, HiLo, Jump, Touch, System, Raise}
use Rattle.mips3_exec.specs.declared.routes.Route.{Route}
use Rattle.mips3_exec.specs.declared.routes.Route.TheVariants.{To, Fault}
use Rattle.mips3_exec.specs.declared.talk.Reply.{Reply}
use Rattle.mips3_exec.specs.declared.talk.Reply.TheVariants.{Value, BusError, Coherency}
use Rattle.mips3_exec.specs.declared.talk.Request.TheVariants as request
use Rattle.mips3_exec.specs.Effects.{operation_of, effect_of}
use Rattle.mips3_exec.specs.Processor.{advanced, with_result, branched}
use Rattle.mips3_exec.specs.Routes.{plain, at_address, address_error, route_of, access_of}
use Rattle.mips3_exec.specs.References.{went, trapped, unanswered, refer}
use Rattle.mips3_exec.specs.SystemControl.{controlled, control_end, is_privileged}
use Rattle.mips3_exec.specs.Talk.{Talk, Done, Ask}

-- ---- what an instruction does

-- by the effect of an instruction
unfoldable pub perform : Cpu → Inst → Effect → Talk
perform cpu inst Nothing = went (advanced cpu)
perform cpu inst (Set reg value) = went (with_result cpu reg value)
perform cpu inst (HiLo hi lo) = went (advanced (record cpu { regs = record cpu.regs { hi = hi; lo = lo } }))
perform cpu inst (Jump taken likely target link value) =
    went (branched (record cpu { regs = with_register cpu.regs link value }) taken likely target)
perform cpu inst (Touch kind va first size reg) =
    refer cpu inst (record { kind = kind; va = va; first = first; size = size; reg = reg })
perform cpu inst (System row) = Done (controlled cpu inst (operation_of inst)) (control_end inst (operation_of inst))
perform cpu inst (Raise code unit) = trapped cpu (record { code = code; unit = unit; bad = None; refill = false })

-- ---- what the mode does not allow

-- outside kernel mode the rows of 64 bits are reserved instructions; and the instructions of coprocessor 0 find it unusable,
-- unless CU0 is set
unfoldable pub refusal_of : Cpu → Inst → Option Raised
refusal_of cpu inst =
    if not (is_kernel cpu.cp0) && (row_at inst.row).is_64_bit then Some (plain codes.reserved_instruction)
    else if not (has_coprocessor_0 cpu.cp0) && is_privileged (operation_of inst) then Some (plain codes.coprocessor_unusable)
    else None

abbrev pub unless_refused : Cpu → Inst → Option Raised → Talk
unless_refused cpu inst (Some what) = trapped cpu what
unless_refused cpu inst None = perform cpu inst (effect_of inst cpu.regs cpu.pc)

-- a word that is no instruction of the table is reserved
abbrev pub carry_out_found : Cpu → Option Inst → Talk
carry_out_found cpu None = trapped cpu (plain codes.reserved_instruction)
carry_out_found cpu (Some inst) = unless_refused cpu inst (refusal_of cpu inst)

-- what a word does
unfoldable pub carry_out : Cpu → ℕ → Talk
carry_out cpu code = carry_out_found cpu (decoded code)

-- ---- the fetch and the step

-- how a fetch goes on
abbrev pub fetched : Cpu → Reply → Talk
fetched cpu (Value code) = carry_out cpu code
fetched cpu Coherency = trapped cpu (at_address codes.coherency_fetch cpu.pc)
fetched cpu BusError = trapped cpu (plain codes.bus_fetch)
fetched cpu _ = unanswered cpu

abbrev pub fetch_by : Cpu → Route → Talk
fetch_by cpu (To pa cached) = Ask (request.Fetch (access_of cpu cpu.pc pa cached)) (fetched cpu)
fetch_by cpu (Fault what) = trapped cpu what

-- the fetch of the word at pc
unfoldable pub fetch : Cpu → Talk
fetch cpu =
    if cpu.pc % 4 == 0 then fetch_by cpu (route_of cpu false cpu.pc cpu.pc)
    else trapped cpu (address_error false cpu.pc)

-- the step: an interrupt comes first
unfoldable pub step : Cpu → Talk
step cpu = if takes_interrupt cpu.cp0 then trapped cpu (plain codes.interrupt) else fetch cpu
