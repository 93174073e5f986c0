-- What a coherency exception makes of a step: the exception of its address, where that address leads, and nothing else.
use Rattle.std.proofs.Common.{◌≡◌, ◌==◌, ◌/◌, ◌%◌, ℕ, Bool, true, false, if◌then◌else◌, Option, Some, None, refl, arith}
use Rattle.mips3_table.specs.declared.instruction.Inst.{Inst}
use Rattle.mips3_table.specs.declared.operand_forms.Form.{Form}
use Rattle.mips3_table.specs.declared.operations.Operation.{Operation}
use Rattle.mips3_table.specs.declared.operations.Operation.TheVariants.{Jump, Add, Subtract, TrapWhere, Load, LoadLeft, LoadRight, LoadLinked, Store, StoreLeft, StoreRight, StoreConditional, OperateCache, UseCoprocessor}
use Rattle.mips3_table.specs.declared.operations.Coprocessor.TheVariants.{One, Two}
use Rattle.mips3_table.specs.declared.operations.Width.TheVariants.{Word, Double}
use Rattle.mips3_table.specs.Rows.{row_at}
use Rattle.mips3_alu.specs.declared.registers.Regs.{Regs}
use Rattle.mips3_code.specs.Coding.{decoded}
use Rattle.cp0_regs.specs.Modes.{takes_interrupt, is_quiet}
use Rattle.cp0_exceptions.specs.declared.raising.Raised.{Raised}
use Rattle.mips3_exec.specs.declared.processor.Cpu.{Cpu}
use Rattle.mips3_exec.specs.declared.effects.Effect.{Effect}
use Rattle.mips3_exec.specs.declared.effects.Effect.TheVariants as effect
use Rattle.mips3_exec.specs.declared.effects.Touch.{Touch}
use Rattle.mips3_exec.specs.declared.effects.Touch.TheVariants as touch
use Rattle.mips3_exec.specs.declared.references.Reference.{Reference}
use Rattle.mips3_exec.specs.declared.routes.Route.{Route}
use Rattle.mips3_exec.specs.declared.routes.Route.TheVariants.{To, Fault}
use Rattle.mips3_exec.specs.declared.talk.Access.{Access}
use Rattle.mips3_exec.specs.declared.talk.Request.TheVariants as request
use Rattle.mips3_exec.specs.declared.talk.Reply.{Reply}
use Rattle.mips3_exec.specs.declared.talk.Reply.TheVariants as reply
use Rattle.mips3_exec.specs.Accesses.{is_aligned, moved}
use Rattle.mips3_exec.specs.Effects.{operation_of, effect_of, carried_out, set_or_overflow, trap_where}
use Rattle.mips3_exec.specs.References as references
use Rattle.mips3_exec.specs.References.{trapped}
use Rattle.mips3_exec.specs.Routes.{address_error, plain, at_address, route_of}
use Rattle.mips3_exec.specs.Step as steps
use Rattle.mips3_exec.specs.Talk.{Talk, Done, Ask}

-- An access whose reply is a coherency exception: the address that is shown, near the one that was asked, and where it leads.
pub record IsExcepted (cpu : Cpu) (code : ℕ) (write : Bool) (access : Access) (after : Talk) : Type 0 where
  pub bad : ℕ
  pub near : access.va / 8 ≡ bad / 8
  pub route : route_of cpu write access.va bad ≡ To access.pa access.cached
  pub quiet : access.quiet ≡ is_quiet cpu.cp0
  pub ends : after ≡ trapped cpu (at_address code bad)

-- so it is with the access to data of a talk
abbrev pub DataExcepts : Cpu → Talk → Type 0
DataExcepts cpu (Ask (request.Load access size) next) = IsExcepted cpu 31 false access (next reply.Coherency)
DataExcepts cpu (Ask (request.Store access size value) next) = IsExcepted cpu 31 true access (next reply.Coherency)
DataExcepts cpu _ = Unit {0}

-- and with its fetch
abbrev pub FetchExcepts : Cpu → Talk → Type 0
FetchExcepts cpu (Ask (request.Fetch access) next) = IsExcepted cpu 14 false access (next reply.Coherency) × ((reply : Reply) → DataExcepts cpu (next reply))
FetchExcepts cpu _ = Unit {0}

choice : (P : Talk → Type 0) (b : Bool) (one other : Talk) → P one → P other → P (if b then one else other)
choice P true one other p q = p
choice P false one other p q = q

-- ---- the bytes that an operation moves are near its address

pub first_near : (operation : Operation) (va : ℕ) → (moved operation va).first / 8 ≡ va / 8
first_near (LoadRight Word) va = omega arith
first_near (LoadRight Double) va = omega arith
first_near (StoreRight Word) va = omega arith
first_near (StoreRight Double) va = omega arith
first_near _ va = refl

-- ---- references

load_excepts : (cpu : Cpu) (inst : Inst) (r : Reference) → r.first / 8 ≡ r.va / 8 → DataExcepts cpu (references.load cpu inst r)
unfolding references.load references.loaded
load_excepts cpu inst r near =
    choice (DataExcepts cpu) (is_aligned (operation_of inst) r.va) (references.load_by cpu inst r (route_of cpu false r.first r.va))
    (trapped cpu (address_error false r.va)) (by_route (route_of cpu false r.first r.va) refl) tt
  where
    by_route : (route : Route) → route_of cpu false r.first r.va ≡ route → DataExcepts cpu (references.load_by cpu inst r route)
    by_route (To pa cached) leads = record { bad = r.va; near = near; route = leads; quiet = refl; ends = refl }
    by_route (Fault what) leads = tt

store_excepts : (cpu : Cpu) (inst : Inst) (r : Reference) → r.first / 8 ≡ r.va / 8 → DataExcepts cpu (references.store cpu inst r)
unfolding references.store references.stored
store_excepts cpu inst r near =
    choice (DataExcepts cpu) (is_aligned (operation_of inst) r.va) (references.store_by cpu inst r (route_of cpu true r.first r.va))
    (trapped cpu (address_error true r.va)) (by_route (route_of cpu true r.first r.va) refl) tt
  where
    by_route : (route : Route) → route_of cpu true r.first r.va ≡ route → DataExcepts cpu (references.store_by cpu inst r route)
    by_route (To pa cached) leads = choice (DataExcepts cpu) (references.gives_up cpu r.kind) _ _ tt (record { bad = r.va; near = near; route = leads; quiet = refl; ends = refl })
    by_route (Fault what) leads = tt

operate_excepts : (cpu : Cpu) (r : Reference) → DataExcepts cpu (references.operate cpu r)
unfolding references.operate
operate_excepts cpu r = by_route (route_of cpu false r.va r.va)
  where
    by_route : (route : Route) → DataExcepts cpu (references.operate_by cpu r route)
    by_route (To pa cached) = tt
    by_route (Fault what) = tt

refer_excepts : (cpu : Cpu) (inst : Inst) (r : Reference) (kind : Touch) → r.first / 8 ≡ r.va / 8 → DataExcepts cpu (references.refer_by cpu inst r kind)
refer_excepts cpu inst r touch.Load near = load_excepts cpu inst r near
refer_excepts cpu inst r touch.Link near = load_excepts cpu inst r near
refer_excepts cpu inst r touch.Store near = store_excepts cpu inst r near
refer_excepts cpu inst r touch.Cond near = store_excepts cpu inst r near
refer_excepts cpu inst r touch.Cache near = operate_excepts cpu r

-- ---- instructions

-- what an effect touches is near its address
abbrev pub TouchesNear : Effect → Type 0
TouchesNear (effect.Touch kind va first size reg) = first / 8 ≡ va / 8
TouchesNear _ = Unit {0}

near_set : (reg : ℕ) (value : Option ℕ) → TouchesNear (set_or_overflow reg value)
near_set reg (Some value) = tt
near_set reg None = tt

near_trap : (condition : Bool) → TouchesNear (trap_where condition)
near_trap true = tt
near_trap false = tt

near_of : (form : Form) (inst : Inst) (regs : Regs) (pc : ℕ) (operation : Operation) → TouchesNear (carried_out form inst regs pc operation)
unfolding carried_out
near_of form inst regs pc (Add width overflow) = near_set _ _
near_of form inst regs pc (Subtract width overflow) = near_set _ _
near_of form inst regs pc (TrapWhere comparison) = near_trap _
near_of form inst regs pc (UseCoprocessor One) = tt
near_of form inst regs pc (UseCoprocessor Two) = tt
near_of form inst regs pc (Load size signedness) = first_near (Load size signedness) _
near_of form inst regs pc (LoadLeft width) = first_near (LoadLeft width) _
near_of form inst regs pc (LoadRight width) = first_near (LoadRight width) _
near_of form inst regs pc (LoadLinked width) = first_near (LoadLinked width) _
near_of form inst regs pc (Store size) = first_near (Store size) _
near_of form inst regs pc (StoreLeft width) = first_near (StoreLeft width) _
near_of form inst regs pc (StoreRight width) = first_near (StoreRight width) _
near_of form inst regs pc (StoreConditional width) = first_near (StoreConditional width) _
near_of form inst regs pc OperateCache = first_near OperateCache _
near_of form inst regs pc _ = tt

perform_excepts : (cpu : Cpu) (inst : Inst) (effect : Effect) → TouchesNear effect → DataExcepts cpu (steps.perform cpu inst effect)
unfolding steps.perform
perform_excepts cpu inst effect.Nothing near = tt
perform_excepts cpu inst (effect.Set reg value) near = tt
perform_excepts cpu inst (effect.HiLo hi lo) near = tt
perform_excepts cpu inst (effect.Jump taken likely target link value) near = tt
perform_excepts cpu inst (effect.Touch kind va first size reg) near = refer_excepts cpu inst _ kind near
perform_excepts cpu inst (effect.System row) near = tt
perform_excepts cpu inst (effect.Raise code unit) near = tt

found_excepts : (cpu : Cpu) (found : Option Inst) → DataExcepts cpu (steps.carry_out_found cpu found)
unfolding effect_of
found_excepts cpu None = tt
found_excepts cpu (Some inst) = allowed (steps.refusal_of cpu inst)
  where
    allowed : (what : Option Raised) → DataExcepts cpu (steps.unless_refused cpu inst what)
    allowed (Some what) = tt
    allowed None = perform_excepts cpu inst (effect_of inst cpu.regs cpu.pc) (near_of (row_at inst.row).form inst cpu.regs cpu.pc (operation_of inst))

fetched_excepts : (cpu : Cpu) (reply : Reply) → DataExcepts cpu (steps.fetched cpu reply)
unfolding steps.carry_out
fetched_excepts cpu (reply.Value code) = found_excepts cpu (decoded code)
fetched_excepts cpu reply.Done = tt
fetched_excepts cpu (reply.Moved out at) = tt
fetched_excepts cpu (reply.Levels levels) = tt
fetched_excepts cpu reply.Stored = tt
fetched_excepts cpu (reply.Halt code) = tt
fetched_excepts cpu (reply.Tag tag) = tt
fetched_excepts cpu reply.BusError = tt
fetched_excepts cpu reply.Coherency = tt

fetch_excepts : (cpu : Cpu) → FetchExcepts cpu (steps.fetch cpu)
unfolding steps.fetch
fetch_excepts cpu =
    choice (FetchExcepts cpu) (cpu.pc % 4 == 0) (steps.fetch_by cpu (route_of cpu false cpu.pc cpu.pc)) (trapped cpu (address_error false cpu.pc))
    (by_route (route_of cpu false cpu.pc cpu.pc) refl) tt
  where
    by_route : (route : Route) → route_of cpu false cpu.pc cpu.pc ≡ route → FetchExcepts cpu (steps.fetch_by cpu route)
    by_route (To pa cached) leads = (record { bad = cpu.pc; near = refl; route = leads; quiet = refl; ends = refl }, fetched_excepts cpu)
    by_route (Fault what) leads = tt

pub step_excepts : (cpu : Cpu) → FetchExcepts cpu (steps.step cpu)
unfolding steps.step
step_excepts cpu = choice (FetchExcepts cpu) (takes_interrupt cpu.cp0) (trapped cpu (plain 0)) (steps.fetch cpu) tt (fetch_excepts cpu)
