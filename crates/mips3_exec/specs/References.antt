-- Loads, stores and cache operations as talks: the exceptions of their address in the order in which they are tested, then the
-- one request, and how each reply goes on.
-- Source: MIPS R4000 Microprocessor User's Manual, 2nd edition (Heinrich), appendix A (the pages of the loads and stores, of LL,
-- SC and CACHE) and chapter 5 (address error, TLB, bus error and virtual coherency exceptions, and their codes). That a store
-- conditional without the link translates as a store and makes no access is this project's own.
use Rattle.std.specs.Prelude.{ℕ, Bool, true, false, not, Some, if◌then◌else◌}
use Rattle.mips3_table.specs.declared.instruction.Inst.{Inst}
use Rattle.mips3_alu.specs.Registers.{register, with_register}
use Rattle.cp0_regs.specs.Registers.{tag_lo}
use Rattle.cp0_regs.specs.State.{word, with_word}
use Rattle.ll_sc.specs.Linking as links
use Rattle.cp0_exceptions.specs.Codes as codes
use Rattle.cp0_exceptions.specs.declared.raising.Raised.{Raised}
use Rattle.mips3_exec.specs.declared.processor.Cpu.{Cpu}
use Rattle.mips3_exec.specs.declared.effects.Touch.{Touch}
use Rattle.mips3_exec.specs.declared.effects.Touch.TheVariants as touch
use Rattle.mips3_exec.specs.declared.routes.Route.{Route}
use Rattle.mips3_exec.specs.declared.routes.Route.TheVariants.{To, Fault}
use Rattle.mips3_exec.specs.declared.references.Reference.{Reference}
use Rattle.mips3_exec.specs.declared.talk.Access.{Access}
use Rattle.mips3_exec.specs.declared.talk.StepEnd.TheVariants.{Went, Trapped}
use Rattle.mips3_exec.specs.declared.talk.Reply.{Reply}
use Rattle.mips3_exec.specs.declared.talk.Reply.TheVariants.{Value, Stored, Halt, Tag, BusError, Coherency}
use Rattle.mips3_exec.specs.declared.talk.Request.TheVariants as request
use Rattle.mips3_exec.specs.Accesses.{is_aligned}
use Rattle.mips3_exec.specs.Effects.{operation_of, loaded_of, stored_of}
use Rattle.mips3_exec.specs.Processor.{advanced, with_result, taken}
use Rattle.mips3_exec.specs.Routes.{plain, at_address, address_error, route_of, access_of}
use Rattle.mips3_exec.specs.Talk.{Talk, Done, Ask}

-- the ends of a step: the instruction was carried out, or an exception was taken
abbrev pub went : Cpu → Talk
went cpu = Done cpu Went

abbrev pub trapped : Cpu → Raised → Talk
trapped cpu what = Done (taken cpu what) (Trapped what.code)

-- what is said of a reply that the request may not have: the processor stays as it is. No memory system gives such a reply.
abbrev pub unanswered : Cpu → Talk
unanswered cpu = went cpu

-- ---- loads

-- a load linked sets the link, and shows the physical address in LLAddr
abbrev pub linked : Cpu → Touch → ℕ → Cpu
linked cpu touch.Link pa = record cpu { link = links.linked; cp0 = links.with_linked_address cpu.cp0 pa }
linked cpu _ pa = cpu

-- how a load goes on: with the bytes, or with the exception of memory, of which the coherency exception shows the address
unfoldable pub loaded : Cpu → Inst → Reference → ℕ → Reply → Talk
loaded cpu inst r pa (Value bytes) =
    went (with_result (linked cpu r.kind pa) r.reg (loaded_of inst (register cpu.regs r.reg) r.va bytes))
loaded cpu inst r pa Coherency = trapped cpu (at_address codes.coherency_data r.va)
loaded cpu inst r pa BusError = trapped cpu (plain codes.bus_data)
loaded cpu inst r pa _ = unanswered cpu

abbrev pub load_from : Cpu → Inst → Reference → Access → Talk
load_from cpu inst r access = Ask (request.Load access r.size) (loaded cpu inst r access.pa)

abbrev pub load_by : Cpu → Inst → Reference → Route → Talk
load_by cpu inst r (To pa cached) = load_from cpu inst r (access_of cpu r.first pa cached)
load_by cpu inst r (Fault what) = trapped cpu what

-- a load
unfoldable pub load : Cpu → Inst → Reference → Talk
load cpu inst r =
    if is_aligned (operation_of inst) r.va then load_by cpu inst r (route_of cpu false r.first r.va)
    else trapped cpu (address_error false r.va)

-- ---- stores

-- a store conditional that was made tells so in its register
abbrev pub succeeded : Cpu → Touch → ℕ → Cpu
succeeded cpu touch.Cond reg = record cpu { regs = with_register cpu.regs reg 1 }
succeeded cpu _ reg = cpu

-- how a store goes on; one to the halt register ends the run with this tick
unfoldable pub stored : Cpu → Reference → Reply → Talk
stored cpu r Stored = went (advanced (succeeded cpu r.kind r.reg))
stored cpu r (Halt code) = went (advanced (record (succeeded cpu r.kind r.reg) { halt = Some code }))
stored cpu r Coherency = trapped cpu (at_address codes.coherency_data r.va)
stored cpu r BusError = trapped cpu (plain codes.bus_data)
stored cpu r _ = unanswered cpu

-- a store conditional without the link
abbrev pub gives_up : Cpu → Touch → Bool
gives_up cpu touch.Cond = not cpu.link.set
gives_up cpu _ = false

abbrev pub store_to : Cpu → Inst → Reference → Access → Talk
store_to cpu inst r access = Ask (request.Store access r.size (stored_of inst (register cpu.regs r.reg) r.va)) (stored cpu r)

abbrev pub store_by : Cpu → Inst → Reference → Route → Talk
store_by cpu inst r (To pa cached) =
    if gives_up cpu r.kind then went (with_result cpu r.reg 0) else store_to cpu inst r (access_of cpu r.first pa cached)
store_by cpu inst r (Fault what) = trapped cpu what

-- a store
unfoldable pub store : Cpu → Inst → Reference → Talk
store cpu inst r =
    if is_aligned (operation_of inst) r.va then store_by cpu inst r (route_of cpu true r.first r.va)
    else trapped cpu (address_error true r.va)

-- ---- cache operations

-- how a cache operation goes on: TagLo is what it makes of it
unfoldable pub operated : Cpu → Reply → Talk
operated cpu (Tag tag) = went (advanced (record cpu { cp0 = with_word cpu.cp0 tag_lo tag }))
operated cpu _ = unanswered cpu

abbrev pub operate_by : Cpu → Reference → Route → Talk
operate_by cpu r (To pa cached) = Ask (request.Cache (access_of cpu r.va pa cached) r.reg (word cpu.cp0 tag_lo)) (operated cpu)
operate_by cpu r (Fault what) = trapped cpu what

-- a cache operation, whose code stands in the register's place; its address is translated as that of a load
unfoldable pub operate : Cpu → Reference → Talk
operate cpu r = operate_by cpu r (route_of cpu false r.va r.va)

-- ---- all of them

abbrev pub refer_by : Cpu → Inst → Reference → Touch → Talk
refer_by cpu inst r touch.Load = load cpu inst r
refer_by cpu inst r touch.Link = load cpu inst r
refer_by cpu inst r touch.Store = store cpu inst r
refer_by cpu inst r touch.Cond = store cpu inst r
refer_by cpu inst r touch.Cache = operate cpu r

abbrev pub refer : Cpu → Inst → Reference → Talk
refer cpu inst r = refer_by cpu inst r r.kind
