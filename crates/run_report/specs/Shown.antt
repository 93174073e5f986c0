-- What a view shows of a machine's state.
use Rattle.std.specs.Prelude.{ℕ, Bool, List, Option}
use Rattle.mips3_alu.specs.declared.registers.Regs.{Regs}
use Rattle.tlb_model.specs.declared.pairs.Pair.{Pair}
use Rattle.run_report.specs.declared.view.View.{View}

-- the fields of a view, as values: CP0 as its 32 words by number, the TLB as its pairs
pub record Shown : Type 0 where
  pub ticks : ℕ
  pub halt : Option ℕ
  pub pc : ℕ
  pub npc : ℕ
  pub slot : Bool
  pub link : Bool
  pub regs : Regs
  pub cp0 : List ℕ
  pub tlb : List Pair
  pub sector : ℕ
  pub address : ℕ
  pub status : ℕ
  pub console : List ℕ
  pub disk : List ℕ

-- what a view shows
abbrev pub shown_by : View → Shown
shown_by view = record {
  ticks = view.ticks;
  halt = view.halt;
  pc = view.pc;
  npc = view.npc;
  slot = view.slot;
  link = view.link;
  regs = view.regs.now;
  cp0 = view.cp0.now;
  tlb = view.tlb.now;
  sector = view.sector;
  address = view.address;
  status = view.status;
  console = view.console.now;
  disk = view.disk.now;
}
