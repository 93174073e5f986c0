-- The device registers: at which offset each one stands, what a read of it gives, and what a write does.
-- Source: this project's own devices.
use Rattle.std.specs.Prelude.{ℕ, ◌==◌, List, [], ◌∷◌, find, Option, codes}
use Rattle.std.specs.Option.{option_map}
use Rattle.dma_devices.specs.declared.register_file.OnRead.{OnRead}
use Rattle.dma_devices.specs.declared.register_file.OnRead.TheVariants as read
use Rattle.dma_devices.specs.declared.register_file.OnWrite.{OnWrite}
use Rattle.dma_devices.specs.declared.register_file.OnWrite.TheVariants as write
use Rattle.dma_devices.specs.declared.register_file.Register.{Register}

-- a row of the table: a register's offset, its name, and what it does
pub record Row : Type 0 where
  pub offset : ℕ
  pub name : List ℕ
  pub register : Register

-- a row with these parts
abbrev pub row : ℕ → List ℕ → OnRead → OnWrite → Row
row offset name on_read on_write =
    record { offset = offset; name = name; register = record { on_read = on_read; on_write = on_write } }

-- the table; what is at no offset of it is no register
abbrev pub registers : List Row
registers =
    -- the offset, the name, what a read gives, what a write does
    row 0x00 (codes "OUT") read.Zero write.Print
    ∷ row 0x04 (codes "IN") read.WaitingByte write.Ignored
    ∷ row 0x08 (codes "CSTAT") read.ConsoleStatus write.Ignored
    ∷ row 0x10 (codes "SECT") read.Sector write.Sector
    ∷ row 0x14 (codes "ADDR") read.Address write.Address
    ∷ row 0x18 (codes "CMD") read.Zero write.Command
    ∷ row 0x1c (codes "DSTAT") read.DiskStatus write.ClearFlags
    ∷ row 0x20 (codes "HALT") read.Zero write.Halt
    ∷ row 0x24 (codes "ENTRY") read.Entry write.Ignored
    ∷ []

-- the register at an offset
abbrev pub register_at : ℕ → Option Register
register_at at = option_map (λ (row : Row). row.register) (find (λ (row : Row). row.offset == at) registers)
