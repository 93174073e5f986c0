-- The row of a name has it, and no other row has it.
use Rattle.std.proofs.Common.{◌∙◌, sym}
use Rattle.mips3_table.proofs.Names.{named_row, row_of_name, named_in_table}
use Rattle.mips3_table.proofs.table.row_named.Goals as goal

pub returns-clause-row : goal.returns-clause-row
returns-clause-row c = λ number. (λ found. named_row _ _ (sym c.first_named.ensures ∙ found), λ named. c.first_named.ensures ∙ row_of_name _ _ named)

pub returns-clause-in_table : goal.returns-clause-in_table
returns-clause-in_table c = named_in_table _ _ c.first_named.ensures
