-- The row of a word is the one that it matches, by the test on pairs of rows.
use Rattle.std.proofs.Common.{sym, ◌∙◌}
use Rattle.mips3_table.proofs.Apart.{row_of_match, match_of_row, reserved_word, row_in_table}
use Rattle.mips3_table.proofs.table.row_of.Goals as goal

pub returns-clause-row : goal.returns-clause-row
returns-clause-row c = λ number. (λ found. match_of_row _ _ (sym c.matched_row.ensures ∙ found), λ is_row. c.matched_row.ensures ∙ row_of_match _ _ is_row)

pub returns-clause-reserved : goal.returns-clause-reserved
returns-clause-reserved c = reserved_word _ _ c.matched_row.ensures

pub returns-clause-in_table : goal.returns-clause-in_table
returns-clause-in_table c = row_in_table _ _ c.matched_row.ensures
