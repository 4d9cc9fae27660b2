-- A helper of the code: a row of the hub table as its definition has it.
use Rattle.hubs.specs.HubTable.HubTable as table
use Rattle.hubs.specs.declared.hub_table.letters.TableRow.{TableRow}

abbrev pub row_as : TableRow → table.TableRow
row_as row = record { spelled = row.spelled.now; is_exit = row.is_exit; before = row.before; shape = row.shape }
