use Rattle.std.proofs.Common.{refl}
use Rattle.hubs.proofs.HubTable.KindLemmas.{is_listed, exits_are_exits, entries_are_entries, exits_are_unbroken}
use Rattle.hubs.proofs.HubTable.KindLemmas.{entries_are_unbroken, spelled-injective}
use Rattle.hubs.specs.HubTable.HubTable.{exit_kinds, entry_kinds}
use Rattle.hubs.proofs.hub_table.laws.hub_table_is_unbroken.Goals as goal

pub returns-clause-kinds : goal.returns-clause-kinds
unfolding exit_kinds entry_kinds
returns-clause-kinds c = refl

pub returns-clause-each : goal.returns-clause-each
unfolding exit_kinds entry_kinds
returns-clause-each c = is_listed

pub returns-clause-exits : goal.returns-clause-exits
returns-clause-exits c = exits_are_exits

pub returns-clause-entries : goal.returns-clause-entries
returns-clause-entries c = entries_are_entries

pub returns-clause-exits_unbroken : goal.returns-clause-exits_unbroken
returns-clause-exits_unbroken c = exits_are_unbroken

pub returns-clause-entries_unbroken : goal.returns-clause-entries_unbroken
returns-clause-entries_unbroken c = entries_are_unbroken

pub returns-clause-spelled : goal.returns-clause-spelled
returns-clause-spelled c = spelled-injective
