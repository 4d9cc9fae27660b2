use Rattle.std.proofs.Common.{◌≢◌}
use Rattle.hubs.proofs.HubTable.KindLemmas.{none_of_all}
use Rattle.hubs.specs.HubTable.HubTable.{row_of, exit_kinds, entry_kinds}
use Rattle.hubs.proofs.hub_table.letters.Letters.of_spelled.Goals as goal

pub returns-clause-none : goal.returns-clause-none
unfolding exit_kinds entry_kinds
returns-clause-none c =
    none_of_all (λ letters. (row_of letters).spelled ≢ c.args.token.now) c.find_spelled.result c.find_spelled.ensures.none
