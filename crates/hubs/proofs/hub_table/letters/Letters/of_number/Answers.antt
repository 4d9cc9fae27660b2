use Rattle.hubs.proofs.HubTable.KindLemmas.{none_of_all}
use Rattle.hubs.specs.HubTable.HubTable.{HasNumber, exit_kinds, entry_kinds}
use Rattle.hubs.proofs.hub_table.letters.Letters.of_number.Goals as goal

pub returns-clause-none : goal.returns-clause-none
unfolding exit_kinds entry_kinds
returns-clause-none c =
    none_of_all (λ letters. ¬ HasNumber letters c.args.number) c.find_number.result c.find_number.ensures.none
