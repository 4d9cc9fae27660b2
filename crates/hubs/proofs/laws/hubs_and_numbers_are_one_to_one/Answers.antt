use Rattle.hubs.proofs.HubLemmas.{number_of-injective, hub_numbered, number_of-range, is_exit-number, is_entry-number}
use Rattle.hubs.proofs.laws.hubs_and_numbers_are_one_to_one.Goals as goal

pub returns-clause-one : goal.returns-clause-one
returns-clause-one c = number_of-injective

pub returns-clause-each : goal.returns-clause-each
returns-clause-each c = hub_numbered

pub returns-clause-range : goal.returns-clause-range
returns-clause-range c = number_of-range

pub returns-clause-exits : goal.returns-clause-exits
returns-clause-exits c = is_exit-number

pub returns-clause-entries : goal.returns-clause-entries
returns-clause-entries c = is_entry-number
