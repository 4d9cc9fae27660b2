use Rattle.machine_sets.proofs.BitSets.SearchLemmas.{IsReached-by_rows}
use Rattle.machine_sets.proofs.bit_sets.search.reach_by_rows.Goals as goal

pub returns-clause-reached : goal.returns-clause-reached
returns-clause-reached c runs place =
    IsReached-by_rows c.args.rows.now runs c.args.emits.now c.join_own.new.words c.join_own.ensures.gains place
