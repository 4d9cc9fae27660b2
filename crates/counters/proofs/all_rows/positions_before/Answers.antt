use Rattle.std.proofs.Common.{◌-◌, arith}
use Rattle.std.proofs.lemmas.List.FromFn.{get_or-map-range_with_len}
use Rattle.counters.specs.AllRows.{positions_before_group}
use Rattle.counters.specs.Counters.{group_of_unit}
use Rattle.counters.proofs.all_rows.positions_before.Goals as goal

pub returns : goal.returns
returns c =
    get_or-map-range_with_len (λ unit. positions_before_group (group_of_unit unit)) 3 32 (c.args.unit - 3) c.args.unit 0
    (omega (arith, c.requires.from, c.requires.to)) (omega (arith, c.requires.from))
