use Rattle.std.proofs.Common.{◌+◌, ◌%◌, bit_and}
use Rattle.card_code.specs.declared.row.Row.TheVariants.{Twelve}
use Rattle.chart_rules.proofs.DigitCounts.{told, unpunched}
use Rattle.chart_rules.proofs.TextMarks.{nothing}
use Rattle.chart_rules.proofs.amounts.crowding_rows.Goals as goal

pub returns-clause-digits : goal.returns-clause-digits
returns-clause-digits c none =
    let set = c.args.set in
    (told set c.requires).few (nothing (bit_and (bit_and set 1023) ((bit_and set 1023 + 65535) % 65536)) (bit_and set 2048) none).0

pub returns-clause-zone : goal.returns-clause-zone
returns-clause-zone c none =
    let set = c.args.set in
    unpunched set Twelve (nothing (bit_and (bit_and set 1023) ((bit_and set 1023 + 65535) % 65536)) (bit_and set 2048) none).1
