use Rattle.std.proofs.Common.{◌≤◌, [], sym, length, rules}
use Rattle.std.proofs.lemmas.List.{get_or_read_under}
use Rattle.machine_sets.proofs.BitSets.LedLemmas.{GainsLed-row, GainsLed-past, leads-once}
use Rattle.machine_sets.proofs.bit_sets.rows.Rows.join_row.Goals as goal

pub returns-then-from-len : goal.returns-then-from-len
returns-then-from-len c =
    rw (← c.self.view_is)
    (GainsLed-row c.self.inside.rows.items c.args.from c.index.result.now _ _
    (sym (get_or_read_under c.self.inside.rows.items c.args.from c.len.result c.index.result.now [] c.index.ensures
    c.if-from-len.true (search rules)))
    (leads-once c.self.inside.rows.items c.self.invariant.short c.self.invariant.onward c.args.from)
    c.join.ensures)

pub returns-else-from-len : goal.returns-else-from-len
returns-else-from-len c =
    let past : length c.self.inside.rows.items ≤ c.args.from = search rules in
    rw (← c.self.view_is) (GainsLed-past c.self.inside.rows.items c.args.from c.args.words.now past)
