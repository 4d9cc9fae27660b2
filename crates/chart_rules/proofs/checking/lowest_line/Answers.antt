use Rattle.std.proofs.Common.{◌∙◌, sym, ap, refl, length, drop}
use Rattle.std.proofs.lemmas.Option.{slice_get_read}
use Rattle.chart_line_rules.specs.FieldRules.Fields.{fields_of}
use Rattle.chart_rules.specs.Rules.{by_end}
use Rattle.chart_line_rules.proofs.FieldRules.Places.{fields_of-split}
use Rattle.chart_rules.proofs.Lowest.{PassesBefore-more, IsKept-passes, Broken-at, lowest-at, lowest-end}
use Rattle.chart_rules.proofs.checking.lowest_line.Goals as goal

pub breaks-requires-clause-front : goal.breaks-requires-clause-front
breaks-requires-clause-front c = (
  fields_of (drop c.loop-place.place c.lines-lines.result.now),
  c.requires ∙ ap fields_of (sym c.lines-lines.ensures.value) ∙ fields_of-split c.lines-lines.result.now c.loop-place.place,
)

pub returns-then-breaks-clause-some : goal.returns-then-breaks-clause-some
returns-then-breaks-clause-some c =
    let at = slice_get_read c.lines-lines.result.now (length c.lines-lines.result.now) c.loop-place.place c.index-lines-place.result refl c.loop-place-test.true c.index-lines-place.is in
    Broken-at c.args.rule c.args.raw.now c.loop-place.place c.index-lines-place.result (rw c.lines-lines.ensures.value at at)
    (rw c.lines-lines.ensures.value at (sym c.if-breaks.ensures))

pub returns-then-breaks-clause-lowest : goal.returns-then-breaks-clause-lowest
returns-then-breaks-clause-lowest c =
    let at = slice_get_read c.lines-lines.result.now (length c.lines-lines.result.now) c.loop-place.place c.index-lines-place.result refl c.loop-place-test.true c.index-lines-place.is in
    lowest-at c.args.rule c.args.raw.now c.loop-place.place c.index-lines-place.result c.lines-lines.ensures.rising
    c.loop-place.invariant (rw c.lines-lines.ensures.value at at)

pub loop-place-preserved : goal.loop-place-preserved
loop-place-preserved c =
    let at = slice_get_read c.lines-lines.result.now (length c.lines-lines.result.now) c.loop-place.place c.index-lines-place.result refl c.loop-place-test.true c.index-lines-place.is in
    PassesBefore-more c.args.rule c.args.raw.now c.loop-place.place c.index-lines-place.result c.loop-place.invariant
    (rw c.lines-lines.ensures.value at at) (rw c.lines-lines.ensures.value at (sym c.if-breaks.ensures))

pub returns-then-lacks-clause-some : goal.returns-then-lacks-clause-some
returns-then-lacks-clause-some c = rw c.end.ensures (by_end (rw c.lines-lines.ensures.value at (sym c.if-lacks.ensures)))

pub returns-then-lacks-clause-lowest : goal.returns-then-lacks-clause-lowest
returns-then-lacks-clause-lowest c =
    rw c.end.ensures
    (lowest-end c.args.rule c.args.raw.now c.loop-place.place c.loop-place.invariant
    (rw c.lines-lines.ensures.value at c.loop-place-test.false))

pub returns-else-lacks-clause-none : goal.returns-else-lacks-clause-none
returns-else-lacks-clause-none c =
    IsKept-passes c.args.rule c.args.raw.now c.loop-place.place c.loop-place.invariant
    (rw c.lines-lines.ensures.value at c.loop-place-test.false) (rw c.lines-lines.ensures.value at (sym c.if-lacks.ensures))
