use Rattle.std.proofs.Common.{arith}
use Rattle.card_code.proofs.Punches.{characters-more, first-odd}
use Rattle.card_code.proofs.card.odd_column.Goals as goal

pub loop-place-init : goal.loop-place-init
loop-place-init c = λ k from less. absurd (omega (arith, less))

pub loop-place-preserved : goal.loop-place-preserved
loop-place-preserved c =
    let few = c.if-listed_set-gt-ALL_ROWS.false in
    characters-more 0 c.loop-place.place c.listed_set.result c.args.line.now c.listed_set.ensures (omega (arith, few)) c.loop-place.invariant

pub returns-then-listed_set-gt-ALL_ROWS-clause-odd : goal.returns-then-listed_set-gt-ALL_ROWS-clause-odd
returns-then-listed_set-gt-ALL_ROWS-clause-odd c =
    let more = c.if-listed_set-gt-ALL_ROWS.true in
    first-odd c.loop-place.place c.listed_set.result c.args.line.now c.loop-place-test.true c.requires c.listed_set.ensures
    (omega (arith, more)) c.loop-place.invariant

pub returns-clause-none : goal.returns-clause-none
returns-clause-none c = record {
  short = c.requires;
  characters = λ k within. c.loop-place.invariant k (omega arith) (let end = c.loop-place-test.false in omega (arith, within, end));
}
