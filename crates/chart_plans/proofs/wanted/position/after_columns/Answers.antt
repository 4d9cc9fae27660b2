use Rattle.std.proofs.Common.{◌≡◌, true, arith}
use Rattle.chart_plans.proofs.WantedWords.Columns.{columns-short, columns-front, columns-differ}
use Rattle.chart_plans.proofs.wanted.position.after_columns.Goals as goal

pub returns-then-list-columns : goal.returns-then-list-columns
returns-then-list-columns c = columns-short c.args.list.now c.args.line c.args.field (omega (arith, c.columns-columns.ensures))

pub returns-then-are_columns : goal.returns-then-are_columns
returns-then-are_columns c =
    columns-front c.args.list.now c.split_at.result.0.now c.split_at.result.1.now c.args.line c.args.field c.columns-columns.result
    c.columns-columns.ensures (omega arith) c.split_at.ensures.front c.split_at.ensures.back (c.are_columns.ensures.0 c.if-are_columns.true)

pub returns-else-are_columns : goal.returns-else-are_columns
returns-else-are_columns c =
    columns-differ c.args.list.now c.split_at.result.0.now c.args.line c.args.field c.columns-columns.result
    c.columns-columns.ensures c.split_at.ensures.front (λ follow. let same : c.are_columns.result ≡ true = c.are_columns.ensures.1 follow in cc (c.if-are_columns.false))
