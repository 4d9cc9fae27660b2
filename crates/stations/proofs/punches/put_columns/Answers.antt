use Rattle.std.proofs.Common.{◌≡◌, ◌∙◌, ap, arith, length}
use Rattle.std.proofs.lemmas.Grind.{get_or_default_zero}
use Rattle.stations.proofs.KeptColumns.{columns-done, columns-first, columns-next}
use Rattle.stations.proofs.punches.put_columns.Goals as goal

pub loop-k-init : goal.loop-k-init
loop-k-init c = columns-first c.columns-punched.result.now c.args.columns.now (omega arith)

pub loop-k-preserved : goal.loop-k-preserved
loop-k-preserved c =
    let whole : length c.columns-punched.result.now ≡ 80 = ap length c.columns-punched.ensures.columns ∙ c.columns-punched.ensures.whole in
    let below = c.loop-k-test.true in
    columns-next c.loop-k.k c.set.result c.columns-punched.result.now c.loop-k.columns below
    (c.set.ensures.value ∙ get_or_default_zero c.columns-punched.result.now c.loop-k.k _ (omega (arith, whole, below))) c.loop-k.invariant

pub returns : goal.returns
returns c =
    columns-done c.loop-k.k c.columns-punched.result.now c.loop-k.columns (omega arith)
    (ap length c.columns-punched.ensures.columns ∙ c.columns-punched.ensures.whole) c.loop-k.invariant
    ∙ c.columns-punched.ensures.columns
