use Rattle.std.proofs.Common.{arith, refl}
use Rattle.explain_origins.proofs.Texts.{unlike_more}
use Rattle.explain_origins.proofs.levels.write_unlike_lines.Goals as goal

pub loop-row-preserved : goal.loop-row-preserved
loop-row-preserved c =
    let low = c.loop-row-test.true in
    unlike_more c.args.setup.now c.args.cards.now c.args.card c.args.position c.args.text.now.items c.loop-row.text.items
    c.write_unlike_at.new.text.items c.args.rows.now c.loop-row.row-index _ _ (omega (arith, low)) refl c.loop-row.invariant
    c.in_ok-write_unlike_at.ensures
