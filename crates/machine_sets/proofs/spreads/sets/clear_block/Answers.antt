use Rattle.std.proofs.Common.{◌∙◌, ap, arith, List, ℕ}
use Rattle.machine_sets.specs.SpreadsWords.Links.{has_at}
use Rattle.machine_sets.proofs.SpreadsWords.Cleared.{cleared-beyond, cleared-last}
use Rattle.machine_sets.proofs.spreads.sets.clear_block.Goals.{then-block-le-LAST_BLOCK, else-block-le-LAST_BLOCK}
use Rattle.machine_sets.proofs.spreads.sets.clear_block.Goals as goal

pub returns-else-block-lt-LAST_BLOCK-clause-rows : goal.returns-else-block-lt-LAST_BLOCK-clause-rows
returns-else-block-lt-LAST_BLOCK-clause-rows c =
    let late = c.if-block-lt-LAST_BLOCK.false in
    elim c.if-block-le-LAST_BLOCK.branch [
      | then-block-le-LAST_BLOCK w ↦
          let low = w.if-block-le-LAST_BLOCK.true in
          λ place row.
          ap (λ (sets : List ℕ). has_at sets place row) w.sets-is ∙ w.clear_sixteen.ensures.rows place row
          ∙ cleared-last c.args.block place row c.args.sets.now (omega (arith, low, late)) c.told-sets
      | else-block-le-LAST_BLOCK w ↦
          let high = w.if-block-le-LAST_BLOCK.false in
          λ place row.
          ap (λ (sets : List ℕ). has_at sets place row) w.sets-is
          ∙ cleared-beyond c.args.block place row c.args.sets.now (omega (arith, high)) c.told-sets
    ]
