use Rattle.std.proofs.Common.{sym, subst, List, ℕ}
use Rattle.explain_wheel_ledgers.specs.Resting.{ArePlaceTexts, none}
use Rattle.explain_wheel_ledgers.proofs.resting.texts_of.Goals as goal

pub loop-place-init : goal.loop-place-init
loop-place-init c =
    subst
    (λ (all : List ℕ). ArePlaceTexts c.args.setup.now c.args.cards.now c.args.totals.now c.args.ends c.args.found c.args.ways.now 0 all)
    (sym c.new-text.ensures.items) none
