use Rattle.std.proofs.Common.{sym, subst, List, ℕ}
use Rattle.explain_origins.specs.ToldOrigins.{AreHolderTexts, none}
use Rattle.explain_origins.proofs.telling.holder_texts.Goals as goal

pub loop-place-init : goal.loop-place-init
loop-place-init c =
    subst (λ (all : List ℕ). AreHolderTexts c.args.setup.now c.args.cards.now c.args.passed c.args.ways.now 0 all) (sym c.new-text.ensures.items) none
