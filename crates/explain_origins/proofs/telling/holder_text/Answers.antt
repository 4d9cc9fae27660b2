use Rattle.std.proofs.Common.{◌∙◌, sym, subst, List, ℕ}
use Rattle.explain_origins.specs.ToldOrigins.{IsHolderText, told, untold}
use Rattle.explain_origins.proofs.telling.holder_text.Goals as goal

pub returns-then-not-ways_rest_on : goal.returns-then-not-ways_rest_on
returns-then-not-ways_rest_on c =
    subst (λ (all : List ℕ). IsHolderText c.args.setup.now c.args.cards.now c.args.passed c.args.ways.now c.args.holder all)
    (sym c.new.ensures.items) (untold (sym c.ways_rest_on.ensures ∙ c.if-not-ways_rest_on.true))

pub returns : goal.returns
returns c =
    told c.in_ok-last.last c.in_ok-text.text.items (sym c.ways_rest_on.ensures ∙ c.if-not-ways_rest_on.false) c.in_ok-last.ensures.last
    c.in_ok-text.ensures
