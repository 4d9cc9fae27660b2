use Rattle.std.proofs.Common.{◌∙◌, ◌++◌, ap, List, ℕ}
use Rattle.explain_origins.proofs.Texts.{one-more}
use Rattle.explain_origins.proofs.telling.add_holder.Goals as goal

pub returns : goal.returns
returns c =
    one-more c.args.setup.now c.args.cards.now c.args.passed c.args.ways.now c.args.place c.holder_at.result c.args.text.now.items
    c.in_ok-one.one.items c.extend_from_slice.new.self.items c.requires.texts c.holder_at.ensures.value c.in_ok-one.ensures
    (c.in_ok-extend_from_slice.ensures.items ∙ ap (λ (l : List ℕ). c.args.text.now.items ++ l) c.as_slice.ensures.value)
