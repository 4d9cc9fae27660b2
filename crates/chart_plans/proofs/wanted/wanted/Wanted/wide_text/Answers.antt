use Rattle.std.proofs.Common.{ap}
use Rattle.chart_plans.specs.WantedWords.Wanted.{Wanted}
use Rattle.chart_plans.proofs.WantedWords.WideTexts.{IsLowestOf-seen}
use Rattle.chart_plans.proofs.wanted.wanted.Wanted.wide_text.Goals as goal

pub returns : goal.returns
returns c =
    IsLowestOf-seen c.self.inside.wide_texts.items c.args.self.now.wide_texts c.index.result.now (ap (λ (wanted : Wanted). wanted.wide_texts) c.self.view_is)
    c.requires c.index.ensures c.self.invariant.lowest
