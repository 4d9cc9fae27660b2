use Rattle.std.proofs.Common.{ap, arith, List, ◌++◌, None}
use Rattle.cli_decks.proofs.DeckNotes.KeyReturns.Walked.{walked, walks_on}
use Rattle.cli_decks.specs.DeckNotes.KeyReturns.Returns.{none_earlier, returns_from}
use Rattle.cli_decks.specs.declared.deck_notes.key_returns.returns.Return.{Return}
use Rattle.cli_decks.proofs.deck_notes.key_returns.returns.key_returns.Goals as goal

pub loop-place-init : goal.loop-place-init
loop-place-init c = record {
  earlier = none_earlier;
  kept = c.new.ensures c.args.chart.now.lines;
  goes_on = ap (λ (l : List Return). l ++ returns_from c.args.chart.now.lines none_earlier None 1 c.args.cards.now) c.new-2.ensures.items;
}

pub loop-place-preserved : goal.loop-place-preserved
loop-place-preserved c =
    walks_on c.args.chart.now.lines c.args.cards.now c.loop-place.place c.index-cards-place.result c.loop-place.walk c.take.new.self
    (omega arith) c.index-cards-place.is c.loop-place.invariant c.in_ok-take.ensures

pub returns : goal.returns
returns c = walked c.args.chart.now.lines c.args.cards.now c.loop-place.place c.loop-place.walk (omega arith) c.loop-place.invariant
