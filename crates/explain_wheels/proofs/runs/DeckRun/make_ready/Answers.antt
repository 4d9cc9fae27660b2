use Rattle.std.proofs.Common.{arith}
use Rattle.explain_wheels.proofs.RunsWords.DeckRuns.{between-within}
use Rattle.explain_wheels.proofs.runs.DeckRun.make_ready.Goals as goal

pub overflow_add-self : goal.overflow_add-self
overflow_add-self c =
    let few = (between-within c.args.setup.now c.args.cards.now c.args.self.now c.requires.between).few in
    let cards = c.requires.few in
    omega (arith, few, cards)

pub overflow_add-self-in-Card : goal.overflow_add-self-in-Card
overflow_add-self-in-Card c =
    let within = between-within c.args.setup.now c.args.cards.now c.args.self.now c.requires.between in
    let few = within.few in let card = within.card in let cards = c.requires.few in omega (arith, few, card, cards)
