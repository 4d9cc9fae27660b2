use Rattle.std.proofs.Common.{◌∙◌, ◌++◌, sym, ap, List, ℕ}
use Rattle.explain_wheel_ledgers.proofs.Behind.{one_more}
use Rattle.explain_wheel_ledgers.specs.Resting.{other}
use Rattle.explain_wheel_ledgers.proofs.resting.add_ledger.Goals as goal

pub returns-then-not-is_printed_of : goal.returns-then-not-is_printed_of
returns-then-not-is_printed_of c =
    other c.args.place c.args.text.now.items c.requires.texts (sym c.is_printed_of.ensures ∙ c.if-not-is_printed_of.true)

pub returns : goal.returns
returns c =
    one_more c.args.setup.now c.args.cards.now c.args.totals.now c.args.ends c.args.found c.args.ways.now c.args.place
    c.args.text.now.items c.in_ok-ledger.ledger.items c.extend_from_slice.new.self.items c.requires.texts
    (sym c.is_printed_of.ensures ∙ c.if-not-is_printed_of.false) c.in_ok-ledger.ensures
    (c.in_ok-extend_from_slice.ensures.items ∙ ap (λ (l : List ℕ). c.args.text.now.items ++ l) c.as_slice.ensures.value)
