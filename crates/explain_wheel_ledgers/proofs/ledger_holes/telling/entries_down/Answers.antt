use Rattle.std.proofs.Common.{◌∙◌, ◌++◌, ap, refl, List, ℕ}
use Rattle.std.specs.Prelude.{option_map}
use Rattle.explain_ledgers.specs.LedgersWords.LedgerText.Titles.{words_of}
use Rattle.explain_wheel_ledgers.proofs.LedgerHoles.Texts.{entries-all, entries-more, entries-none}
use Rattle.explain_wheel_ledgers.proofs.ledger_holes.telling.entries_down.Goals as goal

pub loop-entry-init : goal.loop-entry-init
loop-entry-init c = (
  entries-none c.args.setup.now c.args.cards.now (option_map words_of c.args.title.now) c.args.account c.args.entries.now
      c.new-text.result.items c.new-text.ensures.items,
  c.requires.between,
)

pub loop-entry-preserved : goal.loop-entry-preserved
loop-entry-preserved c = (
  entries-more c.args.setup.now c.args.cards.now (option_map words_of c.args.title.now) c.args.account c.args.entries.now
      c.loop-entry.entry-index _ _ c.loop-entry.text.items c.in_ok-next.next.items c.extend_from_slice.new.self.items
      c.loop-entry-test.true refl c.loop-entry.invariant.0 c.in_ok-next.ensures.told
      (c.in_ok-extend_from_slice.ensures.items ∙ ap (λ (l : List ℕ). c.loop-entry.text.items ++ l) c.as_slice.ensures.value),
  c.entry_down.ensures.between,
)

pub returns-clause-told : goal.returns-clause-told
returns-clause-told c =
    entries-all c.args.setup.now c.args.cards.now (option_map words_of c.args.title.now) c.args.account c.args.entries.now
    c.loop-entry.entry-index c.loop-entry.text.items c.loop-entry-test.false c.loop-entry.invariant.0
