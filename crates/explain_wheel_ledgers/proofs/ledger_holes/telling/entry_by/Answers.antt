use Rattle.std.proofs.Common.{◌∙◌, ◌++◌}
use Rattle.std.specs.Prelude.{option_map}
use Rattle.explain_ledgers.specs.LedgersWords.LedgerText.Entries.{entry_line}
use Rattle.explain_ledgers.specs.LedgersWords.LedgerText.Titles.{words_of}
use Rattle.explain_wheel_ledgers.proofs.LedgerHoles.Lists.{two-put}
use Rattle.explain_wheel_ledgers.proofs.ledger_holes.telling.entry_by.Goals as goal

pub returns : goal.returns
returns c is =
    let line = entry_line (option_map words_of c.args.title.now) c.args.account c.args.entry.now in
    let told =
    two-put c.in_ok-told.told.items c.as_slice.result.now c.as_slice-2.result.now line c.in_ok-controls.controls.items
    c.in_ok-told.ensures (c.as_slice.ensures.value ∙ c.in_ok-line.ensures) c.as_slice-2.ensures.value in
    record {
      has = is.has;
      controls = c.in_ok-controls.controls.items;
      are_controls = c.in_ok-controls.ensures c.args.cards.now c.args.entry.now.passed is;
      entered = c.in_ok-entered.entered.items;
      are_entered = c.in_ok-entered.ensures c.args.entry.now.passed is;
      whole =
          two-put c.in_ok-text.text.items c.as_slice-3.result.now c.as_slice-4.result.now (line ++ c.in_ok-controls.controls.items)
          c.in_ok-entered.entered.items c.in_ok-text.ensures (c.as_slice-3.ensures.value ∙ told) c.as_slice-4.ensures.value;
    }
