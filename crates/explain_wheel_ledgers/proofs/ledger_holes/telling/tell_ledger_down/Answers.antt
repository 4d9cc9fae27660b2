use Rattle.std.proofs.Common.{◌∙◌, ◌++◌, ap}
use Rattle.std.specs.Prelude.{option_map}
use Rattle.explain_ledgers.specs.LedgersWords.LedgerText.Entries.{gap_lines}
use Rattle.explain_ledgers.specs.LedgersWords.LedgerText.Tellings.{heading_line}
use Rattle.explain_ledgers.specs.LedgersWords.LedgerText.Titles.{words_of}
use Rattle.explain_ledgers.specs.declared.ledgers.account.Account.{Account}
use Rattle.explain_ledgers.specs.declared.ledgers.ledger.LeftOut.{LeftOut}
use Rattle.explain_wheel_ledgers.proofs.LedgerHoles.Lists.{two-put}
use Rattle.explain_wheel_ledgers.proofs.LedgerHoles.Texts.{entries-of}
use Rattle.explain_wheel_ledgers.proofs.ledger_holes.telling.tell_ledger_down.Goals as goal

pub returns : goal.returns
returns c =
    let words = option_map words_of c.args.title.now in
    let told = c.args.ledger.now in
    let heading = heading_line told.account c.args.cycle c.args.card in
    let gap = gap_lines words told.left_out in
    let begun =
    two-put c.in_ok-begun.begun.items c.as_slice.result.now c.as_slice-2.result.now heading c.in_ok-first.first.items
    c.in_ok-begun.ensures
    (c.as_slice.ensures.value ∙ c.in_ok-heading.ensures
    ∙ ap (λ (a : Account). heading_line a c.args.cycle c.args.card) c.account-account.ensures) c.as_slice-2.ensures.value in
    let more =
    two-put c.in_ok-more.more.items c.as_slice-3.result.now c.as_slice-4.result.now (heading ++ c.in_ok-first.first.items) gap
    c.in_ok-more.ensures (c.as_slice-3.ensures.value ∙ begun)
    (c.as_slice-4.ensures.value ∙ c.in_ok-gap.ensures ∙ ap (λ (l : LeftOut). gap_lines words l) c.left_out.ensures) in
    record {
      first = c.in_ok-first.first.items;
      are_first =
          entries-of c.args.setup.now c.args.cards.now words c.account-account.result told.account c.first.result.now told.first
          c.in_ok-first.first.items c.account-account.ensures c.first.ensures c.in_ok-first.ensures.told;
      last = c.in_ok-last.last.items;
      are_last =
          entries-of c.args.setup.now c.args.cards.now words c.account-account.result told.account c.last.result.now told.last
          c.in_ok-last.last.items c.account-account.ensures c.last.ensures c.in_ok-last.ensures.told;
      whole =
          two-put c.in_ok-text.text.items c.as_slice-5.result.now c.as_slice-6.result.now
          ((heading ++ c.in_ok-first.first.items) ++ gap) c.in_ok-last.last.items c.in_ok-text.ensures
          (c.as_slice-5.ensures.value ∙ more) c.as_slice-6.ensures.value;
    }
