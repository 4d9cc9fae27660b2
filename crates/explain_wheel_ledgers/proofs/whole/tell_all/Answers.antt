use Rattle.std.proofs.Common.{◌∙◌, ap, ℕ, List, ◌++◌, get_or, length}
use Rattle.explain_wheel_ledgers.proofs.Asked.{wanted-accounts, wanted-have}
use Rattle.explain_wheel_ledgers.proofs.Down.{account-at, first-at, first-in, kept-at, last-at, last-in, some-all, some-more, some-none}
use Rattle.explain_wheel_ledgers.proofs.whole.tell_all.Goals as goal

pub ledgers_before-requires-clause-has : goal.ledgers_before-requires-clause-has
ledgers_before-requires-clause-has c =
    wanted-have c.args.setup.now c.args.cards.now c.args.totals.now (length c.args.read_outs.now) c.args.asked.now c.requires.asked
    c.in_ok-wanted.wanted.items c.as_slice.result.now c.in_ok-wanted.ensures c.as_slice.ensures.value

pub ledgers_before-requires-clause-accounts : goal.ledgers_before-requires-clause-accounts
ledgers_before-requires-clause-accounts c =
    wanted-accounts c.args.setup.now c.args.cards.now c.args.totals.now (length c.args.read_outs.now) c.args.asked.now c.requires.asked
    c.in_ok-wanted.wanted.items c.as_slice.result.now c.in_ok-wanted.ensures c.as_slice.ensures.value c.requires.accounts

pub loop-place-init : goal.loop-place-init
loop-place-init c =
    some-none c.args.setup.now c.args.cards.now c.args.totals.now c.args.read_outs.now c.args.ends c.args.asked.now c.args.text.now.items
    c.new-lower.result.items c.new-lower.ensures.items

pub text_down-requires-clause-account : goal.text_down-requires-clause-account
text_down-requires-clause-account c =
    account-at c.args.setup.now c.args.cards.now c.args.totals.now c.args.ends (length c.args.read_outs.now) c.args.asked.now
    c.requires.asked c.in_ok-kept.kept.items c.as_slice-ledgers.result.now c.as_slice.result.now c.in_ok-wanted.wanted.items
    c.as_slice-ledgers.ensures.value c.in_ok-kept.ensures.asked c.as_slice.ensures.value c.in_ok-wanted.ensures c.in_ok-kept.ensures.kept
    c.loop-place.place c.index-ledgers-place.result c.loop-place-test.true c.requires.accounts

pub text_down-requires-clause-first : goal.text_down-requires-clause-first
text_down-requires-clause-first c =
    first-in c.args.setup.now c.args.cards.now c.args.totals.now c.args.ends (length c.args.read_outs.now) c.args.asked.now
    c.requires.asked c.in_ok-kept.kept.items c.as_slice-ledgers.result.now c.as_slice.result.now c.in_ok-wanted.wanted.items
    c.as_slice-ledgers.ensures.value c.in_ok-kept.ensures.asked c.as_slice.ensures.value c.in_ok-wanted.ensures c.in_ok-kept.ensures.kept
    c.loop-place.place c.index-ledgers-place.result c.loop-place-test.true

pub text_down-requires-clause-last : goal.text_down-requires-clause-last
text_down-requires-clause-last c =
    last-in c.args.setup.now c.args.cards.now c.args.totals.now c.args.ends (length c.args.read_outs.now) c.args.asked.now
    c.requires.asked c.in_ok-kept.kept.items c.as_slice-ledgers.result.now c.as_slice.result.now c.in_ok-wanted.wanted.items
    c.as_slice-ledgers.ensures.value c.in_ok-kept.ensures.asked c.as_slice.ensures.value c.in_ok-wanted.ensures c.in_ok-kept.ensures.kept
    c.loop-place.place c.index-ledgers-place.result c.loop-place-test.true

pub add_lower_told-requires-clause-account : goal.add_lower_told-requires-clause-account
add_lower_told-requires-clause-account c =
    account-at c.args.setup.now c.args.cards.now c.args.totals.now c.args.ends (length c.args.read_outs.now) c.args.asked.now
    c.requires.asked c.in_ok-kept.kept.items c.as_slice-ledgers.result.now c.as_slice.result.now c.in_ok-wanted.wanted.items
    c.as_slice-ledgers.ensures.value c.in_ok-kept.ensures.asked c.as_slice.ensures.value c.in_ok-wanted.ensures c.in_ok-kept.ensures.kept
    c.loop-place.place c.index-ledgers-place.result c.loop-place-test.true c.requires.accounts

pub add_lower_told-requires-clause-first : goal.add_lower_told-requires-clause-first
add_lower_told-requires-clause-first c =
    first-at c.args.setup.now c.args.cards.now c.args.totals.now c.args.ends (length c.args.read_outs.now) c.args.asked.now
    c.requires.asked c.in_ok-kept.kept.items c.as_slice-ledgers.result.now c.as_slice.result.now c.in_ok-wanted.wanted.items
    c.as_slice-ledgers.ensures.value c.in_ok-kept.ensures.asked c.as_slice.ensures.value c.in_ok-wanted.ensures c.in_ok-kept.ensures.kept
    c.loop-place.place c.index-ledgers-place.result c.loop-place-test.true

pub add_lower_told-requires-clause-last : goal.add_lower_told-requires-clause-last
add_lower_told-requires-clause-last c =
    last-at c.args.setup.now c.args.cards.now c.args.totals.now c.args.ends (length c.args.read_outs.now) c.args.asked.now
    c.requires.asked c.in_ok-kept.kept.items c.as_slice-ledgers.result.now c.as_slice.result.now c.in_ok-wanted.wanted.items
    c.as_slice-ledgers.ensures.value c.in_ok-kept.ensures.asked c.as_slice.ensures.value c.in_ok-wanted.ensures c.in_ok-kept.ensures.kept
    c.loop-place.place c.index-ledgers-place.result c.loop-place-test.true

pub loop-place-preserved : goal.loop-place-preserved
loop-place-preserved c =
    some-more c.args.setup.now c.args.cards.now c.args.totals.now c.args.read_outs.now c.args.ends c.args.asked.now c.loop-place.place _
    (get_or c.as_slice-ledgers.result.now c.loop-place.place c.index-ledgers-place.result).ledger c.find_total-total.result c.args.text.now.items c.loop-place.text.items c.extend_from_slice.new.self.items
    c.in_ok-down.down.items c.loop-place.lower.items c.add_lower_told.new.lower.items c.loop-place-test.true c.requires.asked
    (kept-at c.args.setup.now c.args.cards.now c.args.totals.now c.args.ends (length c.args.read_outs.now) c.args.asked.now
    c.requires.asked c.in_ok-kept.kept.items c.as_slice-ledgers.result.now c.as_slice.result.now c.in_ok-wanted.wanted.items
    c.as_slice-ledgers.ensures.value c.in_ok-kept.ensures.asked c.as_slice.ensures.value c.in_ok-wanted.ensures c.in_ok-kept.ensures.kept
    c.loop-place.place c.index-ledgers-place.result c.loop-place-test.true _)
    c.find_total-total.ensures.value c.in_ok-down.ensures
    (c.in_ok-extend_from_slice.ensures.items ∙ ap (λ (l : List ℕ). c.loop-place.text.items ++ l) c.as_slice-in-loop-place.ensures.value)
    c.in_ok-add_lower_told.ensures c.loop-place.invariant

pub returns-clause-told : goal.returns-clause-told
returns-clause-told c =
    some-all c.args.setup.now c.args.cards.now c.args.totals.now c.args.read_outs.now c.args.ends c.args.asked.now c.loop-place.place
    c.args.text.now.items c.loop-place.text.items c.loop-place.lower.items c.loop-place-test.false c.loop-place.invariant

pub returns-clause-asked : goal.returns-clause-asked
returns-clause-asked c = c.loop-place.invariant.can
