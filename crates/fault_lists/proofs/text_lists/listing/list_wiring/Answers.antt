use Rattle.std.proofs.Common.{◌∙◌, sym}
use Rattle.fault_lists.proofs.TextLists.Lists.{none_there, wired_ends, wired_ok}
use Rattle.fault_lists.proofs.text_lists.listing.list_wiring.Goals as goal

pub returns-clause-ends : goal.returns-clause-ends
returns-clause-ends g c =
    wired_ends c.args.text.now c.as_slice.result.now c.as_slice-faults.result.now _ _ _ c.told_faults.result c.in-len1-up.len_at_least
    (rw (c.as_slice-faults.ensures.value, c.as_slice.ensures.value) c.in_ok-found.ensures) c.told_faults.ensures

pub returns-in-empty-clause-fine : goal.returns-in-empty-clause-fine
returns-in-empty-clause-fine g c =
    wired_ok c.put.result c.args.text.now c.in_ok-found.found.good.items c.in_ok-found.found.faults.items _ _ c.in_ok-found.ensures
    (sym c.as_slice-faults.ensures.value ∙ none_there c.as_slice-faults.result.now c.in-empty.len_below) c.put.ensures.written
