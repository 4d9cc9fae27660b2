use Rattle.explain_wheel_ledgers.proofs.LedgerHoles.Lists.{two-put}
use Rattle.explain_wheel_ledgers.proofs.ledger_holes.controls.both_lines.Goals as goal

pub returns : goal.returns
returns c deck passed is = record {
  of_one = c.in_ok-of_one.of_one.items;
  first = c.in_ok-of_one.ensures deck passed is;
  of_other = c.in_ok-of_other.of_other.items;
  second = c.in_ok-of_other.ensures deck passed is;
  whole =
      two-put c.in_ok-lines.lines.items c.as_slice.result.now c.as_slice-2.result.now c.in_ok-of_one.of_one.items
      c.in_ok-of_other.of_other.items c.in_ok-lines.ensures c.as_slice.ensures.value c.as_slice-2.ensures.value;
}
