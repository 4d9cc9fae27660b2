use Rattle.std.proofs.Common.{◌∙◌, ◌++◌}
use Rattle.explain_wheel_ledgers.proofs.LedgerHoles.Lists.{two-put}
use Rattle.explain_wheel_ledgers.proofs.ledger_holes.controls.control_lines.Goals as goal

pub returns : goal.returns
returns c deck passed is =
    let signs =
    two-put c.in_ok-signs.signs.items c.as_slice.result.now c.as_slice-2.result.now c.in_ok-plus.plus.items c.in_ok-minus.minus.items
    c.in_ok-signs.ensures c.as_slice.ensures.value c.as_slice-2.ensures.value in
    record {
      plus = c.in_ok-plus.plus.items;
      is_plus = c.in_ok-plus.ensures deck passed is;
      minus = c.in_ok-minus.minus.items;
      is_minus = c.in_ok-minus.ensures deck passed is;
      read_out = c.in_ok-read_out.read_out.items;
      is_read_out = c.in_ok-read_out.ensures deck passed is;
      whole =
          two-put c.in_ok-lines.lines.items c.as_slice-3.result.now c.as_slice-4.result.now
          (c.in_ok-plus.plus.items ++ c.in_ok-minus.minus.items) c.in_ok-read_out.read_out.items c.in_ok-lines.ensures
          (c.as_slice-3.ensures.value ∙ signs) c.as_slice-4.ensures.value;
    }
