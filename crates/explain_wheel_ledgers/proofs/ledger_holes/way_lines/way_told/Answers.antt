use Rattle.explain_wheel_ledgers.proofs.ledger_holes.way_lines.way_told.Goals as goal

pub returns : goal.returns
returns c deck passed is = record {
  found = c.in_ok-found.found;
  tells = c.in_ok-found.ensures deck passed is;
  line = c.in_ok-line.ensures;
}
