use Rattle.cli_matching.proofs.match_decks.running.deck_difference.Goals as goal

pub returns : goal.returns
returns c = record {
  lines = c.as_slice.result.now;
  others = c.as_slice-2.result.now;
  run = rw c.as_slice.ensures.value c.in_ok-lines.ensures.lines;
  other_run = rw c.as_slice-2.ensures.value c.in_ok-other_lines.ensures.lines;
  same = c.line_difference.ensures.same;
  first = c.line_difference.ensures.first;
}
