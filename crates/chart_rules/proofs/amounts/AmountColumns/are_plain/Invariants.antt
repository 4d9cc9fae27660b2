use Rattle.std.proofs.Common.{◌≡◌, ◌-◌, ◌<◌, ◌≤◌, slice_index}
use Rattle.card_code.specs.Columns.{column_of}
use Rattle.chart_rules.specs.HelperAmounts.{ArePlain}
use Rattle.chart_rules.proofs.amounts.AmountColumns.are_plain.Given as goal

-- where nothing was found so far, the columns so far are plain
abbrev pub invariant-loop-place : goal.invariant-loop-place
invariant-loop-place l = record {
  plain : l.faults ≡ 0 → ArePlain l.self l.place l.card;
  behind : 1 ≤ l.place → column_of l.before ≡ slice_index l.card (l.place - 1);
  small : l.before < 4096;
}
