use Rattle.std.proofs.Common.{◌≡◌, ◌≤◌, length}
use Rattle.chart_rules.specs.HelperTexts.{AreMarked}
use Rattle.chart_rules.proofs.texts.TextColumns.of.Given as goal

abbrev pub invariant-loop-field : goal.invariant-loop-field
invariant-loop-field l = record {
  marked : AreMarked l.fields l.field-index l.masks l.last;
  few : l.last ≤ 80;
  long : length l.masks ≡ 80;
}
