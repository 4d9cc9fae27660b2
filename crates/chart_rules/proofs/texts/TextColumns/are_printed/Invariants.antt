use Rattle.std.proofs.Common.{◌≡◌}
use Rattle.chart_rules.specs.HelperTexts.{ArePrinted}
use Rattle.chart_rules.proofs.texts.TextColumns.are_printed.Given as goal

-- where nothing was found so far, the columns so far are printed
abbrev pub invariant-loop-place : goal.invariant-loop-place
invariant-loop-place l = l.unprinted ≡ 0 → ArePrinted l.self.masks l.place l.card
