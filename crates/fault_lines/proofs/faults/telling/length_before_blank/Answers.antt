-- The place that `position` finds is the first one, and there is no other.
use Rattle.std.proofs.Common.{rules, tests, ◌==◌, ℕ, ap, ◌∙◌, unwrap_or, length}
use Rattle.std.proofs.lemmas.Iterator.{YieldsList-from_slice}
use Rattle.std.proofs.lemmas.Iterator.Search.{position_from_yields_List}
use Rattle.std.proofs.lemmas.List.Sums.{prefix_len-le-length}
use Rattle.chart_lines.proofs.ChartsWords.Fronts.{first_place_or_length}
use Rattle.fault_lines.proofs.faults.telling.length_before_blank.Goals as goal

pub returns-clause-value : goal.returns-clause-value
returns-clause-value c =
    let xs = c.args.characters.now in
    let found = position_from_yields_List (λ (b : ℕ). b == 32) _ _ c.position.result c.position.ensures.ran
    (YieldsList-from_slice xs cc) (λ x b q k. search (rules, tests)) in
    c.unwrap_or.ensures
    ∙ (ap (λ o. unwrap_or o (length xs)) found ∙ first_place_or_length _ (length xs) (prefix_len-le-length _ xs))
