-- The sums before the last card that was read.
use Rattle.std.proofs.Common.{◌≡◌, ◌∙◌, sym, ap, subst, ℕ, ◌+◌, List, [], ◌∷◌, ◌++◌, Option, Some, None, is_some}
use Rattle.std.proofs.lemmas.Bool.{false≢true}
use Rattle.chart_lines.specs.declared.charts.chart.Line.{Line}
use Rattle.report_definition.specs.FollowedDecks.FitSoFar.{groups_before}
use Rattle.report_definition.specs.FollowedDecks.Stands.{last_of}
use Rattle.report_definition.proofs.FollowedDecks.FitSoFar.{last-more}
use Rattle.report_misfits.specs.OpenSums.{AreSumsOf, Sums}
use Rattle.report_misfits.proofs.Following.{sums_go_on}
use Rattle.report_definition.specs.Breaks.{cleared, ended_after, taking}
use Rattle.report_runs.specs.HelperStanding.{HaveLast}

-- the card that is there
abbrev card_in : Option (List ℕ) → List ℕ
card_in None = []
card_in (Some card) = card

-- where the last card is taken, given the next
pub last_goes_on : (lines : List Line) (card : List ℕ) (last next : Option (List ℕ)) (old new : Sums) → last ≡ Some card
    → ((so_far : ℕ → List (List ℕ)) → AreSumsOf lines so_far old → AreSumsOf lines (cleared (ended_after lines card next) (taking card so_far)) new)
    → new.cards ≡ old.cards + 1
    → (cards : List (List ℕ)) (one : List ℕ) → next ≡ Some one → HaveLast lines cards last old → HaveLast lines (cards ++ one ∷ []) (Some one) new
last_goes_on lines card last next old new is goes counted [] one some have = absurd (false≢true (ap is_some (sym have.0 ∙ is)))
last_goes_on lines card last next old new is goes counted (first ∷ others) one some have =
    let same : card ≡ last_of first others = ap card_in (sym is ∙ have.0) in
    let so_far = groups_before lines first others in
    let are = subst (λ c. AreSumsOf lines (cleared (ended_after lines c (Some one)) (taking c so_far)) new) same
    (subst (λ n. AreSumsOf lines (cleared (ended_after lines card n) (taking card so_far)) new) some (goes so_far have.1)) in
    let more = sums_go_on lines first others one old new (record { are = have.1; counted = have.2 }) are counted in
    (ap Some (sym (last-more first others one)), more.are, more.counted)
