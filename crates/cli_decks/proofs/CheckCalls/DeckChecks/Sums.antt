-- The sums before the last card.
use Rattle.std.proofs.Common.{◌≡◌, ◌∙◌, sym, ap, subst, ℕ, ◌+◌, ◌<◌, ◌≤◌, true, List, [], ◌∷◌, ◌++◌, Option, Some, None, is_some, arith}
use Rattle.std.proofs.lemmas.Bool.{false≢true}
use Rattle.card_code.specs.MostCards.{most_cards}
use Rattle.chart_lines.specs.declared.charts.chart.Line.{Line}
use Rattle.cli_decks.specs.CheckCalls.DeckChecks.HelperStanding.{AreBeforeLast, IsAt}
use Rattle.cli_decks.specs.declared.check_calls.deck_checks.standing.Standing.{Standing}
use Rattle.report_definition.specs.FollowedDecks.FitSoFar.{groups_before}
use Rattle.report_definition.specs.FollowedDecks.Stands.{last_of}
use Rattle.report_definition.proofs.FollowedDecks.FitSoFar.{last-more}
use Rattle.report_misfits.specs.OpenSums.{AreSumsOf, Sums}
use Rattle.report_misfits.proofs.Following.{sums_go_on}
use Rattle.report_definition.specs.Breaks.{cleared, ended_after, taking}

-- the card that is there
abbrev card_in : Option (List ℕ) → List ℕ
card_in None = []
card_in (Some card) = card

-- where the last card is taken, given the next
pub last_goes_on : (lines : List Line) (card : List ℕ) (last next : Option (List ℕ)) (old new : Sums) → last ≡ Some card
    → ((so_far : ℕ → List (List ℕ)) → AreSumsOf lines so_far old → AreSumsOf lines (cleared (ended_after lines card next) (taking card so_far)) new)
    → new.cards ≡ old.cards + 1
    → (cards : List (List ℕ)) (one : List ℕ) → next ≡ Some one → AreBeforeLast lines cards last old → AreBeforeLast lines (cards ++ one ∷ []) (Some one) new
last_goes_on lines card last next old new is goes counted [] one some have = absurd (false≢true (ap is_some (sym have.0 ∙ is)))
last_goes_on lines card last next old new is goes counted (first ∷ others) one some have =
    let same : card ≡ last_of first others = ap card_in (sym is ∙ have.0) in
    let so_far = groups_before lines first others in
    let are = subst (λ c. AreSumsOf lines (cleared (ended_after lines c (Some one)) (taking c so_far)) new) same
    (subst (λ n. AreSumsOf lines (cleared (ended_after lines card n) (taking card so_far)) new) some (goes so_far have.1)) in
    let more = sums_go_on lines first others one old new (record { are = have.1; counted = have.2 }) are counted in
    (ap Some (sym (last-more first others one)), more.are, more.counted)

-- fewer than 999,999 cards were taken, since there is none behind the last
pub few_taken : (lines : List Line) (so_far : Option (List (List ℕ))) (standing : Standing) → IsAt lines so_far standing
    → standing.is_good ≡ true → standing.count ≤ most_cards → standing.sums.cards < most_cards
few_taken lines None standing at good few = absurd (false≢true (sym at ∙ good))
few_taken lines (Some []) standing at good few = omega (arith, at.1.2)
few_taken lines (Some (card ∷ cards)) standing at good few = omega (arith, at.1.2, at.2, few)
