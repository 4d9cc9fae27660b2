-- The misfits of a card are told with its number.
use Rattle.std.proofs.Common.{◌≡◌, ◌∙◌, ap, sym, ℕ, zero, suc, List, [], ◌∷◌, Some}
use Rattle.std.specs.List.{All}
use Rattle.std.proofs.lemmas.List.Elements.{All-nil, All-append, All-head}
use Rattle.chart_lines.specs.declared.charts.chart.Line.{Line}
use Rattle.report_definition.specs.Misfits.{Misfit, misfits_in, first_of}
use Rattle.report_definition.proofs.GroupMisfits.{misfits_numbered}
use Rattle.report_definition.specs.FollowedDecks.CardMisfits.{misfits_to}

-- a misfit is told of a card
abbrev IsAt : ℕ → Misfit → Type 0
IsAt card misfit = misfit.card ≡ card

-- the misfits of the groups of some levels
misfits_to-numbered : (lines : List Line) (card level : ℕ) (groups : ℕ → List (List ℕ))
    → All (IsAt card) (misfits_to lines card level groups)
misfits_to-numbered lines card zero groups = All-nil (IsAt card)
misfits_to-numbered lines card (suc level) groups =
    All-append (IsAt card) (misfits_to lines card level groups) (misfits_in lines (suc level) card (groups (suc level)))
    (misfits_to-numbered lines card level groups) (misfits_numbered lines (suc level) card (groups (suc level)))

-- the first of them
pub first-card : (lines : List Line) (card level : ℕ) (groups : ℕ → List (List ℕ)) (misfit : Misfit)
    → first_of (misfits_to lines card level groups) ≡ Some misfit → misfit.card ≡ card
first-card lines card level groups misfit first = by (misfits_to lines card level groups) (misfits_to-numbered lines card level groups) first
  where
    same_card : (one other : Misfit) → Some one ≡ Some other → other.card ≡ one.card
    same_card one other is = let same : one ≡ other = cc in ap (λ (m : Misfit). m.card) (sym same)

    by : (some : List Misfit) → All (IsAt card) some → first_of some ≡ Some misfit → misfit.card ≡ card
    by [] all is = absurd cc
    by (one ∷ more) all is = same_card one misfit is ∙ All-head (IsAt card) one more all
