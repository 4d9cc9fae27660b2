-- What a listing tells of the first lines of a deck: nothing of good cards whose totals fit, and then the fault of the line after them.
use Rattle.std.proofs.Common.{◌≡◌, ◌∙◌, refl, sym, ap, subst, ℕ, ◌+◌, ◌≤◌, List, [], ◌∷◌, ◌++◌, Option, Some, None, length, take, option_to_list, option_map, inl, inr, arith, append-nil, append_assoc, length-append}
use Rattle.std.proofs.Math.Seq.{take-append-le, take_all}
use Rattle.std.proofs.lemmas.Bool.{cases_lt}
use Rattle.std.proofs.lemmas.List.{same_from_push}
use Rattle.std.proofs.lemmas.List.Elements.{length_all_zip}
use Rattle.std.specs.List.{AllZip}
use Rattle.cli_decks.proofs.CheckCalls.BadLines.{IsBad, is_bad, not_both, one_card, one_told}
use Rattle.cli_decks.proofs.CheckCalls.EarlierGroups.{fits_go_back}
use Rattle.cli_decks.proofs.CheckCalls.Pairings.{flipped, has_last}
use Rattle.chart_lines.specs.ChartsWords.Chart.{Chart}
use Rattle.report_definition.specs.Misfits.{first_of}
use Rattle.compile407.specs.Below.report_runs.FirstCauses.{HaveFitSoFar}
use Rattle.cli_decks.specs.CheckCalls.DeckChecks.BadLines.{IsBadLine, IsGoodLine}
use Rattle.cli_decks.specs.CheckCalls.DeckChecks.Listings as listings
use Rattle.cli_decks.specs.CheckCalls.DeckChecks.Listings.{Lists, misfit_told, totals_told, with_card}
use Rattle.fault_lines.specs.declared.faults.fault.Fault.{Fault}

-- Where no group that ended before the last of some cards has a misfit, so it was before that card came, and nothing was told of it.
have_fit_before : (chart : Chart) (cards : List (List ℕ)) (card : List ℕ) → HaveFitSoFar chart.lines (cards ++ card ∷ [])
    → HaveFitSoFar chart.lines cards × (totals_told chart (Some cards) (Some card) ≡ [])
have_fit_before chart [] card fit = (tt, refl)
have_fit_before chart (first ∷ cards) card fit =
    let before = fits_go_back chart.lines first cards card fit in
    (before.0, ap (λ found. option_to_list (option_map misfit_told (first_of found))) before.1)

-- nothing is told of good cards where no group that ended before the last of them has a misfit
pub silent : {chart : Chart} {lines : List (List ℕ)} {so_far : Option (List (List ℕ))} {told : List Fault} → Lists chart lines so_far told
    → (cards : List (List ℕ)) → AllZip (IsGoodLine chart) lines cards → HaveFitSoFar chart.lines cards → (so_far ≡ Some cards) × (told ≡ [])
silent listings.none [] each fit = (refl, refl)
silent listings.none (card ∷ cards) each fit = absurd each
silent {chart} (listings.good lines so_far told line card before is) cards each fit =
    let last = has_last (λ c l. IsGoodLine chart l c) cards lines line (flipped (IsGoodLine chart) (lines ++ line ∷ []) cards each) in
    let same : cards ≡ last.front ++ card ∷ [] =
    last.are ∙ ap (λ c. last.front ++ c ∷ []) (one_card line last.last card last.one.punched is.punched) in
    let fit_before = have_fit_before chart last.front card (subst (HaveFitSoFar chart.lines) same fit) in
    let known = silent before last.front (flipped (λ c l. IsGoodLine chart l c) last.front lines last.each) fit_before.0 in (
      ap (with_card card) known.0 ∙ ap Some (sym same),
      ap (λ t. t ++ totals_told chart so_far (Some card)) known.1 ∙ ap (λ s. totals_told chart s (Some card)) known.0 ∙ fit_before.1,
    )
silent {chart} (listings.bad lines so_far told line fault before is) cards each fit =
    let last = has_last (λ c l. IsGoodLine chart l c) cards lines line (flipped (IsGoodLine chart) (lines ++ line ∷ []) cards each) in
    absurd (not_both chart (length lines + 1) line last.last fault last.one (is_bad is))

-- What stops at the line after those of some cards, and what is told of it: it is bad, or it is a good card before which a group ends whose total
-- does not fit.
pub data StopsAt (chart : Chart) (cards : List (List ℕ)) (line : List ℕ) (told : Fault) : Type 0 where
  bad : IsBad chart (length cards + 1) line told → StopsAt chart cards line told
  misfit : (card : List ℕ) → IsGoodLine chart line card → totals_told chart (Some cards) (Some card) ≡ told ∷ []
      → StopsAt chart cards line told

-- a good card is there, so a total does not fit
of_good : (chart : Chart) (cards : List (List ℕ)) (line card : List ℕ) (told : Fault) → IsGoodLine chart line card → StopsAt chart cards line told
    → totals_told chart (Some cards) (Some card) ≡ told ∷ []
of_good chart cards line card told good (bad is) = absurd (not_both chart (length cards + 1) line card told good is)
of_good chart cards line card told good (misfit other also tells) =
    ap (λ c. totals_told chart (Some cards) (Some c)) (one_card line card other good.punched also.punched) ∙ tells

-- a bad line is there, so its fault is told
of_bad : (chart : Chart) (cards : List (List ℕ)) (line : List ℕ) (fault told : Fault) → IsBad chart (length cards + 1) line fault
    → StopsAt chart cards line told → fault ≡ told
of_bad chart cards line fault told is (bad also) = one_told chart (length cards + 1) line fault told is also
of_bad chart cards line fault told is (misfit card good tells) = absurd (not_both chart (length cards + 1) line card fault good is)

-- what is told of the lines up to that one is told of it alone
pub told_there : {chart : Chart} {all : List (List ℕ)} {so_far : Option (List (List ℕ))} {told : List Fault} → Lists chart all so_far told
    → (front cards : List (List ℕ)) (line : List ℕ) (fault : Fault) → all ≡ front ++ line ∷ [] → AllZip (IsGoodLine chart) front cards
    → HaveFitSoFar chart.lines cards → StopsAt chart cards line fault → told ≡ fault ∷ []
told_there listings.none front cards line fault same each fit stops = absurd (omega (arith, ap length same, length-append front (line ∷ [])))
told_there {chart} (listings.good lines so_far told its_line card before is) front cards line fault same each fit stops =
    let parts = same_from_push lines front its_line line same in
    let known = silent before cards (subst (λ l. AllZip (IsGoodLine chart) l cards) (sym parts.0) each) fit in
    ap (λ t. t ++ totals_told chart so_far (Some card)) known.1 ∙ ap (λ s. totals_told chart s (Some card)) known.0
    ∙ of_good chart cards line card fault (subst (λ l. IsGoodLine chart l card) parts.1 is) stops
told_there {chart} (listings.bad lines so_far told its_line its_fault before is) front cards line fault same each fit stops =
    let parts = same_from_push lines front its_line line same in
    let good = subst (λ l. AllZip (IsGoodLine chart) l cards) (sym parts.0) each in
    let known = silent before cards good fit in
    let numbered : length lines + 1 ≡ length cards + 1 = ap (λ n. n + 1) (length_all_zip (IsGoodLine chart) lines cards good) in
    ap (λ t. t ++ its_fault ∷ []) known.1
    ∙ ap (λ f. f ∷ [])
    (of_bad chart cards line its_fault fault
    (is_bad (subst (λ n. IsBadLine chart n line its_fault) numbered
    (subst (λ l. IsBadLine chart (length lines + 1) l its_fault) parts.1 is))) stops)

-- What is told of the first so many of some lines begins what is told of all of them.
pub record HasFront (chart : Chart) (lines : List (List ℕ)) (told : List Fault) : Type 0 where
  pub so_far : Option (List (List ℕ))
  pub before : List Fault
  pub later : List Fault
  pub lists : Lists chart lines so_far before
  pub parts : told ≡ before ++ later

-- those are all of the lines
all_of : (chart : Chart) (count : ℕ) (lines : List (List ℕ)) (so_far : Option (List (List ℕ))) (told : List Fault) → Lists chart lines so_far told
    → length lines ≤ count → HasFront chart (take count lines) told
all_of chart count lines so_far told lists within = record {
  so_far = so_far;
  before = told;
  later = [];
  lists = subst (λ l. Lists chart l so_far told) (sym (take_all count lines within)) lists;
  parts = sym (append-nil told);
}

-- or those of the lines before one more
one_more : (chart : Chart) (count : ℕ) (lines : List (List ℕ)) (line : List ℕ) (so_far : Option (List (List ℕ))) (told more : List Fault)
    → Lists chart (lines ++ line ∷ []) so_far (told ++ more) → HasFront chart (take count lines) told
    → HasFront chart (take count (lines ++ line ∷ [])) (told ++ more)
one_more chart count lines line so_far told more lists front = elim (cases_lt (length lines) count) [
  | inl longer ↦ all_of chart count (lines ++ line ∷ []) so_far (told ++ more) lists (omega (arith, longer, length-append lines (line ∷ [])))
  | inr within ↦
      record {
        so_far = front.so_far;
        before = front.before;
        later = front.later ++ more;
        lists = subst (λ l. Lists chart l front.so_far front.before) (sym (take-append-le count lines (line ∷ []) within)) front.lists;
        parts = ap (λ t. t ++ more) front.parts ∙ append_assoc front.before front.later more;
      }
]

pub has_front : {chart : Chart} {lines : List (List ℕ)} {so_far : Option (List (List ℕ))} {told : List Fault} (count : ℕ) → Lists chart lines so_far told
    → HasFront chart (take count lines) told
has_front {chart} count listings.none = all_of chart count [] (Some []) [] listings.none (omega arith)
has_front {chart} count (listings.good lines so_far told line card before is) =
    one_more chart count lines line (with_card card so_far) told (totals_told chart so_far (Some card))
    (listings.good lines so_far told line card before is) (has_front count before)
has_front {chart} count (listings.bad lines so_far told line fault before is) =
    one_more chart count lines line None told (fault ∷ []) (listings.bad lines so_far told line fault before is) (has_front count before)
