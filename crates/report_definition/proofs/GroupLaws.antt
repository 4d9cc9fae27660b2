-- Groups and their totals: runs, put together, are what they were cut from.
use Rattle.std.proofs.Common.{◌≡◌, ◌∙◌, refl, sym, ap, ℕ, zero, suc, ◌≤◌, ◌==◌, ◌+ℤ◌, Bool, true, false, ◌⊎◌, List, [], ◌∷◌, ◌++◌, if◌then◌else◌, append-nil, append_assoc, arith}
use Rattle.std.specs.List.{flat_map}
use Rattle.std.proofs.lemmas.Bool.Decides.{nat_tests}
use Rattle.std.proofs.lemmas.Int.{ints}
use Rattle.chart_lines.specs.declared.charts.chart.Line.{Line}
use Rattle.chart_lines.specs.declared.charts.statement.Field.{Field}
use Rattle.report_definition.specs.Groups.{cards_of, rest_of_run, later_runs, groups_in, groups_within, is_same_at}
use Rattle.report_definition.specs.Laws.{totals_of, GroupsMakeTheDeck, GroupsMakeTheWhole, TotalsAddUp}
use Rattle.report_definition.specs.Totals.{total_of}

-- a run and the runs after it are all cards after a card
run_and_rest : (same : List ℕ → List ℕ → Bool) (card : List ℕ) (cards : List (List ℕ))
    → rest_of_run same card cards ++ cards_of (later_runs same card cards) ≡ cards
run_and_rest same card [] = refl
run_and_rest same card (next ∷ cards) = by_test (same card next) (run_and_rest same next cards)
  where
    by_test : (b : Bool) → rest_of_run same next cards ++ cards_of (later_runs same next cards) ≡ cards
        → (if b then next ∷ rest_of_run same next cards else [])
        ++ cards_of (if b then later_runs same next cards else (next ∷ rest_of_run same next cards) ∷ later_runs same next cards)
        ≡ next ∷ cards
    by_test true more = ap (λ l. next ∷ l) more
    by_test false more = ap (λ l. next ∷ l) more

pub groups_whole : GroupsMakeTheWhole
groups_whole lines level [] = refl
groups_whole lines level (card ∷ cards) = ap (λ l. card ∷ l) (run_and_rest (is_same_at lines level) card cards)

-- the groups of a level in some groups
abbrev pub in_parts : List Line → (above level : ℕ) → List (List (List ℕ)) → List (List (List ℕ))
in_parts lines above level parts = flat_map (groups_in lines above level) parts

module _ (lines : List Line) (above level : ℕ) (group : List (List ℕ)) where
  -- a group alone, or the groups in its parts, by the test of the level
  abbrev alone_or_parts : Bool → List (List (List ℕ))
  alone_or_parts b = if b then group ∷ [] else in_parts lines above level (groups_within lines above group)

  -- those in its parts where the level is a lower one
  pub lower : level ≤ above → groups_in lines (suc above) level group ≡ in_parts lines above level (groups_within lines above group)
  lower few = let is : (level == suc above) ≡ false = grind (arith, nat_tests, few) in ap alone_or_parts is

  -- and it alone where it is its own level
  pub own : level ≡ suc above → groups_in lines (suc above) level group ≡ group ∷ []
  own same = let is : (level == suc above) ≡ true = grind (arith, nat_tests, same) in ap alone_or_parts is

  -- of which it is one
  pub either : level ≤ suc above → (level ≤ above) ⊎ (level ≡ suc above)
  either few = grind (arith, few)

-- groups one after the other
cards_of-append : (one other : List (List (List ℕ))) → cards_of (one ++ other) ≡ cards_of one ++ cards_of other
cards_of-append [] other = refl
cards_of-append (group ∷ one) other =
    ap (λ l. group ++ l) (cards_of-append one other) ∙ sym (append_assoc group (cards_of one) (cards_of other))

-- the groups in a group, put together, are that group
pub cards_in : (lines : List Line) (above level : ℕ) (group : List (List ℕ)) → cards_of (groups_in lines above level group) ≡ group
cards_in lines zero level group = append-nil group
cards_in lines (suc above) level group =
    by (level == suc above) (parts (cards_in lines above level) (groups_within lines above group) ∙ groups_whole lines above group)
  where
    parts : ((part : List (List ℕ)) → cards_of (groups_in lines above level part) ≡ part) → (some : List (List (List ℕ)))
        → cards_of (in_parts lines above level some) ≡ cards_of some
    parts each [] = refl
    parts each (part ∷ more) =
        let here = each part in
        let others = parts each more in
        cards_of-append (groups_in lines above level part) (in_parts lines above level more) ∙ (λ i. here i ++ others i)

    by : (b : Bool) → cards_of (in_parts lines above level (groups_within lines above group)) ≡ group
        → cards_of (alone_or_parts lines above level group b) ≡ group
    by true those = append-nil group
    by false those = those

pub groups_deck : GroupsMakeTheDeck
groups_deck lines level [] = refl
groups_deck lines level (card ∷ cards) = cards_in lines 4 level (card ∷ cards)

-- the total of two groups, one after the other
pub total-append : (field : Field) (one other : List (List ℕ))
    → total_of field (one ++ other) ≡ total_of field one +ℤ total_of field other
total-append field [] other = omega (arith, ints)
total-append field (card ∷ cards) other =
    let more = total-append field cards other in omega (arith, ints, more)

-- the total of groups put together is the sum of their totals
total-cards : (field : Field) (groups : List (List (List ℕ))) → total_of field (cards_of groups) ≡ totals_of field groups
total-cards field [] = refl
total-cards field (group ∷ groups) =
    total-append field group (cards_of groups) ∙ ap (λ t. total_of field group +ℤ t) (total-cards field groups)

pub totals_sum : TotalsAddUp
totals_sum lines level field whole =
    ap (total_of field) (sym (groups_whole lines level whole)) ∙ total-cards field (groups_within lines level whole)
