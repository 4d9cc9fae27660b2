-- The outline by groups within groups is the outline card by card.
use Rattle.std.proofs.Common.{◌≡◌, ◌∙◌, refl, sym, ap, ℕ, zero, suc, ◌≤◌, nat_le, Bool, true, false, List, [], ◌∷◌, ◌++◌, Some, None, if◌then◌else◌, arith, append-nil, append_assoc}
use Rattle.std.specs.List.{cons_option, filter_map, list_all}
use Rattle.std.proofs.lemmas.Bool.Decides.{nat_tests}
use Rattle.chart_lines.specs.declared.charts.chart.Line.{Line}
use Rattle.chart_lines.specs.declared.charts.level.ControlLevel.TheVariants as control
use Rattle.chart_lines.specs.declared.charts.statement.Statement.{Statement}
use Rattle.chart_lines.specs.declared.charts.statement.Statement.TheVariants as says
use Rattle.chart_rules.specs.Controls.{control_on}
use Rattle.report_definition.specs.Breaks.{break_up_to, ended_after, no_cards, taking, cleared, totals_to, chunk_of, flat}
use Rattle.report_definition.specs.Groups.{is_same_at, rest_of_run, later_runs}
use Rattle.report_definition.specs.Outline.{OutlineLine, Detail, Total, details, by_parts, outline}
use Rattle.report_definition.specs.OutlineLaws.{OutlineIsByCards}

-- no line names a control field of level 0
none_at_0 : (lines : List Line) (statement : Statement) → control_on lines 0 statement ≡ None
none_at_0 lines (says.Control control.Minor name) = refl
none_at_0 lines other = refl

no_fields_at_0 : (lines some : List Line) → filter_map (λ line. control_on lines 0 line.statement) some ≡ []
no_fields_at_0 lines [] = refl
no_fields_at_0 lines (line ∷ some) =
    ap (λ o. cons_option o (filter_map (λ each. control_on lines 0 each.statement) some)) (none_at_0 lines line.statement)
    ∙ no_fields_at_0 lines some

-- so all cards are the same at level 0
same_at_0 : (lines : List Line) (one other : List ℕ) → is_same_at lines 0 one other ≡ true
same_at_0 lines one other = ap (list_all _) (no_fields_at_0 lines lines)

-- the level of a break is no higher than the levels looked at
pub break-within : (lines : List Line) (cuts : ℕ) (one other : List ℕ) → break_up_to lines cuts one other ≤ cuts
break-within lines zero one other = omega arith
break-within lines (suc cuts) one other = by (is_same_at lines (suc cuts) one other) (break-within lines cuts one other)
  where
    by : (b : Bool) → break_up_to lines cuts one other ≤ cuts
        → (if b then break_up_to lines cuts one other else suc cuts) ≤ suc cuts
    by true more = omega (arith, more)
    by false more = omega arith

-- The lines of a card and of the cards after it, where breaks of the levels up to `cuts` alone end groups, and after the last card
-- those of the levels up to `last` end.
abbrev by_cards : List Line → (cuts last : ℕ) → (ℕ → List (List ℕ)) → (opens : ℕ) → List ℕ → List (List ℕ) → List OutlineLine
by_cards lines cuts last so_far opens card [] = chunk_of opens so_far card last
by_cards lines cuts last so_far opens card (next ∷ cards) =
    let ended = break_up_to lines cuts card next in
    chunk_of opens so_far card ended ++ by_cards lines cuts last (cleared ended (taking card so_far)) ended next cards

-- The outline of one group of a level, card by card: groups of lower levels alone are cut.
abbrev of_group : List Line → (level : ℕ) → (ℕ → List (List ℕ)) → ℕ → List ℕ → List (List ℕ) → List OutlineLine
of_group lines zero so_far opens card cards = by_cards lines 0 0 so_far opens card cards
of_group lines (suc level) so_far opens card cards = by_cards lines level (suc level) so_far opens card cards

-- the groups of the levels up to a given one have no card yet
abbrev AreNew : ℕ → (ℕ → List (List ℕ)) → Type 0
AreNew level so_far = (lower : ℕ) → lower ≤ level → so_far lower ≡ []

ended-new : (level : ℕ) (so_far : ℕ → List (List ℕ)) → AreNew level (cleared level so_far)
ended-new level so_far lower low =
    let test : nat_le lower level ≡ true = grind (arith, nat_tests, low) in
    ap (λ b. if b then [] else so_far lower) test

-- one group more at the end
total_after : (lines : List Line) (level : ℕ) (so_far : ℕ → List (List ℕ)) (opens : ℕ) (card : List ℕ) (cards : List (List ℕ))
    → by_cards lines level (suc level) so_far opens card cards
    ≡ by_cards lines level level so_far opens card cards ++ (Total (suc level) (so_far (suc level) ++ card ∷ cards) ∷ [])
total_after lines level so_far opens card [] = refl
total_after lines level so_far opens card (next ∷ cards) =
    ap (λ l. Detail opens card ∷ (totals_to ended taken ++ l))
    (total_after lines level (cleared ended taken) ended next cards
    ∙ ap (λ g. by_cards lines level level (cleared ended taken) ended next cards ++ (Total (suc level) g ∷ []))
    (kept ∙ append_assoc (so_far (suc level)) (card ∷ []) (next ∷ cards)))
    ∙ ap (λ l. Detail opens card ∷ l)
    (sym (append_assoc (totals_to ended taken) (by_cards lines level level (cleared ended taken) ended next cards)
    (Total (suc level) (so_far (suc level) ++ card ∷ next ∷ cards) ∷ [])))
  where
    ended : ℕ
    ended = break_up_to lines level card next

    taken : ℕ → List (List ℕ)
    taken = taking card so_far

    kept : cleared ended taken (suc level) ++ next ∷ cards ≡ (so_far (suc level) ++ (card ∷ [])) ++ next ∷ cards
    kept =
        let low = break-within lines level card next in
        let test : nat_le (suc level) ended ≡ false = grind (arith, nat_tests, low) in
        ap (λ b. (if b then [] else so_far (suc level) ++ (card ∷ [])) ++ next ∷ cards) test

-- the cards of a group of level 0
pub cards_alone : (lines : List Line) (so_far : ℕ → List (List ℕ)) (opens : ℕ) (card : List ℕ) (cards : List (List ℕ))
    → details opens (card ∷ cards) ≡ by_cards lines 0 0 so_far opens card cards
cards_alone lines so_far opens card [] = refl
cards_alone lines so_far opens card (next ∷ cards) =
    ap (λ l. Detail opens card ∷ l) (cards_alone lines (cleared 0 (taking card so_far)) 0 next cards)

-- where all cards are the same the run is all of them
run_of_all : (same : List ℕ → List ℕ → Bool) → ((one other : List ℕ) → same one other ≡ true) → (card : List ℕ) (cards : List (List ℕ))
    → (rest_of_run same card cards ≡ cards) × (later_runs same card cards ≡ [])
run_of_all same all card [] = (refl, refl)
run_of_all same all card (next ∷ cards) =
    let more = run_of_all same all next cards in (
      ap (λ b. if b then next ∷ rest_of_run same next cards else []) (all card next) ∙ ap (λ l. next ∷ l) more.0,
      ap (λ b. if b then later_runs same next cards else (next ∷ rest_of_run same next cards) ∷ later_runs same next cards)
          (all card next)
          ∙ more.1,
    )

-- after the run of a card each later run begins anew
cuts_and_runs : (lines : List Line) (level : ℕ)
    → ((so_far : ℕ → List (List ℕ)) (opens : ℕ) (card : List ℕ) (cards : List (List ℕ)) → AreNew level so_far
    → outline lines level opens (card ∷ cards) ≡ of_group lines level so_far opens card cards)
    → (so_far : ℕ → List (List ℕ)) (opens : ℕ) (card : List ℕ) (cards : List (List ℕ))
    → by_cards lines level level so_far opens card cards
    ≡ of_group lines level so_far opens card (rest_of_run (is_same_at lines level) card cards)
    ++ by_parts (outline lines level) level level (later_runs (is_same_at lines level) card cards)
cuts_and_runs lines zero each so_far opens card cards =
    let all = run_of_all (is_same_at lines 0) (same_at_0 lines) card cards in
    sym (append-nil (by_cards lines 0 0 so_far opens card cards))
    ∙ ap (λ l. by_cards lines 0 0 so_far opens card l ++ []) (sym all.0)
    ∙ ap
    (λ l. by_cards lines 0 0 so_far opens card (rest_of_run (is_same_at lines 0) card cards) ++ by_parts (outline lines 0) 0 0 l)
    (sym all.1)
cuts_and_runs lines (suc level) each so_far opens card [] = sym (append-nil _)
cuts_and_runs lines (suc level) each so_far opens card (next ∷ cards) =
    by (is_same_at lines (suc level) card next)
    (λ some opened. cuts_and_runs lines (suc level) each some opened next cards)
  where
    same : List ℕ → List ℕ → Bool
    same = is_same_at lines (suc level)

    taken : ℕ → List (List ℕ)
    taken = taking card so_far

    later : List (List (List ℕ)) → List OutlineLine
    later = by_parts (outline lines (suc level)) (suc level) (suc level)

    after : ℕ → List OutlineLine
    after ended = by_cards lines (suc level) (suc level) (cleared ended taken) ended next cards

    by : (b : Bool)
        → ((some : ℕ → List (List ℕ)) (opened : ℕ) → by_cards lines (suc level) (suc level) some opened next cards
        ≡ by_cards lines level (suc level) some opened next (rest_of_run same next cards) ++ later (later_runs same next cards))
        → Detail opens card
        ∷ (totals_to (if b then break_up_to lines level card next else suc level) taken
        ++ after (if b then break_up_to lines level card next else suc level))
        ≡ by_cards lines level (suc level) so_far opens card (if b then next ∷ rest_of_run same next cards else [])
        ++ later (if b then later_runs same next cards else (next ∷ rest_of_run same next cards) ∷ later_runs same next cards)
    by true more =
        let ended = break_up_to lines level card next in
        ap (λ l. Detail opens card ∷ (totals_to ended taken ++ l)) (more (cleared ended taken) ended)
        ∙ ap (λ l. Detail opens card ∷ l)
        (sym (append_assoc (totals_to ended taken) (by_cards lines level (suc level) (cleared ended taken) ended next (rest_of_run same next cards))
        (later (later_runs same next cards))))
    by false more =
        let some = cleared (suc level) taken in
        ap (λ l. Detail opens card ∷ (totals_to (suc level) taken ++ l))
        (more some (suc level)
        ∙ ap (λ l. l ++ later (later_runs same next cards))
        (sym (each some (suc level) next (rest_of_run same next cards) (ended-new (suc level) taken))))

-- a group of a level
pub group_by_cards : (lines : List Line) (level : ℕ) (so_far : ℕ → List (List ℕ)) (opens : ℕ) (card : List ℕ) (cards : List (List ℕ))
    → AreNew level so_far
    → outline lines level opens (card ∷ cards) ≡ of_group lines level so_far opens card cards
group_by_cards lines zero so_far opens card cards new = cards_alone lines so_far opens card cards
group_by_cards lines (suc level) so_far opens card cards new =
    ap (λ l. (l ++ by_parts (outline lines level) level level (later_runs (is_same_at lines level) card cards)) ++ (Total (suc level) (card ∷ cards) ∷ []))
    (group_by_cards lines level so_far opens card (rest_of_run (is_same_at lines level) card cards)
    (λ lower low. new lower (omega (arith, low))))
    ∙ ap (λ l. l ++ (Total (suc level) (card ∷ cards) ∷ []))
    (sym (cuts_and_runs lines level (λ some opened one others some_new. group_by_cards lines level some opened one others some_new)
    so_far opens card cards))
    ∙ ap (λ g. by_cards lines level level so_far opens card cards ++ (Total (suc level) (g ++ card ∷ cards) ∷ []))
    (sym (new (suc level) (omega arith)))
    ∙ sym (total_after lines level so_far opens card cards)

-- the deck, whose last card ends the groups of all levels
all_levels : (lines : List Line) (so_far : ℕ → List (List ℕ)) (opens : ℕ) (card : List ℕ) (cards : List (List ℕ))
    → by_cards lines 3 4 so_far opens card cards ≡ flat lines so_far opens card cards
all_levels lines so_far opens card [] = refl
all_levels lines so_far opens card (next ∷ cards) =
    let ended = ended_after lines card (Some next) in
    ap (λ l. chunk_of opens so_far card ended ++ l) (all_levels lines (cleared ended (taking card so_far)) ended next cards)

pub deck_by_cards : OutlineIsByCards
deck_by_cards lines [] = refl
deck_by_cards lines (card ∷ cards) =
    group_by_cards lines 4 no_cards 4 card cards (λ lower low. refl) ∙ all_levels lines no_cards 4 card cards
