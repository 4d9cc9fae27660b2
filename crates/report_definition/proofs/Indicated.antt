-- Indicated fields stand on the first cards of the groups of their level.
use Rattle.std.proofs.Common.{◌≡◌, ◌∙◌, refl, sym, ap, ℕ, zero, suc, ◌≤◌, ◌<◌, nat_le, Bool, true, false, inl, inr, List, [], ◌∷◌, ◌++◌, Option, None, map, if◌then◌else◌, arith, append-nil}
use Rattle.std.specs.List.{flat_map}
use Rattle.std.proofs.lemmas.Bool.Decides.{nat_tests}
use Rattle.std.proofs.lemmas.Grind.{flat_map-append}
use Rattle.std.proofs.lemmas.List.{map-append}
use Rattle.chart_lines.specs.ChartsWords.Levels.{control_number}
use Rattle.chart_lines.specs.declared.charts.chart.Line.{Line}
use Rattle.chart_lines.specs.declared.charts.level.ControlLevel.{ControlLevel}
use Rattle.chart_lines.specs.declared.charts.level.ControlLevel.TheVariants as control
use Rattle.chart_lines.specs.declared.charts.statement.DetailOption.TheVariants as shown
use Rattle.chart_lines.specs.declared.charts.statement.Statement.{Statement}
use Rattle.chart_lines.specs.declared.charts.statement.Statement.TheVariants as says
use Rattle.report_definition.specs.BodyLines.{Piece, card_piece}
use Rattle.report_definition.specs.Groups.{cards_of, groups_in, groups_within, is_same_at, later_runs, rest_of_run}
use Rattle.report_definition.specs.Outline.{OutlineLine, Detail, Total, by_parts, details, outline}
use Rattle.report_definition.specs.OutlineLaws.{IndicatedOnFirstCards, on_first_card, pieces_on}
use Rattle.report_definition.proofs.GroupLaws.{either, groups_whole, lower, own}

-- the second of two where a test fails, the first where it passes
second : {X : Type 0} (b : Bool) (one other : X) → b ≡ false → (if b then one else other) ≡ other
second b one other fails = ap (λ t. if t then one else other) fails

first : {X : Type 0} (b : Bool) (one other : X) → b ≡ true → (if b then one else other) ≡ one
first b one other passes = ap (λ t. if t then one else other) passes

-- outlines one after the other
pieces-append : (lines : List Line) (item : Statement) (one other : List OutlineLine)
    → pieces_on lines item (one ++ other) ≡ pieces_on lines item one ++ pieces_on lines item other
pieces-append lines item [] other = refl
pieces-append lines item (Detail opens card ∷ one) other =
    ap (λ l. card_piece lines opens card item ∷ l) (pieces-append lines item one other)
pieces-append lines item (Total level group ∷ one) other = pieces-append lines item one other

-- nothing for each of some cards
abbrev none_on : List (List ℕ) → List (Option Piece)
none_on cards = map (λ other. None) cards

-- something that is nothing too
none_first : (piece : List ℕ → Option Piece) → ((card : List ℕ) → piece card ≡ None) → (group : List (List ℕ))
    → on_first_card piece group ≡ none_on group
none_first piece none [] = refl
none_first piece none (card ∷ cards) = ap (λ p. p ∷ none_on cards) (none card)

same_first : (one other : List ℕ → Option Piece) → ((card : List ℕ) → one card ≡ other card) → (group : List (List ℕ))
    → on_first_card one group ≡ on_first_card other group
same_first one other same [] = refl
same_first one other same (card ∷ cards) = ap (λ p. p ∷ none_on cards) (same card)

level_some : (level : ControlLevel) → 1 ≤ control_number level
level_some control.Minor = omega arith
level_some control.Intermediate = omega arith
level_some control.Major = omega arith

level_most : (level : ControlLevel) → control_number level ≤ 4
level_most control.Minor = omega arith
level_most control.Intermediate = omega arith
level_most control.Major = omega arith

module _ (lines : List Line) (wheel : ℕ) (name : List ℕ) (level : ControlLevel) where
  abbrev item : Statement
  item = says.DetailField wheel name (shown.Indicated level)

  -- what it shows on a card that opens groups of some levels, and what a plain field does
  abbrev on_opening : ℕ → List ℕ → Option Piece
  on_opening opens card = card_piece lines opens card item

  abbrev plain : List ℕ → Option Piece
  plain card = card_piece lines 0 card (says.DetailField wheel name shown.Plain)

  hidden : (opens : ℕ) → opens < control_number level → (card : List ℕ) → on_opening opens card ≡ None
  hidden opens less card = second (nat_le (control_number level) opens) _ _ (grind (arith, nat_tests, less))

  plainly : (opens : ℕ) → control_number level ≤ opens → (card : List ℕ) → on_opening opens card ≡ plain card
  plainly opens reached card = first (nat_le (control_number level) opens) _ _ (grind (arith, nat_tests, reached))

  -- cards that open nothing
  nothing_opened : (cards : List (List ℕ)) → pieces_on lines item (details 0 cards) ≡ none_on cards
  nothing_opened [] = refl
  nothing_opened (card ∷ cards) =
      let some = level_some level in
      let none = hidden 0 (omega (arith, some)) card in
      let more = nothing_opened cards in
      λ i. none i ∷ more i

  -- the parts of a group of a level that is no higher, after the first part
  parts_none : (above : ℕ) → above < control_number level
      → ((opens : ℕ) (group : List (List ℕ)) → pieces_on lines item (outline lines above opens group) ≡ on_first_card (on_opening opens) group)
      → (parts : List (List (List ℕ)))
      → pieces_on lines item (by_parts (outline lines above) above above parts) ≡ none_on (cards_of parts)
  parts_none above low each [] = refl
  parts_none above low each (part ∷ parts) =
      let here = each above part ∙ none_first (on_opening above) (hidden above low) part in
      let more = parts_none above low each parts in
      pieces-append lines item (outline lines above above part) (by_parts (outline lines above) above above parts)
      ∙ (λ i. here i ++ more i)
      ∙ sym (map-append (λ other. None) part (cards_of parts))

  -- in a group of its level or a lower one it is shown on the first card alone, if that opens groups of its level
  within : (above opens : ℕ) (group : List (List ℕ)) → above ≤ control_number level
      → pieces_on lines item (outline lines above opens group) ≡ on_first_card (on_opening opens) group
  within zero opens [] low = refl
  within zero opens (card ∷ cards) low = ap (λ l. on_opening opens card ∷ l) (nothing_opened cards)
  within (suc above) opens [] low = refl
  within (suc above) opens (card ∷ cards) low =
      let run = card ∷ rest_of_run (is_same_at lines above) card cards in
      let later = later_runs (is_same_at lines above) card cards in
      let each : (o : ℕ) (group : List (List ℕ)) → pieces_on lines item (outline lines above o group) ≡ on_first_card (on_opening o) group
      = λ o group. within above o group (omega (arith, low)) in
      let here = each opens run in
      let more = parts_none above (omega (arith, low)) each later in
      pieces-append lines item (by_parts (outline lines above) above opens (run ∷ later)) (Total (suc above) (card ∷ cards) ∷ [])
      ∙ append-nil (pieces_on lines item (by_parts (outline lines above) above opens (run ∷ later)))
      ∙ pieces-append lines item (outline lines above opens run) (by_parts (outline lines above) above above later)
      ∙ (λ i. here i ++ more i)
      ∙ ap (λ l. on_opening opens card ∷ l) (sym (map-append (λ other. None) (rest_of_run (is_same_at lines above) card cards) (cards_of later)))
      ∙ ap (on_first_card (on_opening opens)) (groups_whole lines above (card ∷ cards))

  -- the parts of a group of a higher level
  in_parts :
      (above : ℕ)
      → ((opens : ℕ) (group : List (List ℕ)) → above ≤ opens
      → pieces_on lines item (outline lines above opens group) ≡ flat_map (on_first_card plain) (groups_in lines above (control_number level) group))
      → (opens : ℕ) → above ≤ opens → (parts : List (List (List ℕ)))
      → pieces_on lines item (by_parts (outline lines above) above opens parts)
      ≡ flat_map (on_first_card plain) (flat_map (groups_in lines above (control_number level)) parts)
  in_parts above each opens enough [] = refl
  in_parts above each opens enough (part ∷ parts) =
      let here = each opens part enough in
      let more = in_parts above each above (omega arith) parts in
      pieces-append lines item (outline lines above opens part) (by_parts (outline lines above) above above parts)
      ∙ (λ i. here i ++ more i)
      ∙ sym (flat_map-append (on_first_card plain) (groups_in lines above (control_number level) part)
      (flat_map (groups_in lines above (control_number level)) parts))

  -- in a group of its level or a higher one, that opens groups of its own level, it is shown on the first cards of its groups
  on_groups : (above opens : ℕ) (group : List (List ℕ)) → control_number level ≤ above → above ≤ opens
      → pieces_on lines item (outline lines above opens group)
      ≡ flat_map (on_first_card plain) (groups_in lines above (control_number level) group)
  on_groups zero opens group high enough = let some = level_some level in absurd (omega (arith, some, high))
  on_groups (suc above) opens group high enough =
      let parts = groups_within lines above group in
      let outlined = by_parts (outline lines above) above opens parts in
      elim (either lines above (control_number level) group high) [
        | inl less ↦
            pieces-append lines item outlined (Total (suc above) group ∷ [])
            ∙ append-nil (pieces_on lines item outlined)
            ∙ in_parts above (λ o g e. on_groups above o g less e) opens (omega (arith, enough)) parts
            ∙ sym (ap (flat_map (on_first_card plain)) (lower lines above (control_number level) group less))
        | inr same ↦
            within (suc above) opens group (omega (arith, same))
            ∙ same_first (on_opening opens) plain (plainly opens (omega (arith, high, enough))) group
            ∙ sym (append-nil (on_first_card plain group))
            ∙ sym (ap (flat_map (on_first_card plain)) (own lines above (control_number level) group same))
      ]

pub indicated : IndicatedOnFirstCards
indicated lines wheel name level [] = refl
indicated lines wheel name level (card ∷ cards) =
    on_groups lines wheel name level 4 4 (card ∷ cards) (level_most level) (omega arith)
