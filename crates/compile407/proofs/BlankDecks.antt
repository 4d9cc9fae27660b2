-- Decks of blank cards can be run.
use Rattle.std.proofs.Common.{◌≡◌, ◌∙◌, refl, sym, ap, subst, ℕ, zero, suc, ◌+◌, ◌-◌, ◌<◌, ◌^◌, pos, ◌+ℤ◌, Bool, true, false, inl, List, [], ◌∷◌, Option, None, map, replicate, slice_index, arith, unsigned_abs}
use Rattle.std.specs.List.{All}
use Rattle.std.proofs.lemmas.List.{length-replicate}
use Rattle.std.proofs.lemmas.List.Elements.{All-nil, All-cons, All-head, All-replicate, All-tail, All-weaker}
use Rattle.card_code.specs.CardCode.{code, deck_character}
use Rattle.chart_text.specs.Below.chart_lines.ChartsWords.Chart.{Chart}
use Rattle.chart_text.specs.Below.chart_lines.ChartsWords.Field.{sign_column}
use Rattle.chart_text.specs.Below.chart_lines.ChartsWords.Levels.{level_number}
use Rattle.chart_text.specs.Below.chart_lines.declared.charts.chart.Line.{Line}
use Rattle.chart_text.specs.Below.chart_lines.declared.charts.statement.Field.{Field}
use Rattle.chart_text.specs.Below.chart_lines.declared.charts.statement.FieldKind.{FieldKind}
use Rattle.chart_text.specs.Below.chart_lines.declared.charts.statement.FieldKind.TheVariants as holds
use Rattle.chart_rules.proofs.Laws.{AreOnCard-lawful}
use Rattle.chart_rules.specs.HelperOnCard.{IsOnCard}
use Rattle.chart_rules.specs.Rules.{IsLawful}
use Rattle.chart_rules.specs.ValidCard.{IsValidCard, IsValidKind, column_of, digit_count, digit_rows, has_good_zone, is_printed}
use Rattle.report_misfits.specs.Below.report_definition.Amounts.{columns_in, digit_in, is_negated, number_in, signed, value_of}
use Rattle.report_misfits.specs.Below.report_definition.Groups.{cards_of, groups_of}
use Rattle.report_misfits.specs.Below.report_definition.Totals.{Fits, GroupFits, total_of}
use Rattle.report_misfits.proofs.Below.report_definition.FittingGroups.{All-parts}
use Rattle.report_misfits.proofs.Below.report_definition.GroupLaws.{groups_deck}
use Rattle.compile407.specs.Runnable.{BlankDecksAreRunnable, blank_card}

-- no column of a blank card is punched
blank_at : (columns place : ℕ) → slice_index (replicate columns 0) place ≡ 0
blank_at zero place = refl
blank_at (suc columns) zero = refl
blank_at (suc columns) (suc place) = blank_at columns place

blank_column : (column : ℕ) → column_of blank_card column ≡ 0
blank_column column = blank_at 80 (column - 1)

-- a column without a punch is a blank character, no digit, and has a lawful zone
blank_printed : is_printed (deck_character 0) ≡ true
unfolding deck_character code
blank_printed = refl

blank_count : digit_count 0 ≡ 0
unfolding digit_count digit_rows
blank_count = refl

blank_zone : (sign : Option ℕ) (column : ℕ) → has_good_zone sign column 0 ≡ true
blank_zone sign column = refl

blank_digit : digit_in 0 ≡ None
blank_digit = refl

-- a blank card is valid for each field on the card
blank_valid_kind : (kind : FieldKind) (field : Field) → IsOnCard field → IsValidKind kind field blank_card
blank_valid_kind holds.Text field on =
    λ column from to. ap (λ rows. is_printed (deck_character rows)) (blank_column column) ∙ blank_printed
blank_valid_kind (holds.Amount decimals rule) field on =
    let order = on.order in record {
      digits = record {
        start = field.last + 1;
        from = omega (arith, order);
        to = omega arith;
        blanks = λ column from to. ap digit_count (blank_column column) ∙ blank_count;
        digits = λ column from to. absurd (omega (arith, from, to));
        enough = inl refl;
      };
      zones = λ column from to.
          ap (has_good_zone (sign_column field.kind) column) (blank_column column) ∙ blank_zone (sign_column field.kind) column;
    }

blank_valid : (chart : Chart) → IsLawful chart → IsValidCard chart blank_card
unfolding IsValidCard
blank_valid chart lawful place few field there =
    blank_valid_kind field.kind field (AreOnCard-lawful chart lawful place field there)

-- an amount of a blank card is 0
no_digits : (columns : List ℕ) → number_in (map (λ column. digit_in (column_of blank_card column)) columns) ≡ 0
no_digits [] = refl
no_digits (column ∷ columns) =
    let none : digit_in (column_of blank_card column) ≡ None = ap digit_in (blank_column column) ∙ blank_digit in
    ap (λ digit. number_in (digit ∷ map (λ other. digit_in (column_of blank_card other)) columns)) none ∙ no_digits columns

signed_zero : (negated : Bool) → signed negated 0 ≡ pos 0
signed_zero true = refl
signed_zero false = refl

blank_value : (field : Field) → value_of field blank_card ≡ pos 0
blank_value field =
    ap (signed (is_negated field.kind blank_card)) (no_digits (columns_in field)) ∙ signed_zero (is_negated field.kind blank_card)

-- so are the totals of blank cards
abbrev IsBlank : List ℕ → Type 0
IsBlank card = card ≡ blank_card

blank_total : (field : Field) (cards : List (List ℕ)) → All IsBlank cards → total_of field cards ≡ pos 0
blank_total field [] blank = refl
blank_total field (card ∷ cards) blank =
    let here : value_of field card ≡ pos 0 = ap (value_of field) (All-head IsBlank card cards blank) ∙ blank_value field in
    let more = blank_total field cards (All-tail IsBlank card cards blank) in
    λ i. here i +ℤ more i

power_some : (digits : ℕ) → 0 < 10 ^ digits
power_some zero = omega arith
power_some (suc digits) = let less = power_some digits in omega (arith, less)

blank_fits : (lines : List Line) (level : ℕ) (group : List (List ℕ)) → All IsBlank group → GroupFits lines level group
blank_fits lines level group blank line asked field stands says_so same named =
    subst (λ total. unsigned_abs total < 10 ^ asked.digits) (sym (blank_total field group blank)) (power_some asked.digits)

-- a fact of all cards of some groups is one of all cards of each
each_group : (P : List ℕ → Type 0) (groups : List (List (List ℕ))) → All P (cards_of groups) → All (All P) groups
each_group P [] all = All-nil (All P)
each_group P (group ∷ groups) all =
    let both = All-parts P group (cards_of groups) all in All-cons (All P) group groups both.0 (each_group P groups both.1)

blank_deck_fits : (lines : List Line) (count : ℕ) → Fits lines (replicate count blank_card)
blank_deck_fits lines count level =
    let groups = groups_of lines (level_number level) (replicate count blank_card) in
    All-weaker (All IsBlank) (GroupFits lines (level_number level)) (λ group blank. blank_fits lines (level_number level) group blank) groups
    (each_group IsBlank groups
    (subst (All IsBlank) (sym (groups_deck lines (level_number level) (replicate count blank_card)))
    (All-replicate IsBlank count blank_card refl)))

pub blank_decks_are_runnable : BlankDecksAreRunnable
blank_decks_are_runnable chart count lawful few = record {
  deck = record {
    valid = All-replicate (IsValidCard chart) count blank_card (blank_valid chart lawful);
    long = let long = length-replicate {A = List ℕ} count blank_card in omega (arith, few, long);
  };
  fits = blank_deck_fits chart.lines count;
}
