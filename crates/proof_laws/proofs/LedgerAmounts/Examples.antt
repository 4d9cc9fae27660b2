-- The examples come out by computing.
use Rattle.std.proofs.Common.{◌≡◌, ◌∙◌, ap, refl, subst, sym, ℕ, ◌+◌, ◌<◌, ◌≤◌, List, [], ◌∷◌, ◌++◌, Some, length, arith}
use Rattle.std.proofs.lemmas.Fmt.{decimal_digit}
use Rattle.std.proofs.lemmas.List.{append_assoc}
use Rattle.std.specs.Prelude.{codes, decimal}
use Rattle.card_code.specs.Rows.{row_number}
use Rattle.explain_ledgers.specs.LedgersWords.Running.{HasCycle}
use Rattle.net.specs.declared.cycle.Cycle.{Cycle}
use Rattle.explain_origins.specs.Storage.{led_text}
use Rattle.explain_origins.specs.declared.holes.Hole.{Hole}
use Rattle.report_definition.specs.Outline.{Detail, Total}
use Rattle.hubs.specs.SetupsWords.Wiring.{Wiring}
use Rattle.proof_laws.specs.LedgerAmounts.DigitWays.{IsRowLine, by_hole, by_way, next_row, no_line, no_row}
use Rattle.proof_laws.specs.LedgerAmounts.Examples.{AddUp, IsLabelled, TellDigits, card_1, card_2, card_3, card_4, card_5, card_6, first_cards, label, no_label, other_cards}
use Rattle.explain_wheel_ledgers.specs.LedgerHoles.Digits.{digit_label, hole_line, row_of}
use Rattle.explain_wheel_ledgers.specs.LedgerHoles.Positions.{entry_text}
use Rattle.explain_wheel_ledgers.specs.declared.ledger_holes.positions.Position.{Position}

pub add-up : AddUp
add-up = record {
  cards = refl;
  cards_sum = refl;
  stands = record {
    earlier = Detail 4 card_1 ∷ Detail 0 card_2 ∷ Detail 0 card_3 ∷ [];
    later =
        Detail 1 card_4 ∷ Detail 0 card_5 ∷ Total 1 (card_4 ∷ card_5 ∷ []) ∷ Detail 1 card_6 ∷ Total 1 (card_6 ∷ [])
        ∷ Total 2 (first_cards ++ other_cards) ∷ Total 3 (first_cards ++ other_cards) ∷ Total 4 (first_cards ++ other_cards) ∷ [];
    outline = refl;
    counted = refl;
    front = [];
    rest = other_cards;
    cards = refl;
    many = refl;
    all = refl;
  };
  groups = refl;
  groups_sum = refl;
  signs = refl;
  signs_sum = refl;
  entry = refl;
}

empty-line : {digit : ℕ} {line : List ℕ} → IsLabelled digit line → line ≡ [] → digit ≡ 0
empty-line no_label none = refl
empty-line (label digit rest some) none = let long = ap length none in absurd (omega (arith, long))

-- a line with the number of its row
numbered : (digit : ℕ) (way : List ℕ) → 1 ≤ digit → digit < 10 → row_number (row_of digit) ≡ digit
    → IsLabelled digit (codes "    row " ++ (48 + digit) ∷ [] ++ codes ":" ++ way ++ codes "\n")
numbered digit way some few is =
    subst (λ (ds : List ℕ). IsLabelled digit (codes "    row " ++ ds ++ codes ":" ++ way ++ codes "\n"))
    (ap decimal is ∙ decimal_digit digit few) (label digit way some)

-- the line of a hole has a label, and so has each line that is told of a digit
hole-labelled : (digit card : ℕ) (at_position : Position) (hole : Hole) → 1 ≤ digit
    → IsLabelled digit (hole_line card at_position (row_of digit) hole)
hole-labelled digit card at_position hole some =
    subst (IsLabelled digit)
    (sym (ap (λ (l : List ℕ). l ++ codes "\n")
    (append_assoc (digit_label (row_of digit)) (codes " ") (led_text (Some hole) card (entry_text at_position)))))
    (label digit (codes " " ++ led_text (Some hole) card (entry_text at_position)) some)

row-labelled : {wiring : Wiring} {deck : List (List ℕ)} {passed : ℕ} (has : HasCycle wiring deck passed) (cycle : Cycle) (card : ℕ)
    (at_position : Position) {digit : ℕ} {line : List ℕ}
    → IsRowLine has cycle card at_position digit line → IsLabelled digit line
row-labelled has cycle card at_position no_line = no_label
row-labelled has cycle card at_position (by_hole digit hole some found) = hole-labelled digit card at_position hole some
row-labelled has cycle card at_position (by_way digit way some none tells) = label digit _ some

pub tell-digits : TellDigits
tell-digits = record {
  highest = refl;
  units = refl;
  lines =
      next_row 7 1 21540 _ _
      (next_row 6 2 2154 _ _
      (next_row 5 3 215 _ _
      (next_row 4 4 21 _ _
      (next_row 3 5 2 _ _
      (next_row 2 6 0 _ _ (next_row 1 7 0 _ _ (next_row 0 8 0 _ _ (no_row 9 0) no_label) no_label) no_label)
      (numbered 2 (codes " SR.18 -> GE.8.1.5 (column 18 of card 2)") (omega arith) (omega arith) refl))
      (numbered 1 (codes " SR.19 -> GE.8.1.4 (column 19 of card 2)") (omega arith) (omega arith) refl))
      (numbered 5 (codes " SR.20 -> GE.8.1.3 (column 20 of card 2)") (omega arith) (omega arith) refl))
      (numbered 4 (codes " SR.21 -> GE.8.1.2 (column 21 of card 2)") (omega arith) (omega arith) refl))
      no_label;
  alone = refl;
  coupled = refl;
  labels = λ wiring deck passed has cycle card at_position digit line is. row-labelled has cycle card at_position is;
  some = λ wiring deck passed has cycle card at_position digit is. empty-line (row-labelled has cycle card at_position is) refl;
}
