-- A line is a good card or a bad one, and one fault is told of a bad one.
use Rattle.std.proofs.Common.{◌≡◌, ◌∙◌, sym, ap, subst, ℕ, ◌-◌, ◌<◌, List, inl, inr, length, get_or, arith}
use Rattle.std.proofs.lemmas.Bool.{cases_lt}
use Rattle.std.proofs.lemmas.Grind.{same_number_lists}
use Rattle.card_code.specs.Deck.{HasLineFault, IsCardOf, IsOddColumn}
use Rattle.card_code.specs.declared.deck.DeckFault.{DeckFault}
use Rattle.card_code.specs.declared.deck.DeckFault.TheVariants as text
use Rattle.chart_rules.proofs.OneFault.{cards_have_one_fault}
use Rattle.chart_line_rules.specs.FieldRules.Fields.{fields_of}
use Rattle.chart_rules.specs.ValidCard.{IsFirstInvalid}
use Rattle.chart_rules.specs.declared.card.CardFault.{CardFault}
use Rattle.chart_rules.specs.declared.card.CardFault.TheVariants as card
use Rattle.compile407.proofs.Exclusions.{none_told}
use Rattle.chart_lines.specs.ChartsWords.Chart.{Chart}
use Rattle.cli_decks.specs.CheckCalls.DeckChecks.BadLines as lines
use Rattle.cli_decks.specs.CheckCalls.DeckChecks.BadLines.{IsBadLine, IsGoodLine}
use Rattle.fault_lines.specs.FaultsWords.ToldFaults.{deck_told, of_card, run_told}
use Rattle.fault_lines.specs.declared.faults.fault.Fault.{Fault}

-- a line has one card
same_column : (line one other : List ℕ) → IsCardOf line one → IsCardOf line other → (k : ℕ) → get_or one k 0 ≡ get_or other k 0
same_column line one other is also k =
    elim (cases_lt k (length line)) [
      | inl within ↦ let e = sym (is.punched k within) ∙ also.punched k within in cc
      | inr after ↦ is.blank k after ∙ sym (also.blank k after)
    ]

pub one_card : (line one other : List ℕ) → IsCardOf line one → IsCardOf line other → one ≡ other
one_card line one other is also = same_number_lists one other (is.whole ∙ sym also.whole) (λ k _. same_column line one other is also k)

-- a line that is a card has no fault
no_line_fault : (line card : List ℕ) (number : ℕ) (fault : DeckFault) → IsCardOf line card → HasLineFault line number fault → ⊥
no_line_fault line card number (text.CardTooLong n) is has = omega (arith, is.short, has.1)
no_line_fault line card number (text.NoSuchCharacter n column) is has =
    let some = is.punched (column - 1) (omega (arith, has.1.from, has.1.to)) in
    let none = has.1.odd in
    let e = sym none ∙ some in cc
no_line_fault line card number text.TooManyCards is has = has
no_line_fault line card number text.Memory is has = has

-- a line has one fault
not_odd_before : (line : List ℕ) (one other : ℕ) → IsOddColumn line one → IsOddColumn line other → one < other → ⊥
not_odd_before line one other is also below =
    let some = also.before (one - 1) (omega (arith, is.from, below)) in
    let none = is.odd in
    let e = rw none at some in cc

one_line_fault : (line : List ℕ) (number : ℕ) (one other : DeckFault) → HasLineFault line number one → HasLineFault line number other → one ≡ other
one_line_fault line number (text.CardTooLong n) (text.CardTooLong m) is also = ap text.CardTooLong (is.0 ∙ sym also.0)
one_line_fault line number (text.CardTooLong n) (text.NoSuchCharacter m column) is also = absurd (omega (arith, is.1, also.1.short))
one_line_fault line number (text.NoSuchCharacter n column) (text.CardTooLong m) is also = absurd (omega (arith, also.1, is.1.short))
one_line_fault line number (text.NoSuchCharacter n column) (text.NoSuchCharacter m other) is also =
    let numbers : n ≡ m = is.0 ∙ sym also.0 in
    let columns : column ≡ other =
    omega (arith, not_odd_before line column other is.1 also.1, not_odd_before line other column also.1 is.1) in
    cc
one_line_fault line number text.TooManyCards other is also = absurd is
one_line_fault line number text.Memory other is also = absurd is
one_line_fault line number (text.CardTooLong n) text.TooManyCards is also = absurd also
one_line_fault line number (text.CardTooLong n) text.Memory is also = absurd also
one_line_fault line number (text.NoSuchCharacter n column) text.TooManyCards is also = absurd also
one_line_fault line number (text.NoSuchCharacter n column) text.Memory is also = absurd also

-- Why a line is bad, the one with a number: it is no card, or its card is not valid for the chart.
pub data IsBad (chart : Chart) (number : ℕ) (line : List ℕ) (told : Fault) : Type 0 where
  no_card : (fault : DeckFault) → HasLineFault line number fault → told ≡ deck_told fault → IsBad chart number line told
  invalid : (card : List ℕ) (fault : CardFault) → IsCardOf line card → IsFirstInvalid (fields_of chart.lines) card fault
      → told ≡ run_told (of_card fault number) → IsBad chart number line told

pub is_bad : {chart : Chart} {number : ℕ} {line : List ℕ} {told : Fault} → IsBadLine chart number line told → IsBad chart number line told
is_bad (lines.no_card fault has named) = no_card fault has named
is_bad (lines.not_text of_line column punched first named) = invalid of_line (card.NotText column) punched first named
is_bad (lines.not_amount of_line column punched first named) = invalid of_line (card.NotAmount column) punched first named

-- a bad line is not good
pub not_both : (chart : Chart) (number : ℕ) (line card : List ℕ) (told : Fault) → IsGoodLine chart line card → IsBad chart number line told → ⊥
not_both chart number line card told good (no_card fault has named) = no_line_fault line card number fault good.punched has
not_both chart number line card told good (invalid other fault punched first named) =
    none_told chart card fault good.valid
    (subst (λ c. IsFirstInvalid (fields_of chart.lines) c fault) (one_card line other card punched good.punched) first)

-- and one fault is told of it
pub one_told : (chart : Chart) (number : ℕ) (line : List ℕ) (one other : Fault) → IsBad chart number line one → IsBad chart number line other → one ≡ other
one_told chart number line one other (no_card fault has named) (no_card its_fault also_has also_named) =
    named ∙ ap deck_told (one_line_fault line number fault its_fault has also_has) ∙ sym also_named
one_told chart number line one other (no_card fault has named) (invalid card its_fault punched first also_named) =
    absurd (no_line_fault line card number fault punched has)
one_told chart number line one other (invalid card fault punched first named) (no_card its_fault also_has also_named) =
    absurd (no_line_fault line card number its_fault punched also_has)
one_told chart number line one other (invalid card fault punched first named) (invalid its_card its_fault also_punched also_first also_named) =
    let same : fault ≡ its_fault =
    cards_have_one_fault (fields_of chart.lines) card fault its_fault first
    (subst (λ c. IsFirstInvalid (fields_of chart.lines) c its_fault) (one_card line its_card card also_punched punched) also_first) in
    named ∙ ap (λ f. run_told (of_card f number)) same ∙ sym also_named
