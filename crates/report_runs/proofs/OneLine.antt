-- A line has one card or one fault.
use Rattle.std.proofs.Common.{◌≡◌, ◌∙◌, sym, ap, ℕ, ◌-◌, ◌<◌, List, inl, inr, length, get_or, arith}
use Rattle.std.proofs.lemmas.Bool.{cases_lt}
use Rattle.std.proofs.lemmas.Grind.{same_number_lists}
use Rattle.card_code.specs.Deck.{HasLineFault, IsCardOf, IsOddColumn}
use Rattle.card_code.specs.declared.deck.DeckFault.{DeckFault}
use Rattle.card_code.specs.declared.deck.DeckFault.TheVariants.{CardTooLong, Memory, NoSuchCharacter, TooManyCards}

one_column : (line one other : List ℕ) → IsCardOf line one → IsCardOf line other → (k : ℕ) → get_or one k 0 ≡ get_or other k 0
one_column line one other is also k =
    elim (cases_lt k (length line)) [
      | inl within ↦ let e = sym (is.punched k within) ∙ also.punched k within in cc
      | inr after ↦ is.blank k after ∙ sym (also.blank k after)
    ]

pub one_card : (line one other : List ℕ) → IsCardOf line one → IsCardOf line other → one ≡ other
one_card line one other is also = same_number_lists one other (is.whole ∙ sym also.whole) (λ k _. one_column line one other is also k)

-- a line that is a card has no fault
pub no_fault : (line card : List ℕ) (number : ℕ) (fault : DeckFault) → IsCardOf line card → HasLineFault line number fault → ⊥
no_fault line card number (CardTooLong n) is has = omega (arith, is.short, has.1)
no_fault line card number (NoSuchCharacter n column) is has =
    let some = is.punched (column - 1) (omega (arith, has.1.from, has.1.to)) in
    let none = has.1.odd in
    let e = sym none ∙ some in cc
no_fault line card number TooManyCards is has = has
no_fault line card number Memory is has = has

-- the first odd column of a line is not before another
not_before : (line : List ℕ) (one other : ℕ) → IsOddColumn line one → IsOddColumn line other → one < other → ⊥
not_before line one other is also below =
    let some = also.before (one - 1) (omega (arith, is.from, below)) in
    let none = is.odd in
    let e = rw none at some in cc

pub one_fault : (line : List ℕ) (number : ℕ) (one other : DeckFault) → HasLineFault line number one → HasLineFault line number other → one ≡ other
one_fault line number (CardTooLong n) (CardTooLong m) is also = ap CardTooLong (is.0 ∙ sym also.0)
one_fault line number (CardTooLong n) (NoSuchCharacter m column) is also = absurd (omega (arith, is.1, also.1.short))
one_fault line number (NoSuchCharacter n column) (CardTooLong m) is also = absurd (omega (arith, also.1, is.1.short))
one_fault line number (NoSuchCharacter n column) (NoSuchCharacter m other) is also =
    let numbers : n ≡ m = is.0 ∙ sym also.0 in
    let columns : column ≡ other =
    omega (arith, not_before line column other is.1 also.1, not_before line other column also.1 is.1) in
    cc
one_fault line number TooManyCards other is also = absurd is
one_fault line number Memory other is also = absurd is
one_fault line number (CardTooLong n) TooManyCards is also = absurd also
one_fault line number (CardTooLong n) Memory is also = absurd also
one_fault line number (NoSuchCharacter n column) TooManyCards is also = absurd also
one_fault line number (NoSuchCharacter n column) Memory is also = absurd also
