-- The lines of a deck text, read one after the other.
use Rattle.std.proofs.Common.{◌≡◌, ◌≢◌, ℕ, ◌+◌, ◌-◌, ◌<◌, ◌≤◌, suc, List, [], ◌∷◌, ◌++◌, length, take, drop, get_or, refl, ap, sym, ◌∙◌, subst, arith, All, IsSome, Some, Option, length-drop, length-append}
use Rattle.std.proofs.Math.Seq.{drop-cons}
use Rattle.std.proofs.lemmas.List.{take_all}
use Rattle.std.proofs.lemmas.List.Elements.{All-from_get_or, AllZip-get_or, all_zip_more}
use Rattle.std.specs.List.{AllZip}
use Rattle.card_code.specs.MostCards.{most_cards}
use Rattle.card_code.specs.Deck.{Deck, IsCardOf, IsPunchable, IsReached, HasDeckFault, HasLineFault, IsOddColumn, line_at}
use Rattle.card_code.specs.Lines.{lines_of}
use Rattle.card_code.specs.declared.deck.DeckFault.{DeckFault}
use Rattle.card_code.specs.declared.deck.DeckFault.TheVariants.{CardTooLong, NoSuchCharacter, TooManyCards, Memory}

-- the cards are those of the first lines of a text, and the others are the lines of the rest
pub record IsReadUpTo (bytes rest : List ℕ) (cards : List (List ℕ)) : Type 0 where
  pub few : length cards ≤ most_cards
  pub within : length cards ≤ length (lines_of bytes)
  pub left : drop (length cards) (lines_of bytes) ≡ lines_of rest
  pub each : AllZip IsCardOf (take (length cards) (lines_of bytes)) cards

-- so many cards can be read of the first lines of a text, and the others are the lines of the rest
pub record CanBeReadUpTo (bytes rest : List ℕ) (count : ℕ) : Type 0 where
  pub cards : List (List ℕ)
  pub read : IsReadUpTo bytes rest cards
  pub counted : length cards ≡ count

-- a value that is there
IsSome-of : (o : Option ℕ) (x : ℕ) → o ≡ Some x → IsSome o
IsSome-of o x e = rw e refl

-- a line with a card can be punched
IsPunchable-of_card : (line card : List ℕ) → IsCardOf line card → IsPunchable line
IsPunchable-of_card line card one = record {
  short = one.short;
  characters = λ k h. IsSome-of _ _ (one.punched k h);
}

-- lines with cards can be punched
pub All-punchable : (lines cards : List (List ℕ)) → AllZip IsCardOf lines cards → All IsPunchable lines
All-punchable lines cards each =
    All-from_get_or IsPunchable lines []
    (λ k h. IsPunchable-of_card _ _ (AllZip-get_or IsCardOf lines cards k [] [] each h))

-- a list that has an item left is longer than what is before it
within_of : (xs : List (List ℕ)) (n : ℕ) (x : List ℕ) (rest : List (List ℕ)) → drop n xs ≡ x ∷ rest →
    n < length xs
within_of xs n x rest e = omega (arith, ap length e, length-drop n xs)

-- the item at which a list is cut
at_cut : (xs : List (List ℕ)) (n : ℕ) (x : List ℕ) (rest : List (List ℕ)) (d : List ℕ) →
    drop n xs ≡ x ∷ rest → (get_or xs n d ≡ x) × (drop (n + 1) xs ≡ rest)
at_cut xs n x rest d e =
    let cut : drop n xs ≡ get_or xs n d ∷ drop (suc n) xs = drop-cons xs n d (within_of xs n x rest e) in
    let one : n + 1 ≡ suc n = omega arith in
    ((cc), ap (λ k. drop k xs) one ∙ (cc))

-- a line and its card more are read
pub IsReadUpTo-push : (bytes text line rest : List ℕ) (cards : List (List ℕ)) (card : List ℕ) →
    IsReadUpTo bytes text cards → length cards ≢ most_cards → lines_of text ≡ line ∷ lines_of rest →
    IsCardOf line card → IsReadUpTo bytes rest (cards ++ card ∷ [])
IsReadUpTo-push bytes text line rest cards card read more cut one =
    let all = lines_of bytes in
    let n = length cards in
    let here : drop n all ≡ line ∷ lines_of rest = read.left ∙ cut in
    let within : n < length all = within_of all n line (lines_of rest) here in
    let at : line ≡ get_or all n line = sym (at_cut all n line (lines_of rest) line here).0 in
    let one_more : length (cards ++ card ∷ []) ≡ n + 1 = length-append cards (card ∷ []) in
    record {
      few = omega (arith, one_more);
      within = omega (arith, one_more);
      left = ap (λ k. drop k all) one_more ∙ (at_cut all n line (lines_of rest) line here).1;
      each = rw one_more (all_zip_more IsCardOf all cards n line card within at read.each one);
    }

-- the line at which reading stops
pub IsReached-next : (bytes text line rest : List ℕ) (cards : List (List ℕ)) → IsReadUpTo bytes text cards →
    length cards ≢ most_cards → lines_of text ≡ line ∷ lines_of rest →
    IsReached bytes (length cards + 1) × (line_at bytes (length cards + 1) ≡ line)
IsReached-next bytes text line rest cards read more cut =
    let all = lines_of bytes in
    let n = length cards in
    let here : drop n all ≡ line ∷ lines_of rest = read.left ∙ cut in
    let within : n < length all = within_of all n line (lines_of rest) here in
    let same : n + 1 - 1 ≡ n = omega arith in (
      record {
        from = omega arith;
        to = omega arith;
        within = omega arith;
        before = rw same (All-punchable (take n all) cards read.each);
      },
      ap (λ k. get_or all k []) same ∙ (at_cut all n line (lines_of rest) [] here).0,
    )

-- the fault of the line at which reading stops
pub HasDeckFault-next : (bytes text line rest : List ℕ) (cards : List (List ℕ)) → IsReadUpTo bytes text cards →
    length cards ≢ most_cards → lines_of text ≡ line ∷ lines_of rest → (number : ℕ) → number ≡ length cards + 1 →
    (fault : DeckFault) → HasLineFault line number fault → HasDeckFault bytes fault
HasDeckFault-next bytes text line rest cards read more cut number e (CardTooLong n) h =
    let r = IsReached-next bytes text line rest cards read more cut in
    rw (h.0, e) (r.0, subst (λ s. 80 < length s) (sym r.1) h.1)
HasDeckFault-next bytes text line rest cards read more cut number e (NoSuchCharacter n column) h =
    let r = IsReached-next bytes text line rest cards read more cut in
    rw (h.0, e) (r.0, subst (λ s. IsOddColumn s column) (sym r.1) h.1)
HasDeckFault-next bytes text line rest cards read more cut number e TooManyCards h = absurd h
HasDeckFault-next bytes text line rest cards read more cut number e Memory h = absurd h

-- reading stops at line 1,000,000
pub HasDeckFault-many : (bytes text line rest : List ℕ) (cards : List (List ℕ)) → IsReadUpTo bytes text cards →
    length cards ≡ most_cards → lines_of text ≡ line ∷ lines_of rest → HasDeckFault bytes TooManyCards
HasDeckFault-many bytes text line rest cards read full cut =
    let all = lines_of bytes in
    let within : length cards < length all = within_of all (length cards) line (lines_of rest) (read.left ∙ cut) in
    (omega arith, rw full at (All-punchable (take (length cards) all) cards read.each))

-- all lines are read
pub Deck-at_end : (bytes text : List ℕ) (cards : List (List ℕ)) → IsReadUpTo bytes text cards →
    lines_of text ≡ [] → Deck bytes cards
Deck-at_end bytes text cards read none =
    let all = lines_of bytes in
    let end : length all ≤ length cards = omega (arith, ap length (read.left ∙ none), length-drop (length cards) all) in
    record { few = read.few; each = rw (take_all (length cards) all end) at read.each }
