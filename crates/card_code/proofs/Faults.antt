-- A text has one deck or one fault.
use Rattle.std.proofs.Common.{◌≡◌, ℕ, ◌-◌, ◌<◌, ◌≤◌, ◌⊎◌, inl, inr, List, [], ◌∷◌, length, take, get_or, refl, ap, sym, ◌∙◌, subst, arith, All, IsSome, None, slice_index, Err, IsErrOf}
use Rattle.std.proofs.lemmas.Bool.{cases_order}
use Rattle.std.proofs.lemmas.Grind.{same_number_lists}
use Rattle.std.proofs.lemmas.List.{get_or-take, length-take-le}
use Rattle.std.proofs.lemmas.List.Elements.{All-get_or, length_all_zip}
use Rattle.std.specs.List.{AllZip}
use Rattle.card_code.specs.MostCards.{most_cards}
use Rattle.card_code.proofs.Decks.{All-punchable}
use Rattle.card_code.specs.CardCode.{rows_of}
use Rattle.card_code.specs.Deck.{Deck, IsCardOf, IsOddColumn, IsPunchable, IsReached, HasDeckFault, line_at}
use Rattle.card_code.specs.Lines.{lines_of}
use Rattle.card_code.specs.declared.deck.DeckFault.{DeckFault}
use Rattle.card_code.specs.declared.deck.DeckFault.TheVariants.{CardTooLong, NoSuchCharacter, TooManyCards, Memory}

-- a column of a line's card
same_column : (line one other : List ℕ) → IsCardOf line one → IsCardOf line other → (k : ℕ) →
    get_or one k 0 ≡ get_or other k 0
same_column line one other a b k =
    elim (cases_order k (length line)) [
      | inl e ↦ a.blank k (omega arith) ∙ sym (b.blank k (omega arith))
      | inr order ↦
          elim order [
            | inl within ↦ let e = sym (a.punched k within) ∙ b.punched k within in cc
            | inr after ↦ a.blank k (omega arith) ∙ sym (b.blank k (omega arith))
          ]
    ]

-- a line has one card
same_card : (line one other : List ℕ) → IsCardOf line one → IsCardOf line other → one ≡ other
same_card line one other a b =
    same_number_lists one other (a.whole ∙ sym b.whole) (λ k _. same_column line one other a b k)

-- lines have one list of cards
same_cards : (lines ones others : List (List ℕ)) → AllZip IsCardOf lines ones → AllZip IsCardOf lines others →
    ones ≡ others
same_cards [] [] [] a b = refl
same_cards [] [] (d ∷ ds) a b = absurd b
same_cards [] (c ∷ cs) others a b = absurd a
same_cards (l ∷ ls) [] others a b = absurd a
same_cards (l ∷ ls) (c ∷ cs) [] a b = absurd b
same_cards (l ∷ ls) (c ∷ cs) (d ∷ ds) a b =
    let first : c ≡ d = same_card l c d a.0 b.0 in
    let others : cs ≡ ds = same_cards ls cs ds a.1 b.1 in
    cc

-- a text has one deck
pub Deck-same : (bytes : List ℕ) (cards others : List (List ℕ)) → Deck bytes cards → Deck bytes others →
    cards ≡ others
Deck-same bytes cards others a b = same_cards (lines_of bytes) cards others a.each b.each

-- a byte is a deck character or none
not_both : (line : List ℕ) (k : ℕ) → IsSome (rows_of (slice_index line k)) →
    rows_of (slice_index line k) ≡ None → ⊥
not_both line k some none = let e = rw none at some in cc

-- a column with an odd byte can't be punched
not_odd : (line : List ℕ) (column : ℕ) → IsPunchable line → IsOddColumn line column → ⊥
not_odd line column good bad =
    let from = bad.from in
    let to = bad.to in
    not_both line (column - 1) (good.characters (column - 1) (omega arith)) bad.odd

-- the first odd column is not before another
not_odd_before : (line : List ℕ) (one other : ℕ) → IsOddColumn line one → IsOddColumn line other →
    one < other → ⊥
not_odd_before line one other a b h =
    let from = a.from in
    not_both line (one - 1) (b.before (one - 1) (omega arith)) a.odd

-- there is one first odd column
same_odd : (line : List ℕ) (one other : ℕ) → IsOddColumn line one → IsOddColumn line other → one ≡ other
same_odd line one other a b =
    omega (arith, not_odd_before line one other a b, not_odd_before line other one b a)

-- the number of the line that a fault speaks of
stop_of : DeckFault → ℕ
stop_of (CardTooLong line) = line
stop_of (NoSuchCharacter line column) = line
stop_of TooManyCards = 1000000
stop_of Memory = 0

-- all lines before this one can be punched, and this one can't, or is one too many
record IsStop (bytes : List ℕ) (stop : ℕ) : Type 0 where
  from : 1 ≤ stop
  to : stop ≤ 1000000
  before : (k : ℕ) → 1 ≤ k → k < stop → IsPunchable (line_at bytes k)
  stops : (stop ≡ 1000000) ⊎ (IsPunchable (line_at bytes stop) → ⊥)

-- a line before others that can be punched
at_before : (lines : List (List ℕ)) (n k : ℕ) → n ≤ length lines → All IsPunchable (take n lines) → k < n →
    IsPunchable (get_or lines k [])
at_before lines n k within all h =
    let here : k < length (take n lines) = omega (arith, length-take-le n lines within) in
    subst IsPunchable (get_or-take n lines k [] h) (All-get_or IsPunchable (take n lines) k [] here all)

-- a reached line that can't be punched
IsStop-reached : (bytes : List ℕ) (line : ℕ) → IsReached bytes line → (IsPunchable (line_at bytes line) → ⊥) →
    IsStop bytes line
IsStop-reached bytes line here bad =
    let from = here.from in
    let to = here.to in
    let within = here.within in
    record {
      from = from;
      to = omega arith;
      before = λ k h m. at_before (lines_of bytes) (line - 1) (k - 1) (omega arith) here.before (omega arith);
      stops = inr bad;
    }

-- each fault stops the reading
IsStop-fault : (bytes : List ℕ) (fault : DeckFault) → HasDeckFault bytes fault → IsStop bytes (stop_of fault)
unfolding stop_of
IsStop-fault bytes (CardTooLong line) h =
    IsStop-reached bytes line h.0 (λ good. let short = good.short in let long = h.1 in omega arith)
IsStop-fault bytes (NoSuchCharacter line column) h =
    IsStop-reached bytes line h.0 (λ good. not_odd (line_at bytes line) column good h.1)
IsStop-fault bytes TooManyCards h =
    let many = h.0 in
    record {
      from = omega arith;
      to = omega arith;
      before = λ k n m. at_before (lines_of bytes) most_cards (k - 1) (omega arith) h.1 (omega arith);
      stops = inl refl;
    }
IsStop-fault bytes Memory h = absurd h

-- a stop is not before another
not_before : (bytes : List ℕ) (one other : ℕ) → IsStop bytes one → IsStop bytes other → one < other → ⊥
not_before bytes one other a b h =
    let from = a.from in
    let to = b.to in
    elim a.stops [ inl e ↦ omega arith | inr bad ↦ bad (b.before one from h) ]

-- there is one stop
same_stop : (bytes : List ℕ) (one other : ℕ) → IsStop bytes one → IsStop bytes other → one ≡ other
same_stop bytes one other a b =
    omega (arith, not_before bytes one other a b, not_before bytes other one b a)

-- a line is too long or not
not_long : (bytes : List ℕ) (n m : ℕ) → n ≡ m → 80 < length (line_at bytes n) →
    length (line_at bytes m) ≤ 80 → ⊥
not_long bytes n m e long short = omega (arith, subst (λ k. 80 < length (line_at bytes k)) e long)

-- two faults of one line
same_of_line : (bytes : List ℕ) (one other : DeckFault) → HasDeckFault bytes one → HasDeckFault bytes other →
    stop_of one ≡ stop_of other → one ≡ other
unfolding stop_of
same_of_line bytes (CardTooLong n) (CardTooLong m) a b e = ap CardTooLong e
same_of_line bytes (CardTooLong n) (NoSuchCharacter m column) a b e = absurd (not_long bytes n m e a.1 b.1.short)
same_of_line bytes (CardTooLong n) TooManyCards a b e = let to = a.0.to in absurd (omega arith)
same_of_line bytes (NoSuchCharacter n column) (CardTooLong m) a b e = absurd (not_long bytes m n (sym e) b.1 a.1.short)
same_of_line bytes (NoSuchCharacter n column) (NoSuchCharacter m other) a b e =
    let here = subst (λ k. IsOddColumn (line_at bytes k) other) (sym e) b.1 in
    let columns : column ≡ other = same_odd (line_at bytes n) column other a.1 here in
    cc
same_of_line bytes (NoSuchCharacter n column) TooManyCards a b e = let to = a.0.to in absurd (omega arith)
same_of_line bytes TooManyCards (CardTooLong m) a b e = let to = b.0.to in absurd (omega arith)
same_of_line bytes TooManyCards (NoSuchCharacter m column) a b e = let to = b.0.to in absurd (omega arith)
same_of_line bytes TooManyCards TooManyCards a b e = refl
same_of_line bytes Memory other a b e = absurd a
same_of_line bytes (CardTooLong n) Memory a b e = absurd b
same_of_line bytes (NoSuchCharacter n column) Memory a b e = absurd b
same_of_line bytes TooManyCards Memory a b e = absurd b

-- a text has one fault
pub HasDeckFault-same : (bytes : List ℕ) (one other : DeckFault) → HasDeckFault bytes one → HasDeckFault bytes other →
    one ≡ other
HasDeckFault-same bytes one other a b =
    same_of_line bytes one other a b (same_stop bytes _ _ (IsStop-fault bytes one a) (IsStop-fault bytes other b))

-- a line of a deck can be punched
at_card : (bytes : List ℕ) (cards : List (List ℕ)) (line : ℕ) → Deck bytes cards → IsReached bytes line →
    IsPunchable (line_at bytes line)
at_card bytes cards line deck here =
    let from = here.from in
    let within = here.within in
    All-get_or IsPunchable (lines_of bytes) (line - 1) [] (omega arith) (All-punchable (lines_of bytes) cards deck.each)

-- a text with a deck has no fault
pub Deck-no_fault : (bytes : List ℕ) (cards : List (List ℕ)) (fault : DeckFault) → Deck bytes cards →
    HasDeckFault bytes fault → ⊥
Deck-no_fault bytes cards (CardTooLong line) deck h =
    let short = (at_card bytes cards line deck h.0).short in
    let long = h.1 in
    omega arith
Deck-no_fault bytes cards (NoSuchCharacter line column) deck h =
    not_odd (line_at bytes line) column (at_card bytes cards line deck h.0) h.1
Deck-no_fault bytes cards TooManyCards deck h =
    let few = deck.few in
    let many = h.0 in
    omega (arith, length_all_zip IsCardOf (lines_of bytes) cards deck.each)
Deck-no_fault bytes cards Memory deck h = h

-- a text with a fault is told that fault
pub told_at_fault : {V : Type 0} (bytes : List ℕ) (found due : DeckFault) → HasDeckFault bytes found →
    HasDeckFault bytes due → IsErrOf {T = V} (Err found) due
told_at_fault bytes found due a b = ap Err (HasDeckFault-same bytes found due a b)
