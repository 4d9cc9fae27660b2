-- Groups of a deck by where they begin.
use Rattle.std.proofs.Common.{◌≡◌, ◌∙◌, refl, sym, ap, subst, ℕ, zero, suc, ◌+◌, ◌-◌, ◌<◌, ◌≤◌, ◌==◌, nat_le, Bool, true, false, List, [], ◌∷◌, ◌++◌, append-nil, append_assoc, Option, length, drop, take, get_or, slice_get, slice_range, arith, if◌then◌else◌}
use Rattle.std.proofs.Math.ListN.{drop_of_length-le}
use Rattle.std.proofs.Math.Seq.{drop-cons, take-suc}
use Rattle.std.proofs.lemmas.List.{get_or-drop, length-drop}
use Rattle.chart_lines.specs.declared.charts.chart.Line.{Line}
use Rattle.cli_decks.specs.DeckNotes.MisfitTotals.HelperStarts.{Walks, ended_at, rest_told, start_of}
use Rattle.cli_decks.specs.DeckNotes.MisfitTotals.Large.{large_in, large_to, large_told}
use Rattle.cli_decks.specs.declared.deck_notes.misfit_totals.walk.Starts.{Starts}
use Rattle.report_definition.specs.Breaks.{cleared, ended_after, no_cards, taking}

-- the groups of a level more
pub large_more : (lines : List Line) (number level : ℕ) (groups : ℕ → List (List ℕ))
    → large_to lines number (level + 1) groups ≡ large_to lines number level groups ++ large_in lines (level + 1) number (groups (level + 1))
large_more lines number level groups =
    let next : suc level ≡ level + 1 = omega arith in
    subst (λ (n : ℕ). large_to lines number n groups ≡ large_to lines number level groups ++ large_in lines n number (groups n)) next refl

-- what is told of groups that are the same
pub large_same : (lines : List Line) (number level : ℕ) (one other : ℕ → List (List ℕ))
    → ((its : ℕ) → 1 ≤ its → its ≤ level → one its ≡ other its) → large_to lines number level one ≡ large_to lines number level other
large_same lines number zero one other same = refl
large_same lines number (suc level) one other same =
    ap (λ (l : List ℕ). l ++ large_in lines (suc level) number (one (suc level)))
    (large_same lines number level one other (λ its from to. same its from (omega (arith, to))))
    ∙ ap (λ (group : List (List ℕ)). large_to lines number level other ++ large_in lines (suc level) number group)
    (same (suc level) (omega arith) (omega arith))

-- the cards from a place on, as a card and those behind it
rest_at : (lines : List Line) (number : ℕ) (so_far : ℕ → List (List ℕ)) (card : List ℕ) (others : List (List ℕ))
    → rest_told lines number so_far (card ∷ others)
    ≡ large_to lines number (ended_after lines card (slice_get others 0)) (taking card so_far)
    ++ rest_told lines (number + 1) (cleared (ended_after lines card (slice_get others 0)) (taking card so_far)) others
rest_at lines number so_far card [] = sym (append-nil (large_to lines number 4 (taking card so_far)))
rest_at lines number so_far card (next ∷ others) = refl

-- the cards up to one more
slice_more : (cards : List (List ℕ)) (start place : ℕ) (card : List ℕ) → start ≤ place → place < length cards → card ≡ get_or cards place card
    → slice_range cards start (place + 1) ≡ slice_range cards start place ++ card ∷ []
slice_more cards start place card from there at =
    let more : suc (place - start) ≡ place + 1 - start = omega (arith, from) in
    let long = length-drop start cards in
    let same : start + (place - start) ≡ place = omega (arith, from) in
    sym (ap (λ (n : ℕ). take n (drop start cards)) more)
    ∙ take-suc (drop start cards) (place - start) card (omega (arith, from, there, long))
    ∙ ap (λ (c : List ℕ). take (place - start) (drop start cards) ++ c ∷ [])
    (get_or-drop start cards (place - start) card ∙ ap (λ (n : ℕ). get_or cards n card) same ∙ sym at)

-- none
slice_none : (cards : List (List ℕ)) (place : ℕ) → [] ≡ slice_range cards place place
slice_none cards place =
    let none : place - place ≡ 0 = omega arith in
    sym (ap (λ (n : ℕ). take n (drop place cards)) none)

-- the card behind a place
behind : (cards : List (List ℕ)) (place : ℕ) → slice_get (drop place cards) 0 ≡ slice_get cards place
behind [] zero = refl
behind [] (suc place) = refl
behind (card ∷ cards) zero = refl
behind (card ∷ cards) (suc place) = behind cards place

module _ (lines : List Line) (cards : List (List ℕ)) (place : ℕ) (card : List ℕ) (starts after : Starts) (old text new : List ℕ) (ended : ℕ)
    (there : place < length cards) (at : card ≡ get_or cards place card) (next : Option (List ℕ)) (next_is : next ≡ slice_get cards (place + 1))
    (ended_is : ended ≡ ended_after lines card next)
    (begin : (level : ℕ) → 1 ≤ level → level ≤ 4 → start_of after level ≡ ended_at ended (place + 1) level (start_of starts level))
    (few : ended ≤ 4)
    (written : new ≡ text ++ large_to lines (place + 1) ended (λ level. slice_range cards (start_of starts level) (place + 1))) where
  -- one card more
  pub walks_on : Walks lines cards place starts old text → Walks lines cards (place + 1) after old new
  walks_on walks = record { so_far = so_far; are = are; before = before; goes_on = goes_on }
    where
      so_far : ℕ → List (List ℕ)
      so_far = cleared ended (taking card walks.so_far)

      taken : (level : ℕ) → 1 ≤ level → level ≤ 4 → taking card walks.so_far level ≡ slice_range cards (start_of starts level) (place + 1)
      taken level from to =
          ap (λ (group : List (List ℕ)). group ++ card ∷ []) (walks.are level from to)
          ∙ sym (slice_more cards (start_of starts level) place card (walks.before level from to) there at)

      are : (level : ℕ) → 1 ≤ level → level ≤ 4 → so_far level ≡ slice_range cards (start_of after level) (place + 1)
      are level from to = by (nat_le level ended) ∙ sym (ap (λ (n : ℕ). slice_range cards n (place + 1)) (begin level from to))
        where
          by : (b : Bool) → (if b then [] else taking card walks.so_far level)
              ≡ slice_range cards (if b then place + 1 else start_of starts level) (place + 1)
          by true = slice_none cards (place + 1)
          by false = taken level from to

      before : (level : ℕ) → 1 ≤ level → level ≤ 4 → start_of after level ≤ place + 1
      before level from to = subst (λ (n : ℕ). n ≤ place + 1) (sym (begin level from to)) (by (nat_le level ended))
        where
          by : (b : Bool) → (if b then place + 1 else start_of starts level) ≤ place + 1
          by true = omega arith
          by false = let less = walks.before level from to in omega (arith, less)

      told : List ℕ
      told = large_to lines (place + 1) ended (taking card walks.so_far)

      same : large_to lines (place + 1) ended (λ level. slice_range cards (start_of starts level) (place + 1)) ≡ told
      same = large_same lines (place + 1) ended (λ level. slice_range cards (start_of starts level) (place + 1)) (taking card walks.so_far)
          (λ level from to. sym (taken level from (omega (arith, to, few))))

      ends : ended_after lines card (slice_get (drop (place + 1) cards) 0) ≡ ended
      ends = ap (ended_after lines card) (behind cards (place + 1) ∙ sym next_is) ∙ sym ended_is

      rest : rest_told lines (place + 1) walks.so_far (drop place cards) ≡ told ++ rest_told lines (place + 1 + 1) so_far (drop (place + 1) cards)
      rest =
          let one : suc place ≡ place + 1 = omega arith in
          ap (rest_told lines (place + 1) walks.so_far)
          (drop-cons cards place card there ∙ ap (λ (n : ℕ). get_or cards place card ∷ drop n cards) one
          ∙ ap (λ (c : List ℕ). c ∷ drop (place + 1) cards) (sym at))
          ∙ rest_at lines (place + 1) walks.so_far card (drop (place + 1) cards)
          ∙ ap (λ (n : ℕ). large_to lines (place + 1) n (taking card walks.so_far)
          ++ rest_told lines (place + 1 + 1) (cleared n (taking card walks.so_far)) (drop (place + 1) cards)) ends

      goes_on : new ++ rest_told lines (place + 1 + 1) so_far (drop (place + 1) cards) ≡ old ++ large_told lines cards
      goes_on =
          ap (λ (l : List ℕ). l ++ rest_told lines (place + 1 + 1) so_far (drop (place + 1) cards)) (written ∙ ap (λ (t : List ℕ). text ++ t) same)
          ∙ append_assoc text told (rest_told lines (place + 1 + 1) so_far (drop (place + 1) cards))
          ∙ sym (ap (λ (l : List ℕ). text ++ l) rest)
          ∙ walks.goes_on

-- one of two starts that are 0
either : (b : Bool) (n : ℕ) → n ≡ 0 → (if b then 0 else n) ≡ 0
either true n is = refl
either false n is = is

-- all groups begin at the first card
pub at_zero : (level : ℕ) → start_of (record { minor = 0; intermediate = 0; major = 0; deck = 0 }) level ≡ 0
at_zero level = either (level == 1) _ (either (level == 2) _ (either (level == 3) 0 refl))

-- nothing was written
pub walks_first : (lines : List Line) (cards : List (List ℕ)) (starts : Starts) (old : List ℕ)
    → ((level : ℕ) → start_of starts level ≡ 0) → Walks lines cards 0 starts old old
walks_first lines cards starts old zeros = record {
  so_far = no_cards;
  are = λ level from to. slice_none cards 0 ∙ sym (ap (λ (n : ℕ). slice_range cards n 0) (zeros level));
  before = λ level from to. omega (arith, zeros level);
  goes_on = ap (λ (l : List ℕ). old ++ l) (begins cards);
}
  where
    begins : (cards : List (List ℕ)) → rest_told lines 1 no_cards cards ≡ large_told lines cards
    begins [] = refl
    begins (card ∷ others) = refl

-- none is left
pub walked : (lines : List Line) (cards : List (List ℕ)) (place : ℕ) (starts : Starts) (old text : List ℕ) → length cards ≤ place
    → Walks lines cards place starts old text → text ≡ old ++ large_told lines cards
walked lines cards place starts old text last walks =
    sym (append-nil text)
    ∙ sym (ap (λ (rest : List (List ℕ)). text ++ rest_told lines (place + 1) walks.so_far rest) (drop_of_length-le cards last))
    ∙ walks.goes_on
