-- Cards of one group are alike.
use Rattle.std.proofs.Common.{◌≡◌, refl, subst, ℕ, zero, suc, ◌≤◌, ◌<◌, ◌==◌, nat_le, ◌&&◌, Bool, true, false, List, [], ◌∷◌, ◌++◌, Some, map, if◌then◌else◌, arith}
use Rattle.std.specs.List.{All, list_all}
use Rattle.std.proofs.lemmas.Bool.Decides.{nat_tests}
use Rattle.std.proofs.lemmas.List.Elements.{All-nil, All-cons, All-append, All-weaker, All-head, All-contains}
use Rattle.std.proofs.lemmas.List.Sums.{AllPass-from_list_all}
use Rattle.card_code.specs.CardCode.{print_character}
use Rattle.chart_lines.specs.declared.charts.chart.Line.{Line}
use Rattle.chart_lines.specs.declared.charts.statement.Field.{Field}
use Rattle.chart_rules.specs.Controls.{controls_of}
use Rattle.chart_rules.specs.ValidCard.{column_of}
use Rattle.report_definition.specs.Amounts.{columns_in}
use Rattle.report_definition.specs.BodyLines.{text_on, a_card_of}
use Rattle.report_definition.specs.Breaks.{break_up_to, highest, taking, cleared}
use Rattle.report_definition.specs.Groups.{is_same_on, is_same_at}
use Rattle.report_definition.specs.FollowedDecks.Alike.{AlikeWith}
use Rattle.report_definition.specs.FollowedDecks.Laws.{GroupsAreAlike, TotalTextsAreTheLastCards}
use Rattle.report_definition.specs.FollowedDecks.Stands.{Stand, at_first, stand_after, stand_before, last_of}

-- what two tests tell of each element
all-both : {X : Type 0} (one other both : X → Bool) (xs : List X)
    → ((x : X) → one x ≡ true → other x ≡ true → both x ≡ true) → list_all one xs ≡ true → list_all other xs ≡ true
    → list_all both xs ≡ true
all-both one other both [] tells p q = refl
all-both one other both (x ∷ xs) tells p q =
    by (one x) (other x) (tells x) (list_all one xs) (list_all other xs) (all-both one other both xs tells) p q
  where
    by : (a b : Bool) → (a ≡ true → b ≡ true → both x ≡ true) → (ones others : Bool)
        → (ones ≡ true → others ≡ true → list_all both xs ≡ true) → (a && ones) ≡ true → (b && others) ≡ true
        → (both x && list_all both xs) ≡ true
    by true true here ones others more p q = let first = here refl refl in let rest = more p q in λ i. first i && rest i
    by true false here ones others more p q = absurd cc
    by false b here ones others more p q = absurd cc

-- three cards: where the first two are the same and the last two, so are the first and the last
column-trans : (one card next column : ℕ) → (one == card) ≡ true → (card == next) ≡ true → (one == next) ≡ true
column-trans one card next column same more = grind (arith, nat_tests, same, more)

same-trans : (lines : List Line) (level : ℕ) (one card next : List ℕ) → is_same_at lines level one card ≡ true
    → is_same_at lines level card next ≡ true → is_same_at lines level one next ≡ true
same-trans lines level one card next same more =
    all-both (λ field. is_same_on field one card) (λ field. is_same_on field card next) (λ field. is_same_on field one next)
    (controls_of lines level)
    (λ field here there.
    all-both (λ column. column_of one column == column_of card column) (λ column. column_of card column == column_of next column)
    (λ column. column_of one column == column_of next column) (columns_in field)
    (λ column. column-trans (column_of one column) (column_of card column) (column_of next column) column) here there)
    same more

-- above the highest break two cards are the same
break-above : (lines : List Line) (most : ℕ) (card next : List ℕ) (level : ℕ) → break_up_to lines most card next < level
    → level ≤ most → is_same_at lines level card next ≡ true
break-above lines zero card next level over few = absurd (omega (arith, over, few))
break-above lines (suc most) card next level over few =
    by (is_same_at lines (suc most) card next) refl (nat_le level most) refl over (break-above lines most card next level)
  where
    by : (b : Bool) → is_same_at lines (suc most) card next ≡ b → (below : Bool) → nat_le level most ≡ below
        → (if b then break_up_to lines most card next else suc most) < level
        → (break_up_to lines most card next < level → level ≤ most → is_same_at lines level card next ≡ true)
        → is_same_at lines level card next ≡ true
    by false is below small over more = absurd (omega (arith, over, few))
    by true is true small over more = more over (grind (arith, nat_tests, small))
    by true is false small over more =
        let last : suc most ≡ level = grind (arith, nat_tests, small, few) in
        subst (λ n. is_same_at lines n card next ≡ true) last is

-- what is left unfinished after a card is alike with the next
alike-next : (lines : List Line) (so_far : ℕ → List (List ℕ)) (card next : List ℕ) → AlikeWith lines so_far card
    → AlikeWith lines (cleared (highest lines card next) (taking card so_far)) next
alike-next lines so_far card next alike level above low high =
    by (nat_le level (highest lines card next)) refl
  where
    Same : List ℕ → Type 0
    Same one = is_same_at lines above one next ≡ true

    by : (b : Bool) → nat_le level (highest lines card next) ≡ b → All Same (if b then [] else taking card so_far level)
    by true is = All-nil Same
    by false is =
        let over : highest lines card next < above = grind (arith, nat_tests, is, low) in
        let same : Same card = break-above lines 3 card next above over high in
        All-append Same (so_far level) (card ∷ [])
        (All-weaker (λ one. is_same_at lines above one card ≡ true) Same
        (λ one here. same-trans lines above one card next here same) (so_far level) (alike level above low high))
        (All-cons Same card [] same (All-nil Same))

pub alike-after : (lines : List Line) (stand : Stand) (card next : List ℕ) → AlikeWith lines stand.so_far card
    → AlikeWith lines (stand_after lines stand card (Some next)).so_far next
alike-after lines stand card next alike = alike-next lines stand.so_far card next alike

pub alike-first : (lines : List Line) (card : List ℕ) → AlikeWith lines at_first.so_far card
alike-first lines card level above low high = All-nil (λ one. is_same_at lines above one card ≡ true)

alike-before : (lines : List Line) (stand : Stand) (card : List ℕ) (cards : List (List ℕ)) → AlikeWith lines stand.so_far card
    → AlikeWith lines (stand_before lines stand card cards).so_far (last_of card cards)
alike-before lines stand card [] alike = alike
alike-before lines stand card (next ∷ cards) alike =
    alike-before lines (stand_after lines stand card (Some next)) next cards (alike-after lines stand card next alike)

pub groups_alike : GroupsAreAlike
groups_alike lines card cards = alike-before lines at_first card cards (alike-first lines card)

-- a field shows the same text on cards that are the same on it
text-same : (field : Field) (one card : List ℕ) → is_same_on field one card ≡ true → text_on one field ≡ text_on card field
text-same field one card same = columns (columns_in field) same
  where
    columns : (all : List ℕ) → list_all (λ column. column_of one column == column_of card column) all ≡ true
        → map (λ column. print_character (column_of one column)) all
        ≡ map (λ column. print_character (column_of card column)) all
    columns [] is = refl
    columns (column ∷ others) is =
        by (column_of one column == column_of card column) refl
        (list_all (λ other. column_of one other == column_of card other) others) (columns others) is
      where
        by : (b : Bool) → (column_of one column == column_of card column) ≡ b → (bs : Bool)
            → (bs ≡ true
            → map (λ other. print_character (column_of one other)) others
            ≡ map (λ other. print_character (column_of card other)) others)
            → (b && bs) ≡ true
            → print_character (column_of one column) ∷ map (λ other. print_character (column_of one other)) others
            ≡ print_character (column_of card column) ∷ map (λ other. print_character (column_of card other)) others
        by false here bs more is = absurd cc
        by true here bs more is =
            let punches : column_of one column ≡ column_of card column = grind (arith, nat_tests, here) in
            let rest = more is in
            λ i. print_character (punches i) ∷ rest i

pub total_texts : TotalTextsAreTheLastCards
total_texts lines so_far card level above field alike low high controls =
    by (so_far level) (alike level above low high)
  where
    by : (group : List (List ℕ)) → All (λ one. is_same_at lines above one card ≡ true) group
        → text_on (a_card_of (group ++ (card ∷ []))) field ≡ text_on card field
    by [] same = refl
    by (one ∷ others) same =
        text-same field one card
        (All-contains (λ some. is_same_on some one card ≡ true) (controls_of lines above) field
        (AllPass-from_list_all (λ some. is_same_on some one card) (controls_of lines above)
        (All-head (λ some. is_same_at lines above some card ≡ true) one others same)) controls)
