-- A text stops runs for one cause.
use Rattle.std.proofs.Common.{◌≡◌, ◌∙◌, refl, sym, ap, subst, arith, ℕ, ◌+◌, ◌<◌, ◌≤◌, ◌⊎◌, inl, inr, List, [], ◌∷◌, ◌++◌, Option, Some, None, length, drop, get_or, append-nil, append_assoc, length-append, All}
use Rattle.std.proofs.Math.Seq.{get_or-append_seam}
use Rattle.std.proofs.lemmas.Bool.{cases_lt}
use Rattle.std.proofs.lemmas.List.Elements.{length_all_zip}
use Rattle.std.proofs.lemmas.Option.{slice_get_within}
use Rattle.std.specs.List.{AllZip}
use Rattle.std.specs.Prelude.{option_to_list}
use Rattle.card_code.proofs.Faults.{Deck-same}
use Rattle.card_code.specs.Deck.{Deck, HasLineFault, IsCardOf}
use Rattle.card_code.specs.Lines.{lines_of}
use Rattle.card_code.specs.MostCards.{most_cards}
use Rattle.card_code.specs.declared.deck.DeckFault.{DeckFault}
use Rattle.card_code.specs.declared.deck.DeckFault.TheVariants.{CardTooLong, Memory, NoSuchCharacter, TooManyCards}
use Rattle.report_streams.specs.CardLines.Faults.{HasFaultNext, IsLineAtFault}
use Rattle.report_streams.specs.declared.card_lines.fault.ReadFault.TheVariants as read
use Rattle.chart_lines.specs.ChartsWords.Chart.{Chart}
use Rattle.chart_lines.specs.declared.charts.chart.Line.{Line}
use Rattle.chart_rules.proofs.OneFault.{cards_have_one_fault}
use Rattle.chart_rules.specs.ValidCard.{IsFirstInvalid, IsValidCard}
use Rattle.chart_rules.specs.declared.card.CardFault.{CardFault}
use Rattle.chart_line_rules.specs.FieldRules.Fields.{fields_of}
use Rattle.report_misfits.specs.ToldMisfits.{told}
use Rattle.report_misfits.specs.declared.misfit.Misfit.{Misfit as Found}
use Rattle.report_definition.proofs.FollowedDecks.FirstMisfits.{first-least}
use Rattle.report_definition.proofs.FollowedDecks.FitSoFar.{first_told}
use Rattle.report_definition.specs.FollowedDecks.FitSoFar.{FitSoFar, groups_before, misfits_of_last}
use Rattle.report_definition.specs.FollowedDecks.Stands.{last_of}
use Rattle.report_definition.specs.Misfits.{Misfit, first_of, misfits}
use Rattle.report_runs.proofs.OneLine.{no_fault, one_card, one_fault}
use Rattle.report_runs.specs.Causes.{HasCause, IsInvalidNext, IsOfText, IsUnreadNext}
use Rattle.report_runs.specs.FirstCauses.{HaveFitSoFar, IsFirstCause, IsFirstMisfit}
use Rattle.report_runs.specs.Laws.{TextsHaveOneCause}
use Rattle.report_runs.specs.PrintPromises.Promises.{IsDeck}
use Rattle.report_runs.specs.Reading.{HasRead}
use Rattle.report_runs.specs.declared.fault.StreamCause.{StreamCause}
use Rattle.report_runs.specs.declared.fault.StreamCause.TheVariants as cause

-- Of a text more cards were read than others, or as many: those, and then the cards of the next lines.
record Further (rest its_rest : List (List ℕ)) (cards its_cards : List (List ℕ)) : Type 0 where
  more : List (List ℕ)
  are : its_cards ≡ cards ++ more
  lines : List (List ℕ)
  next : rest ≡ lines ++ its_rest
  each : AllZip IsCardOf lines more

further : (lines rest its_lines its_rest cards its_cards : List (List ℕ)) → lines ++ rest ≡ its_lines ++ its_rest
    → AllZip IsCardOf lines cards → AllZip IsCardOf its_lines its_cards → length cards ≤ length its_cards
    → Further rest its_rest cards its_cards
further [] rest its_lines its_rest [] its_cards same each its_each few =
    record { more = its_cards; are = refl; lines = its_lines; next = same; each = its_each }
further [] rest its_lines its_rest (c ∷ cs) its_cards same each its_each few = absurd each
further (l ∷ ls) rest its_lines its_rest [] its_cards same each its_each few = absurd each
further (l ∷ ls) rest its_lines its_rest (c ∷ cs) [] same each its_each few = absurd (omega (arith, few))
further (l ∷ ls) rest [] its_rest (c ∷ cs) (d ∷ ds) same each its_each few = absurd its_each
further (l ∷ ls) rest (m ∷ ms) its_rest (c ∷ cs) (d ∷ ds) same each its_each few =
    let heads : l ≡ m = ap (λ all. get_or all 0 []) same in
    let first : c ≡ d = one_card l c d each.0 (subst (λ line. IsCardOf line d) (sym heads) its_each.0) in
    let later = further ls rest ms its_rest cs ds (ap (drop 1) same) each.1 its_each.1 (omega (arith, few)) in
    record {
      more = later.more;
      are = ap (λ t. d ∷ t) later.are ∙ ap (λ t. t ∷ (cs ++ later.more)) (sym first);
      lines = later.lines;
      next = later.next;
      each = later.each;
    }

reads_further : (text : List ℕ) (cards its_cards : List (List ℕ)) (rest its_rest : List ℕ) → HasRead text cards rest
    → HasRead text its_cards its_rest → length cards ≤ length its_cards → Further (lines_of rest) (lines_of its_rest) cards its_cards
reads_further text cards its_cards rest its_rest is also few =
    further is.lines (lines_of rest) also.lines (lines_of its_rest) cards its_cards (sym is.cut ∙ also.cut) is.each also.each few

-- as many cards of a text are the same
none_more : (cards more : List (List ℕ)) → length (cards ++ more) ≡ length cards → more ≡ []
none_more cards [] same = refl
none_more cards (c ∷ more) same = absurd (omega (arith, same, length-append cards (c ∷ more)))

no_lines_for_none : (lines : List (List ℕ)) → AllZip IsCardOf lines [] → lines ≡ []
no_lines_for_none [] each = refl
no_lines_for_none (l ∷ lines) each = absurd each

same_cards : (text : List ℕ) (cards its_cards : List (List ℕ)) (rest its_rest : List ℕ) → HasRead text cards rest
    → HasRead text its_cards its_rest → length cards ≡ length its_cards → (its_cards ≡ cards) × (lines_of rest ≡ lines_of its_rest)
same_cards text cards its_cards rest its_rest is also same =
    let it = reads_further text cards its_cards rest its_rest is also (omega (arith, same)) in
    let none = none_more cards it.more (ap length (sym it.are) ∙ sym same) in
    let no_lines = no_lines_for_none it.lines (subst (AllZip IsCardOf it.lines) none it.each) in (
      it.are ∙ ap (λ t. cards ++ t) none ∙ append-nil cards,
      it.next ∙ ap (λ t. t ++ lines_of its_rest) no_lines,
    )

-- one more card is that of the next line
record HasNext (rest : List (List ℕ)) (cards its_cards : List (List ℕ)) : Type 0 where
  card : List ℕ
  more : List (List ℕ)
  are : its_cards ≡ cards ++ card ∷ more
  line : List ℕ
  others : List (List ℕ)
  next : rest ≡ line ∷ others
  is : IsCardOf line card

goes_on : (text : List ℕ) (cards its_cards : List (List ℕ)) (rest its_rest : List ℕ) → HasRead text cards rest
    → HasRead text its_cards its_rest → length cards < length its_cards → HasNext (lines_of rest) cards its_cards
goes_on text cards its_cards rest its_rest is also few =
    let it = reads_further text cards its_cards rest its_rest is also (omega (arith, few)) in
    by it.lines it.more it.are it.next it.each
  where
    by : (lines more : List (List ℕ)) → its_cards ≡ cards ++ more → lines_of rest ≡ lines ++ lines_of its_rest → AllZip IsCardOf lines more
        → HasNext (lines_of rest) cards its_cards
    by lines [] are next each = absurd (omega (arith, few, ap length are, ap length (append-nil cards)))
    by [] (c ∷ more) are next each = absurd each
    by (l ∷ lines) (c ∷ more) are next each =
        record { card = c; more = more; are = are; line = l; others = lines ++ lines_of its_rest; next = next; is = each.0 }

-- the deck of a text has as many cards as were read and lines are left
counted : (text : List ℕ) (cards all : List (List ℕ)) (rest : List ℕ) → HasRead text cards rest → Deck text all
    → length cards + length (lines_of rest) ≡ length all
counted text cards all rest is deck =
    omega (
      arith,
      ap length is.cut,
      length-append is.lines (lines_of rest),
      length_all_zip IsCardOf is.lines cards is.each,
      length_all_zip IsCardOf (lines_of text) all deck.each,
    )

-- what is told of the next line is that it is at fault, or one too many
at_fault : (given : ℕ) (text : List ℕ) (fault : DeckFault) → HasFaultNext given text (read.Deck fault)
    → ((fault ≡ TooManyCards) × (given ≡ most_cards) × (lines_of text ≡ [] → ⊥)) ⊎ IsLineAtFault given text fault
at_fault given text (CardTooLong line) is = inr is
at_fault given text (NoSuchCharacter line column) is = inr is
at_fault given text TooManyCards is = inl (refl, is.0, is.1)
at_fault given text Memory is = inr is

-- A cause that keeps cards from being read: no more of them are valid, and the deck doesn't end with them.
record Blocks (chart : Chart) (text : List ℕ) (cards : List (List ℕ)) : Type 0 where
  most : (its_cards : List (List ℕ)) (its_rest : List ℕ) → HasRead text its_cards its_rest → IsDeck chart its_cards
      → length its_cards ≤ length cards
  ends_later : (all : List (List ℕ)) → Deck text all → length cards < length all

line_left : (lines : List (List ℕ)) → (lines ≡ [] → ⊥) → 0 < length lines
line_left [] some = absurd (some refl)
line_left (l ∷ lines) some = omega arith

unread_blocks : (chart : Chart) (text : List ℕ) (cards : List (List ℕ)) (fault : DeckFault) → IsUnreadNext text cards (read.Deck fault)
    → Blocks chart text cards
unread_blocks chart text cards fault is = record {
  most = λ its_cards its_rest also valid. elim (cases_lt (length cards) (length its_cards)) [
    | inl less ↦ absurd (no_more its_cards its_rest also valid less)
    | inr most ↦ most
  ];
  ends_later = λ all deck. omega (arith, counted text cards all is.rest is.is_read deck, some);
}
  where
    at_it : ((fault ≡ TooManyCards) × (length cards ≡ most_cards) × (lines_of is.rest ≡ [] → ⊥)) ⊎ IsLineAtFault (length cards) is.rest fault
    at_it = at_fault (length cards) is.rest fault is.is_fault

    some : 0 < length (lines_of is.rest)
    some = elim at_it [
      | inl many ↦ line_left (lines_of is.rest) many.2
      | inr at ↦ omega (arith, ap length at.cut)
    ]

    no_more : (its_cards : List (List ℕ)) (its_rest : List ℕ) → HasRead text its_cards its_rest → IsDeck chart its_cards
        → length cards < length its_cards → ⊥
    no_more its_cards its_rest also valid less = elim at_it [
      | inl many ↦ omega (arith, many.1, valid.long, less)
      | inr at ↦
          let next = goes_on text cards its_cards is.rest its_rest is.is_read also less in
          let same : next.line ≡ at.line = ap (λ all. get_or all 0 []) (sym next.next ∙ at.cut) in
          no_fault at.line next.card (length cards + 1) fault (subst (λ line. IsCardOf line next.card) same next.is) at.is_fault
    ]

-- a valid card has no field that is not valid
valid_or_not : (chart : Chart) (card : List ℕ) (fault : CardFault) → IsValidCard chart card → IsFirstInvalid (fields_of chart.lines) card fault → ⊥
unfolding IsValidCard
valid_or_not chart card fault valid first =
    first.invalid (valid first.place (slice_get_within _ first.place first.field first.is_there) first.field first.is_there)

of_all : {X : Type 0} (P : X → Type 0) (before : List X) (x : X) (behind : List X) → All P (before ++ x ∷ behind) → P x
of_all P before x behind all =
    subst P (get_or-append_seam before x behind x) (all (length before) x (omega (arith, length-append before (x ∷ behind))))

invalid_blocks : (chart : Chart) (text : List ℕ) (cards : List (List ℕ)) (fault : CardFault) (number : ℕ)
    → IsInvalidNext chart text cards fault number → Blocks chart text cards
invalid_blocks chart text cards fault number is = record {
  most = λ its_cards its_rest also valid. elim (cases_lt (length cards) (length its_cards)) [
    | inl less ↦ absurd (no_more its_cards its_rest also valid less)
    | inr most ↦ most
  ];
  ends_later = λ all deck. omega (arith, counted text (cards ++ is.card ∷ []) all is.rest is.is_read deck, one_more);
}
  where
    one_more : length (cards ++ is.card ∷ []) ≡ length cards + 1
    one_more = length-append cards (is.card ∷ [])

    no_more : (its_cards : List (List ℕ)) (its_rest : List ℕ) → HasRead text its_cards its_rest → IsDeck chart its_cards
        → length cards < length its_cards → ⊥
    no_more its_cards its_rest also valid less =
        let it = reads_further text (cards ++ is.card ∷ []) its_cards is.rest its_rest is.is_read also (omega (arith, one_more, less)) in
        let are : its_cards ≡ cards ++ is.card ∷ it.more = it.are ∙ append_assoc cards (is.card ∷ []) it.more in
        valid_or_not chart is.card fault
        (of_all (IsValidCard chart) cards is.card it.more (subst (All (IsValidCard chart)) are valid.valid)) is.is_first

-- where no group that ended before the last of some cards has a misfit, none ended with an earlier one that has
no_misfit : (lines : List Line) (card : List ℕ) (others : List (List ℕ)) (next : List ℕ) (more : List (List ℕ)) (misfit : Misfit)
    → FitSoFar lines card others → FitSoFar lines card (others ++ next ∷ more)
    → first_of (misfits_of_last lines card others (Some next)) ≡ Some misfit → ⊥
no_misfit lines card others next more misfit fit later first =
    let is = first_told lines card others (next ∷ more) misfit fit first in
    let all = others ++ next ∷ more in
    let least = first-least lines (length all + 1) (groups_before lines card all) (last_of card all) [] misfit
    (sym (ap first_of (later [])) ∙ ap (λ l. first_of (misfits lines (card ∷ l))) (append-nil all) ∙ is.0) in
    omega (arith, least, is.1, length-append others (next ∷ more))

-- a misfit before which nothing keeps cards from being read, and behind which something does
misfit_or_block : (chart : Chart) (text : List ℕ) (cards its_cards : List (List ℕ)) (rest its_rest : List ℕ) (misfit : Found)
    → HasRead text cards rest → IsDeck chart cards → IsFirstMisfit chart text cards misfit
    → HasRead text its_cards its_rest → Blocks chart text its_cards → HaveFitSoFar chart.lines its_cards → ⊥
misfit_or_block chart text cards its_cards rest its_rest misfit is valid first also blocks fit =
    by first.next first.are first.ended first.is_first
  where
    most : length cards ≤ length its_cards
    most = blocks.most cards rest is valid

    it : Further (lines_of rest) (lines_of its_rest) cards its_cards
    it = reads_further text cards its_cards rest its_rest is also most

    by : (next : Option (List ℕ)) → cards ≡ (first.card ∷ first.others) ++ option_to_list next
        → (next ≡ None → Deck text (first.card ∷ first.others))
        → first_of (misfits_of_last chart.lines first.card first.others next) ≡ Some (told misfit) → ⊥
    by None are ended is_first =
        omega (arith, most, blocks.ends_later (first.card ∷ first.others) (ended refl), ap length are, ap length (append-nil (first.card ∷ first.others)))
    by (Some next) are ended is_first =
        let all : its_cards ≡ first.card ∷ (first.others ++ next ∷ it.more) =
        it.are ∙ ap (λ t. t ++ it.more) are ∙ append_assoc (first.card ∷ first.others) (next ∷ []) it.more in
        no_misfit chart.lines first.card first.others next it.more (told misfit) first.fit
        (subst (HaveFitSoFar chart.lines) all fit) is_first

-- two causes that keep cards from being read come after as many cards
as_many : (chart : Chart) (text : List ℕ) (cards its_cards : List (List ℕ)) (rest its_rest : List ℕ) → HasRead text cards rest
    → HasRead text its_cards its_rest → IsDeck chart cards → IsDeck chart its_cards → Blocks chart text cards → Blocks chart text its_cards
    → length cards ≡ length its_cards
as_many chart text cards its_cards rest its_rest is also valid its_valid blocks its_blocks =
    omega (arith, blocks.most its_cards its_rest also its_valid, its_blocks.most cards rest is valid)

one_unread : (text : List ℕ) (cards its_cards : List (List ℕ)) (one other : DeckFault) → IsUnreadNext text cards (read.Deck one)
    → IsUnreadNext text its_cards (read.Deck other) → length cards ≡ length its_cards → one ≡ other
one_unread text cards its_cards one other is also many =
    by (at_fault (length cards) is.rest one is.is_fault) (at_fault (length its_cards) also.rest other also.is_fault)
  where
    lines : lines_of is.rest ≡ lines_of also.rest
    lines = (same_cards text cards its_cards is.rest also.rest is.is_read also.is_read many).1

    by : ((one ≡ TooManyCards) × (length cards ≡ most_cards) × (lines_of is.rest ≡ [] → ⊥)) ⊎ IsLineAtFault (length cards) is.rest one
        → ((other ≡ TooManyCards) × (length its_cards ≡ most_cards) × (lines_of also.rest ≡ [] → ⊥)) ⊎ IsLineAtFault (length its_cards) also.rest other
        → one ≡ other
    by (inl full) (inl too) = full.0 ∙ sym too.0
    by (inl full) (inr at) = absurd (omega (arith, full.1, at.few, many))
    by (inr at) (inl full) = absurd (omega (arith, full.1, at.few, many))
    by (inr at) (inr too) =
        let line : too.line ≡ at.line = ap (λ all. get_or all 0 []) (sym too.cut ∙ sym lines ∙ at.cut) in
        one_fault at.line (length cards + 1) one other at.is_fault
        (subst (λ (n : ℕ). HasLineFault at.line (n + 1) other) (sym many)
        (subst (λ (l : List ℕ). HasLineFault l (length its_cards + 1) other) line too.is_fault))

unread_or_invalid : (chart : Chart) (text : List ℕ) (cards its_cards : List (List ℕ)) (one : DeckFault) (other : CardFault) (number : ℕ)
    → IsUnreadNext text cards (read.Deck one) → IsInvalidNext chart text its_cards other number → length cards ≡ length its_cards → ⊥
unread_or_invalid chart text cards its_cards one other number is also many =
    by (at_fault (length cards) is.rest one is.is_fault)
  where
    next : HasNext (lines_of is.rest) cards (its_cards ++ also.card ∷ [])
    next =
        goes_on text cards (its_cards ++ also.card ∷ []) is.rest also.rest is.is_read also.is_read
        (omega (arith, many, length-append its_cards (also.card ∷ [])))

    by : ((one ≡ TooManyCards) × (length cards ≡ most_cards) × (lines_of is.rest ≡ [] → ⊥)) ⊎ IsLineAtFault (length cards) is.rest one → ⊥
    by (inl full) = omega (arith, full.1, many, also.is_next, also.few)
    by (inr at) =
        let same : next.line ≡ at.line = ap (λ all. get_or all 0 []) (sym next.next ∙ at.cut) in
        no_fault at.line next.card (length cards + 1) one (subst (λ line. IsCardOf line next.card) same next.is) at.is_fault

one_invalid : (chart : Chart) (text : List ℕ) (cards its_cards : List (List ℕ)) (one other : CardFault) (number its_number : ℕ)
    → IsInvalidNext chart text cards one number → IsInvalidNext chart text its_cards other its_number → length cards ≡ length its_cards
    → cause.Invalid one number ≡ cause.Invalid other its_number
one_invalid chart text cards its_cards one other number its_number is also many =
    let numbers : number ≡ its_number = is.is_next ∙ ap (λ n. n + 1) many ∙ sym also.is_next in
    let same =
    same_cards text (cards ++ is.card ∷ []) (its_cards ++ also.card ∷ []) is.rest also.rest is.is_read also.is_read
    (omega (arith, many, length-append cards (is.card ∷ []), length-append its_cards (also.card ∷ []))) in
    let card : also.card ≡ is.card =
    sym (get_or-append_seam its_cards also.card [] []) ∙ ap (λ all. get_or all (length its_cards) []) same.0
    ∙ ap (λ n. get_or (cards ++ is.card ∷ []) n []) (sym many) ∙ get_or-append_seam cards is.card [] [] in
    let faults : one ≡ other =
    cards_have_one_fault (fields_of chart.lines) is.card one other is.is_first
    (subst (λ c. IsFirstInvalid (fields_of chart.lines) c other) card also.is_first) in
    cc

-- a card in some that come before others
record IsWithin (front : List (List ℕ)) (card : List ℕ) (all : List (List ℕ)) : Type 0 where
  behind : List (List ℕ)
  are : all ≡ front ++ card ∷ behind

within : (front : List (List ℕ)) (card : List ℕ) (more all tail : List (List ℕ)) → front ++ card ∷ more ≡ all ++ tail
    → length front < length all → IsWithin front card all
within front card more [] tail same less = absurd (omega (arith, less))
within [] card more (c ∷ all) tail same less =
    record { behind = all; are = ap (λ first. first ∷ all) (sym (ap (λ t. get_or t 0 []) same)) }
within (f ∷ front) card more (c ∷ all) tail same less =
    let later = within front card more all tail (ap (drop 1) same) (omega (arith, less)) in
    record {
      behind = later.behind;
      are = ap (λ first. first ∷ all) (sym (ap (λ t. get_or t 0 []) same)) ∙ ap (λ t. f ∷ t) later.are;
    }

-- no misfit is met before another one that is the first
not_earlier : (chart : Chart) (text : List ℕ) (cards its_cards : List (List ℕ)) (rest its_rest : List ℕ) (one other : Found)
    → HasRead text cards rest → HasRead text its_cards its_rest → (is : IsFirstMisfit chart text cards one)
    → (also : IsFirstMisfit chart text its_cards other) → length is.others < length also.others → ⊥
not_earlier chart text cards its_cards rest its_rest one other reads its_reads is also less =
    by is.next is.are is.ended is.is_first
  where
    long : length also.others + 1 ≤ length its_cards
    long = omega (arith, ap length also.are, length-append (also.card ∷ also.others) (option_to_list also.next))

    by : (next : Option (List ℕ)) → cards ≡ (is.card ∷ is.others) ++ option_to_list next → (next ≡ None → Deck text (is.card ∷ is.others))
        → first_of (misfits_of_last chart.lines is.card is.others next) ≡ Some (told one) → ⊥
    by None are ended is_first =
        omega (arith, less, long, counted text its_cards (is.card ∷ is.others) its_rest its_reads (ended refl))
    by (Some next) are ended is_first =
        let size = length-append (is.card ∷ is.others) (next ∷ []) in
        let it = reads_further text cards its_cards rest its_rest reads its_reads (omega (arith, ap length are, size, less, long)) in
        let all : is.card ∷ (is.others ++ next ∷ it.more) ≡ (also.card ∷ also.others) ++ option_to_list also.next =
        sym (append_assoc (is.card ∷ is.others) (next ∷ []) it.more) ∙ ap (λ t. t ++ it.more) (sym are) ∙ sym it.are ∙ also.are in
        let first : also.card ≡ is.card = sym (ap (λ t. get_or t 0 []) all) in
        let inner = within is.others next it.more also.others (option_to_list also.next) (ap (drop 1) all) less in
        no_misfit chart.lines is.card is.others next inner.behind (told one) is.fit
        (subst (FitSoFar chart.lines is.card) inner.are (subst (λ c. FitSoFar chart.lines c also.others) first also.fit)) is_first

-- cards and one behind them
same_behind : (front other : List (List ℕ)) (card its_card : List ℕ) → length front ≡ length other → front ++ card ∷ [] ≡ other ++ its_card ∷ []
    → (front ≡ other) × (card ≡ its_card)
same_behind [] [] card its_card many same = (refl, ap (λ t. get_or t 0 []) same)
same_behind [] (o ∷ other) card its_card many same = absurd (omega (arith, many))
same_behind (f ∷ front) [] card its_card many same = absurd (omega (arith, many))
same_behind (f ∷ front) (o ∷ other) card its_card many same =
    let later = same_behind front other card its_card (omega (arith, many)) (ap (drop 1) same) in (
      ap (λ t. f ∷ t) later.0 ∙ ap (λ first. first ∷ other) (ap (λ t. get_or t 0 []) same),
      later.1,
    )

-- a misfit is what is told of it
found_of : Misfit → Found
found_of told = record { level = told.level; name = told.name; card = told.card }

told_of : Option Misfit → Misfit → Misfit
told_of None other = other
told_of (Some told) other = told

one_told : (lines : List Line) (card its_card : List ℕ) (others its_others : List (List ℕ)) (next its_next : Option (List ℕ)) (one other : Found)
    → card ≡ its_card → others ≡ its_others → next ≡ its_next
    → first_of (misfits_of_last lines card others next) ≡ Some (told one)
    → first_of (misfits_of_last lines its_card its_others its_next) ≡ Some (told other) → one ≡ other
unfolding found_of told_of
one_told lines card its_card others its_others next its_next one other cards same nexts is also =
    ap (λ first. found_of (told_of first (told one)))
    (sym is
    ∙ ap (λ c. first_of (misfits_of_last lines c others next)) cards
    ∙ ap (λ l. first_of (misfits_of_last lines its_card l next)) same
    ∙ ap (λ n. first_of (misfits_of_last lines its_card its_others n)) nexts
    ∙ also)

one_misfit : (chart : Chart) (text : List ℕ) (cards its_cards : List (List ℕ)) (rest its_rest : List ℕ) (one other : Found)
    → HasRead text cards rest → HasRead text its_cards its_rest → IsFirstMisfit chart text cards one → IsFirstMisfit chart text its_cards other
    → one ≡ other
one_misfit chart text cards its_cards rest its_rest one other reads its_reads is also =
    by is.next also.next is.are also.are is.ended also.ended is.is_first also.is_first
  where
    many : length is.others ≡ length also.others
    many = elim (cases_lt (length is.others) (length also.others)) [
      | inl less ↦ absurd (not_earlier chart text cards its_cards rest its_rest one other reads its_reads is also less)
      | inr most ↦
          elim (cases_lt (length also.others) (length is.others)) [
            | inl less ↦ absurd (not_earlier chart text its_cards cards its_rest rest other one its_reads reads also is less)
            | inr least ↦ omega (arith, most, least)
          ]
    ]

    by : (next its_next : Option (List ℕ)) → cards ≡ (is.card ∷ is.others) ++ option_to_list next
        → its_cards ≡ (also.card ∷ also.others) ++ option_to_list its_next
        → (next ≡ None → Deck text (is.card ∷ is.others)) → (its_next ≡ None → Deck text (also.card ∷ also.others))
        → first_of (misfits_of_last chart.lines is.card is.others next) ≡ Some (told one)
        → first_of (misfits_of_last chart.lines also.card also.others its_next) ≡ Some (told other) → one ≡ other
    by None None are its_are ended its_ended first its_first =
        let all = Deck-same text (is.card ∷ is.others) (also.card ∷ also.others) (ended refl) (its_ended refl) in
        one_told chart.lines is.card also.card is.others also.others None None one other (ap (λ t. get_or t 0 []) all) (ap (drop 1) all) refl first its_first
    by None (Some its_next) are its_are ended its_ended first its_first =
        absurd (omega (
          arith,
          counted text its_cards (is.card ∷ is.others) its_rest its_reads (ended refl),
          many,
          ap length its_are,
          length-append (also.card ∷ also.others) (its_next ∷ []),
        ))
    by (Some next) None are its_are ended its_ended first its_first =
        absurd (omega (
          arith,
          counted text cards (also.card ∷ also.others) rest reads (its_ended refl),
          many,
          ap length are,
          length-append (is.card ∷ is.others) (next ∷ []),
        ))
    by (Some next) (Some its_next) are its_are ended its_ended first its_first =
        let size = length-append (is.card ∷ is.others) (next ∷ []) in
        let its_size = length-append (also.card ∷ also.others) (its_next ∷ []) in
        let same = same_cards text cards its_cards rest its_rest reads its_reads (omega (arith, ap length are, ap length its_are, size, its_size, many)) in
        let all : is.card ∷ (is.others ++ next ∷ []) ≡ also.card ∷ (also.others ++ its_next ∷ []) = sym are ∙ sym same.0 ∙ its_are in
        let parts = same_behind is.others also.others next its_next many (ap (drop 1) all) in
        one_told chart.lines is.card also.card is.others also.others (Some next) (Some its_next) one other
        (ap (λ t. get_or t 0 []) all) parts.0 (ap Some parts.1) first its_first

-- a cause that a text has, by its kind
data StopsBy (chart : Chart) (text : List ℕ) (cards : List (List ℕ)) (met : StreamCause) : Type 0 where
  unread : (fault : DeckFault) → met ≡ cause.Card (read.Deck fault) → IsUnreadNext text cards (read.Deck fault) → HaveFitSoFar chart.lines cards
      → StopsBy chart text cards met
  invalid : (fault : CardFault) → (number : ℕ) → met ≡ cause.Invalid fault number → IsInvalidNext chart text cards fault number
      → HaveFitSoFar chart.lines cards → StopsBy chart text cards met
  misfit : (found : Found) → met ≡ cause.Misfit found → IsFirstMisfit chart text cards found → StopsBy chart text cards met

stops_by : (chart : Chart) (text : List ℕ) (cards : List (List ℕ)) (met : StreamCause) → IsOfText met → HasCause chart text cards met
    → IsFirstCause chart text cards met → StopsBy chart text cards met
stops_by chart text cards (cause.Card (read.Deck fault)) of has first = unread fault refl has first
stops_by chart text cards (cause.Card (read.Read line)) of has first = absurd of
stops_by chart text cards (cause.Card read.Failed) of has first = absurd of
stops_by chart text cards (cause.Invalid fault number) of has first = invalid fault number refl has first
stops_by chart text cards (cause.Misfit found) of has first = misfit found refl first
stops_by chart text cards cause.Write of has first = absurd of
stops_by chart text cards cause.Memory of has first = absurd of

one_cause : (chart : Chart) (text : List ℕ) (cards its_cards : List (List ℕ)) (rest its_rest : List ℕ) (one other : StreamCause)
    → HasRead text cards rest → HasRead text its_cards its_rest → IsDeck chart cards → IsDeck chart its_cards
    → StopsBy chart text cards one → StopsBy chart text its_cards other → one ≡ other
one_cause chart text cards its_cards rest its_rest one other is also valid its_valid (unread fault met has fit) (unread its_fault its_met its_has its_fit) =
    let many =
    as_many chart text cards its_cards rest its_rest is also valid its_valid (unread_blocks chart text cards fault has)
    (unread_blocks chart text its_cards its_fault its_has) in
    met ∙ ap (λ f. cause.Card (read.Deck f)) (one_unread text cards its_cards fault its_fault has its_has many) ∙ sym its_met
one_cause chart text cards its_cards rest its_rest one other is also valid its_valid (unread fault met has fit) (invalid its_fault number its_met its_has its_fit) =
    let many =
    as_many chart text cards its_cards rest its_rest is also valid its_valid (unread_blocks chart text cards fault has)
    (invalid_blocks chart text its_cards its_fault number its_has) in
    absurd (unread_or_invalid chart text cards its_cards fault its_fault number has its_has many)
one_cause chart text cards its_cards rest its_rest one other is also valid its_valid (invalid fault number met has fit) (unread its_fault its_met its_has its_fit) =
    let many =
    as_many chart text cards its_cards rest its_rest is also valid its_valid (invalid_blocks chart text cards fault number has)
    (unread_blocks chart text its_cards its_fault its_has) in
    absurd (unread_or_invalid chart text its_cards cards its_fault fault number its_has has (sym many))
one_cause chart text cards its_cards rest its_rest one other is also valid its_valid (invalid fault number met has fit) (invalid its_fault its_number its_met its_has its_fit) =
    let many =
    as_many chart text cards its_cards rest its_rest is also valid its_valid (invalid_blocks chart text cards fault number has)
    (invalid_blocks chart text its_cards its_fault its_number its_has) in
    met ∙ one_invalid chart text cards its_cards fault its_fault number its_number has its_has many ∙ sym its_met
one_cause chart text cards its_cards rest its_rest one other is also valid its_valid (misfit found met first) (misfit its_found its_met its_first) =
    met ∙ ap cause.Misfit (one_misfit chart text cards its_cards rest its_rest found its_found is also first its_first) ∙ sym its_met
one_cause chart text cards its_cards rest its_rest one other is also valid its_valid (misfit found met first) (unread fault its_met its_has its_fit) =
    absurd (misfit_or_block chart text cards its_cards rest its_rest found is valid first also (unread_blocks chart text its_cards fault its_has) its_fit)
one_cause chart text cards its_cards rest its_rest one other is also valid its_valid (misfit found met first) (invalid fault number its_met its_has its_fit) =
    absurd (misfit_or_block chart text cards its_cards rest its_rest found is valid first also (invalid_blocks chart text its_cards fault number its_has) its_fit)
one_cause chart text cards its_cards rest its_rest one other is also valid its_valid (unread fault met has fit) (misfit found its_met its_first) =
    absurd (misfit_or_block chart text its_cards cards its_rest rest found also its_valid its_first is (unread_blocks chart text cards fault has) fit)
one_cause chart text cards its_cards rest its_rest one other is also valid its_valid (invalid fault number met has fit) (misfit found its_met its_first) =
    absurd (misfit_or_block chart text its_cards cards its_rest rest found also its_valid its_first is (invalid_blocks chart text cards fault number has) fit)

pub texts_have_one_cause : TextsHaveOneCause
texts_have_one_cause chart text one other left its_left written its_written of_one of_other is also =
    one_cause chart text is.cards also.cards _ _ one other is.is_read.is_read also.is_read.is_read is.valid also.valid
    (stops_by chart text is.cards one of_one is.has_cause is.is_first)
    (stops_by chart text also.cards other of_other also.has_cause also.is_first)
