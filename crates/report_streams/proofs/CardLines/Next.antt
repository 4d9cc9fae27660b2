-- The next card, or the fault in its place.
use Rattle.std.proofs.Common.{◌≡◌, ◌∙◌, ℕ, ◌+◌, ◌<◌, ◌≤◌, List, [], ◌∷◌, ◌++◌, length, take, drop, Option, Some, None, Result, Ok, Err, OnOk, IfSome, is_some, refl, sym, ap, subst, arith, append-nil, append_assoc, take-append-drop}
use Rattle.std.proofs.Math.Seq.{take-length}
use Rattle.std.proofs.lemmas.List.{drop_all, drop_more}
use Rattle.std.proofs.lemmas.Bool.Decides.{nat_tests}
use Rattle.std.proofs.lemmas.Bool.{false≢true}
use Rattle.std.specs.Io.KnownBytes.{IsAtEnd, Keeps, prepend_known}
use Rattle.card_code.proofs.Characters.{characters-punched}
use Rattle.card_code.proofs.Pieces.{lines_of_last, lines_of_none}
use Rattle.card_code.specs.Deck.{HasCharacters, IsCardOf, HasLineFault}
use Rattle.card_code.specs.Lines.{lines_of, without_cr}
use Rattle.card_code.specs.declared.deck.DeckFault.{DeckFault}
use Rattle.card_code.specs.declared.deck.DeckFault.TheVariants.{CardTooLong, NoSuchCharacter, TooManyCards, Memory}
use Rattle.report_streams.proofs.CardLines.Cuts.{end_of_all}
use Rattle.report_streams.proofs.CardLines.FirstLines.{long_first}
use Rattle.report_streams.specs.CardLines.Faults.{HasFaultNext}
use Rattle.report_streams.specs.CardLines.Front.{IsLine, IsPart, IsTooLong, line_end}
use Rattle.report_streams.specs.CardLines.Reading.{GivesCard, HasFirstLine, TakesEndedLine}
use Rattle.report_streams.specs.declared.card_lines.fault.ReadFault.TheVariants as read

-- the bytes of a text that is known
abbrev bytes_of : Option (List ℕ) → List ℕ
bytes_of None = []
bytes_of (Some bytes) = bytes

-- where the text still to come is known, so is what is left of it
pub left_of : (held text : List ℕ) (left : Option (List ℕ)) → prepend_known held left ≡ Some text
    → (rest : List ℕ) × (left ≡ Some rest) × (text ≡ held ++ rest)
left_of held text None known = absurd (false≢true (ap is_some known))
left_of held text (Some rest) known = (rest, refl, sym (ap bytes_of known))

-- a card comes off the front
pub gives : (given : ℕ) (held text card : List ℕ) (left : Option (List ℕ)) → given < 999999
    → ((rest : List ℕ) → left ≡ Some rest → HasFirstLine held rest) → IsCardOf (without_cr (take (line_end held) held)) card
    → prepend_known held left ≡ Some text → GivesCard given text card (prepend_known (drop (line_end held + 1) held) left)
gives given held text card left few first punched known =
    let rest = left_of held text left known in
    let used = line_end held + 1 in
    record {
      few = few;
      line = without_cr (take (line_end held) held);
      front = take used held;
      rest = drop used held ++ rest.0;
      parts = rest.2 ∙ ap (λ (t : List ℕ). t ++ rest.0) (sym (take-append-drop used held)) ∙ append_assoc (take used held) (drop used held) rest.0;
      left = ap (prepend_known (drop used held)) (rest.1);
      cut = ap lines_of (rest.2) ∙ first (rest.0) (rest.1);
      punched = punched;
    }

-- the fault of a line at fault
pub told : (given : ℕ) (text line : List ℕ) (others : List (List ℕ)) → given < 999999 → lines_of text ≡ line ∷ others
    → (fault : DeckFault) → HasLineFault line (given + 1) fault → HasFaultNext given text (read.Deck fault)
told given text line others few cut (CardTooLong n) at = record { few = few; line = line; others = others; cut = cut; is_fault = at }
told given text line others few cut (NoSuchCharacter n column) at =
    record { few = few; line = line; others = others; cut = cut; is_fault = at }
told given text line others few cut TooManyCards at = absurd at
told given text line others few cut Memory at = absurd at

-- after 999,999 cards another line is one too many
pub many : (given : ℕ) (held text : List ℕ) (left : Option (List ℕ)) → given ≡ 999999
    → ((rest : List ℕ) → left ≡ Some rest → HasFirstLine held rest) → prepend_known held left ≡ Some text
    → HasFaultNext given text (read.Deck TooManyCards)
many given held text left full first known =
    let rest = left_of held text left known in
    let cut = ap lines_of (rest.2) ∙ first (rest.0) (rest.1) in
    (full, λ none. absurd (omega (arith, ap length (sym none ∙ cut))))

-- the fault of the line at the front
pub told_next : (given : ℕ) (held text : List ℕ) (left : Option (List ℕ)) (fault : DeckFault) → given < 999999
    → ((rest : List ℕ) → left ≡ Some rest → HasFirstLine held rest) → prepend_known held left ≡ Some text
    → HasLineFault (without_cr (take (line_end held) held)) (given + 1) fault → HasFaultNext given text (read.Deck fault)
told_next given held text left fault few first known at =
    let rest = left_of held text left known in
    told given text _ _ few (ap lines_of (rest.2) ∙ first (rest.0) (rest.1)) fault at

-- what is told of a line that is surely too long
pub long_told : (given : ℕ) (held text : List ℕ) (left : Option (List ℕ)) → given < 999999 → IsTooLong held
    → prepend_known held left ≡ Some text → HasFaultNext given text (read.Deck (CardTooLong (given + 1)))
long_told given held text left few front known =
    let rest = left_of held text left known in
    let first = long_first held (rest.0) front in
    told given text (first.line) (first.others) few (ap lines_of (rest.2) ∙ first.cut) (CardTooLong (given + 1)) (refl, first.long)

-- and after 999,999 cards
pub long_many : (given : ℕ) (held text : List ℕ) (left : Option (List ℕ)) → given ≡ 999999 → IsTooLong held
    → prepend_known held left ≡ Some text → HasFaultNext given text (read.Deck TooManyCards)
long_many given held text left full front known =
    let rest = left_of held text left known in
    let first = long_first held (rest.0) front in
    (full, λ none. absurd (omega (arith, ap length (sym none ∙ ap lines_of (rest.2) ∙ first.cut))))

-- the last line, which no LF ends: all that is held is it, and nothing is left
pub last_first : (held : List ℕ) (left : Option (List ℕ)) → IsPart held → IsAtEnd left → 0 < length (without_cr held)
    → (rest : List ℕ) → left ≡ Some rest → HasFirstLine held rest
last_first held left part end some rest is =
    let none : rest ≡ [] = subst IsAtEnd is end in
    let all : line_end held ≡ length held = end_of_all held part.unended in
    let front : take (line_end held) held ≡ held = ap (λ k. take k held) all ∙ take-length held in
    let behind : drop (line_end held + 1) held ≡ [] = drop_all (line_end held + 1) held (omega (arith, all)) in
    ap (λ (t : List ℕ). lines_of (held ++ t)) none ∙ ap lines_of (append-nil held)
    ∙ lines_of_last held (without_cr held) [] part.unended refl (grind (arith, nat_tests, some)) refl
    ∙ ap (λ (t : List ℕ). without_cr t ∷ lines_of []) (sym front)
    ∙ ap (λ (t : List ℕ). without_cr (take (line_end held) held) ∷ lines_of t) (sym (ap (λ (t : List ℕ). t ++ rest) behind ∙ none))

-- no line is left where the end is met and nothing but a CR is held
pub none_left : (held text : List ℕ) (left : Option (List ℕ)) → IsPart held → IsAtEnd left → length (without_cr held) ≡ 0
    → prepend_known held left ≡ Some text → lines_of text ≡ []
none_left held text left part end empty known =
    let rest = left_of held text left known in
    let none : rest.0 ≡ [] = subst IsAtEnd (rest.1) end in
    ap lines_of (rest.2) ∙ ap (λ (t : List ℕ). lines_of (held ++ t)) none ∙ ap lines_of (append-nil held)
    ∙ lines_of_none held (without_cr held) part.unended refl (grind (arith, nat_tests, empty))

-- a whole line that is held comes off the front with its LF
pub ended_line : (held text : List ℕ) (left : Option (List ℕ)) → IsLine held (line_end held) → prepend_known held left ≡ Some text
    → TakesEndedLine text (prepend_known (drop (line_end held + 1) held) left)
ended_line held text left at known =
    let end = line_end held in
    let rest = left_of held text left known in
    let behind : drop end held ≡ 10 ∷ drop (end + 1) held =
    drop_more held end 0 (at.within) ∙ ap (λ b. b ∷ drop (end + 1) held) (at.found) in
    let whole : held ≡ take end held ++ 10 ∷ drop (end + 1) held =
    sym (take-append-drop end held) ∙ ap (λ (t : List ℕ). take end held ++ t) behind in
    record {
      line = take end held;
      rest = drop (end + 1) held ++ rest.0;
      parts = rest.2 ∙ ap (λ (t : List ℕ). t ++ rest.0) whole ∙ append_assoc (take end held) (10 ∷ drop (end + 1) held) (rest.0);
      left = ap (prepend_known (drop (end + 1) held)) (rest.1);
    }

-- what is said of a card where bytes were used up
pub of_used : {C D E U : Type 0} (Q : C → Type 0) → (U → (card : C) → Q card) → (taken : Result D E) (found : Option C)
    → OnOk taken U → OnOk taken (IfSome found Q)
of_used Q more (Ok done) None used = tt
of_used Q more (Ok done) (Some card) used = more used card
of_used Q more (Err fault) found used = tt

-- a text that stays is known where it was
pub still_known : (before after : Option (List ℕ)) (text : List ℕ) → Keeps before after → before ≡ Some text → after ≡ Some text
still_known None after text kept known = absurd (false≢true (ap is_some known))
still_known (Some bytes) None text kept known = absurd kept
still_known (Some bytes) (Some same) text kept known = ap Some kept ∙ known

-- what is said of a card that was found
pub of_card : {C : Type 0} (P Q : C → Type 0) → ((card : C) → P card → Q card) → (found : Option C) → IfSome found P → IfSome found Q
of_card P Q more None is = tt
of_card P Q more (Some card) is = more card is

-- a card that is punched from a line has characters
pub characters-found : (found : Option (List ℕ)) (line : List ℕ) → IfSome found (IsCardOf line) → IfSome found HasCharacters
characters-found found line is = of_card (IsCardOf line) HasCharacters (characters-punched line) found is

-- and where no fault was told
pub of_found : {C D E : Type 0} (P Q : C → Type 0) → ((card : C) → P card → Q card) → (taken : Result D E) (found : Option C)
    → OnOk taken (IfSome found P) → OnOk taken (IfSome found Q)
of_found P Q more (Ok done) found is = of_card P Q more found is
of_found P Q more (Err fault) found is = tt

-- the number of cards before it by another word
pub given_as : {come : Option (List ℕ)} (one other : ℕ) (text card : List ℕ) → one ≡ other → GivesCard one text card come
    → GivesCard other text card come
given_as {come} one other text card is = subst (λ n. GivesCard n text card come) is

-- what is held of a part of a line is the line
pub line_of_part : (held line : List ℕ) → IsPart held → (line_end held ≤ 81 → line ≡ take (line_end held) held) → line ≡ held
line_of_part held line part is =
    let all : line_end held ≡ length held = end_of_all held part.unended in
    is (omega (arith, all, part.short)) ∙ ap (λ k. take k held) all ∙ take-length held
