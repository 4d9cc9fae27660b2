-- The lines of decks in a row.
use Rattle.std.proofs.Common.{◌≡◌, ◌∙◌, ℕ, ap, sym, refl, Bool, cond, true, false, ◌==◌, List, [], ◌∷◌, ◌++◌, arith, length}
use Rattle.std.proofs.lemmas.Bool.{eqb-true}
use Rattle.card_code.specs.Lines.{lines_of, lines_of_pieces, onto, pieces, without_cr}
use Rattle.report_streams.specs.DecksInRow.InRow.{ended, in_row}
use Rattle.report_streams.specs.DecksInRow.Laws.{lines_of_all}
use Rattle.report_streams.specs.declared.decks_in_row.stand.Stand.TheVariants.{HeldCr, InLine, LineStart}

-- pieces, of which there is at least one
record HasFirst (all : List (List ℕ)) : Type 0 where
  first : List ℕ
  others : List (List ℕ)
  are : all ≡ first ∷ others

of_onto : (byte : ℕ) (all : List (List ℕ)) → HasFirst (onto byte all)
of_onto byte [] = record { first = byte ∷ []; others = []; are = refl }
of_onto byte (piece ∷ others) = record { first = byte ∷ piece; others = others; are = refl }

of_pieces : (text : List ℕ) → HasFirst (pieces text)
of_pieces [] = record { first = []; others = []; are = refl }
of_pieces (byte ∷ bytes) =
    elim (byte == 10) as (λ t. HasFirst (cond t ([] ∷ pieces bytes) (onto byte (pieces bytes))))
    [ true ↦ record { first = []; others = pieces bytes; are = refl } | false ↦ of_onto byte (pieces bytes) ]

-- bytes put before the first piece
abbrev before : List ℕ → List (List ℕ) → List (List ℕ)
before [] all = all
before (byte ∷ bytes) all = onto byte (before bytes all)

before_none : (bytes : List ℕ) (others : List (List ℕ)) → before bytes ([] ∷ others) ≡ bytes ∷ others
before_none [] others = refl
before_none (byte ∷ bytes) others = ap (onto byte) (before_none bytes others)

before_more : (bytes : List ℕ) (byte : ℕ) (all : List (List ℕ)) → before (bytes ++ byte ∷ []) all ≡ before bytes (onto byte all)
before_more [] byte all = refl
before_more (first ∷ bytes) byte all = ap (onto first) (before_more bytes byte all)

one_line : (piece : List ℕ) (all : List (List ℕ)) → HasFirst all → lines_of_pieces (piece ∷ all) ≡ without_cr piece ∷ lines_of_pieces all
one_line piece [] some = absurd (omega (arith, ap length some.are))
one_line piece (next ∷ others) some = refl

-- bytes of which something is left as a line
record IsLine (bytes : List ℕ) : Type 0 where
  first : ℕ
  others : List ℕ
  are : without_cr bytes ≡ first ∷ others

last_alone : (bytes : List ℕ) → IsLine bytes → lines_of_pieces (bytes ∷ []) ≡ without_cr bytes ∷ []
last_alone bytes line = rw line.are refl

longer : (bytes : List ℕ) (byte : ℕ) → IsLine bytes → IsLine (bytes ++ byte ∷ [])
longer [] byte line = absurd (omega (arith, ap length line.are))
longer (first ∷ []) byte line = record { first = first; others = without_cr (byte ∷ []); are = refl }
longer (first ∷ second ∷ bytes) byte line = record { first = first; others = without_cr ((second ∷ bytes) ++ byte ∷ []); are = refl }

-- the lines of a deck stand before those of what follows it, wherever in a line the deck stands
record StandBefore (bytes behind : List ℕ) : Type 0 where
  at_start : lines_of_pieces (pieces (ended LineStart bytes ++ behind)) ≡ lines_of_pieces (pieces bytes) ++ lines_of_pieces (pieces behind)
  at_cr : lines_of_pieces (pieces (ended HeldCr bytes ++ behind)) ≡ lines_of_pieces (onto 13 (pieces bytes)) ++ lines_of_pieces (pieces behind)
  within : (given : List ℕ) → IsLine given → lines_of_pieces (before given (pieces (ended InLine bytes ++ behind)))
      ≡ lines_of_pieces (before given (pieces bytes)) ++ lines_of_pieces (pieces behind)

at_start_of : (byte : ℕ) (bytes behind : List ℕ) (is_end is_cr : Bool) → (byte == 10) ≡ is_end → (byte == 13) ≡ is_cr → StandBefore bytes behind
    → lines_of_pieces (pieces (ended LineStart (byte ∷ bytes) ++ behind)) ≡ lines_of_pieces (pieces (byte ∷ bytes)) ++ lines_of_pieces (pieces behind)
at_start_of byte bytes behind true true end cr below = absurd (omega (arith, eqb-true byte 10 end, eqb-true byte 13 cr))
at_start_of byte bytes behind true false end cr below = rw (cr, end)
    (one_line [] _ (of_pieces (ended LineStart bytes ++ behind)) ∙ ap (λ lines. [] ∷ lines) below.at_start
    ∙ ap (λ lines. lines ++ lines_of_pieces (pieces behind)) (sym (one_line [] (pieces bytes) (of_pieces bytes))))
at_start_of byte bytes behind false true end cr below = rw (cr, end)
    (below.at_cr ∙ ap (λ first. lines_of_pieces (onto first (pieces bytes)) ++ lines_of_pieces (pieces behind)) (sym (eqb-true byte 13 cr)))
at_start_of byte bytes behind false false end cr below = rw (cr, end)
    (below.within (byte ∷ []) (record { first = byte; others = []; are = rw cr refl }))

at_cr_of : (byte : ℕ) (bytes behind : List ℕ) (is_end : Bool) → (byte == 10) ≡ is_end → StandBefore bytes behind
    → lines_of_pieces (pieces (ended HeldCr (byte ∷ bytes) ++ behind)) ≡ lines_of_pieces (onto 13 (pieces (byte ∷ bytes))) ++ lines_of_pieces (pieces behind)
at_cr_of byte bytes behind true end below = rw end
    (one_line (13 ∷ []) _ (of_pieces (ended LineStart bytes ++ behind)) ∙ ap (λ lines. [] ∷ lines) below.at_start
    ∙ ap (λ lines. lines ++ lines_of_pieces (pieces behind)) (sym (one_line (13 ∷ []) (pieces bytes) (of_pieces bytes))))
at_cr_of byte bytes behind false end below = rw end
    (below.within (13 ∷ byte ∷ []) (record { first = 13; others = without_cr (byte ∷ []); are = refl }))

within_of : (byte : ℕ) (bytes behind : List ℕ) (is_end : Bool) → (byte == 10) ≡ is_end → StandBefore bytes behind
    → (given : List ℕ) → IsLine given → lines_of_pieces (before given (pieces (ended InLine (byte ∷ bytes) ++ behind)))
    ≡ lines_of_pieces (before given (pieces (byte ∷ bytes))) ++ lines_of_pieces (pieces behind)
within_of byte bytes behind true end below given line = rw end
    (ap lines_of_pieces (before_none given (pieces (ended LineStart bytes ++ behind)))
    ∙ one_line given _ (of_pieces (ended LineStart bytes ++ behind)) ∙ ap (λ lines. without_cr given ∷ lines) below.at_start
    ∙ ap (λ lines. lines ++ lines_of_pieces (pieces behind))
    (sym (ap lines_of_pieces (before_none given (pieces bytes)) ∙ one_line given (pieces bytes) (of_pieces bytes))))
within_of byte bytes behind false end below given line = rw end
    (ap lines_of_pieces (sym (before_more given byte (pieces (ended InLine bytes ++ behind))))
    ∙ below.within (given ++ byte ∷ []) (longer given byte line)
    ∙ ap (λ all. lines_of_pieces all ++ lines_of_pieces (pieces behind)) (before_more given byte (pieces bytes)))

stand_before : (bytes behind : List ℕ) → StandBefore bytes behind
stand_before [] behind = record {
  at_start = refl;
  at_cr = refl;
  within = λ given line.
      ap lines_of_pieces (before_none given (pieces behind)) ∙ one_line given (pieces behind) (of_pieces behind)
      ∙ ap (λ lines. lines ++ lines_of_pieces (pieces behind)) (sym (ap lines_of_pieces (before_none given []) ∙ last_alone given line));
}
stand_before (byte ∷ bytes) behind = record {
  at_start = at_start_of byte bytes behind (byte == 10) (byte == 13) refl refl (stand_before bytes behind);
  at_cr = at_cr_of byte bytes behind (byte == 10) refl (stand_before bytes behind);
  within = within_of byte bytes behind (byte == 10) refl (stand_before bytes behind);
}

pub lines_in_row : (decks : List (List ℕ)) → lines_of (in_row decks) ≡ lines_of_all decks
unfolding lines_of
lines_in_row [] = refl
lines_in_row (deck ∷ decks) = (stand_before deck (in_row decks)).at_start ∙ ap (λ lines. lines_of deck ++ lines) (lines_in_row decks)
