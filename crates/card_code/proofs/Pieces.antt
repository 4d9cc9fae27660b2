-- How a text falls into pieces and lines.
use Rattle.std.proofs.Common.{◌≡◌, ◌≢◌, ℕ, ◌+◌, ◌<◌, suc, zero, List, [], ◌∷◌, ◌++◌, length, take, drop, get_or, refl, ap, arith, Bool, cond, true, false, ◌==◌, ◌∙◌, sym}
use Rattle.std.proofs.lemmas.Grind.{common_steps}
use Rattle.std.proofs.lemmas.Bool.Decides.{nat_tests}
use Rattle.card_code.specs.Lines.{onto, pieces, without_cr, last_line, lines_of_pieces, lines_of}

-- a first byte that is no LF stands before the first piece
pieces-cons : (b : ℕ) (bs : List ℕ) → b ≢ 10 → pieces (b ∷ bs) ≡ onto b (pieces bs)
pieces-cons b bs other =
    let e : (b == 10) ≡ false = grind (arith, nat_tests) in
    ap (λ t. cond t ([] ∷ pieces bs) (onto b (pieces bs))) e

-- a first LF ends an empty piece
pieces-line_feed : (b : ℕ) (bs : List ℕ) → b ≡ 10 → pieces (b ∷ bs) ≡ [] ∷ pieces bs
pieces-line_feed b bs same =
    let e : (b == 10) ≡ true = grind (arith, nat_tests) in
    ap (λ t. cond t ([] ∷ pieces bs) (onto b (pieces bs))) e

-- up to the first LF stands the first piece
pub pieces_at_first : (text : List ℕ) (end : ℕ) → end < length text → get_or text end 0 ≡ 10 →
    ((k : ℕ) → k < end → get_or text k 0 ≢ 10) → pieces text ≡ take end text ∷ pieces (drop (end + 1) text)
pieces_at_first [] end within found before = grind (arith, common_steps)
pieces_at_first (b ∷ bs) zero within found before = pieces-line_feed b bs found
pieces_at_first (b ∷ bs) (suc end) within found before =
    let others : (k : ℕ) → k < end → get_or bs k 0 ≢ 10 = λ k h. before (suc k) (omega arith) in
    let first : b ≢ 10 = before 0 (omega arith) in
    let more : suc (end + 1) ≡ suc end + 1 = omega arith in
    pieces-cons b bs first ∙ ap (onto b) (pieces_at_first bs end (omega arith) found others)
    ∙ ap (λ k. (b ∷ take end bs) ∷ pieces (drop k (b ∷ bs))) more

-- a text without LF is one piece
pub pieces_of_one : (text : List ℕ) → ((k : ℕ) → k < length text → get_or text k 0 ≢ 10) →
    pieces text ≡ text ∷ []
pieces_of_one [] none = refl
pieces_of_one (b ∷ bs) none =
    let others : (k : ℕ) → k < length bs → get_or bs k 0 ≢ 10 = λ k h. none (suc k) (omega arith) in
    let first : b ≢ 10 = none 0 (omega arith) in
    pieces-cons b bs first ∙ ap (onto b) (pieces_of_one bs others)

-- a piece before others is a line
lines_of_pieces-onto : (piece : List ℕ) (b : ℕ) (ps : List (List ℕ)) →
    lines_of_pieces (piece ∷ onto b ps) ≡ without_cr piece ∷ lines_of_pieces (onto b ps)
lines_of_pieces-onto piece b [] = refl
lines_of_pieces-onto piece b (p ∷ ps) = refl

-- a piece before the pieces of a text is a line
lines_of_pieces-cons : (piece text : List ℕ) →
    lines_of_pieces (piece ∷ pieces text) ≡ without_cr piece ∷ lines_of_pieces (pieces text)
lines_of_pieces-cons piece [] = refl
lines_of_pieces-cons piece (b ∷ bs) =
    let of = λ (t : Bool). cond t ([] ∷ pieces bs) (onto b (pieces bs)) in
    elim (b == 10) as (λ t. lines_of_pieces (piece ∷ of t) ≡ without_cr piece ∷ lines_of_pieces (of t))
    [ true ↦ refl | false ↦ lines_of_pieces-onto piece b (pieces bs) ]

-- a CR at the end of a piece is dropped
without_cr-cr : (bs : List ℕ) → without_cr (bs ++ 13 ∷ []) ≡ bs
without_cr-cr [] = refl
without_cr-cr (b ∷ []) = refl
without_cr-cr (b ∷ c ∷ bs) = ap (λ s. b ∷ s) (without_cr-cr (c ∷ bs))

-- any other byte at the end of a piece stays
without_cr-other : (bs : List ℕ) (b : ℕ) → b ≢ 13 → without_cr (bs ++ b ∷ []) ≡ bs ++ b ∷ []
without_cr-other [] b other =
    let e : (b == 13) ≡ false = grind (arith, nat_tests) in
    ap (λ t. cond t [] (b ∷ [])) e
without_cr-other (a ∷ []) b other = ap (λ s. a ∷ s) (without_cr-other [] b other)
without_cr-other (a ∷ c ∷ bs) b other = ap (λ s. a ∷ s) (without_cr-other (c ∷ bs) b other)

-- the piece before a CR is what is left of it
pub without_cr-drops : (piece line : List ℕ) (last : ℕ) → piece ≡ line ++ last ∷ [] → last ≡ 13 →
    line ≡ without_cr piece
without_cr-drops piece line last e same =
    sym (ap without_cr e ∙ ap (λ b. without_cr (line ++ b ∷ [])) same ∙ without_cr-cr line)

-- a piece without a CR at its end stays whole
pub without_cr-keeps : (piece line : List ℕ) (last : ℕ) → piece ≡ line ++ last ∷ [] → last ≢ 13 →
    piece ≡ without_cr piece
without_cr-keeps piece line last e other = e ∙ sym (ap without_cr e ∙ without_cr-other line last other)

-- the first line of a text with an LF, and the lines after it
pub lines_at_first : (text line rest : List ℕ) (end : ℕ) → end < length text → get_or text end 0 ≡ 10 →
    ((k : ℕ) → k < end → get_or text k 0 ≢ 10) → line ≡ without_cr (take end text) →
    rest ≡ drop (end + 1) text → lines_of text ≡ line ∷ lines_of rest
unfolding lines_of
lines_at_first text line rest end within found before line-is rest-is =
    rw (line-is, rest-is)
    (ap lines_of_pieces (pieces_at_first text end within found before)
    ∙ lines_of_pieces-cons (take end text) (drop (end + 1) text))

-- a text without LF has a line where something is left of it
lines_of_one : (text line : List ℕ) → ((k : ℕ) → k < length text → get_or text k 0 ≢ 10) →
    line ≡ without_cr text → lines_of text ≡ last_line line
unfolding lines_of
lines_of_one text line none line-is = ap lines_of_pieces (pieces_of_one text none) ∙ ap last_line (sym line-is)

-- nothing is left of a last piece
pub lines_of_none : (text line : List ℕ) → ((k : ℕ) → k < length text → get_or text k 0 ≢ 10) →
    line ≡ without_cr text → true ≡ (length line == 0) → lines_of text ≡ []
lines_of_none text [] none line-is empty = lines_of_one text [] none line-is
lines_of_none text (b ∷ bs) none line-is empty = grind (arith, nat_tests)

-- something is left of a last piece
pub lines_of_last : (text line rest : List ℕ) → ((k : ℕ) → k < length text → get_or text k 0 ≢ 10) →
    line ≡ without_cr text → false ≡ (length line == 0) → rest ≡ [] → lines_of text ≡ line ∷ lines_of rest
unfolding lines_of
lines_of_last text [] rest none line-is some rest-is = grind (arith, nat_tests)
lines_of_last text (b ∷ bs) rest none line-is some rest-is = rw rest-is (lines_of_one text (b ∷ bs) none line-is)
