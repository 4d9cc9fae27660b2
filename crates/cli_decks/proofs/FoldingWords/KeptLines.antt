-- The lines of a folded text are the lines, folded.
use Rattle.std.proofs.Common.{◌≡◌, ◌≢◌, ℕ, ◌+◌, ◌<◌, suc, zero, List, [], ◌∷◌, ◌++◌, length, take, drop, get_or, map, refl, ap, arith, sym, ◌∙◌, cond, false, ◌==◌, None, is_some}
use Rattle.std.specs.Prelude.{IsSome}
use Rattle.std.proofs.lemmas.Bool.{false≢true}
use Rattle.std.proofs.lemmas.Bool.Decides.{nat_tests}
use Rattle.card_code.proofs.Pieces.{lines_at_first}
use Rattle.card_code.specs.CardCode.{code, rows_of}
use Rattle.card_code.specs.Lines.{lines_of, without_cr}
use Rattle.cli_decks.specs.FoldingWords.Punchable.{ArePunchable}
use Rattle.cli_decks.proofs.FoldingWords.Punched.{folded_is_punchable}
use Rattle.cli_decks.specs.FoldingWords.Folded.{folded_line, folded_text}

no_line_feed : rows_of 10 ≡ None
unfolding rows_of code
no_line_feed = refl

no_carriage_return : rows_of 13 ≡ None
unfolding rows_of code
no_carriage_return = refl

other_than : (odd byte : ℕ) → rows_of odd ≡ None → IsSome (rows_of byte) → byte ≢ odd
other_than odd byte none some is = false≢true (sym (ap (λ rows. is_some rows) (ap rows_of is ∙ none)) ∙ some)

at_end : (bytes rest : List ℕ) (byte : ℕ) → get_or (bytes ++ byte ∷ rest) (length bytes) 0 ≡ byte
at_end [] rest byte = refl
at_end (b ∷ bytes) rest byte = at_end bytes rest byte

before_end : (bytes rest : List ℕ) (k : ℕ) → k < length bytes → get_or (bytes ++ rest) k 0 ≡ get_or bytes k 0
before_end [] rest k within = absurd (omega (arith, within))
before_end (b ∷ bytes) rest zero within = refl
before_end (b ∷ bytes) rest (suc k) within = before_end bytes rest k (omega (arith, within))

taken : (bytes rest : List ℕ) → take (length bytes) (bytes ++ rest) ≡ bytes
taken [] rest = refl
taken (b ∷ bytes) rest = ap (λ bs. b ∷ bs) (taken bytes rest)

left : (bytes rest : List ℕ) (byte : ℕ) → drop (suc (length bytes)) (bytes ++ byte ∷ rest) ≡ rest
left [] rest byte = refl
left (b ∷ bytes) rest byte = left bytes rest byte

one_more : (n : ℕ) → n + 1 ≡ suc n
one_more n = omega arith

within : (bytes rest : List ℕ) (byte : ℕ) → length bytes < length (bytes ++ byte ∷ rest)
within [] rest byte = omega arith
within (b ∷ bytes) rest byte = omega (arith, within bytes rest byte)

kept_whole : (line : List ℕ) → ((k : ℕ) → k < length line → get_or line k 0 ≢ 13) → without_cr line ≡ line
kept_whole [] others = refl
kept_whole (byte ∷ []) others =
    let apart : byte ≢ 13 = others 0 (omega arith) in
    let no : (byte == 13) ≡ false = grind (arith, nat_tests) in
    ap (λ t. cond t [] (byte ∷ [])) no
kept_whole (byte ∷ next ∷ bytes) others =
    ap (λ bs. byte ∷ bs) (kept_whole (next ∷ bytes) (λ k inside. others (suc k) (omega (arith, inside))))

first_line : (line rest : List ℕ) → ArePunchable line → lines_of (line ++ 10 ∷ rest) ≡ line ∷ lines_of rest
first_line line rest all =
    lines_at_first (line ++ 10 ∷ rest) line rest (length line) (within line rest 10) (at_end line rest 10)
    (λ k inside is. other_than 10 (get_or line k 0) no_line_feed (all k inside) (sym (before_end line (10 ∷ rest) k inside) ∙ is))
    (sym (kept_whole line (λ k inside. other_than 13 (get_or line k 0) no_carriage_return (all k inside)))
    ∙ ap without_cr (sym (taken line (10 ∷ rest))))
    (sym (ap (λ n. drop n (line ++ 10 ∷ rest)) (one_more (length line)) ∙ left line rest 10))

-- no line is lost
pub lines_are_kept : (fill : ℕ) (lines : List (List ℕ)) → IsSome (rows_of fill) → lines_of (folded_text fill lines) ≡ map (folded_line fill) lines
unfolding lines_of
lines_are_kept fill [] filled = refl
lines_are_kept fill (line ∷ lines) filled =
    first_line (folded_line fill line) (folded_text fill lines) (folded_is_punchable fill 0 line filled)
    ∙ ap (λ others. folded_line fill line ∷ others) (lines_are_kept fill lines filled)
