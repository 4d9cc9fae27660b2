-- The bytes of words and lines that are written: words have no space, and lines no LF and no CR.
use Rattle.std.proofs.Common.{◌≡◌, inl, ℕ, ◌*◌, ◌<◌, ◌≤◌, List, [], ◌∷◌, ◌++◌, length, Bool, true, false, ◌==◌, cond, refl, sym, ap, ◌∙◌, arith, append_assoc, length-append}
use Rattle.std.specs.List.{list_all, AllByRecursion, flat_map}
use Rattle.std.specs.Prelude.{nat_lt, map}
use Rattle.std.proofs.lemmas.Bool.{and_parts, ltb-true, lt-ltb, and_from}
use Rattle.std.proofs.lemmas.Bool.Decides.{nat_tests}
use Rattle.std.proofs.lemmas.List.Folds.{list_all-append}
use Rattle.card_code.specs.Lines.{onto, pieces, without_cr, lines_of_pieces, lines_of}
use Rattle.chart_lines.specs.TokensWords.Tokens.{HasTokens, ended, spaced, led, IsToken, IsApart, is_plain}
use Rattle.wire_chart.specs.WrittenText as text

-- a byte of a word: after the space and the apostrophe
abbrev pub is_high : ℕ → Bool
is_high b = nat_lt 39 b

-- a byte of a line: no LF and no CR
abbrev pub is_inner : ℕ → Bool
is_inner b = nat_lt 13 b

-- a word that is written
pub record IsWord (word : List ℕ) : Type 0 where
  pub some : 1 ≤ length word
  pub few : length word ≤ 15
  pub high : list_all is_high word ≡ true

high_plain : (b : ℕ) → is_high b ≡ true → is_plain b ≡ true
high_plain b h =
    let above : 39 < b = ltb-true 39 b h in
    grind (arith, nat_tests)

high_inner : (b : ℕ) → is_high b ≡ true → is_inner b ≡ true
high_inner b h =
    let above : 39 < b = ltb-true 39 b h in
    lt-ltb 13 b (omega arith)

-- a test that follows from another, for all bytes
pub all_weaker : (p q : ℕ → Bool) → ((b : ℕ) → p b ≡ true → q b ≡ true) → (bs : List ℕ) → list_all p bs ≡ true
    → list_all q bs ≡ true
all_weaker p q weaker [] h = refl
all_weaker p q weaker (b ∷ bs) h =
    let parts = and_parts (p b) (list_all p bs) h in
    and_from (q b) (list_all q bs) (weaker b parts.0) (all_weaker p q weaker bs parts.1)

pub word_token : (word : List ℕ) → IsWord word → IsToken word
word_token word is =
    inl (record { some = omega (arith, is.some); plain = all_weaker is_high is_plain high_plain word is.high })

-- words after spaces
abbrev pub words_line : List (List ℕ) → List ℕ
words_line [] = []
words_line (word ∷ words) = 32 ∷ (word ++ words_line words)

words_apart : (words : List (List ℕ)) → IsApart (words_line words)
words_apart [] = tt
words_apart (word ∷ words) = refl

words_tokens : (words : List (List ℕ)) → AllByRecursion IsWord words → HasTokens (words_line words) words
words_tokens [] are = ended
words_tokens (word ∷ words) are =
    spaced (word ++ words_line words) (word ∷ words)
    (led word (words_line words) words (word_token word are.0) (words_apart words) (words_tokens words are.1))

pub append_true : (p : ℕ → Bool) (xs ys : List ℕ) → list_all p xs ≡ true → list_all p ys ≡ true → list_all p (xs ++ ys) ≡ true
append_true p xs ys one other = list_all-append p xs ys ∙ and_from (list_all p xs) (list_all p ys) one other

words_inner : (words : List (List ℕ)) → AllByRecursion IsWord words → list_all is_inner (words_line words) ≡ true
words_inner [] are = refl
words_inner (word ∷ words) are =
    append_true is_inner word (words_line words) (all_weaker is_high is_inner high_inner word are.0.high)
    (words_inner words are.1)

words_length : (words : List (List ℕ)) → AllByRecursion IsWord words → length (words_line words) ≤ 16 * length words
words_length [] are = omega arith
words_length (word ∷ words) are =
    let rest = words_length words are.1 in
    let few : length word ≤ 15 = are.0.few in
    omega (arith, length-append word (words_line words), rest, few)

-- a line as it is written: its tokens, its bytes and its length
pub record IsWrittenLine (line : List ℕ) (tokens : List (List ℕ)) : Type 0 where
  pub divided : HasTokens line tokens
  pub inner : list_all is_inner line ≡ true
  pub short : length line ≤ 60

pub line_of_words : (word : List ℕ) (words : List (List ℕ)) → IsWord word → length word ≤ 9
    → AllByRecursion IsWord words → length words ≤ 3 → IsWrittenLine (word ++ words_line words) (word ∷ words)
line_of_words word words is few are three = record {
  divided = led word (words_line words) words (word_token word is) (words_apart words) (words_tokens words are);
  inner = append_true is_inner word (words_line words) (all_weaker is_high is_inner high_inner word is.high)
      (words_inner words are);
  short = omega (arith, length-append word (words_line words), words_length words are, few, three);
}

-- a line without LF and CR, its LF, and what stands after
some_pieces : (bs : List ℕ) → (piece : List ℕ) × (others : List (List ℕ)) × (pieces bs ≡ piece ∷ others)
some_pieces [] = ([], [], refl)
some_pieces (b ∷ bs) = first_piece b (pieces bs) (b == 10)
  where
    first_piece : (b : ℕ) (ps : List (List ℕ)) (t : Bool)
        → (piece : List ℕ) × (others : List (List ℕ)) × (cond t ([] ∷ ps) (onto b ps) ≡ piece ∷ others)
    first_piece b ps true = ([], ps, refl)
    first_piece b [] false = (b ∷ [], [], refl)
    first_piece b (p ∷ ps) false = (b ∷ p, ps, refl)

not_line_feed : (b : ℕ) → is_inner b ≡ true → (b == 10) ≡ false
not_line_feed b h =
    let above : 13 < b = ltb-true 13 b h in
    grind (arith, nat_tests)

not_cr : (b : ℕ) → is_inner b ≡ true → (b == 13) ≡ false
not_cr b h =
    let above : 13 < b = ltb-true 13 b h in
    grind (arith, nat_tests)

pieces_of_line : (line after : List ℕ) → list_all is_inner line ≡ true → pieces (line ++ 10 ∷ after)
    ≡ line ∷ pieces after
pieces_of_line [] after h = refl
pieces_of_line (b ∷ bs) after h =
    let parts = and_parts (is_inner b) (list_all is_inner bs) h in
    ap (λ (t : Bool). cond t ([] ∷ pieces (bs ++ 10 ∷ after)) (onto b (pieces (bs ++ 10 ∷ after))))
    (not_line_feed b parts.0)
    ∙ ap (onto b) (pieces_of_line bs after parts.1)

no_cr : (line : List ℕ) → list_all is_inner line ≡ true → without_cr line ≡ line
no_cr [] h = refl
no_cr (b ∷ []) h =
    let parts = and_parts (is_inner b) true h in
    ap (λ (t : Bool). cond t [] (b ∷ [])) (not_cr b parts.0)
no_cr (b ∷ c ∷ bs) h =
    let parts = and_parts (is_inner b) (list_all is_inner (c ∷ bs)) h in
    ap (λ (l : List ℕ). b ∷ l) (no_cr (c ∷ bs) parts.1)

pub first_line : (line after : List ℕ) → list_all is_inner line ≡ true → lines_of (line ++ 10 ∷ after)
    ≡ line ∷ lines_of after
unfolding lines_of
first_line line after h =
    let next = some_pieces after in
    ap lines_of_pieces (pieces_of_line line after h)
    ∙ ap (λ (ps : List (List ℕ)). lines_of_pieces (line ∷ ps)) next.2
    ∙ ap (λ (l : List ℕ). l ∷ lines_of_pieces (next.0 ∷ next.1)) (no_cr line h)
    ∙ ap (λ (ps : List (List ℕ)). line ∷ lines_of_pieces ps) (sym next.2)

pub no_lines : lines_of [] ≡ []
unfolding lines_of
no_lines = refl

pub ended_line : (line after : List ℕ) → list_all is_inner line ≡ true → lines_of (text.ended line ++ after)
    ≡ line ∷ lines_of after
ended_line line after h =
    ap lines_of (append_assoc line (10 ∷ []) after) ∙ first_line line after h

-- the lines of things one after another
pub ended_lines : {A : Type 0} (line_of : A → List ℕ) (things : List A) (after : List ℕ)
    → AllByRecursion (λ thing. list_all is_inner (line_of thing) ≡ true) things
    → lines_of (flat_map (λ thing. text.ended (line_of thing)) things ++ after) ≡ map line_of things ++ lines_of after
ended_lines line_of [] after are = refl
ended_lines {A} line_of (thing ∷ things) after are =
    let ends : A → List ℕ = λ a. text.ended (line_of a) in
    ap lines_of (append_assoc (text.ended (line_of thing)) (flat_map ends things) after)
    ∙ ended_line (line_of thing) (flat_map ends things ++ after) are.0
    ∙ ap (λ (ls : List (List ℕ)). line_of thing ∷ ls) (ended_lines line_of things after are.1)
