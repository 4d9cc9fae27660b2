-- The span of a token is that token.
use Rattle.std.proofs.Common.{◌≡◌, ℕ, suc, zero, ◌+◌, ◌-◌, ◌<◌, ◌≤◌, Bool, true, false, cond, eqb, List, [], ◌∷◌, ◌++◌, length, take, drop, get_or, Some, None, unwrap_or, Option, option_map, slice_get, min, length-drop, ◌⊎◌, inl, inr, refl, sym, ap, ◌∙◌, arith}
use Rattle.std.specs.List.{prefix_len}
use Rattle.std.proofs.lemmas.Bool.{cases_lt, eqb-true, eqb-false}
use Rattle.std.proofs.Math.Arith.{lt_of_le-ne}
use Rattle.std.proofs.Math.Nat.{min-eq_left}
use Rattle.std.proofs.lemmas.List.{drop-drop}
use Rattle.std.proofs.Math.ListN.{drop_of_length-le}
use Rattle.std.proofs.lemmas.Option.{none-some}
use Rattle.chart_lines.specs.TokensWords.Tokens.{is_plain, is_inside}
use Rattle.chart_lines.specs.TokensWords.Dividing.{tokens_of, tokens_from, before, is_space, is_apart}
use Rattle.chart_lines.proofs.TokensWords.Dividing.{tokens_of-spaces, tokens_of-cut_plain, tokens_of-cut_literal, tokens_of-open, no_space_after}
use Rattle.chart_lines.proofs.TokensWords.TokenGrammar.{mapped, read_what_it_has}
use Rattle.fault_slips.specs.LineMarks.Spans.{token_length, first_end, token_start, span_at, span_of, spanned, word, IsTokenSpan, StandsUnderAToken}

-- a part of a line behind a part
drop_behind : (here more : ℕ) (line : List ℕ) → drop more (drop here line) ≡ drop (here + more) line
drop_behind here more line = drop-drop more here line

-- what is read of a line that is cut behind a token
read_cut : (token after : List ℕ) (apart : Bool) (tokens : List (List ℕ))
    → cond apart (option_map (before token) (tokens_of after)) None ≡ Some tokens
    → (others : List (List ℕ)) × (tokens ≡ token ∷ others) × (tokens_of after ≡ Some others)
read_cut token after true tokens read =
    let (others, is, same) = mapped (before token) (tokens_of after) tokens read in
    (others, sym same, is)
read_cut token after false tokens read = absurd (none-some tokens read)

-- a line begins with a token of so many bytes, and these are its tokens
abbrev BeginsWith : List ℕ → List (List ℕ) → ℕ → Type 0
BeginsWith line tokens n = (others : List (List ℕ)) × (tokens ≡ take n line ∷ others) × (tokens_of (drop n line) ≡ Some others)

-- a line that begins with no space begins with a token
begins : (b : ℕ) (bs : List ℕ) (tokens : List (List ℕ)) → (b ≡ 32 → ⊥) → tokens_of (b ∷ bs) ≡ Some tokens
    → BeginsWith (b ∷ bs) tokens (token_length (b ∷ bs))
begins b bs tokens no_space read = by (eqb b 39) refl
  where
    inside : ℕ
    inside = prefix_len is_inside bs

    plain : ℕ
    plain = prefix_len is_plain (b ∷ bs)

    literal : eqb b 39 ≡ true → ((1 + length bs < inside + 2) ⊎ (inside + 2 ≤ 1 + length bs))
        → BeginsWith (b ∷ bs) tokens (min (inside + 2) (1 + length bs))
    literal is (inl unclosed) =
        absurd (none-some tokens (sym (tokens_of-open (b ∷ bs) inside (omega arith) (eqb-true b 39 is) refl (omega (arith, unclosed))) ∙ read))
    literal is (inr room) =
        rw (min-eq_left room)
        (read_cut (take (inside + 2) (b ∷ bs)) (drop (inside + 2) (b ∷ bs)) (is_apart (drop (inside + 2) (b ∷ bs))) tokens
        (sym (tokens_of-cut_literal (b ∷ bs) (take (inside + 2) (b ∷ bs)) (drop (inside + 2) (b ∷ bs)) inside (is_apart (drop (inside + 2) (b ∷ bs)))
        (omega arith) (eqb-true b 39 is) refl (omega (arith, room)) refl refl refl)
        ∙ read))

    by : (t : Bool) → eqb b 39 ≡ t → BeginsWith (b ∷ bs) tokens (cond t (min (inside + 2) (1 + length bs)) plain)
    by true is = literal is (cases_lt (1 + length bs) (inside + 2))
    by false is =
        read_cut (take plain (b ∷ bs)) (drop plain (b ∷ bs)) (is_apart (drop plain (b ∷ bs))) tokens
        (sym (tokens_of-cut_plain (b ∷ bs) (take plain (b ∷ bs)) (drop plain (b ∷ bs)) plain (is_apart (drop plain (b ∷ bs)))
        (omega arith) no_space (eqb-false b 39 is) refl refl refl refl)
        ∙ read)

-- the spaces that a line begins with, and what stands after them
abbrev spaces : List ℕ → ℕ
spaces line = prefix_len is_space line

abbrev rest : List ℕ → List ℕ
rest line = drop (spaces line) line

-- the first token of a line that has something after its spaces
begins_after : (line : List ℕ) (tokens : List (List ℕ)) → tokens_of line ≡ Some tokens → spaces line < length line
    → BeginsWith (rest line) tokens (token_length (rest line))
begins_after line tokens read some = by (rest line) refl
  where
    by : (left : List ℕ) → left ≡ rest line → BeginsWith left tokens (token_length left)
    by [] is = absurd (omega (arith, some, ap (λ (l : List ℕ). length l) is, length-drop (spaces line) line))
    by (b ∷ bs) is =
        begins b bs tokens
        (λ space. no_space_after line (b ∷ bs) (spaces line) refl is (omega arith) space)
        (ap tokens_of is ∙ tokens_of-spaces line ∙ read)

-- a token stands at a place of a line
abbrev TokenAt : List (List ℕ) → List ℕ → ℕ → Type 0
TokenAt tokens line start = (place : ℕ) × (slice_get tokens place ≡ Some (take (token_length (drop start line)) (drop start line)))

-- a place of the line behind the first token is one of the line
behind_first : (line : List ℕ) (tokens others : List (List ℕ)) (end start : ℕ) → tokens ≡ take (token_length (rest line)) (rest line) ∷ others
    → TokenAt others (drop end line) start → TokenAt tokens line (end + start)
behind_first line tokens others end start is (place, at) = (
  suc place,
  ap (λ (ts : List (List ℕ)). slice_get ts (suc place)) is ∙ at
      ∙ ap (λ (l : List ℕ). Some (take (token_length l) l)) (drop_behind end start line),
)

-- where a token begins before the end of the line, it is one
token_at : (index : ℕ) (line : List ℕ) (tokens : List (List ℕ)) → tokens_of line ≡ Some tokens → token_start index line < length line
    → TokenAt tokens line (token_start index line)
unfolding token_start
token_at zero line tokens read some =
    let (others, is, left) = begins_after line tokens read some in
    (0, ap (λ (ts : List (List ℕ)). slice_get ts 0) is)
token_at (suc index) line tokens read some =
    by (λ others left. token_at index (drop (first_end line) line) others left (omega (arith, some, length-drop (first_end line) line)))
    (cases_lt (spaces line) (length line))
  where
    by : ((others : List (List ℕ)) → tokens_of (drop (first_end line) line) ≡ Some others
        → TokenAt others (drop (first_end line) line) (token_start index (drop (first_end line) line)))
        → ((spaces line < length line) ⊎ (length line ≤ spaces line))
        → TokenAt tokens line (first_end line + token_start index (drop (first_end line) line))
    by later (inl there) =
        let (others, is, left) = begins_after line tokens read there in
        behind_first line tokens others (first_end line) (token_start index (drop (first_end line) line)) is
        (later others (ap tokens_of (sym (drop_behind (spaces line) (token_length (rest line)) line)) ∙ left))
    by later (inr none) = absurd (omega (arith, some, none))

-- nothing has no token
nothing : (tokens : List (List ℕ)) → 0 < length tokens → Some tokens ≡ tokens_of [] → ⊥
unfolding tokens_from
nothing tokens some e = let same : tokens ≡ [] = cc in omega (arith, some, ap (λ (ts : List (List ℕ)). length ts) same)

-- a line with a token has something after its spaces
some_after : (line : List ℕ) (tokens : List (List ℕ)) → tokens_of line ≡ Some tokens → 0 < length tokens → spaces line < length line
some_after line tokens read some = by (cases_lt (spaces line) (length line))
  where
    by : ((spaces line < length line) ⊎ (length line ≤ spaces line)) → spaces line < length line
    by (inl there) = there
    by (inr none) = absurd (nothing tokens some (sym (tokens_of-spaces line ∙ read) ∙ ap tokens_of (drop_of_length-le line none)))

-- a span is that of a token
is_span : (tokens : List (List ℕ)) (line : List ℕ) (start : ℕ) → TokenAt tokens line start → IsTokenSpan tokens line (span_at line start)
is_span tokens line start (place, at) = record {
  place = place;
  is_there = at ∙ ap (λ n. Some (take n (drop start line))) (omega arith);
}

-- the span that is answered is that of a token
pub under_a_token : (index : ℕ) (line : List ℕ) → token_start index line ≤ length line → StandsUnderAToken line (span_of index line)
unfolding token_start
under_a_token index line within tokens has some = by (eqb (token_start index line) (length line)) refl
  where
    read : tokens_of line ≡ Some tokens
    read = read_what_it_has has

    by : (none : Bool) → eqb (token_start index line) (length line) ≡ none
        → IsTokenSpan tokens line (span_at line (cond none (token_start 0 line) (token_start index line)))
    by true is = is_span tokens line (token_start 0 line) (token_at 0 line tokens read (some_after line tokens read some))
    by false is =
        is_span tokens line (token_start index line)
        (token_at index line tokens read (lt_of_le-ne within (eqb-false (token_start index line) (length line) is)))

-- the bytes of a span are so many of the line from its start on
spanned_is : (line : List ℕ) (start : ℕ) → spanned line (span_at line start) ≡ take (token_length (drop start line)) (drop start line)
spanned_is line start = ap (λ n. take n (drop start line)) (omega arith)

-- in a line of tokens a word is the token of its place, or an empty one
pub word_at : (index : ℕ) (line : List ℕ) (tokens : List (List ℕ)) → tokens_of line ≡ Some tokens → word index line ≡ get_or tokens index []
unfolding token_start tokens_from
word_at zero line tokens read = by (cases_lt (spaces line) (length line))
  where
    by : ((spaces line < length line) ⊎ (length line ≤ spaces line)) → word 0 line ≡ get_or tokens 0 []
    by (inl there) =
        let (others, is, left) = begins_after line tokens read there in
        spanned_is line (spaces line) ∙ sym (ap (λ (ts : List (List ℕ)). get_or ts 0 []) is)
    by (inr none) =
        let empty : rest line ≡ [] = drop_of_length-le line none in
        let no_tokens : Some [] ≡ Some tokens = ap tokens_of (sym empty) ∙ tokens_of-spaces line ∙ read in
        spanned_is line (spaces line) ∙ ap (λ (l : List ℕ). take (token_length l) l) empty
        ∙ ap (λ (ts : Option (List (List ℕ))). get_or (unwrap_or ts []) 0 []) no_tokens
word_at (suc index) line tokens read = by (λ others left. word_at index (drop (first_end line) line) others left) (cases_lt (spaces line) (length line))
  where
    later : (others : List (List ℕ)) → word index (drop (first_end line) line) ≡ get_or others index []
        → word (suc index) line ≡ get_or others index []
    later others same =
        spanned_is line (first_end line + token_start index (drop (first_end line) line))
        ∙ ap (λ (l : List ℕ). take (token_length l) l) (sym (drop_behind (first_end line) (token_start index (drop (first_end line) line)) line))
        ∙ sym (spanned_is (drop (first_end line) line) (token_start index (drop (first_end line) line)))
        ∙ same

    by : ((others : List (List ℕ)) → tokens_of (drop (first_end line) line) ≡ Some others
        → word index (drop (first_end line) line) ≡ get_or others index [])
        → ((spaces line < length line) ⊎ (length line ≤ spaces line)) → word (suc index) line ≡ get_or tokens (suc index) []
    by same (inl there) =
        let (others, is, left) = begins_after line tokens read there in
        later others (same others (ap tokens_of (sym (drop_behind (spaces line) (token_length (rest line)) line)) ∙ left))
        ∙ sym (ap (λ (ts : List (List ℕ)). get_or ts (suc index) []) is)
    by same (inr none) =
        let empty : rest line ≡ [] = drop_of_length-le line none in
        let no_tokens : Some [] ≡ Some tokens = ap tokens_of (sym empty) ∙ tokens_of-spaces line ∙ read in
        let passed : drop (first_end line) line ≡ [] = drop_of_length-le line (omega (arith, none)) in
        later [] (same [] (ap tokens_of passed))
        ∙ ap (λ (ts : Option (List (List ℕ))). get_or (unwrap_or ts []) (suc index) []) no_tokens
