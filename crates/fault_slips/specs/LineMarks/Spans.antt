-- Where the tokens of a line stand.
use Rattle.std.specs.Prelude.{◌≡◌, ℕ, ◌+◌, ◌==◌, ◌<◌, List, [], ◌∷◌, Some, suc, zero, min, length, drop, slice_get, slice_range, if◌then◌else◌}
use Rattle.std.specs.List.{prefix_len}
use Rattle.chart_lines.specs.TokensWords.Tokens.{HasTokens, is_plain, is_inside}
use Rattle.chart_lines.specs.TokensWords.Dividing.{is_space}
use Rattle.fault_slips.specs.declared.line_marks.span.Span.{Span}

-- how many bytes of a line that begins with a token are that token: those up to its second apostrophe, or up to a space or an apostrophe
abbrev pub token_length : List ℕ → ℕ
token_length [] = 0
token_length (b ∷ bs) = if b == 39 then min (prefix_len is_inside bs + 2) (1 + length bs) else prefix_len is_plain (b ∷ bs)

-- how many bytes of a line stand before the end of its first token
abbrev pub first_end : List ℕ → ℕ
first_end line = prefix_len is_space line + token_length (drop (prefix_len is_space line) line)

-- how many bytes stand before the token that has so many others before it
unfoldable pub token_start : ℕ → List ℕ → ℕ
token_start zero line = prefix_len is_space line
token_start (suc index) line = first_end line + token_start index (drop (first_end line) line)

-- the token from a place on, as far as the line goes
abbrev pub span_at : List ℕ → ℕ → Span
span_at line start = record { start = start; end = start + token_length (drop start line) }

-- where the token stands that has so many others before it, or, if the line has no such token, its first one
abbrev pub span_of : ℕ → List ℕ → Span
span_of index line = span_at line (if token_start index line == length line then token_start 0 line else token_start index line)

-- the bytes of a span
abbrev pub spanned : List ℕ → Span → List ℕ
spanned line span = slice_range line span.start span.end

-- the token that has so many others before it, or an empty one, if the line has no such token
abbrev pub word : ℕ → List ℕ → List ℕ
word index line = spanned line (span_at line (token_start index line))

-- a span is that of a token
pub record IsTokenSpan (tokens : List (List ℕ)) (line : List ℕ) (span : Span) : Type 0 where
  pub place : ℕ
  pub is_there : slice_get tokens place ≡ Some (spanned line span)

-- in a line of tokens, a span is that of a token
abbrev pub StandsUnderAToken : List ℕ → Span → Type 0
StandsUnderAToken line span = (tokens : List (List ℕ)) → HasTokens line tokens → 0 < length tokens → IsTokenSpan tokens line span
