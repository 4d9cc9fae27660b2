-- The words of an explanation as markup. If they name a line of the chart, as `(line 6 of the chart)`, that is a link to its element. No other
-- words of an explanation stand in brackets.
use Rattle.std.specs.Prelude.{ℕ, ◌==◌, List, [], ◌∷◌, ◌++◌, codes, drop, if◌then◌else◌, take}
use Rattle.std.specs.Char.{is_ascii_digit}
use Rattle.std.specs.List.{prefix_len}
use Rattle.show_drawings.specs.MarkupWords.Escapes.{escaped}

-- the digits with which words begin
abbrev pub leading_digits : List ℕ → List ℕ
leading_digits words = take (prefix_len is_ascii_digit words) words

-- the digits in `line 6 of the chart`
abbrev pub number_in : List ℕ → List ℕ
number_in words = leading_digits (drop 5 words)

-- a bracket with what stands behind it as a link, and the end of the link with the other bracket
unfoldable pub bracket_open : (number : List ℕ) → List ℕ
bracket_open number = codes "(<a href=\"#line" ++ escaped number ++ codes "\">"

unfoldable pub bracket_close : List ℕ
bracket_close = codes "</a>)"

-- a sign of the words, before these others
abbrev pub sign_text : (sign : ℕ) → (behind : List ℕ) → List ℕ
sign_text sign behind =
    if sign == 40 then bracket_open (number_in behind) else if sign == 41 then bracket_close else escaped (sign ∷ [])

abbrev pub linked : List ℕ → List ℕ
linked [] = []
linked (sign ∷ others) = sign_text sign others ++ linked others
