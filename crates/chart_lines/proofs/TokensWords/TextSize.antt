-- Whether a text is too large, line by line.
use Rattle.std.proofs.Common.{◌≡◌, ◌⊎◌, inl, inr, sym, ap, ◌∙◌, ℕ, ◌+◌, ◌<◌, ◌≤◌, ◌||◌, Bool, true, false, ltb, nat_lt, List, [], ◌∷◌, length, refl, arith, suc}
use Rattle.std.proofs.lemmas.Bool.{lt-ltb, le-ltb}
use Rattle.std.specs.List.{list_any}
use Rattle.std.proofs.Math.Bool.{or-true}
use Rattle.chart_lines.specs.TokensWords.FrameReading.{is_longer, is_larger}

-- whether a text is too large, where a number of lines stand before these
abbrev pub larger_after : ℕ → ℕ → ℕ → List (List ℕ) → Bool
larger_after most_lines most_bytes count lines =
    nat_lt most_lines (count + length lines) || list_any (is_longer most_bytes) lines

-- a line that is short enough
pub larger_after-short : (most_lines most_bytes count : ℕ) (line : List ℕ) (lines : List (List ℕ)) → length line ≤ most_bytes
    → larger_after most_lines most_bytes (count + 1) lines ≡ larger_after most_lines most_bytes count (line ∷ lines)
larger_after-short most_lines most_bytes count line lines short =
    let moved : count + 1 + length lines ≡ count + suc (length lines) = omega arith in
    rw (le-ltb most_bytes (length line) short, moved) refl

-- one line more than there may be
pub larger_after-many : (most_lines most_bytes count : ℕ) (line : List ℕ) (lines : List (List ℕ)) → most_lines ≤ count
    → larger_after most_lines most_bytes count (line ∷ lines) ≡ true
larger_after-many most_lines most_bytes count line lines many =
    rw (lt-ltb most_lines (count + suc (length lines)) (omega arith)) refl

-- a line that is too long
pub larger_after-long : (most_lines most_bytes count : ℕ) (line : List ℕ) (lines : List (List ℕ)) → most_bytes < length line
    → larger_after most_lines most_bytes count (line ∷ lines) ≡ true
larger_after-long most_lines most_bytes count line lines long = rw (lt-ltb most_bytes (length line) long)
    (or-true (ltb most_lines (count + suc (length lines))))

-- no line left
pub larger_after-none : (most_lines most_bytes count : ℕ) → count ≤ most_lines
    → larger_after most_lines most_bytes count [] ≡ false
larger_after-none most_lines most_bytes count few = rw (le-ltb most_lines (count + 0) (omega arith)) refl

-- a text is too large where one line more than there may be is left, or one that is too long
pub larger_here : {Q : Type 0} (most_lines most_bytes count : ℕ) (line : List ℕ) (after rest lines : List (List ℕ))
    → rest ≡ line ∷ after
    → larger_after most_lines most_bytes count rest ≡ is_larger most_lines most_bytes lines
    → (count ≡ most_lines) ⊎ (Q × (most_bytes < length line)) → is_larger most_lines most_bytes lines ≡ true
larger_here most_lines most_bytes count line after rest lines is so_far (inl many) =
    sym so_far ∙ ap (larger_after most_lines most_bytes count) is
    ∙ larger_after-many most_lines most_bytes count line after (omega (arith, many))
larger_here most_lines most_bytes count line after rest lines is so_far (inr (_, long)) =
    sym so_far ∙ ap (larger_after most_lines most_bytes count) is
    ∙ larger_after-long most_lines most_bytes count line after long
