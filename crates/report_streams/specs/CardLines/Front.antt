-- What stands at the front of some bytes of a text, whatever comes after them.
use Rattle.std.specs.Prelude.{◌≡◌, ◌≢◌, ℕ, suc, ◌<◌, ◌≤◌, ◌==◌, ◌⊎◌, List, [], ◌∷◌, length, slice_index, if◌then◌else◌}
use Rattle.report_streams.specs.declared.card_lines.front.Front.{Front}
use Rattle.report_streams.specs.declared.card_lines.front.Front.TheVariants as front

-- a whole line with so many bytes before its LF, the 82nd byte at the latest
pub record IsLine (held : List ℕ) (end : ℕ) : Type 0 where
  pub short : end < 82
  pub within : end < length held
  pub found : slice_index held end ≡ 10
  pub before : (place : ℕ) → place < end → slice_index held place ≢ 10

-- no LF among the first 82 bytes, and too many bytes for a card: 82, or 81 the last of which is no CR
pub record IsTooLong (held : List ℕ) : Type 0 where
  pub long : 81 ≤ length held
  pub unended : (place : ℕ) → place < length held → place < 82 → slice_index held place ≢ 10
  pub no_cr : length held ≡ 81 → slice_index held 80 ≢ 13

-- no LF, and not too many bytes for a card
pub record IsPart (held : List ℕ) : Type 0 where
  pub short : length held ≤ 81
  pub unended : (place : ℕ) → place < length held → slice_index held place ≢ 10
  pub cr : length held ≡ 81 → slice_index held 80 ≡ 13

-- how many bytes come before the first LF, or are there in all
abbrev pub line_end : List ℕ → ℕ
line_end [] = 0
line_end (b ∷ bs) = if b == 10 then 0 else suc (line_end bs)

-- what stands at the front
abbrev pub IsFront : List ℕ → Front → Type 0
IsFront held front.Line = IsLine held (line_end held)
IsFront held front.TooLong = IsTooLong held
IsFront held front.Part = IsPart held

-- A line was cut from the front of what came: it has no LF, and what comes behind it is its LF, unless it has no room or nothing more came.
pub record IsCut (line behind : List ℕ) : Type 0 where
  pub few : length line ≤ 81
  pub unended : (place : ℕ) → place < length line → slice_index line place ≢ 10
  pub whole : 0 < length behind → (slice_index behind 0 ≡ 10) ⊎ (length line ≡ 81)
