-- Lines that are punched byte after byte.
use Rattle.std.proofs.Common.{◌≡◌, ◌≢◌, ◌∙◌, ◌⊎◌, ℕ, ◌+◌, ◌-◌, ◌*◌, ◌/◌, ◌%◌, ◌<◌, ◌≤◌, ◌==◌, arith, bit_and, bit_or, refl, sym, ap, inl, inr, true, false, List, length, replicate, slice_index, slice_set, IsSome, Option, Some, None}
use Rattle.std.specs.Prelude.{is_some}
use Rattle.std.specs.Option.{option_map}
use Rattle.std.proofs.lemmas.Bool.Decides.{eqb_tells}
use Rattle.std.proofs.lemmas.Bool.{cases_lt}
use Rattle.std.proofs.lemmas.List.{get_or-replicate, get_or-set_same, get_or-set_other, get_or_past, length-set}
use Rattle.std.proofs.lemmas.Nat.{and_mask, le_or_l, le_or_r}
use Rattle.std.proofs.lemmas.Option.{same_Some}
use Rattle.std.proofs.lemmas.Simd.{get_or-zip2, length-zip2}
use lib.Lanes.{zip2}
use Rattle.card_code.proofs.Tables.{entry-more, entry-rows}
use Rattle.card_code.specs.CardCode.{rows_of}
use Rattle.card_code.specs.Columns.{column_of}
use Rattle.card_code.specs.Deck.{IsCardOf, IsOddColumn}
use Rattle.card_code.specs.Tables.{entry}

-- each byte of a line, from a place on and before another, is a deck character
abbrev pub AreCharacters : (from : ℕ) → (to : ℕ) → List ℕ → Type 0
AreCharacters from to line = (k : ℕ) → from ≤ k → k < to → IsSome (rows_of (slice_index line k))

-- so many bytes of a line are punched, each deck character in its column, and the other columns are blank
pub record HasPunched (count : ℕ) (line columns : List ℕ) : Type 0 where
  pub whole : length columns ≡ 80
  pub punched : (k : ℕ) → k < count → (column : ℕ) → rows_of (slice_index line k) ≡ Some column → slice_index columns k ≡ column
  pub blank : (k : ℕ) → count ≤ k → slice_index columns k ≡ 0

-- The sets of so many eights of bytes are joined, lane by lane: where a lane has rows alone, each of its bytes is a deck character.
pub record HasJoined (eights : ℕ) (joined line : List ℕ) : Type 0 where
  pub lanes : length joined ≡ 8
  pub characters : (lane eight : ℕ) → lane < 8 → eight < eights → slice_index joined lane < 4096 → IsSome (rows_of (slice_index line (8 * eight + lane)))

-- no column of a blank card has a row
none-punched : (k : ℕ) → slice_index (replicate 80 0) k ≡ 0
none-punched k = by (cases_lt k 80)
  where
    by : (k < 80) ⊎ (80 ≤ k) → slice_index (replicate 80 0) k ≡ 0
    by (inl below) = get_or-replicate {A = ℕ} 80 k 0 0 below
    by (inr past) =
        let zeros : List ℕ = replicate 80 0 in
        let long : length zeros ≡ 80 = refl in
        get_or_past zeros k 0 (omega (arith, past, long))

-- no byte is punched yet
pub punched-none : (line : List ℕ) → HasPunched 0 line (replicate 80 0)
punched-none line = record { whole = refl; punched = λ k less. absurd (omega (arith, less)); blank = λ k more. none-punched k }

-- no set is joined yet
pub joined-none : (line : List ℕ) → HasJoined 0 (replicate 8 0) line
joined-none line = record { lanes = refl; characters = λ lane eight low less. absurd (omega (arith, less)) }

-- the column of the set of a deck character
column-listed : (set column : ℕ) → option_map column_of (entry set) ≡ Some column → column_of (bit_and set 4095) ≡ column
column-listed set column is = by (cases_lt set 4096)
  where
    by : (set < 4096) ⊎ (4096 ≤ set) → column_of (bit_and set 4095) ≡ column
    by (inl small) =
        let rows : set % 4096 ≡ set = omega (arith, small) in
        ap column_of (and_mask set 12 ∙ rows)
        ∙ same_Some (column_of set) column (sym (ap (λ (found : Option ℕ). option_map column_of found) (entry-rows set small)) ∙ is)
    by (inr large) = let none = sym (ap (λ (found : Option ℕ). option_map column_of found) (entry-more set large)) ∙ is in cc

-- a set that has rows alone is that of a deck character
character-listed : (set : ℕ) (found : Option ℕ) → option_map column_of (entry set) ≡ found → set < 4096 → is_some found ≡ true
character-listed set found is small =
    ap is_some (sym is ∙ ap (λ (entered : Option ℕ). option_map column_of entered) (entry-rows set small))

-- a byte more is a deck character
pub characters-more : (from count set : ℕ) (line : List ℕ) → option_map column_of (entry set) ≡ rows_of (slice_index line count) → set < 4096
    → AreCharacters from count line → AreCharacters from (count + 1) line
characters-more from count set line listed small before k past less = by (eqb_tells k count)
  where
    by : ((k == count) ≡ true) × (k ≡ count) ⊎ ((k == count) ≡ false) × (k ≢ count) → IsSome (rows_of (slice_index line k))
    by (inl same) =
        ap (λ (j : ℕ). is_some (rows_of (slice_index line j))) same.1
        ∙ character-listed set (rows_of (slice_index line count)) listed small
    by (inr other) = let apart = other.1 in before k past (omega (arith, less, apart))

-- a byte more is punched
pub punched-more : (count set : ℕ) (line columns : List ℕ) → count < 80
    → option_map column_of (entry set) ≡ rows_of (slice_index line count)
    → HasPunched count line columns → HasPunched (count + 1) line (slice_set columns count (column_of (bit_and set 4095)))
punched-more count set line columns below listed before = record {
  whole = length-set columns count (column_of (bit_and set 4095)) ∙ before.whole;
  punched = λ k less. punched k less (eqb_tells k count);
  blank = λ k more. other-is k (λ e. absurd (omega (arith, e, more))) ∙ before.blank k (omega (arith, more));
}
  where
    new : List ℕ
    new = slice_set columns count (column_of (bit_and set 4095))

    here-is : slice_index new count ≡ column_of (bit_and set 4095)
    here-is =
        let whole = before.whole in
        get_or-set_same columns count (column_of (bit_and set 4095)) 0 (omega (arith, whole, below))

    other-is : (k : ℕ) → k ≢ count → slice_index new k ≡ slice_index columns k
    other-is k apart = get_or-set_other columns count k (column_of (bit_and set 4095)) 0 apart

    punched : (k : ℕ) → k < count + 1 → ((k == count) ≡ true) × (k ≡ count) ⊎ ((k == count) ≡ false) × (k ≢ count)
        → (column : ℕ) → rows_of (slice_index line k) ≡ Some column → slice_index new k ≡ column
    punched k less (inl same) column is =
        ap (λ (j : ℕ). slice_index new j) same.1 ∙ here-is
        ∙ column-listed set column (listed ∙ sym (ap (λ (j : ℕ). rows_of (slice_index line j)) same.1) ∙ is)
    punched k less (inr other) column is =
        let apart = other.1 in other-is k apart ∙ before.punched k (omega (arith, less, apart)) column is

-- eight bytes more are punched
pub punched-eight : (first : ℕ) (sets line old new : List ℕ)
    → ((k : ℕ) → k < 8 → option_map column_of (entry (slice_index sets k)) ≡ rows_of (slice_index line (first + k)))
    → ((k : ℕ) → k < 8 → slice_index new (first + k) ≡ column_of (bit_and (slice_index sets k) 4095))
    → ((k : ℕ) → k < first → slice_index new k ≡ slice_index old k)
    → ((k : ℕ) → first + 8 ≤ k → slice_index new k ≡ slice_index old k)
    → length new ≡ 80 → HasPunched first line old → HasPunched (first + 8) line new
punched-eight first sets line old new listed here before behind whole are = record {
  whole = whole;
  punched = λ k less. punched k less (cases_lt k first);
  blank = λ k past. behind k past ∙ are.blank k (omega (arith, past));
}
  where
    -- a place among the eight
    here-at : (k : ℕ) → first ≤ k → k < first + 8 → slice_index new k ≡ column_of (bit_and (slice_index sets (k - first)) 4095)
    here-at k from to =
        let same : k ≡ first + (k - first) = omega (arith, from) in
        ap (λ (j : ℕ). slice_index new j) same ∙ here (k - first) (omega (arith, from, to))

    punched : (k : ℕ) → k < first + 8 → (k < first) ⊎ (first ≤ k) → (column : ℕ) → rows_of (slice_index line k) ≡ Some column
        → slice_index new k ≡ column
    punched k less (inl low) column is = before k low ∙ are.punched k low column is
    punched k less (inr from) column is =
        let same : k ≡ first + (k - first) = omega (arith, from) in
        here-at k from less
        ∙ column-listed (slice_index sets (k - first)) column
        (listed (k - first) (omega (arith, from, less)) ∙ sym (ap (λ (j : ℕ). rows_of (slice_index line j)) same) ∙ is)

-- the rows alone of eight sets
pub rows-at : (sets : List ℕ) (k : ℕ) → length sets ≡ 8 → k < 8
    → slice_index (zip2 bit_and sets (replicate 8 4095)) k ≡ bit_and (slice_index sets k) 4095
rows-at sets k eight low =
    get_or-zip2 bit_and sets (replicate 8 4095) k 0 0 0 (omega (arith, eight, low)) low
    ∙ ap (λ (mask : ℕ). bit_and (slice_index sets k) mask) (get_or-replicate {A = ℕ} 8 k 4095 0 low)

pub rows-few : (set : ℕ) → bit_and set 4095 < 4096
rows-few set = let is : bit_and set 4095 ≡ set % 4096 = and_mask set 12 in omega (arith, is)

-- the sets of eight bytes more are joined
pub joined-more : (eights : ℕ) (joined sets line : List ℕ) → length sets ≡ 8
    → ((k : ℕ) → k < 8 → option_map column_of (entry (slice_index sets k)) ≡ rows_of (slice_index line (8 * eights + k)))
    → HasJoined eights joined line → HasJoined (eights + 1) (zip2 bit_or joined sets) line
joined-more eights joined sets line eight listed before = record {
  lanes = length-zip2 bit_or joined sets (before.lanes ∙ sym eight) ∙ before.lanes;
  characters = λ lane e low less few. by lane e low less few (eqb_tells e eights);
}
  where
    lane-is : (lane : ℕ) → lane < 8 → slice_index (zip2 bit_or joined sets) lane ≡ bit_or (slice_index joined lane) (slice_index sets lane)
    lane-is lane low =
        let lanes = before.lanes in
        get_or-zip2 bit_or joined sets lane 0 0 0 (omega (arith, lanes, low)) (omega (arith, eight, low))

    by : (lane e : ℕ) → lane < 8 → e < eights + 1 → slice_index (zip2 bit_or joined sets) lane < 4096
        → ((e == eights) ≡ true) × (e ≡ eights) ⊎ ((e == eights) ≡ false) × (e ≢ eights)
        → IsSome (rows_of (slice_index line (8 * e + lane)))
    by lane e low less few (inl same) =
        let is = lane-is lane low in
        let new = le_or_r (slice_index joined lane) (slice_index sets lane) in
        ap (λ (j : ℕ). is_some (rows_of (slice_index line (8 * j + lane)))) same.1
        ∙ character-listed (slice_index sets lane) (rows_of (slice_index line (8 * eights + lane))) (listed lane low) (omega (arith, few, is, new))
    by lane e low less few (inr other) =
        let apart = other.1 in
        let is = lane-is lane low in
        let old = le_or_l (slice_index joined lane) (slice_index sets lane) in
        before.characters lane e low (omega (arith, less, apart)) (omega (arith, few, is, old))

-- where all lanes have rows alone, all bytes are deck characters
pub joined-characters : (eights : ℕ) (joined line : List ℕ) → ((k : ℕ) → k < 8 → slice_index joined k < 4096)
    → HasJoined eights joined line → AreCharacters 0 (8 * eights) line
joined-characters eights joined line few are k from to =
    let same : k ≡ 8 * (k / 8) + k % 8 = omega arith in
    ap (λ (j : ℕ). is_some (rows_of (slice_index line j))) same
    ∙ are.characters (k % 8) (k / 8) (omega arith) (omega (arith, to)) (few (k % 8) (omega arith))

-- where that and those behind them are, all are
pub all-characters : (middle to : ℕ) (line : List ℕ) → AreCharacters 0 middle line → AreCharacters middle to line → AreCharacters 0 to line
all-characters middle to line before behind k from less = by (cases_lt k middle)
  where
    by : (k < middle) ⊎ (middle ≤ k) → IsSome (rows_of (slice_index line k))
    by (inl low) = before k from low
    by (inr past) = behind k past less

-- all are punched
pub punched-card : (count : ℕ) (line columns : List ℕ) → count ≡ length line → length line ≤ 80 → AreCharacters 0 count line
    → HasPunched count line columns → IsCardOf line columns
punched-card count line columns all short characters are = record {
  short = short;
  whole = are.whole;
  punched = λ k less.
      let within : k < count = omega (arith, all, less) in
      held (rows_of (slice_index line k)) (slice_index columns k) (characters k (omega arith) within) (are.punched k within);
  blank = λ k past. are.blank k (omega (arith, all, past));
}
  where
    held : (found : Option ℕ) (value : ℕ) → is_some found ≡ true → ((column : ℕ) → found ≡ Some column → value ≡ column)
        → found ≡ Some value
    held None value some is = cc
    held (Some column) value some is = ap (λ (n : ℕ). Some n) (sym (is column refl))

-- the next byte is the first that is no deck character
pub first-odd : (count set : ℕ) (line : List ℕ) → count < length line → length line ≤ 80
    → option_map column_of (entry set) ≡ rows_of (slice_index line count) → 4096 ≤ set
    → AreCharacters 0 count line → IsOddColumn line (count + 1)
first-odd count set line within short listed large characters = record {
  short = short;
  from = omega arith;
  to = omega (arith, within);
  odd = ap (λ (k : ℕ). rows_of (slice_index line k)) here ∙ sym listed
      ∙ ap (λ (entered : Option ℕ). option_map column_of entered) (entry-more set large);
  before = λ k less. characters k (omega arith) (omega (arith, less));
}
  where
    here : count + 1 - 1 ≡ count
    here = omega arith
