-- The tables of the card code against its pairs.
use Rattle.std.proofs.Common.{◌≡◌, ◌≢◌, ℕ, zero, suc, ◌+◌, ◌%◌, ◌<◌, ◌≤◌, ◌⊎◌, inl, inr, arith, refl, sym, ap, ◌∙◌, Bool, true, false, ◌&&◌, List, [], ◌∷◌, length, Option, Some, None, if◌then◌else◌, ◌==◌, slice_index}
use Rattle.std.specs.Prelude.{nat_lt}
use Rattle.std.specs.List.{list_all}
use Rattle.std.specs.Option.{option_map}
use Rattle.std.proofs.lemmas.Grind.{common_steps}
use Rattle.std.proofs.lemmas.Bool.{false≢true}
use Rattle.std.proofs.lemmas.List.Folds.{list_all_at}
use Rattle.std.proofs.lemmas.Bool.Decides.{eqb_tells, nat_tests}
use Rattle.card_code.specs.CardCode.{character_in, rows_in}
use Rattle.card_code.specs.Columns.{column_of, set_of_column, set-again}
use Rattle.card_code.specs.Tables.{entry, matching}

-- whether two optional numbers are the same
abbrev same_option : Option ℕ → Option ℕ → Bool
same_option None None = true
same_option None (Some n) = false
same_option (Some m) None = false
same_option (Some m) (Some n) = m == n

same-option : (one other : Option ℕ) → same_option one other ≡ true → one ≡ other
same-option None None is = refl
same-option None (Some n) is = absurd (false≢true is)
same-option (Some m) None is = absurd (false≢true is)
same-option (Some m) (Some n) is = let e : m ≡ n = grind (arith, nat_tests, is) in ap (λ (k : ℕ). Some k) e

-- both parts of a test
both : (a b : Bool) → (a && b) ≡ true → (a ≡ true) × (b ≡ true)
both a b e = grind (arith, nat_tests, common_steps)

-- a look-up that goes on
goes_on : (test : Bool) (value : ℕ) (rest : Option ℕ) → test ≡ false → (if test then Some value else rest) ≡ rest
goes_on true value rest e = absurd (false≢true (sym e))
goes_on false value rest e = refl

-- an entry that has rows alone, and one that has more
pub entry-rows : (set : ℕ) → set < 4096 → entry set ≡ Some set
entry-rows set small = let is : nat_lt set 4096 ≡ true = grind (arith, nat_tests, small) in ap (λ b. if b then Some set else None) is

pub entry-more : (set : ℕ) → 4096 ≤ set → entry set ≡ None
entry-more set large = let is : nat_lt set 4096 ≡ false = grind (arith, nat_tests, large) in ap (λ b. if b then Some set else None) is

-- whether a table lists sets of the columns that pairs have, from a character on
abbrev pub lists : List (ℕ × ℕ) → ℕ → List ℕ → Bool
lists pairs from [] = true
lists pairs from (set ∷ table) =
    same_option (option_map column_of (entry set)) (rows_in pairs from) && lists pairs (suc from) table

-- what it lists is what they have
lists-at : (pairs : List (ℕ × ℕ)) (from k : ℕ) (table : List ℕ) → lists pairs from table ≡ true → k < length table
    → option_map column_of (entry (slice_index table k)) ≡ rows_in pairs (from + k)
lists-at pairs from k [] is inside = absurd (omega (arith, inside))
lists-at pairs from zero (set ∷ table) is inside =
    let same : from ≡ from + 0 = omega arith in
    same-option (option_map column_of (entry set)) (rows_in pairs from) (both _ _ is).0 ∙ ap (λ (c : ℕ). rows_in pairs c) same
lists-at pairs from (suc k) (set ∷ table) is inside =
    let same : suc from + k ≡ from + suc k = omega arith in
    lists-at pairs (suc from) k table (both _ _ is).1 (omega (arith, inside)) ∙ ap (λ (c : ℕ). rows_in pairs c) same

-- a table of 256 that lists what pairs have
pub listed-right : (pairs : List (ℕ × ℕ)) (table : List ℕ) (byte : ℕ) → lists pairs 0 table ≡ true → length table ≡ 256 → byte < 256
    → option_map column_of (entry (slice_index table byte)) ≡ rows_in pairs byte
listed-right pairs table byte lists_all long below = lists-at pairs 0 byte table lists_all (omega (arith, below, long)) ∙ ap (λ (c : ℕ). rows_in pairs c) (omega arith)

-- what passes for a whole table passes for each entry
pub all-at : (test : ℕ → Bool) (table : List ℕ) (k : ℕ) → list_all test table ≡ true → k < length table → test (slice_index table k) ≡ true
all-at test table k all within = by (test (slice_index table k)) refl
  where
    by : (passes : Bool) → test (slice_index table k) ≡ passes → test (slice_index table k) ≡ true
    by true is = is
    by false is = absurd (false≢true (sym (list_all_at test table k 0 within is) ∙ all))

-- pairs whose characters are all below 256 have no other
pub outside : (pairs : List (ℕ × ℕ)) (character : ℕ) → list_all (λ pair. nat_lt pair.0 256) pairs ≡ true
    → 256 ≤ character → rows_in pairs character ≡ None
outside [] character within far = refl
outside (pair ∷ pairs) character within far =
    let parts = both _ _ within in
    let other : (pair.0 == character) ≡ false = apart pair.0 character parts.0 far in
    goes_on (pair.0 == character) pair.1 (rows_in pairs character) other ∙ outside pairs character parts.1 far
  where
    apart : (one character : ℕ) → nat_lt one 256 ≡ true → 256 ≤ character → (one == character) ≡ false
    apart one character low high = grind (arith, nat_tests, low, high)

-- whether pairs have what two tables have beside one another
abbrev pub has_all : List (ℕ × ℕ) → List ℕ → List ℕ → Bool
has_all pairs [] characters = true
has_all pairs (set ∷ sets) [] = false
has_all pairs (set ∷ sets) (character ∷ characters) =
    same_option (character_in pairs (column_of set)) (Some character) && has_all pairs sets characters

has-at : (pairs : List (ℕ × ℕ)) (sets characters : List ℕ) (k : ℕ) → has_all pairs sets characters ≡ true → k < length sets
    → character_in pairs (column_of (slice_index sets k)) ≡ Some (slice_index characters k)
has-at pairs [] characters k is inside = absurd (omega (arith, inside))
has-at pairs (set ∷ sets) [] k is inside = absurd (false≢true is)
has-at pairs (set ∷ sets) (character ∷ characters) zero is inside = same-option _ _ (both _ _ is).0
has-at pairs (set ∷ sets) (character ∷ characters) (suc k) is inside =
    has-at pairs sets characters k (both _ _ is).1 (omega (arith, inside))

-- whether a set stands at its place
abbrev pub is_placed : List ℕ → ℕ → Bool
is_placed sets set = slice_index sets (set % 187) == set

-- a set whose column pairs have stands at its place if the sets of all their columns do
placed : (pairs : List (ℕ × ℕ)) (sets : List ℕ) (set character : ℕ) → set < 4096
    → list_all (λ pair. is_placed sets (set_of_column pair.1)) pairs ≡ true
    → character_in pairs (column_of set) ≡ Some character → is_placed sets set ≡ true
placed [] sets set character small all found = cc
placed (pair ∷ pairs) sets set character small all found =
    let parts = both (is_placed sets (set_of_column pair.1)) (list_all (λ p. is_placed sets (set_of_column p.1)) pairs) all in
    by parts.0 (λ later. placed pairs sets set character small parts.1 later) (eqb_tells pair.1 (column_of set))
  where
    by : is_placed sets (set_of_column pair.1) ≡ true → (character_in pairs (column_of set) ≡ Some character → is_placed sets set ≡ true)
        → ((pair.1 == column_of set) ≡ true) × (pair.1 ≡ column_of set) ⊎ ((pair.1 == column_of set) ≡ false) × (pair.1 ≢ column_of set)
        → is_placed sets set ≡ true
    by here there (inl same) =
        ap (λ (s : ℕ). is_placed sets s) (sym (ap (λ (c : ℕ). set_of_column c) same.1 ∙ set-again set small)) ∙ here
    by here there (inr other) = there (sym (goes_on (pair.1 == column_of set) pair.0 (character_in pairs (column_of set)) other.0) ∙ found)

-- two tables in which the set of each column of the pairs stands at its place, and nothing that they have not
pub matching-right : (pairs : List (ℕ × ℕ)) (sets characters : List ℕ) (set : ℕ) → set < 4096
    → list_all (λ pair. is_placed sets (set_of_column pair.1)) pairs ≡ true → has_all pairs sets characters ≡ true → length sets ≡ 187
    → matching sets characters set ≡ character_in pairs (column_of set)
matching-right pairs sets characters set small all has long = by (is_placed sets set) refl
  where
    none : (found : Option ℕ) → character_in pairs (column_of set) ≡ found → is_placed sets set ≡ false
        → None ≡ character_in pairs (column_of set)
    none None is other = sym is
    none (Some character) is other = absurd (false≢true (sym other ∙ placed pairs sets set character small all is))

    by : (there : Bool) → is_placed sets set ≡ there → matching sets characters set ≡ character_in pairs (column_of set)
    by true is =
        let same : slice_index sets (set % 187) ≡ set = equal (slice_index sets (set % 187)) set is in
        let inside : set % 187 < length sets = omega (arith, long) in
        rw (is) (sym (has-at pairs sets characters (set % 187) has inside) ∙ ap (λ (s : ℕ). character_in pairs (column_of s)) same) where
          equal : (m n : ℕ) → (m == n) ≡ true → m ≡ n
          equal m n e = grind (arith, nat_tests, e)
    by false is = rw (is) (none (character_in pairs (column_of set)) refl is)
