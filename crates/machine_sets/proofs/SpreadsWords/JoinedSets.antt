-- Sets of rows, one for each place: one that is joined with a word, and sets that are joined from a place on.
use Rattle.std.proofs.Common.{⊎_elim, ◌≡◌, ◌≢◌, ◌∙◌, ℕ, ◌+◌, ◌-◌, ◌<◌, ◌≤◌, ◌&&◌, ◌||◌, nat_lt, Bool, true, false, List, sym, ap, refl, arith, length, min, replicate, slice_index_or, slice_set}
use Rattle.std.specs.Prelude.{◌==◌, nat_le}
use Rattle.std.specs.Int.Bits.{bit_or}
use Rattle.std.proofs.Math.Bool.{or-false}
use Rattle.std.proofs.lemmas.Bool.{cases_eq, cases_lt}
use Rattle.std.proofs.lemmas.Bool.Decides.{nat_tests}
use Rattle.std.proofs.lemmas.Grind.{common_steps}
use Rattle.std.proofs.lemmas.List.{get_or-replicate, get_or_past}
use Rattle.machine_sets.proofs.BitSets.BitLemmas.{is_bit-or, is_bit-zero}
use Rattle.machine_sets.specs.BitSets.Bits.{is_bit}
use Rattle.machine_sets.specs.SpreadsWords.Links.{has_at}

-- the set at a place with another word joined
pub set-joined : (sets : List ℕ) (at word place row : ℕ) → at < length sets
    → has_at (slice_set sets at (bit_or (slice_index_or sets at 0) word)) place row
    ≡ (has_at sets place row || ((place == at) && is_bit word row))
set-joined sets at word place row inside = ⊎_elim here other (cases_eq place at) where
  here : place ≡ at
      → has_at (slice_set sets at (bit_or (slice_index_or sets at 0) word)) place row
      ≡ (has_at sets place row || ((place == at) && is_bit word row))
  here same =
      let yes : (place == at) ≡ true = grind (arith, nat_tests) in
      let read : slice_index_or (slice_set sets at (bit_or (slice_index_or sets at 0) word)) place 0
      ≡ bit_or (slice_index_or sets place 0) word = grind (arith, common_steps) in
      ap (λ w. is_bit w row) read ∙ is_bit-or (slice_index_or sets place 0) word row
      ∙ ap (λ b. has_at sets place row || (b && is_bit word row)) (sym yes)

  other : place ≢ at
      → has_at (slice_set sets at (bit_or (slice_index_or sets at 0) word)) place row
      ≡ (has_at sets place row || ((place == at) && is_bit word row))
  other not_same =
      let no : (place == at) ≡ false = grind (arith, nat_tests) in
      let read : slice_index_or (slice_set sets at (bit_or (slice_index_or sets at 0) word)) place 0 ≡ slice_index_or sets place 0 =
      grind (arith, common_steps) in
      ap (λ w. is_bit w row) read ∙ sym (or-false _) ∙ ap (λ b. has_at sets place row || (b && is_bit word row)) (sym no)

-- empty sets have no row
pub empty-sets : (n place row : ℕ) → has_at (replicate n 0) place row ≡ false
empty-sets n place row =
    let zero : slice_index_or (replicate n 0) place 0 ≡ 0 = grind (arith, common_steps, get_or-replicate, get_or_past) in
    ap (λ w. is_bit w row) zero ∙ is_bit-zero row

-- so many sets are joined from a place on
pub record AreJoined (count first : ℕ) (sets old now : List ℕ) : Type 0 where
  pub joined :
      (place row : ℕ) → has_at now place row
      ≡ (has_at old place row || (nat_le first place && (nat_lt (place - first) count && has_at sets (place - first) row)))
  pub long : length now ≡ 1936

pub joined-none : (first : ℕ) (sets old : List ℕ) → length old ≡ 1936 → AreJoined 0 first sets old old
joined-none first sets old long = record { joined = λ place row. by (has_at old place row) (nat_le first place) (has_at sets (place - first) row) (place - first); long = long } where
  by : (a b c : Bool) (n : ℕ) → a ≡ (a || (b && (nat_lt n 0 && c)))
  by a b c n = grind (arith, nat_tests)

pub joined-more : (k first : ℕ) (sets old now new : List ℕ) → first + k < 1936
    → new ≡ slice_set now (first + k) (bit_or (slice_index_or now (first + k) 0) (slice_index_or sets k 0)) → length new ≡ 1936
    → AreJoined k first sets old now → AreJoined (k + 1) first sets old new
joined-more k first sets old now new inside is long before = record { joined = joined; long = long } where
  more : (a b c : Bool) (place : ℕ) → (place ≡ first + k → c ≡ b)
      → ((a || (nat_le first place && (nat_lt (place - first) k && b))) || ((place == first + k) && c))
      ≡ (a || (nat_le first place && (nat_lt (place - first) (k + 1) && b)))
  more a b c place same = ⊎_elim
      (λ (e : place ≡ first + k). let value = same e in grind (arith, nat_tests, value, e))
      (λ (e : place ≢ first + k). grind (arith, nat_tests, e)) (cases_eq place (first + k))

  joined : (place row : ℕ) → has_at new place row
      ≡ (has_at old place row || (nat_le first place && (nat_lt (place - first) (k + 1) && has_at sets (place - first) row)))
  joined place row =
      ap (λ (s : List ℕ). has_at s place row) is
      ∙ set-joined now (first + k) (slice_index_or sets k 0) place row (let l = before.long in omega (arith, l, inside))
      ∙ ap (λ b. b || ((place == first + k) && is_bit (slice_index_or sets k 0) row)) (before.joined place row)
      ∙ more (has_at old place row) (has_at sets (place - first) row) (is_bit (slice_index_or sets k 0) row) place
      (λ e. let index : k ≡ place - first = omega (arith, e) in ap (λ (n : ℕ). has_at sets n row) index)

pub joined-all : (count first : ℕ) (sets old new : List ℕ) → min (length sets) (1936 - first) ≤ count → AreJoined count first sets old new
    → (place row : ℕ) → place < 1936
    → has_at new place row ≡ (has_at old place row || (nat_le first place && has_at sets (place - first) row))
joined-all count first sets old new end are place row inside =
    are.joined place row
    ∙ by (has_at old place row) (has_at sets (place - first) row)
    (λ from past.
    ap (λ w. is_bit w row) (get_or_past sets (place - first) 0 (shorter (length sets) (1936 - first) end refl from past)) ∙ is_bit-zero row)
  where
    by : (a b : Bool) → (first ≤ place → count ≤ place - first → b ≡ false)
        → (a || (nat_le first place && (nat_lt (place - first) count && b))) ≡ (a || (nat_le first place && b))
    by a b none = ⊎_elim
        (λ (early : place < first). grind (arith, nat_tests, early))
        (λ (late : first ≤ place). ⊎_elim
        (λ (there : place - first < count). grind (arith, nat_tests, there))
        (λ (past : count ≤ place - first). let off = none late past in grind (arith, nat_tests, off)) (cases_lt (place - first) count))
        (cases_lt place first)

    shorter : (long rest : ℕ) → min long rest ≤ count → rest ≡ 1936 - first → first ≤ place → count ≤ place - first → long ≤ place - first
    shorter long rest most is high beyond = grind (arith, most, is, beyond, inside, high)
