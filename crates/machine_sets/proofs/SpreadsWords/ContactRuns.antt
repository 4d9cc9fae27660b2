-- Runs of contacts: which of them are closed, what eight of them pass on at once, and a run eight by eight.
use Rattle.std.proofs.Common.{⊎_elim, ◌≡◌, ◌∙◌, ◌⊎◌, inl, inr, ℕ, zero, suc, ◌+◌, ◌-◌, ◌*◌, ◌/◌, ◌%◌, ◌^◌, ◌<◌, ◌≤◌, ◌&&◌, ◌||◌, not, Bool, true, false, cond, eqb, List, [], ◌∷◌, All, sym, ap, refl, subst, arith, length, take, drop, slice_index_or, bit_and, bit_or}
use Rattle.std.specs.Prelude.{◌==◌, nat_le, nat_lt}
use Rattle.std.specs.List.{list_any}
use Rattle.std.proofs.Math.Bool.{or-false}
use Rattle.std.proofs.lemmas.Bool.{and_from, and_parts, cases_lt}
use Rattle.std.proofs.lemmas.Bool.Decides.{nat_tests}
use Rattle.std.proofs.lemmas.Nat.{one_shl, pow_pos}
use Rattle.std.proofs.lemmas.Nat.Bits.{and_pow, bit_at-lt}
use Rattle.std.specs.Int.{bit_at}
use lib.Lanes.{put_chunk, top, zip2}
use borrow.Rule.Slice.PartMut.{mid_of, put_mid}
use Rattle.std.proofs.lemmas.List.Folds.{list_any_more}
use Rattle.std.proofs.lemmas.List.{take_all, append-nil, drop_all, get_or-drop, get_or-take, length-drop, length-take-le}
use Rattle.std.proofs.lemmas.Simd.{get_or-put_chunk_above, get_or-put_chunk_at, get_or-put_chunk_below, get_or-zip2, length-zip2, put_chunk_is}
use Rattle.machine_sets.specs.SpreadsWords.Links.{HasRoom, IsEight, has_at}
use Rattle.machine_sets.specs.BitSets.Contacts.{is_any_contact, is_contact}
use Rattle.machine_sets.specs.declared.bit_sets.contacts.Run.{Run}
use Rattle.machine_sets.specs.SpreadsWords.Passing.{IsRunPassed, RunsPass, SameSets, is_closed_at, is_passed_in}
use Rattle.machine_sets.proofs.SpreadsWords.LinkLemmas.{equal, itself, picked, regrouped}
use Rattle.machine_sets.proofs.SpreadsWords.PassLemmas.{HasEntriesOf, any-contact, closed-by}
use Rattle.machine_sets.proofs.BitSets.BitLemmas.{is_bit-above, is_bit-and, is_bit-low, is_bit-ones, is_bit-or, is_bit-shl, is_bit-shr, is_bit-zero}
use Rattle.machine_sets.specs.BitSets.Bits.{has_place, is_bit}

-- a row of ones, as it is made of a power
pub ones : (count k : ℕ) → count ≤ 8 → is_bit (1 * 2 ^ count % 2 ^ 128 - 1) k ≡ nat_lt k count
ones count k few = ap (λ (n : ℕ). is_bit (n - 1) k) (one_shl count 128 (omega (arith, few))) ∙ is_bit-ones count k

-- two words, the second one behind the first
pub words-joined : (low high k : ℕ) → k < 128 → is_bit (bit_or low (high * 2 ^ 64 % 2 ^ 128)) k ≡ (is_bit low k || (nat_le 64 k && is_bit high (k - 64)))
words-joined low high k within =
    is_bit-or low (high * 2 ^ 64 % 2 ^ 128) k
    ∙ ap (λ b. is_bit low k || b) (is_bit-low (high * 2 ^ 64) 128 k within ∙ is_bit-shl high 64 k)

-- eight places from one on, in the word of the first and the one behind it
pub places-read : (words : List ℕ) (place joined k : ℕ) → k < 8 → slice_index_or words (place / 64) 0 < 2 ^ 64
    → ((j : ℕ) → j < 128 → is_bit joined j
    ≡ (is_bit (slice_index_or words (place / 64) 0) j || (nat_le 64 j && is_bit (slice_index_or words (place / 64 + 1) 0) (j - 64))))
    → is_bit (joined / 2 ^ (place % 64)) k ≡ has_place words (place + k)
unfolding has_place
places-read words place joined k low fits joins =
    is_bit-shr joined (place % 64) k ∙ joins (place % 64 + k) (omega (arith, low)) ∙ by (cases_lt (place % 64 + k) 64)
  where
    first : ℕ
    first = slice_index_or words (place / 64) 0

    second : ℕ
    second = slice_index_or words (place / 64 + 1) 0

    by : (place % 64 + k < 64) ⊎ (64 ≤ place % 64 + k)
        → (is_bit first (place % 64 + k) || (nat_le 64 (place % 64 + k) && is_bit second (place % 64 + k - 64)))
        ≡ is_bit (slice_index_or words ((place + k) / 64) 0) ((place + k) % 64)
    by (inl here) =
        let no : nat_le 64 (place % 64 + k) ≡ false = grind (arith, nat_tests, here) in
        let word : (place + k) / 64 ≡ place / 64 = omega (arith, here) in
        let bit : (place + k) % 64 ≡ place % 64 + k = omega (arith, here) in
        ap (λ b. is_bit first (place % 64 + k) || (b && is_bit second (place % 64 + k - 64))) no
        ∙ or-false (is_bit first (place % 64 + k))
        ∙ sym ((λ i. is_bit (slice_index_or words (word i) 0) (bit i)))
    by (inr there) =
        let yes : nat_le 64 (place % 64 + k) ≡ true = grind (arith, nat_tests, there) in
        let word : (place + k) / 64 ≡ place / 64 + 1 = omega (arith, there, low) in
        let bit : (place + k) % 64 ≡ place % 64 + k - 64 = omega (arith, there, low) in
        ap (λ b. b || (nat_le 64 (place % 64 + k) && is_bit second (place % 64 + k - 64))) (is_bit-above first 64 (place % 64 + k) fits there)
        ∙ ap (λ b. b && is_bit second (place % 64 + k - 64)) yes
        ∙ sym ((λ i. is_bit (slice_index_or words (word i) 0) (bit i)))

pub turned-and : (a b : Bool) → (a && b) ≡ (b && a)
turned-and a b = grind (arith, nat_tests)

-- what a word has in common with a power of two is something where it has the bit
common-bit : (word k : ℕ) → not (eqb (bit_and word (2 ^ k)) 0) ≡ is_bit word k
unfolding is_bit
common-bit word k =
    ap (λ (n : ℕ). not (eqb n 0)) (and_pow word k) ∙ by (bit_at word k) (2 ^ k) (bit_at-lt word k) (pow_pos k)
  where
    by : (bit power : ℕ) → bit < 2 → 0 < power → not (eqb (bit * power) 0) ≡ (bit == 1)
    by zero power small some = let none : 0 * power ≡ 0 = omega arith in ap (λ (n : ℕ). not (eqb n 0)) none
    by (suc zero) power small some = grind (arith, nat_tests, some)
    by (suc (suc bit)) power small some = absurd (omega (arith, small))

-- a lane has the rows where its bit is set
chosen-lane : (bits rows k row : ℕ) → is_bit (cond (top 15 (cond (not (eqb (bit_and bits (2 ^ k)) 0)) 65535 0)) rows 0) row
    ≡ (is_bit bits k && is_bit rows row)
chosen-lane bits rows k row =
    ap (λ b. is_bit (cond (top 15 (cond b 65535 0)) rows 0) row) (common-bit bits k) ∙ by (is_bit bits k)
  where
    by : (b : Bool) → is_bit (cond (top 15 (cond b 65535 0)) rows 0) row ≡ (b && is_bit rows row)
    by true = refl
    by false = is_bit-zero row

-- eight lanes, each with the rows where its bit is set
pub chosen-lanes : (bits rows k row : ℕ) → k < 8
    → is_bit (slice_index_or (cond (top 15 (cond (not (eqb (bit_and bits 1) 0)) 65535 0)) rows 0
    ∷ cond (top 15 (cond (not (eqb (bit_and bits 2) 0)) 65535 0)) rows 0
    ∷ cond (top 15 (cond (not (eqb (bit_and bits 4) 0)) 65535 0)) rows 0
    ∷ cond (top 15 (cond (not (eqb (bit_and bits 8) 0)) 65535 0)) rows 0
    ∷ cond (top 15 (cond (not (eqb (bit_and bits 16) 0)) 65535 0)) rows 0
    ∷ cond (top 15 (cond (not (eqb (bit_and bits 32) 0)) 65535 0)) rows 0
    ∷ cond (top 15 (cond (not (eqb (bit_and bits 64) 0)) 65535 0)) rows 0
    ∷ cond (top 15 (cond (not (eqb (bit_and bits 128) 0)) 65535 0)) rows 0 ∷ []) k 0) row
    ≡ (is_bit bits k && is_bit rows row)
chosen-lanes bits rows zero row low = chosen-lane bits rows 0 row
chosen-lanes bits rows (suc zero) row low = chosen-lane bits rows 1 row
chosen-lanes bits rows (suc (suc zero)) row low = chosen-lane bits rows 2 row
chosen-lanes bits rows (suc (suc (suc zero))) row low = chosen-lane bits rows 3 row
chosen-lanes bits rows (suc (suc (suc (suc zero)))) row low = chosen-lane bits rows 4 row
chosen-lanes bits rows (suc (suc (suc (suc (suc zero))))) row low = chosen-lane bits rows 5 row
chosen-lanes bits rows (suc (suc (suc (suc (suc (suc zero)))))) row low = chosen-lane bits rows 6 row
chosen-lanes bits rows (suc (suc (suc (suc (suc (suc (suc zero))))))) row low = chosen-lane bits rows 7 row
chosen-lanes bits rows (suc (suc (suc (suc (suc (suc (suc (suc k)))))))) row low = absurd (omega (arith, low))

-- eight lanes joined by an operator, and each of them
pub eight-joined : (one other : List ℕ) → length one ≡ 8 → length other ≡ 8 → length (zip2 bit_or one other) ≡ 8
eight-joined one other is_one is_other = length-zip2 bit_or one other (is_one ∙ sym is_other) ∙ is_one

lane-joined : (one other : List ℕ) (k row : ℕ) → length one ≡ 8 → length other ≡ 8 → k < 8
    → is_bit (slice_index_or (zip2 bit_or one other) k 0) row ≡ (is_bit (slice_index_or one k 0) row || is_bit (slice_index_or other k 0) row)
lane-joined one other k row is_one is_other low =
    ap (λ (w : ℕ). is_bit w row) (get_or-zip2 bit_or one other k 0 0 0 (omega (arith, is_one, low)) (omega (arith, is_other, low)))
    ∙ is_bit-or (slice_index_or one k 0) (slice_index_or other k 0) row

pub lane-common : (one other : List ℕ) (k row : ℕ) → length one ≡ 8 → length other ≡ 8 → k < 8
    → is_bit (slice_index_or (zip2 bit_and one other) k 0) row ≡ (is_bit (slice_index_or one k 0) row && is_bit (slice_index_or other k 0) row)
lane-common one other k row is_one is_other low =
    ap (λ (w : ℕ). is_bit w row) (get_or-zip2 bit_and one other k 0 0 0 (omega (arith, is_one, low)) (omega (arith, is_other, low)))
    ∙ is_bit-and (slice_index_or one k 0) (slice_index_or other k 0) row

-- the rows at which eight contacts are closed
pub closed-lanes : (digits zones : List ℕ) (exits count k row : ℕ) (one other : List ℕ) (tens twos : ℕ) → k < 8 → length one ≡ 8 → length other ≡ 8
    → is_bit (slice_index_or one k 0) row ≡ (is_bit tens k && is_bit 1023 row)
    → is_bit (slice_index_or other k 0) row ≡ (is_bit twos k && is_bit 3072 row)
    → is_bit tens k ≡ (nat_lt k count && has_place digits (exits + k)) → is_bit twos k ≡ (nat_lt k count && has_place zones (exits + k))
    → is_bit (slice_index_or (zip2 bit_or one other) k 0) row ≡ (nat_lt k count && is_closed_at digits zones row (exits + k))
closed-lanes digits zones exits count k row one other tens twos low is_one is_other first second with_tens with_twos =
    lane-joined one other k row is_one is_other low
    ∙ (λ i. first i || second i)
    ∙ (λ i. (with_tens i && is_bit 1023 row) || (with_twos i && is_bit 3072 row))
    ∙ regrouped (nat_lt k count) (has_place digits (exits + k)) (has_place zones (exits + k)) (is_bit 1023 row) (is_bit 3072 row)
    ∙ ap (λ b. nat_lt k count && b) (closed-by digits zones (exits + k) row)
  where
    regrouped : (c d z t u : Bool) → (((c && d) && t) || ((c && z) && u)) ≡ (c && ((d && t) || (z && u)))
    regrouped c d z t u = grind (arith, nat_tests)

-- eight sets that are written from a place on
pub is-written : (sets lanes : List ℕ) (first : ℕ) → length sets ≡ 1936 → first + 8 ≤ 1936 → length lanes ≡ 8
    → put_mid first (1936 - first) sets (put_chunk 0 (mid_of first (1936 - first) sets) lanes) ≡ put_chunk first sets lanes
is-written sets lanes first long within eight =
    let behind = length-drop first sets in
    rw (
      take_all (1936 - first) (drop first sets) (omega (arith, long, behind)),
      put_chunk_is 0 (drop first sets) lanes (omega (arith, long, behind, within, eight)),
      drop_all (1936 - first) (drop first sets) (omega (arith, long, behind)),
      append-nil,
      put_chunk_is first sets lanes (omega (arith, long, within, eight)),
    ) refl

-- eight sets that gain the rows of lanes
module _ (sets rows : List ℕ) (first place row : ℕ) (long : length sets ≡ 1936) (within : first + 8 ≤ 1936) (eight : length rows ≡ 8) where
  abbrev pub gained : List ℕ
  gained = zip2 bit_or (take 8 (drop first sets)) rows

  is_eight : length (take 8 (drop first sets)) ≡ 8
  is_eight = length-take-le 8 (drop first sets) (let l = length-drop first sets in omega (arith, l, long, within))

  pub are_eight : length gained ≡ 8
  are_eight = eight-joined (take 8 (drop first sets)) rows is_eight eight

  abbrev pub at : ℕ → ℕ
  at p = slice_index_or (put_chunk first sets gained) p 0

  index : first ≤ place → first + (place - first) ≡ place
  index from = omega (arith, from)

  pub eight-gained : is_bit (at place) row
      ≡ (has_at sets place row
      || (nat_le first place && (nat_lt (place - first) 8 && is_bit (slice_index_or rows (place - first) 0) row)))
  eight-gained = by (is_bit (at place) row) (has_at sets place row) (is_bit (slice_index_or rows (place - first) 0) row)
      (λ low. ap (λ (w : ℕ). is_bit w row) (get_or-put_chunk_below first sets gained place 0 low))
      (λ from low.
      ap (λ (p : ℕ). is_bit (at p) row) (sym (index from))
      ∙ ap (λ (w : ℕ). is_bit w row)
      (get_or-put_chunk_at first sets gained (place - first) 0 (omega (arith, are_eight, low)) (omega (arith, are_eight, long, within)))
      ∙ lane-joined (take 8 (drop first sets)) rows (place - first) row is_eight eight low
      ∙ ap (λ (w : ℕ). is_bit w row || is_bit (slice_index_or rows (place - first) 0) row)
      (get_or-take 8 (drop first sets) (place - first) 0 low ∙ get_or-drop first sets (place - first) 0
      ∙ ap (λ (p : ℕ). slice_index_or sets p 0) (index from)))
      (λ from high. ap (λ (w : ℕ). is_bit w row) (get_or-put_chunk_above first sets gained place 0 (omega (arith, are_eight, from, high))))
    where
      by : (new a b : Bool) → (place < first → new ≡ a) → (first ≤ place → place - first < 8 → new ≡ (a || b))
          → (first ≤ place → 8 ≤ place - first → new ≡ a) → new ≡ (a || (nat_le first place && (nat_lt (place - first) 8 && b)))
      by new a b before there behind = ⊎_elim
          (λ (low : place < first). let same = before low in grind (arith, nat_tests, low, same))
          (λ (from : first ≤ place). ⊎_elim
          (λ (low : place - first < 8). let joined = there from low in grind (arith, nat_tests, from, low, joined))
          (λ (high : 8 ≤ place - first). let same = behind from high in grind (arith, nat_tests, high, same)) (cases_lt (place - first) 8))
          (cases_lt place first)

-- a lane that is read at the places of an eight alone
lane-of : (exits count place : ℕ) (b s d : Bool) → count ≤ 8
    → (exits ≤ place → place - exits < 8 → b ≡ (s && (nat_lt (place - exits) count && d)))
    → (nat_le exits place && (nat_lt (place - exits) 8 && b)) ≡ (nat_le exits place && (nat_lt (place - exits) count && (s && d)))
lane-of exits count place b s d few is = ⊎_elim
    (λ (before : place < exits). grind (arith, nat_tests, before))
    (λ (from : exits ≤ place). ⊎_elim
    (λ (low : place - exits < 8). let same = is from low in grind (arith, nat_tests, same))
    (λ (high : 8 ≤ place - exits). grind (arith, nat_tests, high, few)) (cases_lt (place - exits) 8))
    (cases_lt place exits)

-- what is passed on at once is what the contacts of an eight pass on
module _ (digits zones sets near closed : List ℕ) (run : Run) (eight : IsEight run) (long : length sets ≡ 1936)
    (read : near ≡ take 8 (drop run.common sets)) (is_closed : length closed ≡ 8)
    (rows : (k row : ℕ) → k < 8 → is_bit (slice_index_or closed k 0) row ≡ (nat_lt k run.count && is_closed_at digits zones row (run.exits + k))) where
  pub near-eight : length near ≡ 8
  near-eight =
      ap (λ (l : List ℕ). length l) read
      ∙ length-take-le 8 (drop run.common sets)
      (let l = length-drop run.common sets in let high = eight.room.high in omega (arith, l, long, high))

  near-read : (k row : ℕ) → k < 8 → is_bit (slice_index_or near k 0) row ≡ has_at sets (run.common + k) row
  near-read k row low =
      ap (λ (l : List ℕ). is_bit (slice_index_or l k 0) row) read
      ∙ ap (λ (w : ℕ). is_bit w row) (get_or-take 8 (drop run.common sets) k 0 low ∙ get_or-drop run.common sets k 0)

  -- a lane has what the contact passes on
  passed-lane : (place row : ℕ)
      → (nat_le run.exits place
      && (nat_lt (place - run.exits) 8 && is_bit (slice_index_or (zip2 bit_and near closed) (place - run.exits) 0) row))
      ≡ is_passed_in digits zones sets place row run
  passed-lane place row =
      lane-of run.exits run.count place _ (has_at sets (run.common + (place - run.exits)) row) (is_closed_at digits zones row place) eight.few
      (λ from low.
      lane-common near closed (place - run.exits) row near-eight is_closed low
      ∙ (λ i. near-read (place - run.exits) row low i && rows (place - run.exits) row low i)
      ∙ ap (λ (p : ℕ). has_at sets (run.common + (place - run.exits)) row && (nat_lt (place - run.exits) run.count && is_closed_at digits zones row p))
      (index run.exits place from))
    where
      index : (exits p : ℕ) → exits ≤ p → exits + (p - exits) ≡ p
      index exits p from = omega (arith, from)

  -- the sets that gain it
  pub eight-passed : (new : List ℕ)
      → ((place row : ℕ) → has_at new place row
      ≡ (has_at sets place row
      || (nat_le run.exits place
      && (nat_lt (place - run.exits) 8 && is_bit (slice_index_or (zip2 bit_and near closed) (place - run.exits) 0) row))))
      → IsRunPassed digits zones run sets new
  eight-passed new gains place row = gains place row ∙ ap (λ b. has_at sets place row || b) (passed-lane place row)

-- where no lane has a row nothing is gained
pub none-gained : (lanes sets new : List ℕ) (exits : ℕ)
    → ((place row : ℕ) → has_at new place row
    ≡ (has_at sets place row
    || (nat_le exits place && (nat_lt (place - exits) 8 && is_bit (slice_index_or lanes (place - exits) 0) row))))
    → ((k row : ℕ) → k < 8 → is_bit (slice_index_or lanes k 0) row ≡ false) → SameSets sets new
none-gained lanes sets new exits gains none place row =
    gains place row ∙ by (has_at sets place row) (nat_le exits place) (cases_lt (place - exits) 8)
  where
    by : (a b : Bool) → (place - exits < 8) ⊎ (8 ≤ place - exits)
        → (a || (b && (nat_lt (place - exits) 8 && is_bit (slice_index_or lanes (place - exits) 0) row))) ≡ a
    by a b (inl low) = let off = none (place - exits) row low in grind (arith, nat_tests, off)
    by a b (inr high) = grind (arith, nat_tests, high)

-- where none of the near ends has a row nothing is passed on
pub idle-passed : (digits zones sets near : List ℕ) (run : Run) → IsEight run → near ≡ take 8 (drop run.common sets)
    → ((k row : ℕ) → k < 8 → is_bit (slice_index_or near k 0) row ≡ false) → IsRunPassed digits zones run sets sets
idle-passed digits zones sets near run eight read none place row =
    by (has_at sets place row) (nat_le run.exits place) run.count (place - run.exits) (has_at sets (run.common + (place - run.exits)) row)
    (is_closed_at digits zones row place) eight.few
    (λ low.
    sym (ap (λ (l : List ℕ). is_bit (slice_index_or l (place - run.exits) 0) row) read
    ∙ ap (λ (w : ℕ). is_bit w row) (get_or-take 8 (drop run.common sets) (place - run.exits) 0 low ∙ get_or-drop run.common sets (place - run.exits) 0))
    ∙ none (place - run.exits) row low)
  where
    by : (a b : Bool) (count k : ℕ) (s d : Bool) → count ≤ 8 → (k < 8 → s ≡ false) → a ≡ (a || (b && (nat_lt k count && (s && d))))
    by a b count k s d few silent = ⊎_elim
        (λ (low : k < 8). let off = silent low in grind (arith, nat_tests, off))
        (λ (high : 8 ≤ k). grind (arith, nat_tests, high, few)) (cases_lt k 8)

-- what is not false is true
pub shut : (test : Bool) → not test ≡ false → test ≡ true
shut true is = refl
shut false is = cc

-- entries gain nothing from contacts
pub run-entries : (digits zones old new : List ℕ) (run : Run) → run.exits + run.count ≤ 1040 → IsRunPassed digits zones run old new
    → HasEntriesOf old new
run-entries digits zones old new run low passed place row high =
    passed place row
    ∙ by (has_at old place row) (nat_le run.exits place) run.exits run.count place
    (has_at old (run.common + (place - run.exits)) row && is_closed_at digits zones row place) low high
  where
    by : (a b : Bool) (exits count place : ℕ) (c : Bool) → exits + count ≤ 1040 → 1040 ≤ place
        → (a || (b && (nat_lt (place - exits) count && c))) ≡ a
    by a b exits count place c low high = grind (arith, nat_tests, low, high)

-- before any run nothing is passed on
pub runs-none : (digits zones sets : List ℕ) → RunsPass digits zones [] sets sets
runs-none digits zones sets place row = sym (or-false (has_at sets place row))

-- one run more has passed on its rows
pub runs-more : (digits zones first old new : List ℕ) (runs : List Run) (i : ℕ) (d : Run) → i < length runs
    → HasRoom (slice_index_or runs i d) → HasEntriesOf first old → RunsPass digits zones (take i runs) first old
    → IsRunPassed digits zones (slice_index_or runs i d) old new → RunsPass digits zones (take (i + 1) runs) first new
runs-more digits zones first old new runs i d inside room entries before passed place row =
    passed place row
    ∙ ap (λ b. b || is_passed_in digits zones old place row run) (before place row)
    ∙ ap (λ b. (has_at first place row || list_any (is_passed_in digits zones first place row) (take i runs))
    || (nat_le run.exits place && (nat_lt (place - run.exits) run.count && (b && is_closed_at digits zones row place))))
    (entries (run.common + (place - run.exits)) row (let r = room.from in omega (arith, r)))
    ∙ regrouped (has_at first place row) (list_any (is_passed_in digits zones first place row) (take i runs))
    (is_passed_in digits zones first place row run)
    ∙ ap (λ b. has_at first place row || b) (sym (list_any_more (is_passed_in digits zones first place row) runs i d inside))
  where
    run : Run
    run = slice_index_or runs i d

pub runs-all : (digits zones old new : List ℕ) (runs : List Run) (i : ℕ) → length runs ≤ i → RunsPass digits zones (take i runs) old new
    → RunsPass digits zones runs old new
runs-all digits zones old new runs i end passed =
    subst (λ (rs : List Run). RunsPass digits zones rs old new) (take_all i runs end) passed

-- a contact of the runs that passes a row on to a place leads there, from one that has the row
pub run-found : (digits zones sets : List ℕ) (runs : List Run) (place row : ℕ) → All HasRoom runs
    → list_any (is_passed_in digits zones sets place row) runs ≡ true
    → (from : ℕ) × (from < 1936) × (place < 1040) × (is_any_contact runs from place ≡ true) × (has_at sets from row ≡ true)
    × (is_closed_at digits zones row place ≡ true)
run-found digits zones sets runs place row rooms passed =
    let one = picked HasRoom (is_passed_in digits zones sets place row) runs rooms passed in
    let run = one.0 in
    let from = run.common + (place - run.exits) in
    let low = and_parts (nat_le run.exits place) _ one.2 in
    let less = and_parts (nat_lt (place - run.exits) run.count) _ low.1 in
    let on = and_parts (has_at sets from row) (is_closed_at digits zones row place) less.1 in
    let is = and_from _ _ low.0 (and_from _ _ less.0 (itself from)) in
    let within = inside run.exits run.count low.0 less.0 in (
      from,
      (let high = one.1.high in omega (arith, high, within.0, within.1)),
      (let to = one.1.to in omega (arith, to, within.0, within.1)),
      any-contact runs from place ∙ one.3 (λ (r : Run). is_contact r from place) is,
      on.0,
      on.1,
    )
  where
    inside : (exits count : ℕ) → nat_le exits place ≡ true → nat_lt (place - exits) count ≡ true → (exits ≤ place) × (place - exits < count)
    inside exits count low less = (grind (arith, nat_tests, low), grind (arith, nat_tests, less))

-- and each such contact passes it on
pub run-from : (digits zones sets : List ℕ) (runs : List Run) (from place row : ℕ) → is_any_contact runs from place ≡ true
    → has_at sets from row ≡ true → is_closed_at digits zones row place ≡ true
    → list_any (is_passed_in digits zones sets place row) runs ≡ true
run-from digits zones sets runs from place row contact at shut =
    let one = picked (λ run. run ≡ run) (λ (run : Run). is_contact run from place) runs (λ k d inside. refl)
    (sym (any-contact runs from place) ∙ contact) in
    let run = one.0 in
    let low = and_parts (nat_le run.exits place) _ one.2 in
    let less = and_parts (nat_lt (place - run.exits) run.count) (from == run.common + (place - run.exits)) low.1 in
    let on = ap (λ (f : ℕ). has_at sets f row) (sym (equal from (run.common + (place - run.exits)) less.1)) ∙ at in
    one.3 (is_passed_in digits zones sets place row) (and_from _ _ low.0 (and_from _ _ less.0 (and_from _ _ on shut)))
