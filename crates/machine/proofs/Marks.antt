-- Units of which some are marked: one mark after another, and all units where the others would do nothing.
use Rattle.std.proofs.Common.{◌≡◌, ◌≢◌, ℕ, zero, suc, ◌+◌, ◌*◌, ◌^◌, ◌%◌, ◌<◌, ◌≤◌, ◌⊎◌, inl, inr, Bool, true, false, not, ◌&&◌, ◌||◌, List, [], ◌∷◌, length, get_or, set, if◌then◌else◌, refl, sym, ap, ◌∙◌, arith}
use Rattle.std.specs.Prelude.{◌==◌}
use Rattle.std.specs.Int.{bit_not, trailing_zeros, w64}
use Rattle.std.specs.Int.Bits.{bit_and}
use Rattle.std.proofs.lemmas.Bool.{cases_lt}
use Rattle.std.proofs.lemmas.Bool.Decides.{nat_tests}
use Rattle.std.proofs.lemmas.Nat.{and_le_l}
use Rattle.net.proofs.Below.machine_sets.BitSets.BitLemmas.{is_bit-above, is_bit-taken, is_bit-zero, lowest_bit, taken_lower}
use Rattle.net.specs.HubSets.{is_bit}
use Rattle.machine.specs.Marked.{LosesBit, any_marked, marked_changed}

-- the word has lost one bit
abbrev pub IsTaken : ℕ → ℕ → ℕ → Type 0
IsTaken marks less place = (j : ℕ) → is_bit less j ≡ (is_bit marks j && not (j == place))

-- as code takes it
is_taken : (marks place : ℕ) → place < 64 → marks < 2 ^ 64
    → IsTaken marks (bit_and marks (bit_not w64 (1 * 2 ^ place % 2 ^ 64))) place
is_taken marks place low small j = by (cases_lt j 64) where
  less : ℕ
  less = bit_and marks (bit_not w64 (1 * 2 ^ place % 2 ^ 64))

  none : (a b : Bool) → a ≡ false → false ≡ (a && b)
  none a b e = grind (arith, nat_tests, e)

  by : (j < 64) ⊎ (64 ≤ j) → is_bit less j ≡ (is_bit marks j && not (j == place))
  by (inl below) = is_bit-taken marks place j low below
  by (inr above) =
      let smaller : less < 2 ^ 64 = omega (arith, small, and_le_l marks (bit_not w64 (1 * 2 ^ place % 2 ^ 64))) in
      is_bit-above less 64 j smaller above
      ∙ none (is_bit marks j) (not (j == place)) (is_bit-above marks 64 j small above)

-- the lowest bit, as code takes it
pub loses_lowest : (n : ℕ) → 0 < n → n < 2 ^ 64
    → LosesBit n (bit_and n (bit_not w64 (1 * 2 ^ trailing_zeros w64 n % 2 ^ 64))) (trailing_zeros w64 n)
loses_lowest n some small =
    let lowest = lowest_bit n some small in
    record { there = lowest.1; others = is_taken n (trailing_zeros w64 n) lowest.0 small; lower = taken_lower n some small }

gone : (a : Bool) (j : ℕ) → (a && not (j == j)) ≡ false
gone a j = grind (arith, nat_tests)

kept : (a : Bool) (j place : ℕ) → j ≢ place → (a && not (j == place)) ≡ a
kept a j place other = grind (arith, nat_tests, other)

-- words that agree on the places of the units
abbrev AgreeFrom : ℕ → ℕ → ℕ → ℕ → Type 0
AgreeFrom one other k many = (j : ℕ) → k ≤ j → j < k + many → is_bit one j ≡ is_bit other j

any-agree : {X : Type 0} → (test : X → Bool) (one other k : ℕ) (xs : List X) → AgreeFrom one other k (length xs)
    → any_marked one k test xs ≡ any_marked other k test xs
any-agree test one other k [] agree = refl
any-agree test one other k (x ∷ xs) agree =
    ap (λ b. (b && test x) || any_marked one (suc k) test xs) (agree k (omega arith) (omega arith))
    ∙ ap (λ b. (is_bit other k && test x) || b)
    (any-agree test one other (suc k) xs (λ j from to. agree j (omega (arith, from)) (omega (arith, to))))

changed-agree : {X : Type 0} → (change : X → X) (one other k : ℕ) (xs : List X) → AgreeFrom one other k (length xs)
    → marked_changed one k change xs ≡ marked_changed other k change xs
changed-agree change one other k [] agree = refl
changed-agree change one other k (x ∷ xs) agree =
    ap (λ b. (if b then change x else x) ∷ marked_changed one (suc k) change xs) (agree k (omega arith) (omega arith))
    ∙ ap (λ rest. (if is_bit other k then change x else x) ∷ rest)
    (changed-agree change one other (suc k) xs (λ j from to. agree j (omega (arith, from)) (omega (arith, to))))

-- one bit less, beside the units that it stands for
agree-beside : (marks less place k many : ℕ) → IsTaken marks less place → (place < k) ⊎ (k + many ≤ place)
    → AgreeFrom less marks k many
agree-beside marks less place k many taken beside j from to =
    taken j ∙ kept (is_bit marks j) j place (apart beside) where
      apart : (place < k) ⊎ (k + many ≤ place) → j ≢ place
      apart (inl before) same = omega (arith, before, from, same)
      apart (inr after) same = omega (arith, after, to, same)

any-taken-from : {X : Type 0} → (test : X → Bool) (marks less place k i : ℕ) (xs : List X) (d : X) → IsTaken marks less place
    → is_bit marks place ≡ true → k + i ≡ place → i < length xs
    → (test (get_or xs i d) || any_marked less k test xs) ≡ any_marked marks k test xs
any-taken-from test marks less place k i [] d taken at here inside = absurd (omega (arith, inside))
any-taken-from test marks less place k zero (x ∷ xs) d taken at here inside =
    let same : k ≡ place = omega (arith, here) in
    let off : is_bit less k ≡ false = taken k ∙ ap (λ p. is_bit marks k && not (k == p)) (sym same) ∙ gone (is_bit marks k) k in
    let on : is_bit marks k ≡ true = ap (is_bit marks) same ∙ at in
    let others = any-agree test less marks (suc k) xs (agree-beside marks less place (suc k) (length xs) taken (inl (omega (arith, same)))) in
    rw (off, on, others) refl
any-taken-from test marks less place k (suc i) (x ∷ xs) d taken at here inside =
    let stays : is_bit less k ≡ is_bit marks k = taken k ∙ kept (is_bit marks k) k place (λ same. omega (arith, same, here)) in
    let others = any-taken-from test marks less place (suc k) i xs d taken at (omega (arith, here)) (omega (arith, inside)) in
    ap (λ b. test (get_or xs i d) || ((b && test x) || any_marked less (suc k) test xs)) stays
    ∙ past (test (get_or xs i d)) (is_bit marks k && test x) (any_marked less (suc k) test xs) ∙ ap (λ b. (is_bit marks k && test x) || b) others
  where
    past : (a b c : Bool) → (a || (b || c)) ≡ (b || (a || c))
    past a b c = grind (arith, nat_tests)

-- the test of one marked unit, and of the others
pub any-taken : {X : Type 0} → (test : X → Bool) (marks less place : ℕ) (xs : List X) (unit : X) → IsTaken marks less place
    → is_bit marks place ≡ true → unit ≡ get_or xs place unit → place < length xs
    → (test unit || any_marked less 0 test xs) ≡ any_marked marks 0 test xs
any-taken test marks less place xs unit taken at is inside =
    ap (λ x. test x || any_marked less 0 test xs) is
    ∙ any-taken-from test marks less place 0 place xs unit taken at (omega arith) inside

-- a mark that stands for no unit
pub any-past : {X : Type 0} → (test : X → Bool) (marks less place : ℕ) (xs : List X) → IsTaken marks less place → length xs ≤ place
    → any_marked less 0 test xs ≡ any_marked marks 0 test xs
any-past test marks less place xs taken past =
    any-agree test less marks 0 xs (agree-beside marks less place 0 (length xs) taken (inr (omega (arith, past))))

-- no mark
none-from : {X : Type 0} → (test : X → Bool) (k : ℕ) (xs : List X) → any_marked 0 k test xs ≡ false
none-from test k [] = refl
none-from test k (x ∷ xs) = rw (is_bit-zero k, none-from test (suc k) xs) refl

pub any-none : {X : Type 0} → (test : X → Bool) (marks : ℕ) (xs : List X) → marks ≡ 0 → any_marked marks 0 test xs ≡ false
any-none test marks xs none = ap (λ m. any_marked m 0 test xs) none ∙ none-from test 0 xs

changed-taken-from : {X : Type 0} → (change : X → X) (marks less place k i : ℕ) (xs : List X) (d : X) → IsTaken marks less place
    → is_bit marks place ≡ true → k + i ≡ place → i < length xs
    → marked_changed less k change (set xs i (change (get_or xs i d))) ≡ marked_changed marks k change xs
changed-taken-from change marks less place k i [] d taken at here inside = absurd (omega (arith, inside))
changed-taken-from change marks less place k zero (x ∷ xs) d taken at here inside =
    let same : k ≡ place = omega (arith, here) in
    let off : is_bit less k ≡ false = taken k ∙ ap (λ p. is_bit marks k && not (k == p)) (sym same) ∙ gone (is_bit marks k) k in
    let on : is_bit marks k ≡ true = ap (is_bit marks) same ∙ at in
    let others =
    changed-agree change less marks (suc k) xs (agree-beside marks less place (suc k) (length xs) taken (inl (omega (arith, same)))) in
    rw (off, on, others) refl
changed-taken-from change marks less place k (suc i) (x ∷ xs) d taken at here inside =
    let stays : is_bit less k ≡ is_bit marks k = taken k ∙ kept (is_bit marks k) k place (λ same. omega (arith, same, here)) in
    let others = changed-taken-from change marks less place (suc k) i xs d taken at (omega (arith, here)) (omega (arith, inside)) in
    ap (λ b. (if b then change x else x) ∷ marked_changed less (suc k) change (set xs i (change (get_or xs i d)))) stays
    ∙ ap (λ rest. (if is_bit marks k then change x else x) ∷ rest) others

-- one marked unit changed, and then the others
pub changed-taken : {X : Type 0} → (change : X → X) (marks less place : ℕ) (xs : List X) (d : X) → IsTaken marks less place
    → is_bit marks place ≡ true → place < length xs
    → marked_changed less 0 change (set xs place (change (get_or xs place d))) ≡ marked_changed marks 0 change xs
changed-taken change marks less place xs d taken at inside =
    changed-taken-from change marks less place 0 place xs d taken at (omega arith) inside

pub changed-past : {X : Type 0} → (change : X → X) (marks less place : ℕ) (xs : List X) → IsTaken marks less place
    → length xs ≤ place → marked_changed less 0 change xs ≡ marked_changed marks 0 change xs
changed-past change marks less place xs taken past =
    changed-agree change less marks 0 xs (agree-beside marks less place 0 (length xs) taken (inr (omega (arith, past))))

unchanged-from : {X : Type 0} → (change : X → X) (k : ℕ) (xs : List X) → marked_changed 0 k change xs ≡ xs
unchanged-from change k [] = refl
unchanged-from change k (x ∷ xs) = rw (is_bit-zero k, unchanged-from change (suc k) xs) refl

pub changed-none : {X : Type 0} → (change : X → X) (marks : ℕ) (xs : List X) → marks ≡ 0 → marked_changed marks 0 change xs ≡ xs
changed-none change marks xs none = ap (λ m. marked_changed m 0 change xs) none ∙ unchanged-from change 0 xs

-- what one unit more has emitted
pub emitted-more : (old new one less more : Bool) → new ≡ (old || one) → (one || less) ≡ more
    → (new || less) ≡ (old || more)
emitted-more old new one less more e f = grind (arith, nat_tests, e, f)
