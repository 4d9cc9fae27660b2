-- An order has no other numbers than those of the units.
use Rattle.std.proofs.Common.{◌≡◌, ◌≢◌, ◌∙◌, ap, sym, ℕ, zero, suc, ◌+◌, ◌==◌, inl, inr, Bool, true, false, List, [], ◌∷◌, Contains, length, subst, arith, if◌then◌else◌}
use Rattle.std.proofs.lemmas.Bool.{cases_eq}
use Rattle.std.proofs.lemmas.Bool.Decides.{nat_tests}
use Rattle.std.proofs.lemmas.Map.Made.{Contains-tail}
use Rattle.machine_served.specs.ServedWords.Orders.{IsOrder, NamesAll}
use Rattle.machine_served.specs.ServedWords.Units.{IsUnit}

-- a list without the first of a number
without : ℕ → List ℕ → List ℕ
without n [] = []
without n (x ∷ xs) = if x == n then xs else x ∷ without n xs

here_without : (n x : ℕ) (xs : List ℕ) → x ≡ n → without n (x ∷ xs) ≡ xs
unfolding without
here_without n x xs is =
    let same : (x == n) ≡ true = grind (arith, nat_tests) in
    ap (λ (b : Bool). if b then xs else x ∷ without n xs) same

later_without : (n x : ℕ) (xs : List ℕ) → x ≢ n → without n (x ∷ xs) ≡ x ∷ without n xs
unfolding without
later_without n x xs apart =
    let other : (x == n) ≡ false = grind (arith, nat_tests, apart) in
    ap (λ (b : Bool). if b then xs else x ∷ without n xs) other

comes_behind : (x m : ℕ) (xs : List ℕ) → Contains xs m → Contains (x ∷ xs) m
comes_behind x m xs among = (suc among.0, omega (arith, among.1), among.2)

comes_first : (x m : ℕ) (xs : List ℕ) → x ≡ m → Contains (x ∷ xs) m
comes_first x m xs is = (0, omega arith, is)

-- one number less
shorter : (n : ℕ) (xs : List ℕ) → Contains xs n → length xs ≡ length (without n xs) + 1
shorter n [] among = absurd (omega (arith, among.1))
shorter n (x ∷ xs) among = elim (cases_eq x n) [
  | inl is ↦ omega (arith, ap length (here_without n x xs is))
  | inr apart ↦ omega (arith, ap length (later_without n x xs apart), shorter n xs (Contains-tail x xs n apart among))
]

-- and the others are still there
still : (n m : ℕ) (xs : List ℕ) → m ≢ n → Contains xs m → Contains (without n xs) m
still n m [] apart among = absurd (omega (arith, among.1))
still n m (x ∷ xs) apart among = elim (cases_eq x n) [
  | inl is ↦
      subst (λ (ys : List ℕ). Contains ys m) (sym (here_without n x xs is))
      (Contains-tail x xs m (λ same. apart (sym same ∙ is)) among)
  | inr other ↦ elim (cases_eq x m) [
    | inl same ↦
        subst (λ (ys : List ℕ). Contains ys m) (sym (later_without n x xs other)) (comes_first x m (without n xs) same)
    | inr unlike ↦
        subst (λ (ys : List ℕ). Contains ys m) (sym (later_without n x xs other))
        (comes_behind x m (without n xs) (still n m xs apart (Contains-tail x xs m unlike among)))
  ]
]

-- a list of as many numbers as there are units, with each of them, has no other
full : (count : ℕ) (xs : List ℕ) → length xs ≡ count → NamesAll count xs → (m : ℕ) → Contains xs m → IsUnit count m
full zero xs long names m among = absurd (omega (arith, long, among.1))
full (suc count) xs long names m among = elim (cases_eq m (suc count)) [
  | inl is ↦ (omega (arith, is), omega (arith, is))
  | inr below ↦
      let fewer = shorter (suc count) xs (names (suc count) (omega arith, omega arith)) in
      let found = full count (without (suc count) xs) (omega (arith, fewer, long))
      (λ unit is. still (suc count) unit xs (λ same. absurd (omega (arith, same, is.1))) (names unit (is.0, omega (arith, is.1))))
      m (still (suc count) m xs below among) in
      (found.0, omega (arith, found.1))
]

pub order_units : (order : List ℕ) → IsOrder order → (unit : ℕ) → Contains order unit → IsUnit 45 unit
order_units order is = full 45 order is.long is.names
