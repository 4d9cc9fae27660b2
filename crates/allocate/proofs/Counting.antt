-- How many numbers below a bound pass a test.
use Rattle.std.proofs.Common.{◌≡◌, ◌≢◌, refl, sym, ap, ◌∙◌, ℕ, ◌<◌, ◌≤◌, ◌+◌, zero, suc, eqb, cond, arith}
use Rattle.std.proofs.Common.{Bool, true, false, not, ◌&&◌, List, [], ◌∷◌, length, get_or, ◌⊎◌, inl, inr, ⊎_elim, below_more}
use Rattle.std.specs.List.{count_by}
use Rattle.std.proofs.lemmas.Bool.{and_parts, eq-eqb, eqb-true, false≢true, not-true}
use Rattle.std.proofs.lemmas.Bool.Decides.{nat_tests}
use Rattle.std.proofs.lemmas.List.Sums.{sum_by-cons}

-- how many numbers below the bound pass the test
abbrev pub count_below : (ℕ → Bool) → ℕ → ℕ
count_below test zero = 0
count_below test (suc n) = cond (test 0) 1 0 + count_below (λ k. test (suc k)) n

-- a test that implies another is passed by no more numbers
pub count-mono : (p q : ℕ → Bool) (n : ℕ) → ((k : ℕ) → k < n → p k ≡ true → q k ≡ true)
    → count_below p n ≤ count_below q n
count-mono p q zero implies = omega arith
count-mono p q (suc n) implies =
    let rest : count_below (λ k. p (suc k)) n ≤ count_below (λ k. q (suc k)) n =
    count-mono (λ k. p (suc k)) (λ k. q (suc k)) n (λ k within. implies (suc k) (omega arith)) in
    let first : p 0 ≡ true → q 0 ≡ true = implies 0 (omega arith) in
    heads (p 0) (q 0) _ _ first rest
  where
    heads : (a b : Bool) (m n : ℕ) → (a ≡ true → b ≡ true) → m ≤ n → cond a 1 0 + m ≤ cond b 1 0 + n
    heads true true m n first rest = omega arith
    heads true false m n first rest = cc (first refl)
    heads false true m n first rest = omega arith
    heads false false m n first rest = omega arith

-- and by fewer, where some number passes the other alone
pub count-strict : (p q : ℕ → Bool) (n i : ℕ) → ((k : ℕ) → k < n → p k ≡ true → q k ≡ true) → i < n → p i ≡ false
    → q i ≡ true → count_below p n < count_below q n
count-strict p q zero i implies within misses passes = omega arith
count-strict p q (suc n) zero implies within misses passes =
    let rest : count_below (λ k. p (suc k)) n ≤ count_below (λ k. q (suc k)) n =
    count-mono (λ k. p (suc k)) (λ k. q (suc k)) n (λ k within. implies (suc k) (omega arith)) in
    rw (misses, passes) (omega arith)
count-strict p q (suc n) (suc i) implies within misses passes =
    let rest : count_below (λ k. p (suc k)) n < count_below (λ k. q (suc k)) n =
    count-strict (λ k. p (suc k)) (λ k. q (suc k)) n i (λ k within. implies (suc k) (omega arith)) (omega arith) misses passes in
    let first : p 0 ≡ true → q 0 ≡ true = implies 0 (omega arith) in
    heads (p 0) (q 0) _ _ first rest
  where
    heads : (a b : Bool) (m n : ℕ) → (a ≡ true → b ≡ true) → m < n → cond a 1 0 + m < cond b 1 0 + n
    heads true true m n first rest = omega arith
    heads true false m n first rest = cc (first refl)
    heads false true m n first rest = omega arith
    heads false false m n first rest = omega arith

-- no number passes a test that is never passed
pub count-none : (p : ℕ → Bool) (n : ℕ) → ((k : ℕ) → k < n → p k ≡ false) → count_below p n ≡ 0
count-none p zero never = refl
count-none p (suc n) never =
    let rest : count_below (λ k. p (suc k)) n ≡ 0 = count-none (λ k. p (suc k)) n (λ k within. never (suc k) (omega arith)) in
    let first : p 0 ≡ false = never 0 (omega arith) in
    rw (first, rest) refl

-- a test passed by at most one number that another is not passed by is passed by at most one number more
pub count-one_more : (p q : ℕ → Bool) (n : ℕ)
    → ((j k : ℕ) → j < n → k < n → p j ≡ true → q j ≡ false → p k ≡ true → q k ≡ false → j ≡ k)
    → count_below p n ≤ count_below q n + 1
count-one_more p q zero single = omega arith
count-one_more p q (suc n) single =
    heads
    (count-one_more (λ k. p (suc k)) (λ k. q (suc k)) n
    (λ j k within other is_in is_out other_in other_out.
    let same : suc j ≡ suc k =
    single (suc j) (suc k) (omega arith) (omega arith) is_in is_out other_in other_out in
    omega arith))
    (p 0) (q 0) refl refl
  where
    rest : p 0 ≡ true → q 0 ≡ false → (k : ℕ) → k < n → p (suc k) ≡ true → q (suc k) ≡ true
    rest is_in is_out k within other_in = by (q (suc k)) refl
      where
        by : (b : Bool) → q (suc k) ≡ b → q (suc k) ≡ true
        by true e = e
        by false e =
            let same : 0 ≡ suc k = single 0 (suc k) (omega arith) (omega arith) is_in is_out other_in e in
            absurd (omega arith)

    heads : count_below (λ k. p (suc k)) n ≤ count_below (λ k. q (suc k)) n + 1 → (a b : Bool) → p 0 ≡ a → q 0 ≡ b
        → count_below p (suc n) ≤ count_below q (suc n) + 1
    heads shifted true true is_in is_out = rw (is_in, is_out) (omega arith)
    heads shifted true false is_in is_out =
        let more : count_below (λ k. p (suc k)) n ≤ count_below (λ k. q (suc k)) n =
        count-mono (λ k. p (suc k)) (λ k. q (suc k)) n (rest is_in is_out) in
        rw (is_in, is_out) (omega arith)
    heads shifted false true is_in is_out = rw (is_in, is_out) (omega arith)
    heads shifted false false is_in is_out = rw (is_in, is_out) (omega arith)

-- a test and one number that it leaves out
abbrev but : (ℕ → Bool) → (ℕ → ℕ) → ℕ → ℕ → Bool
but p f m k = p k && not (eqb (f k) m)

-- if the numbers that pass the test stand each for another number below m, then at most m numbers pass it
pub count-injective : (p : ℕ → Bool) (f : ℕ → ℕ) (n m : ℕ) → ((k : ℕ) → k < n → p k ≡ true → f k < m)
    → ((j k : ℕ) → j < n → k < n → p j ≡ true → p k ≡ true → f j ≡ f k → j ≡ k) → count_below p n ≤ m
count-injective p f n zero below single =
    let none : count_below p n ≡ 0 = count-none p n (λ k within. never k within (p k) refl) in omega arith
  where
    never : (k : ℕ) → k < n → (b : Bool) → p k ≡ b → p k ≡ false
    never k within true e = absurd (let low = below k within e in omega arith)
    never k within false e = e
count-injective p f n (suc m) below single =
    let rest : count_below (but p f m) n ≤ m =
    count-injective (but p f m) f n m
    (λ k within both.
    let parts = and_parts _ _ both in
    let low : f k < suc m = below k within parts.0 in
    let other : eqb (f k) m ≡ false = not-true _ parts.1 in
    let differs : f k ≢ m = λ same. false≢true (sym other ∙ eq-eqb (f k) m same) in
    omega arith)
    (λ j k within other is_in other_in.
    single j k within other (and_parts _ _ is_in).0 (and_parts _ _ other_in).0) in
    let more : count_below p n ≤ count_below (but p f m) n + 1 =
    count-one_more p (but p f m) n
    (λ j k within other is_in is_out other_in other_out.
    single j k within other is_in other_in (left j is_in is_out ∙ sym (left k other_in other_out))) in
    omega arith
  where
    left : (k : ℕ) → p k ≡ true → but p f m k ≡ false → f k ≡ m
    left k is_in is_out = grind (arith, nat_tests)

-- a number that passes the test and stands for m, if there is one
find : (p : ℕ → Bool) (f : ℕ → ℕ) (m n : ℕ)
    → ((k : ℕ) × (k < n) × (p k ≡ true) × (f k ≡ m)) ⊎ ((k : ℕ) → k < n → p k ≡ true → f k ≢ m)
find p f m zero = inr (λ k within passes. absurd (omega (arith, within)))
find p f m (suc n) = by (find p f m n)
  where
    here : (a b : Bool) → p n ≡ a → eqb (f n) m ≡ b → ((k : ℕ) → k < n → p k ≡ true → f k ≢ m)
        → ((k : ℕ) × (k < suc n) × (p k ≡ true) × (f k ≡ m)) ⊎ ((k : ℕ) → k < suc n → p k ≡ true → f k ≢ m)
    here true true passes is none = inl (n, omega arith, passes, eqb-true (f n) m is)
    here true false passes is none =
        inr (λ k within. below_more (λ k. p k ≡ true → f k ≢ m) n none (λ _ same. false≢true (sym is ∙ eq-eqb (f n) m same)) k (omega (arith, within)))
    here false b fails is none =
        inr (λ k within. below_more (λ k. p k ≡ true → f k ≢ m) n none (λ passes. absurd (false≢true (sym fails ∙ passes))) k (omega (arith, within)))

    by : ((k : ℕ) × (k < n) × (p k ≡ true) × (f k ≡ m)) ⊎ ((k : ℕ) → k < n → p k ≡ true → f k ≢ m)
        → ((k : ℕ) × (k < suc n) × (p k ≡ true) × (f k ≡ m)) ⊎ ((k : ℕ) → k < suc n → p k ≡ true → f k ≢ m)
    by (inl found) = inl (found.0, omega (arith, found.1), found.2, found.3)
    by (inr none) = here (p n) (eqb (f n) m) refl refl none

-- where numbers that pass a test stand for others than m, none is left out
but-all : (p : ℕ → Bool) (f : ℕ → ℕ) (n m : ℕ) → ((k : ℕ) → k < n → p k ≡ true → f k ≢ m)
    → count_below p n ≤ count_below (but p f m) n
but-all p f n m none =
    count-mono p (but p f m) n
    (λ k within passes. let other = none k within passes in grind (arith, nat_tests))

-- where they stand each for another number, one is left out at most
but-one : (p : ℕ → Bool) (f : ℕ → ℕ) (n m : ℕ)
    → ((j k : ℕ) → j < n → k < n → p j ≡ true → p k ≡ true → f j ≡ f k → j ≡ k)
    → count_below p n ≤ count_below (but p f m) n + 1
but-one p f n m single =
    count-one_more p (but p f m) n
    (λ j k within other is_in is_out other_in other_out.
    single j k within other is_in other_in (left j is_in is_out ∙ sym (left k other_in other_out)))
  where
    left : (k : ℕ) → p k ≡ true → but p f m k ≡ false → f k ≡ m
    left k is_in is_out = grind (arith, nat_tests)

-- Numbers that pass the tests p and q stand each for another number below m, by f and by g.
pub record StandApart (p q : ℕ → Bool) (f g : ℕ → ℕ) (n m : ℕ) : Type 0 where
  pub first_below : (k : ℕ) → k < n → p k ≡ true → f k < m
  pub second_below : (k : ℕ) → k < n → q k ≡ true → g k < m
  pub first_single : (j k : ℕ) → j < n → k < n → p j ≡ true → p k ≡ true → f j ≡ f k → j ≡ k
  pub second_single : (j k : ℕ) → j < n → k < n → q j ≡ true → q k ≡ true → g j ≡ g k → j ≡ k
  pub apart : (j k : ℕ) → j < n → k < n → p j ≡ true → q k ≡ true → f j ≢ g k

-- what is left where none may stand for m
apart-but : (p q : ℕ → Bool) (f g : ℕ → ℕ) (n m : ℕ) → StandApart p q f g n (suc m)
    → StandApart (but p f m) (but q g m) f g n m
apart-but p q f g n m all =
    record {
      first_below = low p f all.first_below;
      second_below = low q g all.second_below;
      first_single = λ j k within other one two. all.first_single j k within other (passes p f j one) (passes p f k two);
      second_single = λ j k within other one two. all.second_single j k within other (passes q g j one) (passes q g k two);
      apart = λ j k within other one two. all.apart j k within other (passes p f j one) (passes q g k two);
    }
  where
    low : (test : ℕ → Bool) (h : ℕ → ℕ) → ((k : ℕ) → k < n → test k ≡ true → h k < suc m)
        → (k : ℕ) → k < n → but test h m k ≡ true → h k < m
    low test h below k within both =
        let parts = and_parts _ _ both in
        let low : h k < suc m = below k within parts.0 in
        let other : eqb (h k) m ≡ false = not-true _ parts.1 in
        let differs : h k ≢ m = λ same. false≢true (sym other ∙ eq-eqb (h k) m same) in
        omega arith

    passes : (test : ℕ → Bool) (h : ℕ → ℕ) (k : ℕ) → but test h m k ≡ true → test k ≡ true
    passes test h k both = (and_parts _ _ both).0

-- one at most stands for m
apart-step : (p q : ℕ → Bool) (f g : ℕ → ℕ) (n m : ℕ) → StandApart p q f g n (suc m)
    → count_below (but p f m) n + count_below (but q g m) n ≤ m → count_below p n + count_below q n ≤ suc m
apart-step p q f g n m all rest = by (find p f m n)
  where
    by : ((k : ℕ) × (k < n) × (p k ≡ true) × (f k ≡ m)) ⊎ ((k : ℕ) → k < n → p k ≡ true → f k ≢ m)
        → count_below p n + count_below q n ≤ suc m
    by (inl found) =
        let first = but-one p f n m all.first_single in
        let second = but-all q g n m (λ k within is same. all.apart found.0 k found.1 within found.2 is (found.3 ∙ sym same)) in
        omega (arith, rest, first, second)
    by (inr none) =
        let first = but-all p f n m none in
        let second = but-one q g n m all.second_single in
        omega (arith, rest, first, second)

-- then at most m numbers pass the tests
pub count-apart : (p q : ℕ → Bool) (f g : ℕ → ℕ) (n m : ℕ) → StandApart p q f g n m
    → count_below p n + count_below q n ≤ m
count-apart p q f g n zero all =
    let first = count-injective p f n 0 all.first_below all.first_single in
    let second = count-injective q g n 0 all.second_below all.second_single in
    omega (arith, first, second)
count-apart p q f g n (suc m) all =
    apart-step p q f g n m all (count-apart (but p f m) (but q g m) f g n m (apart-but p q f g n m all))

-- a number that passes the test p stands for v by f, or one that passes q by g
abbrev pub StandsFor : (p q : ℕ → Bool) → (f g : ℕ → ℕ) → ℕ → ℕ → Type 0
StandsFor p q f g n v =
    ((k : ℕ) × (k < n) × (p k ≡ true) × (f k ≡ v)) ⊎ ((k : ℕ) × (k < n) × (q k ≡ true) × (g k ≡ v))

-- those that don't stand for m stand for a number below it still
still : (p q : ℕ → Bool) (f g : ℕ → ℕ) (n m v : ℕ) → v < m → StandsFor p q f g n v
    → StandsFor (but p f m) (but q g m) f g n v
still p q f g n m v below (inl here) =
    let passes = here.2 in let is = here.3 in let other : v ≢ m = omega arith in
    inl (here.0, here.1, grind (arith, nat_tests), here.3)
still p q f g n m v below (inr here) =
    let passes = here.2 in let is = here.3 in let other : v ≢ m = omega arith in
    inr (here.0, here.1, grind (arith, nat_tests), here.3)

-- where a number that passes the tests stands for m, fewer stand for others
fewer : (p q : ℕ → Bool) (f g : ℕ → ℕ) (n m : ℕ) → StandsFor p q f g n m
    → count_below (but p f m) n + count_below (but q g m) n < count_below p n + count_below q n
fewer p q f g n m (inl last) =
    let strict = count-strict (but p f m) p n last.0 (λ k within both. (and_parts _ _ both).0) last.1
    (let is = last.3 in grind (arith, nat_tests)) last.2 in
    let mono = count-mono (but q g m) q n (λ k within both. (and_parts _ _ both).0) in
    omega (arith, strict, mono)
fewer p q f g n m (inr last) =
    let strict = count-strict (but q g m) q n last.0 (λ k within both. (and_parts _ _ both).0) last.1
    (let is = last.3 in grind (arith, nat_tests)) last.2 in
    let mono = count-mono (but p f m) p n (λ k within both. (and_parts _ _ both).0) in
    omega (arith, strict, mono)

-- if numbers that pass the tests stand for each number below m, then at least m numbers pass them
pub count-covers : (p q : ℕ → Bool) (f g : ℕ → ℕ) (n m : ℕ) → ((v : ℕ) → v < m → StandsFor p q f g n v)
    → m ≤ count_below p n + count_below q n
count-covers p q f g n zero covers = omega arith
count-covers p q f g n (suc m) covers =
    let rest = count-covers (but p f m) (but q g m) f g n m
    (λ v below. still p q f g n m v below (covers v (omega (arith, below)))) in
    let less = fewer p q f g n m (covers m (omega arith)) in
    omega (arith, rest, less)

-- and if they stand for each but one, then one fewer
pub count-covers_but : (p q : ℕ → Bool) (f g : ℕ → ℕ) (n m spare : ℕ)
    → ((v : ℕ) → v < m → StandsFor p q f g n v ⊎ (v ≡ spare)) → m ≤ count_below p n + count_below q n + 1
count-covers_but p q f g n zero spare covers = omega arith
count-covers_but p q f g n (suc m) spare covers =
    by (covers m (omega arith))
    (count-covers_but (but p f m) (but q g m) f g n m spare
    (λ v below. ⊎_elim (λ here. inl (still p q f g n m v below here)) (λ same. inr same) (covers v (omega (arith, below)))))
  where
    by : StandsFor p q f g n m ⊎ (m ≡ spare)
        → m ≤ count_below (but p f m) n + count_below (but q g m) n + 1
        → suc m ≤ count_below p n + count_below q n + 1
    by (inl last) rest = let less = fewer p q f g n m last in omega (arith, rest, less)
    by (inr last) rest =
        let all = count-covers p q f g n m
        (λ v below. ⊎_elim (λ here. here) (λ same. absurd (omega (arith, below, last, same))) (covers v (omega (arith, below)))) in
        omega (arith, all)

-- counting the elements of a list is counting their places
pub count_by-below : {X : Type 0} (p : X → Bool) (xs : List X) (d : X)
    → count_by p xs ≡ count_below (λ k. p (get_or xs k d)) (length xs)
count_by-below p [] d = refl
count_by-below p (x ∷ xs) d =
    sum_by-cons (λ x. cond (p x) 1 0) x xs ∙ ap (λ n. cond (p x) 1 0 + n) (count_by-below p xs d)
