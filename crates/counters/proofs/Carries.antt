-- The carry through wheels, step by step.
use Rattle.std.proofs.Common.{◌≡◌, ◌∙◌, refl, sym, ap, ℕ, zero, suc, ◌+◌, ◌<◌, ◌==◌, ◌&&◌, ◌||◌, ◌⊎◌, inl, inr, Bool, true, false, List, [], ◌∷◌, ◌++◌, length, take, drop, get_or, arith}
use Rattle.std.proofs.lemmas.Bool.{and_from, and_parts, false≢true, or_cases, or_left, or_right}
use Rattle.std.proofs.lemmas.Bool.Decides.{nat_tests}
use Rattle.std.proofs.lemmas.List.{take-append-drop}
use Rattle.counters.specs.Places.{FollowsSteps, GetsCarry, PassOn, RingsFollowCarryRule, WheelsFollowCarryRule, wheel_at, wheels_below}
use Rattle.counters.specs.Wheels.{Wheel, all_nines, passes, stands, stepped, carries_out, carries_in, turned, turned_round}

-- as many digits as wheels
pub length-turned : (ws : List Wheel) (carry : Bool) → length (turned ws carry) ≡ length ws
length-turned [] carry = refl
length-turned (w ∷ ws) carry = ap suc (length-turned ws carry)

-- a carry through two rows of wheels goes through the lower one first
pub carries_out-append : (upper lower : List Wheel) (carry : Bool)
    → carries_out (upper ++ lower) carry ≡ carries_out upper (carries_out lower carry)
carries_out-append [] lower carry = refl
carries_out-append (w ∷ upper) lower carry =
    ap (λ b. passes w || ((stands w == 9) && b)) (carries_out-append upper lower carry)

-- the digits of two rows of wheels through which a carry goes
pub turned-append : (upper lower : List Wheel) (carry : Bool)
    → turned (upper ++ lower) carry ≡ turned upper (carries_out lower carry) ++ turned lower carry
turned-append [] lower carry = refl
turned-append (w ∷ upper) lower carry =
    ap (λ b. stepped w b ∷ turned (upper ++ lower) carry) (carries_out-append upper lower carry)
    ∙ ap (λ ds. stepped w (carries_out upper (carries_out lower carry)) ∷ ds) (turned-append upper lower carry)

-- A carry leaves the top where one leaves it anyway, or where one comes in and all wheels stand at 9.
pub carries_out-split : (ws : List Wheel) (carry : Bool)
    → carries_out ws carry ≡ (carries_out ws false || (all_nines ws && carry))
carries_out-split [] carry = refl
carries_out-split (w ∷ ws) carry =
    split (passes w) (stands w == 9) (carries_out ws false) (all_nines ws) carry (carries_out-split ws carry)
  where
    split : (p n a b c : Bool) {d : Bool} → d ≡ (a || (b && c)) → (p || (n && d)) ≡ ((p || (n && a)) || ((n && b) && c))
    split true n a b c e = refl
    split false true a b c e = e
    split false false a b c e = refl

-- Wheels pass a carry on as it comes, or what leaves them doesn't hang on it.
passes_on : (p n : Bool) (below : Bool → Bool)
    → ((c : Bool) → below c ≡ c) ⊎ ((one other : Bool) → below one ≡ below other)
    → ((c : Bool) → (p || (n && below c)) ≡ c) ⊎ ((one other : Bool) → (p || (n && below one)) ≡ (p || (n && below other)))
passes_on true n below kind = inr (λ one other. refl)
passes_on false false below kind = inr (λ one other. refl)
passes_on false true below kind = kind

pub carries_out-kind : (ws : List Wheel)
    → ((c : Bool) → carries_out ws c ≡ c) ⊎ ((one other : Bool) → carries_out ws one ≡ carries_out ws other)
carries_out-kind [] = inl (λ c. refl)
carries_out-kind (w ∷ ws) = passes_on (passes w) (stands w == 9) (carries_out ws) (carries_out-kind ws)

-- what comes round brings no other carry out
pub carries_out-again : (ws : List Wheel) → carries_out ws (carries_out ws false) ≡ carries_out ws false
carries_out-again ws = elim (carries_out-kind ws) [
  | inl same ↦ same (carries_out ws false)
  | inr alike ↦ alike (carries_out ws false) false
]

-- the carry that comes to a wheel of a ring is that of the ring's order from the wheel down
round : (upper lower : List Wheel)
    → carries_out lower (carries_out (upper ++ lower) false) ≡ carries_out (lower ++ upper) false
round upper lower = elim (carries_out-kind lower) [
  | inl same ↦
      same (carries_out (upper ++ lower) false) ∙ carries_out-append upper lower false ∙ ap (carries_out upper) (same false)
      ∙ sym (same (carries_out upper false)) ∙ sym (carries_out-append lower upper false)
  | inr alike ↦ alike (carries_out (upper ++ lower) false) (carries_out upper false) ∙ sym (carries_out-append lower upper false)
]

pub comes_from_below : (is_ring : Bool) (ws : List Wheel) (k : ℕ)
    → carries_out (drop (k + 1) ws) (carries_in is_ring ws) ≡ carries_out (wheels_below is_ring ws k) false
comes_from_below true ws k =
    ap (λ (all : List Wheel). carries_out (drop (k + 1) ws) (carries_out all false)) (sym (take-append-drop (k + 1) ws))
    ∙ round (take (k + 1) ws) (drop (k + 1) ws)
comes_from_below false ws k = sym (carries_out-append (drop (k + 1) ws) [] false)

-- each wheel stands, in the end, by the carry of those below it
pub turned-at : (ws : List Wheel) (carry : Bool) (k : ℕ) → k < length ws
    → get_or (turned ws carry) k 0 ≡ stepped (wheel_at ws k) (carries_out (drop (k + 1) ws) carry)
turned-at [] carry k within = absurd (omega (arith, within))
turned-at (w ∷ ws) carry zero within = refl
turned-at (w ∷ ws) carry (suc k) within =
    let next : suc (k + 1) ≡ suc k + 1 = omega arith in
    turned-at ws carry k (omega (arith, within))
    ∙ ap (λ n. stepped (wheel_at ws k) (carries_out (drop n (w ∷ ws)) carry)) next

-- a carry comes from below where the rule says so
pub carry-from_rule : (ws : List Wheel) (from : ℕ) → from < length ws → passes (wheel_at ws from) ≡ true
    → ((place : ℕ) → place < from → stands (wheel_at ws place) ≡ 9) → carries_out ws false ≡ true
carry-from_rule [] from within passed between = absurd (omega (arith, within))
carry-from_rule (w ∷ ws) zero within passed between = ap (λ b. b || ((stands w == 9) && carries_out ws false)) passed
carry-from_rule (w ∷ ws) (suc from) within passed between =
    let rest = carry-from_rule ws from (omega (arith, within)) passed (λ place before. between (suc place) (omega (arith, before))) in
    let nine : (stands w == 9) ≡ true = grind (arith, nat_tests, between 0 (omega arith)) in
    by (passes w) nine rest
  where
    by : (p : Bool) {n b : Bool} → n ≡ true → b ≡ true → (p || (n && b)) ≡ true
    by p e f = grind (arith, nat_tests, e, f)

-- and only there
further : (w : Wheel) (ws : List Wheel) → (carries_out ws false ≡ true → GetsCarry ws)
    → (p : Bool) → passes w ≡ p → (p || ((stands w == 9) && carries_out ws false)) ≡ true → GetsCarry (w ∷ ws)
further w ws rest true passed carry = record {
  from = 0;
  within = omega arith;
  passed = passed;
  between = λ place before. absurd (omega (arith, before));
}
further w ws rest false passed carry =
    let nine : stands w ≡ 9 = grind (arith, nat_tests, carry) in
    let below : carries_out ws false ≡ true = grind (arith, nat_tests, carry) in
    let gets = rest below in
    record {
      from = suc gets.from;
      within = omega (arith, gets.within);
      passed = gets.passed;
      between = between_all (λ place. stands (wheel_at (w ∷ ws) place)) gets.from nine gets.between;
    }
  where
    between_all : (f : ℕ → ℕ) (from : ℕ) → f 0 ≡ 9 → ((place : ℕ) → place < from → f (suc place) ≡ 9)
        → (place : ℕ) → place < suc from → f place ≡ 9
    between_all f from first others zero before = first
    between_all f from first others (suc place) before = others place (omega (arith, before))

pub rule-from_carry : (ws : List Wheel) → carries_out ws false ≡ true → GetsCarry ws
rule-from_carry [] carry = absurd (false≢true carry)
rule-from_carry (w ∷ ws) carry = further w ws (rule-from_carry ws) (passes w) refl carry

-- all wheels stand at 9 where each of them does
pub all_nines-places : (ws : List Wheel) → ((place : ℕ) → place < length ws → stands (wheel_at ws place) ≡ 9) → all_nines ws ≡ true
all_nines-places [] nines = refl
all_nines-places (w ∷ ws) nines =
    and_from (stands w == 9) (all_nines ws) (by (nines 0 (omega arith)))
    (all_nines-places ws (λ place within. nines (suc place) (omega (arith, within))))
  where
    by : {n : ℕ} → n ≡ 9 → (n == 9) ≡ true
    by e = grind (arith, nat_tests, e)

pub places-all_nines : (ws : List Wheel) → all_nines ws ≡ true → (place : ℕ) → place < length ws → stands (wheel_at ws place) ≡ 9
places-all_nines [] all place within = absurd (omega (arith, within))
places-all_nines (w ∷ ws) all zero within = by (and_parts (stands w == 9) (all_nines ws) all).0
  where
    by : {n : ℕ} → (n == 9) ≡ true → n ≡ 9
    by e = grind (arith, nat_tests, e)
places-all_nines (w ∷ ws) all (suc place) within =
    places-all_nines ws (and_parts (stands w == 9) (all_nines ws) all).1 place (omega (arith, within))

-- digits follow where a test tells which places get a step
follows : (Gets : ℕ → Type 0) (gets : ℕ → Bool) (ws : List Wheel) (digits : List ℕ) → length digits ≡ length ws
    → ((place : ℕ) → place < length ws → get_or digits place 0 ≡ stepped (wheel_at ws place) (gets place))
    → ((place : ℕ) → Gets place → gets place ≡ true) → ((place : ℕ) → gets place ≡ true → Gets place)
    → FollowsSteps Gets ws digits
follows Gets gets ws digits long at there back = record {
  as_many = long;
  stepped = λ place within got. at place within ∙ ap (stepped (wheel_at ws place)) (there place got);
  others = λ place within none. at place within ∙ ap (stepped (wheel_at ws place)) (off place none (gets place) refl);
}
  where
    off : (place : ℕ) → ¬ Gets place → (b : Bool) → gets place ≡ b → gets place ≡ false
    off place none true e = absurd (none (back place e))
    off place none false e = e

-- the wheels of a group turn by the rule
pub turned-rule : WheelsFollowCarryRule
turned-rule carry ws =
    follows (λ place. GetsCarry (drop (place + 1) ws) ⊎ PassOn carry (drop (place + 1) ws)) (λ place. carries_out (drop (place + 1) ws) carry)
    ws (turned ws carry) (length-turned ws carry) (λ place within. turned-at ws carry place within)
    (λ place. on (drop (place + 1) ws)) (λ place. back (drop (place + 1) ws))
  where
    on : (below : List Wheel) → GetsCarry below ⊎ PassOn carry below → carries_out below carry ≡ true
    on below (inl gets) =
        carries_out-split below carry
        ∙ or_left (carries_out below false) _ (carry-from_rule below gets.from gets.within gets.passed gets.between)
    on below (inr pass) =
        carries_out-split below carry
        ∙ or_right (carries_out below false) _ (and_from (all_nines below) carry (all_nines-places below pass.nines) pass.came)

    back : (below : List Wheel) → carries_out below carry ≡ true → GetsCarry below ⊎ PassOn carry below
    back below out =
        elim (or_cases (carries_out below false) (all_nines below && carry) (sym (carries_out-split below carry) ∙ out)) [
          | inl anyway ↦ inl (rule-from_carry below anyway)
          | inr passed ↦
              let both = and_parts (all_nines below) carry passed in
              inr (record { came = both.1; nines = places-all_nines below both.0 })
        ]

-- the wheels of a ring turn by the rule of its order
pub turned_round-rule : RingsFollowCarryRule
turned_round-rule is_ring ws =
    follows (λ place. GetsCarry (wheels_below is_ring ws place)) (λ place. carries_out (wheels_below is_ring ws place) false)
    ws (turned_round is_ring ws) (length-turned ws (carries_in is_ring ws))
    (λ place within.
    turned-at ws (carries_in is_ring ws) place within ∙ ap (stepped (wheel_at ws place)) (comes_from_below is_ring ws place))
    (λ place gets. carry-from_rule (wheels_below is_ring ws place) gets.from gets.within gets.passed gets.between)
    (λ place. rule-from_carry (wheels_below is_ring ws place))
