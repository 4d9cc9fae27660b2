-- The next stop among stops that rise.
use Rattle.std.proofs.Common.{◌≡◌, refl, ap, ℕ, suc, ◌<◌, ◌≤◌, ◌==◌, ◌||◌, nat_lt, nat_le, cond, Contains, Bool, true, false, List, [], ◌∷◌, Some, None, find, arith}
use Rattle.std.specs.List.{list_any}
use Rattle.std.proofs.lemmas.Bool.Decides.{nat_tests}
use Rattle.std.proofs.lemmas.Bool.{or_right, and_parts, eq-eqb, eqb-true, leb-true}
use Rattle.std.proofs.lemmas.List.Folds.{list_any_at}
use Rattle.chart_rules.specs.Below.chart_line_rules.PrintRules.Tapes.{rise_above, are_within}

-- whether stops have one at a line
abbrev pub has_stop : List ℕ → ℕ → Bool
has_stop stops line = list_any (λ other. other == line) stops

-- a line is one of the stops where a stop is at it
pub listed_stop : (stops : List ℕ) (line : ℕ) → Contains stops line → has_stop stops line ≡ true
listed_stop stops line (place, within, is) = list_any_at (λ other. other == line) stops place line within (eq-eqb _ line is)

pub stop_listed : (stops : List ℕ) (line : ℕ) → has_stop stops line ≡ true → Contains stops line
stop_listed [] line there = cc
stop_listed (first ∷ stops) line there = by (first == line) refl there (λ more. stop_listed stops line more)
  where
    by : (b : Bool) → (first == line) ≡ b → (b || has_stop stops line) ≡ true → (has_stop stops line ≡ true → Contains stops line)
        → Contains (first ∷ stops) line
    by true same there more = (0, omega arith, eqb-true first line same)
    by false differs there more = let (place, within, is) = more there in (suc place, omega (arith, within), is)

-- stops within a form are on it
pub on_form : (last : ℕ) (stops : List ℕ) (line : ℕ) → are_within last stops ≡ true → has_stop stops line ≡ true → line ≤ last
on_form last [] line within there = cc
on_form last (first ∷ stops) line within there =
    let both = and_parts (nat_le first last) (are_within last stops) within in
    by (first == line) refl there (λ more. on_form last stops line both.1 more) (leb-true first last both.0)
  where
    by : (b : Bool) → (first == line) ≡ b → (b || has_stop stops line) ≡ true → (has_stop stops line ≡ true → line ≤ last)
        → first ≤ last → line ≤ last
    by true same there more low = grind (arith, nat_tests, same, low)
    by false differs there more low = more there

-- rising stops lie above what they rise above
pub rising : (before : ℕ) (stops : List ℕ) (stop : ℕ) → rise_above before stops ≡ true → has_stop stops stop ≡ true → before < stop
rising before [] stop rise there = cc
rising before (first ∷ stops) stop rise there =
    let parts = and_parts (nat_lt before first) (rise_above first stops) rise in
    by (first == stop) refl there (λ more. rising first stops stop parts.1 more) (grind (arith, nat_tests, parts.0))
  where
    by : (b : Bool) → (first == stop) ≡ b → (b || has_stop stops stop) ≡ true → (has_stop stops stop ≡ true → first < stop)
        → before < first → before < stop
    by true is there more low = grind (arith, nat_tests, is, low)
    by false is there more low = let high = more there in omega (arith, high, low)

-- What the first stop below a line is: a stop, below the line, and no other lies between.
pub record IsNextOf (stops : List ℕ) (line stop : ℕ) : Type 0 where
  pub is_stop : has_stop stops stop ≡ true
  pub below : line < stop
  pub first : (other : ℕ) → has_stop stops other ≡ true → line < other → stop ≤ other

pub found : (before line : ℕ) (stops : List ℕ) (stop : ℕ) → rise_above before stops ≡ true
    → find (λ other. nat_lt line other) stops ≡ Some stop → IsNextOf stops line stop
found before line [] stop rise is = cc
found before line (first ∷ stops) stop rise is =
    let parts = and_parts (nat_lt before first) (rise_above first stops) rise in
    by (nat_lt line first) refl is parts.1 (λ later. found first line stops stop parts.1 later)
  where
    not_first : (b : Bool) → (first == stop) ≡ b → nat_lt line first ≡ true → first ≡ stop → b ≡ true
    not_first b is_b low same = grind (arith, nat_tests, is_b, same)

    from_first : (other : ℕ) (a : Bool) → (first == other) ≡ a → (a || has_stop stops other) ≡ true → rise_above first stops ≡ true
        → first ≡ stop → stop ≤ other
    from_first other true is_a there rises same = grind (arith, nat_tests, is_a, same)
    from_first other false is_a there rises same = let high = rising first stops other rises there in omega (arith, high, same)

    not_this : (other : ℕ) (a : Bool) → (first == other) ≡ a → (a || has_stop stops other) ≡ true → nat_lt line first ≡ false
        → line < other → (has_stop stops other ≡ true → line < other → stop ≤ other) → stop ≤ other
    not_this other true is_a there low above more = grind (arith, nat_tests, is_a, low, above)
    not_this other false is_a there low above more = more there above

    by : (b : Bool) → nat_lt line first ≡ b → cond b (Some first) (find (λ other. nat_lt line other) stops) ≡ Some stop
        → rise_above first stops ≡ true
        → (find (λ other. nat_lt line other) stops ≡ Some stop → IsNextOf stops line stop)
        → IsNextOf (first ∷ stops) line stop
    by true low is rises more =
        let same : first ≡ stop = cc in
        record {
          is_stop = ap (λ b. b || has_stop stops stop) (not_first (first == stop) refl low same);
          below = grind (arith, nat_tests, low, same);
          first = λ other there above. from_first other (first == other) refl there rises same;
        }
    by false low is rises more =
        let next = more is in
        record {
          is_stop = or_right (first == stop) (has_stop stops stop) next.is_stop;
          below = next.below;
          first = λ other there above. not_this other (first == other) refl there low above (next.first other);
        }

pub missing : (line : ℕ) (stops : List ℕ) (stop : ℕ) → find (λ other. nat_lt line other) stops ≡ None
    → has_stop stops stop ≡ true → stop ≤ line
missing line [] stop is there = cc
missing line (first ∷ stops) stop is there =
    by (nat_lt line first) refl is (first == stop) refl there (λ later more. missing line stops stop later more)
  where
    by : (b : Bool) → nat_lt line first ≡ b → cond b (Some first) (find (λ other. nat_lt line other) stops) ≡ None
        → (a : Bool) → (first == stop) ≡ a → (a || has_stop stops stop) ≡ true
        → (find (λ other. nat_lt line other) stops ≡ None → has_stop stops stop ≡ true → stop ≤ line)
        → stop ≤ line
    by true low is a is_a there more = cc
    by false low is true is_a there more = grind (arith, nat_tests, low, is_a)
    by false low is false is_a there more = more is there
