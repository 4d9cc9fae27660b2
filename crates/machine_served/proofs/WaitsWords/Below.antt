-- Hubs up to a number, and sets that gain one hub after another in the order of their numbers.
use Rattle.std.proofs.Common.{◌≡◌, ◌∙◌, ap, refl, ℕ, ◌+◌, ◌&&◌, ◌||◌, Bool, true, false, Option, Some, None, arith, inl, inr}
use Rattle.std.specs.Prelude.{◌==◌, nat_lt, is_some}
use Rattle.std.proofs.lemmas.Bool.{cases_eq}
use Rattle.std.proofs.lemmas.Bool.Decides.{nat_tests}
use Rattle.hubs.proofs.HubLemmas.{number_of-injective, number_of-range}
use Rattle.hubs.specs.declared.hub.Hub.{Hub}
use Rattle.hubs.specs.Hubs.{is_hub_in_range, number_of}
use Rattle.net.specs.HubSets.{is_hub, is_same_number}

-- whether a number is there and is below another
abbrev pub is_number_below : ℕ → Option ℕ → Bool
is_number_below end (Some number) = nat_lt number end
is_number_below end None = false

-- whether a hub has a number below another
abbrev pub is_below : ℕ → Hub → Bool
is_below end hub = is_number_below end (number_of hub)

-- no hub has a number below the first
pub none_below : (hub : Hub) → is_below 1 hub ≡ false
none_below hub = by (number_of hub) refl where
  by : (found : Option ℕ) → number_of hub ≡ found → is_number_below 1 found ≡ false
  by None is = refl
  by (Some n) is = let range = number_of-range hub n is in grind (arith, nat_tests, range)

-- all hubs of the panel have numbers below 1937
pub all_below : (end : ℕ) (hub : Hub) → end ≡ 1937 → is_below end hub ≡ is_hub_in_range hub
all_below end hub last = by (number_of hub) refl where
  by : (found : Option ℕ) → number_of hub ≡ found → is_number_below end found ≡ is_some found
  by None is = refl
  by (Some n) is = let range = number_of-range hub n is in grind (arith, nat_tests, range, last)

-- the next hub comes to those of a test
pub one_more :
    (test : Hub → Bool) (n : ℕ) (next hub : Hub) → number_of next ≡ Some n
    → ((is_below n hub && test hub) || (test next && is_hub next hub)) ≡ (is_below (n + 1) hub && test hub)
one_more test n next hub numbered = by (number_of hub) refl where
  same : (m : ℕ) → number_of hub ≡ Some m → m ≡ n
      → ((nat_lt m n && test hub) || (test next && (n == m))) ≡ (nat_lt m (n + 1) && test hub)
  same m is at =
      let hubs : next ≡ hub = number_of-injective next hub n numbered (is ∙ ap Some at) in
      let tests : test next ≡ test hub = ap test hubs in
      grind (arith, nat_tests, tests, at)

  other : (m : ℕ) → (m ≡ n → ⊥) → ((nat_lt m n && test hub) || (test next && (n == m))) ≡ (nat_lt m (n + 1) && test hub)
  other m apart = grind (arith, nat_tests, apart)

  by : (found : Option ℕ) → number_of hub ≡ found
      → ((is_number_below n found && test hub) || (test next && is_same_number (number_of next) found))
      ≡ (is_number_below (n + 1) found && test hub)
  by None is = ap (λ (number : Option ℕ). test next && is_same_number number None) numbered ∙ never (test next) where
    never : (b : Bool) → (b && false) ≡ false
    never true = refl
    never false = refl
  by (Some m) is =
      ap (λ (number : Option ℕ). (nat_lt m n && test hub) || (test next && is_same_number number (Some m))) numbered
      ∙ elim (cases_eq m n) [
        | inl at ↦ same m is at
        | inr apart ↦ other m apart
      ]
