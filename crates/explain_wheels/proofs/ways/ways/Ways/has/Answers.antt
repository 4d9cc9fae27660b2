use Rattle.std.proofs.Common.{◌≡◌, sym, ℕ, ◌≤◌, Some, None, Option, not, nat_eq, true, arith}
use Rattle.std.proofs.lemmas.Bool.{false≢true}
use Rattle.std.proofs.lemmas.Bool.Decides.{nat_tests}
use Rattle.explain_wheels.proofs.WaysWords.WayLemmas.{impulsed_stands, stands_as_impulsed}
use Rattle.explain_wheels.proofs.ways.ways.Ways.has.Goals as goal

pub returns-in-Some : goal.returns-in-Some
returns-in-Some c wiring exits contacts ways =
    let table = rw (← c.self.view_is) at ways in
    let stands = stands_as_impulsed wiring exits contacts c.self.inside.steps table c.args.hub c.in-Some.number (sym c.in-Some.ensures.value) in
    (λ is. stands.0 (from_test _ is), λ at_hub. to_test _ (stands.1 at_hub)) where
      from_test : (n : ℕ) → not (nat_eq n 0) ≡ true → 1 ≤ n
      from_test n is = grind (arith, nat_tests, is)

      to_test : (n : ℕ) → 1 ≤ n → not (nat_eq n 0) ≡ true
      to_test n some = grind (arith, nat_tests, some)

pub returns-in-None : goal.returns-in-None
returns-in-None c wiring exits contacts ways = (
  λ never. absurd (false≢true never),
  λ at_hub.
      let stands = impulsed_stands wiring exits contacts c.args.self.now.steps ways at_hub in
      let numbered = stands.1 in
      let none = c.in-None.ensures.value in
      absurd (out _ _ none numbered),
) where
  out : (number : Option ℕ) (n : ℕ) → None ≡ number → number ≡ Some n → ⊥
  out number n none some = cc
