use Rattle.std.proofs.Common.{◌≡◌, sym, ℕ, Some, None, Option}
use Rattle.std.proofs.lemmas.Bool.{false≢true}
use Rattle.explain_wheels.proofs.WaysWords.WayLemmas.{found_as_impulsed, impulsed_stands}
use Rattle.explain_wheels.proofs.ways.ways.Ways.way_to.Goals as goal

pub returns-in-Some-clause-way : goal.returns-in-Some-clause-way
returns-in-Some-clause-way c exits ways = c.way_at.ensures.way exits c.args.hub (rw (← c.self.view_is) at ways) (sym c.in-Some.ensures.value)

pub returns-in-Some-clause-found : goal.returns-in-Some-clause-found
returns-in-Some-clause-found c exits ways =
    let table = rw (← c.self.view_is) at ways in
    found_as_impulsed (λ way. way.items) c.args.setup.now exits c.args.contacts.now c.self.inside.steps c.args.hub c.in-Some.number
    c.way_at.result table (sym c.in-Some.ensures.value)
    (c.way_at.ensures.way exits c.args.hub table (sym c.in-Some.ensures.value))
    (c.way_at.ensures.some exits table)

pub returns-in-None-clause-found : goal.returns-in-None-clause-found
returns-in-None-clause-found c exits ways = (
  λ never. absurd (false≢true never),
  λ at_hub.
      let found = impulsed_stands c.args.setup.now exits c.args.contacts.now c.args.self.now.steps ways at_hub in
      let numbered = found.1 in
      let none = c.in-None.ensures.value in
      absurd (out _ _ none numbered),
) where
  out : (number : Option ℕ) (n : ℕ) → None ≡ number → number ≡ Some n → ⊥
  out number n none some = cc
