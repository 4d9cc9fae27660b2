-- The counter groups of a machine.
use Rattle.std.proofs.Common.{◌≡◌, ◌∙◌, ap, ℕ, ◌⊎◌, arith}
use Rattle.std.proofs.lemmas.Bool.Decides.{nat_tests}
use Rattle.capacity.specs.Capacities.{Capacities, HasGroup}
use Rattle.capacity.specs.declared.group.CounterGroup.{CounterGroup}

-- a group of a machine is of one of the four widths
pub width-cases : (machine : Capacities) (group : CounterGroup) → HasGroup machine group
    → (group.width ≡ 8) ⊎ (group.width ≡ 6) ⊎ (group.width ≡ 4) ⊎ (group.width ≡ 3)
width-cases machine group has =
    let from = has.from in let to = has.to in grind (arith, nat_tests)

-- groups of one width and one number are one group
pub same_group : (one other : CounterGroup) → one.width ≡ other.width → one.number ≡ other.number → one ≡ other
same_group one other width number =
    let group : ℕ → ℕ → CounterGroup = λ w n. record { width = w; number = n } in
    ap (λ w. group w one.number) width ∙ ap (λ n. group other.width n) number
