-- Where no place of the row has a group that shows a total, nothing shows it.
use Rattle.std.proofs.Common.{◌≡◌, ℕ, ◌+◌, ◌-◌, ◌<◌, ◌≤◌, ◌⊎◌, inl, inr, ◌∙◌, sym, subst, arith}
use Rattle.std.proofs.lemmas.Bool.{cases_lt}
use Rattle.capacity.specs.Capacities.{HasGroup, standard}
use Rattle.capacity.specs.declared.group.CounterGroup.{CounterGroup}
use Rattle.match_plans.specs.Groups.{group_with}
use Rattle.match_plans.specs.Shown.{CarriesTo, IsShown, ShowsUnits, units_group}
use Rattle.match_plans.proofs.Rows.{has-place}
use Rattle.chart_plans.specs.declared.plans.counter.TotalCounter.{TotalCounter}
use Rattle.chart_plans.specs.declared.plans.counter.TotalCounter.TheVariants as of
use Rattle.hubs.specs.SetupsWords.Wiring.{Wiring}

-- what holds at each place before one and at that one holds at each place before the next
pub none-more : {P : ℕ → Type 0} {place : ℕ} → ((p : ℕ) → p < place → P p) → P place → (p : ℕ) → p < place + 1 → P p
none-more {P} {place} before here p less = by (cases_lt p place)
  where
    by : (p < place) ⊎ (place ≤ p) → P p
    by (inl lower) = before p lower
    by (inr above) = let same : place ≡ p = omega (arith, less, above) in subst P same here

-- no group of the machine, where none at a place
pub no-upper : {setup : Wiring} {lower : CounterGroup} {bound : ℕ} → 32 ≤ bound
    → ((p : ℕ) → p < bound → ¬ CarriesTo setup lower (group_with p)) → (upper : CounterGroup) → HasGroup standard upper → ¬ CarriesTo setup lower upper
no-upper {setup} {lower} last none upper there carries =
    let at = has-place upper there in
    none at.place (omega (arith, last, at.within)) (subst (CarriesTo setup lower) (sym at.is) carries)

-- the group of the units of a counter that is shown is one of the machine
units-there : (setup : Wiring) (level wheel need : ℕ) (counter : TotalCounter) → IsShown setup level wheel need counter
    → HasGroup standard (units_group counter)
units-there setup level wheel need (of.Single group) shown = shown.1
units-there setup level wheel need (of.Coupled lower upper) shown = shown.1

-- and it shows them
shows-units : (setup : Wiring) (level wheel need : ℕ) (counter : TotalCounter) → IsShown setup level wheel need counter
    → ShowsUnits setup level wheel (units_group counter)
shows-units setup level wheel need (of.Single group) shown = shown.2
shows-units setup level wheel need (of.Coupled lower upper) shown = shown.3

-- no counter has a group for its units that doesn't show them
pub none-with : (setup : Wiring) (level wheel need : ℕ) (lower group : CounterGroup) → lower ≡ group → ¬ ShowsUnits setup level wheel lower
    → (counter : TotalCounter) → units_group counter ≡ group → ¬ IsShown setup level wheel need counter
none-with setup level wheel need lower group is not counter same shown =
    not (subst (ShowsUnits setup level wheel) (same ∙ sym is) (shows-units setup level wheel need counter shown))

-- nor one of two groups where no carry leads to an upper one
pub none-coupled : (setup : Wiring) (level wheel need : ℕ) (lower : CounterGroup) → 8 < need
    → ((upper : CounterGroup) → HasGroup standard upper → ¬ CarriesTo setup lower upper)
    → (counter : TotalCounter) → units_group counter ≡ lower → ¬ IsShown setup level wheel need counter
none-coupled setup level wheel need lower more none (of.Single group) same (narrow, there, shows) = omega (arith, more, narrow)
none-coupled setup level wheel need lower more none (of.Coupled low high) same (wide, low_there, high_there, shows, carries) =
    none high high_there (subst (λ g. CarriesTo setup g high) same carries)

pub none-shown : (setup : Wiring) (level wheel need : ℕ) {bound : ℕ} → 32 ≤ bound
    → ((p : ℕ) → p < bound → (counter : TotalCounter) → units_group counter ≡ group_with p → ¬ IsShown setup level wheel need counter)
    → (counter : TotalCounter) → ¬ IsShown setup level wheel need counter
none-shown setup level wheel need last none counter shown =
    let at = has-place (units_group counter) (units-there setup level wheel need counter shown) in
    none at.place (omega (arith, last, at.within)) counter (sym at.is) shown

-- no number of a part, where none at a place
pub none-numbered : (P : ℕ → Type 0) {bound last : ℕ} → last ≤ bound → ((p : ℕ) → p < bound → ¬ P (p + 1)) → (n : ℕ) → 1 ≤ n → n ≤ last
    → ¬ P n
none-numbered P {bound} {last} all none n from to holds =
    let same : n ≡ (n - 1) + 1 = omega (arith, from) in
    none (n - 1) (omega (arith, from, to, all)) (subst P same holds)

-- what holds of each place holds of each number of a part
pub each-numbered : (P : ℕ → Type 0) {bound last : ℕ} → last ≤ bound → ((p : ℕ) → p < bound → P (p + 1)) → (n : ℕ) → 1 ≤ n → n ≤ last → P n
each-numbered P {bound} {last} all each n from to =
    let same : n ≡ (n - 1) + 1 = omega (arith, from) in
    subst P (sym same) (each (n - 1) (omega (arith, from, to, all)))
