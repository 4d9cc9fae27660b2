-- What fits a machine can be planned.
use Rattle.std.proofs.Common.{◌≡◌, ◌∙◌, ℕ, ◌<◌, ◌≤◌, List, [], ◌∷◌, length, refl, ap, arith}
use Rattle.capacity.specs.Capacities.{Capacities, standard, IsAtMost}
use Rattle.chart_plans.specs.WantedWords.Wanted.{Parts, Wanted}
use Rattle.chart_plans.specs.PlansWords.Assignments.{IsAssignment}
use Rattle.chart_plans.proofs.PlansWords.Numbers.{in-order}
use Rattle.chart_plans.specs.PlansWords.PartNumbers.{AreInOrder}
use Rattle.chart_plans.specs.PlansWords.Plans.{Lists, IsWithinMachine, Serves}
use Rattle.allocate.specs.Exceeded.{FitsMachine}
use Rattle.allocate.specs.HelperCounters.{HasGroupsFor}
use Rattle.allocate.proofs.Assignments.{HasGroupsFor-from, IsAssignment-standard}
use Rattle.allocate.proofs.Order.{NotOver-fits}

-- a plan within the machine that has counters for the totals and the other parts in order, and no text that is too wide
Serves-from : (wanted : Wanted) (plan : Lists) → IsWithinMachine plan.parts → IsAssignment wanted.totals standard plan.counters
    → plan.parts ≡ wanted.parts → AreInOrder wanted.parts plan.numbers → [] ≡ wanted.wide_texts → Serves wanted plan
Serves-from wanted plan within assigned same ordered narrow =
    let pilots = ap (λ (p : Parts). length p.pilots) same in
    let comparing = ap (λ (p : Parts). length p.comparing) same in
    let storage = ap (λ (p : Parts). length p.storage) same in
    let splits = ap (λ (p : Parts). length p.splits) same in
    let minor = ap (λ (p : Parts). length p.minor) same in
    let intermediate = ap (λ (p : Parts). length p.intermediate) same in
    let major = ap (λ (p : Parts). length p.major) same in
    let width = ap length narrow in
    record {
      counters = assigned;
      parts = same;
      numbers = in-order plan.parts plan.numbers within (rw same ordered);
      pilots = λ over. omega arith;
      comparing = λ over. omega arith;
      storage_width = λ over. omega arith;
      storage_units = λ over. omega arith;
      splits = λ over. omega arith;
      minor = λ over. omega arith;
      intermediate = λ over. omega arith;
      major = λ over. omega arith;
    }

-- no text is too wide where none exceeds the width of a storage unit
wide_texts-none : (lines : List ℕ) → ¬ (0 < length lines) → [] ≡ lines
wide_texts-none [] none = refl
wide_texts-none (line ∷ lines) none = absurd (none (omega arith))

-- where what is wanted fits a machine, what its parts serve is within the standard machine
pub IsWithinMachine-fits : (wanted : Wanted) (machine : Capacities) → FitsMachine wanted machine → IsAtMost machine standard → IsWithinMachine wanted.parts
IsWithinMachine-fits wanted machine fits most =
    let not = NotOver-fits wanted machine fits in
    let below : (m n : ℕ) → ¬ (m < n) → n ≤ m = λ m n h. omega arith in
    record {
      pilots = omega (arith, below _ _ not.pilots, most.pilots);
      comparing = omega (arith, below _ _ not.comparing, most.comparing);
      storage = omega (arith, below _ _ not.storage_units, most.storage);
      splits = omega (arith, below _ _ not.splits, most.splits);
      minor = omega (arith, below _ _ not.minor, most.indicate);
      intermediate = omega (arith, below _ _ not.intermediate, most.indicate);
      major = omega (arith, below _ _ not.major, most.indicate);
    }

-- where what is wanted fits, no total text is too wide
pub wide_texts-fits : (wanted : Wanted) (machine : Capacities) → FitsMachine wanted machine → [] ≡ wanted.wide_texts
wide_texts-fits wanted machine fits = wide_texts-none wanted.wide_texts (NotOver-fits wanted machine fits).storage_width

-- where what is wanted fits, there are counter groups enough
pub HasGroupsFor-fits : (wanted : Wanted) (machine : Capacities) → FitsMachine wanted machine → HasGroupsFor machine wanted.totals
HasGroupsFor-fits wanted machine fits =
    let not = NotOver-fits wanted machine fits in
    HasGroupsFor-from wanted.totals machine not.eights not.sixes not.fours not.threes

-- a plan that serves all where what is wanted fits a machine
pub Serves-fits : (wanted : Wanted) (machine : Capacities) (plan : Lists) → FitsMachine wanted machine → IsAtMost machine standard
    → IsAssignment wanted.totals machine plan.counters → plan.parts ≡ wanted.parts → AreInOrder wanted.parts plan.numbers
    → Serves wanted plan
Serves-fits wanted machine plan fits most assigned same ordered =
    Serves-from wanted plan (rw same (IsWithinMachine-fits wanted machine fits most))
    (IsAssignment-standard wanted.totals machine plan.counters assigned most) same ordered (wide_texts-fits wanted machine fits)
