-- At most one list of counters is by the rule.
use Rattle.std.proofs.Common.{◌≡◌, sym, ◌∙◌, ℕ, zero, suc, ◌<◌, List, length, arith}
use Rattle.std.proofs.lemmas.List.{same_lists, get_or_default}
use Rattle.capacity.specs.Capacities.{Capacities}
use Rattle.capacity.specs.declared.group.CounterGroup.{CounterGroup}
use Rattle.allocate.specs.Groups.{total_at, counter_at, TakesBefore, IsByRule, IsTakenBefore}
use Rattle.chart_plans.specs.declared.plans.counter.TotalCounter.{TotalCounter}
use Rattle.chart_plans.specs.declared.plans.counter.TotalCounter.TheVariants as of
use Rattle.chart_plans.specs.declared.wanted.total.Total.{Total}
use Rattle.allocate.proofs.Assignments.{rank, rank-before}
use Rattle.allocate.proofs.Held.{takes-same, takes-single}

-- where the totals before one have the same counters in both lists, the same groups are taken before it
same_taken : (totals : List Total) (counters others : List TotalCounter) (place : ℕ)
    → ((earlier : ℕ) → TakesBefore totals earlier place → counter_at counters earlier ≡ counter_at others earlier)
    → (group : CounterGroup) → IsTakenBefore totals counters place group → IsTakenBefore totals others place group
same_taken totals counters others place same group taken =
    record { earlier = taken.earlier; before = taken.before; has = rw (same taken.earlier taken.before) at taken.has }

-- a total that has fewer than m before it has the same counter in both lists
same_below : (totals : List Total) (machine : Capacities) (counters others : List TotalCounter)
    → IsByRule totals machine counters → IsByRule totals machine others → (m place : ℕ) → place < length totals
    → rank totals place < m → counter_at counters place ≡ counter_at others place
same_below totals machine counters others rule other_rule zero place within low = absurd (omega (arith, low))
same_below totals machine counters others rule other_rule (suc m) place within low =
    let before = λ (earlier : ℕ) (first : TakesBefore totals earlier place).
    let less : rank totals earlier < rank totals place = rank-before totals earlier place first.0 first.1 in
    same_below totals machine counters others rule other_rule m earlier first.0 (omega (arith, low, less)) in
    let need = (total_at totals place).need in
    takes-single need machine (IsTakenBefore totals others place) (counter_at counters place) (counter_at others place)
    (takes-same need machine (IsTakenBefore totals counters place) (IsTakenBefore totals others place) (counter_at counters place)
    (same_taken totals counters others place before)
    (same_taken totals others counters place (λ earlier first. sym (before earlier first))) (rule.each place within))
    (other_rule.each place within)

-- at most one list of counters is by the rule
pub one_list : (totals : List Total) (machine : Capacities) (counters others : List TotalCounter)
    → IsByRule totals machine counters → IsByRule totals machine others → counters ≡ others
one_list totals machine counters others rule other_rule =
    same_lists counters others (rule.many ∙ sym other_rule.many)
    (λ place d low.
    let within : place < length totals = let many = rule.many in omega arith in
    let other_low : place < length others = let many = other_rule.many in omega arith in
    let none : TotalCounter = of.Single (record { width = 0; number = 0 }) in
    get_or_default counters place d none low
    ∙ same_below totals machine counters others rule other_rule (suc (rank totals place)) place within (omega arith)
    ∙ get_or_default others place none d other_low)
