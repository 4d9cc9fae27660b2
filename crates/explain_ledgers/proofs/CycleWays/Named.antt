-- The groups of a machine in a run keep their names.
use Rattle.std.proofs.Common.{◌≡◌, ◌∙◌, ap, ℕ, ◌+◌, ◌<◌, List}
use Rattle.counters.specs.Counters.{Counter, group_of_unit}
use Rattle.explain_ledgers.proofs.LedgersWords.Whole.{holds, in-cycle, start-group}
use Rattle.explain_ledgers.specs.LedgersWords.Ledgers.{Along, ComesTo, at_start, group_at, on}
use Rattle.explain_ledgers.specs.LedgersWords.Running.{HasCycle}
use Rattle.hubs.specs.SetupsWords.Wiring.{Wiring}

named-along : (wiring : Wiring) (deck : List (List ℕ)) (place : ℕ) {along : Along} → place < 32 → ComesTo wiring deck along
    → (group_at along.run.machine place).name ≡ group_of_unit (3 + place)
named-along wiring deck place low at_start = ap (λ (g : Counter). g.name) (start-group wiring deck place low)
named-along wiring deck place low (on cycle before behind comes goes) =
    let here = in-cycle wiring cycle place before behind low (holds wiring deck place low comes) goes in
    ap (λ (g : Counter). g.name) here.same ∙ here.name ∙ named-along wiring deck place low comes

-- in a cycle
pub named : (wiring : Wiring) (deck : List (List ℕ)) (passed : ℕ) (has : HasCycle wiring deck passed) (place : ℕ) → place < 32
    → (group_at has.behind place).name ≡ group_of_unit (3 + place)
named wiring deck passed has place low =
    (in-cycle wiring has.cycle place has.along has.behind low (holds wiring deck place low has.comes) has.goes).name
    ∙ named-along wiring deck place low has.comes
