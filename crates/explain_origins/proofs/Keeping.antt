-- What the loop over a run keeps: the last cycle that did something.
use Rattle.std.proofs.Common.{◌≡◌, ◌∙◌, sym, ap, subst, refl, ℕ, ◌+◌, Bool, true, false, List, Option, None}
use Rattle.std.specs.Prelude.{IfSome}
use Rattle.hubs.specs.SetupsWords.Wiring.{Wiring}
use Rattle.net.specs.declared.cycle.Cycle.{Cycle}
use Rattle.machine.specs.Machine.{MachineState}
use Rattle.explain_wheels.specs.RunsWords.{Ends, IsBegun, IsIn, along_of}
use Rattle.explain_wheels.specs.declared.runs.DeckRun.{DeckRun}
use Rattle.explain_wheels.proofs.RunsWords.DeckRuns.{StandsBehind, behind-more, behind-none}
use Rattle.explain_ledgers.specs.LedgersWords.Ledgers.{Along, ComesTo, at_start, card_in, on}
use Rattle.explain_ledgers.specs.LedgersWords.Running.{HasCycle}
use Rattle.explain_origins.specs.Changes.{IsLast, IsLastBefore, begun, passed_cycle, last_with, more}
use Rattle.explain_origins.specs.declared.changes.PassedCycle.{PassedCycle}

-- A run, and the last cycle up to there that did something.
pub record Keeps (wiring : Wiring) (deck : List (List ℕ)) (passed : ℕ) (run : DeckRun) (does : Cycle → MachineState → Bool)
    (last : Option PassedCycle) : Type 0 where
  pub behind : StandsBehind wiring deck passed run
  pub is : IsLast wiring deck does (along_of run) last

-- none yet
pub keeps-begun : (wiring : Wiring) (deck : List (List ℕ)) (run : DeckRun) (does : Cycle → MachineState → Bool) → IsBegun wiring deck run
    → Keeps wiring deck 0 run does None
keeps-begun wiring deck run does begins = record {
  behind = behind-none wiring deck run begins;
  is = subst (λ (a : Along). IsLast wiring deck does a None) (sym begins.start) begun;
}

-- one cycle more
pub keeps-more : (wiring : Wiring) (deck : List (List ℕ)) (passed : ℕ) (cycle : Cycle) (run inside after : DeckRun)
    (does : Cycle → MachineState → Bool) (done : Bool) (old new : Option PassedCycle)
    → Keeps wiring deck passed run does old
    → IsIn wiring deck cycle (along_of run) inside
    → Ends wiring deck cycle (along_of run) inside.machine.machine after
    → done ≡ does cycle inside.machine.machine
    → new ≡ last_with done (record { cycle = cycle; card = inside.card; passed = passed }) old
    → Keeps wiring deck (passed + 1) after does new
keeps-more wiring deck passed cycle run inside after does done old new keeps is ends is_done taken =
    let last : new ≡ last_with (does cycle inside.machine.machine) (passed_cycle cycle (along_of run)) old =
    taken
    ∙ ap (λ (n : ℕ). last_with done (record { cycle = cycle; card = n; passed = passed }) old) is.card
    ∙ ap (λ (n : ℕ). last_with done (record { cycle = cycle; card = card_in cycle run.card; passed = n }) old) (sym keeps.behind.counted)
    ∙ ap (λ (b : Bool). last_with b (passed_cycle cycle (along_of run)) old) is_done in
    record {
      behind = behind-more wiring deck cycle passed run inside after keeps.behind ends;
      is =
          subst (λ (any : Option PassedCycle). IsLast wiring deck does (along_of after) any) (sym last)
          (subst (λ (a : Along). IsLast wiring deck does a
          (last_with (does cycle inside.machine.machine) (passed_cycle cycle (along_of run)) old)) ends.along
          (more cycle (along_of run) old inside.machine.machine keeps.is is.goes));
    }

pub kept-over : (wiring : Wiring) (deck : List (List ℕ)) (passed count : ℕ) (run : DeckRun) (does : Cycle → MachineState → Bool)
    (last : Option PassedCycle) → Keeps wiring deck passed run does last → passed ≡ count → IsLastBefore wiring deck count does last
kept-over wiring deck passed count run does last keeps counted = record {
  along = along_of run;
  counted = keeps.behind.counted ∙ counted;
  is = keeps.is;
}

-- the run of such a cycle
pub last-comes : (wiring : Wiring) (deck : List (List ℕ)) (does : Cycle → MachineState → Bool) {along : Along} {last : Option PassedCycle}
    → IsLast wiring deck does along last → ComesTo wiring deck along
last-comes wiring deck does begun = at_start
last-comes wiring deck does (more cycle along last behind is goes) = on cycle along behind (last-comes wiring deck does is) goes

-- the run has the cycle that did something
has-with : (wiring : Wiring) (deck : List (List ℕ)) (done : Bool) (here : PassedCycle) (last : Option PassedCycle)
    → HasCycle wiring deck here.passed → IfSome last (λ since. HasCycle wiring deck since.passed)
    → IfSome (last_with done here last) (λ since. HasCycle wiring deck since.passed)
has-with wiring deck true here last has before = has
has-with wiring deck false here last has before = before

pub last-has : (wiring : Wiring) (deck : List (List ℕ)) (does : Cycle → MachineState → Bool) {along : Along} {last : Option PassedCycle}
    → IsLast wiring deck does along last → IfSome last (λ since. HasCycle wiring deck since.passed)
last-has wiring deck does begun = tt
last-has wiring deck does (more cycle along last behind is goes) =
    has-with wiring deck (does cycle behind) (passed_cycle cycle along) last
    (record { along = along; comes = last-comes wiring deck does is; counted = refl; cycle = cycle; behind = behind; goes = goes })
    (last-has wiring deck does is)
