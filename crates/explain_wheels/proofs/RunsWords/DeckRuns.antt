-- A run that is taken from cycle to cycle.
use Rattle.std.proofs.Common.{◌≡◌, ◌∙◌, sym, ap, subst, refl, ℕ, ◌+◌, ◌<◌, ◌≤◌, ltb, Bool, true, false, List, Some, None, arith}
use Rattle.std.proofs.lemmas.Bool.Decides.{nat_tests}
use Rattle.hubs.specs.SetupsWords.Wiring.{Wiring}
use Rattle.net.specs.Nets.{IsNetOf}
use Rattle.net.specs.declared.cycle.Cycle.{Cycle}
use Rattle.machine.specs.Cycles.{Reached}
use Rattle.machine.specs.Kept.{KeepsPoints}
use Rattle.machine.specs.Machine.{MachineState, ended}
use Rattle.machine.specs.Runs.{cards_moved, cycle_due}
use Rattle.machine.specs.Stepped.{IsUnbegun, Stepped}
use Rattle.machine.specs.declared.kept.KeptPoint.{KeptPoint}
use Rattle.machine.proofs.FewCycles.{ahead}
use Rattle.explain_wheels.specs.RunsWords.{Along, ComesTo, Ends, HasCycle, IsBegun, IsBetween, IsIn, along_after, along_at_start, along_in, along_of, at_start, on, ready}
use Rattle.explain_wheels.specs.declared.runs.DeckRun.{DeckRun}
use Rattle.explain_wheels.proofs.RunsWords.Places.{IsWithin, comes-within, goes-falls, still-due}

-- before any cycle
pub run-begun : (wiring : Wiring) (deck : List (List ℕ)) (unbegun : Stepped) (run : DeckRun) → IsUnbegun wiring unbegun
    → cards_moved unbegun.machine deck ≡ record { machine = run.machine.machine; hopper = run.hopper.now } → run.machine.net ≡ unbegun.net
    → run.card ≡ 0 → run.begun ≡ 0 → IsBegun wiring deck run
run-begun wiring deck unbegun run start moved net card begun =
    let same : along_of run ≡ along_at_start wiring deck = λ i. record {
      card = card i;
      passed = begun i;
      run = (sym moved ∙ ap (λ (m : MachineState). cards_moved m deck) start.machine) i;
    } in
    record {
      between = record {
        net = subst (IsNetOf wiring) (sym net) start.net;
        comes = subst (ComesTo wiring deck) (sym same) at_start;
      };
      start = same;
    }

module _ (wiring : Wiring) (deck : List (List ℕ)) where
  -- how far a run is
  pub between-within : (run : DeckRun) → IsBetween wiring deck run → IsWithin deck (along_of run)
  between-within run between = comes-within wiring deck between.comes

  -- it stands between two cycles, and so many are over
  pub record StandsBehind (passed : ℕ) (run : DeckRun) : Type 0 where
    pub between : IsBetween wiring deck run
    pub counted : run.begun ≡ passed

  -- a run that was to go on until so many are over stands there, if it has a cycle behind them
  pub stands-at : (count : ℕ) (run : DeckRun) → IsBetween wiring deck run → run.begun ≤ count
      → (run.begun < count → cycle_due run.machine.machine ≡ None) → HasCycle wiring deck count → StandsBehind count run
  stands-at count run between near over has = record { between = between; counted = by (ltb run.begun count) refl }
    where
      by : (b : Bool) → ltb run.begun count ≡ b → run.begun ≡ count
      by true is =
          absurd (still-due wiring deck (along_of run) count between.comes has near (over (grind (arith, nat_tests, is))))
      by false is = grind (arith, nat_tests, is, near)

  pub behind-none : (run : DeckRun) → IsBegun wiring deck run → StandsBehind 0 run
  behind-none run begun = record { between = begun.between; counted = ap (λ (a : Along). a.passed) begun.start }

  -- a cycle is due there, if the run has one behind as many or more
  pub is-due : (passed count : ℕ) (run : DeckRun) → StandsBehind passed run → HasCycle wiring deck count → passed ≤ count
      → cycle_due run.machine.machine ≡ None → ⊥
  is-due passed count run behind has within none =
      let counted = behind.counted in
      still-due wiring deck (along_of run) count behind.between.comes has (omega (arith, within, counted)) none

module _ (wiring : Wiring) (deck : List (List ℕ)) (cycle : Cycle) where
  -- behind the points of a cycle
  pub run-inside : (run made : DeckRun) (points : Stepped) → IsBetween wiring deck run → cycle_due run.machine.machine ≡ Some cycle
      → along_of made ≡ along_in cycle (along_of run) → made.machine.net ≡ run.machine.net
      → ((w : Wiring) → IsNetOf w made.machine.net → Reached w cycle 14 made.machine.machine points.machine)
      → points.net ≡ made.machine.net → IsIn wiring deck cycle (along_of run) (record made { machine = points })
  run-inside run made points between due is_made net reached same =
      let of_wiring : IsNetOf wiring made.machine.net = subst (IsNetOf wiring) (sym net) between.net in
      record {
        net = subst (IsNetOf wiring) (sym same) of_wiring;
        comes = between.comes;
        goes = record {
          due = due;
          reached =
              subst (λ (m : MachineState). Reached wiring cycle 14 m points.machine) (ap (λ (a : Along). a.run.machine) is_made)
              (reached wiring of_wiring);
        };
        card = ap (λ (a : Along). a.card) is_made;
        begun = ap (λ (a : Along). a.passed) is_made;
        hopper = ap (λ (a : Along). a.run.hopper) is_made;
      }

  -- the points that are kept are those of a cycle that is ready
  pub points-ready : (run made : DeckRun) (points : List KeptPoint) → IsBetween wiring deck run
      → along_of made ≡ along_in cycle (along_of run) → made.machine.net ≡ run.machine.net
      → ((w : Wiring) → IsNetOf w made.machine.net → KeepsPoints w cycle made.machine.machine 14 points)
      → KeepsPoints wiring cycle (ready cycle (along_of run)) 14 points
  points-ready run made points between is_made net kept =
      subst (λ (m : MachineState). KeepsPoints wiring cycle m 14 points) (ap (λ (a : Along). a.run.machine) is_made)
      (kept wiring (subst (IsNetOf wiring) (sym net) between.net))

  -- a cycle in which a run stands
  abbrev pub cycle-in : (from : Along) (run : DeckRun) → IsIn wiring deck cycle from run → HasCycle wiring deck from.passed
  cycle-in from run is = record {
    along = from;
    comes = is.comes;
    counted = refl;
    cycle = cycle;
    behind = run.machine.machine;
    goes = is.goes;
  }

  -- the end of a cycle
  pub run-ends : (from : Along) (inside : DeckRun) (after : Stepped) → IsIn wiring deck cycle from inside
      → after.machine ≡ ended inside.machine.machine cycle → after.net ≡ inside.machine.net
      → Ends wiring deck cycle from inside.machine.machine (record inside { machine = after })
  run-ends from inside after is machine net =
      let same : along_after cycle inside.machine.machine from ≡ along_of (record inside { machine = after }) = λ i. record {
        card = (sym is.card) i;
        passed = (sym is.begun) i;
        run = record { machine = (sym machine) i; hopper = (sym is.hopper) i };
      } in
      record {
        between = record {
          net = subst (IsNetOf wiring) (sym net) is.net;
          comes = subst (ComesTo wiring deck) same (on cycle from inside.machine.machine is.comes is.goes);
        };
        along = same;
      }

  -- one cycle more is over
  pub behind-more : (passed : ℕ) (run inside after : DeckRun) → StandsBehind wiring deck passed run
      → Ends wiring deck cycle (along_of run) inside.machine.machine after → StandsBehind wiring deck (passed + 1) after
  behind-more passed run inside after behind ends = record {
    between = ends.between;
    counted = sym (ap (λ (a : Along). a.passed) ends.along) ∙ ap (λ (n : ℕ). n + 1) behind.counted;
  }

  -- fewer cycles are ahead
  pub run-falls : (from : Along) (inside run : DeckRun) → IsIn wiring deck cycle from inside
      → Ends wiring deck cycle from inside.machine.machine run → ahead (along_of run).run < ahead from.run
  run-falls from inside run is ends =
      subst (λ (a : Along). ahead a.run < ahead from.run) ends.along
      (goes-falls wiring deck cycle from inside.machine.machine (comes-within wiring deck is.comes) is.goes)
