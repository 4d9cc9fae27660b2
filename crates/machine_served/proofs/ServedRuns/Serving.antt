-- A cycle in rounds, as far as it has come.
use Rattle.std.proofs.Common.{◌≡◌, ◌∙◌, ap, sym, ℕ, suc, ◌+◌, ◌<◌, ◌≤◌, inl, inr, List, map, subst, arith}
use Rattle.std.proofs.lemmas.Bool.{cases_eq}
use Rattle.std.proofs.lemmas.Simd.{map-map}
use Rattle.machine.specs.Machine.{MachineState, ended}
use Rattle.net.specs.declared.cycle.Cycle.{Cycle}
use Rattle.machine_served.proofs.ServedWords.Counts.{IsWithin, within_at_start, within_by_steps}
use Rattle.machine_served.proofs.ServedWords.FewRounds.{IsAhead, ahead_none, over_after, round_ahead, round_steps}
use Rattle.machine_served.specs.ServedWords.Orders.{IsOrder}
use Rattle.machine_served.specs.ServedWords.Steps.{AreOver, Served, Starts}
use Rattle.machine_served.specs.ServedWords.Units.{IsUnit}
use Rattle.machine_served.proofs.ServedRuns.Taken.{RoundsSoFar, rounds_more, rounds_none, rounds_of}
use Rattle.machine_served.specs.ServedRuns.Runs.{CycleInRounds, order_of}
use Rattle.machine_served.specs.ServedRuns.Seen.{RoundIs}
use Rattle.machine_served.specs.declared.served_runs.counts.Counts.{Counts}
use Rattle.machine_served.proofs.ServedUnits.Listed.{units_by_number, units_ended}
use Rattle.machine_served.specs.ServedUnits.AnyUnit.{AnyUnit, AreInOrder, any_ended, any_kind, unit_at, unit_numbers}
use Rattle.hubs.specs.SetupsWords.Wiring.{Wiring}

module _ (wiring : Wiring) (cycle : Cycle) (service : List (List ℕ)) (before : Counts) (units : ℕ → AnyUnit) where
  -- rounds are taken from the start of a cycle on, and what was counted in them
  pub record IsServing (now : Served AnyUnit) (counts : Counts) : Type 0 where
    pub start : Served AnyUnit
    pub starts : Starts any_kind cycle 45 units start
    pub rounds : ℕ
    pub seen : ℕ
    pub counted : counts.rounds ≡ before.rounds + rounds
    pub added : counts.seen ≡ before.seen + seen
    pub so_far : RoundsSoFar wiring cycle service before.rounds rounds start now seen
    pub within : IsWithin 45 now
    pub ahead : (unit : ℕ) → IsUnit 45 unit → IsAhead any_kind wiring cycle 45 rounds now unit
    pub few : rounds ≤ 15

  pub serving_start : (start : Served AnyUnit) → Starts any_kind cycle 45 units start → IsServing start before
  serving_start start starts = record {
    start = start;
    starts = starts;
    rounds = 0;
    seen = 0;
    counted = omega arith;
    added = omega arith;
    so_far = rounds_none wiring cycle service before.rounds start;
    within = within_at_start any_kind wiring cycle 45 units start starts;
    ahead = λ unit is. ahead_none any_kind wiring cycle 45 start unit;
    few = omega arith;
  }

  -- before the cycle is over fewer than fifteen are taken
  pub serving_few : (now : Served AnyUnit) (counts : Counts) → IsServing now counts → (AreOver 45 now → ⊥)
      → counts.rounds < before.rounds + 15
  serving_few now counts serving goes = elim (cases_eq serving.rounds 15) [
    | inl last ↦
        absurd (goes (over_after any_kind wiring cycle 45 now serving.within
        (subst (λ (n : ℕ). (unit : ℕ) → IsUnit 45 unit → IsAhead any_kind wiring cycle 45 n now unit) last serving.ahead)))
    | inr other ↦ omega (arith, other, serving.few, serving.counted)
  ]

  pub serving_more : (now mid : Served AnyUnit) (counts : Counts) (first : ℕ) (order : List ℕ) → IsServing now counts
      → (AreOver 45 now → ⊥) → order ≡ order_of service counts.rounds → IsOrder order → RoundIs wiring cycle order now mid first
      → IsServing mid (record { rounds = counts.rounds + 1; seen = counts.seen + first })
  serving_more now mid counts first order serving goes is whole round =
      let steps = round_steps any_kind wiring cycle 45 order now mid round.round in
      let low = serving_few now counts serving goes in
      let at : order ≡ order_of service (before.rounds + serving.rounds) = is ∙ ap (order_of service) serving.counted in
      record {
        start = serving.start;
        starts = serving.starts;
        rounds = serving.rounds + 1;
        seen = serving.seen + first;
        counted = omega (arith, serving.counted);
        added = omega (arith, serving.added);
        so_far = rounds_more wiring cycle service before.rounds serving.rounds serving.start now mid serving.seen first goes
            (subst (λ (o : List ℕ). RoundIs wiring cycle o now mid first) at round) serving.so_far;
        within = within_by_steps any_kind wiring cycle 45 steps.0 now mid steps.1 serving.within;
        ahead = λ unit unit_is.
            let e : serving.rounds + 1 ≡ suc serving.rounds = omega arith in
            subst (λ (n : ℕ). IsAhead any_kind wiring cycle 45 n mid unit) (sym e)
            (round_ahead any_kind wiring cycle 45 serving.rounds order now mid round.round serving.ahead unit unit_is
            (whole.names unit unit_is));
        few = omega (arith, low, serving.counted);
      }

  pub serving_end : (old last : MachineState) (now : Served AnyUnit) (counts : Counts) → units ≡ unit_at old → now.units ≡ unit_at last
      → AreInOrder last → IsServing now counts → AreOver 45 now → CycleInRounds wiring service cycle old (ended last cycle) before counts
  serving_end old last now counts from to ordered serving over =
      let rounds = rounds_of wiring cycle service before.rounds serving.rounds serving.start now serving.seen over serving.so_far in
      record {
        start = serving.start;
        last = now;
        rounds = serving.rounds;
        starts = subst (λ (u : ℕ → AnyUnit). Starts any_kind cycle 45 u serving.start) from serving.starts;
        taken = rounds.rounds;
        ended =
            units_ended last cycle
            ∙ ap (map (λ one. any_ended one cycle)) (sym (units_by_number last ordered))
            ∙ map-map (λ one. any_ended one cycle) (unit_at last) unit_numbers
            ∙ ap (λ (u : ℕ → AnyUnit). map (λ unit. any_ended (u unit) cycle) unit_numbers) (sym to);
        counted = serving.counted;
        seen = serving.seen;
        sees = rounds.sees;
        added = serving.added;
      }
