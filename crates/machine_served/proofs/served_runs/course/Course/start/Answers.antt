use Rattle.std.proofs.Common.{◌≡◌, ◌∙◌, ◌<◌, ◌||◌, ℕ, zero, suc, false, ◌∷◌, arith, ap, refl, replicate, get_or}
use Rattle.std.proofs.lemmas.List.{get_or-replicate}
use Rattle.net.specs.Cycles.{point_at}
use Rattle.net.specs.HubSets.{HubSet, has_hub}
use Rattle.machine_served.specs.ServedWords.Units.{all_close}
use Rattle.machine_served.specs.ServedUnits.AnyUnit.{any_kind, unit_at}
use Rattle.machine_served.specs.ServedRuns.Course.{no_set}
use Rattle.machine_served.proofs.served_runs.course.Course.start.Goals as goal

-- the same everywhere
each_same : {A : Type 0} (n i : ℕ) (a : A) → get_or (replicate n a) i a ≡ a
each_same zero i a = refl
each_same (suc n) zero a = refl
each_same (suc n) (suc i) a = each_same n i a

-- the same from the second on
later_same : (place : ℕ) (first set d : HubSet) → place < 14 → 0 < place → get_or (first ∷ replicate 13 set) place d ≡ set
later_same zero first set d low after = absurd (omega (arith, after))
later_same (suc place) first set d low after = get_or-replicate 13 place set d (omega (arith, low))

pub returns : goal.returns
returns c = record {
  states = λ unit is. refl;
  places = λ unit is. each_same 46 unit 0;
  emitted = λ unit is. each_same 46 unit false;
  exits = λ place hub low. ap (λ set. has_hub set hub) (get_or-replicate 14 place c.new.result no_set low) ∙ c.new.ensures hub;
  control_point = λ hub.
      c.close_all.ensures hub
      ∙ ap (λ b. b || all_close any_kind 45 (unit_at c.args.units) c.args.cycle (point_at 0) hub) (c.new-first.ensures hub);
  later_points = λ place hub low after.
      ap (λ set. has_hub set hub) (later_same place c.close_all.new.contacts c.new-closed.result no_set low after) ∙ c.new-closed.ensures hub;
}
