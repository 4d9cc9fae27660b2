-- The storage units of a machine in a run, and what they hold.
use Rattle.std.proofs.Common.{zero, suc, ◌≡◌, ◌∙◌, ap, refl, ℕ, List, [], ◌∷◌, length}
use Rattle.std.proofs.lemmas.List.{length-map}
use Rattle.hubs.specs.SetupsWords.Wiring.{Wiring}
use Rattle.net.specs.declared.cycle.Cycle.{Cycle}
use Rattle.net.specs.declared.cycle.Cycle.TheVariants.{RunIn, Card, Prog, Head}
use Rattle.machine.specs.Cycles.{Reached, point_at}
use Rattle.machine.specs.Machine.{MachineState, machine_at_start}
use Rattle.machine.specs.Runs.{cards_moved, run_at_start}
use Rattle.storage_units.specs.Storage.{StorageState, storage_ended, storage_sensed}
use Rattle.explain_ledgers.specs.LedgersWords.Ledgers.{Along, ComesTo, Goes, at_start, on, ready}

-- the cards move on, and the units stay
pub ready-storage : (cycle : Cycle) (along : Along) → (ready cycle along).storage ≡ along.run.machine.storage
ready-storage RunIn along = refl
ready-storage Card along = by along.run.hopper
  where
    by : (hopper : List (List ℕ)) → (cards_moved along.run.machine hopper).machine.storage ≡ along.run.machine.storage
    by [] = refl
    by (card ∷ cards) = refl
ready-storage (Prog level ordinal) along = refl
ready-storage (Head heading) along = refl

pub start-storage : (wiring : Wiring) (deck : List (List ℕ)) → (run_at_start wiring deck).machine.storage ≡ (machine_at_start wiring).storage
start-storage wiring [] = refl
start-storage wiring (card ∷ cards) = refl

-- as many units behind points
points-many : (wiring : Wiring) (cycle : Cycle) (points : ℕ) (old now : MachineState) → Reached wiring cycle points old now
    → length now.storage ≡ length old.storage
unfolding Reached
points-many wiring cycle zero old now same = ap (λ (m : MachineState). length m.storage) same
points-many wiring cycle (suc points) old now (mid, before, step) =
    ap (λ (m : MachineState). length m.storage) step.is_new
    ∙ length-map mid.storage (λ (s : StorageState). storage_sensed s cycle (point_at points) step.picture)
    ∙ points-many wiring cycle points old mid before

-- there are four behind the points of a cycle, if there are before it
pub goes-many : (wiring : Wiring) (cycle : Cycle) (along : Along) (behind : MachineState) → length along.run.machine.storage ≡ 4
    → Goes wiring cycle along behind → length behind.storage ≡ 4
goes-many wiring cycle along behind four goes =
    points-many wiring cycle 14 (ready cycle along) behind goes.reached ∙ ap length (ready-storage cycle along) ∙ four

-- so there are always
pub four-units : (wiring : Wiring) (deck : List (List ℕ)) {along : Along} → ComesTo wiring deck along → length along.run.machine.storage ≡ 4
four-units wiring deck at_start = ap length (start-storage wiring deck)
four-units wiring deck (on cycle along behind comes goes) =
    length-map behind.storage (λ (s : StorageState). storage_ended s cycle)
    ∙ goes-many wiring cycle along behind (four-units wiring deck comes) goes
