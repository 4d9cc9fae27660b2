-- What holds of each of the last units holds of the unit with its number; and which units emit nothing, close nothing and sense nothing.
use Rattle.std.proofs.Common.{◌≡◌, ◌≢◌, ap, sym, refl, ℕ, ◌<◌, ◌≤◌, ◌⊎◌, Bool, false, arith, inl, inr, subst}
use Rattle.std.proofs.lemmas.Bool.{cases_eq, cases_lt}
use Rattle.hubs.specs.declared.hub.Hub.{Hub}
use Rattle.machine.specs.Fields.{IsInUnitOrder}
use Rattle.machine.specs.Machine.{MachineState}
use Rattle.net.specs.declared.cycle.Cycle.{Cycle}
use Rattle.net.specs.declared.cycle.Point.{Point}
use Rattle.machine_served.proofs.ServedRuns.Dispatch.{last_at, storage_at}
use Rattle.machine_served.specs.ServedUnits.AnyUnit.{AnyUnit, any_closes, any_emits, any_sensed, unit_at}
use Rattle.storage_units.specs.Storage.{storage_at_start}
use Rattle.machine_served.specs.ServedUnits.AnyUnit.AnyUnit.{CarriageUnit, EmittersUnit, IndicationUnit, PilotsUnit, ProgramUnit, SplitsUnit, WheelsUnit}

module _ (machine : MachineState) (ordered : IsInUnitOrder machine) where
  pub of_last : (P : AnyUnit → Type 0) (unit : ℕ) → 39 ≤ unit → unit ≤ 45
      → (unit ≡ 39 → P (PilotsUnit machine.pilots)) → (unit ≡ 40 → P (IndicationUnit machine.indicate))
      → (unit ≡ 41 → P (SplitsUnit machine.splits)) → (unit ≡ 42 → P (EmittersUnit machine.emitters))
      → (unit ≡ 43 → P (WheelsUnit machine.wheels)) → (unit ≡ 44 → P (CarriageUnit machine.carriage))
      → (unit ≡ 45 → P (ProgramUnit machine.program)) → P (unit_at machine unit)
  of_last P unit from to pilots indication splits emitters wheels carriage program = elim (cases_eq unit 39) [
    | inl is ↦ subst P (sym (last_at machine ordered unit 0 is)) (pilots is)
    | inr not39 ↦ elim (cases_eq unit 40) [
      | inl is ↦ subst P (sym (last_at machine ordered unit 1 is)) (indication is)
      | inr not40 ↦ elim (cases_eq unit 41) [
        | inl is ↦ subst P (sym (last_at machine ordered unit 2 is)) (splits is)
        | inr not41 ↦ elim (cases_eq unit 42) [
          | inl is ↦ subst P (sym (last_at machine ordered unit 3 is)) (emitters is)
          | inr not42 ↦ elim (cases_eq unit 43) [
            | inl is ↦ subst P (sym (last_at machine ordered unit 4 is)) (wheels is)
            | inr not43 ↦ elim (cases_eq unit 44) [
              | inl is ↦ subst P (sym (last_at machine ordered unit 5 is)) (carriage is)
              | inr not44 ↦
                  let is : unit ≡ 45 = omega (arith, from, to, not39, not40, not41, not42, not43, not44) in
                  subst P (sym (last_at machine ordered unit 6 is)) (program is)
            ]
          ]
        ]
      ]
    ]
  ]

  pub emits_none : (unit : ℕ) (cycle : Cycle) (point : Point) (hub : Hub) → 39 ≤ unit → unit ≤ 45 → unit ≢ 42 → unit ≢ 45
      → any_emits (unit_at machine unit) cycle point hub ≡ false
  emits_none unit cycle point hub from to not42 not45 =
      of_last (λ u. any_emits u cycle point hub ≡ false) unit from to (λ is. refl) (λ is. refl) (λ is. refl)
      (λ is. absurd (not42 is)) (λ is. refl) (λ is. refl) (λ is. absurd (not45 is))

  pub closes_none : (unit : ℕ) (cycle : Cycle) (point : Point) (hub : Hub) → 39 ≤ unit → unit ≤ 45 → unit ≢ 39 → unit ≢ 40 → unit ≢ 41
      → any_closes (unit_at machine unit) cycle point hub ≡ false
  closes_none unit cycle point hub from to not39 not40 not41 =
      of_last (λ u. any_closes u cycle point hub ≡ false) unit from to (λ is. absurd (not39 is)) (λ is. absurd (not40 is))
      (λ is. absurd (not41 is)) (λ is. refl) (λ is. refl) (λ is. refl) (λ is. refl)

  pub senses_none : (unit : ℕ) (cycle : Cycle) (point : Point) (picture : Hub → Bool) → 39 ≤ unit → unit ≤ 45 → unit ≢ 39 → unit ≢ 43
      → unit ≢ 44 → unit ≢ 45 → any_sensed (unit_at machine unit) cycle point picture ≡ unit_at machine unit
  senses_none unit cycle point picture from to not39 not43 not44 not45 =
      of_last (λ u. any_sensed u cycle point picture ≡ u) unit from to (λ is. absurd (not39 is)) (λ is. refl) (λ is. refl) (λ is. refl)
      (λ is. absurd (not43 is)) (λ is. absurd (not44 is)) (λ is. absurd (not45 is))

  -- the units but the groups, the pilots, group indication and the splits have no contacts
  pub closes_none_else : (unit : ℕ) (cycle : Cycle) (point : Point) (hub : Hub) → 1 ≤ unit → unit ≤ 45
      → (unit < 3) ⊎ (34 < unit) → unit ≢ 39 → unit ≢ 40 → unit ≢ 41 → any_closes (unit_at machine unit) cycle point hub ≡ false
  closes_none_else unit cycle point hub from to (inl low) not39 not40 not41 = elim (cases_eq unit 1) [
    | inl is ↦ ap (λ u. any_closes (unit_at machine u) cycle point hub) is
    | inr other ↦
        let is : unit ≡ 2 = omega (arith, from, low, other) in
        ap (λ u. any_closes (unit_at machine u) cycle point hub) is
  ]
  closes_none_else unit cycle point hub from to (inr high) not39 not40 not41 = elim (cases_lt unit 39) [
    | inl below ↦
        ap (λ u. any_closes u cycle point hub)
        (storage_at machine ordered unit (storage_at_start 35) (omega (arith, high)) (omega (arith, below)))
    | inr last ↦ closes_none unit cycle point hub last to not39 not40 not41
  ]
