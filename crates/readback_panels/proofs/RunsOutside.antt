-- Runs of wheels on which no amount stands.
use Rattle.std.proofs.Common.{◌≡◌, ℕ, ◌+◌, ◌<◌, ◌≤◌, ◌⊎◌, inl, inr, arith, subst, sym}
use Rattle.std.proofs.lemmas.Bool.{cases_lt}
use Rattle.readback_panels.specs.Zones.{IsInZone, IsRunOutside}
use Rattle.readback_panels.specs.declared.card_line.Run.{Run}
use Rattle.hubs.specs.SetupsWords.Wiring.{Wiring}

module _ (setup : Wiring) where
  -- a run of one wheel, and one that goes on by a wheel
  pub one-outside : (run : Run) (wheel : ℕ) → run.wheel ≡ wheel → run.last_wheel ≡ wheel → ¬ IsInZone setup wheel → IsRunOutside setup run
  one-outside run wheel first last here other from to =
      let same : other ≡ wheel = omega (arith, first, last, from, to) in subst (λ (n : ℕ). ¬ IsInZone setup n) (sym same) here

  pub more-outside : (before after : Run) (wheel : ℕ) → after.wheel ≡ before.wheel → after.last_wheel ≡ wheel
      → wheel ≡ before.last_wheel + 1 → IsRunOutside setup before → ¬ IsInZone setup wheel → IsRunOutside setup after
  more-outside before after wheel first last next all here other from to = by (cases_lt other wheel)
    where
      by : (other < wheel) ⊎ (wheel ≤ other) → ¬ IsInZone setup other
      by (inl earlier) = all other (omega (arith, first, from)) (omega (arith, next, earlier))
      by (inr behind) =
          let same : other ≡ wheel = omega (arith, last, to, behind) in subst (λ (n : ℕ). ¬ IsInZone setup n) (sym same) here
