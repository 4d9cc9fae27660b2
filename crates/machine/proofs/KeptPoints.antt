-- Cycles whose points are kept, point by point.
use Rattle.std.proofs.Common.{ℕ, ◌+◌, ◌<◌, sym, subst, arith, inl, inr, List, length, slice_set, get_or}
use Rattle.std.proofs.lemmas.Bool.{cases_eq}
use Rattle.std.proofs.lemmas.List.{get_or_default, get_or-set_same, get_or-set_other}
use Rattle.hubs.specs.SetupsWords.Wiring.{Wiring}
use Rattle.net.specs.Cycles.{points}
use Rattle.net.specs.declared.cycle.Cycle.{Cycle}
use Rattle.net.specs.declared.cycle.Point.{Point}
use Rattle.net.specs.declared.cycle.Point.TheVariants.{K}
use Rattle.machine.specs.Cycles.{Reached, point_at}
use Rattle.machine.specs.Kept.{IsKept, KeepsPoints, kept_at, nothing_kept}
use Rattle.machine.specs.Machine.{MachineState}
use Rattle.machine.specs.declared.kept.KeptPoint.{KeptPoint}

-- a point of the list of points is the one with its place, whatever stands past the end
pub IsKept-at : (cycle : Cycle) (now : MachineState) (kept : KeptPoint) (place : ℕ) (past : Point)
    → place < 14 → IsKept cycle (get_or points place past) now kept → IsKept cycle (point_at place) now kept
IsKept-at cycle now kept place past before =
    subst (λ (point : Point). IsKept cycle point now kept) (get_or_default points place past K before)

-- one point more is kept
pub KeepsPoints-more : (wiring : Wiring) (cycle : Cycle) (old now : MachineState) (shots : List KeptPoint) (place : ℕ) (kept : KeptPoint)
    → place < length shots → KeepsPoints wiring cycle old place shots → Reached wiring cycle place old now
    → IsKept cycle (point_at place) now kept → KeepsPoints wiring cycle old (place + 1) (slice_set shots place kept)
KeepsPoints-more wiring cycle old now shots place kept inside before reached is other low = elim (cases_eq other place) [
  | inl same ↦
      subst
      (λ (n : ℕ). (at : MachineState) × Reached wiring cycle n old at × IsKept cycle (point_at n) at (kept_at (slice_set shots place kept) n))
      (sym same) (
        now,
        reached,
        subst (λ (k : KeptPoint). IsKept cycle (point_at place) now k) (sym (get_or-set_same shots place kept nothing_kept inside)) is,
      )
  | inr different ↦
      let found = before other (omega (arith, low, different)) in (
        found.0,
        found.1,
        subst (λ (k : KeptPoint). IsKept cycle (point_at other) found.0 k)
            (sym (get_or-set_other shots place other kept nothing_kept different)) found.2,
      )
]
