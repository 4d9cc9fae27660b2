use Rattle.std.specs.Prelude.{◌≡◌, ◌≤◌, ◌<◌, ℕ, Bool, true, List}
use Rattle.hubs.specs.declared.hub.Hub.{Hub}
use Rattle.hubs.specs.declared.jack.Jack.TheVariants.{Link}
use Rattle.hubs.specs.SetupsWords.Wiring.{is_plugged}
use Rattle.net.specs.declared.cycle.Point.{Point}
use Rattle.machine.specs.declared.kept.KeptPoint.{KeptPoint}
use Rattle.print_unit.specs.ZeroControl.{is_figure}
use Rattle.proof_cycles.specs.WholeCycles.WholeCycles.{rows_received}
use Rattle.explain_wheels.specs.ExplanationsWords.Rows.{ArePictures, AreRowWays}
use Rattle.explain_wheels.proofs.explanations.significance.find_giver.Given as goal

-- LINK is plugged on each wheel behind this one, and neither it nor one between it and the wheel received a figure
abbrev pub invariant-loop-right : goal.invariant-loop-right
invariant-loop-right l = record {
  left : l.right ≤ l.wheel;
  linked : (v : ℕ) → l.right < v → v ≤ l.wheel → is_plugged l.setup (Link v) ≡ true;
  none :
      (points : List KeptPoint) (pictures : Point → Hub → Bool)
      → AreRowWays l.setup points 12 l.ways → ArePictures l.setup points pictures
      → (v : ℕ) → l.right ≤ v → v < l.wheel → is_figure (rows_received pictures v) ≡ true → ⊥;
}

abbrev pub decreases-loop-right : goal.decreases-loop-right
decreases-loop-right l = l.right
