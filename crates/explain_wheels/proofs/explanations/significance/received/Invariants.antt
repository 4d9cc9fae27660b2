use Rattle.std.specs.Prelude.{◌≡◌, List, length}
use Rattle.hubs.specs.SetupsWords.Wiring.{Wiring}
use Rattle.machine.specs.declared.kept.KeptPoint.{KeptPoint}
use Rattle.explain_wheels.specs.ExplanationsWords.Rows.{AreRowWays, HasReceived}
use Rattle.explain_wheels.proofs.explanations.significance.received.Given as goal

-- the rows so far are those that the wheel received
abbrev pub invariant-loop-row : goal.invariant-loop-row
invariant-loop-row l = record {
  long : length l.received ≡ 12;
  has : (wiring : Wiring) (points : List KeptPoint) → AreRowWays wiring points 12 l.ways → HasReceived wiring points l.wheel l.row l.received;
}
