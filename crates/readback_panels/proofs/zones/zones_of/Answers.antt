use Rattle.std.proofs.Common.{arith}
use Rattle.std.proofs.lemmas.List.Elements.{All-nil}
use Rattle.readback_panels.proofs.LinksCovered.{cover-all}
use Rattle.readback_panels.specs.Shown.{IsAmountZone}
use Rattle.readback_panels.proofs.zones.zones_of.Goals as goal

pub loop-wheel-init : goal.loop-wheel-init
loop-wheel-init c = record {
  last = λ wheel linked below. absurd (omega (arith, linked.second, below));
  before = λ wheel linked below. absurd (omega (arith, linked.second, below));
  amounts = rw c.new-zones.ensures.items (All-nil (IsAmountZone c.args.setup.now));
}

pub returns-clause-links : goal.returns-clause-links
returns-clause-links c = cover-all c.args.setup.now c.loop-wheel.zones.items c.loop-wheel.wheel (omega (arith, c.loop-wheel-test.false)) c.loop-wheel.invariant.before
