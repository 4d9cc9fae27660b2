use Rattle.std.proofs.Common.{ℕ, ◌+◌, ◌<◌}
use Rattle.hubs.specs.declared.hub.Hub.TheVariants.{W}
use Rattle.match_plans.specs.WheelParts.{exit_of}
use Rattle.hubs.specs.SetupsWords.Wiring.{HasWire}
use Rattle.match_plans.proofs.wheel_parts.number_led.Given as goal

abbrev pub invariant-loop-place : goal.invariant-loop-place
invariant-loop-place l = (p : ℕ) → p < l.place → ¬ HasWire l.setup (exit_of l.part (p + 1)) (W l.wheel)
