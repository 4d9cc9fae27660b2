use Rattle.std.proofs.Common.{◌≡◌, ◌-◌, length, drop}
use Rattle.selectors.specs.Spread.{spread}
use Rattle.selectors.proofs.spread.spread.Given as goal

abbrev pub invariant-loop-after : goal.invariant-loop-after
invariant-loop-after l = l.bits ≡ spread l.parts (drop (length l.things - l.after) l.things)
