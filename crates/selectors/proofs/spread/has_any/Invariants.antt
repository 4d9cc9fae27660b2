use Rattle.std.proofs.Common.{◌≡◌, ◌||◌, drop}
use Rattle.std.specs.List.{list_any}
use Rattle.selectors.proofs.spread.has_any.Given as goal

-- one of the things so far is set or one of the others, where any is
abbrev pub invariant-loop-thing : goal.invariant-loop-thing
invariant-loop-thing l = (l.any || list_any (λ thing. thing) (drop l.thing-index l.things)) ≡ list_any (λ thing. thing) l.things
