use Rattle.std.proofs.Common.{◌≡◌, length, take}
use Rattle.machine_sets.specs.SpreadsWords.Links.{Spreads}
use Rattle.machine_sets.proofs.SpreadsWords.LinkLemmas.{HasExitsOf}
use Rattle.machine_sets.proofs.spreads.links.follow_links.Given as goal

-- the links so far have been followed, and exits keep their sets
abbrev pub invariant-loop-link : goal.invariant-loop-link
invariant-loop-link l = record {
  spread : Spreads (take l.link-index l.links) l.fn.sets l.sets;
  exits : HasExitsOf l.fn.sets l.sets;
  long : length l.sets ≡ 1936;
}
