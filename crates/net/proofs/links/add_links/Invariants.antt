use Rattle.std.proofs.Common.{All, take}
use Rattle.net.specs.AddedWires.{AddsLinks}
use Rattle.machine_sets.specs.SpreadsWords.Links.{IsInRange}
use Rattle.net.proofs.links.add_links.Given as goal

-- the entries so far have their links
abbrev pub invariant-loop-to : goal.invariant-loop-to
invariant-loop-to l = record {
  lawful : All IsInRange l.links.items;
  added : AddsLinks l.fn.links.items l.links.items l.place (take l.to-index l.entries);
}
