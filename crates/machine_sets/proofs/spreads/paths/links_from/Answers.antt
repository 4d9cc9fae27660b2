use Rattle.std.proofs.Common.{◌∙◌, ap}
use Rattle.std.proofs.lemmas.List.{take_all}
use Rattle.std.specs.List.{filter}
use Rattle.machine_sets.specs.BitSets.Bits.{has_place}
use Rattle.machine_sets.specs.declared.spreads.links.Link.{Link}
use Rattle.machine_sets.proofs.SpreadsWords.PartedPaths.{left-from}
use Rattle.machine_sets.proofs.spreads.paths.links_from.Goals as goal

pub returns : goal.returns
returns c =
    left-from (has_place c.args.places.now) c.args.links.now c.loop-link.from.items
    (c.loop-link.invariant
    ∙ ap (filter (λ (link : Link). has_place c.args.places.now link.from)) (take_all c.loop-link.link-index c.args.links.now c.loop-link-test.false))
    c.requires
