use Rattle.std.specs.Prelude.{◌≡◌, map, take}
use Rattle.show_page.specs.Page.{unasked}
use Rattle.show_page.proofs.show.unasked_wires.Given as goal

-- the wires so far
abbrev pub invariant-loop-pair : goal.invariant-loop-pair
invariant-loop-pair l = l.wires.items ≡ map unasked (take l.pair-index l.pairs)
