use Rattle.std.proofs.Common.{◌+◌, ◌≡◌, ◌||◌, ◌&&◌, ℕ, refl, take, get_or}
use Rattle.std.specs.Prelude.{◌==◌}
use Rattle.std.proofs.lemmas.List.Folds.{list_any_more}
use Rattle.machine_sets.specs.SpreadsWords.Links.{is_link, is_linked}
use Rattle.machine_sets.specs.declared.spreads.links.Link.{Link}
use Rattle.net.proofs.StraightRuns.{runs-more, runs-past}
use Rattle.net.proofs.straight.straight_of.Goals as goal
use Rattle.net.proofs.straight.straight_of.Goals.{then-link-lt-FIRST_TELLING+else-not-is_to_wheel+in_ok-add_wire, else-link-lt-FIRST_TELLING}

pub loop-link-preserved : goal.loop-link-preserved
loop-link-preserved c =
    let i = c.loop-link.link-index in
    let links = c.args.links.now in
    let link : Link = get_or links i (record { from = 0; to = 0 }) in
    let more : (f t : ℕ) → is_linked (take (i + 1) links) f t ≡ (is_linked (take i links) f t || ((f == link.from) && (t == link.to)))
    = λ f t. list_any_more (is_link f t) links i (record { from = 0; to = 0 }) c.loop-link-test.true in
    elim c.if-link-lt-FIRST_TELLING.branch [
      | then-link-lt-FIRST_TELLING+else-not-is_to_wheel+in_ok-add_wire w ↦ rw w.runs-is (
          runs-more (is_linked (take i links)) (is_linked (take (i + 1) links)) link.from link.to more c.loop-link.runs.items
          _ (w.if-not-is_to_wheel.ensures refl) w.in_ok-add_wire.ensures.inside w.in_ok-add_wire.ensures.joined c.loop-link.invariant)
      | else-link-lt-FIRST_TELLING w ↦ rw w.runs-is (runs-past (is_linked (take i links)) (is_linked (take (i + 1) links)) link.from link.to more c.loop-link.runs.items w.if-link-lt-FIRST_TELLING.false c.loop-link.invariant)
    ]
