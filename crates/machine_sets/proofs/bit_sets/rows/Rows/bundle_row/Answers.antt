use Rattle.std.proofs.lemmas.List.Elements.{All-push}
use Rattle.machine_sets.specs.BitSets.Bundles.{IsBundle}
use Rattle.machine_sets.proofs.bit_sets.rows.Rows.bundle_row.Goals as goal
use Rattle.machine_sets.proofs.bit_sets.rows.Rows.bundle_row.Goals.{in-Some+in_ok-push, in_default}

pub loop-to-preserved : goal.loop-to-preserved
loop-to-preserved c =
    elim c.match-bundle_from.branch [
      | in-Some+in_ok-push w ↦
          rw (w.runs-is, w.in_ok-push.ensures.items)
          (All-push (IsBundle c.args.self.now) c.loop-to.runs.items w.in-Some.run' c.loop-to.invariant w.in-Some.ensures)
      | in_default w ↦ rw w.runs-is c.loop-to.invariant
    ]
