use Rattle.std.proofs.Common.{◌∙◌, refl, arith}
use Rattle.net.proofs.NetWires.{Adds-none, Adds-more, Adds-all}
use Rattle.machine_sets.specs.BitSets.Rows.{leads}
use Rattle.net.proofs.net.add_row.Goals as goal

pub loop-to-init : goal.loop-to-init
loop-to-init c = record { long = refl; added = Adds-none (leads c.args.rows.now) c.args.place }

pub loop-to-preserved : goal.loop-to-preserved
loop-to-preserved c =
    let entry = c.requires.entries c.loop-to.to-index 0 c.loop-to-test.true in
    record {
      long = c.add.ensures.long ∙ c.loop-to.invariant.long;
      added = Adds-more (leads c.args.rows.now) (leads c.loop-to.rows) (leads c.add.new.self) c.args.place c.args.entries.now c.loop-to.to-index 0
          _ c.loop-to-test.true refl (omega (arith, entry.0)) c.add.ensures.added c.loop-to.invariant.added;
    }

pub add-requires : goal.add-requires
add-requires c =
    let entry = c.requires.entries c.loop-to.to-index 0 c.loop-to-test.true in
    let place = c.requires.place in
    let long = c.loop-to.invariant.long in
    record {
      row = omega (arith, place, long);
      low = omega (arith, entry.0);
      high = omega (arith, entry.1);
    }

pub returns-clause-added : goal.returns-clause-added
returns-clause-added c =
    Adds-all (leads c.args.rows.now) (leads c.loop-to.rows) c.args.place c.args.entries.now c.loop-to.to-index c.loop-to-test.false
    c.loop-to.invariant.added
