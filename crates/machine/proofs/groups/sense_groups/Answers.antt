use Rattle.std.proofs.Common.{sym}
use Rattle.net.specs.HubSets.{has_hub}
use Rattle.net.specs.declared.cycle.Point.TheVariants.{K}
use Rattle.machine.proofs.Rest.{BusyAfter, closing-senses, row-senses}
use Rattle.machine.proofs.groups.sense_groups.Goals as goal

pub returns-in-C-clause-sensed : goal.returns-in-C-clause-sensed
returns-in-C-clause-sensed c = rw c.in-C.is (c.control_groups.ensures.sensed c.args.cycle (has_hub c.args.picture.now) c.row.ensures.hubs)

pub returns-in-Row : goal.returns-in-Row
returns-in-Row c =
    let senses =
    row-senses c.args.groups.now c.sense_marked.new.units c.args.cycle c.args.point c.in-Row.field-0 (has_hub c.args.picture.now) c.args.busy
    c.in-Row.is c.requires.ordered c.requires.busy c.sense_marked.ensures in
    record { sensed = senses.0; busy = senses.1 }

pub returns-in-K : goal.returns-in-K
returns-in-K c =
    let after = c.after_carries-busy.ensures in
    let goes : BusyAfter K (has_hub c.args.picture.now) c.args.busy c.after_carries-busy.result
    = record {
      uncontrolled = λ k off. rw (sym after.controlled) off;
      told = λ never. cc;
      unread = λ k off. rw (sym after.reading_out) off;
      read_out = λ never. cc;
      untested = λ k off. rw (sym after.tested) off;
      tests = λ never. cc;
      empty = after.empty;
      carries = λ at. after.carries;
    } in
    let senses =
    closing-senses c.args.groups.now c.sense_marked-in-K.new.units c.args.cycle c.args.point (has_hub c.args.picture.now) c.args.busy
    c.after_carries-busy.result c.in-K.is c.requires.ordered c.requires.busy goes c.sense_marked-in-K.ensures in
    record { sensed = senses.0; busy = senses.1 }
