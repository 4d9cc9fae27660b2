use Rattle.std.proofs.Common.{Bool, refl, sym}
use Rattle.hubs.specs.declared.hub.Hub.{Hub}
use Rattle.hubs.specs.declared.hub.Hub.TheVariants.{PL}
use Rattle.net.specs.HubSets.{is_in_row}
use Rattle.net.specs.Orders.{IsRowOf}
use Rattle.net.specs.declared.cycle.Cycle.TheVariants.{RunIn}
use Rattle.net.specs.declared.cycle.Point.TheVariants.{C}
use Rattle.machine.proofs.Rest.{BusyAfter, control-senses, first_group}
use Rattle.machine.proofs.groups.control_groups.Goals as goal

pub returns : goal.returns
returns c =
    let told = c.told-busy.ensures in
    let goes : (picture : Hub → Bool) → IsRowOf (PL first_group) picture c.args.row → BusyAfter C picture c.args.busy c.told-busy.result
    = λ picture row. record {
      uncontrolled = told.uncontrolled;
      told = λ at. told.told picture row;
      unread = told.unread;
      read_out = λ at. told.read_out picture row;
      untested = told.untested;
      tests = λ at. told.tests picture row;
      empty = λ k off. rw (sym told.carried) off;
      carries = λ never. cc;
    } in
    record {
      sensed = λ cycle picture row.
          (control-senses c.args.groups.now c.control_marked.new.groups cycle picture c.args.busy c.told-busy.result c.requires.ordered
          c.requires.busy (goes picture row) (c.control_marked.ensures cycle picture row)).0;
      busy =
          let picture : Hub → Bool = is_in_row (PL first_group) c.args.row in
          (control-senses c.args.groups.now c.control_marked.new.groups RunIn picture c.args.busy c.told-busy.result c.requires.ordered
          c.requires.busy (goes picture (λ hub near. refl)) (c.control_marked.ensures RunIn picture (λ hub near. refl))).1;
    }
