use Rattle.std.proofs.Common.{◌∙◌, refl, sym}
use Rattle.net.specs.HubSets.{has_hub}
use Rattle.net.specs.Panel.{contact_of}
use Rattle.net.proofs.TellingLemmas.{AddsBranch-more, AddsBranch-none, not-passed, passed}
use Rattle.net.proofs.tellings.add_branch.Goals as goal

pub returns-then-not-is_passed_to : goal.returns-then-not-is_passed_to
returns-then-not-is_passed_to c =
    AddsBranch-none c.args.rows.now (has_hub c.args.led.now) c.args.exit _ _
    (not-passed (has_hub c.args.led.now) (contact_of c.args.exit) (sym c.is_passed_to.ensures ∙ c.if-not-is_passed_to.true))

pub returns : goal.returns
returns c =
    let exit = c.args.exit in
    let branch = c.branch_at.result in
    let on = passed (has_hub c.args.led.now) (contact_of exit) (sym c.is_passed_to.ensures ∙ c.if-not-is_passed_to.false) in
    rw c.in_ok-push.ensures.items
    (AddsBranch-more c.args.rows.now (has_hub c.args.led.now) exit on.0 _ _ branch
    (record {
      exit = exit;
      common = on.0;
      numbered = rw c.branch_at.ensures.place c.requires.numbered;
      contact = on.1;
      reached = on.2;
      orders = rw c.branch_at.ensures.place c.branch_at.ensures.orders;
      last = rw c.branch_at.ensures.place c.branch_at.ensures.last;
    })
    (rw c.branch_at.ensures.place refl))
