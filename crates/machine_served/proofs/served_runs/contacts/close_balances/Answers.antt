use Rattle.std.proofs.Common.{◌≡◌, ◌∙◌, ◌||◌, ap, sym, arith, Bool, refl, false, true}
use Rattle.net.specs.HubSets.{has_hub}
use Rattle.net.specs.Panel.{unit_of}
use Rattle.machine_served.specs.ServedRuns.Contacts.{balances_to}
use Rattle.machine_served.proofs.ServedRuns.GroupContacts.{balances-more, balances-none, unit_of-named}
use Rattle.machine_served.proofs.served_runs.contacts.close_balances.Goals as goal

or_none : (b : Bool) → b ≡ (b || false)
or_none true = refl
or_none false = refl

pub loop-position-init : goal.loop-position-init
loop-position-init c hub =
    or_none _ ∙ ap (λ b. has_hub c.args.contacts.now hub || b) (sym (balances-none c.args.unit c.args.latch hub))

three : (start old mid new so one other more : Bool) → old ≡ (start || so) → mid ≡ (old || one) → new ≡ (mid || other)
    → ((so || one) || other) ≡ more → new ≡ (start || more)
three true old mid new so one other more first then last all =
    last ∙ ap (λ b. b || other) (then ∙ ap (λ b. b || one) first)
three false old mid new so one other more first then last all =
    last ∙ ap (λ b. b || other) (then ∙ ap (λ b. b || one) first) ∙ all

pub loop-position-preserved : goal.loop-position-preserved
loop-position-preserved c hub =
    three _ _ _ _ _ _ _ _ (c.loop-position.invariant hub) (c.insert_where.ensures hub)
    (c.insert_where-in-loop-position.ensures hub)
    (balances-more c.args.unit c.requires.from c.requires.to c.args.name
    (ap unit_of c.requires.named ∙ unit_of-named c.args.unit c.requires.from c.requires.to) c.loop-position.position c.args.latch hub
    c.loop-position.auto.position c.loop-position-test.true)

pub returns : goal.returns
returns c hub =
    let last : c.loop-position.position ≡ 5 = omega arith in
    c.loop-position.invariant hub
    ∙ ap (λ n. has_hub c.args.contacts.now hub || balances_to n c.args.unit c.args.latch hub) last
