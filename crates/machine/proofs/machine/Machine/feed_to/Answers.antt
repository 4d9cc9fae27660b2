use Rattle.std.proofs.Common.{sym, subst, refl}
use Rattle.net.specs.Nets.{IsNetOf}
use Rattle.machine.specs.Kept.{FeedsPast, PlacedInFeed}
use Rattle.machine.specs.Running.{Running}
use Rattle.machine.proofs.machine.Machine.feed_to.Goals as goal

pub returns-in-Some-feed_to-clause-found : goal.returns-in-Some-feed_to-clause-found
returns-in-Some-feed_to-clause-found c = λ wiring is_net.
    subst (λ (r : Running). PlacedInFeed wiring r.machine c.args.next c.in-Some-feed_to.kept) c.self.view_is
    (c.in-Some-feed_to.ensures.found wiring (subst (λ (r : Running). IsNetOf wiring r.net) (sym c.self.view_is) is_net))

pub returns-clause-past : goal.returns-clause-past
returns-clause-past c wiring is_net none =
    rw c.count.ensures.machine
    (subst (λ (r : Running). FeedsPast wiring r.machine c.args.next c.feed_to.new.self c.args.page c.args.line) c.self.view_is
    (c.in_default-feed_to.ensures.none wiring (subst (λ (r : Running). IsNetOf wiring r.net) (sym c.self.view_is) is_net) refl))
