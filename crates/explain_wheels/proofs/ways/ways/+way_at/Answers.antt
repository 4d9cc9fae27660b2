use Rattle.std.proofs.Common.{◌≡◌, ◌≢◌, ◌≤◌, ◌∙◌, ap, refl, arith, ℕ, List, ◌++◌, ◌∷◌, []}
use Rattle.hubs.proofs.HubLemmas.{number_of-injective}
use Rattle.hubs.specs.declared.hub.Hub.{Hub}
use Rattle.net.specs.HubSets.{has_hub}
use Rattle.explain_wheels.proofs.WaysWords.WayLemmas.{stands_behind, stands_hub, up-to-behind, up-to-own, way_on, way_start}
use Rattle.explain_wheels.proofs.ways.ways.+way_at.Goals as goal

more : (n : ℕ) → n ≢ 0 → n ≢ 1 → 2 ≤ n
more n some other = omega (arith, some, other)

pub returns-in_default-clause-some : goal.returns-in_default-clause-some
returns-in_default-clause-some m c exits table some =
    let found = stands_hub c.args.setup.now exits c.args.contacts.now c.args.steps.now table c.args.to some in
    let never = c.in_default.ensures.found found.0 found.1 in
    cc

pub returns-then-steps-to-eq1-clause-way : goal.returns-then-steps-to-eq1-clause-way
returns-then-steps-to-eq1-clause-way m c exits hub table numbered =
    let same : c.in-Some.hub ≡ hub = number_of-injective c.in-Some.hub hub c.args.to c.in-Some.ensures.numbered numbered in
    let items : c.push.new.self.items ≡ hub ∷ [] =
    c.in_ok-push.ensures.items ∙ ap (λ (l : List Hub). l ++ c.in-Some.hub ∷ []) c.new-way.ensures.items ∙ ap (λ (h : Hub). h ∷ []) same in
    rw items (way_start c.args.setup.now exits c.args.contacts.now c.args.steps.now table hub c.args.to numbered c.if-steps-to-eq1.true)

pub returns-in_default-before-clause-some : goal.returns-in_default-before-clause-some
returns-in_default-before-clause-some m c exits table some =
    absurd (stands_behind c.args.setup.now exits c.args.contacts.now c.args.steps.now table c.args.to
    (more _ c.if-steps-to-eq0.false c.if-steps-to-eq1.false) (c.in_default-before.ensures.none refl))

pub returns-clause-way : goal.returns-clause-way
returns-clause-way m c exits hub table numbered =
    let same : c.in-Some.hub ≡ hub = number_of-injective c.in-Some.hub hub c.args.to c.in-Some.ensures.numbered numbered in
    let items : c.push-2.new.self.items ≡ c.in-Some-2.way.items ++ hub ∷ [] =
    c.in_ok-push-2.ensures.items ∙ ap (λ (h : Hub). c.in-Some-2.way.items ++ h ∷ []) same in
    let leads = c.in-Some-before.ensures.before.1 in
    rw items (way_on c.args.setup.now exits (has_hub c.args.contacts.now) c.args.steps.now hub c.in-Some-before.from c.args.to
    c.in-Some-2.way.items numbered leads c.in-Some-before.ensures.before.0
    (rw c.in-Some-2.is at (c.in_ok-way.ensures.way exits leads.exit table leads.from_numbered)) (rw c.in-Some-2.is at c.in_ok-way.ensures.up_to))

pub returns-then-steps-to-eq1-clause-up_to : goal.returns-then-steps-to-eq1-clause-up_to
returns-then-steps-to-eq1-clause-up_to m c =
    let items : c.push.new.self.items ≡ c.in-Some.hub ∷ [] =
    c.in_ok-push.ensures.items ∙ ap (λ (l : List Hub). l ++ c.in-Some.hub ∷ []) c.new-way.ensures.items in
    rw items (up-to-own c.args.steps.now c.in-Some.hub c.args.to c.in-Some.ensures.numbered)

pub returns-clause-up_to : goal.returns-clause-up_to
returns-clause-up_to m c =
    rw c.in_ok-push-2.ensures.items
    (up-to-behind c.args.steps.now c.in-Some.hub c.in-Some-before.from c.args.to c.in-Some-2.way.items c.in-Some.ensures.numbered
    c.in-Some-before.ensures.before.0 (rw c.in-Some-2.is at c.in_ok-way.ensures.up_to))
