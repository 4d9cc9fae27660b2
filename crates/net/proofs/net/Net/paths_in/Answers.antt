use Rattle.std.proofs.Common.{◌≡◌, ◌∙◌, IfSome, None, Option, subst, sym}
use Rattle.hubs.specs.SetupsWords.Wiring.{Wiring}
use Rattle.machine_sets.specs.SpreadsWords.Paths.{PathLinks}
use Rattle.net.specs.CyclePaths.{AreCyclePaths, ArePathsIn, ArePathsOfKind}
use Rattle.net.specs.Nets.{IsNetOf, NetRows}
use Rattle.net.specs.Tells.{kind_of}
use Rattle.net.specs.declared.cycle.Cycle.{Cycle}
use Rattle.net.specs.declared.cycle.Cycle.TheVariants.{RunIn, Card, Prog, Head}
use Rattle.net.specs.declared.kinds.CyclePaths.{CyclePaths}
use Rattle.net.proofs.KindPaths.{one-of}
use Rattle.net.proofs.net.Net.paths_in.Goals as goal

-- the run-in alone has no exit that tells of it
begun : (wiring : Wiring) (net : NetRows) (paths : PathLinks) (cycle : Cycle) → kind_of cycle ≡ None → ArePathsIn wiring net RunIn paths
    → ArePathsIn wiring net cycle paths
begun wiring net paths RunIn none are = are
begun wiring net paths Card none are = cc
begun wiring net paths (Prog level ordinal) none are = cc
begun wiring net paths (Head heading) none are = cc

pub returns-in-Some : goal.returns-in-Some
returns-in-Some c wiring is_net =
    let kind = c.in-Some.kind in
    let links = c.self.invariant.links in
    let told = c.self.invariant.told in
    let telling = one-of c.self.inside.tellings.items told.long in
    let is_inside = subst (λ (net : NetRows). IsNetOf wiring net) (sym c.self.view_is) is_net in
    let paths = c.index.result.now in
    let all : AreCyclePaths links c.self.inside.tellings.items c.in_ok-paths.paths.now =
    subst (λ (found : Option CyclePaths). IfSome found (AreCyclePaths links c.self.inside.tellings.items)) (sym c.in_ok-paths.ensures.value)
    c.self.invariant.pathed in
    let are = subst (ArePathsOfKind links kind _) (sym c.index.ensures) (all.kinds.each kind telling paths c.in-Some.ensures.few) in
    subst (λ (net : NetRows). ArePathsIn wiring net c.args.cycle paths) c.self.view_is
    (are wiring c.self.inside.rows c.args.cycle is_inside c.self.invariant.lead (sym c.kind_of.ensures.kind ∙ c.in-Some.is)
    (told.each kind telling c.in-Some.ensures.few))

pub returns-in-None : goal.returns-in-None
returns-in-None c wiring is_net =
    let links = c.self.invariant.links in
    let paths = c.in_ok-paths.paths.now.run_in in
    let all : AreCyclePaths links c.self.inside.tellings.items c.in_ok-paths.paths.now =
    subst (λ (found : Option CyclePaths). IfSome found (AreCyclePaths links c.self.inside.tellings.items)) (sym c.in_ok-paths.ensures.value)
    c.self.invariant.pathed in
    subst (λ (net : NetRows). ArePathsIn wiring net c.args.cycle paths) c.self.view_is
    (begun wiring (record { rows = c.self.inside.rows }) paths c.args.cycle (sym c.kind_of.ensures.kind ∙ c.in-None.is)
    (all.begun wiring c.self.inside.rows c.self.invariant.lead))
