use Rattle.std.proofs.Common.{arith, subst, ℕ}
use Rattle.explain_wheels.specs.RunsWords.{ArePointsOf, along_of}
use Rattle.explain_wheels.proofs.RunsWords.DeckRuns.{cycle-in, is-due, stands-at}
use Rattle.explain_wheels.proofs.runs.DeckRun.cycle_behind.Goals as goal

pub enter_kept-cycle-requires-clause-due : goal.enter_kept-cycle-requires-clause-due
enter_kept-cycle-requires-clause-due c =
    is-due c.args.setup.now c.args.cards.now c.args.count c.args.count c.go_to.new.self
    (stands-at c.args.setup.now c.args.cards.now c.args.count c.go_to.new.self c.go_to.ensures.between c.go_to.ensures.near
    c.go_to.ensures.over c.requires.has)
    c.requires.has (omega arith)

pub returns-clause-points : goal.returns-clause-points
returns-clause-points c =
    subst (λ (n : ℕ). ArePointsOf c.args.setup.now c.args.cards.now n c.enter_kept-cycle.result.1)
    (stands-at c.args.setup.now c.args.cards.now c.args.count c.go_to.new.self c.go_to.ensures.between c.go_to.ensures.near
    c.go_to.ensures.over c.requires.has).counted
    (record {
      has =
          cycle-in c.args.setup.now c.args.cards.now c.enter_kept-cycle.result.0 (along_of c.go_to.new.self) c.enter_kept-cycle.new.self
          c.enter_kept-cycle.ensures.inside;
      kept = c.enter_kept-cycle.ensures.kept;
    })

pub returns-clause-between : goal.returns-clause-between
returns-clause-between c =
    (c.leave.ensures c.args.setup.now c.args.cards.now (along_of c.go_to.new.self) c.enter_kept-cycle.ensures.inside).between
