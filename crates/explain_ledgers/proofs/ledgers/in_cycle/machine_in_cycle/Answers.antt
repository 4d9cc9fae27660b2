use Rattle.std.proofs.Common.{subst, refl, arith, ℕ}
use Rattle.explain_wheels.specs.RunsWords.{along_of}
use Rattle.explain_wheels.proofs.RunsWords.DeckRuns.{behind-none, cycle-in, is-due, stands-at}
use Rattle.explain_ledgers.specs.LedgersWords.InCycle.{IsInCycle}
use Rattle.explain_ledgers.proofs.ledgers.in_cycle.machine_in_cycle.Goals as goal

pub go_to-requires-clause-between : goal.go_to-requires-clause-between
go_to-requires-clause-between c = c.in_ok-run.ensures.between

pub go_to-requires-clause-before : goal.go_to-requires-clause-before
go_to-requires-clause-before c =
    let none = (behind-none c.args.setup.now c.args.cards.now c.in_ok-run.run' c.in_ok-run.ensures).counted in omega (arith, none)

pub enter_due-last-requires-clause-due : goal.enter_due-last-requires-clause-due
enter_due-last-requires-clause-due c =
    is-due c.args.setup.now c.args.cards.now c.args.count c.args.count c.go_to.new.self
    (stands-at c.args.setup.now c.args.cards.now c.args.count c.go_to.new.self c.go_to.ensures.between c.go_to.ensures.near
    c.go_to.ensures.over c.requires.has)
    c.requires.has (omega arith)

pub returns : goal.returns
returns c =
    subst (λ (n : ℕ). IsInCycle c.args.setup.now c.args.cards.now n c.enter_due-last.new.self.machine.machine)
    (stands-at c.args.setup.now c.args.cards.now c.args.count c.go_to.new.self c.go_to.ensures.between c.go_to.ensures.near
    c.go_to.ensures.over c.requires.has).counted
    (record {
      has =
          cycle-in c.args.setup.now c.args.cards.now c.enter_due-last.result (along_of c.go_to.new.self) c.enter_due-last.new.self
          c.enter_due-last.ensures;
      is = refl;
    })
