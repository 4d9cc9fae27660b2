use Rattle.std.proofs.Common.{◌∙◌, ap, sym, subst}
use Rattle.std.specs.Prelude.{Ok}
use Rattle.machine.specs.declared.kept.KeptCycle.{KeptCycle}
use Rattle.explain_wheels.specs.ExplanationsWords.PageFeeds.{found_by}
use Rattle.explain_wheels.specs.ExplanationsWords.PlacedInRun.{IsFound}
use Rattle.explain_wheels.proofs.ExplanationsWords.LineFeeding.{stands-there}
use Rattle.explain_wheels.proofs.explanations.lines.found_line.Goals as goal

pub returns-then-cycle-placed-2 : goal.returns-then-cycle-placed-2
returns-then-cycle-placed-2 c = record {
  found =
      subst (λ (k : KeptCycle). IsFound c.args.setup.now c.args.cards.now (found_by c.args.fed k)) (sym c.cycle-item.is)
      (c.requires.kept c.loop-cycle.cycle-index c.cycle-item.result c.loop-cycle-test.true);
  at_page = c.if-cycle-placed.true;
  at_line = c.if-cycle-placed-2.true;
}

pub unreachable-requires : goal.unreachable-requires
unreachable-requires c =
    stands-there c.args.setup.now c.args.cards.now c.args.placed.now c.requires.printed
    (c.find_line.ensures.none (c.in_ok-found.was ∙ ap Ok c.in-None.is))
