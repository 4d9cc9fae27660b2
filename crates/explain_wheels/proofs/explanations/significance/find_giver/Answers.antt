use Rattle.std.proofs.Common.{◌≡◌, ◌∙◌, sym, ap, subst, ◌-◌, Bool, List, length, arith}
use Rattle.std.proofs.lemmas.Grind.{common_steps}
use Rattle.print_unit.specs.ZeroControl.{is_figure}
use Rattle.explain_wheels.specs.ExplanationsWords.Explanations.{HasFigure}
use Rattle.explain_wheels.proofs.ExplanationsWords.Givers.{giver-found, linked-more, no-figure-more, no-giver, no-link}
use Rattle.explain_wheels.proofs.ExplanationsWords.RowLists.{received-is}
use Rattle.explain_wheels.proofs.explanations.significance.find_giver.Goals as goal

pub returns-then-not-has_jack : goal.returns-then-not-has_jack
returns-then-not-has_jack c points pictures are seen =
    no-link c.args.setup.now pictures c.loop-right.right c.args.wheel c.loop-right.invariant.left
    (sym c.has_jack.ensures ∙ c.if-not-has_jack.true) (c.loop-right.invariant.none points pictures are seen)

pub returns-then-is_figure : goal.returns-then-is_figure
returns-then-is_figure c points pictures are seen =
    let setup = c.args.setup.now in
    let right = c.loop-right.right in
    let long : length c.received-received.result ≡ 12 = grind (arith, common_steps) in
    let same = received-is setup points pictures (right - 1) c.received-received.result long (c.received-received.ensures setup points are) seen in
    giver-found setup pictures right c.args.wheel c.loop-right-test.true c.loop-right.invariant.left
    (sym c.has_jack.ensures ∙ c.if-not-has_jack.false) c.loop-right.invariant.linked
    (c.loop-right.invariant.none points pictures are seen)
    (sym (ap is_figure same) ∙ sym c.is_figure.ensures ∙ c.if-is_figure.true) c.figure.result
    (subst (λ (r : List Bool). HasFigure r c.figure.result) same c.figure.ensures)

pub loop-right-preserved : goal.loop-right-preserved
loop-right-preserved c =
    let setup = c.args.setup.now in
    let right = c.loop-right.right in
    let low = c.loop-right-test.true in
    let left = c.loop-right.invariant.left in
    record {
      left = omega (arith, left);
      linked =
          linked-more setup right c.args.wheel low (sym c.has_jack.ensures ∙ c.if-not-has_jack.false) c.loop-right.invariant.linked;
      none = λ points pictures are seen.
          let long : length c.received-received.result ≡ 12 = grind (arith, common_steps) in
          let same = received-is setup points pictures (right - 1) c.received-received.result long (c.received-received.ensures setup points are) seen in
          no-figure-more pictures right c.args.wheel low (sym (ap is_figure same) ∙ sym c.is_figure.ensures ∙ c.if-is_figure.false)
          (c.loop-right.invariant.none points pictures are seen);
    }

pub returns : goal.returns
returns c points pictures are seen =
    no-giver c.args.setup.now pictures c.loop-right.right c.args.wheel c.loop-right-test.false
    (c.loop-right.invariant.none points pictures are seen)
