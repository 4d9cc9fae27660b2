use Rattle.std.proofs.Common.{refl, sym, true≢false}
use Rattle.match_panels.proofs.MatchingWords.Compared.{extra-is, missing-is, same-wired, wired-same}
use Rattle.match_panels.proofs.matching.comparing.match_setup.Goals as goal

pub returns-then-is_same-clause-told : goal.returns-then-is_same-clause-told
returns-then-is_same-clause-told c = record {
  planned = c.in_ok-plan.ensures.planned;
  wired = wired-same c.args.chart.now.lines c.in_ok-plan.plan c.in_ok-wanted.wanted c.args.setup.now c.in_ok-wanted.ensures
      (c.if-is_same.ensures.0 refl);
}

pub returns-clause-told : goal.returns-clause-told
returns-clause-told c = record {
  planned = c.in_ok-plan.ensures.planned;
  unwired = λ wired. true≢false (sym (c.if-is_same.ensures.1
      (same-wired c.args.chart.now.lines c.in_ok-plan.plan c.in_ok-wanted.wanted c.args.setup.now c.in_ok-wanted.ensures wired)));
  is_missing = missing-is c.args.chart.now.lines c.in_ok-plan.plan c.in_ok-wanted.wanted c.args.setup.now c.in_ok-wanted.ensures
      c.in_ok-missing.missing c.in_ok-missing.ensures;
  is_extra = extra-is c.args.chart.now.lines c.in_ok-plan.plan c.in_ok-wanted.wanted c.args.setup.now c.in_ok-wanted.ensures
      c.in_ok-extra.extra c.in_ok-extra.ensures;
}

pub returns-clause-found : goal.returns-clause-found
returns-clause-found c = λ its wired.
    let shown = c.in_ok-plan.ensures.found its wired in
    true≢false (sym (c.if-is_same.ensures.1
    (same-wired c.args.chart.now.lines c.in_ok-plan.plan c.in_ok-wanted.wanted c.args.setup.now c.in_ok-wanted.ensures
    shown.wired)))
