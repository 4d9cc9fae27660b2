use Rattle.std.proofs.Common.{refl}
use Rattle.match_panels.proofs.DifferencesWords.PanelProgress.Counted.{counted}
use Rattle.match_panels.proofs.differences.panel_progress.counting.count_of.Goals as goal

pub returns : goal.returns
returns c =
    counted c.args.chart.now.lines c.args.plan.now c.args.setup.now c.args.line.now _ c.in_ok-wanted.wanted c.in_ok-lacking.lacking
    c.tape.result.now c.tape-2.result.now _ _ _ _ c.in_ok-wanted.ensures c.in_ok-lacking.ensures c.size.ensures.size c.size-2.ensures.size
    c.tape.ensures.value c.tape-2.ensures.value c.forms_asked.ensures.value c.forms_missing.ensures.value refl refl refl
