use Rattle.readback_charts.proofs.Beside.{found-as}
use Rattle.readback_charts.proofs.answer.found_of.Goals as goal

pub returns : goal.returns
returns c =
    found-as c.args.compiled.now _ c.args.setup.now c.match_setup.result c.chart.ensures.value c.match_setup.ensures.told
    c.match_setup.ensures.found c.match_setup.ensures.shown
