use Rattle.std.proofs.Common.{◌∙◌, ap, position, sym}
use Rattle.chart_lines.specs.ChartsWords.Name.{is_same_name}
use Rattle.report_misfits.proofs.Numbering.{found-at, pushed-at}
use Rattle.report_misfits.proofs.open_sums.place_for.Goals as goal

pub returns-in-Some-clause-there : goal.returns-in-Some-clause-there
returns-in-Some-clause-there c =
    found-at c.args.amounts.now.items c.args.field c.in-Some.place c.requires.by_name
    (sym (ap (position (λ amount. is_same_name amount.field.name c.args.field.name)) c.as_slice.ensures.value) ∙ sym c.place_of.ensures.value ∙ c.in-Some.is)

pub returns-clause-there : goal.returns-clause-there
returns-clause-there c =
    pushed-at c.args.amounts.now.items c.push.new.self.items c.args.field c.len-place.result c.push.ensures.items c.len-place.ensures.value
