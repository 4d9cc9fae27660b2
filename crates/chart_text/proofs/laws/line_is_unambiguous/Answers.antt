use Rattle.chart_text.proofs.OneReading.{one_statement, end_is_no_form, empty_is_no_form, empty_is_no_end}
use Rattle.chart_text.proofs.laws.line_is_unambiguous.Goals as goal

pub returns : goal.returns
returns c = record {
  one_statement = one_statement;
  end_is_no_form = end_is_no_form;
  empty_is_no_form = empty_is_no_form;
  empty_is_no_end = empty_is_no_end;
}
