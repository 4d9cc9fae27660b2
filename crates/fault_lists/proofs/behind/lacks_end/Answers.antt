use Rattle.fault_lists.proofs.Reading.{lacks_is, lacks_not, none_lacks}
use Rattle.fault_lists.proofs.behind.lacks_end.Goals as goal

pub returns-in_default-clause-not : goal.returns-in_default-clause-not
returns-in_default-clause-not c = λ same.
    none_lacks c.args.text.now c.read_chart.result c.in_default.field-0 c.in_default.is c.read_chart.ensures.only_fault

pub returns-clause-is : goal.returns-clause-is
returns-clause-is c = lacks_is c.args.text.now c.in-Err.fault c.is_no_end.result c.is_no_end.ensures.is c.in-Err.ensures.fault

pub returns-clause-not : goal.returns-clause-not
returns-clause-not c =
    lacks_not c.args.text.now c.read_chart.result c.in-Err.fault c.is_no_end.result c.in-Err.is c.is_no_end.ensures.not
    c.read_chart.ensures.only_fault
