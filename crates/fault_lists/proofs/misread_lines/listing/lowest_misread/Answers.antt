use Rattle.fault_lists.proofs.MisreadLines.Steps.{none_read, none_told, some_told}
use Rattle.fault_lists.proofs.misread_lines.listing.lowest_misread.Goals as goal

pub returns-in_default-clause-none : goal.returns-in_default-clause-none
returns-in_default-clause-none c =
    none_read c.args.text.now c.read_chart.result c.in_default.field-0 c.in_default.is c.read_chart.ensures.only_fault

pub returns-clause-some : goal.returns-clause-some
returns-clause-some c =
    some_told c.args.text.now c.in-Err.fault c.misread_line.result c.misread_line.ensures.line c.misread_line.ensures.known c.in-Err.ensures.fault

pub returns-clause-none : goal.returns-clause-none
returns-clause-none c =
    none_told c.args.text.now c.read_chart.result c.in-Err.fault c.misread_line.result c.in-Err.is c.misread_line.ensures.line
    c.misread_line.ensures.known c.read_chart.ensures.only_fault
