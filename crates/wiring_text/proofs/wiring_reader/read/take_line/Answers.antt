use Rattle.std.proofs.Common.{ap, ◌∙◌, Ok}
use Rattle.wiring_text.proofs.WiringReader.Takings.{takes_empty, takes_end, takes_said, refuses_said}
use Rattle.wiring_text.proofs.wiring_reader.read.take_line.Goals as goal

pub returns-in-Empty-default-clause-taken : goal.returns-in-Empty-default-clause-taken
returns-in-Empty-default-clause-taken c = takes_empty _ _ _ _ c.in-Empty-default.is-0

pub returns-in-End-false-clause-taken : goal.returns-in-End-false-clause-taken
returns-in-End-false-clause-taken c = takes_end _ _ _ _ c.in-End-false.is-0 c.in-End-false.is-1

pub returns-in-Ok-true-clause-taken : goal.returns-in-Ok-true-clause-taken
returns-in-Ok-true-clause-taken c =
    takes_said _ _ _ _ _ c.in-Says-false.statement c.put.result c.in-Says-false.is-0 c.in-Says-false.is-1
    (c.in-Ok-true.is ∙ ap Ok c.in-Ok-true.field-0-test) c.put.ensures

pub returns-in-Ok-false-clause-refused : goal.returns-in-Ok-false-clause-refused
returns-in-Ok-false-clause-refused c =
    refuses_said _ _ _ _ _ c.in-Says-false.statement c.put.result c.in-Says-false.is-0 c.in-Says-false.is-1
    (c.in-Ok-false.is ∙ ap Ok c.in-Ok-false.field-0-test) c.put.ensures
