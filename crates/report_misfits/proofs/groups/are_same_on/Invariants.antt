use Rattle.std.proofs.Common.{◌≡◌, drop}
use Rattle.std.specs.List.{list_all}
use Rattle.report_definition.specs.Groups.{is_same_on}
use Rattle.report_misfits.proofs.groups.are_same_on.Given as goal

-- the fields that are left are the same on both cards where all are
abbrev pub invariant-loop-field : goal.invariant-loop-field
invariant-loop-field l =
    list_all (λ field. is_same_on field l.one l.other) (drop l.field-index l.fields)
    ≡ list_all (λ field. is_same_on field l.one l.other) l.fields
