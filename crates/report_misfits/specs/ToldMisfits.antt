-- A misfit of the code, as the report tells it.
use Rattle.report_misfits.specs.declared.misfit.Misfit.{Misfit as Found}
use Rattle.report_definition.specs.Misfits.{Misfit}

-- the level, the name and the card of a misfit
abbrev pub told : Found → Misfit
told found = record { level = found.level; name = found.name; card = found.card }
