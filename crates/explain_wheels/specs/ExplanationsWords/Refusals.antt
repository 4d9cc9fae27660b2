-- The numbers of what is refused.
use Rattle.std.specs.Prelude.{ℕ, Option, Some, None}
use Rattle.explain_wheels.specs.declared.explanations.refusal.Refusal.{Refusal}
use Rattle.explain_wheels.specs.declared.explanations.refusal.Refusal.TheVariants.{NoSuchLine, NoSuchWheel, Memory}

-- the number of a refusal; memory has none
abbrev pub refusal_number : Refusal → Option ℕ
refusal_number NoSuchLine = Some 92
refusal_number NoSuchWheel = Some 93
refusal_number Memory = None
