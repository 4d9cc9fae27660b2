use Rattle.carriage.proofs.Descents.{down_by-on_form, down_by-to_next}
use Rattle.carriage.proofs.laws.going_down_notices_the_overflow_line.Goals as goal

pub returns-clause-on_the_form : goal.returns-clause-on_the_form
returns-clause-on_the_form c = λ form spot lines fits. down_by-on_form form spot lines fits

pub returns-clause-to_the_next_form : goal.returns-clause-to_the_next_form
returns-clause-to_the_next_form c =
    λ form spot lines is_form on_form past short. down_by-to_next form spot lines is_form on_form past short
