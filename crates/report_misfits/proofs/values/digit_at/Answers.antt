use Rattle.std.proofs.Common.{ℕ, ◌<◌, ◌∙◌, sym, ap, subst}
use Rattle.std.specs.Option.{unwrap_or}
use Rattle.report_misfits.proofs.Numbers.{digit_small}
use Rattle.report_misfits.proofs.values.digit_at.Goals as goal

pub returns-clause-small : goal.returns-clause-small
returns-clause-small c =
    let P : ℕ → Type 0 = λ n. n < 10 in
    subst P (sym (c.unwrap_or.ensures ∙ ap (λ o. unwrap_or o 0) c.digit_in.ensures)) (digit_small c.column_of.result)
