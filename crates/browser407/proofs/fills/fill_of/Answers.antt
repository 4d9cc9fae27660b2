use Rattle.std.proofs.Common.{◌≡◌, subst, sym}
use Rattle.std.specs.Prelude.{IsUtf8}
use Rattle.browser407.proofs.Characters.{is_text}
use Rattle.browser407.proofs.fills.fill_of.Goals as goal

pub returns-in-Err-clause-none : goal.returns-in-Err-clause-none
returns-in-Err-clause-none c = λ character some is. c.in-Err.ensures.cases.0 (subst IsUtf8 (sym is) (is_text character some))
