use Rattle.std.proofs.Common.{◌∙◌, List, ℕ, subst}
use Rattle.std.proofs.lemmas.Result.{err_from_is_err_and}
use Rattle.std.specs.Prelude.{IfErr, OnOk}
use Rattle.std.specs.Io.KnownBytes.{Appends}
use Rattle.cli_decks.proofs.CheckCalls.DeckChecks.Whole.{none_taken}
use Rattle.cli_decks.specs.CheckCalls.DeckChecks.HelperStanding.{BreaksOff}
use Rattle.cli_decks.proofs.check_calls.deck_checks.checking.tell_fine.Goals as goal

pub returns-in_err-text-clause-broken : goal.returns-in_err-text-clause-broken
returns-in_err-text-clause-broken g c =
    let exit = err_from_is_err_and c.from_residual.result c.from_residual.ensures.1 in
    rw (exit.1, exit.2) (none_taken _ _ c.in_err-text.field-0.0 c.in_err-text.ensures.told)

pub returns-clause-written : goal.returns-clause-written
returns-clause-written g c =
    subst (λ (b : List ℕ). OnOk c.put.result (Appends (g.W.Write.contents c.args.out.now) (g.W.Write.contents c.put.new.out) b))
    (c.as_slice.ensures.value ∙ c.in_ok-text.ensures.fine) c.put.ensures.written

pub returns-clause-broken : goal.returns-clause-broken
returns-clause-broken g c =
    subst (λ (b : List ℕ). IfErr c.put.result (λ told. BreaksOff b (g.W.Write.contents c.args.out.now) (g.W.Write.contents c.put.new.out) told))
    (c.as_slice.ensures.value ∙ c.in_ok-text.ensures.fine) c.put.ensures.broken
