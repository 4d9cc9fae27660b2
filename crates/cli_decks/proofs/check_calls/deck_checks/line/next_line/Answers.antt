use Rattle.std.proofs.Common.{◌∙◌, ap, subst, ℕ, ◌==◌, List, Option, Some, IfNone, length, option_to_list}
use Rattle.std.specs.Io.KnownBytes.{Consumes, IsAtEnd}
use Rattle.arrayvec.specs.ArrayVec.{ArrayVec}
use Rattle.card_code.specs.Lines.{without_cr}
use Rattle.cli_decks.proofs.CheckCalls.DeckChecks.Lines.{begun_more, last_line, line_ended, none_left, on_err, on_ok, was_false, was_true}
use Rattle.cli_decks.proofs.check_calls.deck_checks.line.next_line.Goals as goal

pub returns-in-Some-eq10-clause-line : goal.returns-in-Some-eq10-clause-line
returns-in-Some-eq10-clause-line g c = λ _.
    let found = subst (λ (f : Option ℕ). Consumes (g.R.Read.remaining c.loop.reader) (g.R.Read.remaining c.next_byte.new.reader) (option_to_list f))
    (c.in-Some-eq10.is ∙ ap Some c.in-Some-eq10.field-0-test) c.in_ok-next_byte.ensures.bytes in
    line_ended _ _ _ _ c.loop.invariant found

pub returns-in-None-clause-line : goal.returns-in-None-clause-line
returns-in-None-clause-line g c = λ there.
    let found = subst (λ (f : Option ℕ). Consumes (g.R.Read.remaining c.loop.reader) (g.R.Read.remaining c.next_byte.new.reader) (option_to_list f))
    c.in-None.is c.in_ok-next_byte.ensures.bytes in
    let end = subst (λ (f : Option ℕ). IfNone f (IsAtEnd (g.R.Read.remaining c.next_byte.new.reader))) c.in-None.is c.in_ok-next_byte.ensures.end in
    let empty = c.is_empty.ensures ∙ ap (λ (l : List ℕ). length l == 0) (c.without_cr.ensures.line ∙ ap without_cr c.as_slice.ensures.value) in
    last_line _ _ _ _ c.loop.invariant found end (was_false _ there ∙ empty)

pub returns-in-None-clause-none : goal.returns-in-None-clause-none
returns-in-None-clause-none g c = λ none.
    let found = subst (λ (f : Option ℕ). Consumes (g.R.Read.remaining c.loop.reader) (g.R.Read.remaining c.next_byte.new.reader) (option_to_list f))
    c.in-None.is c.in_ok-next_byte.ensures.bytes in
    let end = subst (λ (f : Option ℕ). IfNone f (IsAtEnd (g.R.Read.remaining c.next_byte.new.reader))) c.in-None.is c.in_ok-next_byte.ensures.end in
    let empty = c.is_empty.ensures ∙ ap (λ (l : List ℕ). length l == 0) (c.without_cr.ensures.line ∙ ap without_cr c.as_slice.ensures.value) in
    none_left _ _ _ _ c.loop.invariant found end (was_true _ none ∙ empty)

pub loop-preserved : goal.loop-preserved
loop-preserved g c =
    let found = subst (λ (f : Option ℕ). Consumes (g.R.Read.remaining c.loop.reader) (g.R.Read.remaining c.next_byte.new.reader) (option_to_list f))
    c.in-Some.is c.in_ok-next_byte.ensures.bytes in
    begun_more _ _ _ _ _ c.in-Some.byte c.try_push.result c.loop.invariant found c.in-Some.byte-test.1 c.try_push.ensures.ok
    (on_err (λ same. ap (λ (v : ArrayVec ℕ). v.items) same) c.try_push.result c.try_push.ensures.err) c.try_push.ensures.full
    (on_ok c.try_push.result c.try_push.ensures.variant.0)
