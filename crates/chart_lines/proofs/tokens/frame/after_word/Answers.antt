use Rattle.std.proofs.Common.{sym}
use Rattle.std.proofs.lemmas.Bool.{eqb-true}
use Rattle.chart_lines.proofs.TokensWords.FirstWord.{no_word-empty, no_word-undivided, no_word-other, word_by}
use Rattle.chart_lines.proofs.tokens.frame.after_word.Goals as goal

pub returns-then-is_empty-clause-other : goal.returns-then-is_empty-clause-other
returns-then-is_empty-clause-other c = λ tokens.
    no_word-empty c.args.line.now _ _ tokens c.without_spaces-rest.ensures.tokens (eqb-true _ 0 (sym (c.if-is_empty.ensures)))

pub returns-in_default-clause-other : goal.returns-in_default-clause-other
returns-in_default-clause-other c = λ tokens.
    no_word-undivided c.args.line.now _ _ tokens c.without_spaces-rest.ensures.tokens c.in_default.ensures.tokens

pub returns-then-is-clause-first : goal.returns-then-is-clause-first
returns-then-is-clause-first c = λ tokens.
    word_by c.args.line.now _ _ _ _ tokens c.without_spaces-rest.ensures.tokens c.in-Some.ensures.tokens (sym (c.if-is.ensures))

pub returns-else-is-clause-other : goal.returns-else-is-clause-other
returns-else-is-clause-other c = λ tokens.
    no_word-other c.args.line.now _ _ _ _ tokens c.without_spaces-rest.ensures.tokens c.in-Some.ensures.tokens
    (sym (c.if-is.ensures))
