use Rattle.std.proofs.Common.{◌≡◌, ◌+◌, ◌∙◌, ◌≤◌, ap, length, subst, List, ℕ}
use Rattle.std.specs.List.{prefix_len}
use Rattle.std.proofs.lemmas.List.{take_rest}
use Rattle.chart_lines.specs.TokensWords.Dividing.{is_space}
use Rattle.fault_slips.specs.LineMarks.Spans.{first_end}
use Rattle.fault_slips.proofs.LineMarks.Steps.{Passed-more, Passed-all}
use Rattle.fault_slips.proofs.line_marks.span.token_start.Goals as goal

pub loop-preserved : goal.loop-preserved
loop-preserved c =
    let left = take_rest c.args.line.now c.loop.passed in
    Passed-more c.args.index c.loop.counter c.loop.passed c.first_end-passed.result c.args.line.now c.loop-test.true
    (c.first_end-passed.ensures.value ∙ ap first_end left)
    (subst (λ (l : List ℕ). c.first_end-passed.result ≤ length l) left c.first_end-passed.ensures.within) c.loop.invariant

pub returns-clause-value : goal.returns-clause-value
returns-clause-value c =
    ap (λ n. c.loop.passed + n) (c.spaces_before.ensures.value ∙ ap (prefix_len is_space) (take_rest c.args.line.now c.loop.passed))
    ∙ Passed-all c.args.index c.loop.counter c.loop.passed c.args.line.now c.loop-test.false c.loop.invariant
