use Rattle.std.proofs.Common.{◌≡◌, ◌∙◌, ◌++◌, [], ap, arith, sym, append-nil, drop, take}
use Rattle.std.proofs.lemmas.Grind.{common_steps}
use Rattle.cli_calls.specs.WholeRuns.Pages.{first_pages, pages_behind}
use Rattle.cli_calls.proofs.WholeRuns.Passing.{behind_goes_on, behind_none, first_goes_on, first_of_none}
use Rattle.cli_calls.proofs.whole_runs.pages.place_behind.Goals as goal

pub loop-byte-preserved : goal.loop-byte-preserved
loop-byte-preserved c = record {
  place = grind (arith, c.loop-byte.invariant.place);
  before =
      sym (first_goes_on c.args.text.now c.loop-byte.byte-index c.loop-byte.left c.left_behind-left.result c.loop-byte-test.true c.if-left-eq0.false
      c.left_behind-left.ensures)
      ∙ c.loop-byte.invariant.before;
  behind =
      sym (behind_goes_on c.args.text.now c.loop-byte.byte-index c.loop-byte.left c.left_behind-left.result c.loop-byte-test.true c.if-left-eq0.false
      c.left_behind-left.ensures)
      ∙ c.loop-byte.invariant.behind;
}

pub returns-clause-before : goal.returns-clause-before
returns-clause-before c =
    let nothing : drop c.loop-byte.byte-index c.args.text.now ≡ [] = grind (arith, common_steps, c.loop-byte-test.false) in
    ap (λ place. take place c.args.text.now) c.loop-byte.invariant.place
    ∙ sym (append-nil (take c.loop-byte.byte-index c.args.text.now))
    ∙ ap (λ pages. take c.loop-byte.byte-index c.args.text.now ++ pages) (sym (first_of_none c.loop-byte.left))
    ∙ ap (λ rest. take c.loop-byte.byte-index c.args.text.now ++ first_pages c.loop-byte.left rest) (sym nothing)
    ∙ c.loop-byte.invariant.before

pub returns-clause-behind : goal.returns-clause-behind
returns-clause-behind c =
    let nothing : drop c.loop-byte.byte-index c.args.text.now ≡ [] = grind (arith, common_steps, c.loop-byte-test.false) in
    ap (λ place. drop place c.args.text.now) c.loop-byte.invariant.place
    ∙ nothing ∙ sym (behind_none c.loop-byte.left)
    ∙ ap (pages_behind c.loop-byte.left) (sym nothing)
    ∙ c.loop-byte.invariant.behind
