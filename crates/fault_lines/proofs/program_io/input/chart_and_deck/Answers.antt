use Rattle.std.proofs.Common.{◌≡◌, ◌∙◌, sym, ap, subst, ℕ, List, ◌+◌, ◌-◌, take, drop, length, arith, refl, length-drop}
use Rattle.std.proofs.lemmas.Bool.{false≢true}
use Rattle.std.proofs.Math.Seq.{take-length, drop-length}
use Rattle.std.proofs.lemmas.List.{take_rest}
use Rattle.fault_lines.specs.ProgramIo.Input.{IsDivided, IsEndPiece, HasNoLineFeed}
use Rattle.fault_lines.proofs.ProgramIo.Division.{chart_ends, chart_goes_on, all_chart}
use Rattle.fault_lines.proofs.program_io.input.chart_and_deck.Goals as goal

-- the line as it was cut out of the text
piece_is : (text : List ℕ) (taken size : ℕ)
    → take (taken + (size + 1) - 1 - taken) (drop taken text) ≡ take size (take (length text - taken) (drop taken text))
piece_is text taken size =
    let same : taken + (size + 1) - 1 - taken ≡ size = omega arith in
    ap (λ n. take n (drop taken text)) same ∙ ap (λ t. take size t) (sym (take_rest text taken))

pub returns-then-ends_chart : goal.returns-then-ends_chart
returns-then-ends_chart c =
    let text = c.args.text.now in
    let end = c.if-ends_chart.ensures.0 refl in
    subst (λ (chart : List ℕ). IsDivided text chart c.split_at.result.1.now) (sym c.split_at.ensures.front)
    (subst (IsDivided text (take (c.loop-length.taken + (c.in-Some.length + 1)) text)) (sym c.split_at.ensures.back)
    (chart_ends text _ c.loop-length.taken c.in-Some.length (take_rest text c.loop-length.taken) c.in-Some.ensures.within
    c.in-Some.ensures.found c.in-Some.ensures.before c.loop-length.invariant.1
    (subst IsEndPiece (piece_is text c.loop-length.taken c.in-Some.length) end)))

-- how long the rest is
rest_long : (text : List ℕ) (taken : ℕ) → length (take (length text - taken) (drop taken text)) ≡ length text - taken
rest_long text taken = ap length (take_rest text taken) ∙ length-drop taken text

pub loop-length-preserved : goal.loop-length-preserved
loop-length-preserved c =
    let text = c.args.text.now in
    let other : IsEndPiece (take c.in-Some.length (take (length text - c.loop-length.taken) (drop c.loop-length.taken text))) → ⊥ =
    λ end. false≢true (c.if-ends_chart.ensures.1 (subst IsEndPiece (sym (piece_is text c.loop-length.taken c.in-Some.length)) end)) in (
      omega (arith, c.in-Some.ensures.within, rest_long text c.loop-length.taken, c.loop-length.invariant.0),
      chart_goes_on text _ c.loop-length.taken c.in-Some.length (take_rest text c.loop-length.taken) c.in-Some.ensures.within
          c.in-Some.ensures.found c.in-Some.ensures.before c.loop-length.invariant.1 other,
    )

pub returns : goal.returns
returns c =
    let text = c.args.text.now in
    let none : HasNoLineFeed (drop c.loop-length.taken text) = subst HasNoLineFeed (take_rest text c.loop-length.taken) c.in_default.ensures.none in
    subst (λ (chart : List ℕ). IsDivided text chart c.split_at-2.result.1.now) (sym (c.split_at-2.ensures.front ∙ take-length text))
    (subst (IsDivided text text) (sym (c.split_at-2.ensures.back ∙ drop-length text))
    (all_chart text c.loop-length.taken c.loop-length.invariant.1 none))
