use Rattle.std.proofs.Common.{ℕ, List, subst}
use Rattle.chart_text.specs.TextFaults.{HasTextFault}
use Rattle.chart_text.specs.declared.fault.TextFault.TheVariants.{NotALine}
use Rattle.fault_lists.proofs.MisreadLines.Steps.{ListsSoFar-all, ListsSoFar-more, ListsSoFar-none}
use Rattle.fault_lists.proofs.misread_lines.listing.misread_lines.Goals as goal

pub returns-in_default : goal.returns-in_default
returns-in_default c =
    ListsSoFar-none c.args.text.now c.loop.rest.items c.loop.lines.items c.loop.counter c.loop-test.true
    (subst (λ (t : List ℕ). (line : ℕ) → HasTextFault t (NotALine line) → ⊥) c.as_slice.ensures.value (rw c.in_default.is at c.in_ok-line.ensures.none))
    c.loop.invariant

pub loop-preserved : goal.loop-preserved
loop-preserved c =
    rw (c.in_ok-push.ensures.items, c.in_ok-rest-2.ensures, c.as_slice-in-loop.ensures.value, c.from.ensures)
    (ListsSoFar-more c.args.text.now c.loop.rest.items c.loop.lines.items c.loop.counter c.in-Some.line c.loop-test.true
    (subst (λ (t : List ℕ). HasTextFault t (NotALine c.in-Some.line)) c.as_slice.ensures.value (rw c.in-Some.is at c.in_ok-line.ensures.some))
    c.loop.invariant)

pub returns : goal.returns
returns c = ListsSoFar-all c.args.text.now c.loop.rest.items c.loop.lines.items c.loop.counter c.loop-test.false c.loop.invariant
