use Rattle.std.proofs.Common.{List, sym, subst, ℕ, ◌∙◌}
use Rattle.hubs.specs.SetupsWords.Wiring.{Wiring}
use Rattle.wiring_text.specs.WiringFaults.{HasWiringFault}
use Rattle.wiring_text.specs.WiringText.{ReadsAs}
use Rattle.fault_wiring_slips.proofs.Steps.{ListsSoFar-all, ListsSoFar-last, ListsSoFar-more, ListsSoFar-none}
use Rattle.fault_wiring_slips.proofs.faulty.wiring_faults.Goals as goal

pub returns-in_default : goal.returns-in_default
returns-in_default c =
    ListsSoFar-none c.args.text.now c.loop.good.items c.loop.faults.items c.loop.counter c.loop-test.true
    (subst (λ (t : List ℕ). (wiring : Wiring) × ReadsAs t wiring) c.as_slice.ensures.value (rw c.in_default.is at c.in_ok-fault.ensures.none))
    c.loop.invariant

pub returns-in_default-line_behind : goal.returns-in_default-line_behind
returns-in_default-line_behind c =
    rw (c.in_ok-push.ensures.items)
    (ListsSoFar-last c.args.text.now c.loop.good.items c.loop.faults.items c.in-Some.fault c.loop.counter c.loop-test.true
    (subst (λ (t : List ℕ). HasWiringFault t c.in-Some.fault) c.as_slice.ensures.value (rw c.in-Some.is at c.in_ok-fault.ensures.some))
    (sym c.line_behind.ensures ∙ c.in_default-line_behind.is) c.loop.invariant)

pub loop-preserved : goal.loop-preserved
loop-preserved c =
    rw (c.in_ok-push.ensures.items, c.in_ok-good-2.ensures, c.as_slice-in-loop.ensures.value)
    (ListsSoFar-more c.args.text.now c.loop.good.items c.loop.faults.items c.in-Some.fault c.loop.counter c.in-Some-line_behind.line c.loop-test.true
    (subst (λ (t : List ℕ). HasWiringFault t c.in-Some.fault) c.as_slice.ensures.value (rw c.in-Some.is at c.in_ok-fault.ensures.some))
    (sym c.line_behind.ensures ∙ c.in-Some-line_behind.is) c.loop.invariant)

pub returns : goal.returns
returns c =
    ListsSoFar-all c.args.text.now c.loop.good.items c.loop.faults.items c.loop.counter c.loop-test.false c.loop.invariant
