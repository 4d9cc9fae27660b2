use Rattle.std.proofs.Common.{◌≡◌, ◌∙◌, sym, ap, arith, ℕ, Bool, false, ◌&&◌, take, drop, nat_eq}
use Rattle.std.proofs.lemmas.Bool.{false≢true}
use Rattle.std.proofs.lemmas.List.Sums.{count_by_more_no}
use Rattle.print_unit.specs.ZeroControl.{count_of}
use Rattle.explain_wheels.proofs.explanations.significance.figure.Goals as goal

pub loop-place-preserved : goal.loop-place-preserved
loop-place-preserved c =
    let low = c.loop-place-test.true in
    let long = c.told-received in
    count_by_more_no (λ (has : Bool). has) c.args.received.now c.loop-place.place false (omega (arith, low, long)) c.if-received-place.false
    ∙ c.loop-place.invariant

pub unreachable-requires : goal.unreachable-requires
unreachable-requires c =
    let received = c.args.received.now in
    let all : c.loop-place.place ≡ 9 = omega (arith, c.loop-place.auto.place-end, c.loop-place-test.false) in
    let none : count_of (take 9 received) ≡ 0 = ap (λ (n : ℕ). count_of (take n received)) (sym all) ∙ c.loop-place.invariant in
    false≢true (sym (ap (λ (n : ℕ). nat_eq n 1 && nat_eq (count_of (drop 9 received)) 0) none) ∙ c.requires)
