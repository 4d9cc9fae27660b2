use Rattle.std.proofs.Common.{◌∙◌, ◌+◌, List, [], arith, subst, sym, take}
use Rattle.std.proofs.lemmas.Bool.{false≢true}
use Rattle.std.proofs.lemmas.List.{take_all}
use Rattle.machine_sets.specs.BitSets.Bits.{has_place}
use Rattle.net.specs.Orders.{AreOrdersOf}
use Rattle.net.specs.Tellings.{AreLast, is_told}
use Rattle.net.specs.declared.tellings.Branch.{Branch}
use Rattle.net.proofs.TellingLemmas.{AreLast-more, AreOrdersOf-same, told-closed, told-none, told-open}
use Rattle.net.proofs.tellings.told_through.Goals as goal

pub loop-branch-init : goal.loop-branch-init
loop-branch-init c = record {
  told = λ first led is all.
      AreOrdersOf-same first (is_told first led (has_place c.args.closed.now) []) c.args.base.now
      (told-none first led (has_place c.args.closed.now)) is;
  last = λ k d never. absurd (omega (arith, never));
}

pub loop-branch-preserved : goal.loop-branch-preserved
loop-branch-preserved c =
    let closed = has_place c.args.closed.now in
    let i = c.loop-branch.branch-index in
    let items = c.args.branches.now in
    record {
      told = λ first led is all.
          AreOrdersOf-same _ (is_told first led closed (take (i + 1) items)) c.joined-orders.result
          (told-closed first led closed items i _ c.loop-branch-test.true (sym c.has.ensures ∙ c.if-not-has.false))
          (c.joined-orders.ensures _ _ (c.loop-branch.invariant.told first led is all) (all i _ c.loop-branch-test.true));
      last = AreLast-more closed items i _ c.loop-branch-test.true (λ _. c.if-not-branch.false) c.loop-branch.invariant.last;
    }

pub loop-branch-preserved-then-not-has : goal.loop-branch-preserved-then-not-has
loop-branch-preserved-then-not-has c =
    let closed = has_place c.args.closed.now in
    let i = c.loop-branch.branch-index in
    let items = c.args.branches.now in
    record {
      told = λ first led is all.
          AreOrdersOf-same _ (is_told first led closed (take (i + 1) items)) c.loop-branch.orders
          (told-open first led closed items i _ c.loop-branch-test.true (sym c.has.ensures ∙ c.if-not-has.true))
          (c.loop-branch.invariant.told first led is all);
      last =
          AreLast-more closed items i _ c.loop-branch-test.true
          (λ shut. absurd (false≢true (sym (sym c.has.ensures ∙ c.if-not-has.true) ∙ shut))) c.loop-branch.invariant.last;
    }

pub returns-clause-told : goal.returns-clause-told
returns-clause-told c first led is all =
    subst (λ (some : List Branch). AreOrdersOf (is_told first led (has_place c.args.closed.now) some) c.loop-branch.orders)
    (take_all c.loop-branch.branch-index c.args.branches.now c.loop-branch-test.false) (c.loop-branch.invariant.told first led is all)

pub returns-clause-last : goal.returns-clause-last
returns-clause-last c =
    subst (AreLast (has_place c.args.closed.now)) (take_all c.loop-branch.branch-index c.args.branches.now c.loop-branch-test.false)
    c.loop-branch.invariant.last
