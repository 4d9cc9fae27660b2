use Rattle.std.proofs.Common.{◌∙◌, ap, sym, arith, slice_set, length, Bool, List}
use Rattle.std.proofs.lemmas.List.{length-set, set_past}
use Rattle.selectors.specs.Fields.{latches_in}
use Rattle.selectors.proofs.BalanceLemmas.{latches-long, row-of, row-tells}
use Rattle.selectors.proofs.balance.BalanceLatches.set.Goals as goal

pub invariant_of-self : goal.invariant_of-self
invariant_of-self c =
    let old = latches_in c.self.inside.transferred in
    row-of c.with_latch-self-inside.result (slice_set old c.args.place c.args.latch)
    (length-set old c.args.place c.args.latch ∙ latches-long c.self.inside.transferred)
    (c.with_latch-self-inside.ensures old (latches-long c.self.inside.transferred) c.self.invariant)

pub returns-then-place-lt-GROUPS : goal.returns-then-place-lt-GROUPS
returns-then-place-lt-GROUPS c =
    let old = latches_in c.self.inside.transferred in
    row-tells c.with_latch-self-inside.result (slice_set old c.args.place c.args.latch)
    (length-set old c.args.place c.args.latch ∙ latches-long c.self.inside.transferred)
    (c.with_latch-self-inside.ensures old (latches-long c.self.inside.transferred) c.self.invariant)
    ∙ ap (λ (latches : List Bool). slice_set latches c.args.place c.args.latch) c.self.view_is

pub returns-else-place-lt-GROUPS : goal.returns-else-place-lt-GROUPS
returns-else-place-lt-GROUPS c =
    let long = ap length (sym c.self.view_is) ∙ latches-long c.self.inside.transferred in
    sym (set_past c.args.self.now c.args.place c.args.latch (omega (arith, long, c.if-place-lt-GROUPS.false)))
