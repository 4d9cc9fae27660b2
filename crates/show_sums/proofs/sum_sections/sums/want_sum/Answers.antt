use Rattle.std.proofs.Common.{◌<◌, ◌∙◌, sym, subst, Option, ℕ}
use Rattle.std.specs.Prelude.{IfSome}
use Rattle.show_sums.proofs.SumSections.Wanted.{wanted-has, wants-known, wants-new, wants-none}
use Rattle.show_sums.proofs.sum_sections.sums.want_sum.Goals as goal

pub returns-in_default : goal.returns-in_default
returns-in_default c =
    wants-none c.args.totals.now c.args.why.now c.args.wanted.now.items (sym c.place_printed.ensures.value ∙ c.in_default.is)

pub returns-then-has_sum : goal.returns-then-has_sum
returns-then-has_sum c =
    wants-known c.args.totals.now c.args.why.now c.args.wanted.now.items c.in-Some.place (sym c.place_printed.ensures.value ∙ c.in-Some.is)
    (wanted-has c.args.totals.now c.args.why.now c.in-Some.place c.args.wanted.now.items c.deref.result.now c.in_ok-places.places.items
    c.deref-2.result.now c.sum_at-at.result c.has_sum.result _ c.deref.ensures.value c.in_ok-places.ensures c.deref-2.ensures.value
    c.sum_at-at.ensures c.has_sum.ensures c.if-has_sum.true)

pub returns : goal.returns
returns c =
    wants-new c.args.totals.now c.args.why.now c.args.wanted.now.items c.push.new.self.items c.in-Some.place c.sum_at-at.result
    c.placed_lines_are_printed.ensures (sym c.place_printed.ensures.value ∙ c.in-Some.is)
    (subst (λ (o : Option ℕ). IfSome o (λ p. p < 32)) c.in-Some.is c.place_printed.ensures.range)
    (wanted-has c.args.totals.now c.args.why.now c.in-Some.place c.args.wanted.now.items c.deref.result.now c.in_ok-places.places.items
    c.deref-2.result.now c.sum_at-at.result c.has_sum.result _ c.deref.ensures.value c.in_ok-places.ensures c.deref-2.ensures.value
    c.sum_at-at.ensures c.has_sum.ensures c.if-has_sum.false)
    c.sum_at-at.ensures c.in_ok-push.ensures.items
