use Rattle.std.proofs.Common.{List, OnOk, subst, ℕ}
use Rattle.chart_text.specs.TextFaults.{HasTextFault}
use Rattle.chart_text.specs.declared.fault.TextFault.TheVariants as text
use Rattle.fault_lists.proofs.Rests.{rest_ended, rest_unended}
use Rattle.fault_lists.specs.Behind.{WritesOthers, WritesUnended}
use Rattle.fault_lists.proofs.behind.list_behind.Goals as goal

pub returns-then-lacks-clause-listed : goal.returns-then-lacks-clause-listed
returns-then-lacks-clause-listed g c =
    rest_unended c.list_unended.result c.args.text.now c.args.lines.now c.in_ok-left.left.items (g.W.Write.contents c.args.out.now)
    (g.W.Write.contents c.list_unended.new.out) c.in_ok-left.ensures
    (subst (λ (t : List ℕ). HasTextFault t text.NoEnd) c.as_slice.ensures.value (c.in_ok-lacks.ensures.is c.if-lacks.true))
    (subst (λ (t : List ℕ). OnOk c.list_unended.result
    (WritesUnended c.args.text.now c.args.lines.now t (g.W.Write.contents c.args.out.now) (g.W.Write.contents c.list_unended.new.out)))
    c.as_slice-then-lacks.ensures.value c.list_unended.ensures.listed)

pub returns-clause-listed : goal.returns-clause-listed
returns-clause-listed g c =
    rest_ended c.list_others.result c.args.text.now c.args.lines.now c.in_ok-left.left.items (g.W.Write.contents c.args.out.now)
    (g.W.Write.contents c.list_others.new.out) c.in_ok-left.ensures
    (subst (λ (t : List ℕ). ¬ HasTextFault t text.NoEnd) c.as_slice.ensures.value (c.in_ok-lacks.ensures.not c.if-lacks.false))
    (subst (λ (t : List ℕ). OnOk c.list_others.result
    (WritesOthers c.args.text.now t (g.W.Write.contents c.args.out.now) (g.W.Write.contents c.list_others.new.out)))
    c.as_slice-else-lacks.ensures.value c.list_others.ensures.listed)
