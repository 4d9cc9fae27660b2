use Rattle.std.proofs.Common.{◌∙◌, ◌-◌, arith, sym, true, false}
use Rattle.std.specs.Prelude.{slice_get}
use Rattle.explain_origins.proofs.Texts.{column-more}
use Rattle.explain_origins.proofs.holes.+column_to.Goals as goal

pub returns-then-leads_to : goal.returns-then-leads_to
returns-then-leads_to t c =
    let some = c.if-columns-eq0.false in
    column-more c.args.setup.now (slice_get c.args.cards.now c.args.place) c.args.station c.args.row c.args.entry c.args.columns
    (c.args.columns - 1) c.column_to.result true (omega (arith, some)) c.in_default.is c.column_to.ensures (sym c.if-leads_to.true ∙ c.leads_to.ensures)

pub returns-else-leads_to : goal.returns-else-leads_to
returns-else-leads_to t c =
    let some = c.if-columns-eq0.false in
    column-more c.args.setup.now (slice_get c.args.cards.now c.args.place) c.args.station c.args.row c.args.entry c.args.columns
    (c.args.columns - 1) c.column_to.result false (omega (arith, some)) c.in_default.is c.column_to.ensures (sym c.if-leads_to.false ∙ c.leads_to.ensures)
