use Rattle.std.proofs.Common.{◌∙◌, refl, sym}
use Rattle.hubs.specs.declared.hub.Hub.TheVariants.{SP, SK, RS}
use Rattle.net.specs.HubSets.{is_in_row}
use Rattle.carriage.proofs.AskedSteps.{is_in_reach-SK, asked_by-same, asked_by-nothing}
use Rattle.carriage.proofs.asked.Asked.by.Goals as goal

pub returns-then-row-eq0 : goal.returns-then-row-eq0
returns-then-row-eq0 c picture row =
    c.nothing.ensures ∙ sym (asked_by-nothing c.args.row c.if-row-eq0.true)
    ∙ asked_by-same (is_in_row (SP 2) c.args.row) picture (row (SP 2) refl) (row (SP 3) refl) (row RS refl) (λ channel from to. row (SK channel) (is_in_reach-SK channel from to))

pub returns-else-row-eq0 : goal.returns-else-row-eq0
returns-else-row-eq0 c picture row =
    c.asked_in.ensures
    ∙ asked_by-same (is_in_row (SP 2) c.args.row) picture (row (SP 2) refl) (row (SP 3) refl) (row RS refl) (λ channel from to. row (SK channel) (is_in_reach-SK channel from to))
