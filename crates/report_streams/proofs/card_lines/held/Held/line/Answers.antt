use Rattle.std.proofs.Common.{◌∙◌, ◌≤◌, ap, subst, take, sym}
use Rattle.report_streams.proofs.CardLines.Cuts.{line_of_cut}
use Rattle.report_streams.proofs.card_lines.held.Held.line.Goals as goal
use Rattle.report_streams.specs.CardLines.Front.{line_end}

pub returns : goal.returns
returns c = λ short.
    c.as_slice.ensures.value
    ∙ line_of_cut _ _ c.self.invariant (subst (λ held. line_end held ≤ 81) (sym c.self.view_is) short)
    ∙ ap (λ held. take (line_end held) held) c.self.view_is
