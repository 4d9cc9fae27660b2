use Rattle.std.proofs.Common.{◌≡◌, ◌∙◌, Some, slice_get, ap, subst, sym}
use Rattle.std.specs.Option.{option_copied}
use Rattle.report_streams.proofs.CardLines.Cuts.{first_of, whole_line}
use Rattle.report_streams.proofs.card_lines.held.Held.front.Goals as goal
use Rattle.report_streams.specs.CardLines.Front.{IsLine, line_end}

pub returns-in-Some-eq10 : goal.returns-in-Some-eq10
returns-in-Some-eq10 c =
    let first : Some 10 ≡ slice_get c.self.inside.block 0 =
    ap Some (sym c.in-Some-eq10.field-0-test) ∙ ap option_copied (sym c.in-Some-eq10.is) ∙ c.first.ensures.value ∙ ap (λ block. slice_get block 0) c.bytes.ensures in
    let at = first_of _ 10 first in
    subst (λ held. IsLine held (line_end held)) c.self.view_is (whole_line _ _ c.self.invariant (at.0) (at.1))
