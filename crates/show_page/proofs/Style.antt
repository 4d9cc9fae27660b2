-- What a text gains to which a style sheet was pushed.
use Rattle.std.proofs.Common.{◌≡◌, ℕ, List, ◌++◌}
use Rattle.std.specs.Prelude.{OnOk, Result, if◌then◌else◌}
use Rattle.std.specs.Result.{is_ok}
use Rattle.show_drawings.proofs.MarkupWords.Pieces.{pushed, where_ok}
use Rattle.show_drawings.specs.MarkupWords.Pieces.{GainsOne}
use Rattle.show_page.specs.Frame.{IsStyle}

pub style_pushed : {A E : Type 0} (result : Result A E) (new old style : List ℕ) → IsStyle style
    → new ≡ (if is_ok result then old ++ style else old) → OnOk result (GainsOne IsStyle old new)
style_pushed result new old style is gained =
    where_ok (new ≡ old ++ style) (GainsOne IsStyle old new) result (λ e. record { text = style; is = is; gained = e })
    (pushed result new (old ++ style) old gained)
