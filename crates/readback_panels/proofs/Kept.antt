-- Lines of a draft, and one more of them.
use Rattle.std.proofs.Common.{◌≡◌, ◌++◌, ◌∷◌, [], List, subst, sym}
use Rattle.std.proofs.lemmas.List.Elements.{All-push}
use Rattle.readback_panels.specs.Lines.{AreOf, IsOf}
use Rattle.readback_panels.specs.declared.draft.Draft.{Draft}
use Rattle.readback_panels.specs.declared.lines.DraftLine.{DraftLine}

pub one_more : (draft : Draft) (old new : List DraftLine) (line : DraftLine) → new ≡ old ++ line ∷ [] → AreOf draft old → IsOf draft line
    → AreOf draft new
one_more draft old new line is before here = subst (AreOf draft) (sym is) (All-push (IsOf draft) old line before here)
