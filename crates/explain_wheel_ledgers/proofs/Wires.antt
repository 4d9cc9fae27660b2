-- Wires from the positions of a counter group to a wheel.
use Rattle.std.proofs.Common.{◌≡◌, ◌∙◌, ◌-◌, ◌<◌, ◌||◌, ap, arith, Bool, ℕ, zero, suc}
use Rattle.hubs.specs.declared.hub.Group.{Group}
use Rattle.hubs.specs.declared.hub.Hub.TheVariants.{GX, W}
use Rattle.hubs.specs.SetupsWords.Wiring.{Wiring, is_wired}
use Rattle.explain_wheel_ledgers.specs.Figures.{digit_to}

-- one position more
pub digit-more : (wiring : Wiring) (group : Group) (wheel positions before : ℕ) (here rest : Bool) → 0 < positions → before ≡ positions - 1
    → here ≡ is_wired wiring (GX group positions) (W wheel) → rest ≡ digit_to wiring group wheel before
    → (here || rest) ≡ digit_to wiring group wheel positions
unfolding digit_to
digit-more wiring group wheel zero before here rest some below is follows = absurd (omega (arith, some))
digit-more wiring group wheel (suc position) before here rest some below is follows =
    let same : before ≡ position = omega (arith, below) in
    ap (λ (b : Bool). b || rest) is
    ∙ ap (λ (b : Bool). is_wired wiring (GX group (suc position)) (W wheel) || b) (follows ∙ ap (digit_to wiring group wheel) same)
