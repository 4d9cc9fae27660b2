-- The exits that some unit emits.
use Rattle.std.proofs.Common.{◌≡◌, Bool, true, false, ◌||◌, refl}

none-two : (a : Bool) → (a || false || false) ≡ a
none-two true = refl
none-two false = refl

none-three : (a : Bool) → (a || false || false || false) ≡ a
none-three true = refl
none-three false = refl

-- the units that emit, one after another, with those that emit nothing between them
pub all-emit : (before stations comparing groups storage emitters program : Bool)
    → (before || stations || comparing || groups || storage || emitters || program)
    ≡ (before
    || (stations || comparing || groups || storage || false || false || false || emitters || false || false || program))
all-emit true stations comparing groups storage emitters program = refl
all-emit false stations comparing groups storage emitters program =
    rw (none-three (stations || comparing || groups || storage), none-two (stations || comparing || groups || storage || emitters)) refl
