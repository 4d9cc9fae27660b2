-- Readings that gave something, step by step.
use Rattle.std.proofs.Common.{◌≡◌, Bool, true, false, cond, Option, Some, None, refl}
use Rattle.chart_lines.specs.TokensWords.Steps.{◌>>=◌}

-- a step that gave something, and what was made of it
pub bound : {A B : Type 0} (o : Option A) (f : A → Option B) (y : B) → (o >>= f) ≡ Some y
    → (x : A) × (o ≡ Some x) × (f x ≡ Some y)
bound None f y e = cc
bound (Some x) f y e = (x, refl, e)

-- a test that has to fail, and what comes then
pub refused : {A : Type 0} (b : Bool) (o : Option A) (y : A) → cond b None o ≡ Some y → (b ≡ false) × (o ≡ Some y)
refused true o y e = cc
refused false o y e = (refl, e)

-- a test that has to hold, and what comes then
pub granted : {A : Type 0} (b : Bool) (o : Option A) (y : A) → cond b o None ≡ Some y → (b ≡ true) × (o ≡ Some y)
granted true o y e = (refl, e)
granted false o y e = cc
