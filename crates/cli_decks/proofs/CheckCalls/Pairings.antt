-- Lists that are related place by place.
use Rattle.std.proofs.Common.{◌≡◌, refl, ap, List, [], ◌∷◌, ◌++◌}
use Rattle.std.specs.List.{AllZip}

-- the same from the other side
pub flipped : {X Y : Type 0} (R : X → Y → Type 0) (xs : List X) (ys : List Y) → AllZip R xs ys → AllZip (λ y x. R x y) ys xs
flipped R [] [] each = tt
flipped R [] (y ∷ ys) each = absurd each
flipped R (x ∷ xs) [] each = absurd each
flipped R (x ∷ xs) (y ∷ ys) each = (each.0, flipped R xs ys each.1)

-- What a list and one item more are related to is a list and one item more.
pub record HasLast {X Y : Type 0} (R : X → Y → Type 0) (xs : List X) (ys : List Y) (y : Y) : Type 0 where
  pub front : List X
  pub last : X
  pub are : xs ≡ front ++ last ∷ []
  pub each : AllZip R front ys
  pub one : R last y

pub has_last : {X Y : Type 0} (R : X → Y → Type 0) (xs : List X) (ys : List Y) (y : Y) → AllZip R xs (ys ++ y ∷ []) → HasLast R xs ys y
has_last R [] [] y each = absurd each
has_last R [] (other ∷ ys) y each = absurd each
has_last R (x ∷ []) [] y each = record { front = []; last = x; are = refl; each = tt; one = each.0 }
has_last R (x ∷ next ∷ xs) [] y each = absurd (each.1)
has_last R (x ∷ xs) (other ∷ ys) y each =
    let later = has_last R xs ys y each.1 in
    record { front = x ∷ later.front; last = later.last; are = ap (λ l. x ∷ l) later.are; each = (each.0, later.each); one = later.one }
