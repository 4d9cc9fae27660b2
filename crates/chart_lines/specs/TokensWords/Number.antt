-- The numbers of a text: `0`, or 1 to 3 digits of which the first is no 0.
use Rattle.std.specs.Prelude.{◌≡◌, ℕ, ◌+◌, ◌-◌, ◌*◌, ◌<◌, ◌≤◌, IsTrue, List, [], ◌∷◌, length, fold}
use Rattle.std.specs.Char.{is_ascii_digit}
use Rattle.std.specs.List.{list_all}

-- the number that digits spell, the highest first
abbrev pub spelled_by : List ℕ → ℕ
spelled_by digits = fold (λ number digit. 10 * number + (digit - 48)) 0 digits

-- a lone digit, or digits of which the first is no 0
abbrev pub NoLeadingZero : List ℕ → Type 0
NoLeadingZero [] = Unit {0}
NoLeadingZero (digit ∷ []) = Unit {0}
NoLeadingZero (digit ∷ next ∷ digits) = 48 < digit

-- the token is this number
pub record IsNumber (token : List ℕ) (number : ℕ) : Type 0 where
  pub some : 1 ≤ length token
  pub few : length token ≤ 3
  pub digits : IsTrue (list_all is_ascii_digit token)
  pub leading : NoLeadingZero token
  pub value : number ≡ spelled_by token

-- the token is this number, and it is one of 1 to the greatest
pub record IsNumberTo (greatest : ℕ) (token : List ℕ) (number : ℕ) : Type 0 where
  pub spelled : IsNumber token number
  pub least : 1 ≤ number
  pub most : number ≤ greatest

-- the tokens are these numbers, in order
pub data AreNumbers : List (List ℕ) → List ℕ → Type 0 where
  none : AreNumbers [] []
  next : (token : List ℕ) (tokens : List (List ℕ)) (number : ℕ) (numbers : List ℕ)
      → IsNumber token number → AreNumbers tokens numbers → AreNumbers (token ∷ tokens) (number ∷ numbers)
