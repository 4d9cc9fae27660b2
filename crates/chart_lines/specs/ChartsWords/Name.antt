-- The name of a field: a letter A to Z and up to 7 letters or digits, filled with blanks to 8 characters.
use Rattle.std.specs.Prelude.{◌≡◌, ℕ, ◌-◌, ◌≤◌, ◌==◌, ◌&&◌, ◌||◌, Bool, true, false, IsTrue, List, [], ◌∷◌, ◌++◌, length, replicate}
use Rattle.std.specs.Char.{is_ascii_digit, is_ascii_uppercase}
use Rattle.std.specs.List.{before_first, list_all}

-- a capital letter or a digit
abbrev pub is_letter_or_digit : ℕ → Bool
is_letter_or_digit character = is_ascii_uppercase character || is_ascii_digit character

-- letters and digits, a letter first
abbrev pub begins_with_letter : List ℕ → Bool
begins_with_letter [] = false
begins_with_letter (first ∷ others) = is_ascii_uppercase first && list_all is_letter_or_digit others

-- the token is this name
pub record IsName (token name : List ℕ) : Type 0 where
  pub spelled : IsTrue (begins_with_letter token)
  pub short : length token ≤ 8
  pub filled : name ≡ token ++ replicate (8 - length token) 32

-- a name without the blanks that fill it
abbrev pub name_text : List ℕ → List ℕ
name_text name = before_first (λ character. character == 32) name

-- 8 characters that are a name: that of some token
pub record HasShape (name : List ℕ) : Type 0 where
  pub token : List ℕ
  pub is_name : IsName token name

-- whether two names are the same
abbrev pub is_same_name : List ℕ → List ℕ → Bool
is_same_name [] [] = true
is_same_name (a ∷ as_one) (b ∷ as_other) = (a == b) && is_same_name as_one as_other
is_same_name one other = false
