-- The tokens of a line. Only a space divides tokens, and spaces may stand at both ends of a line.
use Rattle.std.specs.Prelude.{◌≡◌, ℕ, ◌<◌, ◌==◌, ◌&&◌, not, Bool, IsTrue, List, [], ◌∷◌, ◌++◌, length, ◌⊎◌}
use Rattle.std.specs.List.{list_all}

-- a byte that a plain token can have: no space and no apostrophe
abbrev pub is_plain : ℕ → Bool
is_plain byte = not (byte == 32) && not (byte == 39)

-- a byte that can stand between apostrophes
abbrev pub is_inside : ℕ → Bool
is_inside byte = not (byte == 39)

-- a plain token: at least one byte, and neither a space nor an apostrophe
pub record IsPlainToken (token : List ℕ) : Type 0 where
  pub some : 0 < length token
  pub plain : IsTrue (list_all is_plain token)

-- a literal token: an apostrophe, bytes that are no apostrophe, and an apostrophe
pub record IsLiteralToken (token : List ℕ) : Type 0 where
  pub inside : List ℕ
  pub no_apostrophe : IsTrue (list_all is_inside inside)
  pub spelled : token ≡ 39 ∷ (inside ++ 39 ∷ [])

-- a token of either kind
abbrev pub IsToken : List ℕ → Type 0
IsToken token = IsPlainToken token ⊎ IsLiteralToken token

-- what stands after a token: nothing, or a space first
abbrev pub IsApart : List ℕ → Type 0
IsApart [] = Unit {0}
IsApart (byte ∷ bytes) = byte ≡ 32

-- a line and its tokens: spaces, and tokens with a space or the line's end after each
pub data HasTokens : List ℕ → List (List ℕ) → Type 0 where
  ended : HasTokens [] []
  spaced : (line : List ℕ) (tokens : List (List ℕ)) → HasTokens line tokens → HasTokens (32 ∷ line) tokens
  led : (token after : List ℕ) (tokens : List (List ℕ))
      → IsToken token → IsApart after → HasTokens after tokens → HasTokens (token ++ after) (token ∷ tokens)
