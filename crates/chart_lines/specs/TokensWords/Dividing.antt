-- What the reader of a line answers, as a function of the line: its tokens.
-- This is a step between the code and the grammar: split_line promises the relation of Tokens.
use Rattle.std.specs.Prelude.{ℕ, ◌==◌, Bool, true, List, [], ◌∷◌, Option, Some, None, option_map, if◌then◌else◌}
use Rattle.std.specs.List.{onto_first}
use denote.Ref.{Bor}

-- where in a line a byte stands: between tokens, in a plain token, in a literal, or after its second apostrophe
pub data TokenState : Type 0 where
  between in_plain in_literal closed : TokenState

-- a token before the others
abbrev pub before : List ℕ → List (List ℕ) → List (List ℕ)
before token tokens = token ∷ tokens

-- the tokens from a byte on, the first one being the rest of a token that is begun
unfoldable pub tokens_from : TokenState → List ℕ → Option (List (List ℕ))
tokens_from between [] = Some []
tokens_from between (b ∷ bs) =
    if b == 32 then tokens_from between bs
    else (if b == 39 then option_map (onto_first b) (tokens_from in_literal bs) else option_map (onto_first b)
    (tokens_from in_plain bs))
tokens_from in_plain [] = Some ([] ∷ [])
tokens_from in_plain (b ∷ bs) =
    if b == 32 then option_map (before []) (tokens_from between bs)
    else (if b == 39 then None else option_map (onto_first b) (tokens_from in_plain bs))
tokens_from in_literal [] = None
tokens_from in_literal (b ∷ bs) =
    if b == 39 then option_map (onto_first b) (tokens_from closed bs) else option_map (onto_first b) (tokens_from in_literal bs)
tokens_from closed [] = Some ([] ∷ [])
tokens_from closed (b ∷ bs) = if b == 32 then option_map (before []) (tokens_from between bs) else None

-- the tokens of a line
abbrev pub tokens_of : List ℕ → Option (List (List ℕ))
tokens_of line = tokens_from between line

-- a space
abbrev pub is_space : ℕ → Bool
is_space byte = byte == 32

-- nothing, or a space first
abbrev pub is_apart : List ℕ → Bool
is_apart [] = true
is_apart (b ∷ bs) = b == 32

-- the tokens of a line that is cut after its first token, or that begins with none
abbrev pub first_then : Option (Bor (List ℕ) × Bor (List ℕ)) → Option (List (List ℕ))
first_then None = None
first_then (Some cut) = option_map (before cut.0.now) (tokens_of cut.1.now)
