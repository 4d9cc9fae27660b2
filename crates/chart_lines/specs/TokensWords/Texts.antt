-- Tokens as parts of the text that they stand in.
use Rattle.std.specs.Prelude.{ℕ, List, map}
use denote.Ref.{Bor}

-- what lists of tokens that lie in a text say
abbrev pub texts : List (Bor (List ℕ)) → List (List ℕ)
texts tokens = map (λ token. token.now) tokens
