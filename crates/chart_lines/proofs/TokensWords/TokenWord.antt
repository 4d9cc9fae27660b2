-- A token that is tested for a word.
use Rattle.std.proofs.Common.{◌≡◌, ℕ, true, List}
use Rattle.std.proofs.lemmas.Slice.Eq.{bytes_eq-Decides}
use Rattle.std.specs.Str.{bytes_eq}

-- a word
pub is_word : (token word : List ℕ) → bytes_eq token word ≡ true → token ≡ word
is_word token word same = (bytes_eq-Decides token word).0 same
