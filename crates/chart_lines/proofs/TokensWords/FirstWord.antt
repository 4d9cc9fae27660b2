-- The first token of a line, against a word.
use Rattle.std.proofs.Common.{◌≡◌, ◌≢◌, ◌↔◌, ◌<◌, ◌==◌, ℕ, List, [], ◌∷◌, length, get_or, Some, None, option_map, refl, ap, sym, ◌∙◌, arith, true, false, IsTrue}
use Rattle.std.proofs.lemmas.Bool.{eqb-true, false≢true}
use Rattle.std.proofs.lemmas.Option.{none-some}
use Rattle.std.proofs.lemmas.Slice.Eq.{bytes_eq-Decides}
use Rattle.std.specs.Str.{bytes_eq}
use Rattle.chart_lines.specs.TokensWords.Tokens.{HasTokens, ended, spaced, led}
use Rattle.chart_lines.specs.TokensWords.Dividing.{tokens_of, tokens_from, before}
use Rattle.chart_lines.specs.TokensWords.Frame.{IsEmptyLine}
use Rattle.chart_lines.proofs.TokensWords.TokenGrammar.{has_what_is_read, read_what_it_has, mapped}
use Rattle.chart_lines.proofs.TokensWords.TokenWord.{is_word}

-- no byte
no_bytes : (bytes : List ℕ) → length bytes ≡ 0 → bytes ≡ []
no_bytes [] empty = refl
no_bytes (b ∷ bs) empty = absurd (omega (arith, empty))

-- a line that begins with no space and has no token has no byte
no_byte : {line : List ℕ} {tokens : List (List ℕ)} → HasTokens line tokens → tokens ≡ []
    → (0 < length line → get_or line 0 0 ≢ 32) → line ≡ []
no_byte ended none first = refl
no_byte (spaced line tokens has) none first = absurd (first (omega arith) refl)
no_byte (led token after tokens is apart has) none first = cc

-- what is read of nothing
tokens_of-nothing : tokens_of [] ≡ Some []
unfolding tokens_from
tokens_of-nothing = refl

-- a line without its spaces, which are all that it has where it has no token
pub empty_by : (line rest : List ℕ) → tokens_of rest ≡ tokens_of line → (0 < length rest → get_or rest 0 0 ≢ 32)
    → IsTrue (length rest == 0) ↔ IsEmptyLine line
empty_by line rest same first = (come, gone)
  where
    come : IsTrue (length rest == 0) → IsEmptyLine line
    come empty = has_what_is_read line []
        (sym same ∙ ap tokens_of (no_bytes rest (eqb-true _ _ empty)) ∙ tokens_of-nothing)

    gone : IsEmptyLine line → IsTrue (length rest == 0)
    gone has =
        let nothing : rest ≡ [] = no_byte (has_what_is_read rest [] (same ∙ read_what_it_has has)) refl first in
        ap (λ (l : List ℕ). length l == 0) nothing

-- a line of spaces alone
pub no_word-empty : (line rest word : List ℕ) (tokens : List (List ℕ)) → tokens_of rest ≡ tokens_of line
    → length rest ≡ 0 → HasTokens line (word ∷ tokens) → ⊥
no_word-empty line rest word tokens same empty has =
    two (sym tokens_of-nothing ∙ ap tokens_of (sym (no_bytes rest empty)) ∙ same ∙ read_what_it_has has)
  where
    two : Some [] ≡ Some (word ∷ tokens) → ⊥
    two e = cc

-- a line that isn't made of tokens
pub no_word-undivided : (line rest word : List ℕ) (tokens : List (List ℕ)) → tokens_of rest ≡ tokens_of line
    → tokens_of rest ≡ None → HasTokens line (word ∷ tokens) → ⊥
no_word-undivided line rest word tokens same none has = none-some _ (sym none ∙ same ∙ read_what_it_has has)

-- the first token and what is after it, where the first of the tokens is known
first_is : (token after word : List ℕ) (tokens : List (List ℕ))
    → option_map (before token) (tokens_of after) ≡ Some (word ∷ tokens)
    → (token ≡ word) × (tokens_of after ≡ Some tokens)
first_is token after word tokens read =
    let (others, is, same) = mapped (before token) (tokens_of after) (word ∷ tokens) read in
    (one same, is ∙ ap Some (rest same))
  where
    one : {others : List (List ℕ)} → before token others ≡ word ∷ tokens → token ≡ word
    one e = cc

    rest : {others : List (List ℕ)} → before token others ≡ word ∷ tokens → others ≡ tokens
    rest e = cc

-- a line that another token begins
pub no_word-other : (line rest token after word : List ℕ) (tokens : List (List ℕ)) → tokens_of rest ≡ tokens_of line
    → tokens_of rest ≡ option_map (before token) (tokens_of after) → bytes_eq token word ≡ false
    → HasTokens line (word ∷ tokens) → ⊥
no_word-other line rest token after word tokens same begun other has =
    let first = (first_is token after word tokens (sym begun ∙ same ∙ read_what_it_has has)).0 in
    false≢true (sym other ∙ (bytes_eq-Decides token word).1 first)

-- a line that the word begins
pub word_by : (line rest token after word : List ℕ) (tokens : List (List ℕ)) → tokens_of rest ≡ tokens_of line
    → tokens_of rest ≡ option_map (before token) (tokens_of after) → bytes_eq token word ≡ true
    → HasTokens line (word ∷ tokens) ↔ HasTokens after tokens
word_by line rest token after word tokens same begun is = (come, gone)
  where
    come : HasTokens line (word ∷ tokens) → HasTokens after tokens
    come has = has_what_is_read after tokens
        (first_is token after word tokens (sym begun ∙ same ∙ read_what_it_has has)).1

    gone : HasTokens after tokens → HasTokens line (word ∷ tokens)
    gone has =
        let read = ap (option_map (before token)) (read_what_it_has has) in
        has_what_is_read line (word ∷ tokens)
        (sym same ∙ begun ∙ read ∙ ap (λ (t : List ℕ). Some (t ∷ tokens)) (is_word token word is))
