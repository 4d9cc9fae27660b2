-- What the answers of the readers say of lines and tokens, in words of the grammar.
use Rattle.std.proofs.Common.{◌≡◌, ℕ, List, Option, Some, None, IfSome, IfNone, sym, ◌∙◌}
use Rattle.std.proofs.lemmas.Option.{same_Some}
use Rattle.chart_lines.specs.TokensWords.Tokens.{HasTokens}
use Rattle.chart_lines.specs.TokensWords.Dividing.{tokens_of}
use Rattle.chart_lines.specs.TokensWords.Number.{IsNumber, IsNumberTo}
use Rattle.chart_lines.specs.TokensWords.NumberReading.{number_of, number_to}
use Rattle.chart_lines.proofs.TokensWords.TokenGrammar.{has_what_is_read, read_what_it_has}
use Rattle.chart_lines.proofs.TokensWords.NumberGrammar.{number_is, number_read, number_to_is, number_to_read}

-- tokens that are answered are those of the line
pub divided_by : (line : List ℕ) (tokens : List (List ℕ)) → Some tokens ≡ tokens_of line → HasTokens line tokens
divided_by line tokens same = has_what_is_read line tokens (sym same)

-- no tokens are those of a line where none are answered
pub not_divided_by : (line : List ℕ) → None ≡ tokens_of line → (tokens : List (List ℕ)) → ¬ HasTokens line tokens
not_divided_by line same tokens has =
    let both : None ≡ Some tokens = same ∙ read_what_it_has has in
    cc

-- a number that is answered is the token's
pub number_by : (token : List ℕ) (answer : Option ℕ) → answer ≡ number_of token
    → IfSome answer (λ number. IsNumber token number)
number_by token None same = tt
number_by token (Some n) same = number_is token n (sym same)

-- the token is no number where none is answered
pub no_number_by : (token : List ℕ) (answer : Option ℕ) → answer ≡ number_of token
    → IfNone answer ((number : ℕ) → ¬ IsNumber token number)
no_number_by token (Some n) same = tt
no_number_by token None same = λ number is.
    let both : None ≡ Some number = same ∙ number_read token number is in
    cc

-- a number of 1 to the greatest that is answered is the token's
pub number_to_by : (greatest : ℕ) (token : List ℕ) (answer : Option ℕ) → answer ≡ number_to greatest token
    → IfSome answer (λ number. IsNumberTo greatest token number)
number_to_by greatest token None same = tt
number_to_by greatest token (Some n) same = number_to_is greatest token n (sym same)

-- the token is no number of 1 to the greatest where none is answered
pub no_number_to_by : (greatest : ℕ) (token : List ℕ) (answer : Option ℕ) → answer ≡ number_to greatest token
    → IfNone answer ((number : ℕ) → ¬ IsNumberTo greatest token number)
no_number_to_by greatest token (Some n) same = tt
no_number_to_by greatest token None same = λ number is.
    let both : None ≡ Some number = same ∙ number_to_read greatest token number is in
    cc

-- a token is one number at most
pub one_number : (token : List ℕ) (one other : ℕ) → IsNumber token one → IsNumber token other → one ≡ other
one_number token one other is also = same_Some one other
    (sym (number_read token one is) ∙ number_read token other also)
