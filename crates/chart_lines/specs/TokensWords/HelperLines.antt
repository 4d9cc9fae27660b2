-- A helper of the readers of text formats: what a line is, as a function of its tokens.
-- This is a step between their code and their grammars: no public clause speaks of it.
use Rattle.std.specs.Prelude.{ℕ, List, [], ◌∷◌, Option, Some, None, if◌then◌else◌, codes}
use Rattle.std.specs.Str.{bytes_eq}
use Rattle.chart_lines.specs.declared.tokens.frame.Content.{Content}
use Rattle.chart_lines.specs.declared.tokens.frame.Content.TheVariants.{Empty, End, Says, NoLine}

-- a line of the format, or none
abbrev pub said_content : {S : Type 0} → Option S → Content S
said_content (Some statement) = Says statement
said_content None = NoLine

-- what the tokens of a line are, where this is what tokens say
abbrev pub tokens_content : {S : Type 0} → (List (List ℕ) → Option S) → List (List ℕ) → Content S
tokens_content statement_of [] = Empty
tokens_content statement_of (word ∷ []) =
    if bytes_eq word (codes "END") then End else said_content (statement_of (word ∷ []))
tokens_content statement_of (word ∷ next ∷ others) = said_content (statement_of (word ∷ next ∷ others))

-- what a line is, where this is what tokens say
abbrev pub divided_content : {S : Type 0} → (List (List ℕ) → Option S) → Option (List (List ℕ)) → Content S
divided_content statement_of None = NoLine
divided_content statement_of (Some tokens) = tokens_content statement_of tokens
