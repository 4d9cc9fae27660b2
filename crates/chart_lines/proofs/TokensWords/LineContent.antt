-- A line is exactly what is read of it, in each format whose lines are statements.
use Rattle.std.proofs.Common.{◌≡◌, ℕ, Bool, true, false, cond, List, [], ◌∷◌, Option, Some, None, refl, ap, sym, ◌∙◌, subst, codes}
use Rattle.std.proofs.lemmas.Option.{same_Some, none-some}
use Rattle.std.specs.Str.{bytes_eq}
use Rattle.chart_lines.specs.TokensWords.Tokens.{HasTokens}
use Rattle.chart_lines.specs.TokensWords.Dividing.{tokens_of}
use Rattle.chart_lines.specs.TokensWords.Frame.{IsEmptyLine, IsEndLine, IsNoLine}
use Rattle.chart_lines.specs.TokensWords.HelperLines.{said_content, tokens_content, divided_content}
use Rattle.chart_lines.specs.declared.tokens.frame.Content.{Content}
use Rattle.chart_lines.specs.declared.tokens.frame.Content.TheVariants.{Empty, End, Says, NoLine}
use Rattle.chart_lines.proofs.TokensWords.TokenGrammar.{has_what_is_read, read_what_it_has}
use Rattle.chart_lines.proofs.TokensWords.TokenWord.{is_word}

-- what a line is
abbrev pub IsContent : {S : Type 0} → (List ℕ → S → Type 0) → List ℕ → Content S → Type 0
IsContent IsSaid line Empty = IsEmptyLine line
IsContent IsSaid line End = IsEndLine line
IsContent IsSaid line (Says statement) = IsSaid line statement
IsContent IsSaid line NoLine = IsNoLine IsSaid line

-- a line says something
pub record IsRead {S : Type 0} (statement_of : List (List ℕ) → Option S) (line : List ℕ) (statement : S) : Type 0 where
  pub tokens : List (List ℕ)
  pub divided : HasTokens line tokens
  pub read : statement_of tokens ≡ Some statement

-- a format: what tokens say is what a line says, and END says nothing
pub record Format {S : Type 0} (statement_of : List (List ℕ) → Option S) (IsSaid : List ℕ → S → Type 0) : Type 0 where
  pub is : (line : List ℕ) (statement : S) → IsRead statement_of line statement → IsSaid line statement
  pub read : (line : List ℕ) (statement : S) → IsSaid line statement → IsRead statement_of line statement
  pub nothing : statement_of [] ≡ None
  pub end : statement_of (codes "END" ∷ []) ≡ None

-- the tokens that a line has, against those that are read
same_tokens : (line : List ℕ) (tokens others : List (List ℕ)) → HasTokens line others → tokens_of line ≡ Some tokens
    → others ≡ tokens
same_tokens line tokens others has read = same_Some others tokens (sym (read_what_it_has has) ∙ read)

no_division : (line : List ℕ) (tokens : List (List ℕ)) → tokens_of line ≡ None → HasTokens line tokens → ⊥
no_division line tokens read has = none-some _ (sym read ∙ read_what_it_has has)

-- tokens that say nothing
not_said : {S : Type 0} (statement_of : List (List ℕ) → Option S) (line : List ℕ) (tokens : List (List ℕ)) (statement : S)
    → tokens_of line ≡ Some tokens → statement_of tokens ≡ None → IsRead statement_of line statement → ⊥
not_said statement_of line tokens statement read none is =
    none-some _ (sym none ∙ ap statement_of (sym (same_tokens line tokens is.tokens is.divided read)) ∙ is.read)

said_is : {S : Type 0} {statement_of : List (List ℕ) → Option S} {IsSaid : List ℕ → S → Type 0}
    → Format statement_of IsSaid → (line : List ℕ) (tokens : List (List ℕ)) (content : Content S) (said : Option S)
    → tokens_of line ≡ Some tokens → statement_of tokens ≡ said
    → (tokens ≡ [] → ⊥) → (tokens ≡ codes "END" ∷ [] → ⊥) → said_content said ≡ content → IsContent IsSaid line content
said_is {statement_of} {IsSaid} format line tokens content (Some statement) read says some no_end same =
    subst (IsContent IsSaid line) same
    (format.is line statement (record { tokens = tokens; divided = has_what_is_read line tokens read; read = says }))
said_is {statement_of} {IsSaid} format line tokens content None read says some no_end same =
    subst (IsContent IsSaid line) same
    (record {
      not_empty = λ has. some (sym (same_tokens line tokens [] has read));
      not_end = λ has. no_end (sym (same_tokens line tokens (codes "END" ∷ []) has read));
      not_said = λ statement is. not_said statement_of line tokens statement read says (format.read line statement is);
    })

end_or_said : {S : Type 0} {statement_of : List (List ℕ) → Option S} {IsSaid : List ℕ → S → Type 0}
    → Format statement_of IsSaid → (line word : List ℕ) (content : Content S) (test : Bool)
    → tokens_of line ≡ Some (word ∷ []) → bytes_eq word (codes "END") ≡ test
    → cond test End (said_content (statement_of (word ∷ []))) ≡ content → IsContent IsSaid line content
end_or_said {IsSaid} format line word content true read tests same =
    subst (IsContent IsSaid line) same
    (has_what_is_read line (codes "END" ∷ []) (read ∙ ap (λ w. Some (w ∷ [])) (is_word word (codes "END") tests)))
end_or_said {statement_of} format line word content false read tests same =
    said_is format line (word ∷ []) content (statement_of (word ∷ [])) read refl (λ e. cc) (λ e. no_word e tests) same
  where
    no_word : {word : List ℕ} → word ∷ [] ≡ codes "END" ∷ [] → bytes_eq word (codes "END") ≡ false → ⊥
    no_word {word} e f =
        let is : word ≡ codes "END" = cc in
        let yes : bytes_eq word (codes "END") ≡ true = ap (λ w. bytes_eq w (codes "END")) is in
        cc

-- what is read of a line is what it is
pub content_is : {S : Type 0} {statement_of : List (List ℕ) → Option S} {IsSaid : List ℕ → S → Type 0}
    → Format statement_of IsSaid → (line : List ℕ) (content : Content S) (tokens : Option (List (List ℕ)))
    → tokens_of line ≡ tokens → divided_content statement_of tokens ≡ content → IsContent IsSaid line content
content_is {IsSaid} format line content None read same =
    subst (IsContent IsSaid line) same
    (record {
      not_empty = λ has. no_division line [] read has;
      not_end = λ has. no_division line (codes "END" ∷ []) read has;
      not_said = λ statement is.
          let said = format.read line statement is in
          no_division line said.tokens read said.divided;
    })
content_is {IsSaid} format line content (Some []) read same =
    subst (IsContent IsSaid line) same (has_what_is_read line [] read)
content_is format line content (Some (word ∷ [])) read same =
    end_or_said format line word content (bytes_eq word (codes "END")) read refl same
content_is {statement_of} format line content (Some (word ∷ next ∷ others)) read same =
    said_is format line (word ∷ next ∷ others) content (statement_of (word ∷ next ∷ others)) read refl (λ e. cc) (λ e. cc) same

-- an empty line, END and a statement are read as such
pub empty_read : {S : Type 0} (statement_of : List (List ℕ) → Option S) (line : List ℕ) → IsEmptyLine line
    → divided_content statement_of (tokens_of line) ≡ Empty
empty_read statement_of line has = ap (divided_content statement_of) (read_what_it_has has)

pub end_read : {S : Type 0} (statement_of : List (List ℕ) → Option S) (line : List ℕ) → IsEndLine line
    → divided_content statement_of (tokens_of line) ≡ End
end_read statement_of line has = ap (divided_content statement_of) (read_what_it_has has)

said_of_tokens : {S : Type 0} {statement_of : List (List ℕ) → Option S} {IsSaid : List ℕ → S → Type 0}
    → Format statement_of IsSaid → (tokens : List (List ℕ)) (statement : S) → statement_of tokens ≡ Some statement
    → tokens_content statement_of tokens ≡ Says statement
said_of_tokens format [] statement read = absurd (none-some _ (sym format.nothing ∙ read))
said_of_tokens {statement_of} format (word ∷ []) statement read = by_test (bytes_eq word (codes "END")) refl
  where
    by_test : (b : Bool) → bytes_eq word (codes "END") ≡ b → cond b End (said_content (statement_of (word ∷ [])))
        ≡ Says statement
    by_test true e =
        let same : statement_of (word ∷ []) ≡ None =
        ap (λ w. statement_of (w ∷ [])) (is_word word (codes "END") e) ∙ format.end in
        absurd (none-some _ (sym same ∙ read))
    by_test false e = ap said_content read
said_of_tokens format (word ∷ next ∷ others) statement read = ap said_content read

pub said_read : {S : Type 0} {statement_of : List (List ℕ) → Option S} {IsSaid : List ℕ → S → Type 0}
    → Format statement_of IsSaid → (line : List ℕ) (statement : S) → IsSaid line statement
    → divided_content statement_of (tokens_of line) ≡ Says statement
said_read {statement_of} format line statement is =
    let said = format.read line statement is in
    ap (divided_content statement_of) (read_what_it_has said.divided) ∙ said_of_tokens format said.tokens statement said.read
