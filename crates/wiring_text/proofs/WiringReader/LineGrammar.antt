-- A line is exactly what is read of it.
use Rattle.std.proofs.Common.{◌≡◌, ℕ, List, [], ◌∷◌, None, codes, refl, sym}
use Rattle.chart_lines.specs.TokensWords.Dividing.{tokens_of}
use Rattle.chart_lines.proofs.TokensWords.LineContent as lines
use Rattle.wiring_text.specs.WiringReader.Reading.{carry_of, statement_of}
use Rattle.wiring_text.specs.WiringReader.TextReading.{Content, content_of, HasSayable}
use Rattle.wiring_text.specs.WiringText.{IsEmptyLine, IsEndLine, SaysLine}
use Rattle.chart_lines.specs.declared.tokens.frame.Content.TheVariants.{Empty, End, Says, NoLine}
use Rattle.wiring_text.specs.declared.statement.Statement.{Statement}
use Rattle.wiring_text.proofs.WiringReader.StatementGrammar.{says_is, says_read, said_sayable}
use Rattle.wiring_text.specs.declared.statement.Version.{Version}
use Rattle.wiring_text.specs.declared.statement.Version.TheVariants.{First, Second}

-- END alone says nothing
end_unsaid : (version : Version) → statement_of version (codes "END" ∷ []) ≡ None
unfolding statement_of carry_of
end_unsaid First = refl
end_unsaid Second = refl

-- a wiring chart's lines, as those of a format
format : (version : Version) → lines.Format (statement_of version) (SaysLine version)
unfolding statement_of
format version = record {
  is = λ line statement is.
      record { tokens = is.tokens; divided = is.divided; said = says_is version is.tokens statement is.read };
  read = λ line statement is. record { tokens = is.tokens; divided = is.divided; read = says_read is.said };
  nothing = refl;
  end = end_unsaid version;
}

-- what a line is
pub is_content : (version : Version) (line : List ℕ) (content : Content) → content_of version line ≡ content → lines.IsContent (SaysLine version) line content
unfolding content_of
is_content version line content read = lines.content_is (format version) line content (tokens_of line) refl read

-- an empty line, END and a statement are read as such
pub empty_read : (version : Version) (line : List ℕ) → IsEmptyLine line → content_of version line ≡ Empty
unfolding content_of
empty_read version line has = lines.empty_read (statement_of version) line has

pub end_read : (version : Version) (line : List ℕ) → IsEndLine line → content_of version line ≡ End
unfolding content_of
end_read version line has = lines.end_read (statement_of version) line has

pub said_read : (version : Version) (line : List ℕ) (statement : Statement) → SaysLine version line statement → content_of version line ≡ Says statement
unfolding content_of
said_read version line statement is = lines.said_read (format version) line statement is

-- what a line says can be said
pub content_sayable : (version : Version) (line : List ℕ) (content : Content) → content ≡ content_of version line → HasSayable content
content_sayable version line Empty read = tt
content_sayable version line End read = tt
content_sayable version line (Says statement) read = said_sayable (is_content version line (Says statement) (sym read)).said
content_sayable version line NoLine read = tt
