-- The lines after a form say exactly what is read of them.
use Rattle.std.proofs.Common.{◌≡◌, ◌≢◌, ℕ, ◌<◌, Bool, true, false, cond, List, [], ◌∷◌, ◌++◌, length, get_or, All, AllPairs, Contains, Option, Some, None, Result, Ok, Err, refl, ap, sym, ◌∙◌, subst, suc, arith, append_assoc, append-nil, length-append}
use Rattle.std.proofs.lemmas.Grind.{common_steps}
use Rattle.std.proofs.lemmas.List.{get_or_append_left}
use Rattle.std.proofs.lemmas.List.Elements.{All-head, All-tail, All-push}
use Rattle.std.proofs.lemmas.List.Quantifiers.{all_pairs_push}
use Rattle.std.proofs.Math.Seq.{get_or-append_seam}
use Rattle.std.specs.List.{AllByRecursion}
use Rattle.hubs.specs.declared.setups.fault.SetupFault.{SetupFault}
use Rattle.wiring_text.specs.WiringReader.Reading.{is_said}
use Rattle.wiring_text.specs.Statements.{statement_fault}
use Rattle.wiring_text.proofs.WiringReader.Agreeing.{AreTogether, agrees-before, fault-none, none-fault, together-more}
use Rattle.wiring_text.specs.WiringReader.TextReading.{Content, SoFar, content_of, fault_said, go_on, lines_from, new_said, say, step}
use Rattle.wiring_text.specs.WiringText.{IsEmptyLine, SaysLines, empty_line, said_line, end_line}
use Rattle.wiring_text.specs.declared.fault.WiringFault.{WiringFault}
use Rattle.wiring_text.specs.declared.fault.WiringFault.TheVariants.{LineTwice}
use Rattle.chart_lines.specs.declared.tokens.frame.Content.TheVariants.{Empty, End, Says, NoLine}
use Rattle.wiring_text.specs.declared.statement.Statement.{Statement}
use Rattle.wiring_text.proofs.WiringReader.LineGrammar.{is_content, empty_read, end_read, said_read}
use Rattle.wiring_text.proofs.WiringReader.SameStatement.{not_said, none_contained}
use Rattle.wiring_text.specs.declared.statement.Version.{Version}

-- what is said so far, before and after END
abbrev pub before_end : List Statement → SoFar
before_end said = record { said = said; ended = false }

abbrev pub after_end : List Statement → SoFar
after_end said = record { said = said; ended = true }

-- no two statements are the same, and the panel can have each
abbrev pub AreOnce : List Statement → Type 0
AreOnce said = AllPairs (λ one other. one ≢ other) said

abbrev pub AreFit : ℕ → List Statement → Type 0
AreFit lines said = All (λ statement. statement_fault lines statement ≡ None) said

-- the lines from a number on, by the first of them
pub lines_from-cons : (version : Version) (lines number : ℕ) (so_far : SoFar) (line : List ℕ) (rest : List (List ℕ)) (content : Content)
    → content_of version line ≡ content
    → lines_from version lines number so_far (line ∷ rest)
    ≡ go_on (step lines number so_far content) (λ next. lines_from version lines (suc number) next rest)
unfolding lines_from
lines_from-cons version lines number so_far line rest content is =
    ap (λ c. go_on (step lines number so_far c) (λ next. lines_from version lines (suc number) next rest)) is

-- after END
empties_read : (version : Version) (rest : List (List ℕ)) (lines number : ℕ) (said : List Statement) → AllByRecursion IsEmptyLine rest
    → lines_from version lines number (after_end said) rest ≡ Ok said
unfolding lines_from
empties_read version [] lines number said all = refl
empties_read version (line ∷ rest) lines number said all =
    lines_from-cons version lines number (after_end said) line rest Empty (empty_read version line all.0)
    ∙ empties_read version rest lines (suc number) said all.1

-- a statement that is not among those before it
first_once : (said more : List Statement) (s : Statement) → AreOnce (said ++ s ∷ more) → Contains said s → ⊥
first_once said more s once has =
    once has.0 (length said) s has.1 (omega (arith, length-append said (s ∷ more)))
    (get_or_append_left said (s ∷ more) s has.0 has.1 ∙ has.2 ∙ sym (get_or-append_seam said s more s))

-- what lines say is read
pub lines_read : {version : Version} {rest : List (List ℕ)} {more : List Statement} → SaysLines version rest more
    → (lines number : ℕ) (said : List Statement) → AreOnce (said ++ more) → AreTogether (said ++ more) → AreFit lines more
    → lines_from version lines number (before_end said) rest ≡ Ok (said ++ more)
lines_read {version} (empty_line {line} {lines = rest} {said = more} is says) lines number said once together fit =
    lines_from-cons version lines number (before_end said) line rest Empty (empty_read version line is)
    ∙ lines_read says lines (suc number) said once together fit
lines_read {version} (said_line {line} {lines = rest} {statement = s} {said = more} is says) lines number said once together fit =
    let new : is_said said s ≡ false = not_said said s (first_once said more s once) in
    let fits : statement_fault lines s ≡ None = All-head (λ x. statement_fault lines x ≡ None) s more fit in
    let fault : fault_said lines said s ≡ None = none-fault lines said s fits (agrees-before said more s together) in
    let stepped : say lines number said s ≡ Ok (before_end (said ++ s ∷ [])) = rw (new, fault) refl in
    let one_list : (said ++ s ∷ []) ++ more ≡ said ++ s ∷ more = append_assoc said (s ∷ []) more in
    lines_from-cons version lines number (before_end said) line rest (Says s) (said_read version line s is)
    ∙ ap (λ r. go_on r (λ next. lines_from version lines (suc number) next rest)) stepped
    ∙ lines_read says lines (suc number) (said ++ s ∷ []) (subst AreOnce (sym one_list) once) (subst AreTogether (sym one_list) together)
    (All-tail (λ x. statement_fault lines x ≡ None) s more fit)
    ∙ ap Ok one_list
lines_read {version} (end_line {line} {lines = rest} is all) lines number said once together fit =
    lines_from-cons version lines number (before_end said) line rest End (end_read version line is)
    ∙ empties_read version rest lines (suc number) said all
    ∙ ap Ok (sym (append-nil said))

-- what is read of lines after END
record Ends (rest : List (List ℕ)) (said all : List Statement) : Type 0 where
  empty : AllByRecursion IsEmptyLine rest
  nothing : all ≡ said

abbrev answered : List Statement → Result (List Statement) WiringFault
answered said = Ok said

same_ok : (a b : List Statement) → answered a ≡ answered b → a ≡ b
same_ok a b e = cc

ends_by : (version : Version) (content : Content) (line : List ℕ) (rest : List (List ℕ)) (lines number : ℕ) (said all : List Statement)
    → content_of version line ≡ content
    → (lines_from version lines (suc number) (after_end said) rest ≡ Ok all → Ends rest said all)
    → go_on (step lines number (after_end said) content) (λ next. lines_from version lines (suc number) next rest) ≡ Ok all
    → Ends (line ∷ rest) said all
ends_by version Empty line rest lines number said all is others read =
    let r = others read in
    record { empty = (is_content version line Empty is, r.empty); nothing = r.nothing }
ends_by version End line rest lines number said all is others read = cc
ends_by version (Says s) line rest lines number said all is others read = cc
ends_by version NoLine line rest lines number said all is others read = cc

ends : (version : Version) (rest : List (List ℕ)) (lines number : ℕ) (said all : List Statement)
    → lines_from version lines number (after_end said) rest ≡ Ok all → Ends rest said all
unfolding lines_from
ends version [] lines number said all read = record { empty = tt; nothing = same_ok all said (sym read) }
ends version (line ∷ rest) lines number said all read =
    ends_by version (content_of version line) line rest lines number said all refl (ends version rest lines (suc number) said all) read

-- what is read of lines
pub record AreSaid (version : Version) (lines : ℕ) (rest : List (List ℕ)) (said all : List Statement) : Type 0 where
  pub more : List Statement
  pub is : all ≡ said ++ more
  pub says : SaysLines version rest more
  pub once : AreOnce said → AreOnce all
  pub fit : AreFit lines said → AreFit lines all
  pub together : AreTogether said → AreTogether all

-- a statement more
pushed : (version : Version) (lines : ℕ) (line : List ℕ) (rest : List (List ℕ)) (said all : List Statement) (s : Statement)
    → content_of version line ≡ Says s → is_said said s ≡ false → fault_said lines said s ≡ None
    → AreSaid version lines rest (said ++ s ∷ []) all → AreSaid version lines (line ∷ rest) said all
pushed version lines line rest said all s is new fits others = record {
  more = s ∷ others.more;
  is = others.is ∙ append_assoc said (s ∷ []) others.more;
  says = said_line (is_content version line (Says s) is) others.says;
  once = λ once. others.once (all_pairs_push (λ one other. one ≢ other) said s once
      (λ k d within e. none_contained said s new
      (k, within, subst (λ (x : Statement). get_or said k x ≡ s) e (other_default k d within e))));
  fit = λ fit. others.fit (All-push (λ x. statement_fault lines x ≡ None) said s fit (fault-none lines said s fits).0);
  together = λ together. others.together (together-more said s together (fault-none lines said s fits).1);
}
  where
    other_default : (k : ℕ) (d : Statement) → k < length said → (e : get_or said k d ≡ s)
        → get_or said k (get_or said k d) ≡ s
    other_default k d within e = grind (arith, common_steps, e, within)

said_by : (version : Version) (faults : Option SetupFault) (test : Bool) (line : List ℕ) (rest : List (List ℕ)) (lines number : ℕ)
    (said all : List Statement) (s : Statement) → content_of version line ≡ Says s → is_said said s ≡ test
    → fault_said lines said s ≡ faults
    → (lines_from version lines (suc number) (before_end (said ++ s ∷ [])) rest ≡ Ok all → AreSaid version lines rest (said ++ s ∷ []) all)
    → go_on (cond test (Err (LineTwice number)) (new_said number said s faults))
    (λ next. lines_from version lines (suc number) next rest) ≡ Ok all
    → AreSaid version lines (line ∷ rest) said all
said_by version faults true line rest lines number said all s is test fault others read = cc
said_by version None false line rest lines number said all s is test fault others read =
    pushed version lines line rest said all s is test fault (others read)
said_by version (Some f) false line rest lines number said all s is test fault others read = cc

reads_by : (version : Version) (content : Content) (line : List ℕ) (rest : List (List ℕ)) (lines number : ℕ) (said all : List Statement)
    → content_of version line ≡ content
    → ((so : List Statement) → lines_from version lines (suc number) (before_end so) rest ≡ Ok all → AreSaid version lines rest so all)
    → go_on (step lines number (before_end said) content) (λ next. lines_from version lines (suc number) next rest) ≡ Ok all
    → AreSaid version lines (line ∷ rest) said all
reads_by version Empty line rest lines number said all is others read =
    let r = others said read in
    record { more = r.more; is = r.is; says = empty_line (is_content version line Empty is) r.says; once = r.once; fit = r.fit; together = r.together }
reads_by version End line rest lines number said all is others read =
    let r = ends version rest lines (suc number) said all read in
    record {
      more = [];
      is = r.nothing ∙ sym (append-nil said);
      says = end_line (is_content version line End is) r.empty;
      once = subst AreOnce (sym r.nothing);
      fit = subst (AreFit lines) (sym r.nothing);
      together = subst AreTogether (sym r.nothing);
    }
reads_by version (Says s) line rest lines number said all is others read =
    said_by version (fault_said lines said s) (is_said said s) line rest lines number said all s is refl refl
    (others (said ++ s ∷ [])) read
reads_by version NoLine line rest lines number said all is others read = cc

pub reads_what_is_read : (version : Version) (rest : List (List ℕ)) (lines number : ℕ) (said all : List Statement)
    → lines_from version lines number (before_end said) rest ≡ Ok all → AreSaid version lines rest said all
unfolding lines_from
reads_what_is_read version [] lines number said all read = cc
reads_what_is_read version (line ∷ rest) lines number said all read =
    reads_by version (content_of version line) line rest lines number said all refl
    (λ so. reads_what_is_read version rest lines (suc number) so all) read
