-- The tokens of a line say exactly what the reader of forms answers.
use Rattle.std.proofs.Common.{◌≡◌, ℕ, Bool, true, false, cond, leb, ◌&&◌, List, [], ◌∷◌, ◌++◌, length, Option, Some, None, option_map, refl, ap, sym, ◌∙◌, subst, arith, codes}
use Rattle.std.proofs.lemmas.Bool.{and_parts, leb-true, le-leb}
use Rattle.std.proofs.lemmas.Option.{same_Some, cond_some}
use Rattle.std.specs.Str.{bytes_eq}
use Rattle.chart_lines.specs.TokensWords.Number.{IsNumber}
use Rattle.chart_lines.specs.ChartsWords.Name.{IsName}
use Rattle.chart_text.specs.Forms.{SaysSign, unsigned, by_row, by_absence, SaysMark, unmarked, total_marked, SaysOption, as_it_is, indicated, item_marked, SaysKind, detail_line, total_line, Says, text_field, amount_field, control, print_detail, print_group, head, detail_literal, detail_field, total_literal, total_text, total_amount, SaysCoupled, coupled_amount, space, page_after, skip_after, form, tape}
use Rattle.chart_lines.specs.TokensWords.NumberReading.{number_of, numbers_of}
use Rattle.chart_text.specs.HelperWords.{name_of, literal_of, mark_of, keyword_of, level_of, control_level_of, heading_line_of, spacing_lines_of}
use Rattle.chart_text.specs.HelperForms.{stops_of, sign_of, total_mark_of, option_of, kind_of, field_kind_of, field_of, control_of, print_of, head_of, detail_literal_of, detail_field_of, detail_item_of, detail_of, total_literal_of, total_amount_of, total_field_of, total_item_of, total_statement, spacing_of, space_of, follower_of, after_of, form_of, tape_of, said_after, statement_of, coupled_of, said_by, said_of}
use Rattle.chart_lines.proofs.TokensWords.Steps.{bound, granted}
use Rattle.chart_lines.proofs.TokensWords.TokenWord.{is_word}
use Rattle.chart_lines.proofs.TokensWords.NumberGrammar.{number_is, number_read, numbers_are, numbers_read, as_many_numbers}
use Rattle.chart_text.proofs.NumberedWords.{level_is, level_read, control_level_is, control_level_read, heading_line_is, heading_line_read, spacing_lines_is, spacing_lines_read}
use Rattle.chart_text.proofs.WordGrammar.{name_is, name_read, literal_is, literal_read, name_no_literal, mark_is, mark_read}
use Rattle.chart_lines.specs.declared.charts.statement.SignRule.{SignRule}
use Rattle.chart_lines.specs.declared.charts.statement.SignRule.TheVariants.{X, NX}
use Rattle.chart_lines.specs.declared.charts.statement.FieldKind.{FieldKind}
use Rattle.chart_lines.specs.declared.charts.statement.FieldKind.TheVariants as kinds
use Rattle.chart_lines.specs.declared.charts.statement.Mark.{Mark}
use Rattle.chart_lines.specs.declared.charts.statement.BodyLine.{BodyLine}
use Rattle.chart_lines.specs.declared.charts.statement.BodyLine.TheVariants as lines
use Rattle.chart_lines.specs.declared.charts.statement.DetailOption.{DetailOption}
use Rattle.chart_lines.specs.declared.charts.statement.DetailOption.TheVariants.{Plain, Indicated, Marked}
use Rattle.chart_lines.specs.declared.charts.statement.Statement.{Statement}
use Rattle.chart_lines.specs.declared.charts.statement.Statement.TheVariants as says
use Rattle.chart_lines.specs.declared.charts.statement.TotalLine.{TotalLine}
use Rattle.chart_lines.specs.ChartsWords.Levels.{level_number}
use Rattle.chart_lines.specs.declared.charts.chart.Version.{Version}
use Rattle.chart_lines.specs.declared.charts.chart.Version.TheVariants.{First, Second}
use Rattle.chart_text.specs.ChartText.{SaysIn, in_both, in_second}
use Rattle.chart_text.specs.declared.forms.Said.{Said}
use Rattle.chart_text.specs.declared.words.Keyword.{Keyword}
use Rattle.chart_text.specs.declared.words.Keyword.TheVariants as words

-- one of two words, and what it says
either : {A : Type 0} (token one other : List ℕ) (p q : Option A) (x : A) (P : Type 0)
    → cond (bytes_eq token one) p (cond (bytes_eq token other) q None) ≡ Some x
    → (token ≡ one → p ≡ Some x → P) → (token ≡ other → q ≡ Some x → P) → P
either token one other p q x P read first second = by_tests (bytes_eq token one) (bytes_eq token other) refl refl read
  where
    by_tests : (b c : Bool) → bytes_eq token one ≡ b → bytes_eq token other ≡ c → cond b p (cond c q None) ≡ Some x → P
    by_tests true c e f r = first (is_word token one e) r
    by_tests false true e f r = second (is_word token other f) r
    by_tests false false e f r = cc

-- a sign rule
sign_is : (tokens : List (List ℕ)) (rule : Option SignRule) → sign_of tokens ≡ Some rule → SaysSign tokens rule
unfolding sign_of
sign_is [] rule read = subst (SaysSign []) (same_Some None rule read) unsigned
sign_is (word ∷ []) rule read = cc
sign_is (word ∷ column ∷ []) rule read =
    either word (codes "X") (codes "NX") _ _ rule (SaysSign (word ∷ column ∷ []) rule) read
    (λ same r.
    let c = bound (number_of column) _ rule r in
    subst (λ (w : List ℕ). SaysSign (w ∷ column ∷ []) rule) (sym same)
    (subst (SaysSign (codes "X" ∷ column ∷ [])) (same_Some (Some (X c.0)) rule c.2)
    (by_row (number_is column c.0 c.1))))
    (λ same r.
    let c = bound (number_of column) _ rule r in
    subst (λ (w : List ℕ). SaysSign (w ∷ column ∷ []) rule) (sym same)
    (subst (SaysSign (codes "NX" ∷ column ∷ [])) (same_Some (Some (NX c.0)) rule c.2)
    (by_absence (number_is column c.0 c.1))))
sign_is (word ∷ column ∷ next ∷ others) rule read = cc

sign_read : {tokens : List (List ℕ)} {rule : Option SignRule} → SaysSign tokens rule → sign_of tokens ≡ Some rule
unfolding sign_of
sign_read unsigned = refl
sign_read (by_row {column} {c} is) = rw (number_read column c is) refl
sign_read (by_absence {column} {c} is) = rw (number_read column c is) refl

-- the mark of a total
total_mark_is : (tokens : List (List ℕ)) (m : Option Mark) → total_mark_of tokens ≡ Some m → SaysMark tokens m
unfolding total_mark_of
total_mark_is [] m read = subst (SaysMark []) (same_Some None m read) unmarked
total_mark_is (word ∷ []) m read = cc
total_mark_is (word ∷ token ∷ []) m read =
    let test = granted (bytes_eq word (codes "MARK")) _ m read in
    let mark = bound (mark_of token) _ m test.1 in
    subst (λ (w : List ℕ). SaysMark (w ∷ token ∷ []) m) (sym (is_word word (codes "MARK") test.0))
    (subst (SaysMark (codes "MARK" ∷ token ∷ [])) (same_Some (Some mark.0) m mark.2)
    (total_marked (mark_is token mark.0 mark.1)))
total_mark_is (word ∷ token ∷ next ∷ others) m read = cc

total_mark_read : {tokens : List (List ℕ)} {m : Option Mark} → SaysMark tokens m → total_mark_of tokens ≡ Some m
unfolding total_mark_of
total_mark_read unmarked = refl
total_mark_read (total_marked is) = rw (mark_read is) refl

-- how a field stands on a card's line
option_is : (tokens : List (List ℕ)) (how : DetailOption) → option_of tokens ≡ Some how → SaysOption tokens how
unfolding option_of
option_is [] how read = subst (SaysOption []) (same_Some Plain how read) as_it_is
option_is (word ∷ []) how read = cc
option_is (word ∷ token ∷ []) how read =
    either word (codes "INDICATE") (codes "MARK") _ _ how (SaysOption (word ∷ token ∷ []) how) read
    (λ same r.
    let l = bound (control_level_of token) _ how r in
    subst (λ (w : List ℕ). SaysOption (w ∷ token ∷ []) how) (sym same)
    (subst (SaysOption (codes "INDICATE" ∷ token ∷ [])) (same_Some (Indicated l.0) how l.2)
    (indicated (control_level_is token l.0 l.1))))
    (λ same r.
    let m = bound (mark_of token) _ how r in
    subst (λ (w : List ℕ). SaysOption (w ∷ token ∷ []) how) (sym same)
    (subst (SaysOption (codes "MARK" ∷ token ∷ [])) (same_Some (Marked m.0) how m.2)
    (item_marked (mark_is token m.0 m.1))))
option_is (word ∷ token ∷ next ∷ others) how read = cc

option_read : {tokens : List (List ℕ)} {how : DetailOption} → SaysOption tokens how → option_of tokens ≡ Some how
unfolding option_of
option_read as_it_is = refl
option_read (indicated {level} {l} is) = rw (control_level_read level l is) refl
option_read (item_marked is) = rw (mark_read is) refl

-- a kind of body line, and the tokens after it
record BeginsWithKind (operands : List (List ℕ)) (line : BodyLine) (others : List (List ℕ)) : Type 0 where
  kind : List (List ℕ)
  spelled : operands ≡ kind ++ others
  said : SaysKind kind line

kind_is : (operands : List (List ℕ)) (line : BodyLine) (others : List (List ℕ))
    → kind_of operands ≡ Some (line, others) → BeginsWithKind operands line others
unfolding kind_of
kind_is [] line others read = cc
kind_is (word ∷ []) line others read =
    let test = granted (bytes_eq word (codes "DETAIL")) _ (line, others) read in
    let same = same_Some (lines.Detail, []) (line, others) test.1 in
    record {
      kind = codes "DETAIL" ∷ [];
      spelled = ap (λ w. w ∷ []) (is_word word (codes "DETAIL") test.0) ∙ ap (λ p. codes "DETAIL" ∷ p.1) same;
      said = subst (λ (p : BodyLine × List (List ℕ)). SaysKind (codes "DETAIL" ∷ []) p.0) same detail_line;
    }
kind_is (word ∷ level ∷ rest) line others read =
    either word (codes "DETAIL") (codes "TOTAL") _ _ (line, others)
    (BeginsWithKind (word ∷ level ∷ rest) line others) read
    (λ is r.
    let same = same_Some (lines.Detail, level ∷ rest) (line, others) r in
    record {
      kind = codes "DETAIL" ∷ [];
      spelled = ap (λ w. w ∷ level ∷ rest) is ∙ ap (λ p. codes "DETAIL" ∷ p.1) same;
      said = subst (λ (p : BodyLine × List (List ℕ)). SaysKind (codes "DETAIL" ∷ []) p.0) same detail_line;
    })
    (λ is r.
    let l = bound (level_of level) _ (line, others) r in
    let same = same_Some (lines.Total l.0, rest) (line, others) l.2 in
    record {
      kind = codes "TOTAL" ∷ level ∷ [];
      spelled = ap (λ w. w ∷ level ∷ rest) is ∙ ap (λ p. codes "TOTAL" ∷ level ∷ p.1) same;
      said = subst (λ (p : BodyLine × List (List ℕ)). SaysKind (codes "TOTAL" ∷ level ∷ []) p.0) same
          (total_line (level_is level l.0 l.1));
    })

kind_read : {kind : List (List ℕ)} {line : BodyLine} → SaysKind kind line → (other : List ℕ) (others : List (List ℕ))
    → kind_of (kind ++ other ∷ others) ≡ Some (line, other ∷ others)
unfolding kind_of
kind_read detail_line other others = refl
kind_read (total_line {level} {l} is) other others = rw (level_read level l is) refl

-- what the columns of a field hold
field_kind_is : (name first last n : List ℕ) (a b : ℕ) → IsName name n → IsNumber first a → IsNumber last b
    → (word : List ℕ) (others : List (List ℕ)) (kind : FieldKind) → field_kind_of word others ≡ Some kind
    → Says (codes "FIELD" ∷ name ∷ word ∷ first ∷ last ∷ others)
    (says.Field (record { name = n; first = a; last = b; kind = kind }))
unfolding field_kind_of
field_kind_is name first last n a b is_n is_a is_b word [] kind read =
    let test = cond_some (bytes_eq word (codes "TEXT")) kinds.Text kind read in
    subst (λ (w : List ℕ). Says (codes "FIELD" ∷ name ∷ w ∷ first ∷ last ∷ [])
    (says.Field (record { name = n; first = a; last = b; kind = kind })))
    (sym (is_word word (codes "TEXT") test.0))
    (subst (λ (k : FieldKind). Says (codes "FIELD" ∷ name ∷ codes "TEXT" ∷ first ∷ last ∷ [])
    (says.Field (record { name = n; first = a; last = b; kind = k })))
    test.1 (text_field is_n is_a is_b))
field_kind_is name first last n a b is_n is_a is_b word (decimals ∷ sign) kind read =
    let test = granted (bytes_eq word (codes "AMOUNT")) _ kind read in
    let d = bound (number_of decimals) _ kind test.1 in
    let rule = bound (sign_of sign) _ kind d.2 in
    subst (λ (w : List ℕ). Says (codes "FIELD" ∷ name ∷ w ∷ first ∷ last ∷ decimals ∷ sign)
    (says.Field (record { name = n; first = a; last = b; kind = kind })))
    (sym (is_word word (codes "AMOUNT") test.0))
    (subst (λ (k : FieldKind). Says (codes "FIELD" ∷ name ∷ codes "AMOUNT" ∷ first ∷ last ∷ decimals ∷ sign)
    (says.Field (record { name = n; first = a; last = b; kind = k })))
    (same_Some (kinds.Amount d.0 rule.0) kind rule.2)
    (amount_field is_n is_a is_b (number_is decimals d.0 d.1) (sign_is sign rule.0 rule.1)))

field_is : (operands : List (List ℕ)) (s : Statement) → field_of operands ≡ Some s → Says (codes "FIELD" ∷ operands) s
unfolding field_of
field_is (name ∷ word ∷ first ∷ last ∷ others) s read =
    let n = bound (name_of name) _ s read in
    let a = bound (number_of first) _ s n.2 in
    let b = bound (number_of last) _ s a.2 in
    let k = bound (field_kind_of word others) _ s b.2 in
    subst (Says (codes "FIELD" ∷ name ∷ word ∷ first ∷ last ∷ others)) (same_Some _ s k.2)
    (field_kind_is name first last n.0 a.0 b.0 (name_is name n.0 n.1) (number_is first a.0 a.1)
    (number_is last b.0 b.1) word others k.0 k.1)
field_is other s read = cc

control_is : (operands : List (List ℕ)) (s : Statement) → control_of operands ≡ Some s
    → Says (codes "CONTROL" ∷ operands) s
unfolding control_of
control_is [] s read = cc
control_is (level ∷ []) s read = cc
control_is (level ∷ name ∷ []) s read =
    let l = bound (control_level_of level) _ s read in
    let n = bound (name_of name) _ s l.2 in
    subst (Says (codes "CONTROL" ∷ level ∷ name ∷ [])) (same_Some _ s n.2)
    (control (control_level_is level l.0 l.1) (name_is name n.0 n.1))
control_is (level ∷ name ∷ next ∷ others) s read = cc

print_is : (operands : List (List ℕ)) (s : Statement) → print_of operands ≡ Some s → Says (codes "PRINT" ∷ operands) s
unfolding print_of
print_is [] s read = cc
print_is (word ∷ []) s read =
    either word (codes "DETAIL") (codes "GROUP") _ _ s (Says (codes "PRINT" ∷ word ∷ []) s) read
    (λ same r. subst (λ (w : List ℕ). Says (codes "PRINT" ∷ w ∷ []) s) (sym same)
    (subst (Says (codes "PRINT" ∷ codes "DETAIL" ∷ [])) (same_Some _ s r) print_detail))
    (λ same r. subst (λ (w : List ℕ). Says (codes "PRINT" ∷ w ∷ []) s) (sym same)
    (subst (Says (codes "PRINT" ∷ codes "GROUP" ∷ [])) (same_Some _ s r) print_group))
print_is (word ∷ next ∷ others) s read = cc

head_is : (operands : List (List ℕ)) (s : Statement) → head_of operands ≡ Some s → Says (codes "HEAD" ∷ operands) s
unfolding head_of
head_is (line ∷ wheel ∷ literal ∷ []) s read =
    let h = bound (heading_line_of line) _ s read in
    let w = bound (number_of wheel) _ s h.2 in
    let cs = bound (literal_of literal) _ s w.2 in
    subst (Says (codes "HEAD" ∷ line ∷ wheel ∷ literal ∷ [])) (same_Some _ s cs.2)
    (head (heading_line_is line h.0 h.1) (number_is wheel w.0 w.1) (literal_is literal cs.0 cs.1))
head_is other s read = cc

detail_item_is : (wheel item : List ℕ) (others : List (List ℕ)) (s : Statement) (characters : Option (List ℕ))
    → literal_of item ≡ characters
    → detail_item_of wheel item others characters ≡ Some s → Says (codes "DETAIL" ∷ wheel ∷ item ∷ others) s
unfolding detail_literal_of detail_field_of
detail_item_is wheel item [] s (Some characters) found read =
    let w = bound (number_of wheel) _ s read in
    subst (Says (codes "DETAIL" ∷ wheel ∷ item ∷ [])) (same_Some _ s w.2)
    (detail_literal (number_is wheel w.0 w.1) (literal_is item characters found))
detail_item_is wheel item (next ∷ others) s (Some characters) found read = cc
detail_item_is wheel item others s None found read =
    let w = bound (number_of wheel) _ s read in
    let n = bound (name_of item) _ s w.2 in
    let how = bound (option_of others) _ s n.2 in
    subst (Says (codes "DETAIL" ∷ wheel ∷ item ∷ others)) (same_Some _ s how.2)
    (detail_field (number_is wheel w.0 w.1) (name_is item n.0 n.1) (option_is others how.0 how.1))

detail_is : (operands : List (List ℕ)) (s : Statement) → detail_of operands ≡ Some s
    → Says (codes "DETAIL" ∷ operands) s
unfolding detail_of
detail_is [] s read = cc
detail_is (wheel ∷ []) s read = cc
detail_is (wheel ∷ item ∷ others) s read = detail_item_is wheel item others s (literal_of item) refl read

-- a total
record IsAmount (level wheel name digits : List ℕ) (mark : List (List ℕ)) (s : Statement) : Type 0 where
  total : TotalLine
  is_level : IsNumber level (level_number total.level)
  is_wheel : IsNumber wheel total.wheel
  is_name : IsName name total.name
  is_digits : IsNumber digits total.digits
  is_mark : SaysMark mark total.mark
  same : says.TotalAmount total ≡ s

amount_is : (level wheel name digits : List ℕ) (mark : List (List ℕ)) (s : Statement) → total_amount_of level wheel name digits mark ≡ Some s
    → IsAmount level wheel name digits mark s
unfolding total_amount_of
amount_is level wheel name digits mark s read =
    let l = bound (level_of level) _ s read in
    let w = bound (number_of wheel) _ s l.2 in
    let n = bound (name_of name) _ s w.2 in
    let g = bound (number_of digits) _ s n.2 in
    let m = bound (total_mark_of mark) _ s g.2 in
    record {
      total = record { level = l.0; wheel = w.0; name = n.0; digits = g.0; mark = m.0 };
      is_level = level_is level l.0 l.1;
      is_wheel = number_is wheel w.0 w.1;
      is_name = name_is name n.0 n.1;
      is_digits = number_is digits g.0 g.1;
      is_mark = total_mark_is mark m.0 m.1;
      same = same_Some _ s m.2;
    }

total_item_is : (level wheel item : List ℕ) (others : List (List ℕ)) (s : Statement) (characters : Option (List ℕ))
    → literal_of item ≡ characters
    → total_item_of level wheel item others characters ≡ Some s → Says (codes "TOTAL" ∷ level ∷ wheel ∷ item ∷ others) s
unfolding total_literal_of total_field_of
total_item_is level wheel item [] s (Some characters) found read =
    let l = bound (level_of level) _ s read in
    let w = bound (number_of wheel) _ s l.2 in
    subst (Says (codes "TOTAL" ∷ level ∷ wheel ∷ item ∷ [])) (same_Some _ s w.2)
    (total_literal (level_is level l.0 l.1) (number_is wheel w.0 w.1) (literal_is item characters found))
total_item_is level wheel item (next ∷ others) s (Some characters) found read = cc
total_item_is level wheel item [] s None found read =
    let l = bound (level_of level) _ s read in
    let w = bound (number_of wheel) _ s l.2 in
    let n = bound (name_of item) _ s w.2 in
    subst (Says (codes "TOTAL" ∷ level ∷ wheel ∷ item ∷ [])) (same_Some _ s n.2)
    (total_text (level_is level l.0 l.1) (number_is wheel w.0 w.1) (name_is item n.0 n.1))
total_item_is level wheel item (digits ∷ mark) s None found read =
    let t = amount_is level wheel item digits mark s read in
    subst (Says (codes "TOTAL" ∷ level ∷ wheel ∷ item ∷ digits ∷ mark)) t.same
    (total_amount {total = t.total} t.is_level t.is_wheel t.is_name t.is_digits t.is_mark)

total_is : (operands : List (List ℕ)) (s : Statement) → total_statement operands ≡ Some s → Says (codes "TOTAL" ∷ operands) s
unfolding total_statement
total_is [] s read = cc
total_is (level ∷ []) s read = cc
total_is (level ∷ wheel ∷ []) s read = cc
total_is (level ∷ wheel ∷ item ∷ others) s read = total_item_is level wheel item others s (literal_of item) refl read

spacing_is : (kind : List (List ℕ)) (line : BodyLine) → SaysKind kind line → (others : List (List ℕ)) (s : Statement)
    → spacing_of line others ≡ Some s
    → Says (codes "SPACE" ∷ (kind ++ others)) s
unfolding spacing_of
spacing_is kind line said [] s read = cc
spacing_is kind line said (count ∷ []) s read =
    let n = bound (spacing_lines_of count) _ s read in
    subst (Says (codes "SPACE" ∷ (kind ++ count ∷ []))) (same_Some _ s n.2) (space said (spacing_lines_is count n.0 n.1))
spacing_is kind line said (count ∷ next ∷ others) s read = cc

space_is : (operands : List (List ℕ)) (s : Statement) → space_of operands ≡ Some s → Says (codes "SPACE" ∷ operands) s
unfolding space_of
space_is operands s read =
    let k = bound (kind_of operands) _ s read in
    let begins = kind_is operands k.0.0 k.0.1 k.1 in
    subst (λ (ts : List (List ℕ)). Says (codes "SPACE" ∷ ts) s) (sym begins.spelled)
    (spacing_is begins.kind k.0.0 begins.said k.0.1 s k.2)

follower_is : (kind : List (List ℕ)) (line : BodyLine) → SaysKind kind line → (others : List (List ℕ)) (s : Statement)
    → follower_of line others ≡ Some s
    → Says (codes "AFTER" ∷ (kind ++ others)) s
unfolding follower_of
follower_is kind line said [] s read = cc
follower_is kind line said (word ∷ []) s read =
    let test = cond_some (bytes_eq word (codes "PAGE")) _ s read in
    subst (λ (w : List ℕ). Says (codes "AFTER" ∷ (kind ++ w ∷ [])) s) (sym (is_word word (codes "PAGE") test.0))
    (subst (Says (codes "AFTER" ∷ (kind ++ codes "PAGE" ∷ []))) test.1 (page_after said))
follower_is kind line said (word ∷ channel ∷ []) s read =
    let test = granted (bytes_eq word (codes "SKIP")) _ s read in
    let c = bound (number_of channel) _ s test.1 in
    subst (λ (w : List ℕ). Says (codes "AFTER" ∷ (kind ++ w ∷ channel ∷ [])) s)
    (sym (is_word word (codes "SKIP") test.0))
    (subst (Says (codes "AFTER" ∷ (kind ++ codes "SKIP" ∷ channel ∷ []))) (same_Some _ s c.2)
    (skip_after said (number_is channel c.0 c.1)))
follower_is kind line said (word ∷ channel ∷ next ∷ others) s read = cc

after_is : (operands : List (List ℕ)) (s : Statement) → after_of operands ≡ Some s → Says (codes "AFTER" ∷ operands) s
unfolding after_of
after_is operands s read =
    let k = bound (kind_of operands) _ s read in
    let begins = kind_is operands k.0.0 k.0.1 k.1 in
    subst (λ (ts : List (List ℕ)). Says (codes "AFTER" ∷ ts) s) (sym begins.spelled)
    (follower_is begins.kind k.0.0 begins.said k.0.1 s k.2)

form_is : (operands : List (List ℕ)) (s : Statement) → form_of operands ≡ Some s → Says (codes "FORM" ∷ operands) s
unfolding form_of
form_is (size ∷ first ∷ overflow ∷ []) s read =
    let p = bound (number_of size) _ s read in
    let t = bound (number_of first) _ s p.2 in
    let o = bound (number_of overflow) _ s t.2 in
    subst (Says (codes "FORM" ∷ size ∷ first ∷ overflow ∷ [])) (same_Some _ s o.2)
    (form (number_is size p.0 p.1) (number_is first t.0 t.1) (number_is overflow o.0 o.1))
form_is other s read = cc

tape_is : (operands : List (List ℕ)) (s : Statement) → tape_of operands ≡ Some s → Says (codes "TAPE" ∷ operands) s
unfolding tape_of stops_of
tape_is [] s read = cc
tape_is (channel ∷ stops) s read =
    let c = bound (number_of channel) _ s read in
    let ns = bound (stops_of stops) _ s c.2 in
    let test = granted (leb 1 (length stops) && leb (length stops) 10) (numbers_of stops) ns.0 ns.1 in
    let bounds = and_parts (leb 1 (length stops)) (leb (length stops) 10) test.0 in
    let are = numbers_are stops ns.0 test.1 in
    subst (Says (codes "TAPE" ∷ channel ∷ stops)) (same_Some _ s ns.2)
    (tape (number_is channel c.0 c.1) are
    (omega (arith, as_many_numbers are, leb-true 1 (length stops) bounds.0))
    (omega (arith, as_many_numbers are, leb-true (length stops) 10 bounds.1)))

-- the word of a form
abbrev spelled : Keyword → List ℕ
spelled words.Field = codes "FIELD"
spelled words.Control = codes "CONTROL"
spelled words.Print = codes "PRINT"
spelled words.Head = codes "HEAD"
spelled words.Detail = codes "DETAIL"
spelled words.Total = codes "TOTAL"
spelled words.Space = codes "SPACE"
spelled words.After = codes "AFTER"
spelled words.Form = codes "FORM"
spelled words.Tape = codes "TAPE"

-- the next word to try
try_word : (word : List ℕ) (wanted k : Keyword) (others : Option Keyword)
    → cond (bytes_eq word (spelled wanted)) (Some wanted) others ≡ Some k
    → (others ≡ Some k → word ≡ spelled k) → word ≡ spelled k
try_word word wanted k others read later = by_test (bytes_eq word (spelled wanted)) refl read
  where
    by_test : (b : Bool) → bytes_eq word (spelled wanted) ≡ b → cond b (Some wanted) others ≡ Some k → word ≡ spelled k
    by_test true e r = is_word word (spelled wanted) e ∙ ap spelled (same_Some wanted k r)
    by_test false e r = later r

keyword_is : (word : List ℕ) (k : Keyword) → keyword_of word ≡ Some k → word ≡ spelled k
keyword_is word k read =
    try_word word words.Field k _ read λ r1. try_word word words.Control k _ r1 λ r2. try_word word words.Print k _ r2
    λ r3.
    try_word word words.Head k _ r3 λ r4. try_word word words.Detail k _ r4 λ r5. try_word word words.Total k _ r5 λ r6.
    try_word word words.Space k _ r6 λ r7. try_word word words.After k _ r7 λ r8. try_word word words.Form k _ r8 λ r9.
    try_word word words.Tape k _ r9 λ r10. cc

said_is : (k : Keyword) (operands : List (List ℕ)) (s : Statement) → said_after k operands ≡ Some s
    → Says (spelled k ∷ operands) s
said_is words.Field operands s read = field_is operands s read
said_is words.Control operands s read = control_is operands s read
said_is words.Print operands s read = print_is operands s read
said_is words.Head operands s read = head_is operands s read
said_is words.Detail operands s read = detail_is operands s read
said_is words.Total operands s read = total_is operands s read
said_is words.Space operands s read = space_is operands s read
said_is words.After operands s read = after_is operands s read
said_is words.Form operands s read = form_is operands s read
said_is words.Tape operands s read = tape_is operands s read

-- what is read of tokens is what they say
pub says_what_is_read : (tokens : List (List ℕ)) (s : Statement) → statement_of tokens ≡ Some s → Says tokens s
unfolding statement_of
says_what_is_read [] s read = cc
says_what_is_read (word ∷ operands) s read =
    let k = bound (keyword_of word) _ s read in
    subst (λ (w : List ℕ). Says (w ∷ operands) s) (sym (keyword_is word k.0 k.1)) (said_is k.0 operands s k.2)

-- what tokens say is read
pub read_what_it_says : {tokens : List (List ℕ)} {s : Statement} → Says tokens s → statement_of tokens ≡ Some s
unfolding statement_of field_of field_kind_of control_of print_of head_of detail_of detail_literal_of detail_field_of
    total_statement total_literal_of total_amount_of total_field_of space_of spacing_of after_of follower_of form_of tape_of stops_of
read_what_it_says (text_field {name} {first} {last} {n} {a} {b} is_n is_a is_b) = rw
    (name_read name n is_n, number_read first a is_a, number_read last b is_b) refl
read_what_it_says
    (amount_field {name} {first} {last} {decimals} {n} {sign} {a} {b} {d} {rule} is_n is_a is_b is_d said) =
    rw (
      name_read name n is_n,
      number_read first a is_a,
      number_read last b is_b,
      number_read decimals d is_d,
      sign_read said,
    ) refl
read_what_it_says (control {level} {name} {n} {l} is_l is_n) = rw
    (control_level_read level l is_l, name_read name n is_n) refl
read_what_it_says print_detail = refl
read_what_it_says print_group = refl
read_what_it_says (head {line} {wheel} {literal} {characters} {h} {w} is_h is_w is) =
    rw (heading_line_read line h is_h, number_read wheel w is_w, literal_read literal characters is) refl
read_what_it_says (detail_literal {wheel} {literal} {characters} {w} is_w is) = rw
    (literal_read literal characters is, number_read wheel w is_w) refl
read_what_it_says (detail_field {wheel} {name} {n} {option} {w} {how} is_w is_n said) =
    rw (name_no_literal name n is_n, number_read wheel w is_w, name_read name n is_n, option_read said) refl
read_what_it_says (total_literal {level} {wheel} {literal} {characters} {l} {w} is_l is_w is) =
    rw (literal_read literal characters is, level_read level l is_l, number_read wheel w is_w) refl
read_what_it_says (total_text {level} {wheel} {name} {n} {l} {w} is_l is_w is_n) =
    rw (name_no_literal name n is_n, level_read level l is_l, number_read wheel w is_w, name_read name n is_n)
    refl
read_what_it_says (total_amount {level} {wheel} {name} {digits} {mark} {total} is_l is_w is_n is_g said) =
    rw (
      name_no_literal name total.name is_n,
      level_read level total.level is_l,
      number_read wheel total.wheel is_w,
      name_read name total.name is_n,
      number_read digits total.digits is_g,
      total_mark_read said,
    ) refl
read_what_it_says (space {kind} {count} {line} {n} said is) = rw
    (kind_read said count [], spacing_lines_read count n is) refl
read_what_it_says (page_after {kind} {line} said) = rw (kind_read said (codes "PAGE") []) refl
read_what_it_says (skip_after {kind} {channel} {line} {c} said is) = rw
    (kind_read said (codes "SKIP") (channel ∷ []), number_read channel c is) refl
read_what_it_says (form {size} {first} {overflow} {p} {t} {o} is_p is_t is_o) = rw
    (number_read size p is_p, number_read first t is_t, number_read overflow o is_o) refl
read_what_it_says (tape {channel} {stops} {c} {numbers} is are some few) =
    rw (
      number_read channel c is,
      le-leb 1 (length stops) (omega (arith, as_many_numbers are)),
      le-leb
          (length stops) 10 (omega (arith, as_many_numbers are)),
      numbers_read are,
    ) refl

-- what is read of a total with the word COUPLED is what it says
coupled_is : (tokens : List (List ℕ)) (s : Statement) → coupled_of tokens ≡ Some s → SaysCoupled tokens s
unfolding coupled_of
coupled_is (total ∷ level ∷ wheel ∷ name ∷ digits ∷ word ∷ mark) s read =
    let test = granted (bytes_eq total (codes "TOTAL") && bytes_eq word (codes "COUPLED")) _ s read in
    let words = and_parts (bytes_eq total (codes "TOTAL")) (bytes_eq word (codes "COUPLED")) test.0 in
    let t = amount_is level wheel name digits mark s test.1 in
    subst (λ (w : List ℕ). SaysCoupled (w ∷ level ∷ wheel ∷ name ∷ digits ∷ word ∷ mark) s) (sym (is_word total (codes "TOTAL") words.0))
    (subst (λ (w : List ℕ). SaysCoupled (codes "TOTAL" ∷ level ∷ wheel ∷ name ∷ digits ∷ w ∷ mark) s) (sym (is_word word (codes "COUPLED") words.1))
    (subst (SaysCoupled (codes "TOTAL" ∷ level ∷ wheel ∷ name ∷ digits ∷ codes "COUPLED" ∷ mark)) t.same
    (coupled_amount {total = t.total} t.is_level t.is_wheel t.is_name t.is_digits t.is_mark)))
coupled_is other s read = cc

coupled_read : {tokens : List (List ℕ)} {s : Statement} → SaysCoupled tokens s → coupled_of tokens ≡ Some s
unfolding coupled_of total_amount_of
coupled_read (coupled_amount {level} {wheel} {name} {digits} {mark} {total} is_l is_w is_n is_g said) =
    rw (
      level_read level total.level is_l,
      number_read wheel total.wheel is_w,
      name_read name total.name is_n,
      number_read digits total.digits is_g,
      total_mark_read said,
    ) refl

-- no total with the word COUPLED is a form of both versions
no_mark : {mark : List (List ℕ)} {m : Option Mark} → SaysMark mark m → total_mark_of (codes "COUPLED" ∷ mark) ≡ None
unfolding total_mark_of
no_mark unmarked = refl
no_mark (total_marked is) = refl

coupled_in_both : {tokens : List (List ℕ)} {s : Statement} → SaysCoupled tokens s → statement_of tokens ≡ None
unfolding statement_of total_statement total_field_of total_amount_of
coupled_in_both (coupled_amount {level} {wheel} {name} {digits} {mark} {total} is_l is_w is_n is_g said) =
    rw (
      name_no_literal name total.name is_n,
      level_read level total.level is_l,
      number_read wheel total.wheel is_w,
      name_read name total.name is_n,
      number_read digits total.digits is_g,
      no_mark said,
    ) refl

-- what is read of tokens in a version is what they say in it
pub says_in_what_is_read : (version : Version) (tokens : List (List ℕ)) (said : Said) → said_of version tokens ≡ Some said
    → SaysIn version tokens said
unfolding said_of
says_in_what_is_read version tokens said read = by version (statement_of tokens) refl read
  where
    by_coupled : (found : Option Statement) → coupled_of tokens ≡ found
        → option_map (λ statement. record { statement = statement; coupled = true }) found ≡ Some said → SaysIn Second tokens said
    by_coupled (Some s) is same = subst (SaysIn Second tokens) (same_Some _ said same) (in_second (coupled_is tokens s is))
    by_coupled None is same = cc

    by : (version : Version) (found : Option Statement) → statement_of tokens ≡ found → said_by version tokens found ≡ Some said
        → SaysIn version tokens said
    by version (Some s) is same = subst (SaysIn version tokens) (same_Some _ said same) (in_both (says_what_is_read tokens s is))
    by First None is same = cc
    by Second None is same = by_coupled (coupled_of tokens) refl same

pub read_what_it_says_in : {version : Version} {tokens : List (List ℕ)} {said : Said} → SaysIn version tokens said
    → said_of version tokens ≡ Some said
unfolding said_of
read_what_it_says_in (in_both {version} {tokens} {statement} is) = ap (said_by version tokens) (read_what_it_says is)
read_what_it_says_in (in_second {tokens} {statement} is) =
    ap (said_by Second tokens) (coupled_in_both is)
    ∙ ap (option_map (λ statement. record { statement = statement; coupled = true })) (coupled_read is)

-- no tokens, and END alone, say nothing
pub nothing_said : (version : Version) → said_of version [] ≡ None
unfolding said_of statement_of coupled_of
nothing_said First = refl
nothing_said Second = refl

pub end_says_nothing : (version : Version) → said_of version (codes "END" ∷ []) ≡ None
unfolding said_of statement_of coupled_of
end_says_nothing First = refl
end_says_nothing Second = refl
