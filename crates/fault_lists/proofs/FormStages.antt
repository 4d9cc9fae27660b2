-- The words of a form go through the stages.
use Rattle.std.proofs.Common.{◌≡◌, ◌∙◌, ℕ, ◌+◌, ◌-◌, ◌<◌, ◌≤◌, ◌&&◌, Bool, true, false, List, [], ◌∷◌, ◌++◌, length, Option, Some, None, is_some, refl, ap, codes, arith, length-append, leb}
use Rattle.std.proofs.lemmas.Bool.{le-leb, lt-ltb}
use Rattle.chart_text.specs.ChartText.{SaysIn, in_both, in_second}
use Rattle.chart_text.specs.Forms.{IsLiteral, IsMark, credit, minus, SaysSign, unsigned, by_row, by_absence, SaysMark, unmarked, total_marked, SaysOption, as_it_is, indicated, item_marked, SaysKind, detail_line, total_line, Says, text_field, amount_field, control, print_detail, print_group, head, detail_literal, detail_field, total_literal, total_text, total_amount, SaysCoupled, coupled_amount, space, page_after, skip_after, form, tape}
use Rattle.chart_text.specs.declared.forms.Said.{Said}
use Rattle.chart_lines.specs.ChartsWords.Headings.{heading_number}
use Rattle.chart_lines.specs.ChartsWords.Levels.{control_number, level_number}
use Rattle.chart_lines.specs.ChartsWords.Name.{IsName}
use Rattle.chart_lines.specs.ChartsWords.Spacings.{spacing_number}
use Rattle.chart_lines.specs.declared.charts.chart.Version.{Version}
use Rattle.chart_lines.specs.declared.charts.heading.HeadingLine.{HeadingLine}
use Rattle.chart_lines.specs.declared.charts.heading.HeadingLine.TheVariants as heading
use Rattle.chart_lines.specs.declared.charts.level.ControlLevel.{ControlLevel}
use Rattle.chart_lines.specs.declared.charts.level.ControlLevel.TheVariants as minor
use Rattle.chart_lines.specs.declared.charts.level.Level.{Level}
use Rattle.chart_lines.specs.declared.charts.level.Level.TheVariants as level
use Rattle.chart_lines.specs.declared.charts.spacing.Spacing.{Spacing}
use Rattle.chart_lines.specs.declared.charts.spacing.Spacing.TheVariants as spacing
use Rattle.chart_lines.specs.declared.charts.statement.BodyLine.{BodyLine}
use Rattle.chart_lines.specs.declared.charts.statement.DetailOption.{DetailOption}
use Rattle.chart_lines.specs.declared.charts.statement.Mark.{Mark}
use Rattle.chart_lines.specs.declared.charts.statement.SignRule.{SignRule}
use Rattle.chart_lines.specs.declared.charts.statement.Statement.{Statement}
use Rattle.chart_lines.proofs.TokensWords.NumberGrammar.{number_read, number_to_read}
use Rattle.chart_lines.specs.TokensWords.Number.{AreNumbers, IsNumber}
use Rattle.chart_lines.specs.TokensWords.Number as numbers
use Rattle.fault_slips.specs.WordSlips.Stages.{behind, behind_item, behind_stop, first_stage, if_fits}
use Rattle.fault_slips.specs.WordSlips.Words.{is_literal, is_name, is_number, is_up_to}
use Rattle.fault_slips.specs.declared.word_slips.stage.Stage.{Stage}
use Rattle.fault_slips.specs.declared.word_slips.stage.Stage.TheVariants as stage

-- the stage behind some words, from a stage on
abbrev pub walk : List (List ℕ) → Option Stage → Option Stage
walk [] from = from
walk (word ∷ words) None = None
walk (word ∷ words) (Some from) = walk words (behind from word)

-- words go on from a stage to some other
pub record GoOn (from : Stage) (words : List (List ℕ)) : Type 0 where
  pub to : Stage
  pub goes : walk words (Some from) ≡ Some to

-- the words of a line do, from its first one
abbrev pub GoOnAll : List (List ℕ) → Type 0
GoOnAll [] = ⊥
GoOnAll (word ∷ words) = (to : Stage) × (walk words (first_stage word) ≡ Some to)

-- no word is left
ends : (from : Stage) → GoOn from []
ends from = record { to = from; goes = refl }

-- one word goes on to a stage, and the others from there
goes_on : {words : List (List ℕ)} (from to : Stage) (word : List ℕ) → behind from word ≡ Some to → GoOn to words → GoOn from (word ∷ words)
goes_on {words} from to word goes others =
    record { to = others.to; goes = ap (λ (next : Option Stage). walk words next) goes ∙ others.goes }

-- the first word of a line goes on to a stage, and the others from there
begins : {words : List (List ℕ)} (word : List ℕ) (to : Stage) → first_stage word ≡ Some to → GoOn to words → GoOnAll (word ∷ words)
begins {words} word to goes others = (others.to, ap (λ (next : Option Stage). walk words next) goes ∙ others.goes)

-- a number that is not too great
up_to : (word : List ℕ) (n greatest : ℕ) → IsNumber word n → 1 ≤ n → n ≤ greatest → is_up_to greatest word ≡ true
up_to word n greatest is least most =
    ap (λ (read : Option ℕ). is_some read) (number_to_read greatest word n (record { spelled = is; least = least; most = most }))

level_fits : (word : List ℕ) (l : Level) → IsNumber word (level_number l) → is_up_to 4 word ≡ true
level_fits word level.Minor is = up_to word 1 4 is (omega arith) (omega arith)
level_fits word level.Intermediate is = up_to word 2 4 is (omega arith) (omega arith)
level_fits word level.Major is = up_to word 3 4 is (omega arith) (omega arith)
level_fits word level.Final is = up_to word 4 4 is (omega arith) (omega arith)

control_fits : (word : List ℕ) (l : ControlLevel) → IsNumber word (control_number l) → is_up_to 3 word ≡ true
control_fits word minor.Minor is = up_to word 1 3 is (omega arith) (omega arith)
control_fits word minor.Intermediate is = up_to word 2 3 is (omega arith) (omega arith)
control_fits word minor.Major is = up_to word 3 3 is (omega arith) (omega arith)

heading_fits : (word : List ℕ) (h : HeadingLine) → IsNumber word (heading_number h) → is_up_to 3 word ≡ true
heading_fits word heading.First is = up_to word 1 3 is (omega arith) (omega arith)
heading_fits word heading.Second is = up_to word 2 3 is (omega arith) (omega arith)
heading_fits word heading.Third is = up_to word 3 3 is (omega arith) (omega arith)

spacing_fits : (word : List ℕ) (s : Spacing) → IsNumber word (spacing_number s) → is_up_to 3 word ≡ true
spacing_fits word spacing.Single is = up_to word 1 3 is (omega arith) (omega arith)
spacing_fits word spacing.Double is = up_to word 2 3 is (omega arith) (omega arith)
spacing_fits word spacing.Triple is = up_to word 3 3 is (omega arith) (omega arith)

-- a number, a name, and a literal, which is no name
number_fits : (word : List ℕ) (n : ℕ) → IsNumber word n → is_number word ≡ true
number_fits word n is = ap (λ (read : Option ℕ). is_some read) (number_read word n is)

name_fits : (word name : List ℕ) → IsName word name → is_name word ≡ true
name_fits word name is = rw (le-leb (length word) 8 is.short, is.spelled) refl

never : (b : Bool) → b && false ≡ false
never true = refl
never false = refl

literal_no_name : (word characters : List ℕ) → IsLiteral word characters → is_name word ≡ false
literal_no_name word characters is = rw (is.spelled) (never (leb (length (39 ∷ (characters ++ 39 ∷ []))) 8))

literal_fits : (word characters : List ℕ) → IsLiteral word characters → is_literal word ≡ true
literal_fits word characters is =
    rw (
      is.spelled,
      length-append characters (39 ∷ []),
      le-leb 2 (length characters + 1) (omega (arith, is.text.some)),
      le-leb (length characters + 1) 121 (omega (arith, is.text.few)),
    ) refl

-- what fits goes on
fits : (b : Bool) (next : Stage) → b ≡ true → if_fits b next ≡ Some next
fits b next is = ap (λ (t : Bool). if_fits t next) is

name_item : (word name : List ℕ) (next : Stage) → IsName word name → behind_item word next ≡ Some next
name_item word name next is = rw (name_fits word name is) refl

literal_item : (word characters : List ℕ) (next : Stage) → IsLiteral word characters → behind_item word next ≡ Some stage.Nothing
literal_item word characters next is = rw (literal_no_name word characters is, literal_fits word characters is) refl

stop_fits : (word : List ℕ) (n left : ℕ) → IsNumber word n → 0 < left → behind_stop word left ≡ Some (stage.Stops (left - 1))
stop_fits word n left is some = rw (lt-ltb 0 left some, number_fits word n is) refl

-- the parts of forms
sign_goes : {sign : List (List ℕ)} {rule : Option SignRule} → SaysSign sign rule → GoOn stage.SignWord sign
unfolding behind
sign_goes unsigned = ends stage.SignWord
sign_goes (by_row {column} {c} is) =
    goes_on stage.SignWord stage.SignColumn (codes "X") refl
    (goes_on stage.SignColumn stage.Nothing column (fits _ stage.Nothing (number_fits column c is)) (ends stage.Nothing))
sign_goes (by_absence {column} {c} is) =
    goes_on stage.SignWord stage.SignColumn (codes "NX") refl
    (goes_on stage.SignColumn stage.Nothing column (fits _ stage.Nothing (number_fits column c is)) (ends stage.Nothing))

mark_goes : {word : List ℕ} {m : Mark} → IsMark word m → GoOn stage.MarkSign (word ∷ [])
unfolding behind
mark_goes credit = goes_on stage.MarkSign stage.Nothing (codes "CR") refl (ends stage.Nothing)
mark_goes minus = goes_on stage.MarkSign stage.Nothing (codes "-") refl (ends stage.Nothing)

total_mark_goes : {mark : List (List ℕ)} {m : Option Mark} → SaysMark mark m → GoOn stage.TotalOption mark
unfolding behind
total_mark_goes unmarked = ends stage.TotalOption
total_mark_goes (total_marked is) = goes_on stage.TotalOption stage.MarkSign (codes "MARK") refl (mark_goes is)

coupled_mark_goes : {mark : List (List ℕ)} {m : Option Mark} → SaysMark mark m → GoOn stage.TotalMark mark
unfolding behind
coupled_mark_goes unmarked = ends stage.TotalMark
coupled_mark_goes (total_marked is) = goes_on stage.TotalMark stage.MarkSign (codes "MARK") refl (mark_goes is)

option_goes : {option : List (List ℕ)} {how : DetailOption} → SaysOption option how → GoOn stage.DetailOption option
unfolding behind
option_goes as_it_is = ends stage.DetailOption
option_goes (indicated {level} {l} is) =
    goes_on stage.DetailOption stage.IndicatedLevel (codes "INDICATE") refl
    (goes_on stage.IndicatedLevel stage.Nothing level (fits _ stage.Nothing (control_fits level l is)) (ends stage.Nothing))
option_goes (item_marked is) = goes_on stage.DetailOption stage.MarkSign (codes "MARK") refl (mark_goes is)

-- stops, not more than may follow
stops_go : {stops : List (List ℕ)} {ns : List ℕ} → AreNumbers stops ns → (left : ℕ) → length ns ≤ left → GoOn (stage.Stops left) stops
unfolding behind
stops_go numbers.none left few = ends (stage.Stops left)
stops_go (numbers.next token tokens n ns is are) left few =
    goes_on (stage.Stops left) (stage.Stops (left - 1)) token (stop_fits token n left is (omega (arith, few)))
    (stops_go are (left - 1) (omega (arith, few)))

-- a number, a name or a level, and what is behind it
number_on : {words : List (List ℕ)} (from to : Stage) (word : List ℕ) (n : ℕ) → behind from word ≡ if_fits (is_number word) to → IsNumber word n
    → GoOn to words → GoOn from (word ∷ words)
number_on from to word n asks is others = goes_on from to word (asks ∙ fits _ to (number_fits word n is)) others

-- the columns of a field
text_columns : (first last : List ℕ) (a b : ℕ) → IsNumber first a → IsNumber last b → GoOn stage.TextFirst (first ∷ last ∷ [])
unfolding behind
text_columns first last a b is_a is_b =
    number_on stage.TextFirst stage.TextLast first a refl is_a (number_on stage.TextLast stage.Nothing last b refl is_b (ends stage.Nothing))

amount_columns : (first last decimals : List ℕ) (sign : List (List ℕ)) (a b d : ℕ) → IsNumber first a → IsNumber last b → IsNumber decimals d
    → GoOn stage.SignWord sign → GoOn stage.AmountFirst (first ∷ last ∷ decimals ∷ sign)
unfolding behind
amount_columns first last decimals sign a b d is_a is_b is_d goes =
    number_on stage.AmountFirst stage.AmountLast first a refl is_a
    (number_on stage.AmountLast stage.Decimals last b refl is_b (number_on stage.Decimals stage.SignWord decimals d refl is_d goes))

-- the lines that SPACE and AFTER name
space_goes : {kind : List (List ℕ)} {line : BodyLine} (others : List (List ℕ)) → SaysKind kind line → GoOn stage.SpaceCount others
    → GoOn stage.SpaceKind (kind ++ others)
unfolding behind
space_goes others detail_line goes = goes_on stage.SpaceKind stage.SpaceCount (codes "DETAIL") refl goes
space_goes others (total_line {level} {l} is) goes =
    goes_on stage.SpaceKind stage.SpaceLevel (codes "TOTAL") refl
    (goes_on stage.SpaceLevel stage.SpaceCount level (fits _ stage.SpaceCount (level_fits level l is)) goes)

after_goes : {kind : List (List ℕ)} {line : BodyLine} (others : List (List ℕ)) → SaysKind kind line → GoOn stage.AfterWhat others
    → GoOn stage.AfterKind (kind ++ others)
unfolding behind
after_goes others detail_line goes = goes_on stage.AfterKind stage.AfterWhat (codes "DETAIL") refl goes
after_goes others (total_line {level} {l} is) goes =
    goes_on stage.AfterKind stage.AfterLevel (codes "TOTAL") refl
    (goes_on stage.AfterLevel stage.AfterWhat level (fits _ stage.AfterWhat (level_fits level l is)) goes)

-- the level and the wheel of an item on a total line
total_goes : {words : List (List ℕ)} (level wheel : List ℕ) (l : Level) (w : ℕ) → IsNumber level (level_number l) → IsNumber wheel w
    → GoOn stage.TotalItem words → GoOn stage.TotalLevel (level ∷ wheel ∷ words)
unfolding behind
total_goes level wheel l w is_l is_w goes =
    goes_on stage.TotalLevel stage.TotalWheel level (fits _ stage.TotalWheel (level_fits level l is_l))
    (number_on stage.TotalWheel stage.TotalItem wheel w refl is_w goes)

digits_go : {words : List (List ℕ)} (name digits n : List ℕ) (g : ℕ) → IsName name n → IsNumber digits g → GoOn stage.TotalOption words
    → GoOn stage.TotalItem (name ∷ digits ∷ words)
unfolding behind
digits_go name digits n g is_n is_g goes =
    goes_on stage.TotalItem stage.TotalDigits name (name_item name n stage.TotalDigits is_n)
    (number_on stage.TotalDigits stage.TotalOption digits g refl is_g goes)

-- each form
says_goes : {words : List (List ℕ)} {s : Statement} → Says words s → GoOnAll words
unfolding behind first_stage
says_goes (text_field {name} {first} {last} {n} {a} {b} is_n is_a is_b) =
    begins (codes "FIELD") stage.FieldName refl
    (goes_on stage.FieldName stage.FieldKind name (fits _ stage.FieldKind (name_fits name n is_n))
    (goes_on stage.FieldKind stage.TextFirst (codes "TEXT") refl (text_columns first last a b is_a is_b)))
says_goes (amount_field {name} {first} {last} {decimals} {n} {sign} {a} {b} {d} {rule} is_n is_a is_b is_d said) =
    begins (codes "FIELD") stage.FieldName refl
    (goes_on stage.FieldName stage.FieldKind name (fits _ stage.FieldKind (name_fits name n is_n))
    (goes_on stage.FieldKind stage.AmountFirst (codes "AMOUNT") refl
    (amount_columns first last decimals sign a b d is_a is_b is_d (sign_goes said))))
says_goes (control {level} {name} {n} {l} is_l is_n) =
    begins (codes "CONTROL") stage.ControlLevel refl
    (goes_on stage.ControlLevel stage.ControlName level (fits _ stage.ControlName (control_fits level l is_l))
    (goes_on stage.ControlName stage.Nothing name (fits _ stage.Nothing (name_fits name n is_n)) (ends stage.Nothing)))
says_goes print_detail =
    begins (codes "PRINT") stage.PrintKind refl (goes_on stage.PrintKind stage.Nothing (codes "DETAIL") refl (ends stage.Nothing))
says_goes print_group =
    begins (codes "PRINT") stage.PrintKind refl (goes_on stage.PrintKind stage.Nothing (codes "GROUP") refl (ends stage.Nothing))
says_goes (head {line} {wheel} {literal} {characters} {h} {w} is_h is_w is) =
    begins (codes "HEAD") stage.HeadLine refl
    (goes_on stage.HeadLine stage.HeadWheel line (fits _ stage.HeadWheel (heading_fits line h is_h))
    (number_on stage.HeadWheel stage.HeadLiteral wheel w refl is_w
    (goes_on stage.HeadLiteral stage.Nothing literal (fits _ stage.Nothing (literal_fits literal characters is)) (ends stage.Nothing))))
says_goes (detail_literal {wheel} {literal} {characters} {w} is_w is) =
    begins (codes "DETAIL") stage.DetailWheel refl
    (number_on stage.DetailWheel stage.DetailItem wheel w refl is_w
    (goes_on stage.DetailItem stage.Nothing literal (literal_item literal characters stage.DetailOption is) (ends stage.Nothing)))
says_goes (detail_field {wheel} {name} {n} {option} {w} {how} is_w is_n said) =
    begins (codes "DETAIL") stage.DetailWheel refl
    (number_on stage.DetailWheel stage.DetailItem wheel w refl is_w
    (goes_on stage.DetailItem stage.DetailOption name (name_item name n stage.DetailOption is_n) (option_goes said)))
says_goes (total_literal {level} {wheel} {literal} {characters} {l} {w} is_l is_w is) =
    begins (codes "TOTAL") stage.TotalLevel refl
    (total_goes level wheel l w is_l is_w
    (goes_on stage.TotalItem stage.Nothing literal (literal_item literal characters stage.TotalDigits is) (ends stage.Nothing)))
says_goes (total_text {level} {wheel} {name} {n} {l} {w} is_l is_w is_n) =
    begins (codes "TOTAL") stage.TotalLevel refl
    (total_goes level wheel l w is_l is_w
    (goes_on stage.TotalItem stage.TotalDigits name (name_item name n stage.TotalDigits is_n) (ends stage.TotalDigits)))
says_goes (total_amount {level} {wheel} {name} {digits} {mark} {total} is_l is_w is_n is_g said) =
    begins (codes "TOTAL") stage.TotalLevel refl
    (total_goes level wheel total.level total.wheel is_l is_w (digits_go name digits total.name total.digits is_n is_g (total_mark_goes said)))
says_goes (space {kind} {count} {line} {n} on is) =
    begins (codes "SPACE") stage.SpaceKind refl
    (space_goes (count ∷ []) on (goes_on stage.SpaceCount stage.Nothing count (fits _ stage.Nothing (spacing_fits count n is)) (ends stage.Nothing)))
says_goes (page_after {kind} {line} on) =
    begins (codes "AFTER") stage.AfterKind refl
    (after_goes (codes "PAGE" ∷ []) on (goes_on stage.AfterWhat stage.Nothing (codes "PAGE") refl (ends stage.Nothing)))
says_goes (skip_after {kind} {channel} {line} {c} on is) =
    begins (codes "AFTER") stage.AfterKind refl
    (after_goes (codes "SKIP" ∷ channel ∷ []) on
    (goes_on stage.AfterWhat stage.SkipChannel (codes "SKIP") refl
    (number_on stage.SkipChannel stage.Nothing channel c refl is (ends stage.Nothing))))
says_goes (form {size} {first} {overflow} {p} {t} {o} is_p is_t is_o) =
    begins (codes "FORM") stage.FormLines refl
    (number_on stage.FormLines stage.FormFirst size p refl is_p
    (number_on stage.FormFirst stage.FormOverflow first t refl is_t
    (number_on stage.FormOverflow stage.Nothing overflow o refl is_o (ends stage.Nothing))))
says_goes (tape {channel} {c} is numbers.none some few) = absurd (omega (arith, some))
says_goes (tape {channel} {c} is (numbers.next token tokens n others is_n are) some few) =
    begins (codes "TAPE") stage.TapeChannel refl
    (number_on stage.TapeChannel stage.FirstStop channel c refl is
    (number_on stage.FirstStop (stage.Stops 9) token n refl is_n (stops_go are 9 (omega (arith, few)))))

coupled_goes : {words : List (List ℕ)} {s : Statement} → SaysCoupled words s → GoOnAll words
unfolding behind first_stage
coupled_goes (coupled_amount {level} {wheel} {name} {digits} {mark} {total} is_l is_w is_n is_g said) =
    begins (codes "TOTAL") stage.TotalLevel refl
    (total_goes level wheel total.level total.wheel is_l is_w
    (digits_go name digits total.name total.digits is_n is_g
    (goes_on stage.TotalOption stage.TotalMark (codes "COUPLED") refl (coupled_mark_goes said))))

-- the words of a form of any version
pub forms_go_on : {version : Version} {words : List (List ℕ)} {said : Said} → SaysIn version words said → GoOnAll words
forms_go_on (in_both says) = says_goes says
forms_go_on (in_second says) = coupled_goes says
