-- A text is a wiring chart exactly where it is read as one, and has exactly the fault that is read.
use Rattle.std.proofs.Common.{◌≡◌, ℕ, ◌≤◌, Bool, true, false, cond, get_or, List, [], ◌∷◌, Option, Some, None, Result, Ok, Err, refl, ap, sym, ◌∙◌, subst, inl, inr, arith, codes}
use Rattle.std.proofs.lemmas.Bool.{both_ways}
use Rattle.std.proofs.lemmas.Option.{none-some, same_Some}
use Rattle.std.specs.Bool.{Decides}
use Rattle.card_code.specs.Lines.{lines_of}
use Rattle.hubs.specs.SetupsWords.Tapes.{IsFormed}
use Rattle.hubs.specs.declared.setups.fault.SetupFault.{SetupFault}
use Rattle.hubs.specs.declared.setups.fault.SetupFault.TheVariants.{TapeFault}
use Rattle.chart_lines.specs.TokensWords.Dividing.{tokens_of}
use Rattle.chart_lines.proofs.TokensWords.TokenGrammar.{read_what_it_has}
use Rattle.chart_lines.proofs.TokensWords.TextFrame.{larger_by, title_by, told_false, refused_by}
use Rattle.wiring_text.specs.WiringReader.TextReading.{Told, divided_form, formed_lines, headed_lines, is_first, is_formed, is_large, lines_from, lines_told, start, tested_version, text_told, version_named, with_form}
use Rattle.wiring_text.specs.WiringFaults.{HasHead, IsUnfitForm, IsUnfit, IsAtFault, misplaced, repeated, unfit, AreGoodBefore, IsBegun, HaveFault, HasWiringFault}
use Rattle.wiring_text.specs.WiringText.{IsFirstLine, IsTooLarge, IsWiringChart, SaysLines, version_text}
use Rattle.wiring_text.specs.declared.statement.FormNumbers.{FormNumbers}
use Rattle.wiring_text.specs.declared.fault.WiringFault.{WiringFault}
use Rattle.wiring_text.specs.declared.fault.WiringFault.TheVariants.{TooLarge, NoFirstLine, NotALine, LineTwice, Unfit, NoEnd, Memory}
use Rattle.wiring_text.specs.declared.statement.Statement.{Statement}
use Rattle.wiring_text.proofs.WiringReader.LinesGrammar.{lines_read, reads_what_is_read}
use Rattle.wiring_text.proofs.WiringReader.LineOutcomes.{Outcome, outcome}
use Rattle.wiring_text.proofs.WiringReader.LowestFaults.{misplaced_read, repeated_read, unfit_read, no_end_read}
use Rattle.wiring_text.proofs.WiringReader.NewSetup.{formed_is, formed_read}
use Rattle.wiring_text.proofs.WiringReader.StatementGrammar.{form_is, form_read}
use Rattle.wiring_text.specs.declared.statement.Version.{Version}
use Rattle.wiring_text.specs.declared.statement.Version.TheVariants.{First, Second}

-- the size and the first line are told
large_told : (lines : List (List ℕ)) → Decides (is_large lines) (IsTooLarge lines)
large_told lines = larger_by 1000000 60 lines

not_large : (lines : List (List ℕ)) → is_large lines ≡ false → IsTooLarge lines → ⊥
not_large lines test = refused_by (is_large lines) (large_told lines) test

small : (lines : List (List ℕ)) → (IsTooLarge lines → ⊥) → is_large lines ≡ false
small lines is = told_false (is_large lines) (large_told lines) is

begun_told : (version : Version) (line : List ℕ) → Decides (is_first version line) (IsFirstLine version line)
begun_told version line = title_by (codes "WIRING407") (version_text version) line

-- a line names one version
named_is : (line : List ℕ) (version : Version) → version_named line ≡ Some version → IsFirstLine version line
named_is line version read = by (is_first First line) (is_first Second line) refl refl read
  where
    by : (one other : Bool) → is_first First line ≡ one → is_first Second line ≡ other → tested_version one other ≡ Some version
        → IsFirstLine version line
    by true other e f r = subst (λ (v : Version). IsFirstLine v line) (same_Some First version r) ((begun_told First line).0 e)
    by false true e f r = subst (λ (v : Version). IsFirstLine v line) (same_Some Second version r) ((begun_told Second line).0 f)
    by false false e f r = cc

two_versions : (line : List ℕ) → IsFirstLine First line → IsFirstLine Second line → ⊥
two_versions line one other =
    clash (same_Some (codes "WIRING407" ∷ codes "1" ∷ []) (codes "WIRING407" ∷ codes "2" ∷ [])
    (sym (read_what_it_has one) ∙ read_what_it_has other))
  where
    clash : codes "WIRING407" ∷ codes "1" ∷ [] ≡ codes "WIRING407" ∷ codes "2" ∷ [] → ⊥
    clash e = absurd (omega (arith, ap (λ (ts : List (List ℕ)). get_or (get_or ts 1 []) 0 0) e))

named_read : (line : List ℕ) (version : Version) → IsFirstLine version line → version_named line ≡ Some version
named_read line First is = ap (λ b. tested_version b (is_first Second line)) ((begun_told First line).1 is)
named_read line Second is =
    ap (λ b. tested_version b (is_first Second line)) (told_false (is_first First line) (begun_told First line) (λ one. two_versions line one is))
    ∙ ap (tested_version false) ((begun_told Second line).1 is)

-- answers
abbrev failed : WiringFault → Result Told WiringFault
failed fault = Err fault

same_fault : (a b : WiringFault) → failed a ≡ failed b → a ≡ b
same_fault a b e = cc

abbrev read_fault : WiringFault → Result (List Statement) WiringFault
read_fault fault = Err fault

abbrev told : Told → Result Told WiringFault
told what = Ok what

same_told : (a b : Told) → told a ≡ told b → a ≡ b
same_told a b e = cc

form_fault : (form : FormNumbers) (read : Result (List Statement) WiringFault) (fault : WiringFault)
    → with_form form read ≡ Err fault → read ≡ Err fault
form_fault form (Ok said) fault e = cc
form_fault form (Err other) fault e = ap read_fault (same_fault other fault e)

-- what is told after a form
record IsTold (form : FormNumbers) (read : Result (List Statement) WiringFault) (what : Told) : Type 0 where
  form_is : form ≡ what.form
  read_is : read ≡ Ok what.statements

form_told : (form : FormNumbers) (read : Result (List Statement) WiringFault) (what : Told) → with_form form read ≡ Ok what
    → IsTold form read what
form_told form (Ok said) what e =
    let same = same_told (record { form = form; statements = said }) what e in
    record { form_is = ap (λ w. w.form) same; read_is = ap (λ w. Ok w.statements) same }
form_told form (Err fault) what e = cc

-- the fault of lines with a good size and good first lines
begun_fault : (version : Version) (lines : List (List ℕ)) (form : FormNumbers) (fault : WiringFault) → (IsTooLarge lines → ⊥) → HasHead lines version form
    → Outcome version lines form (Err fault) → HaveFault lines fault
begun_fault version lines form TooLarge size head is = absurd is
begun_fault version lines form NoFirstLine size head is = absurd is
begun_fault version lines form (NotALine n) size head is = (record { size = size; version = version; form = form; head = head }, is.1, is.0)
begun_fault version lines form (LineTwice n) size head is = (record { size = size; version = version; form = form; head = head }, is.1, is.0)
begun_fault version lines form (Unfit n f) size head is = (record { size = size; version = version; form = form; head = head }, is.1, is.0)
begun_fault version lines form NoEnd size head is = (record { size = size; version = version; form = form; head = head }, is.0, is.1)
begun_fault version lines form Memory size head is = absurd is

-- the first two lines
has_head : (version : Version) (first second : List ℕ) (others : List (List ℕ)) (form : FormNumbers) → version_named first ≡ Some version
    → divided_form (tokens_of second) ≡ Some form → HasHead (first ∷ second ∷ others) version form
has_head version first second others form begun formed =
    record { there = omega arith; begun = named_is first version begun; formed = form_is second form formed }

head_read : (version : Version) (first second : List ℕ) (others : List (List ℕ)) (form : FormNumbers) → HasHead (first ∷ second ∷ others) version form
    → (version_named first ≡ Some version) × (divided_form (tokens_of second) ≡ Some form)
head_read version first second others form has = (named_read first version has.begun, form_read second form has.formed)

-- a form that no tape can have
unformed : (form : FormNumbers) → is_formed form ≡ false → IsFormed form.lines form.first form.overflow → ⊥
unformed form test is = both_ways (is_formed form) test (formed_read form is)

none_below_form : (version : Version) (lines : List (List ℕ)) (form : FormNumbers) → AreGoodBefore version lines form 2
none_below_form version lines form n below (misplaced is) = absurd (omega (arith, below, is.there.from))
none_below_form version lines form n below (repeated is) = absurd (omega (arith, below, is.said.there.from))
none_below_form version lines form n below (unfit fault (inl is)) = absurd (omega (arith, below, is.second))
none_below_form version lines form n below (unfit fault (inr is)) = absurd (omega (arith, below, is.said.there.from))

formed_fault : (version : Version) (first second : List ℕ) (others : List (List ℕ)) (form : FormNumbers) (fault : WiringFault) (test : Bool)
    → (IsTooLarge (first ∷ second ∷ others) → ⊥) → HasHead (first ∷ second ∷ others) version form → is_formed form ≡ test
    → cond test (with_form form (lines_from version form.lines 3 start others)) (Err (Unfit 2 TapeFault)) ≡ Err fault
    → HaveFault (first ∷ second ∷ others) fault
formed_fault version first second others form fault true size head formed read =
    begun_fault version (first ∷ second ∷ others) form fault size head
    (subst (Outcome version (first ∷ second ∷ others) form)
    (form_fault form (lines_from version form.lines 3 start others) fault read)
    (outcome version first second others form (formed_is form formed)))
formed_fault version first second others form fault false size head formed read =
    subst (HaveFault (first ∷ second ∷ others)) (same_fault (Unfit 2 TapeFault) fault read) (
      record { size = size; version = version; form = form; head = head },
      none_below_form version (first ∷ second ∷ others) form,
      inl (record { second = refl; unfit = unformed form formed; is_tape = refl }),
    )

headed_fault : (first second : List ℕ) (others : List (List ℕ)) (fault : WiringFault) (named : Option Version) (form : Option FormNumbers)
    → (IsTooLarge (first ∷ second ∷ others) → ⊥) → version_named first ≡ named → divided_form (tokens_of second) ≡ form
    → headed_lines named form others ≡ Err fault → HaveFault (first ∷ second ∷ others) fault
headed_fault first second others fault (Some version) (Some form) size begun formed read =
    formed_fault version first second others form fault (is_formed form) size
    (has_head version first second others form begun formed) refl read
headed_fault first second others fault (Some version) None size begun formed read =
    subst (HaveFault (first ∷ second ∷ others)) (same_fault NoFirstLine fault read)
    (size, λ other form has. none-some form (sym formed ∙ (head_read other first second others form has).1))
headed_fault first second others fault None form size begun formed read =
    subst (HaveFault (first ∷ second ∷ others)) (same_fault NoFirstLine fault read)
    (size, λ version form has. none-some version (sym begun ∙ (head_read version first second others form has).0))

sized_fault : (lines : List (List ℕ)) (fault : WiringFault) (test : Bool) → is_large lines ≡ test
    → cond test (Err TooLarge) (lines_told lines) ≡ Err fault → HaveFault lines fault
sized_fault lines fault true size read = subst (HaveFault lines) (same_fault TooLarge fault read) ((large_told lines).0 size)
sized_fault [] fault false size read =
    subst (HaveFault []) (same_fault NoFirstLine fault read)
    (not_large [] size, λ version form has. absurd (omega (arith, has.there)))
sized_fault (first ∷ []) fault false size read =
    subst (HaveFault (first ∷ [])) (same_fault NoFirstLine fault read)
    (not_large (first ∷ []) size, λ version form has. absurd (omega (arith, has.there)))
sized_fault (first ∷ second ∷ others) fault false size read =
    headed_fault first second others fault (version_named first) (divided_form (tokens_of second))
    (not_large (first ∷ second ∷ others) size) refl refl read

-- the fault that is read is the one of the text
pub fault_is : (bytes : List ℕ) (fault : WiringFault) → text_told bytes ≡ Err fault → HasWiringFault bytes fault
unfolding text_told
fault_is bytes fault read = sized_fault (lines_of bytes) fault (is_large (lines_of bytes)) refl read

-- a form at fault
form_at_fault : (version : Version) (lines : List (List ℕ)) (form : FormNumbers) → (IsFormed form.lines form.first form.overflow → ⊥)
    → IsAtFault version lines form 2
form_at_fault version lines form not_formed =
    unfit TapeFault (inl (record { second = refl; unfit = not_formed; is_tape = refl }))

-- the fault of lines after good first lines is read
formed_read_fault : (version : Version) (first second : List ℕ) (others : List (List ℕ)) (form : FormNumbers) (fault : WiringFault)
    → IsFormed form.lines form.first form.overflow
    → lines_from version form.lines 3 start others ≡ Err fault → formed_lines version form others ≡ Err fault
formed_read_fault version first second others form fault formed read =
    ap (λ t. cond t (with_form form (lines_from version form.lines 3 start others)) (Err (Unfit 2 TapeFault))) (formed_read form formed)
    ∙ ap (with_form form) read

-- the form of lines of which one after it is the lowest at fault
good_form : (version : Version) (lines : List (List ℕ)) (form : FormNumbers) (n : ℕ) → 3 ≤ n → AreGoodBefore version lines form n
    → IsFormed form.lines form.first form.overflow
good_form version lines form n from good = by_test (is_formed form) refl
  where
    by_test : (b : Bool) → is_formed form ≡ b → IsFormed form.lines form.first form.overflow
    by_test true e = formed_is form e
    by_test false e = absurd (good 2 (omega (arith, from)) (form_at_fault version lines form (unformed form e)))

faultless_form : (version : Version) (lines : List (List ℕ)) (form : FormNumbers) → ((n : ℕ) → IsAtFault version lines form n → ⊥)
    → IsFormed form.lines form.first form.overflow
faultless_form version lines form good = good_form version lines form 3 (omega arith) (λ n below. good n)

unfit_form_read : (version : Version) (first second : List ℕ) (others : List (List ℕ)) (form : FormNumbers) (n : ℕ) (fault : SetupFault)
    → IsUnfitForm form n fault → formed_lines version form others ≡ Err (Unfit n fault)
unfit_form_read version first second others form n fault is = by_test (is_formed form) refl
  where
    by_test : (b : Bool) → is_formed form ≡ b
        → cond b (with_form form (lines_from version form.lines 3 start others)) (Err (Unfit 2 TapeFault)) ≡ Err (Unfit n fault)
    by_test true e = absurd (is.unfit (formed_is form e))
    by_test false e =
        ap (λ k. failed (Unfit k TapeFault)) (sym is.second) ∙ ap (λ f. failed (Unfit n f)) (sym is.is_tape)

begun_read_fault : (version : Version) (first second : List ℕ) (others : List (List ℕ)) (form : FormNumbers) (n : ℕ) (fault : SetupFault)
    → AreGoodBefore version (first ∷ second ∷ others) form n → IsUnfit version (first ∷ second ∷ others) form n fault
    → formed_lines version form others ≡ Err (Unfit n fault)
begun_read_fault version first second others form n fault good (inl is) = unfit_form_read version first second others form n fault is
begun_read_fault version first second others form n fault good (inr is) =
    let formed = good_form version (first ∷ second ∷ others) form n is.said.there.from good in
    formed_read_fault version first second others form (Unfit n fault) formed
    (unfit_read version (first ∷ second ∷ others) form n fault (lines_from version form.lines 3 start others) formed is good
    (outcome version first second others form formed))

-- what is read after good first lines
past_head : (version : Version) (first second : List ℕ) (others : List (List ℕ)) (form : FormNumbers) → HasHead (first ∷ second ∷ others) version form
    → lines_told (first ∷ second ∷ others) ≡ formed_lines version form others
past_head version first second others form has =
    let read = head_read version first second others form has in
    ap (λ v. headed_lines v (divided_form (tokens_of second)) others) read.0
    ∙ ap (λ f. headed_lines (Some version) f others) read.1

-- lines by their size
abbrev sized : List (List ℕ) → Result Told WiringFault
sized lines = cond (is_large lines) (Err TooLarge) (lines_told lines)

past_size : (lines : List (List ℕ)) → (IsTooLarge lines → ⊥) → sized lines ≡ lines_told lines
past_size lines size = ap (λ b. cond b (failed TooLarge) (lines_told lines)) (small lines size)

past_both : (first second : List ℕ) (others : List (List ℕ)) (begun : IsBegun (first ∷ second ∷ others))
    → sized (first ∷ second ∷ others) ≡ formed_lines begun.version begun.form others
past_both first second others begun =
    past_size (first ∷ second ∷ others) begun.size ∙ past_head begun.version first second others begun.form begun.head

no_head_read : (first second : List ℕ) (others : List (List ℕ)) (named : Option Version) (form : Option FormNumbers)
    → version_named first ≡ named → divided_form (tokens_of second) ≡ form
    → ((v : Version) (f : FormNumbers) → HasHead (first ∷ second ∷ others) v f → ⊥) → headed_lines named form others ≡ Err NoFirstLine
no_head_read first second others (Some version) (Some form) begun formed none =
    absurd (none version form (has_head version first second others form begun formed))
no_head_read first second others (Some version) None begun formed none = refl
no_head_read first second others None form begun formed none = refl

fault_read_all : (lines : List (List ℕ)) (fault : WiringFault) → HaveFault lines fault → sized lines ≡ Err fault
fault_read_all lines TooLarge has = ap (λ b. cond b (failed TooLarge) (lines_told lines)) ((large_told lines).1 has)
fault_read_all [] NoFirstLine has = past_size [] has.0
fault_read_all (first ∷ []) NoFirstLine has = past_size (first ∷ []) has.0
fault_read_all (first ∷ second ∷ others) NoFirstLine has =
    past_size (first ∷ second ∷ others) has.0
    ∙ no_head_read first second others (version_named first) (divided_form (tokens_of second)) refl refl has.1
fault_read_all [] (NotALine n) has = absurd (omega (arith, has.0.head.there))
fault_read_all (first ∷ []) (NotALine n) has = absurd (omega (arith, has.0.head.there))
fault_read_all (first ∷ second ∷ others) (NotALine n) has =
    let version = has.0.version in
    let form = has.0.form in
    let formed = good_form version (first ∷ second ∷ others) form n has.2.there.from has.1 in
    past_both first second others has.0
    ∙ formed_read_fault version first second others form (NotALine n) formed
    (misplaced_read version (first ∷ second ∷ others) form n (lines_from version form.lines 3 start others) formed has.2 has.1
    (outcome version first second others form formed))
fault_read_all [] (LineTwice n) has = absurd (omega (arith, has.0.head.there))
fault_read_all (first ∷ []) (LineTwice n) has = absurd (omega (arith, has.0.head.there))
fault_read_all (first ∷ second ∷ others) (LineTwice n) has =
    let version = has.0.version in
    let form = has.0.form in
    let formed = good_form version (first ∷ second ∷ others) form n has.2.said.there.from has.1 in
    past_both first second others has.0
    ∙ formed_read_fault version first second others form (LineTwice n) formed
    (repeated_read version (first ∷ second ∷ others) form n (lines_from version form.lines 3 start others) formed has.2 has.1
    (outcome version first second others form formed))
fault_read_all [] (Unfit n fault) has = absurd (omega (arith, has.0.head.there))
fault_read_all (first ∷ []) (Unfit n fault) has = absurd (omega (arith, has.0.head.there))
fault_read_all (first ∷ second ∷ others) (Unfit n fault) has =
    past_both first second others has.0 ∙ begun_read_fault has.0.version first second others has.0.form n fault has.1 has.2
fault_read_all [] NoEnd has = absurd (omega (arith, has.0.head.there))
fault_read_all (first ∷ []) NoEnd has = absurd (omega (arith, has.0.head.there))
fault_read_all (first ∷ second ∷ others) NoEnd has =
    let version = has.0.version in
    let form = has.0.form in
    let formed = faultless_form version (first ∷ second ∷ others) form has.1 in
    past_both first second others has.0
    ∙ formed_read_fault version first second others form NoEnd formed
    (no_end_read version (first ∷ second ∷ others) form (lines_from version form.lines 3 start others) has.1 has.2
    (outcome version first second others form formed))
fault_read_all lines Memory has = absurd has

-- the fault of a text is read
pub fault_read : (bytes : List ℕ) (fault : WiringFault) → HasWiringFault bytes fault → text_told bytes ≡ Err fault
unfolding text_told
fault_read bytes fault has = fault_read_all (lines_of bytes) fault has

-- what is told of a text is a wiring chart
formed_chart : (version : Version) (bytes first second : List ℕ) (others : List (List ℕ)) (form : FormNumbers) (what : Told) (test : Bool)
    → lines_of bytes ≡ first ∷ second ∷ others → (IsTooLarge (lines_of bytes) → ⊥)
    → version_named first ≡ Some version → divided_form (tokens_of second) ≡ Some form → is_formed form ≡ test
    → cond test (with_form form (lines_from version form.lines 3 start others)) (Err (Unfit 2 TapeFault)) ≡ Ok what
    → IsWiringChart bytes what.form what.statements
formed_chart version bytes first second others form what true lines size begun formed test read =
    let is = form_told form (lines_from version form.lines 3 start others) what read in
    let said = reads_what_is_read version others form.lines 3 [] what.statements is.read_is in
    subst (λ (f : FormNumbers). IsWiringChart bytes f what.statements) is.form_is
    (record {
      reads = record {
        size = size;
        version = version;
        first = first;
        second = second;
        others = others;
        lines = lines;
        begun = named_is first version begun;
        formed = form_is second form formed;
        said = subst (λ (s : List Statement). SaysLines version others s) (sym said.is) said.says;
      };
      formed = formed_is form test;
      once = said.once (λ i j d below within. absurd (omega (arith, within)));
      fit = said.fit (λ k d within. absurd (omega (arith, within)));
      together = said.together (λ i j d before within. absurd (omega (arith, within)));
    })
formed_chart version bytes first second others form what false lines size begun formed test read = cc

headed_chart : (bytes first second : List ℕ) (others : List (List ℕ)) (what : Told) (named : Option Version) (form : Option FormNumbers)
    → lines_of bytes ≡ first ∷ second ∷ others → (IsTooLarge (lines_of bytes) → ⊥) → version_named first ≡ named
    → divided_form (tokens_of second) ≡ form → headed_lines named form others ≡ Ok what
    → IsWiringChart bytes what.form what.statements
headed_chart bytes first second others what (Some version) (Some form) lines size begun formed read =
    formed_chart version bytes first second others form what (is_formed form) lines size begun formed refl read
headed_chart bytes first second others what (Some version) None lines size begun formed read = cc
headed_chart bytes first second others what None form lines size begun formed read = cc

lines_chart : (bytes : List ℕ) (lines : List (List ℕ)) (what : Told) → lines_of bytes ≡ lines
    → (IsTooLarge (lines_of bytes) → ⊥) → lines_told lines ≡ Ok what → IsWiringChart bytes what.form what.statements
lines_chart bytes [] what same size read = cc
lines_chart bytes (first ∷ []) what same size read = cc
lines_chart bytes (first ∷ second ∷ others) what same size read =
    headed_chart bytes first second others what (version_named first) (divided_form (tokens_of second)) same size refl refl
    read

sized_chart : (bytes : List ℕ) (what : Told) (test : Bool) → is_large (lines_of bytes) ≡ test
    → cond test (Err TooLarge) (lines_told (lines_of bytes)) ≡ Ok what → IsWiringChart bytes what.form what.statements
sized_chart bytes what true size read = cc
sized_chart bytes what false size read = lines_chart bytes (lines_of bytes) what refl (not_large (lines_of bytes) size) read

pub chart_is : (bytes : List ℕ) (what : Told) → text_told bytes ≡ Ok what → IsWiringChart bytes what.form what.statements
unfolding text_told
chart_is bytes what read = sized_chart bytes what (is_large (lines_of bytes)) refl read

-- a wiring chart is told
pub chart_read : (bytes : List ℕ) (form : FormNumbers) (statements : List Statement) → IsWiringChart bytes form statements
    → text_told bytes ≡ Ok (record { form = form; statements = statements })
unfolding text_told
chart_read bytes form statements is =
    let r = is.reads in
    ap (λ b. cond b (failed TooLarge) (lines_told (lines_of bytes))) (small (lines_of bytes) r.size)
    ∙ ap lines_told r.lines
    ∙ ap (λ v. headed_lines v (divided_form (tokens_of r.second)) r.others) (named_read r.first r.version r.begun)
    ∙ ap (λ f. headed_lines (Some r.version) f r.others) (form_read r.second form r.formed)
    ∙ ap (λ t. cond t (with_form form (lines_from r.version form.lines 3 start r.others)) (Err (Unfit 2 TapeFault)))
    (formed_read form is.formed)
    ∙ ap (with_form form) (lines_read r.said form.lines 3 [] is.once is.together is.fit)
