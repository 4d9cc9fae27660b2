-- What the answer on the lines after a form says of them.
use Rattle.std.proofs.Common.{◌≡◌, ℕ, ◌+◌, ◌-◌, ◌<◌, Bool, true, false, cond, List, [], ◌∷◌, ◌++◌, get_or, Option, Some, None, Result, Ok, Err, refl, ap, sym, ◌∙◌, subst, suc, inl, inr, arith}
use Rattle.hubs.specs.SetupsWords.Tapes.{IsFormed}
use Rattle.hubs.specs.declared.setups.fault.SetupFault.{SetupFault}
use Rattle.wiring_text.specs.WiringReader.Reading.{is_said}
use Rattle.wiring_text.specs.Statements.{statement_fault}
use Rattle.std.proofs.lemmas.Bool.{false≢true}
use Rattle.std.proofs.lemmas.Option.{none-some}
use Rattle.wiring_text.proofs.WiringReader.Agreeing.{agrees-each, apart-from, fault-none, fault-some}
use Rattle.wiring_text.specs.WiringReader.TextReading.{Content, agrees_with, content_of, fault_said, go_on, lines_from, new_said, step, start}
use Rattle.chart_lines.specs.TokensWords.Frame.{line_at, IsAfterEnd, LacksEnd}
use Rattle.wiring_text.specs.WiringFaults.{CannotHave, IsMisplaced, SaysAt, IsRepeated, IsUnfit, IsAtFault, misplaced, repeated, unfit, AreGoodBefore}
use Rattle.wiring_text.specs.WiringText.{IsEndLine}
use Rattle.wiring_text.specs.declared.statement.FormNumbers.{FormNumbers}
use Rattle.wiring_text.specs.declared.fault.WiringFault.{WiringFault}
use Rattle.wiring_text.specs.declared.fault.WiringFault.TheVariants.{TooLarge, NoFirstLine, NotALine, LineTwice, Unfit, NoEnd, Memory}
use Rattle.chart_lines.specs.declared.tokens.frame.Content.TheVariants.{Empty, End, Says, NoLine}
use Rattle.wiring_text.specs.declared.statement.Statement.{Statement}
use Rattle.wiring_text.proofs.WiringReader.LineGrammar.{is_content, empty_read, end_read}
use Rattle.wiring_text.proofs.WiringReader.LinesGrammar.{before_end, after_end}
use Rattle.wiring_text.proofs.WiringReader.LinePlaces.{Stands, next_stands, content_at, there_at, same_said, NoEndBelow, good_more, no_end_more, not_at_fault, unsaid_good, empty_placed, before_end_placed, all_good, SaidBelow, said_nothing_more, said_more}
use Rattle.wiring_text.proofs.WiringReader.SameStatement.{contains_said, none_contained}
use Rattle.wiring_text.specs.declared.statement.Version.{Version}

-- what an answer says of the lines of a text
abbrev pub Outcome : Version → List (List ℕ) → FormNumbers → Result (List Statement) WiringFault → Type 0
Outcome version all form (Ok said) = ((n : ℕ) → IsAtFault version all form n → ⊥) × (LacksEnd 3 all → ⊥)
Outcome version all form (Err (NotALine n)) = IsMisplaced version all n × AreGoodBefore version all form n
Outcome version all form (Err (LineTwice n)) = IsRepeated version all n × AreGoodBefore version all form n
Outcome version all form (Err (Unfit n fault)) = IsUnfit version all form n fault × AreGoodBefore version all form n
Outcome version all form (Err NoEnd) = ((n : ℕ) → IsAtFault version all form n → ⊥) × LacksEnd 3 all
Outcome version all form (Err TooLarge) = ⊥
Outcome version all form (Err NoFirstLine) = ⊥
Outcome version all form (Err Memory) = ⊥

-- a line after END that is not empty
misplaced_after : (version : Version) (all : List (List ℕ)) (form : FormNumbers) (number : ℕ) (line : List ℕ) (rest : List (List ℕ)) (content : Content)
    → Stands all number (line ∷ rest) → AreGoodBefore version all form number → IsAfterEnd 3 all number
    → content_of version (line_at all number) ≡ content → (content ≡ Empty → ⊥)
    → IsMisplaced version all number × AreGoodBefore version all form number
misplaced_after version all form number line rest content stands good after here filled = (
  record {
    there = there_at all number line rest stands;
    cause = inr (after, λ has. filled (sym here ∙ empty_read version (line_at all number) has));
  },
  good,
)

after_more : (all : List (List ℕ)) (number : ℕ) → IsAfterEnd 3 all number → IsAfterEnd 3 all (suc number)
after_more all number after = record {
  end = after.end;
  there = after.there;
  before = omega (arith, after.before);
  is_end = after.is_end;
}

unsaid_empty : (s : Statement) → Empty ≡ Says s → ⊥
unsaid_empty s e = cc

unsaid_end : (s : Statement) → End ≡ Says s → ⊥
unsaid_end s e = cc

ended_by : (version : Version) (all : List (List ℕ)) (form : FormNumbers) (number : ℕ) (said : List Statement) (line : List ℕ) (rest : List (List ℕ))
    (content : Content) → Stands all number (line ∷ rest) → AreGoodBefore version all form number → IsAfterEnd 3 all number
    → content_of version (line_at all number) ≡ content
    → (Stands all (suc number) rest → AreGoodBefore version all form (suc number) → IsAfterEnd 3 all (suc number)
    → Outcome version all form (lines_from version form.lines (suc number) (after_end said) rest))
    → Outcome version all form (go_on (step form.lines number (after_end said) content)
    (λ next. lines_from version form.lines (suc number) next rest))
ended_by version all form number said line rest Empty stands good after here others =
    others (next_stands all number line rest stands)
    (good_more version all form number good (unsaid_good version all form number Empty stands.from here unsaid_empty
    (empty_placed version all number here)))
    (after_more all number after)
ended_by version all form number said line rest End stands good after here others =
    misplaced_after version all form number line rest End stands good after here (λ e. cc)
ended_by version all form number said line rest (Says s) stands good after here others =
    misplaced_after version all form number line rest (Says s) stands good after here (λ e. cc)
ended_by version all form number said line rest NoLine stands good after here others =
    misplaced_after version all form number line rest NoLine stands good after here (λ e. cc)

-- the outcome after END
ended_outcome : (version : Version) (all : List (List ℕ)) (form : FormNumbers) (said : List Statement) (rest : List (List ℕ)) (number : ℕ)
    → Stands all number rest → AreGoodBefore version all form number → IsAfterEnd 3 all number
    → Outcome version all form (lines_from version form.lines number (after_end said) rest)
unfolding lines_from
ended_outcome version all form said [] number stands good after =
    (all_good version all form number stands good, λ lacks. lacks after.end after.there after.is_end)
ended_outcome version all form said (line ∷ rest) number stands good after =
    ended_by version all form number said line rest (content_of version line) stands good after
    (content_at version all number line rest (content_of version line) stands refl) (ended_outcome version all form said rest (suc number))

-- a statement before END
no_end_here : (version : Version) (all : List (List ℕ)) (number : ℕ) (content : Content) → content_of version (line_at all number) ≡ content
    → (End ≡ content → ⊥) → IsEndLine (line_at all number) → ⊥
no_end_here version all number content here other has = other (sym (end_read version (line_at all number) has) ∙ here)

says_at : (version : Version) (all : List (List ℕ)) (number : ℕ) (line : List ℕ) (rest : List (List ℕ)) (s : Statement)
    → Stands all number (line ∷ rest) → NoEndBelow all number → content_of version (line_at all number) ≡ Says s → SaysAt version all number s
says_at version all number line rest s stands no_end here =
    let says = is_content version (line_at all number) (Says s) here in
    record {
      there = there_at all number line rest stands;
      said = says;
      placed = before_end_placed version all number no_end (λ none. none.not_said s says);
    }

not_repeated : (version : Version) (all : List (List ℕ)) (number : ℕ) (s : Statement) (said : List Statement)
    → content_of version (line_at all number) ≡ Says s → is_said said s ≡ false → SaidBelow version all number said → IsRepeated version all number → ⊥
not_repeated version all number s said here new below is =
    let same = same_said version all number s is.statement here is.said.said in
    none_contained said s new (below.found s is.earlier is.before (subst (SaysAt version all is.earlier) same is.said_before))

cannot_have : (version : Version) (all : List (List ℕ)) (form : FormNumbers) (number : ℕ) (said : List Statement) (s : Statement) (f : SetupFault)
    → SaidBelow version all number said → fault_said form.lines said s ≡ Some f → CannotHave version all form number s f
cannot_have version all form number said s f below fault = elim (fault-some form.lines said s f fault) [
  | inl alone ↦ inl alone
  | inr apart ↦
      let found = apart-from said s apart.2 in
      let earlier = below.listed found.0 found.1 in
      inr (
        apart.0,
        apart.1,
        record {
          earlier = earlier.0;
          before = earlier.1;
          other = found.0;
          said_before = earlier.2;
          apart = found.2;
        },
      )
]

said_by : (version : Version) (all : List (List ℕ)) (form : FormNumbers) (number : ℕ) (said : List Statement) (line : List ℕ) (rest : List (List ℕ))
    (s : Statement) (test : Bool) (faults : Option SetupFault) → Stands all number (line ∷ rest) → AreGoodBefore version all form number
    → NoEndBelow all number → SaidBelow version all number said → content_of version (line_at all number) ≡ Says s → SaysAt version all number s
    → is_said said s ≡ test → fault_said form.lines said s ≡ faults
    → (Stands all (suc number) rest → AreGoodBefore version all form (suc number) → NoEndBelow all (suc number)
    → SaidBelow version all (suc number) (said ++ s ∷ [])
    → Outcome version all form (lines_from version form.lines (suc number) (before_end (said ++ s ∷ [])) rest))
    → Outcome version all form (go_on (cond test (Err (LineTwice number)) (new_said number said s faults))
    (λ next. lines_from version form.lines (suc number) next rest))
said_by version all form number said line rest s true faults stands good no_end below here at test fault others =
    let earlier = below.listed s (contains_said said s test) in
    (record { statement = s; said = at; earlier = earlier.0; before = earlier.1; said_before = earlier.2 }, good)
said_by version all form number said line rest s false (Some f) stands good no_end below here at test fault others = (
  inr (record {
    statement = s;
    said = at;
    new = not_repeated version all number s said here test below;
    unfit = cannot_have version all form number said s f below fault;
  }),
  good,
)
said_by version all form number said line rest s false None stands good no_end below here at test fault others =
    others (next_stands all number line rest stands)
    (good_more version all form number good (not_at_fault version all form number stands.from at.placed
    (not_repeated version all number s said here test below)
    (λ f is. clash f (subst (λ (t : Statement). CannotHave version all form number t f) (same_said version all number s is.statement here is.said.said) is.unfit))))
    (no_end_more all number no_end (no_end_here version all number (Says s) here (unsaid_end s)))
    (said_more version all number s said here at below)
  where
    none : (statement_fault form.lines s ≡ None) × (agrees_with said s ≡ true)
    none = fault-none form.lines said s fault

    clash : (f : SetupFault) → CannotHave version all form number s f → ⊥
    clash f (inl e) = none-some f (sym none.0 ∙ e)
    clash f (inr e) = false≢true (sym e.2.apart ∙ agrees-each said s e.2.other none.1 (below.found e.2.other e.2.earlier e.2.before e.2.said_before))

started_by : (version : Version) (all : List (List ℕ)) (form : FormNumbers) (number : ℕ) (said : List Statement) (line : List ℕ) (rest : List (List ℕ))
    (content : Content) → Stands all number (line ∷ rest) → AreGoodBefore version all form number → NoEndBelow all number
    → SaidBelow version all number said → content_of version (line_at all number) ≡ content
    → ((so : List Statement) → Stands all (suc number) rest → AreGoodBefore version all form (suc number)
    → NoEndBelow all (suc number) → SaidBelow version all (suc number) so
    → Outcome version all form (lines_from version form.lines (suc number) (before_end so) rest))
    → Outcome version all form (go_on (step form.lines number (before_end said) content)
    (λ next. lines_from version form.lines (suc number) next rest))
started_by version all form number said line rest Empty stands good no_end below here others =
    others said (next_stands all number line rest stands)
    (good_more version all form number good (unsaid_good version all form number Empty stands.from here unsaid_empty
    (empty_placed version all number here)))
    (no_end_more all number no_end (no_end_here version all number Empty here (λ e. cc)))
    (said_nothing_more version all number Empty said here unsaid_empty below)
started_by version all form number said line rest End stands good no_end below here others =
    let is_end = is_content version (line_at all number) End here in
    let after : IsAfterEnd 3 all (suc number) =
    record { end = number; there = there_at all number line rest stands; before = omega arith; is_end = is_end } in
    ended_outcome version all form said rest (suc number) (next_stands all number line rest stands)
    (good_more version all form number good (unsaid_good version all form number End stands.from here unsaid_end
    (before_end_placed version all number no_end (λ none. none.not_end is_end))))
    after
started_by version all form number said line rest (Says s) stands good no_end below here others =
    said_by version all form number said line rest s (is_said said s) (fault_said form.lines said s) stands good no_end below here
    (says_at version all number line rest s stands no_end here) refl refl (others (said ++ s ∷ []))
started_by version all form number said line rest NoLine stands good no_end below here others = (
  record {
    there = there_at all number line rest stands;
    cause = inl (is_content version (line_at all number) NoLine here);
  },
  good,
)

-- the outcome of lines without END so far
started_outcome : (version : Version) (all : List (List ℕ)) (form : FormNumbers) (rest : List (List ℕ)) (number : ℕ) (said : List Statement)
    → Stands all number rest → AreGoodBefore version all form number → NoEndBelow all number → SaidBelow version all number said
    → Outcome version all form (lines_from version form.lines number (before_end said) rest)
unfolding lines_from
started_outcome version all form [] number said stands good no_end below =
    (all_good version all form number stands good, λ n there is_end. no_end n (omega (arith, stands.size, there.to)) there is_end)
started_outcome version all form (line ∷ rest) number said stands good no_end below =
    started_by version all form number said line rest (content_of version line) stands good no_end below
    (content_at version all number line rest (content_of version line) stands refl)
    (λ so. started_outcome version all form rest (suc number) so)

-- the outcome of all lines
pub outcome : (version : Version) (first second : List ℕ) (others : List (List ℕ)) (form : FormNumbers)
    → IsFormed form.lines form.first form.overflow
    → Outcome version (first ∷ second ∷ others) form (lines_from version form.lines 3 start others)
outcome version first second others form formed =
    started_outcome version (first ∷ second ∷ others) form others 3 []
    (record { from = omega arith; size = omega arith; at = λ k within. ap (λ n. get_or (first ∷ second ∷ others) n []) (third k) })
    good
    (λ n below there is_end. absurd (omega (arith, below, there.from)))
    (record {
      listed = λ s has. absurd (omega (arith, has.1));
      found = λ s k below at. absurd (omega (arith, below, at.there.from));
    })
  where
    third : (k : ℕ) → suc (suc k) ≡ 3 + k - 1
    third k = omega arith

    good : (n : ℕ) → n < 3 → IsAtFault version (first ∷ second ∷ others) form n → ⊥
    good n below (misplaced is) = absurd (omega (arith, below, is.there.from))
    good n below (repeated is) = absurd (omega (arith, below, is.said.there.from))
    good n below (unfit fault (inl is)) = is.unfit formed
    good n below (unfit fault (inr is)) = absurd (omega (arith, below, is.said.there.from))
