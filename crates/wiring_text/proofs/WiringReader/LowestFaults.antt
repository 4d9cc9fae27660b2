-- The lowest line at fault is the one that is read, with its cause.
use Rattle.std.proofs.Common.{◌≡◌, ◌⊎◌, ℕ, ◌<◌, List, Result, Ok, Err, refl, ap, sym, ◌∙◌, subst, inl, inr}
use Rattle.std.proofs.lemmas.Bool.{cases_order}
use Rattle.std.proofs.lemmas.Option.{none-some, same_Some}
use Rattle.hubs.specs.SetupsWords.Tapes.{IsFormed}
use Rattle.hubs.specs.declared.setups.fault.SetupFault.{SetupFault}
use Rattle.chart_lines.specs.TokensWords.Frame.{line_at, LacksEnd}
use Rattle.wiring_text.specs.WiringFaults.{CannotHave, IsMisplaced, IsRepeated, IsUnfitLine, IsUnfit, IsAtFault, misplaced, repeated, unfit, AreGoodBefore}
use Rattle.wiring_text.specs.declared.statement.FormNumbers.{FormNumbers}
use Rattle.wiring_text.specs.declared.fault.WiringFault.{WiringFault}
use Rattle.wiring_text.specs.declared.fault.WiringFault.TheVariants.{TooLarge, NoFirstLine, NotALine, LineTwice, Unfit, NoEnd, Memory}
use Rattle.wiring_text.specs.declared.statement.Statement.{Statement}
use Rattle.wiring_text.proofs.WiringReader.LineGrammar.{said_read}
use Rattle.wiring_text.proofs.WiringReader.LineOutcomes.{Outcome}
use Rattle.wiring_text.proofs.WiringReader.LinePlaces.{same_said}
use Rattle.wiring_text.specs.declared.statement.Version.{Version}

abbrev read_fault : WiringFault → Result (List Statement) WiringFault
read_fault fault = Err fault

-- two lowest lines at fault are the same
same_number : (version : Version) (lines : List (List ℕ)) (form : FormNumbers) (m n : ℕ) → IsAtFault version lines form m → AreGoodBefore version lines form m
    → IsAtFault version lines form n → AreGoodBefore version lines form n → m ≡ n
same_number version lines form m n is good also well = by_order (cases_order m n)
  where
    by_order : (m ≡ n) ⊎ ((m < n) ⊎ (n < m)) → m ≡ n
    by_order (inl same) = same
    by_order (inr (inl lower)) = absurd (well m lower is)
    by_order (inr (inr lower)) = absurd (good n lower also)

-- what is read of lines whose form a tape can have
pub misplaced_read : (version : Version) (lines : List (List ℕ)) (form : FormNumbers) (n : ℕ) (read : Result (List Statement) WiringFault)
    → IsFormed form.lines form.first form.overflow → IsMisplaced version lines n → AreGoodBefore version lines form n → Outcome version lines form read
    → read ≡ Err (NotALine n)
misplaced_read version lines form n (Ok said) formed is good says = absurd (says.0 n (misplaced is))
misplaced_read version lines form n (Err (NotALine m)) formed is good says =
    ap (λ k. Err (NotALine k)) (same_number version lines form m n (misplaced says.0) says.1 (misplaced is) good)
misplaced_read version lines form n (Err (LineTwice m)) formed is good says =
    let same = same_number version lines form m n (repeated says.0) says.1 (misplaced is) good in
    absurd (says.0.said.placed (subst (IsMisplaced version lines) (sym same) is))
misplaced_read version lines form n (Err (Unfit m fault)) formed is good says = absurd (by_part says.0)
  where
    same : m ≡ n
    same = same_number version lines form m n (unfit fault says.0) says.1 (misplaced is) good

    by_part : IsUnfit version lines form m fault → ⊥
    by_part (inl f) = f.unfit formed
    by_part (inr l) = l.said.placed (subst (IsMisplaced version lines) (sym same) is)
misplaced_read version lines form n (Err NoEnd) formed is good says = absurd (says.0 n (misplaced is))
misplaced_read version lines form n (Err TooLarge) formed is good says = absurd says
misplaced_read version lines form n (Err NoFirstLine) formed is good says = absurd says
misplaced_read version lines form n (Err Memory) formed is good says = absurd says

pub repeated_read : (version : Version) (lines : List (List ℕ)) (form : FormNumbers) (n : ℕ) (read : Result (List Statement) WiringFault)
    → IsFormed form.lines form.first form.overflow → IsRepeated version lines n → AreGoodBefore version lines form n → Outcome version lines form read
    → read ≡ Err (LineTwice n)
repeated_read version lines form n (Ok said) formed is good says = absurd (says.0 n (repeated is))
repeated_read version lines form n (Err (NotALine m)) formed is good says =
    let same = same_number version lines form m n (misplaced says.0) says.1 (repeated is) good in
    absurd (is.said.placed (subst (IsMisplaced version lines) same says.0))
repeated_read version lines form n (Err (LineTwice m)) formed is good says =
    ap (λ k. Err (LineTwice k)) (same_number version lines form m n (repeated says.0) says.1 (repeated is) good)
repeated_read version lines form n (Err (Unfit m fault)) formed is good says = absurd (by_part says.0)
  where
    same : m ≡ n
    same = same_number version lines form m n (unfit fault says.0) says.1 (repeated is) good

    by_part : IsUnfit version lines form m fault → ⊥
    by_part (inl f) = f.unfit formed
    by_part (inr l) = l.new (subst (IsRepeated version lines) (sym same) is)
repeated_read version lines form n (Err NoEnd) formed is good says = absurd (says.0 n (repeated is))
repeated_read version lines form n (Err TooLarge) formed is good says = absurd says
repeated_read version lines form n (Err NoFirstLine) formed is good says = absurd says
repeated_read version lines form n (Err Memory) formed is good says = absurd says

-- a line is unfit for one cause
same_cause : (version : Version) (lines : List (List ℕ)) (form : FormNumbers) (n : ℕ) (f g : SetupFault) → IsUnfitLine version lines form n f
    → IsUnfitLine version lines form n g → f ≡ g
same_cause version lines form n f g is also =
    let same = same_said version lines n is.statement also.statement
    (said_read version (line_at lines n) is.statement is.said.said) also.said.said in
    by is.unfit (subst (λ (s : Statement). CannotHave version lines form n s g) same also.unfit)
  where
    by : CannotHave version lines form n is.statement f → CannotHave version lines form n is.statement g → f ≡ g
    by (inl e) (inl h) = same_Some f g (sym e ∙ h)
    by (inl e) (inr h) = absurd (none-some f (sym h.0 ∙ e))
    by (inr e) (inl h) = absurd (none-some g (sym e.0 ∙ h))
    by (inr e) (inr h) = e.1 ∙ sym h.1

pub unfit_read : (version : Version) (lines : List (List ℕ)) (form : FormNumbers) (n : ℕ) (fault : SetupFault) (read : Result (List Statement) WiringFault)
    → IsFormed form.lines form.first form.overflow → IsUnfitLine version lines form n fault → AreGoodBefore version lines form n
    → Outcome version lines form read → read ≡ Err (Unfit n fault)
unfit_read version lines form n fault (Ok said) formed is good says = absurd (says.0 n (unfit fault (inr is)))
unfit_read version lines form n fault (Err (NotALine m)) formed is good says =
    let same = same_number version lines form m n (misplaced says.0) says.1 (unfit fault (inr is)) good in
    absurd (is.said.placed (subst (IsMisplaced version lines) same says.0))
unfit_read version lines form n fault (Err (LineTwice m)) formed is good says =
    let same = same_number version lines form m n (repeated says.0) says.1 (unfit fault (inr is)) good in
    absurd (is.new (subst (IsRepeated version lines) same says.0))
unfit_read version lines form n fault (Err (Unfit m other)) formed is good says = by_part says.0
  where
    same : m ≡ n
    same = same_number version lines form m n (unfit other says.0) says.1 (unfit fault (inr is)) good

    by_part : IsUnfit version lines form m other → read_fault (Unfit m other) ≡ Err (Unfit n fault)
    by_part (inl f) = absurd (f.unfit formed)
    by_part (inr l) =
        ap (λ k. Err (Unfit k other)) same
        ∙ ap (λ f. Err (Unfit n f)) (same_cause version lines form n other fault
        (subst (λ (k : ℕ). IsUnfitLine version lines form k other) same l) is)
unfit_read version lines form n fault (Err NoEnd) formed is good says = absurd (says.0 n (unfit fault (inr is)))
unfit_read version lines form n fault (Err TooLarge) formed is good says = absurd says
unfit_read version lines form n fault (Err NoFirstLine) formed is good says = absurd says
unfit_read version lines form n fault (Err Memory) formed is good says = absurd says

pub no_end_read : (version : Version) (lines : List (List ℕ)) (form : FormNumbers) (read : Result (List Statement) WiringFault)
    → ((n : ℕ) → IsAtFault version lines form n → ⊥) → LacksEnd 3 lines → Outcome version lines form read → read ≡ Err NoEnd
no_end_read version lines form (Ok said) good lacks says = absurd (says.1 lacks)
no_end_read version lines form (Err (NotALine m)) good lacks says = absurd (good m (misplaced says.0))
no_end_read version lines form (Err (LineTwice m)) good lacks says = absurd (good m (repeated says.0))
no_end_read version lines form (Err (Unfit m fault)) good lacks says = absurd (good m (unfit fault says.0))
no_end_read version lines form (Err NoEnd) good lacks says = refl
no_end_read version lines form (Err TooLarge) good lacks says = absurd says
no_end_read version lines form (Err NoFirstLine) good lacks says = absurd says
no_end_read version lines form (Err Memory) good lacks says = absurd says
