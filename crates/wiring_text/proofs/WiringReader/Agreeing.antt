-- Statements that the panel can have together with others that are said.
use Rattle.std.proofs.Common.{◌≡◌, ◌∙◌, refl, sym, ap, ℕ, zero, suc, ◌<◌, ◌&&◌, ◌⊎◌, inl, inr, Bool, true, false, List, [], ◌∷◌, ◌++◌, length, get_or, Contains, AllPairs, Option, Some, None, arith, length-append}
use Rattle.std.proofs.lemmas.Bool.{and_from, and_parts, false≢true}
use Rattle.std.proofs.lemmas.List.{get_or_append_left}
use Rattle.std.proofs.Math.Seq.{get_or-append_seam}
use Rattle.std.proofs.lemmas.List.Quantifiers.{all_pairs_push}
use Rattle.std.proofs.lemmas.Option.{none-some, same_Some}
use Rattle.std.specs.List.{list_all}
use Rattle.hubs.specs.declared.setups.fault.SetupFault.{SetupFault}
use Rattle.hubs.specs.declared.setups.fault.SetupFault.TheVariants.{CarryRing}
use Rattle.wiring_text.specs.Statements.{do_statements_agree, statement_fault}
use Rattle.wiring_text.specs.declared.statement.Statement.{Statement}
use Rattle.wiring_text.specs.WiringReader.TextReading.{agrees_with, fault_said, fault_with}

-- a test of each thing of a list
all-at : {X : Type 0} (test : X → Bool) (xs : List X) (k : ℕ) (d : X) → list_all test xs ≡ true → k < length xs → test (get_or xs k d) ≡ true
all-at test [] k d all within = absurd (omega (arith, within))
all-at test (x ∷ xs) zero d all within = (and_parts (test x) (list_all test xs) all).0
all-at test (x ∷ xs) (suc k) d all within = all-at test xs k d (and_parts (test x) (list_all test xs) all).1 (omega (arith, within))

all-from : {X : Type 0} (test : X → Bool) (xs : List X) → ((x : X) → Contains xs x → test x ≡ true) → list_all test xs ≡ true
all-from test [] each = refl
all-from test (x ∷ xs) each =
    and_from (test x) (list_all test xs) (each x (0, omega arith, refl))
    (all-from test xs (λ y has. each y (suc has.0, omega (arith, has.1), has.2)))

-- one that fails it
apart-in : {X : Type 0} (test : X → Bool) (xs : List X) → list_all test xs ≡ false → (x : X) × Contains xs x × (test x ≡ false)
apart-in test [] none = absurd (false≢true (sym none))
apart-in test (x ∷ xs) none = by (test x) refl (apart-in test xs)
  where
    by : (b : Bool) → test x ≡ b → (list_all test xs ≡ false → (y : _) × Contains xs y × (test y ≡ false))
        → (y : _) × Contains (x ∷ xs) y × (test y ≡ false)
    by true e rest =
        let found = rest (ap (λ b. b && list_all test xs) (sym e) ∙ none) in
        (found.0, (suc found.1.0, omega (arith, found.1.1), found.1.2), found.2)
    by false e rest = (x, (0, omega arith, refl), e)

-- what agrees with all that are said
pub agrees-from : (said : List Statement) (s : Statement) → ((other : Statement) → Contains said other → do_statements_agree other s ≡ true)
    → agrees_with said s ≡ true
unfolding agrees_with
agrees-from said s each = all-from (λ other. do_statements_agree other s) said each

pub agrees-at : (said : List Statement) (s : Statement) (k : ℕ) (d : Statement) → agrees_with said s ≡ true → k < length said
    → do_statements_agree (get_or said k d) s ≡ true
unfolding agrees_with
agrees-at said s k d all within = all-at (λ other. do_statements_agree other s) said k d all within

pub agrees-each : (said : List Statement) (s other : Statement) → agrees_with said s ≡ true → Contains said other
    → do_statements_agree other s ≡ true
agrees-each said s other all has =
    ap (λ o. do_statements_agree o s) (sym has.2) ∙ agrees-at said s has.0 other all has.1

pub apart-from : (said : List Statement) (s : Statement) → agrees_with said s ≡ false
    → (other : Statement) × Contains said other × (do_statements_agree other s ≡ false)
unfolding agrees_with
apart-from said s none = apart-in (λ other. do_statements_agree other s) said none

-- statements that agree pairwise
abbrev pub AreTogether : List Statement → Type 0
AreTogether said = AllPairs (λ one other. do_statements_agree one other ≡ true) said

pub agrees-before : (said more : List Statement) (s : Statement) → AreTogether (said ++ s ∷ more) → agrees_with said s ≡ true
agrees-before said more s together =
    agrees-from said s (λ other has.
    ap (λ o. do_statements_agree o s) (sym (get_or_append_left said (s ∷ more) s has.0 has.1 ∙ any other has))
    ∙ ap (λ o. do_statements_agree (get_or (said ++ s ∷ more) has.0 s) o) (sym (get_or-append_seam said s more s))
    ∙ together has.0 (length said) s has.1 (omega (arith, length-append said (s ∷ more))))
  where
    any : (other : Statement) (has : Contains said other) → get_or said has.0 s ≡ other
    any other has = same said has.0 other s has.1 ∙ has.2
      where
        same : (xs : List Statement) (k : ℕ) (d e : Statement) → k < length xs → get_or xs k e ≡ get_or xs k d
        same [] k d e within = absurd (omega (arith, within))
        same (x ∷ xs) zero d e within = refl
        same (x ∷ xs) (suc k) d e within = same xs k d e (omega (arith, within))

pub together-more : (said : List Statement) (s : Statement) → AreTogether said → agrees_with said s ≡ true → AreTogether (said ++ s ∷ [])
together-more said s together agrees =
    all_pairs_push (λ one other. do_statements_agree one other ≡ true) said s together (λ k d within. agrees-at said s k d agrees within)

-- what is wrong with a statement, by itself or together with others
pub fault-none : (lines : ℕ) (said : List Statement) (s : Statement) → fault_said lines said s ≡ None
    → (statement_fault lines s ≡ None) × (agrees_with said s ≡ true)
fault-none lines said s = by (statement_fault lines s) (agrees_with said s)
  where
    by : (o : Option SetupFault) (b : Bool) → fault_with b o ≡ None → (o ≡ None) × (b ≡ true)
    by None true e = (refl, refl)
    by None false e = cc
    by (Some f) b e = cc

pub none-fault : (lines : ℕ) (said : List Statement) (s : Statement) → statement_fault lines s ≡ None → agrees_with said s ≡ true
    → fault_said lines said s ≡ None
none-fault lines said s fits agrees = λ i. fault_with (agrees i) (fits i)

pub some-fault : (lines : ℕ) (said : List Statement) (s : Statement) (fault : SetupFault) → statement_fault lines s ≡ Some fault
    → fault_said lines said s ≡ Some fault
some-fault lines said s fault unfit = ap (fault_with (agrees_with said s)) unfit

pub fault-some : (lines : ℕ) (said : List Statement) (s : Statement) (fault : SetupFault) → fault_said lines said s ≡ Some fault
    → (statement_fault lines s ≡ Some fault) ⊎ ((statement_fault lines s ≡ None) × (fault ≡ CarryRing) × (agrees_with said s ≡ false))
fault-some lines said s fault = by (statement_fault lines s) (agrees_with said s)
  where
    by : (o : Option SetupFault) (b : Bool) → fault_with b o ≡ Some fault
        → (o ≡ Some fault) ⊎ ((o ≡ None) × (fault ≡ CarryRing) × (b ≡ false))
    by (Some f) b e = inl e
    by None true e = absurd (none-some fault e)
    by None false e = inr (refl, sym (same_Some CarryRing fault e), refl)
