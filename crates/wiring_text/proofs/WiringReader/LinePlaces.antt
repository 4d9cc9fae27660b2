-- The lines of a text by their numbers: which of them are at fault, and what those before a line said.
use Rattle.std.proofs.Common.{◌≡◌, ◌⊎◌, ℕ, ◌+◌, ◌<◌, ◌≤◌, List, [], ◌∷◌, ◌++◌, length, get_or, Contains, ap, sym, ◌∙◌, subst, suc, inl, inr, arith}
use Rattle.std.proofs.lemmas.Bool.{cases_order}
use Rattle.hubs.specs.declared.setups.fault.SetupFault.{SetupFault}
use Rattle.wiring_text.specs.WiringReader.TextReading.{Content, content_of}
use Rattle.chart_lines.specs.TokensWords.Frame.{line_at, IsAfterEnd, IsNoLine}
use Rattle.wiring_text.specs.WiringFaults.{IsAfterForm, IsMisplaced, SaysAt, IsRepeated, IsUnfitLine, IsAtFault, misplaced, repeated, unfit, AreGoodBefore}
use Rattle.wiring_text.specs.WiringText.{IsEmptyLine, IsEndLine, SaysLine}
use Rattle.wiring_text.specs.declared.statement.FormNumbers.{FormNumbers}
use Rattle.chart_lines.specs.declared.tokens.frame.Content.TheVariants.{Empty, Says}
use Rattle.wiring_text.specs.declared.statement.Statement.{Statement}
use Rattle.wiring_text.proofs.WiringReader.LineGrammar.{is_content, said_read}
use Rattle.wiring_text.proofs.WiringReader.SameStatement.{pushed_cases, pushed_said}
use Rattle.wiring_text.specs.declared.statement.Version.{Version}

-- the lines of a text from a number on
pub record Stands (all : List (List ℕ)) (number : ℕ) (rest : List (List ℕ)) : Type 0 where
  pub from : 3 ≤ number
  pub size : number + length rest ≡ suc (length all)
  pub at : (k : ℕ) → k < length rest → get_or rest k [] ≡ line_at all (number + k)

-- one line on
pub next_stands : (all : List (List ℕ)) (number : ℕ) (line : List ℕ) (rest : List (List ℕ))
    → Stands all number (line ∷ rest) → Stands all (suc number) rest
next_stands all number line rest is = record {
  from = omega (arith, is.from);
  size = omega (arith, is.size);
  at = λ k within. is.at (suc k) (omega (arith, within)) ∙ ap (line_at all) (moved number k);
}
  where
    moved : (number k : ℕ) → number + suc k ≡ suc number + k
    moved number k = omega arith

-- the line that stands at a number
stands_here : (all : List (List ℕ)) (number : ℕ) (line : List ℕ) (rest : List (List ℕ))
    → Stands all number (line ∷ rest) → line ≡ line_at all number
stands_here all number line rest is = is.at 0 (omega arith) ∙ ap (line_at all) (none_more number)
  where
    none_more : (number : ℕ) → number + 0 ≡ number
    none_more number = omega arith

pub content_at : (version : Version) (all : List (List ℕ)) (number : ℕ) (line : List ℕ) (rest : List (List ℕ)) (content : Content)
    → Stands all number (line ∷ rest) → content_of version line ≡ content → content_of version (line_at all number) ≡ content
content_at version all number line rest content stands is = ap (content_of version) (sym (stands_here all number line rest stands)) ∙ is

pub there_at : (all : List (List ℕ)) (number : ℕ) (line : List ℕ) (rest : List (List ℕ)) → Stands all number (line ∷ rest)
    → IsAfterForm all number
there_at all number line rest stands = record { from = stands.from; to = omega (arith, stands.size) }

-- two contents of one line are the same
says_other : (version : Version) (all : List (List ℕ)) (number : ℕ) (content : Content) (s : Statement) → content_of version (line_at all number) ≡ content
    → SaysLine version (line_at all number) s → content ≡ Says s
says_other version all number content s here said = sym here ∙ said_read version (line_at all number) s said

pub same_said : (version : Version) (all : List (List ℕ)) (number : ℕ) (s t : Statement) → content_of version (line_at all number) ≡ Says s
    → SaysLine version (line_at all number) t → t ≡ s
same_said version all number s t here said = same (says_other version all number (Says s) t here said)
  where
    same : Says s ≡ Says t → t ≡ s
    same e = cc

-- no lower line is END
abbrev pub NoEndBelow : List (List ℕ) → ℕ → Type 0
NoEndBelow all number = (n : ℕ) → n < number → IsAfterForm all n → IsEndLine (line_at all n) → ⊥

-- one number more
below_more : (P : ℕ → Type 0) (number : ℕ) → ((n : ℕ) → n < number → P n → ⊥) → (P number → ⊥) → (n : ℕ) → n < suc number
    → P n → ⊥
below_more P number good here n below is = by_order (cases_order n number)
  where
    by_order : (n ≡ number) ⊎ ((n < number) ⊎ (number < n)) → ⊥
    by_order (inl same) = here (subst P same is)
    by_order (inr (inl lower)) = good n lower is
    by_order (inr (inr higher)) = absurd (omega (arith, below, higher))

pub good_more : (version : Version) (all : List (List ℕ)) (form : FormNumbers) (number : ℕ) → AreGoodBefore version all form number
    → (IsAtFault version all form number → ⊥) → AreGoodBefore version all form (suc number)
good_more version all form number good here = below_more (IsAtFault version all form) number good here

pub no_end_more : (all : List (List ℕ)) (number : ℕ) → NoEndBelow all number → (IsEndLine (line_at all number) → ⊥)
    → NoEndBelow all (suc number)
no_end_more all number no_end here n below there is_end =
    below_more (λ m. IsAfterForm all m × IsEndLine (line_at all m)) number (λ m lower p. no_end m lower p.0 p.1)
    (λ p. here p.1) n below (there, is_end)

-- a line that is neither misplaced, nor repeated, nor unfit is not at fault
pub not_at_fault : (version : Version) (all : List (List ℕ)) (form : FormNumbers) (number : ℕ) → 3 ≤ number → (IsMisplaced version all number → ⊥)
    → (IsRepeated version all number → ⊥) → ((fault : SetupFault) → IsUnfitLine version all form number fault → ⊥)
    → IsAtFault version all form number → ⊥
not_at_fault version all form number from placed new fit (misplaced is) = placed is
not_at_fault version all form number from placed new fit (repeated is) = new is
not_at_fault version all form number from placed new fit (unfit fault (inl is)) = absurd (omega (arith, from, is.second))
not_at_fault version all form number from placed new fit (unfit fault (inr is)) = fit fault is

-- a line that says nothing is at fault only where it is misplaced
pub unsaid_good : (version : Version) (all : List (List ℕ)) (form : FormNumbers) (number : ℕ) (content : Content) → 3 ≤ number
    → content_of version (line_at all number) ≡ content → ((s : Statement) → content ≡ Says s → ⊥) → (IsMisplaced version all number → ⊥)
    → IsAtFault version all form number → ⊥
unsaid_good version all form number content from here unsaid placed =
    not_at_fault version all form number from placed
    (λ is. unsaid is.statement (says_other version all number content is.statement here is.said.said))
    (λ fault is. unsaid is.statement (says_other version all number content is.statement here is.said.said))

-- an empty line is never misplaced
pub empty_placed : (version : Version) (all : List (List ℕ)) (number : ℕ) → content_of version (line_at all number) ≡ Empty → IsMisplaced version all number → ⊥
empty_placed version all number here is = by_cause is.cause
  where
    by_cause : IsNoLine (SaysLine version) (line_at all number) ⊎ (IsAfterEnd 3 all number × (IsEmptyLine (line_at all number) → ⊥)) → ⊥
    by_cause (inl none) = none.not_empty (is_content version (line_at all number) Empty here)
    by_cause (inr after) = after.1 (is_content version (line_at all number) Empty here)

-- a line before END is misplaced only where it says nothing
pub before_end_placed : (version : Version) (all : List (List ℕ)) (number : ℕ) → NoEndBelow all number → (IsNoLine (SaysLine version) (line_at all number) → ⊥)
    → IsMisplaced version all number → ⊥
before_end_placed version all number no_end a_line is = by_cause is.cause
  where
    by_cause : IsNoLine (SaysLine version) (line_at all number) ⊎ (IsAfterEnd 3 all number × (IsEmptyLine (line_at all number) → ⊥)) → ⊥
    by_cause (inl none) = a_line none
    by_cause (inr after) = no_end after.0.end after.0.before after.0.there after.0.is_end

-- no line after the last is at fault
pub all_good : (version : Version) (all : List (List ℕ)) (form : FormNumbers) (number : ℕ) → Stands all number [] → AreGoodBefore version all form number
    → (n : ℕ) → IsAtFault version all form n → ⊥
all_good version all form number stands good n is = good n (reached is) is
  where
    reached : IsAtFault version all form n → n < number
    reached (misplaced m) = omega (arith, stands.size, m.there.to)
    reached (repeated r) = omega (arith, stands.size, r.said.there.to)
    reached (unfit fault (inl f)) = omega (arith, stands.from, f.second)
    reached (unfit fault (inr l)) = omega (arith, stands.size, l.said.there.to)

-- what the lines below a number said
pub record SaidBelow (version : Version) (all : List (List ℕ)) (number : ℕ) (said : List Statement) : Type 0 where
  pub listed : (s : Statement) → Contains said s → (k : ℕ) × (k < number) × SaysAt version all k s
  pub found : (s : Statement) (k : ℕ) → k < number → SaysAt version all k s → Contains said s

pub said_nothing_more : (version : Version) (all : List (List ℕ)) (number : ℕ) (content : Content) (said : List Statement)
    → content_of version (line_at all number) ≡ content → ((s : Statement) → content ≡ Says s → ⊥) → SaidBelow version all number said
    → SaidBelow version all (suc number) said
said_nothing_more version all number content said here unsaid below = record {
  listed = λ s has. let p = below.listed s has in (p.0, omega (arith, p.1), p.2);
  found = λ s k within at. by_order s k within at (cases_order k number);
}
  where
    by_order : (s : Statement) (k : ℕ) → k < suc number → SaysAt version all k s → (k ≡ number) ⊎ ((k < number) ⊎ (number < k))
        → Contains said s
    by_order s k within at (inl same) =
        absurd (unsaid s (says_other version all number content s here (subst (λ (n : ℕ). SaysLine version (line_at all n) s) same at.said)))
    by_order s k within at (inr (inl lower)) = below.found s k lower at
    by_order s k within at (inr (inr higher)) = absurd (omega (arith, within, higher))

pub said_more : (version : Version) (all : List (List ℕ)) (number : ℕ) (s : Statement) (said : List Statement)
    → content_of version (line_at all number) ≡ Says s → SaysAt version all number s → SaidBelow version all number said
    → SaidBelow version all (suc number) (said ++ s ∷ [])
said_more version all number s said here at below = record {
  listed = λ t has. by_cause t (pushed_cases said s t has);
  found = λ t k within at'. pushed_said said s t (by_order t k within at' (cases_order k number));
}
  where
    by_cause : (t : Statement) → Contains said t ⊎ (t ≡ s) → (k : ℕ) × (k < suc number) × SaysAt version all k t
    by_cause t (inl has) = let p = below.listed t has in (p.0, omega (arith, p.1), p.2)
    by_cause t (inr same) = (number, omega arith, subst (SaysAt version all number) (sym same) at)

    by_order : (t : Statement) (k : ℕ) → k < suc number → SaysAt version all k t → (k ≡ number) ⊎ ((k < number) ⊎ (number < k))
        → Contains said t ⊎ (t ≡ s)
    by_order t k within at' (inl same) =
        inr (same_said version all number s t here (subst (λ (n : ℕ). SaysLine version (line_at all n) t) same at'.said))
    by_order t k within at' (inr (inl lower)) = inl (below.found t k lower at')
    by_order t k within at' (inr (inr higher)) = absurd (omega (arith, within, higher))
