-- The totals of an amount and the sums of the report: a card is added to the sum of each level's unfinished group, and the end of a group
-- clears its own sum and those of the groups within it.
use Rattle.std.proofs.Common.{◌≡◌, ◌∙◌, refl, sym, ap, subst, ℕ, zero, suc, ◌+◌, ◌≤◌, ◌<◌, ◌^◌, nat_le, ℤ, pos, negsuc, neg_ℤ, ◌+ℤ◌, Bool, true, false, List, [], ◌∷◌, ◌++◌, if◌then◌else◌, arith, unsigned_abs}
use Rattle.std.specs.Int.{is_negative}
use Rattle.std.proofs.lemmas.Bool.Decides.{nat_tests}
use Rattle.std.proofs.lemmas.Int.{ints}
use Rattle.proof_cycles.specs.TotalsWords.CounterCycles.Acts.{Held}
use Rattle.report_definition.specs.Below.chart_lines.declared.charts.statement.Field.{Field}
use Rattle.proof_reports.specs.Below.net.declared.cycle.Ordinal.TheVariants.{First, Second, Third}
use Rattle.report_definition.specs.Amounts.{digits_on, is_negated, number_in, value_of}
use Rattle.report_definition.specs.Breaks.{cleared, taking}
use Rattle.report_definition.specs.Totals.{total_of}
use Rattle.proof_cycles.proofs.TotalsWords.Cards.{equal_sums, card_goes}
use Rattle.proof_cycles.proofs.TotalsWords.Figures.{not-negative}
use Rattle.proof_cycles.proofs.TotalsWords.GroupEnds.{total_shows, empty_ends}
use Rattle.proof_cycles.proofs.TotalsWords.Passing.{empty_passes}
use Rattle.proof_cycles.specs.TotalsWords.Amounts.{Amount, HasGroups, IsOnCard, state_after}
use Rattle.proof_cycles.specs.TotalsWords.Amounts.Kind.{Entry, Prog}
use Rattle.proof_cycles.specs.TotalsWords.Laws.{IsGroupEnd, ready}
use Rattle.proof_cycles.specs.TotalsWords.Standing.{StandsAll}
use Rattle.proof_cycles.specs.TotalsWords.Sums as sums
use Rattle.proof_reports.specs.PrintedReports.Content.{sums_of}

-- the total of cards and one more
total-more : (field : Field) (cards : List (List ℕ)) (card : List ℕ)
    → total_of field (cards ++ (card ∷ [])) ≡ total_of field cards +ℤ value_of field card
total-more field [] card = omega (arith, ints)
total-more field (first ∷ cards) card = let more = total-more field cards card in omega (arith, ints, more)

-- After a card no group has ended yet, and the card is added to each level's sum.
pub card_sums :
    (amount : Amount) (field : Field) (card : List ℕ) (so_far : ℕ → List (List ℕ)) (state : ℕ → Held)
    → HasGroups amount → IsOnCard amount (is_negated field.kind card) (number_in (digits_on field card))
    → StandsAll amount (sums_of field so_far) state
    → StandsAll amount (sums_of field (cleared 0 (taking card so_far)))
    (state_after amount (Entry (is_negated field.kind card) (number_in (digits_on field card))) state)
card_sums amount field card so_far state lawful on_card stands =
    let kind = Entry (is_negated field.kind card) (number_in (digits_on field card)) in
    equal_sums amount (sums.with_card (sums.signed (is_negated field.kind card) (number_in (digits_on field card))) (sums_of field so_far))
    (sums_of field (cleared 0 (taking card so_far))) (state_after amount kind state) same
    (card_goes amount (is_negated field.kind card) (number_in (digits_on field card)) (sums_of field so_far) state lawful on_card stands)
  where
    same : (level : ℕ) → 1 ≤ level
        → sums.with_card (sums.signed (is_negated field.kind card) (number_in (digits_on field card))) (sums_of field so_far) level
        ≡ sums_of field (cleared 0 (taking card so_far)) level
    same zero from = absurd (omega (arith, from))
    same (suc level) from =
        let none : nat_le (suc level) 0 ≡ false = grind (arith, nat_tests) in
        sym (total-more field (so_far (suc level)) card)
        ∙ ap (λ (b : Bool). total_of field (if b then [] else (so_far (suc level) ++ (card ∷ [])))) (sym none)

-- The group of a level ends: its sum fits, and isn't below 0 without a sign.
pub group_end :
    (amount : Amount) (field : Field) (groups : ℕ → List (List ℕ)) (k : ℕ)
    → unsigned_abs (total_of field (groups (suc k))) < 10 ^ amount.digits (suc k)
    → (amount.is_signed ≡ false → is_negative (total_of field (groups (suc k))) ≡ false)
    → IsGroupEnd amount (suc k) (sums_of field (cleared k groups))
group_end amount field groups k fits unsigned =
    let here : cleared k groups (suc k) ≡ groups (suc k) = not_yet in
    record {
      is_level = omega arith;
      lower_ended = λ level from below. ended level below;
      fits = subst (λ cards. unsigned_abs (total_of field cards) < 10 ^ amount.digits (suc k)) (sym here) (same_size (total_of field (groups (suc k))) fits);
      unsigned = λ none. ap (λ cards. is_negative (total_of field cards)) here ∙ unsigned none;
    }
  where
    not_yet : cleared k groups (suc k) ≡ groups (suc k)
    not_yet = let above : nat_le (suc k) k ≡ false = grind (arith, nat_tests) in ap (λ (b : Bool). if b then [] else groups (suc k)) above

    ended : (level : ℕ) → level < suc k → sums_of field (cleared k groups) level ≡ pos 0
    ended level below =
        let within : nat_le level k ≡ true = grind (arith, nat_tests, below) in
        ap (λ (b : Bool). total_of field (if b then [] else groups level)) within

    same_size : (n : ℤ) → unsigned_abs n < 10 ^ amount.digits (suc k) → unsigned_abs n < 10 ^ amount.digits (suc k)
    same_size n less = less

-- the sums once one more level has ended
cleared-more : (field : Field) (groups : ℕ → List (List ℕ)) (k level : ℕ)
    → sums.cleared (suc k) (sums_of field (cleared k groups)) level ≡ sums_of field (cleared (suc k) groups) level
cleared-more field groups k level = by (nat_le level (suc k)) (nat_le level k) refl refl
  where
    by : (a b : Bool) → nat_le level (suc k) ≡ a → nat_le level k ≡ b
        → (if a then pos 0 else total_of field (if b then [] else groups level)) ≡ total_of field (if a then [] else groups level)
    by true b is was = refl
    by false true is was = absurd (grind (arith, nat_tests, is, was))
    by false false is was = refl

-- After the three cycles of a level with a total the totals stand for the sums that are left.
pub shown_sums :
    (amount : Amount) (field : Field) (groups : ℕ → List (List ℕ)) (k : ℕ) (state : ℕ → Held)
    → HasGroups amount → amount.has (suc k) ≡ true → IsGroupEnd amount (suc k) (sums_of field (cleared k groups))
    → StandsAll amount (sums_of field (cleared k groups)) state
    → StandsAll amount (sums_of field (cleared (suc k) groups)) (state_after amount (Prog (suc k) Third) (ready amount (suc k) state))
shown_sums amount field groups k state lawful has end stands =
    let shown = total_shows amount (suc k) (sums_of field (cleared k groups)) state lawful has end stands in
    equal_sums amount (sums.cleared (suc k) (sums_of field (cleared k groups))) (sums_of field (cleared (suc k) groups))
    (state_after amount (Prog (suc k) Third) (ready amount (suc k) state)) (λ level from. cleared-more field groups k level) shown.after

-- The same where the level has no total: nothing changes.
passed_sums :
    (amount : Amount) (field : Field) (groups : ℕ → List (List ℕ)) (k : ℕ) (state : ℕ → Held)
    → amount.has (suc k) ≡ false → StandsAll amount (sums_of field (cleared k groups)) state
    → StandsAll amount (sums_of field (cleared (suc k) groups)) (state_after amount (Prog (suc k) Third) (ready amount (suc k) state))
passed_sums amount field groups k state has stands =
    let passes : (order : _) (s : ℕ → Held) → state_after amount (Prog (suc k) order) s ≡ s
    = λ order s. empty_passes amount (suc k) order s has in
    let same : state_after amount (Prog (suc k) Third) (ready amount (suc k) state) ≡ state
    = passes Third (ready amount (suc k) state) ∙ passes Second (state_after amount (Prog (suc k) First) state) ∙ passes First state in
    let ends = empty_ends amount (suc k) (sums_of field (cleared k groups)) state (omega arith) has
    (λ level from below. ended level below) stands in
    subst (λ s. StandsAll amount (sums_of field (cleared (suc k) groups)) s) (sym same)
    (equal_sums amount (sums.cleared (suc k) (sums_of field (cleared k groups))) (sums_of field (cleared (suc k) groups)) state
    (λ level from. cleared-more field groups k level) ends)
  where
    ended : (level : ℕ) → level < suc k → sums_of field (cleared k groups) level ≡ pos 0
    ended level below =
        let within : nat_le level k ≡ true = grind (arith, nat_tests, below) in
        ap (λ (b : Bool). total_of field (if b then [] else groups level)) within

-- After the three cycles of a level the totals stand for the sums that are left.
pub level_sums :
    (amount : Amount) (field : Field) (groups : ℕ → List (List ℕ)) (k : ℕ) (state : ℕ → Held)
    → HasGroups amount → (amount.has (suc k) ≡ true → IsGroupEnd amount (suc k) (sums_of field (cleared k groups)))
    → StandsAll amount (sums_of field (cleared k groups)) state
    → StandsAll amount (sums_of field (cleared (suc k) groups)) (state_after amount (Prog (suc k) Third) (ready amount (suc k) state))
level_sums amount field groups k state lawful end stands = by (amount.has (suc k)) refl
  where
    by : (b : Bool) → amount.has (suc k) ≡ b
        → StandsAll amount (sums_of field (cleared (suc k) groups)) (state_after amount (Prog (suc k) Third) (ready amount (suc k) state))
    by true has = shown_sums amount field groups k state lawful has (end has) stands
    by false has = passed_sums amount field groups k state has stands

-- an amount without a sign rule is never below 0
pub unsigned_total :
    (field : Field) (cards : List (List ℕ)) → ((card : List ℕ) → is_negated field.kind card ≡ false)
    → is_negative (total_of field cards) ≡ false
unsigned_total field [] never = refl
unsigned_total field (card ∷ cards) never =
    both (value_of field card) (total_of field cards) plain (unsigned_total field cards never)
  where
    plain : is_negative (value_of field card) ≡ false
    plain = ap (λ (b : Bool). is_negative (if b then neg_ℤ (pos (number_in (digits_on field card))) else pos (number_in (digits_on field card)))) (never card)
        ∙ not-negative (number_in (digits_on field card))

    both : (a b : ℤ) → is_negative a ≡ false → is_negative b ≡ false → is_negative (a +ℤ b) ≡ false
    both (pos m) (pos n) one other = not-negative (m + n)
    both (pos m) (negsuc n) one other = cc
    both (negsuc m) b one other = cc
