-- Cycles that ask nothing, and the room for what the others ask.
use Rattle.std.proofs.Common.{◌≡◌, ◌∙◌, refl, sym, ap, ℕ, ◌^◌, ◌≤◌, ◌<◌, ◌==◌, Bool, true, false, ◌&&◌, if◌then◌else◌, arith}
use Rattle.std.proofs.lemmas.Bool.{false≢true, and_parts}
use Rattle.std.proofs.lemmas.Bool.Decides.{nat_tests}
use Rattle.proof_cycles.specs.TotalsWords.CounterCycles.Acts.{Act, Held, held_after, IsWithinGroup}
use Rattle.proof_cycles.specs.TotalsWords.CounterCycles.Acts.Act.{Still, Test, Turn, Show}
use Rattle.net.specs.declared.cycle.Ordinal.{Ordinal}
use Rattle.net.specs.declared.cycle.Ordinal.TheVariants.{First, Second, Third}
use Rattle.proof_cycles.specs.TotalsWords.Amounts.{Amount, Kind, HasGroups, IsSmall, lower, posted, act_of, total_act, state_after}
use Rattle.proof_cycles.specs.TotalsWords.Amounts.Kind.{Entry, Prog, Other}
use Rattle.proof_cycles.specs.TotalsWords.Laws.{EmptyLevelPasses, GroupsHaveRoom}
use Rattle.proof_cycles.proofs.TotalsWords.Levels.{lower_le}
use Rattle.proof_cycles.proofs.TotalsWords.Rooms.{digits_room, higher_room}

-- a cycle that is neither a card's nor a program cycle leaves what the totals hold
pub other_passes : (amount : Amount) (state : ℕ → Held) → state_after amount Other state ≡ state
other_passes amount state = λ i level. kept level i
  where
    kept : (level : ℕ) → state_after amount Other state level ≡ state level
    kept level = ap (λ act. held_after amount.is_signed (amount.width level) act (state level)) (by (amount.has level))
      where
        by : (b : Bool) → (if b then Still else Still) ≡ Still
        by true = refl
        by false = refl

-- at a level with a total, another level's program cycles ask nothing where that level has no total
still_total : (amount : Amount) (ended : ℕ) (order : Ordinal) (state : ℕ → Held) (level : ℕ) → amount.has ended ≡ false
    → (ended == level) ≡ false → total_act amount (Prog ended order) state level ≡ Still
still_total amount ended First state level none apart = by amount.is_signed (ended == level) apart
  where
    by : (s same : Bool) → same ≡ false → (if s && same then Test else Still) ≡ Still
    by true same apart = ap (λ b. if b then Test else Still) apart
    by false same apart = refl
still_total amount ended Second state level none apart = by amount.is_signed (ended == level) apart
  where
    by : (s same : Bool) → same ≡ false → (if s && (same && (state level).latch) then Turn else Still) ≡ Still
    by true same apart = ap (λ b. if b && (state level).latch then Turn else Still) apart
    by false same apart = refl
still_total amount ended Third state level none apart =
    ap (λ b. if b then Show else if amount.has ended && (lower amount.has level == ended)
    then posted (amount.is_signed && (state ended).latch) (state ended).number else Still) apart
    ∙ ap (λ b. if b && (lower amount.has level == ended)
    then posted (amount.is_signed && (state ended).latch) (state ended).number else Still) none

-- the program cycles of a level without a total ask nothing
still : (amount : Amount) (ended : ℕ) (order : Ordinal) (state : ℕ → Held) (level : ℕ) → amount.has ended ≡ false
    → act_of amount (Prog ended order) state level ≡ Still
still amount ended order state level none = by (amount.has level) refl
  where
    by : (b : Bool) → amount.has level ≡ b → (if b then total_act amount (Prog ended order) state level else Still) ≡ Still
    by false here = refl
    by true here = still_total amount ended order state level none (apart (ended == level) refl)
      where
        apart : (same : Bool) → (ended == level) ≡ same → same ≡ false
        apart false e = refl
        apart true e =
            let equal : ended ≡ level = grind (arith, nat_tests, e) in
            absurd (false≢true (sym none ∙ ap amount.has equal ∙ here))

pub empty_passes : EmptyLevelPasses
empty_passes amount ended order state none = λ i level. kept level i
  where
    kept : (level : ℕ) → state_after amount (Prog ended order) state level ≡ state level
    kept level =
        ap (λ act. held_after amount.is_signed (amount.width level) act (state level)) (still amount ended order state level none)

-- what is posted is within a group where its number is
within_posted : (width : ℕ) (is_negative : Bool) (number : ℕ) → number < 10 ^ width → IsWithinGroup width (posted is_negative number)
within_posted width true number few = few
within_posted width false number few = few

-- what is asked under a test is within a group, if it is where the test is true
within_if : (width : ℕ) (act : Act) (b : Bool) → (b ≡ true → IsWithinGroup width act) → IsWithinGroup width (if b then act else Still)
within_if width act true within = within refl
within_if width act false within = tt

-- what a total is asked in the third cycle of a level
within_third : (amount : Amount) (ended : ℕ) (state : ℕ → Held) → HasGroups amount → IsSmall amount (Prog ended Third) state
    → (level : ℕ) → amount.has level ≡ true → (same : Bool) → (ended == level) ≡ same
    → (next : Bool) → (amount.has ended && (lower amount.has level == ended)) ≡ next
    → IsWithinGroup (amount.width level)
    (if same then Show else if next then posted (amount.is_signed && (state ended).latch) (state ended).number else Still)
within_third amount ended state lawful small level here true same next e = tt
within_third amount ended state lawful small level here false same false e = tt
within_third amount ended state lawful small level here false same true e =
    let parts = and_parts (amount.has ended) (lower amount.has level == ended) e in
    let lowest = parts.1 in
    let equal : lower amount.has level ≡ ended = grind (arith, nat_tests, lowest) in
    let most = lower_le amount.has level in
    let less : ended < level = grind (arith, nat_tests, equal, most, same) in
    within_posted (amount.width level) (amount.is_signed && (state ended).latch) (state ended).number
    (higher_room amount lawful ended level (state ended).number small.0 less parts.0 here (small.1 parts.0))

-- what a total is asked
within : (amount : Amount) (kind : Kind) (state : ℕ → Held) → HasGroups amount → IsSmall amount kind state
    → (level : ℕ) → 1 ≤ level → amount.has level ≡ true → IsWithinGroup (amount.width level) (total_act amount kind state level)
within amount (Entry is_negated size) state lawful small level some here =
    within_if (amount.width level) (posted (amount.is_signed && is_negated) size) (lower amount.has level == 0)
    (λ lowest. within_posted (amount.width level) (amount.is_signed && is_negated) size
    (digits_room amount lawful level size some here (small.small level some here)))
within amount (Prog ended First) state lawful small level some here =
    within_if (amount.width level) Test (amount.is_signed && (ended == level)) (λ is. tt)
within amount (Prog ended Second) state lawful small level some here =
    within_if (amount.width level) Turn (amount.is_signed && ((ended == level) && (state level).latch)) (λ is. tt)
within amount (Prog ended Third) state lawful small level some here =
    within_third amount ended state lawful small level here (ended == level) refl
    (amount.has ended && (lower amount.has level == ended)) refl
within amount Other state lawful small level some here = tt

pub have_room : GroupsHaveRoom
have_room amount kind state lawful small level some =
    within_if (amount.width level) (total_act amount kind state level) (amount.has level)
    (λ here. within amount kind state lawful small level some here)
