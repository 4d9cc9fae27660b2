-- The latches of group indication after the cycles of a card: its card cycle resets them all, and the third cycle of a level sets that
-- level's latch.
use Rattle.std.proofs.Common.{◌≡◌, ◌∙◌, refl, ℕ, zero, suc, ◌≢◌, ◌+◌, ◌≤◌, ◌==◌, nat_le, Bool, true, false, arith, if◌then◌else◌}
use Rattle.std.proofs.lemmas.Bool.Decides.{nat_tests}
use Rattle.proof_cycles.specs.Below.net.Cycles.{level_number}
use Rattle.proof_cycles.specs.Below.net.declared.cycle.Cycle.TheVariants.{RunIn, Card, Prog, Head}
use Rattle.proof_cycles.specs.Below.net.declared.cycle.ProgramLevel.{ProgramLevel}
use Rattle.proof_cycles.specs.Below.net.declared.cycle.ProgramLevel.TheVariants.{Minor, Intermediate, Major, Final}
use Rattle.proof_cycles.specs.Below.net.declared.cycle.Ordinal.{Ordinal}
use Rattle.proof_cycles.specs.Below.net.declared.cycle.Ordinal.TheVariants.{First, Second, Third}
use Rattle.proof_cycles.specs.Below.selectors.Indicate.{Latches, indicate_at_start, indicate_ended}
use Rattle.proof_reports.specs.WiredPanels.PanelCycles.{AreSetTo}

-- the latches by their levels
by-levels : (minor intermediate major : Bool) (top level : ℕ) → 1 ≤ level → level ≤ 3 → minor ≡ nat_le 1 top
    → intermediate ≡ nat_le 2 top → major ≡ nat_le 3 top
    → (if level == 1 then minor else if level == 2 then intermediate else if level == 3 then major else false) ≡ nat_le level top
by-levels minor intermediate major top zero low high one two three = absurd (omega (arith, low))
by-levels minor intermediate major top (suc zero) low high one two three = one
by-levels minor intermediate major top (suc (suc zero)) low high one two three = two
by-levels minor intermediate major top (suc (suc (suc zero))) low high one two three = three
by-levels minor intermediate major top (suc (suc (suc (suc level)))) low high one two three = absurd (omega (arith, high))

-- A card cycle resets them all.
pub latches-card : (latches : Latches) → AreSetTo (indicate_ended latches Card) 0
latches-card latches = λ level low high. by-levels false false false 0 level low high refl refl refl

-- The third cycle of the level above those whose latches are set sets its own.
pub latches-third : (latches : Latches) (level : ProgramLevel) (below : ℕ) → AreSetTo latches below → level_number level ≡ below + 1
    → AreSetTo (indicate_ended latches (Prog level Third)) (below + 1)
latches-third latches level below set is = by level is
  where
    one : latches.minor ≡ nat_le 1 below
    one = set 1 (omega arith) (omega arith)

    two : latches.intermediate ≡ nat_le 2 below
    two = set 2 (omega arith) (omega arith)

    three : latches.major ≡ nat_le 3 below
    three = set 3 (omega arith) (omega arith)

    up : (n : ℕ) → n ≢ below + 1 → nat_le n below ≡ nat_le n (below + 1)
    up n other = grind (arith, nat_tests, other)

    own : (n : ℕ) → n ≡ below + 1 → true ≡ nat_le n (below + 1)
    own n same = grind (arith, nat_tests, same)

    by : (level : ProgramLevel) → level_number level ≡ below + 1 → AreSetTo (indicate_ended latches (Prog level Third)) (below + 1)
    by Minor is = λ n low high. by-levels true latches.intermediate latches.major (below + 1) n low high
        (own 1 is) (two ∙ up 2 (omega (arith, is))) (three ∙ up 3 (omega (arith, is)))
    by Intermediate is = λ n low high. by-levels latches.minor true latches.major (below + 1) n low high
        (one ∙ up 1 (omega (arith, is))) (own 2 is) (three ∙ up 3 (omega (arith, is)))
    by Major is = λ n low high. by-levels latches.minor latches.intermediate true (below + 1) n low high
        (one ∙ up 1 (omega (arith, is))) (two ∙ up 2 (omega (arith, is))) (own 3 is)
    by Final is = λ n low high. by-levels latches.minor latches.intermediate latches.major (below + 1) n low high
        (one ∙ up 1 (omega (arith, is))) (two ∙ up 2 (omega (arith, is))) (three ∙ up 3 (omega (arith, is)))

-- The first two cycles of a level leave them.
pub latches-left : (latches : Latches) (level : ProgramLevel) (top : ℕ) → AreSetTo latches top
    → AreSetTo (indicate_ended latches (Prog level First)) top × AreSetTo (indicate_ended latches (Prog level Second)) top
latches-left latches Minor top set = (set, set)
latches-left latches Intermediate top set = (set, set)
latches-left latches Major top set = (set, set)
latches-left latches Final top set = (set, set)

-- Heading cycles and the run-in leave them.
pub latches-heading : (latches : Latches) (heading : Ordinal) (top : ℕ) → AreSetTo latches top
    → AreSetTo (indicate_ended latches (Head heading)) top
latches-heading latches heading top set = set

pub latches-run_in : (latches : Latches) (top : ℕ) → AreSetTo latches top → AreSetTo (indicate_ended latches RunIn) top
latches-run_in latches top set = set

-- At the start they are all set.
pub latches-start : AreSetTo indicate_at_start 4
latches-start = λ level low high. by-levels true true true 4 level low high refl refl refl
