-- Ledgers that are kept along a run.
use Rattle.std.proofs.Common.{◌≡◌, ◌∙◌, sym, ap, subst, refl, ℕ, ◌+◌, ◌^◌, ◌<◌, ◌≤◌, ltb, Bool, true, false, List, [], ◌∷◌, None, length, map, take, get_or, arith, if◌then◌else◌}
use Rattle.std.proofs.lemmas.Bool.Decides.{nat_tests}
use Rattle.std.proofs.lemmas.List.{get_or-map, length-map, map-id}
use Rattle.std.proofs.lemmas.List.Elements.{All-map, All-more, All-same, All-weaker}
use Rattle.std.proofs.lemmas.Simd.{map-map}
use Rattle.std.specs.List.{All}
use Rattle.std.specs.Ordering.{nat_cmp, ord_max}
use Rattle.counters.specs.Counters.{Counter}
use Rattle.machine.specs.Machine.{MachineState}
use Rattle.machine.specs.Runs.{cycle_due}
use Rattle.net.specs.declared.cycle.Cycle.{Cycle}
use Rattle.hubs.specs.SetupsWords.Wiring.{Wiring}
use Rattle.explain_ledgers.specs.LedgersWords.Accounts.{IsAccount, movement_of}
use Rattle.explain_ledgers.specs.LedgersWords.KeptLedgers.{CanTake, empty_ledger, kept_after}
use Rattle.explain_ledgers.specs.LedgersWords.Ledgers.{Along, ComesTo, Goes, IsLedger, along_after, along_at_start, begun, card_in, more}
use Rattle.explain_ledgers.specs.LedgersWords.Entries.{ledger_after}
use Rattle.explain_ledgers.specs.LedgersWords.Running.{HasCycle, IsKept, IsKeptLedger, asked_of}
use Rattle.explain_wheels.specs.RunsWords.{Ends, IsBegun, IsIn, along_of}
use Rattle.explain_wheels.specs.declared.runs.DeckRun.{DeckRun}
use Rattle.explain_ledgers.specs.LedgersWords.Summaries.{summary_after, summary_of}
use Rattle.explain_ledgers.specs.declared.ledgers.entry.Entry.{Entry}
use Rattle.explain_ledgers.specs.declared.ledgers.entry.Movement.{Movement}
use Rattle.explain_ledgers.specs.declared.ledgers.kept.AskedLedger.{AskedLedger}
use Rattle.explain_ledgers.specs.declared.ledgers.kept.KeptLedger.{KeptLedger}
use Rattle.explain_wheels.proofs.RunsWords.DeckRuns.{StandsBehind, behind-more, behind-none}
use Rattle.explain_ledgers.proofs.LedgersWords.Keeping.{left-out-few}
use Rattle.explain_ledgers.proofs.LedgersWords.Loops.{All-unmap}
use Rattle.explain_ledgers.proofs.LedgersWords.Places.{still-due}
use Rattle.explain_ledgers.proofs.LedgersWords.Summaries.{summary-after}

-- A ledger is kept up to a place of the run: it is told there, or at an earlier place if it was asked for before a cycle that is over.
pub record IsKeptTo (wiring : Wiring) (deck : List (List ℕ)) (ends : ℕ) (here : Along) (kept : KeptLedger) : Type 0 where
  pub at : Along
  pub before : here.passed ≤ kept.asked.passed → at ≡ here
  pub over : kept.asked.passed ≤ here.passed → at.passed ≡ kept.asked.passed
  pub entries : List Entry
  pub is : IsLedger wiring deck kept.asked.account at entries
  pub told_is : kept.ledger ≡ summary_of kept.asked.account ends entries

-- A run, and the ledgers that are kept up to there.
pub record KeepsAll (wiring : Wiring) (deck : List (List ℕ)) (ends : ℕ) (asked : List AskedLedger) (passed : ℕ) (run : DeckRun)
    (kept : List KeptLedger) : Type 0 where
  pub behind : StandsBehind wiring deck passed run
  pub same : map asked_of kept ≡ asked
  pub each : All (IsKeptTo wiring deck ends (along_of run)) kept

module _ (wiring : Wiring) (deck : List (List ℕ)) (ends : ℕ) where
  -- no entry yet
  nothing-yet : (here : Along) (one : AskedLedger) → here ≡ along_at_start wiring deck
      → IsKeptTo wiring deck ends here (empty_ledger ends one)
  nothing-yet here one at = record {
    at = along_at_start wiring deck;
    before = λ _. sym at;
    over = λ low. let start = ap (λ (a : Along). a.passed) at in omega (arith, low, start);
    entries = [];
    is = begun;
    told_is = refl;
  }

  pub keeps-begun : (asked : List AskedLedger) (run : DeckRun) (kept : List KeptLedger) → IsBegun wiring deck run
      → kept ≡ map (empty_ledger ends) asked → KeepsAll wiring deck ends asked 0 run kept
  keeps-begun asked run kept begins empty = record {
    behind = behind-none wiring deck run begins;
    same = ap (map asked_of) empty ∙ map-map asked_of (empty_ledger ends) asked ∙ map-id asked;
    each =
        All-same (IsKeptTo wiring deck ends (along_of run)) kept (map (empty_ledger ends) asked) empty
        (All-map (IsKeptTo wiring deck ends (along_of run)) (empty_ledger ends) asked
        (λ k d low. nothing-yet (along_of run) (get_or asked k d) begins.start));
  }

  -- one cycle more
  one-more : (here there : Along) (cycle : Cycle) (behind : MachineState) (kept : KeptLedger) → IsKeptTo wiring deck ends here kept
      → Goes wiring cycle here behind → along_after cycle behind here ≡ there
      → IsKeptTo wiring deck ends there (kept_after cycle (card_in cycle here.card) here.passed behind.groups kept)
  one-more here there cycle behind kept keeps goes same = by (ltb here.passed kept.asked.passed) refl
    where
      by : (b : Bool) → ltb here.passed kept.asked.passed ≡ b
          → IsKeptTo wiring deck ends there
          (record kept {
            ledger =
                if b
                then summary_after cycle (card_in cycle here.card) here.passed (movement_of behind.groups cycle kept.asked.account)
                kept.ledger
                else kept.ledger;
          })
      by true is =
          let moved : Movement = movement_of behind.groups cycle kept.asked.account in
          let low : here.passed < kept.asked.passed = grind (arith, nat_tests, is) in
          let next : here.passed + 1 ≡ there.passed = ap (λ (a : Along). a.passed) same in
          let ledger : IsLedger wiring deck kept.asked.account here keeps.entries =
          subst (λ (a : Along). IsLedger wiring deck kept.asked.account a keeps.entries) (keeps.before (omega (arith, low))) keeps.is in
          record {
            at = along_after cycle behind here;
            before = λ _. same;
            over = λ high. omega (arith, low, next, high);
            entries = ledger_after cycle (card_in cycle here.card) here.passed moved keeps.entries;
            is = more cycle here keeps.entries behind ledger goes;
            told_is =
                ap (summary_after cycle (card_in cycle here.card) here.passed moved) keeps.told_is
                ∙ summary-after kept.asked.account ends cycle (card_in cycle here.card) here.passed moved keeps.entries;
          }
      by false is =
          let high : kept.asked.passed ≤ here.passed = grind (arith, nat_tests, is) in
          let next : here.passed + 1 ≡ there.passed = ap (λ (a : Along). a.passed) same in
          record {
            at = keeps.at;
            before = λ low. absurd (omega (arith, high, next, low));
            over = λ _. keeps.over high;
            entries = keeps.entries;
            is = keeps.is;
            told_is = keeps.told_is;
          }

  pub keeps-more : (asked : List AskedLedger) (passed : ℕ) (cycle : Cycle) (run inside after : DeckRun) (groups : List Counter)
      (old new : List KeptLedger)
      → KeepsAll wiring deck ends asked passed run old
      → IsIn wiring deck cycle (along_of run) inside
      → Ends wiring deck cycle (along_of run) inside.machine.machine after
      → groups ≡ inside.machine.machine.groups
      → new ≡ map (kept_after cycle inside.card passed groups) old
      → KeepsAll wiring deck ends asked (passed + 1) after new
  keeps-more asked passed cycle run inside after groups old new keeps is left grouped taken = record {
    behind = behind-more wiring deck cycle passed run inside after keeps.behind left;
    same = ap (map asked_of) taken ∙ map-map asked_of (kept_after cycle inside.card passed groups) old ∙ keeps.same;
    each =
        All-same (IsKeptTo wiring deck ends (along_of after)) new
        (map (kept_after cycle (card_in cycle run.card) run.begun inside.machine.machine.groups) old)
        (taken
        ∙ ap (λ (n : ℕ). map (kept_after cycle n passed groups) old) is.card
        ∙ ap (λ (n : ℕ). map (kept_after cycle (card_in cycle run.card) n groups) old) (sym keeps.behind.counted)
        ∙ ap (λ (gs : List Counter). map (kept_after cycle (card_in cycle run.card) run.begun gs) old) grouped)
        (All-map (IsKeptTo wiring deck ends (along_of after))
        (kept_after cycle (card_in cycle run.card) run.begun inside.machine.machine.groups) old
        (λ k d low.
        one-more (along_of run) (along_of after) cycle inside.machine.machine (get_or old k d) (keeps.each k d low) is.goes
        left.along));
  }

  -- each can take a cycle
  within : (here : Along) (kept : KeptLedger) (keeps : IsKeptTo wiring deck ends here kept) → keeps.at.passed ≤ here.passed
  within here kept keeps = by (ltb kept.asked.passed here.passed) refl
    where
      by : (b : Bool) → ltb kept.asked.passed here.passed ≡ b → keeps.at.passed ≤ here.passed
      by true is =
          let low : kept.asked.passed < here.passed = grind (arith, nat_tests, is) in
          let over : keeps.at.passed ≡ kept.asked.passed = keeps.over (omega (arith, low)) in omega (arith, low, over)
      by false is =
          let high : here.passed ≤ kept.asked.passed = grind (arith, nat_tests, is) in
          let same : keeps.at.passed ≡ here.passed = ap (λ (a : Along). a.passed) (keeps.before high) in omega (arith, same)

  can-take : (here : Along) (kept : KeptLedger) → IsKeptTo wiring deck ends here kept → IsAccount kept.asked.account
      → here.passed + 1 < 2 ^ 64 → CanTake kept
  can-take here kept keeps account few = record {
    account = account;
    few =
        let less =
        left-out-few wiring deck kept.asked.account keeps.at keeps.entries ends kept.ledger keeps.is keeps.told_is in
        let here_at = within here kept keeps in omega (arith, less, here_at, few);
  }

  pub all-can : (asked : List AskedLedger) (passed : ℕ) (run : DeckRun) (kept : List KeptLedger)
      → KeepsAll wiring deck ends asked passed run kept → All (λ (one : AskedLedger). IsAccount one.account) asked
      → run.begun + 1 < 2 ^ 64 → All CanTake kept
  all-can asked passed run kept keeps accounts few = λ k d low.
      can-take (along_of run) (get_or kept k d) (keeps.each k d low)
      (All-unmap (λ (one : AskedLedger). IsAccount one.account) asked_of kept
      (subst (All (λ (one : AskedLedger). IsAccount one.account)) (sym keeps.same) accounts) k d low)
      few

  -- each is told, once its cycles are over
  pub all-kept : (asked : List AskedLedger) (passed : ℕ) (run : DeckRun) (kept : List KeptLedger)
      → KeepsAll wiring deck ends asked passed run kept → All (λ (one : AskedLedger). one.passed ≤ passed) asked
      → All (IsKept wiring deck ends) kept
  all-kept asked passed run kept keeps past = λ k d low.
      let one = keeps.each k d low in
      record {
        along = one.at;
        counted =
            one.over
            (subst (λ (n : ℕ). (get_or kept k d).asked.passed ≤ n) (sym keeps.behind.counted)
            (All-unmap (λ (one : AskedLedger). one.passed ≤ passed) asked_of kept
            (subst (All (λ (one : AskedLedger). one.passed ≤ passed)) (sym keeps.same) past) k d low));
        entries = one.entries;
        is = one.is;
        told_is = one.told_is;
      }

-- if no cycle is due any more, those that a run has are over
past-it : (wiring : Wiring) (deck : List (List ℕ)) (here : Along) (count : ℕ) → ComesTo wiring deck here → HasCycle wiring deck count
    → cycle_due here.run.machine ≡ None → count ≤ here.passed
past-it wiring deck here count comes has none = by (ltb here.passed count) refl
  where
    by : (b : Bool) → ltb here.passed count ≡ b → count ≤ here.passed
    by true is = absurd (still-due wiring deck here count comes has (grind (arith, nat_tests, is)) none)
    by false is = grind (arith, nat_tests, is)

pub all-past : (wiring : Wiring) (deck : List (List ℕ)) (asked : List AskedLedger) (here : Along) → ComesTo wiring deck here
    → All (λ (one : AskedLedger). HasCycle wiring deck one.passed) asked → cycle_due here.run.machine ≡ None
    → All (λ (one : AskedLedger). one.passed ≤ here.passed) asked
all-past wiring deck asked here comes has none = λ k d low. past-it wiring deck here (get_or asked k d).passed comes (has k d low) none

-- the one ledger that was asked for
pub only-kept : (wiring : Wiring) (deck : List (List ℕ)) (ends : ℕ) (asked : AskedLedger) (kept : List KeptLedger) (one : KeptLedger)
    → map asked_of kept ≡ asked ∷ [] → All (IsKept wiring deck ends) kept → one ≡ get_or kept 0 one
    → IsKeptLedger wiring deck asked.passed ends asked.account one.ledger
only-kept wiring deck ends asked kept one same all is =
    let many = sym (length-map kept asked_of) ∙ ap length same in
    let low : 0 < length kept = omega (arith, many) in
    let own : one.asked ≡ asked =
    ap asked_of is ∙ sym (get_or-map asked_of kept 0 one asked low) ∙ ap (λ (l : List AskedLedger). get_or l 0 asked) same in
    subst (λ (a : AskedLedger). IsKeptLedger wiring deck a.passed ends a.account one.ledger) own
    (subst (IsKept wiring deck ends) (sym is) (all 0 one low))

pub max-least : (a b m bound : ℕ) → m ≡ ord_max nat_cmp a b → a ≤ bound → b ≤ bound → m ≤ bound
max-least a b m bound is first second = grind (arith, nat_tests, is, first, second)

pub max-left : (a b m : ℕ) → m ≡ ord_max nat_cmp a b → a ≤ m
max-left a b m is = grind (arith, nat_tests, is)

pub max-right : (a b m : ℕ) → m ≡ ord_max nat_cmp a b → b ≤ m
max-right a b m is = grind (arith, nat_tests, is)

-- the last of the cycles up to which ledgers are told, with one more of them
pub last-more : (asked : List AskedLedger) (i last next : ℕ) (d : AskedLedger) → i < length asked
    → All (λ (one : AskedLedger). one.passed ≤ last) (take i asked) → last ≤ next → (get_or asked i d).passed ≤ next
    → All (λ (one : AskedLedger). one.passed ≤ next) (take (i + 1) asked)
last-more asked i last next d low before higher one =
    All-more (λ (a : AskedLedger). a.passed ≤ next) asked i d low
    (All-weaker (λ (a : AskedLedger). a.passed ≤ last) (λ (a : AskedLedger). a.passed ≤ next) (λ a less. omega (arith, less, higher))
    (take i asked) before)
    one
