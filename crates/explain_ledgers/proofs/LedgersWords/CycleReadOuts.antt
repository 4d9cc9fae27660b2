-- The counter groups that are read out along a run.
use Rattle.std.proofs.Common.{◌≡◌, ◌∙◌, sym, ap, subst, refl, ℕ, ◌+◌, ◌<◌, ltb, eqb, Bool, true, false, List, [], ◌∷◌, ◌++◌, length, set, get_or, arith}
use Rattle.std.proofs.lemmas.Bool.Decides.{nat_tests}
use Rattle.std.proofs.lemmas.List.{get_or-map, get_or-set_same, get_or-set_other, get_or_append_left, get_or_push, length-map, length-set, same_lists}
use Rattle.counters.specs.Counters.{Counter}
use Rattle.explain_wheels.specs.declared.runs.DeckRun.{DeckRun}
use Rattle.hubs.specs.SetupsWords.Wiring.{Wiring}
use Rattle.explain_ledgers.specs.LedgersWords.CycleReadOuts.{AreReadOuts, TellReadOuts, read_outs_of}
use Rattle.explain_ledgers.specs.declared.ledgers.read_outs.ReadOuts.{ReadOuts}
use Rattle.explain_wheels.proofs.RunsWords.DeckRuns.{StandsBehind}
use Rattle.explain_ledgers.proofs.LedgersWords.Summaries.{length-one}

-- of the first groups it is noted whether they are read out
pub record NotesTo (groups : List Counter) (place : ℕ) (read_outs : List Bool) : Type 0 where
  pub many : length read_outs ≡ 32
  pub each : (k : ℕ) (d : Bool) → k < place → get_or read_outs k d ≡ get_or (read_outs_of groups) k d

pub notes-more : (groups : List Counter) (place : ℕ) (old new : List Bool) (group : Counter) → place < 32 → length groups ≡ 32
    → group ≡ get_or groups place group → NotesTo groups place old → new ≡ set old place group.controls.read_out
    → NotesTo groups (place + 1) new
notes-more groups place old new group low long item notes written = record {
  many = ap length written ∙ length-set old place group.controls.read_out ∙ notes.many;
  each = λ k d less. ap (λ (l : List Bool). get_or l k d) written ∙ by k d less (eqb k place) refl;
}
  where
    by : (k : ℕ) (d : Bool) → k < place + 1 → (b : Bool) → eqb k place ≡ b
        → get_or (set old place group.controls.read_out) k d ≡ get_or (read_outs_of groups) k d
    by k d less true is =
        let same : k ≡ place = grind (arith, nat_tests, is) in
        let many = notes.many in
        ap (λ (n : ℕ). get_or (set old place group.controls.read_out) n d) same
        ∙ get_or-set_same old place group.controls.read_out d (omega (arith, low, many))
        ∙ ap (λ (g : Counter). g.controls.read_out) item
        ∙ sym (get_or-map (λ (g : Counter). g.controls.read_out) groups place group d (omega (arith, low, long)))
        ∙ ap (λ (n : ℕ). get_or (read_outs_of groups) n d) (sym same)
    by k d less false is =
        let lower : k < place = grind (arith, nat_tests, is, less) in
        get_or-set_other old place k group.controls.read_out d (omega (arith, lower)) ∙ notes.each k d lower

pub notes-all : (groups : List Counter) (place : ℕ) (read_outs : List Bool) → place ≡ 32 → length groups ≡ 32
    → NotesTo groups place read_outs → read_outs ≡ read_outs_of groups
notes-all groups place read_outs all long notes =
    let many = notes.many in
    same_lists read_outs (read_outs_of groups)
    (many ∙ sym long ∙ sym (length-map groups (λ (g : Counter). g.controls.read_out)))
    (λ k d low. notes.each k d (omega (arith, low, all, many)))

-- a run, and which groups are read out in the cycles so far
pub record ReadsTo (wiring : Wiring) (deck : List (List ℕ)) (passed : ℕ) (run : DeckRun) (all : List ReadOuts) : Type 0 where
  pub behind : StandsBehind wiring deck passed run
  pub many : length all ≡ passed
  pub told : TellReadOuts wiring deck all

-- one cycle more
pub tell-more : (wiring : Wiring) (deck : List (List ℕ)) (old new : List ReadOuts) (one : ReadOuts) → TellReadOuts wiring deck old
    → AreReadOuts wiring deck (length old) one → new ≡ old ++ one ∷ [] → TellReadOuts wiring deck new
tell-more wiring deck old new one told is put =
    subst (TellReadOuts wiring deck) (sym put) (λ passed other low. by passed other low (ltb passed (length old)) refl)
  where
    by : (passed : ℕ) (other : ReadOuts) → passed < length (old ++ one ∷ []) → (b : Bool) → ltb passed (length old) ≡ b
        → AreReadOuts wiring deck passed (get_or (old ++ one ∷ []) passed other)
    by passed other low true within =
        let less : passed < length old = grind (arith, nat_tests, within) in
        subst (AreReadOuts wiring deck passed) (sym (get_or_append_left old (one ∷ []) other passed less)) (told passed other less)
    by passed other low false past =
        let long = length-one old one in
        let same : length old ≡ passed = grind (arith, nat_tests, past, low, long) in
        subst (AreReadOuts wiring deck passed) (sym (get_or_push old one other passed same))
        (subst (λ (n : ℕ). AreReadOuts wiring deck n one) same is)
