-- The balance latches that are kept are those of the groups: a latch changes only at the end of a cycle in which its group is under balance
-- test.
use Rattle.std.proofs.Common.{◌≡◌, ◌≢◌, ◌⊎◌, inl, inr, ℕ, zero, suc, ◌+◌, ◌<◌, ◌≤◌, Bool, false, not, ◌&&◌, List, [], ◌∷◌, map, length, get_or, slice_index_or, slice_set, if◌then◌else◌, refl, sym, ap, ◌∙◌, arith}
use Rattle.std.specs.Prelude.{◌==◌}
use Rattle.std.proofs.lemmas.Bool.{cases_eq}
use Rattle.std.proofs.lemmas.Bool.Decides.{nat_tests}
use Rattle.std.proofs.lemmas.List.{get_or-set_same, get_or-set_other, get_or_default, get_or_past, length-map, length-set, same_lists}
use Rattle.card_code.specs.Rows.{rows}
use Rattle.counters.specs.Counters.{Counter, counter_ended, counter_sensed, digits_ended, top_is_nine}
use Rattle.counters.proofs.RowsSensed.{rows-sensed}
use Rattle.hubs.specs.declared.hub.Hub.{Hub}
use Rattle.net.proofs.Below.machine_sets.BitSets.BitLemmas.{is_bit-zero}
use Rattle.net.specs.HubSets.{is_bit}
use Rattle.net.specs.RowSets.{after_rows}
use Rattle.net.specs.declared.cycle.Cycle.{Cycle}
use Rattle.net.specs.declared.cycle.Point.{Point}
use Rattle.machine.specs.Rest.{AreBusy, AreKeptBut, HaveNoMore}
use Rattle.machine.specs.Steady.{balance_latches}
use Rattle.machine.specs.declared.groups.Busy.{Busy}
use Rattle.machine.proofs.ClosedContacts.{latches-same, latches-steady}
use Rattle.machine.proofs.Marks.{IsTaken}
use Rattle.machine.proofs.Rest.{told-at, told-past}

-- no latch changes at a point
pub sensed-kept : (old new : List Counter) (latches : List Bool) (cycle : Cycle) (point : Point) (picture : Hub → Bool)
    → new ≡ map (λ group. counter_sensed group cycle point picture) old → latches ≡ balance_latches old → latches ≡ balance_latches new
sensed-kept old new latches cycle point picture is kept =
    kept
    ∙ sym (latches-steady old cycle point picture)
    ∙ ap balance_latches (sym is)

-- nor at the points of all rows
pub rows-kept : (old new : List Counter) (latches : List Bool) (cycle : Cycle) (pictures : Point → Hub → Bool)
    → new ≡ map (λ group. after_rows counter_sensed cycle pictures group) old → latches ≡ balance_latches old
    → latches ≡ balance_latches new
rows-kept old new latches cycle pictures is kept =
    kept
    ∙ sym
    (latches-same (λ group. after_rows counter_sensed cycle pictures group)
    (λ group. ap (λ (g : Counter). g.latch) (rows-sensed cycle pictures rows group)) old)
    ∙ ap balance_latches (sym is)

-- the bit of a place after those of the places before it
abbrev AreKeptFrom : ℕ → ℕ → List Counter → List Counter → Type 0
AreKeptFrom left k old new =
    (place : ℕ) → is_bit left (k + place) ≡ false
    → slice_index_or (balance_latches old) place false ≡ slice_index_or (balance_latches new) place false

ended-from : (busy : Busy) (k : ℕ) (groups : List Counter) (cycle : Cycle) → HaveNoMore busy k groups
    → AreKeptFrom busy.tested k groups (map (λ group. counter_ended group cycle) groups)
ended-from busy k [] cycle held place off = refl
ended-from busy k (group ∷ groups) cycle (here, others) zero off =
    let place : k + 0 ≡ k = omega arith in
    sym
    (ap (λ (test : Bool). if test then top_is_nine (digits_ended group) else group.latch)
    (here.untested (ap (is_bit busy.tested) (sym place) ∙ off)))
ended-from busy k (group ∷ groups) cycle (here, others) (suc place) off =
    let next : suc k + place ≡ k + suc place = omega arith in
    ended-from busy (suc k) groups cycle others place (ap (is_bit busy.tested) next ∙ off)

-- at the end of a cycle the latches are kept but for those of the groups that were under balance test
pub ended-kept : (busy : Busy) (old new : List Counter) (latches : List Bool) (cycle : Cycle)
    → new ≡ map (λ group. counter_ended group cycle) old → AreBusy busy old → latches ≡ balance_latches old
    → AreKeptBut busy.tested latches new
ended-kept busy old new latches cycle is held kept = record {
  whole =
      ap length kept ∙ length-map old (λ (group : Counter). group.latch)
      ∙ sym (ap length is ∙ length-map old (λ (group : Counter). counter_ended group cycle));
  others = λ place off.
      let first : 0 + place ≡ place = omega arith in
      ap (λ (ls : List Bool). slice_index_or ls place false) kept
      ∙ ended-from busy 0 old cycle held place (ap (is_bit busy.tested) first ∙ off)
      ∙ ap (λ (gs : List Counter). slice_index_or (balance_latches gs) place false) (sym is);
}

-- a bit that is lost, or another one
lost : (a : Bool) (j place : ℕ) → j ≢ place → (a && not (j == place)) ≡ false → a ≡ false
lost a j place other off = grind (arith, nat_tests, other, off)

-- one latch more is kept
pub kept-taken : (left less place : ℕ) (latches : List Bool) (groups : List Counter) (group default : Counter) → IsTaken left less place
    → place < length groups → get_or groups place default ≡ group → AreKeptBut left latches groups
    → AreKeptBut less (slice_set latches place group.latch) groups
kept-taken left less place latches groups group default taken within is kept = record {
  whole = length-set latches place group.latch ∙ kept.whole;
  others = λ k off. by k off (cases_eq k place);
}
  where
    by : (k : ℕ) → is_bit less k ≡ false → (k ≡ place) ⊎ (k ≢ place)
        → slice_index_or (slice_set latches place group.latch) k false ≡ slice_index_or (balance_latches groups) k false
    by k off (inl same) =
        ap (λ (j : ℕ). slice_index_or (slice_set latches place group.latch) j false) same
        ∙ get_or-set_same latches place group.latch false (omega (arith, within, kept.whole))
        ∙ sym (told-at (λ (g : Counter). g.latch) groups place group default within is)
        ∙ ap (λ (j : ℕ). slice_index_or (balance_latches groups) j false) (sym same)
    by k off (inr other) =
        get_or-set_other latches place k group.latch false other
        ∙ kept.others k (lost (is_bit left k) k place other (sym (taken k) ∙ off))

-- a bit that stands for no group
pub kept-past : (left less place : ℕ) (latches : List Bool) (groups : List Counter) → IsTaken left less place → length groups ≤ place
    → AreKeptBut left latches groups → AreKeptBut less latches groups
kept-past left less place latches groups taken past kept = record {
  whole = kept.whole;
  others = λ k off. by k off (cases_eq k place);
}
  where
    by : (k : ℕ) → is_bit less k ≡ false → (k ≡ place) ⊎ (k ≢ place)
        → slice_index_or latches k false ≡ slice_index_or (balance_latches groups) k false
    by k off (inl same) =
        get_or_past latches k false (omega (arith, past, kept.whole, same))
        ∙ sym (told-past (λ (g : Counter). g.latch) groups k (omega (arith, past, same)))
    by k off (inr other) = kept.others k (lost (is_bit left k) k place other (sym (taken k) ∙ off))

-- all are kept
pub kept-all : (left : ℕ) (latches : List Bool) (groups : List Counter) → left ≡ 0 → AreKeptBut left latches groups
    → latches ≡ balance_latches groups
kept-all left latches groups none kept =
    same_lists latches (balance_latches groups) (kept.whole ∙ sym (length-map groups (λ (g : Counter). g.latch))) at
  where
    at : (k : ℕ) (d : Bool) → k < length latches → get_or latches k d ≡ get_or (balance_latches groups) k d
    at k d within =
        let also : k < length (balance_latches groups) = omega (arith, within, kept.whole, length-map groups (λ (g : Counter). g.latch)) in
        get_or_default latches k d false within
        ∙ kept.others k (ap (λ (m : ℕ). is_bit m k) none ∙ is_bit-zero k)
        ∙ sym (get_or_default (balance_latches groups) k d false also)
