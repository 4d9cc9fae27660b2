-- The carries that leave the groups, as bits of a row: the carry exits of all groups follow one another.
use Rattle.std.proofs.Common.{◌≡◌, ℕ, zero, suc, ◌+◌, ◌-◌, Bool, true, false, not, ◌&&◌, ◌||◌, nat_le, List, [], ◌∷◌, Option, Some, None, option_map, get_or, refl, sym, ap, ◌∙◌, arith}
use Rattle.std.specs.Prelude.{◌==◌}
use Rattle.std.proofs.Math.Bool.{and-false, and-true, or-false}
use Rattle.std.proofs.lemmas.Bool.Decides.{nat_tests}
use Rattle.std.specs.List.{list_any}
use Rattle.counters.specs.Counters.{Counter, counter_emits, counter_number, wheels_in}
use Rattle.counters.specs.Wheels.{carries_out}
use Rattle.hubs.specs.Hubs.{number_of}
use Rattle.hubs.specs.HubTable.Places.{group_place}
use Rattle.hubs.specs.declared.hub.Hub.{Hub}
use Rattle.hubs.specs.declared.hub.Hub.TheVariants.{CO}
use Rattle.net.specs.HubSets.{is_bit, is_bit_from, is_in_row, is_same_number}
use Rattle.net.specs.Panel.{unit_after}
use Rattle.net.specs.declared.cycle.Cycle.{Cycle}
use Rattle.net.specs.declared.cycle.Point.TheVariants.{K}
use Rattle.machine.specs.Fields.{AreInUnitOrder}
use Rattle.machine.specs.Rest.{AreBusy, HaveNoMore, IsAtRest}
use Rattle.machine.specs.Steady.{carries_of}
use Rattle.machine.specs.declared.groups.Busy.{Busy}
use Rattle.machine.proofs.ClosedContacts.{AreFrom}
use Rattle.machine.proofs.Marks.{IsTaken}
use Rattle.machine.proofs.Rest.{first_group, from_third, rest-carries}

-- the number of the carry exit of the group at place k
exit_number : (k : ℕ) (group : Counter) → counter_number group ≡ 3 + k → number_of (CO group.name) ≡ Some (359 + k)
exit_number k group is = by (group_place group.name.width group.name.number) is where
  by : (place : Option ℕ) → unit_after 2 place ≡ 3 + k → option_map (λ p. 358 + p) place ≡ Some (359 + k)
  by None at = absurd (omega (arith, at))
  by (Some p) at = let number : 358 + p ≡ 359 + k = omega (arith, at) in ap (λ (n : ℕ). Some n) number

-- the carry of the first group, or that of one of the others
carry_here : (k m : ℕ) (carry : Bool) (carries : List Bool)
    → ((carry && (359 + k == m)) || (nat_le (359 + suc k) m && get_or carries (m - 359 - suc k) false))
    ≡ (nat_le (359 + k) m && get_or (carry ∷ carries) (m - 359 - k) false)
carry_here k m carry carries = by (359 + k == m) (nat_le (359 + suc k) m) refl refl where
  by : (same above : Bool) → (359 + k == m) ≡ same → nat_le (359 + suc k) m ≡ above
      → ((carry && same) || (above && get_or carries (m - 359 - suc k) false))
      ≡ (nat_le (359 + k) m && get_or (carry ∷ carries) (m - 359 - k) false)
  by true true is over = absurd (grind (arith, nat_tests))
  by true false is over =
      let here : m - 359 - k ≡ 0 = grind (arith, nat_tests) in
      let reached : nat_le (359 + k) m ≡ true = grind (arith, nat_tests) in
      rw (reached, here, and-true carry, or-false carry) refl
  by false true is over =
      let more : m - 359 - k ≡ suc (m - 359 - suc k) = grind (arith, nat_tests) in
      let reached : nat_le (359 + k) m ≡ true = grind (arith, nat_tests) in
      rw (reached, more, and-false carry) refl
  by false false is over =
      let reached : nat_le (359 + k) m ≡ false = grind (arith, nat_tests) in
      rw (reached, and-false carry) refl

-- what the groups from place k on emit at a hub that has a number
carries-from : (m n k : ℕ) (groups : List Counter) (cycle : Cycle) (hub : Hub) → n ≡ 3 + k → AreFrom n groups
    → number_of hub ≡ Some m
    → list_any (λ group. counter_emits group cycle K hub) groups
    ≡ (nat_le (359 + k) m && get_or (carries_of groups) (m - 359 - k) false)
carries-from m n k [] cycle hub up from numbered = sym (and-false (nat_le (359 + k) m))
carries-from m n k (group ∷ groups) cycle hub up (is, from) numbered =
    ap (λ (b : Bool). (carries_out (wheels_in group) false && b) || list_any (λ group. counter_emits group cycle K hub) groups)
    (ap (λ (o : Option ℕ). is_same_number o (number_of hub)) (exit_number k group (is ∙ up))
    ∙ ap (λ (o : Option ℕ). is_same_number (Some (359 + k)) o) numbered)
    ∙ ap (λ (b : Bool). (carries_out (wheels_in group) false && (359 + k == m)) || b)
    (carries-from m (suc n) (suc k) groups cycle hub (omega (arith, up)) from numbered)
    ∙ carry_here k m (carries_out (wheels_in group) false) (carries_of groups)

-- and at one that has none
carries-none : (n k : ℕ) (groups : List Counter) (cycle : Cycle) (hub : Hub) → n ≡ 3 + k → AreFrom n groups
    → number_of hub ≡ None → list_any (λ group. counter_emits group cycle K hub) groups ≡ false
carries-none n k [] cycle hub up from numbered = refl
carries-none n k (group ∷ groups) cycle hub up (is, from) numbered =
    ap (λ (b : Bool). (carries_out (wheels_in group) false && b) || list_any (λ group. counter_emits group cycle K hub) groups)
    (ap (λ (o : Option ℕ). is_same_number o (number_of hub)) (exit_number k group (is ∙ up))
    ∙ ap (λ (o : Option ℕ). is_same_number (Some (359 + k)) o) numbered)
    ∙ ap (λ (b : Bool). (carries_out (wheels_in group) false && false) || b)
    (carries-none (suc n) (suc k) groups cycle hub (omega (arith, up)) from numbered)
    ∙ ap (λ (b : Bool). b || false) (and-false (carries_out (wheels_in group) false))

-- the row of the carries that leave the groups is what these emit at the closing point
pub carries-row : (bits : ℕ) (groups : List Counter) (cycle : Cycle) (hub : Hub) → AreInUnitOrder groups
    → ((k : ℕ) → is_bit bits k ≡ get_or (carries_of groups) k false)
    → is_in_row (CO first_group) bits hub ≡ list_any (λ group. counter_emits group cycle K hub) groups
carries-row bits groups cycle hub ordered are = by (number_of hub) refl where
  by : (number : Option ℕ) → number_of hub ≡ number
      → is_bit_from (Some 359) bits number ≡ list_any (λ group. counter_emits group cycle K hub) groups
  by None is = sym (carries-none 3 0 groups cycle hub refl (from_third groups ordered) is)
  by (Some m) is =
      let first : m - 359 ≡ m - 359 - 0 = omega arith in
      ap (λ (b : Bool). nat_le 359 m && b) (are (m - 359))
      ∙ ap (λ (n : ℕ). nat_le 359 m && get_or (carries_of groups) n false) first
      ∙ sym (carries-from m 3 0 groups cycle hub refl (from_third groups ordered) is)

-- no carry leaves a group that is under no control
busy-from : (busy : Busy) (k : ℕ) (groups : List Counter) (place : ℕ) → HaveNoMore busy k groups
    → (is_bit busy.controlled (k + place) && get_or (carries_of groups) place false) ≡ get_or (carries_of groups) place false
busy-from busy k [] place held = and-false (is_bit busy.controlled (k + place))
busy-from busy k (group ∷ groups) zero (here, others) =
    let place : k + 0 ≡ k = omega arith in
    ap (λ (n : ℕ). is_bit busy.controlled n && carries_out (wheels_in group) false) place ∙ by (is_bit busy.controlled k) here.rest
  where
    by : (b : Bool) → (b ≡ false → IsAtRest group) → (b && carries_out (wheels_in group) false) ≡ carries_out (wheels_in group) false
    by true rest = refl
    by false rest = sym (rest-carries group here.lawful (rest refl))
busy-from busy k (group ∷ groups) (suc place) (here, others) =
    let next : k + suc place ≡ suc k + place = omega arith in
    ap (λ (n : ℕ). is_bit busy.controlled n && get_or (carries_of groups) place false) next ∙ busy-from busy (suc k) groups place others

pub busy-carries : (busy : Busy) (groups : List Counter) (k : ℕ) → AreBusy busy groups
    → (is_bit busy.controlled k && get_or (carries_of groups) k false) ≡ get_or (carries_of groups) k false
busy-carries busy groups k held =
    let from : k ≡ 0 + k = omega arith in
    ap (λ (n : ℕ). is_bit busy.controlled n && get_or (carries_of groups) k false) from ∙ busy-from busy 0 groups k held

-- one group more has told whether a carry leaves it
pub carry-more : (left less out new place k : ℕ) (carries : List Bool) (carry test : Bool) → IsTaken left less place
    → is_bit left place ≡ true → get_or carries place false ≡ carry → is_bit new k ≡ (is_bit out k || (carry && (k == place)))
    → (is_bit out k || (is_bit left k && get_or carries k false)) ≡ test
    → (is_bit new k || (is_bit less k && get_or carries k false)) ≡ test
carry-more left less out new place k carries carry test taken on is gained before =
    ap (λ (b : Bool). b || (is_bit less k && get_or carries k false)) gained
    ∙ ap (λ (b : Bool). (is_bit out k || (carry && (k == place))) || (b && get_or carries k false)) (taken k)
    ∙ by (k == place) refl
    ∙ before
  where
    equal : (one other : ℕ) → (one == other) ≡ true → one ≡ other
    equal one other e = grind (arith, nat_tests, e)

    other : (o c l x : Bool) → ((o || (c && false)) || ((l && true) && x)) ≡ (o || (l && x))
    other o c l x = grind (arith, nat_tests)

    same : (o c l x : Bool) → l ≡ true → x ≡ c → ((o || (c && true)) || ((l && false) && x)) ≡ (o || (l && x))
    same o c l x set told = grind (arith, nat_tests, set, told)

    by : (b : Bool) → (k == place) ≡ b
        → ((is_bit out k || (carry && b)) || ((is_bit left k && not b) && get_or carries k false))
        ≡ (is_bit out k || (is_bit left k && get_or carries k false))
    by true here =
        let at = equal k place here in
        same (is_bit out k) carry (is_bit left k) (get_or carries k false) (ap (is_bit left) at ∙ on)
        (ap (λ (p : ℕ). get_or carries p false) at ∙ is)
    by false here = other (is_bit out k) carry (is_bit left k) (get_or carries k false)

-- a mark past the last group tells nothing
pub carry-past : (left less out place k : ℕ) (carries : List Bool) (test : Bool) → IsTaken left less place
    → get_or carries place false ≡ false
    → (is_bit out k || (is_bit left k && get_or carries k false)) ≡ test
    → (is_bit out k || (is_bit less k && get_or carries k false)) ≡ test
carry-past left less out place k carries test taken none before =
    ap (λ (b : Bool). is_bit out k || (b && get_or carries k false)) (taken k)
    ∙ by (k == place) refl
    ∙ before
  where
    equal : (one other : ℕ) → (one == other) ≡ true → one ≡ other
    equal one other e = grind (arith, nat_tests, e)

    other : (o l x : Bool) → (o || ((l && true) && x)) ≡ (o || (l && x))
    other o l x = grind (arith, nat_tests)

    same : (o l x : Bool) → x ≡ false → (o || ((l && false) && x)) ≡ (o || (l && x))
    same o l x told = grind (arith, nat_tests, told)

    by : (b : Bool) → (k == place) ≡ b
        → (is_bit out k || ((is_bit left k && not b) && get_or carries k false))
        ≡ (is_bit out k || (is_bit left k && get_or carries k false))
    by true here =
        same (is_bit out k) (is_bit left k) (get_or carries k false)
        (ap (λ (p : ℕ). get_or carries p false) (equal k place here) ∙ none)
    by false here = other (is_bit out k) (is_bit left k) (get_or carries k false)
