-- Which carry wires can join those that are there.
use Rattle.std.proofs.Common.{◌≡◌, ◌∙◌, refl, sym, ap, subst, ℕ, ◌+◌, ◌<◌, ◌≤◌, ◌&&◌, ◌||◌, not, Bool, true, false, Option, Some, None, is_some, option_map, arith}
use Rattle.std.proofs.lemmas.Bool.{and_parts, false≢true}
use Rattle.std.proofs.lemmas.Option.{same_Some}
use Rattle.hubs.specs.HubTable.Places.{group_place}
use Rattle.hubs.proofs.HubLemmas.{number_of-kind}
use Rattle.hubs.specs.Carries.{are_alike, do_carries_agree, do_groups_agree, is_one_group, keeps_carry, may_carry}
use Rattle.hubs.specs.Hubs.{carry_into, carry_out_of, is_hub_in_range, number_of}
use Rattle.hubs.specs.declared.hub.Group.{Group}
use Rattle.hubs.specs.declared.hub.Hub.{Hub}
use Rattle.hubs.specs.declared.hub.Hub.TheVariants.{CI, CO}
use Rattle.hubs.specs.SetupsWords.CarryWires.{stands_beside, stands_with}
use Rattle.hubs.specs.SetupsWords.Wiring.{CanJoin, HasWire, KeepsCarries, Wiring, is_wired}
use Rattle.hubs.proofs.SetupsWords.CarryWires.{one-same}
use Rattle.hubs.proofs.SetupsWords.WiredLemmas.{HasWire-is_wired}

-- what a hub of a carry is
pub carry_out : (hub : Hub) (group : Group) → carry_out_of hub ≡ Some group → hub ≡ CO group
carry_out (CO name) group is = let same : name ≡ group = same_Some name group is in ap CO same
carry_out other group is = cc

pub carry_in : (hub : Hub) (group : Group) → carry_into hub ≡ Some group → hub ≡ CI group
carry_in (CI name) group is = let same : name ≡ group = same_Some name group is in ap CI same
carry_in other group is = cc

-- a carry wire agrees with one that is there and with which it stands
agree-there : (wiring : Wiring) (from to other next : Group) → stands_with wiring from to other next ≡ true
    → HasWire wiring (CO other) (CI next) → do_carries_agree from to other next ≡ true
agree-there wiring from to other next stands wire =
    by (is_wired wiring (CO other) (CI next)) (do_carries_agree from to other next) ((HasWire-is_wired wiring (CO other) (CI next)).1 wire) stands
  where
    by : (wired agree : Bool) → wired ≡ true → (not wired || agree) ≡ true → agree ≡ true
    by true agree is e = e
    by false agree is e = absurd (false≢true is)

-- a wire that has no group in common with another one agrees with it
apart-agree : (a b c d : Bool) → a ≡ false → b ≡ false → c ≡ false → d ≡ false → (are_alike a b && are_alike c d) ≡ true
apart-agree true b c d e f g h = absurd (false≢true (sym e))
apart-agree false true c d e f g h = absurd (false≢true (sym f))
apart-agree false false true d e f g h = absurd (false≢true (sym g))
apart-agree false false false true e f g h = absurd (false≢true (sym h))
apart-agree false false false false e f g h = refl

module _ (wiring : Wiring) (from to : Group)
    (beside : (group : Group) → is_hub_in_range (CO group) ≡ true → stands_beside wiring from to group ≡ true) where
  -- with each group, the four wires that lead between it and one of the two
  record Four (group : Group) : Type 0 where
    leaves_from : stands_with wiring from to from group ≡ true
    enters_to : stands_with wiring from to group to ≡ true
    leaves_to : stands_with wiring from to to group ≡ true
    enters_from : stands_with wiring from to group from ≡ true

  four : (group : Group) → is_hub_in_range (CO group) ≡ true → Four group
  four group there =
      let all = and_parts (stands_with wiring from to from group) _ (beside group there) in
      let others = and_parts (stands_with wiring from to group to) _ all.1 in
      let last = and_parts (stands_with wiring from to to group) (stands_with wiring from to group from) others.1 in
      record { leaves_from = all.0; enters_to = others.0; leaves_to = last.0; enters_from = last.1 }

  -- so the wire agrees with each carry wire
  with-each : (other next : Group) → HasWire wiring (CO other) (CI next) → do_carries_agree from to other next ≡ true
  with-each other next wire =
      by (is_one_group from other) (is_one_group to next) (is_one_group to other) (is_one_group from next) refl refl refl refl
    where
      exit_there : is_hub_in_range (CO other) ≡ true
      exit_there = ap is_some wire.numbered

      -- an entry that is there has an exit
      entry_there : is_hub_in_range (CO next) ≡ true
      entry_there = place (group_place next.width next.number) (ap is_some wire.entry_numbered)
        where
          place : (found : Option ℕ) → is_some (option_map (λ p. 1396 + p) found) ≡ true → is_some (option_map (λ p. 358 + p) found) ≡ true
          place (Some p) there = refl
          place None there = cc

      by : (a b c d : Bool) → is_one_group from other ≡ a → is_one_group to next ≡ b → is_one_group to other ≡ c
          → is_one_group from next ≡ d → do_carries_agree from to other next ≡ true
      by true b c d e f g h =
          let same = one-same from other e in
          subst (λ (o : Group). do_carries_agree from to o next ≡ true) same
          (agree-there wiring from to from next (four next entry_there).leaves_from
          (subst (λ (o : Group). HasWire wiring (CO o) (CI next)) (sym same) wire))
      by false true c d e f g h =
          let same = one-same to next f in
          subst (λ (n : Group). do_carries_agree from to other n ≡ true) same
          (agree-there wiring from to other to (four other exit_there).enters_to
          (subst (λ (n : Group). HasWire wiring (CO other) (CI n)) (sym same) wire))
      by false false true d e f g h =
          let same = one-same to other g in
          subst (λ (o : Group). do_carries_agree from to o next ≡ true) same
          (agree-there wiring from to to next (four next entry_there).leaves_to
          (subst (λ (o : Group). HasWire wiring (CO o) (CI next)) (sym same) wire))
      by false false false true e f g h =
          let same = one-same from next h in
          subst (λ (n : Group). do_carries_agree from to other n ≡ true) same
          (agree-there wiring from to other from (four other exit_there).enters_from
          (subst (λ (n : Group). HasWire wiring (CO other) (CI n)) (sym same) wire))
      by false false false false e f g h = apart-agree _ _ _ _ e f g h

-- a carry wire between two groups can join where it stands beside all groups
pub can-join : (wiring : Wiring) (exit entry : Hub) (from to : Group) → carry_out_of exit ≡ Some from → carry_into entry ≡ Some to
    → may_carry (Some from) (Some to) ≡ true
    → ((group : Group) → is_hub_in_range (CO group) ≡ true → stands_beside wiring from to group ≡ true) → CanJoin wiring exit entry
can-join wiring exit entry from to is also may beside = record {
  alone = (λ i. may_carry (is i) (also i)) ∙ may;
  together = λ other next wire.
      (λ i. do_groups_agree (is i) (also i) (carry_out_of other) (carry_into next))
      ∙ by other next wire (carry_out_of other) (carry_into next) refl refl;
}
  where
    by : (other next : Hub) → HasWire wiring other next → (o n : Option Group) → carry_out_of other ≡ o → carry_into next ≡ n
        → do_groups_agree (Some from) (Some to) (carry_out_of other) (carry_into next) ≡ true
    by other next wire (Some o) (Some n) e f =
        (λ i. do_groups_agree (Some from) (Some to) (e i) (f i))
        ∙ with-each wiring from to beside o n
        (subst (λ (h : Hub). HasWire wiring (CO o) h) (carry_in next n f)
        (subst (λ (h : Hub). HasWire wiring h next) (carry_out other o e) wire))
    by other next wire (Some o) None e f = λ i. do_groups_agree (Some from) (Some to) (e i) (f i)
    by other next wire None n e f = λ i. do_groups_agree (Some from) (Some to) (e i) (carry_into next)

-- it can't where it doesn't stand beside one
pub can't-join : (wiring : Wiring) (exit entry : Hub) (from to group : Group) → carry_out_of exit ≡ Some from → carry_into entry ≡ Some to
    → stands_beside wiring from to group ≡ false → ¬ CanJoin wiring exit entry
can't-join wiring exit entry from to group is also off join =
    false≢true (sym off ∙ all)
  where
    stands : (other next : Group) → stands_with wiring from to other next ≡ true
    stands other next = by (is_wired wiring (CO other) (CI next)) refl
      where
        by : (wired : Bool) → is_wired wiring (CO other) (CI next) ≡ wired → stands_with wiring from to other next ≡ true
        by true e =
            (λ i. not (e i) || do_carries_agree from to other next)
            ∙ sym (λ i. do_groups_agree (is i) (also i) (Some other) (Some next))
            ∙ join.together (CO other) (CI next) ((HasWire-is_wired wiring (CO other) (CI next)).0 e)
        by false e = λ i. not (e i) || do_carries_agree from to other next

    all : stands_beside wiring from to group ≡ true
    all = λ i. stands from group i && (stands group to i && (stands to group i && stands group from i))

-- wires that are no carry's join
pub no-carry-joins : (wiring : Wiring) (exit entry : Hub) → carry_out_of exit ≡ None → carry_into entry ≡ None → CanJoin wiring exit entry
no-carry-joins wiring exit entry is also = record {
  alone = λ i. may_carry (is i) (also i);
  together = λ other next wire. λ i. do_groups_agree (is i) (carry_into entry) (carry_out_of other) (carry_into next);
}

-- a wire that breaks the rule alone doesn't
pub alone-refused : (wiring : Wiring) (exit entry : Hub) → keeps_carry exit entry ≡ false → ¬ CanJoin wiring exit entry
alone-refused wiring exit entry off join = false≢true (sym off ∙ join.alone)

-- a wire that is there can join
pub there-joins : (wiring : Wiring) (exit entry : Hub) → KeepsCarries wiring → HasWire wiring exit entry → CanJoin wiring exit entry
there-joins wiring exit entry keeps wire = record {
  alone = keeps.alone exit entry wire;
  together = λ other next also. keeps.together exit entry other next wire also;
}

-- the numbers of the carry exits
pub carry_number : (group : Group) (number : ℕ) → number_of (CO group) ≡ Some number → (359 ≤ number) × (number < 391)
carry_number group number is =
    let kind = number_of-kind (CO group) number is in (omega (arith, kind.0), omega (arith, kind.1))

pub carry_numbered : (group : Group) → is_hub_in_range (CO group) ≡ true → (number : ℕ) × (number_of (CO group) ≡ Some number)
carry_numbered group there = by (number_of (CO group)) there
  where
    by : (found : Option ℕ) → is_some found ≡ true → (number : ℕ) × (found ≡ Some number)
    by (Some n) there = (n, refl)
    by None there = absurd (false≢true there)
