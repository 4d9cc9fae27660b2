-- An emitter's rows, all at once: the sets of its twelve exits, which follow one another.
use Rattle.std.proofs.Common.{◌≡◌, ◌∙◌, refl, sym, ap, ℕ, ◌+◌, ◌-◌, ◌*◌, ◌<◌, ◌≤◌, ◌==◌, ◌&&◌, nat_le, Bool, true, false, inl, inr, ◌⊎◌, length, Option, Some, None, arith}
use Rattle.std.specs.List.{list_all, range_with_len}
use Rattle.std.proofs.lemmas.Bool.{cases_lt}
use Rattle.std.proofs.lemmas.Bool.Decides.{nat_tests}
use Rattle.std.proofs.lemmas.List.{get_or_past}
use Rattle.card_code.specs.Rows.{passing_place}
use Rattle.card_code.specs.declared.row.Row.{Row as CardRow}
use Rattle.card_code.specs.declared.row.Row.TheVariants as row
use Rattle.hubs.specs.HubTable.Places.{row_place}
use Rattle.hubs.specs.HubTable.Ranges.{is_within}
use Rattle.hubs.specs.Hubs.{number_of}
use Rattle.hubs.specs.declared.hub.Hub.{Hub}
use Rattle.hubs.specs.declared.hub.Hub.TheVariants.{EM}
use Rattle.net.specs.HubSets.{is_bit, is_same_number}
use Rattle.net.specs.HubRows.{has_at}
use Rattle.net.specs.RowSets.{is_in_sets, is_set_from}
use Rattle.print_unit.specs.Emitters.{emits_row}
use Rattle.print_unit.specs.declared.emitters.TheConstants.{ROW_SETS}
use Rattle.print_unit.proofs.Bits.{is_bit-zero}
use Rattle.print_unit.proofs.Figures.{answers-same, at-place, same_answer}

-- whether, of the twelve sets, that of one place alone has a row
is_alone : ℕ → ℕ → Bool
is_alone p place = list_all (λ j. same_answer (has_at ROW_SETS j p) (j == place)) (range_with_len 0 12)

-- the set of one place alone has a row
alone : (p place : ℕ) → place < 12 → is_alone p place ≡ true → (j : ℕ) → has_at ROW_SETS j p ≡ (j == place)
unfolding is_alone
alone p place low all j = by (cases_lt j 12)
  where
    by : (j < 12) ⊎ (12 ≤ j) → has_at ROW_SETS j p ≡ (j == place)
    by (inl below) = answers-same _ _ (at-place (λ k. same_answer (has_at ROW_SETS k p) (k == place)) 12 j all below)
    by (inr past) =
        let long : length ROW_SETS ≡ 12 = refl in
        ap (λ (w : ℕ). is_bit w p) (get_or_past ROW_SETS j 0 (omega (arith, past, long))) ∙ is_bit-zero p ∙ off
      where
        off : false ≡ (j == place)
        off = grind (arith, nat_tests, past, low)

-- the set of the hub with a number is that of one place where the number is that place's
placed : (first number place p m : ℕ) → number ≡ first + place → ((j : ℕ) → has_at ROW_SETS j p ≡ (j == place))
    → (nat_le first m && has_at ROW_SETS (m - first) p) ≡ (number == m)
placed first number place p m is has = ap (λ b. nat_le first m && b) (has (m - first)) ∙ by first number place m is
  where
    by : (first number place m : ℕ) → number ≡ first + place → (nat_le first m && (m - first == place)) ≡ (number == m)
    by first number place m is = grind (arith, nat_tests, is)

-- the number of an emitter's exit, by the place of its row
numbered : (emitter n place : ℕ) → row_place n ≡ Some (place + 1) → is_within emitter 8 ≡ true
    → number_of (EM emitter n) ≡ Some (928 + ((emitter - 1) * 12 + (place + 1)))
numbered emitter n place is_place is = rw (is, is_place) refl

-- an exit of the emitter has the row that it is for
exit-set : (emitter n place p : ℕ) (given : Option ℕ) → is_within emitter 8 ≡ true → place < 12 → row_place n ≡ Some (place + 1)
    → is_alone p place ≡ true
    → is_set_from (number_of (EM emitter 0)) ROW_SETS p given ≡ is_same_number (number_of (EM emitter n)) given
exit-set emitter n place p (Some m) is low is_place all =
    ap (λ (o : Option ℕ). is_set_from o ROW_SETS p (Some m)) (numbered emitter 0 0 refl is)
    ∙ placed (928 + ((emitter - 1) * 12 + (0 + 1))) (928 + ((emitter - 1) * 12 + (place + 1))) place p m (omega arith) (alone p place low all)
    ∙ sym (ap (λ (o : Option ℕ). is_same_number o (Some m)) (numbered emitter n place is_place is))
exit-set emitter n place p None is low is_place all =
    ap (λ (o : Option ℕ). is_set_from o ROW_SETS p None) (numbered emitter 0 0 refl is)
    ∙ sym (ap (λ (o : Option ℕ). is_same_number o None) (numbered emitter n place is_place is))

-- the sets of an emitter's exits
pub emitted-sets : (emitter : ℕ) (at : CardRow) (hub : Hub) → is_within emitter 8 ≡ true
    → is_in_sets (EM emitter 0) ROW_SETS (passing_place at) hub ≡ emits_row (Some emitter) at hub
unfolding is_alone is_bit same_answer
emitted-sets emitter row.Zero hub is = exit-set emitter 0 0 9 (number_of hub) is (omega arith) refl refl
emitted-sets emitter row.One hub is = exit-set emitter 1 1 8 (number_of hub) is (omega arith) refl refl
emitted-sets emitter row.Two hub is = exit-set emitter 2 2 7 (number_of hub) is (omega arith) refl refl
emitted-sets emitter row.Three hub is = exit-set emitter 3 3 6 (number_of hub) is (omega arith) refl refl
emitted-sets emitter row.Four hub is = exit-set emitter 4 4 5 (number_of hub) is (omega arith) refl refl
emitted-sets emitter row.Five hub is = exit-set emitter 5 5 4 (number_of hub) is (omega arith) refl refl
emitted-sets emitter row.Six hub is = exit-set emitter 6 6 3 (number_of hub) is (omega arith) refl refl
emitted-sets emitter row.Seven hub is = exit-set emitter 7 7 2 (number_of hub) is (omega arith) refl refl
emitted-sets emitter row.Eight hub is = exit-set emitter 8 8 1 (number_of hub) is (omega arith) refl refl
emitted-sets emitter row.Nine hub is = exit-set emitter 9 9 0 (number_of hub) is (omega arith) refl refl
emitted-sets emitter row.Eleven hub is = exit-set emitter 11 10 10 (number_of hub) is (omega arith) refl refl
emitted-sets emitter row.Twelve hub is = exit-set emitter 12 11 11 (number_of hub) is (omega arith) refl refl
