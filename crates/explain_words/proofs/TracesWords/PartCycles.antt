-- A part of a trace takes up a cycle.
use Rattle.std.proofs.Common.{◌≡◌, ◌∙◌, sym, ap, refl, arith, Bool, true, false, ℕ, ◌+◌, ◌<◌, ◌≤◌, List, [], ◌∷◌, ◌++◌, append-nil, length, take}
use Rattle.std.specs.Prelude.{if◌then◌else◌, ◌&&◌, nat_le, nat_lt}
use Rattle.std.specs.List.{filter, flat_map}
use Rattle.std.proofs.lemmas.Bool.{leb-false, leb-true, le-leb, lt-leb, lt-ltb, ltb-true}
use Rattle.std.proofs.lemmas.Grind.{flat_map-append}
use Rattle.std.proofs.lemmas.List.{length-append, length-take-le, take-append-le, take_all}
use Rattle.std.proofs.lemmas.List.Elements.{filter-append}
use Rattle.explain_words.specs.TracesWords.Parts.{IsPartOf, chosen, is_before, is_within}
use Rattle.explain_words.specs.TracesWords.Traces.{ToldCycle, told_line}
use Rattle.explain_words.specs.declared.traces.parts.CycleChoice.{CycleChoice}
use Rattle.explain_words.specs.declared.traces.parts.TracePart.{TracePart}

-- a number that is not below another
not_less : (a b : ℕ) → b ≤ a → nat_lt a b ≡ false
not_less a b most = by (nat_lt a b) refl
  where
    by : (t : Bool) → nat_lt a b ≡ t → nat_lt a b ≡ false
    by false e = e
    by true e = let less = ltb-true a b e in absurd (omega (arith, less, most))

-- what a filter keeps of a cycle behind others
kept_last : (p : ToldCycle → Bool) (cycles : List ToldCycle) (cycle : ToldCycle) (b : Bool) → p cycle ≡ b
    → filter p (cycles ++ cycle ∷ []) ≡ filter p cycles ++ (if b then cycle ∷ [] else [])
kept_last p cycles cycle b e =
    filter-append p cycles (cycle ∷ []) ∙ ap (λ (t : Bool). filter p cycles ++ (if t then cycle ∷ [] else [])) e

kept_none : (p : ToldCycle → Bool) (cycles : List ToldCycle) (cycle : ToldCycle) → p cycle ≡ false
    → filter p (cycles ++ cycle ∷ []) ≡ filter p cycles
kept_none p cycles cycle e = kept_last p cycles cycle false e ∙ append-nil (filter p cycles)

one_longer : (cycles : List ToldCycle) (cycle : ToldCycle) → length (cycles ++ cycle ∷ []) ≡ length cycles + 1
one_longer cycles cycle = length-append cycles (cycle ∷ [])

-- so many of some cycles are as many as there are, or all of them
taken_few : (most : ℕ) (cycles : List ToldCycle) → length (take most cycles) < most → length cycles < most
taken_few most cycles few = by (nat_le most (length cycles)) refl
  where
    by : (t : Bool) → nat_le most (length cycles) ≡ t → length cycles < most
    by true e =
        let full = length-take-le most cycles (leb-true most (length cycles) e) in
        absurd (omega (arith, full, few))
    by false e = leb-false most (length cycles) e

module _ (choice : CycleChoice) (cycle : ToldCycle) (old new : TracePart) (all : new.all ≡ old.all + 1)
    (cycles : List ToldCycle) (is : IsPartOf choice cycles old) where
  all_more : new.all ≡ length (cycles ++ cycle ∷ [])
  all_more = all ∙ ap (λ (n : ℕ). n + 1) is.all ∙ sym (one_longer cycles cycle)

  -- nothing more is chosen
  same_chosen : chosen choice (cycles ++ cycle ∷ []) ≡ chosen choice cycles → new.count ≡ old.count
      → new.text.items ≡ old.text.items → new.before ≡ length (filter (is_before choice) (cycles ++ cycle ∷ []))
      → IsPartOf choice (cycles ++ cycle ∷ []) new
  same_chosen same count text before = record {
    before = before;
    all = all_more;
    count = count ∙ is.count ∙ ap length (sym same);
    text = text ∙ is.text ∙ ap (flat_map told_line) (sym same);
  }

  not_before : choice.first_card ≤ cycle.card → new.before ≡ old.before
      → new.before ≡ length (filter (is_before choice) (cycles ++ cycle ∷ []))
  not_before past before =
      before ∙ is.before
      ∙ ap length (sym (kept_none (is_before choice) cycles cycle (not_less cycle.card choice.first_card past)))

  -- the cycle comes before those within the choice
  pub cycle_before : cycle.card < choice.first_card → new.before ≡ old.before + 1 → new.count ≡ old.count
      → new.text.items ≡ old.text.items → IsPartOf choice (cycles ++ cycle ∷ []) new
  cycle_before less before count text =
      let out : is_within choice cycle ≡ false =
      ap (λ (b : Bool). b && nat_le cycle.card choice.last_card) (lt-leb choice.first_card cycle.card less) in
      same_chosen (ap (take choice.most) (kept_none (is_within choice) cycles cycle out)) count text
      (before ∙ ap (λ (n : ℕ). n + 1) is.before
      ∙ sym (ap length (kept_last (is_before choice) cycles cycle true (lt-ltb cycle.card choice.first_card less))
      ∙ one_longer (filter (is_before choice) cycles) cycle))

  -- it comes behind them
  pub cycle_behind : choice.first_card ≤ cycle.card → choice.last_card < cycle.card → new.before ≡ old.before
      → new.count ≡ old.count → new.text.items ≡ old.text.items → IsPartOf choice (cycles ++ cycle ∷ []) new
  cycle_behind past less before count text =
      let out : is_within choice cycle ≡ false =
      ap (λ (b : Bool). b && nat_le cycle.card choice.last_card) (le-leb choice.first_card cycle.card past)
      ∙ lt-leb cycle.card choice.last_card less in
      same_chosen (ap (take choice.most) (kept_none (is_within choice) cycles cycle out)) count text (not_before past before)

  -- as many are chosen as may be
  pub cycle_over : choice.first_card ≤ cycle.card → choice.most ≤ old.count → new.before ≡ old.before
      → new.count ≡ old.count → new.text.items ≡ old.text.items → IsPartOf choice (cycles ++ cycle ∷ []) new
  cycle_over past full before count text =
      same_chosen
      (ap (take choice.most) (filter-append (is_within choice) cycles (cycle ∷ []))
      ∙ take-append-le choice.most (filter (is_within choice) cycles) (filter (is_within choice) (cycle ∷ [])) enough)
      count text (not_before past before)
    where
      enough : choice.most ≤ length (filter (is_within choice) cycles)
      enough = by (nat_le choice.most (length (filter (is_within choice) cycles))) refl
        where
          by : (t : Bool) → nat_le choice.most (length (filter (is_within choice) cycles)) ≡ t
              → choice.most ≤ length (filter (is_within choice) cycles)
          by true e = leb-true choice.most (length (filter (is_within choice) cycles)) e
          by false e =
              let less = leb-false choice.most (length (filter (is_within choice) cycles)) e in
              let whole = ap length (take_all choice.most (filter (is_within choice) cycles) (omega (arith, less))) in
              let counted = is.count in
              absurd (omega (arith, less, whole, counted, full))

  -- it is chosen
  pub cycle_chosen : choice.first_card ≤ cycle.card → cycle.card ≤ choice.last_card → old.count < choice.most → new.before ≡ old.before
      → new.count ≡ old.count + 1 → new.text.items ≡ old.text.items ++ cycle.line → IsPartOf choice (cycles ++ cycle ∷ []) new
  cycle_chosen past within few before count text =
      let some = filter (is_within choice) cycles in
      let here : is_within choice cycle ≡ true =
      ap (λ (b : Bool). b && nat_le cycle.card choice.last_card) (le-leb choice.first_card cycle.card past)
      ∙ le-leb cycle.card choice.last_card within in
      let counted = is.count in
      let less = taken_few choice.most some (omega (arith, counted, few)) in
      let longer = one_longer some cycle in
      let before_all = take_all choice.most some (omega (arith, less)) in
      let last : chosen choice (cycles ++ cycle ∷ []) ≡ chosen choice cycles ++ cycle ∷ [] =
      ap (take choice.most) (kept_last (is_within choice) cycles cycle true here)
      ∙ take_all choice.most (some ++ cycle ∷ []) (omega (arith, less, longer))
      ∙ ap (λ (l : List ToldCycle). l ++ cycle ∷ []) (sym before_all) in
      record {
        before = not_before past before;
        all = all_more;
        count = count ∙ ap (λ (n : ℕ). n + 1) is.count ∙ sym (ap length last ∙ one_longer (chosen choice cycles) cycle);
        text =
            text ∙ ap (λ (l : List ℕ). l ++ cycle.line) is.text
            ∙ sym (ap (flat_map told_line) last ∙ flat_map-append told_line (chosen choice cycles) (cycle ∷ [])
            ∙ ap (λ (l : List ℕ). flat_map told_line (chosen choice cycles) ++ l) (append-nil cycle.line));
      }
