-- The groups of a level inside a group, as its cards come one after another.
use Rattle.std.proofs.Common.{◌≡◌, ◌∙◌, refl, sym, ap, subst, ℕ, zero, suc, ◌≤◌, ◌<◌, nat_le, Bool, true, false, ◌⊎◌, inl, inr, List, [], ◌∷◌, ◌++◌, if◌then◌else◌, append-nil, append_assoc, arith}
use Rattle.std.specs.List.{flat_map}
use Rattle.std.proofs.lemmas.Bool.Decides.{nat_tests}
use Rattle.std.proofs.lemmas.Grind.{flat_map-append}
use Rattle.chart_lines.specs.declared.charts.chart.Line.{Line}
use Rattle.report_definition.proofs.GroupLaws.{either, lower, own}
use Rattle.report_definition.specs.Breaks.{break_up_to}
use Rattle.report_definition.specs.Groups.{groups_in, groups_within, is_same_at, later_runs, rest_of_run, runs}

-- at a break of a level two cards differ, and above it they are the same
pub break-differs : (lines : List Line) (most : ℕ) (card next : List ℕ) → 1 ≤ break_up_to lines most card next
    → is_same_at lines (break_up_to lines most card next) card next ≡ false
break-differs lines zero card next some = absurd (omega (arith, some))
break-differs lines (suc most) card next some =
    by (is_same_at lines (suc most) card next) refl some (break-differs lines most card next)
  where
    by : (b : Bool) → is_same_at lines (suc most) card next ≡ b → 1 ≤ (if b then break_up_to lines most card next else suc most)
        → (1 ≤ break_up_to lines most card next → is_same_at lines (break_up_to lines most card next) card next ≡ false)
        → is_same_at lines (if b then break_up_to lines most card next else suc most) card next ≡ false
    by true is some_here more = more some_here
    by false is some_here more = is

pub break-same : (lines : List Line) (most : ℕ) (card next : List ℕ) (level : ℕ) → break_up_to lines most card next < level
    → level ≤ most → is_same_at lines level card next ≡ true
break-same lines zero card next level over few = absurd (omega (arith, over, few))
break-same lines (suc most) card next level over few =
    by (is_same_at lines (suc most) card next) refl (nat_le level most) refl over (break-same lines most card next level)
  where
    by : (b : Bool) → is_same_at lines (suc most) card next ≡ b → (below : Bool) → nat_le level most ≡ below
        → (if b then break_up_to lines most card next else suc most) < level
        → (break_up_to lines most card next < level → level ≤ most → is_same_at lines level card next ≡ true)
        → is_same_at lines level card next ≡ true
    by false is below small above more = absurd (omega (arith, above, few))
    by true is true small above more = more above (grind (arith, nat_tests, small))
    by true is false small above more =
        let last : suc most ≡ level = grind (arith, nat_tests, small, few) in
        subst (λ n. is_same_at lines n card next ≡ true) last is

-- a card before the first of some runs
onto : List ℕ → List (List (List ℕ)) → List (List (List ℕ))
onto card [] = (card ∷ []) ∷ []
onto card (run ∷ others) = (card ∷ run) ∷ others

runs-cons : (same : List ℕ → List ℕ → Bool) (card next : List ℕ) (cards : List (List ℕ))
    → runs same (card ∷ next ∷ cards)
    ≡ (if same card next then onto card (runs same (next ∷ cards)) else (card ∷ []) ∷ runs same (next ∷ cards))
unfolding onto
runs-cons same card next cards = by (same card next)
  where
    by : (b : Bool)
        → (card ∷ (if b then next ∷ rest_of_run same next cards else []))
        ∷ (if b then later_runs same next cards else (next ∷ rest_of_run same next cards) ∷ later_runs same next cards)
        ≡ (if b then onto card (runs same (next ∷ cards)) else (card ∷ []) ∷ runs same (next ∷ cards))
    by true = refl
    by false = refl

-- The runs of cards that end in a card, and those of one card more: the last run goes on where the two are the same, and else a new one
-- begins.
record RunsGo (prev card : List ℕ) (same : Bool) (old new : List (List (List ℕ))) : Type 0 where
  init : List (List (List ℕ))
  run : List (List ℕ)
  is_old : old ≡ init ++ ((run ++ (prev ∷ [])) ∷ [])
  is_new : new ≡ (if same then init ++ (((run ++ (prev ∷ [])) ++ (card ∷ [])) ∷ []) else (init ++ ((run ++ (prev ∷ [])) ∷ [])) ++ ((card ∷ []) ∷ []))

runs-onto : (first prev card : List ℕ) (same : Bool) (old new : List (List (List ℕ))) → RunsGo prev card same old new
    → RunsGo prev card same (onto first old) (onto first new)
unfolding onto
runs-onto first prev card same old new go = by go.init same go.is_old go.is_new
  where
    by : (init : List (List (List ℕ))) (b : Bool) → old ≡ init ++ ((go.run ++ (prev ∷ [])) ∷ [])
        → new ≡ (if b then init ++ (((go.run ++ (prev ∷ [])) ++ (card ∷ [])) ∷ [])
        else (init ++ ((go.run ++ (prev ∷ [])) ∷ [])) ++ ((card ∷ []) ∷ []))
        → RunsGo prev card b (onto first old) (onto first new)
    by [] true is_old is_new = record { init = []; run = first ∷ go.run; is_old = ap (onto first) is_old; is_new = ap (onto first) is_new }
    by [] false is_old is_new = record { init = []; run = first ∷ go.run; is_old = ap (onto first) is_old; is_new = ap (onto first) is_new }
    by (one ∷ init) true is_old is_new =
        record { init = (first ∷ one) ∷ init; run = go.run; is_old = ap (onto first) is_old; is_new = ap (onto first) is_new }
    by (one ∷ init) false is_old is_new =
        record { init = (first ∷ one) ∷ init; run = go.run; is_old = ap (onto first) is_old; is_new = ap (onto first) is_new }

runs-apart : (first prev card : List ℕ) (same : Bool) (old new : List (List (List ℕ))) → RunsGo prev card same old new
    → RunsGo prev card same ((first ∷ []) ∷ old) ((first ∷ []) ∷ new)
runs-apart first prev card same old new go = by same go.is_new
  where
    by : (b : Bool)
        → new ≡ (if b then go.init ++ (((go.run ++ (prev ∷ [])) ++ (card ∷ [])) ∷ [])
        else (go.init ++ ((go.run ++ (prev ∷ [])) ∷ [])) ++ ((card ∷ []) ∷ []))
        → RunsGo prev card b ((first ∷ []) ∷ old) ((first ∷ []) ∷ new)
    by true is_new = record {
      init = (first ∷ []) ∷ go.init;
      run = go.run;
      is_old = ap (λ l. (first ∷ []) ∷ l) go.is_old;
      is_new = ap (λ l. (first ∷ []) ∷ l) is_new;
    }
    by false is_new = record {
      init = (first ∷ []) ∷ go.init;
      run = go.run;
      is_old = ap (λ l. (first ∷ []) ∷ l) go.is_old;
      is_new = ap (λ l. (first ∷ []) ∷ l) is_new;
    }

runs-go : (same : List ℕ → List ℕ → Bool) (front : List (List ℕ)) (prev card : List ℕ)
    → RunsGo prev card (same prev card) (runs same (front ++ (prev ∷ []))) (runs same ((front ++ (prev ∷ [])) ++ (card ∷ [])))
runs-go same [] prev card = by (same prev card)
  where
    by : (b : Bool)
        → RunsGo prev card b ((prev ∷ []) ∷ [])
        ((prev ∷ (if b then card ∷ [] else [])) ∷ (if b then [] else (card ∷ []) ∷ []))
    by true = record { init = []; run = []; is_old = refl; is_new = refl }
    by false = record { init = []; run = []; is_old = refl; is_new = refl }
runs-go same (first ∷ []) prev card =
    joined first prev [] (card ∷ []) (runs-go same [] prev card)
  where
    joined : (first next : List ℕ) (cards others : List (List ℕ))
        → RunsGo prev card (same prev card) (runs same (next ∷ cards)) (runs same (next ∷ others))
        → RunsGo prev card (same prev card) (runs same (first ∷ next ∷ cards)) (runs same (first ∷ next ∷ others))
    joined first next cards others go =
        subst (λ l. RunsGo prev card (same prev card) l (runs same (first ∷ next ∷ others))) (sym (runs-cons same first next cards))
        (subst (λ l. RunsGo prev card (same prev card)
        (if same first next then onto first (runs same (next ∷ cards)) else (first ∷ []) ∷ runs same (next ∷ cards)) l)
        (sym (runs-cons same first next others)) (by (same first next)))
      where
        by : (b : Bool)
            → RunsGo prev card (same prev card)
            (if b then onto first (runs same (next ∷ cards)) else (first ∷ []) ∷ runs same (next ∷ cards))
            (if b then onto first (runs same (next ∷ others)) else (first ∷ []) ∷ runs same (next ∷ others))
        by true = runs-onto first prev card (same prev card) (runs same (next ∷ cards)) (runs same (next ∷ others)) go
        by false = runs-apart first prev card (same prev card) (runs same (next ∷ cards)) (runs same (next ∷ others)) go
runs-go same (first ∷ next ∷ front) prev card =
    joined (runs-go same (next ∷ front) prev card)
  where
    old : List (List ℕ)
    old = front ++ (prev ∷ [])

    new : List (List ℕ)
    new = (front ++ (prev ∷ [])) ++ (card ∷ [])

    joined : RunsGo prev card (same prev card) (runs same (next ∷ (front ++ (prev ∷ []))))
        (runs same (next ∷ ((front ++ (prev ∷ [])) ++ (card ∷ []))))
        → RunsGo prev card (same prev card) (runs same (first ∷ next ∷ (front ++ (prev ∷ []))))
        (runs same (first ∷ next ∷ ((front ++ (prev ∷ [])) ++ (card ∷ []))))
    joined go =
        subst (λ l. RunsGo prev card (same prev card) l (runs same (first ∷ next ∷ ((front ++ (prev ∷ [])) ++ (card ∷ [])))))
        (sym (runs-cons same first next (front ++ (prev ∷ []))))
        (subst (λ l. RunsGo prev card (same prev card)
        (if same first next then onto first (runs same (next ∷ (front ++ (prev ∷ [])))) else (first ∷ []) ∷ runs same (next ∷ (front ++ (prev ∷ [])))) l)
        (sym (runs-cons same first next ((front ++ (prev ∷ [])) ++ (card ∷ [])))) (by (same first next)))
      where
        by : (b : Bool)
            → RunsGo prev card (same prev card)
            (if b then onto first (runs same (next ∷ (front ++ (prev ∷ [])))) else (first ∷ []) ∷ runs same (next ∷ (front ++ (prev ∷ []))))
            (if b then onto first (runs same (next ∷ ((front ++ (prev ∷ [])) ++ (card ∷ []))))
            else (first ∷ []) ∷ runs same (next ∷ ((front ++ (prev ∷ [])) ++ (card ∷ []))))
        by true = runs-onto first prev card (same prev card) (runs same (next ∷ (front ++ (prev ∷ []))))
            (runs same (next ∷ ((front ++ (prev ∷ [])) ++ (card ∷ [])))) go
        by false = runs-apart first prev card (same prev card) (runs same (next ∷ (front ++ (prev ∷ []))))
            (runs same (next ∷ ((front ++ (prev ∷ [])) ++ (card ∷ [])))) go

-- The groups of a level inside a group that ends in a card, and inside that of one card more: the card begins a new one by a break of their
-- level or of a higher one, and else goes on with the last of them.
pub data Grows (prev card : List ℕ) (broken : Bool) (old new : List (List (List ℕ))) : Type 0 where
  begins : broken ≡ true → new ≡ old ++ ((card ∷ []) ∷ []) → Grows prev card broken old new
  goes_on :
      (init : List (List (List ℕ))) (last : List (List ℕ)) → broken ≡ false → old ≡ init ++ ((last ++ (prev ∷ [])) ∷ [])
      → new ≡ init ++ (((last ++ (prev ∷ [])) ++ (card ∷ [])) ∷ []) → Grows prev card broken old new

-- one card is one group at each level
pub one-inside : (lines : List Line) (level under : ℕ) (card : List ℕ) → under ≤ level
    → groups_in lines level under (card ∷ []) ≡ (card ∷ []) ∷ []
one-inside lines zero under card few = refl
one-inside lines (suc above) under card few =
    by (either lines above under (card ∷ []) few) (λ less. one-inside lines above under card less)
  where
    by : (under ≤ above) ⊎ (under ≡ suc above) → (under ≤ above → groups_in lines above under (card ∷ []) ≡ (card ∷ []) ∷ [])
        → groups_in lines (suc above) under (card ∷ []) ≡ (card ∷ []) ∷ []
    by (inr same) each = own lines above under (card ∷ []) same
    by (inl less) each =
        lower lines above under (card ∷ []) less
        ∙ ap (λ (l : List (List (List ℕ))). l ++ []) (each less)

-- groups in front of those that grow
behind : {prev card : List ℕ} {broken : Bool} (front old new : List (List (List ℕ))) → Grows prev card broken old new
    → Grows prev card broken (front ++ old) (front ++ new)
behind {card = card} front old new (begins is is_new) =
    begins is (ap (λ l. front ++ l) is_new ∙ sym (append_assoc front old ((card ∷ []) ∷ [])))
behind {prev = prev} {card = card} front old new (goes_on init last is is_old is_new) =
    goes_on (front ++ init) last is
    (ap (λ l. front ++ l) is_old ∙ sym (append_assoc front init ((last ++ (prev ∷ [])) ∷ [])))
    (ap (λ l. front ++ l) is_new ∙ sym (append_assoc front init (((last ++ (prev ∷ [])) ++ (card ∷ [])) ∷ [])))

-- the groups in some parts and in one more
one-more : (f : List (List ℕ) → List (List (List ℕ))) (some : List (List (List ℕ))) (more : List (List ℕ))
    → flat_map f (some ++ (more ∷ [])) ≡ flat_map f some ++ f more
one-more f some more = flat_map-append f some (more ∷ []) ∙ ap (λ l. flat_map f some ++ l) (append-nil (f more))

-- the groups of a level inside a group that grows
abbrev pub InsideGrows : List Line → (break : ℕ) → (prev card : List ℕ) → (level under : ℕ) → (front : List (List ℕ)) → Type 0
InsideGrows lines break prev card level under front =
    Grows prev card (nat_le under break) (groups_in lines level under (front ++ (prev ∷ [])))
    (groups_in lines level under ((front ++ (prev ∷ [])) ++ (card ∷ [])))

module _ (lines : List Line) (break : ℕ) (prev card : List ℕ)
    (above-same : (level : ℕ) → break < level → level ≤ 3 → is_same_at lines level prev card ≡ true)
    (at-differs : 1 ≤ break → is_same_at lines break prev card ≡ false) where
  -- in its own level it is alone
  grows-alone : (above under : ℕ) (front : List (List ℕ)) → under ≡ suc above → break < suc above
      → InsideGrows lines break prev card (suc above) under front
  grows-alone above under front same over =
      let unbroken : nat_le under break ≡ false = grind (arith, nat_tests, same, over) in
      goes_on [] front unbroken (own lines above under (front ++ (prev ∷ [])) same)
      (own lines above under ((front ++ (prev ∷ [])) ++ (card ∷ [])) same)

  -- in a higher one it is cut into parts, by a level that breaks or doesn't
  grows-parts : (above under : ℕ) (front : List (List ℕ)) → 1 ≤ under → under ≤ above → above ≤ 3 → break < suc above
      → ((last : List (List ℕ)) → break < above → InsideGrows lines break prev card above under last)
      → RunsGo prev card (is_same_at lines above prev card) (groups_within lines above (front ++ (prev ∷ [])))
      (groups_within lines above ((front ++ (prev ∷ [])) ++ (card ∷ [])))
      → Grows prev card (nat_le under break)
      (flat_map (groups_in lines above under) (groups_within lines above (front ++ (prev ∷ []))))
      (flat_map (groups_in lines above under) (groups_within lines above ((front ++ (prev ∷ [])) ++ (card ∷ []))))
  grows-parts above under front some less most over each go = by (nat_le above break) refl
    where
      by : (b : Bool) → nat_le above break ≡ b
          → Grows prev card (nat_le under break)
          (flat_map (groups_in lines above under) (groups_within lines above (front ++ (prev ∷ []))))
          (flat_map (groups_in lines above under) (groups_within lines above ((front ++ (prev ∷ [])) ++ (card ∷ []))))
      by false is =
          let higher : break < above = grind (arith, nat_tests, is) in
          let f : List (List ℕ) → List (List (List ℕ)) = groups_in lines above under in
          let old_is = ap (flat_map f) go.is_old ∙ one-more f go.init (go.run ++ (prev ∷ [])) in
          let new_is = ap (flat_map f)
          (go.is_new
          ∙ ap (λ (b : Bool). if b
          then go.init ++ (((go.run ++ (prev ∷ [])) ++ (card ∷ [])) ∷ [])
          else (go.init ++ ((go.run ++ (prev ∷ [])) ∷ [])) ++ ((card ∷ []) ∷ [])) (above-same above higher most))
          ∙ one-more f go.init ((go.run ++ (prev ∷ [])) ++ (card ∷ [])) in
          subst (λ l. Grows prev card (nat_le under break) l
          (flat_map (groups_in lines above under) (groups_within lines above ((front ++ (prev ∷ [])) ++ (card ∷ []))))) (sym old_is)
          (subst (λ l. Grows prev card (nat_le under break)
          (flat_map f go.init ++ f (go.run ++ (prev ∷ []))) l) (sym new_is)
          (behind (flat_map f go.init) (f (go.run ++ (prev ∷ []))) (f ((go.run ++ (prev ∷ [])) ++ (card ∷ []))) (each go.run higher)))
      by true is =
          let f : List (List ℕ) → List (List (List ℕ)) = groups_in lines above under in
          let at : break ≡ above = grind (arith, nat_tests, is, over) in
          let differs : is_same_at lines above prev card ≡ false =
          subst (λ n. is_same_at lines n prev card ≡ false) at (at-differs (omega (arith, at, some, less))) in
          let broken : nat_le under break ≡ true = grind (arith, nat_tests, at, less) in
          begins broken
          (ap (flat_map f)
          (go.is_new
          ∙ ap (λ (b : Bool). if b
          then go.init ++ (((go.run ++ (prev ∷ [])) ++ (card ∷ [])) ∷ [])
          else (go.init ++ ((go.run ++ (prev ∷ [])) ∷ [])) ++ ((card ∷ []) ∷ [])) differs
          ∙ ap (λ l. l ++ ((card ∷ []) ∷ [])) (sym go.is_old))
          ∙ one-more f (groups_within lines above (front ++ (prev ∷ []))) (card ∷ [])
          ∙ ap (λ l. flat_map f (groups_within lines above (front ++ (prev ∷ []))) ++ l) (one-inside lines above under card less))

  pub grows-inside : (level under : ℕ) (front : List (List ℕ)) → 1 ≤ under → under ≤ level → level ≤ 4 → break < level
      → InsideGrows lines break prev card level under front
  grows-inside zero under front some few most over = absurd (omega (arith, some, few))
  grows-inside (suc above) under front some few most over =
      by (either lines above under (front ++ (prev ∷ [])) few)
      (λ less last over_it. grows-inside above under last some less (omega (arith, most)) over_it)
    where
      by : (under ≤ above) ⊎ (under ≡ suc above)
          → (under ≤ above → (last : List (List ℕ)) → break < above → InsideGrows lines break prev card above under last)
          → InsideGrows lines break prev card (suc above) under front
      by (inr same) each = grows-alone above under front same over
      by (inl less) each =
          subst (λ l. Grows prev card (nat_le under break) l (groups_in lines (suc above) under ((front ++ (prev ∷ [])) ++ (card ∷ []))))
          (sym (lower lines above under (front ++ (prev ∷ [])) less))
          (subst (λ l. Grows prev card (nat_le under break)
          (flat_map (groups_in lines above under) (groups_within lines above (front ++ (prev ∷ [])))) l)
          (sym (lower lines above under ((front ++ (prev ∷ [])) ++ (card ∷ [])) less))
          (grows-parts above under front some less (omega (arith, most)) over
          (each less)
          (runs-go (is_same_at lines above) front prev card)))
