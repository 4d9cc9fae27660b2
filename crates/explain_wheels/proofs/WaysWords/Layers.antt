-- The search layer by layer: how it begins, goes on and ends.
use Rattle.std.proofs.Common.{⊎_elim, ◌⊎◌, inl, inr, ◌≡◌, ◌∙◌, sym, ap, subst, arith, ℕ, ◌+◌, ◌<◌, ◌≤◌, Bool, true, false, List, length, slice_set, replicate}
use Rattle.std.proofs.lemmas.Bool.{cases_eq, cases_lt}
use Rattle.std.proofs.lemmas.Grind.{common_steps}
use Rattle.std.proofs.lemmas.List.{get_or-set_same, get_or-set_other, get_or_past, get_or-replicate, length-replicate}
use Rattle.hubs.proofs.HubLemmas.{number_of-range}
use Rattle.hubs.specs.declared.hub.Hub.{Hub}
use Rattle.hubs.specs.SetupsWords.Wiring.{Wiring}
use Rattle.explain_wheels.specs.WaysWords.Tables.{at, missing, IsPass, IsLedAt, IsStartTable, IsStepTable, LeadsAt, StartsAt}
use Rattle.explain_wheels.proofs.WaysWords.Passes.{missing-length}

-- no hub has a number past 1936
pub led_range : (wiring : Wiring) (closed : Hub → Bool) (from to : ℕ) → LeadsAt wiring closed from to → to < 1937
led_range wiring closed from to leads =
    let range = number_of-range leads.entry to leads.to_numbered in let high = range.1 in omega (arith, high)

pub lead_range : (wiring : Wiring) (closed : Hub → Bool) (from to : ℕ) → LeadsAt wiring closed from to → from < 1937
lead_range wiring closed from to leads =
    let range = number_of-range leads.exit from leads.from_numbered in let high = range.1 in omega (arith, high)

pub start_range : (exits : Hub → Bool) (number : ℕ) → StartsAt exits number → number < 1937
start_range exits number starts =
    let range = number_of-range starts.hub number starts.numbered in let high = range.1 in omega (arith, high)

-- where something stands, there is a place
at_inside : (steps : List ℕ) (h : ℕ) → 1 ≤ at steps h → h < length steps
at_inside steps h some = elim (cases_lt h (length steps)) [
  | inl low ↦ low
  | inr high ↦ let none = get_or_past steps h 0 high in absurd (omega (arith, some, none))
]

at_zeros : (n h : ℕ) → at (replicate n 0) h ≡ 0
at_zeros n h = elim (cases_lt h n) [
  | inl low ↦ get_or-replicate n h 0 0 low
  | inr high ↦ let long : length {A = ℕ} (replicate n 0) ≡ n = length-replicate {A = ℕ} n 0 in
      get_or_past (replicate n 0) h 0 (omega (arith, high, long))
]

-- the starts of the hubs numbered below n are marked
pub record IsStartedBelow (Starts : ℕ → Type 0) (n : ℕ) (steps : List ℕ) : Type 0 where
  pub long : length steps ≡ 1937
  pub starts : (h : ℕ) → h < n → Starts h → at steps h ≡ 1
  pub others : (h : ℕ) → (at steps h ≡ 0) ⊎ ((at steps h ≡ 1) × Starts h)

pub IsStartedBelow-first : (Starts : ℕ → Type 0) → IsStartedBelow Starts 0 (replicate 1937 0)
IsStartedBelow-first Starts = record {
  long = length-replicate {A = ℕ} 1937 0;
  starts = λ h low starts. absurd (omega (arith, low));
  others = λ h. inl (at_zeros 1937 h);
}

pub IsStartedBelow-start : (Starts : ℕ → Type 0) (n : ℕ) (steps : List ℕ) → n < 1937 → Starts n → IsStartedBelow Starts n steps
    → IsStartedBelow Starts (n + 1) (slice_set steps n 1)
IsStartedBelow-start Starts n steps inside start before = record {
  long = let long = before.long in grind (arith, common_steps);
  starts = λ h low starts. elim (cases_eq h n) [
    | inl same ↦ ap (at (slice_set steps n 1)) same ∙ here
    | inr other ↦ get_or-set_other steps n h 1 0 other ∙ before.starts h (omega (arith, low, other)) starts
  ];
  others = λ h. elim (cases_eq h n) [
    | inl same ↦ inr (ap (at (slice_set steps n 1)) same ∙ here, subst Starts (sym same) start)
    | inr other ↦ let is = get_or-set_other steps n h 1 0 other in
        ⊎_elim (λ none. inl (is ∙ none)) (λ one. inr (is ∙ one.0, one.1)) (before.others h)
  ];
} where
  here : at (slice_set steps n 1) n ≡ 1
  here = let long = before.long in get_or-set_same steps n 1 0 (omega (arith, long, inside))

pub IsStartedBelow-other : (Starts : ℕ → Type 0) (n : ℕ) (steps : List ℕ) → (Starts n → ⊥) → IsStartedBelow Starts n steps
    → IsStartedBelow Starts (n + 1) steps
IsStartedBelow-other Starts n steps none before = record {
  long = before.long;
  starts = λ h low starts. elim (cases_eq h n) [
    | inl same ↦ absurd (none (subst Starts same starts))
    | inr other ↦ before.starts h (omega (arith, low, other)) starts
  ];
  others = before.others;
}

pub IsStartTable-all : (exits : Hub → Bool) (n : ℕ) (steps : List ℕ) → 1937 ≤ n → IsStartedBelow (StartsAt exits) n steps
    → IsStartTable (StartsAt exits) steps
IsStartTable-all exits n steps end started = record {
  long = started.long;
  starts = λ h starts. let low = start_range exits h starts in started.starts h (omega (arith, low, end)) starts;
  others = started.others;
}

-- The layers up to a level stand: those below it are gone on from.
pub record IsLayered (Leads : ℕ → ℕ → Type 0) (Starts : ℕ → Type 0) (level : ℕ) (steps : List ℕ) : Type 0 where
  pub long : length steps ≡ 1937
  pub from : 1 ≤ level
  pub few : level + missing steps ≤ 1938
  pub starts : (h : ℕ) → Starts h → at steps h ≡ 1
  pub root : (h : ℕ) → at steps h ≡ 1 → Starts h
  pub back : (h n : ℕ) → at steps h ≡ n + 2 → (from : ℕ) × (at steps from ≡ n + 1) × Leads from h
  pub below : (h : ℕ) → at steps h ≤ level
  pub on :
      (from to : ℕ) → 1 ≤ at steps from → at steps from < level → Leads from to
      → (1 ≤ at steps to) × (at steps to ≤ at steps from + 1)

pub IsLayered-start : (Leads : ℕ → ℕ → Type 0) (Starts : ℕ → Type 0) (steps : List ℕ) → IsStartTable Starts steps
    → IsLayered Leads Starts 1 steps
IsLayered-start Leads Starts steps started = record {
  long = started.long;
  from = omega arith;
  few = let long = started.long in let most = missing-length steps in omega (arith, long, most);
  starts = started.starts;
  root = λ h one. ⊎_elim (λ none. absurd (omega (arith, none, one))) (λ start. start.1) (started.others h);
  back = λ h n more. ⊎_elim (λ none. absurd (omega (arith, none, more))) (λ start. let one = start.0 in absurd (omega (arith, one, more)))
      (started.others h);
  below = λ h. ⊎_elim (λ none. omega (arith, none)) (λ start. let one = start.0 in omega (arith, one)) (started.others h);
  on = λ from to some few leads. absurd (omega (arith, some, few));
}

module _ (Leads : ℕ → ℕ → Type 0) (Starts : ℕ → Type 0) (level : ℕ) (steps new : List ℕ) (added : Bool)
    (layers : IsLayered Leads Starts level steps) (pass : IsPass level (IsLedAt Leads level 1937 steps) steps new added) where
  -- what stands at the level or below was there before
  was : (h : ℕ) → 1 ≤ at new h → at new h ≤ level → 1 ≤ at steps h
  was h some low = elim (cases_eq (at steps h) 0) [
    | inl empty ↦ let full = (pass.gained h empty some).0 in absurd (omega (arith, full, low))
    | inr filled ↦ omega (arith, filled)
  ]

  below_next : (h : ℕ) → at new h ≤ level + 1
  below_next h = elim (cases_eq (at steps h) 0) [
    | inl empty ↦ elim (cases_eq (at new h) 0) [
      | inl none ↦ omega (arith, none)
      | inr some ↦ let full = (pass.gained h empty (omega (arith, some))).0 in omega (arith, full)
    ]
    | inr filled ↦ let kept = pass.kept h (omega (arith, filled)) in let low = layers.below h in omega (arith, kept, low)
  ]

  on_next : (from to : ℕ) → 1 ≤ at new from → at new from ≤ level → Leads from to
      → (1 ≤ at new to) × (at new to ≤ at new from + 1)
  on_next from to some low leads =
      let before = was from some low in
      let kept = pass.kept from before in
      elim (cases_lt (at steps from) level) [
        | inl below ↦
            let found = layers.on from to before below leads in
            let one = found.0 in
            let most = found.1 in
            let kept_to = pass.kept to one in
            (omega (arith, one, kept_to), omega (arith, most, kept_to, kept))
        | inr high ↦
            let top = layers.below from in
            let stands : at steps from ≡ level = omega (arith, high, top) in
            let inside = at_inside steps from before in
            let long = layers.long in
            let most = below_next to in
            let led : IsLedAt Leads level 1937 steps to = record {
              from = from;
              low = omega (arith, inside, long);
              stands = stands;
              leads = leads;
            } in
            (pass.done to led, omega (arith, most, kept, stands))
      ]

  back_next : (h n : ℕ) → at new h ≡ n + 2 → (from : ℕ) × (at new from ≡ n + 1) × Leads from h
  back_next h n is = elim (cases_eq (at steps h) 0) [
    | inl empty ↦
        let found = pass.gained h empty (omega (arith, is)) in
        let full = found.0 in
        let led = found.1 in
        let stands = led.stands in
        let one = layers.from in
        let kept = pass.kept led.from (omega (arith, stands, one)) in
        (led.from, omega (arith, kept, stands, full, is), led.leads)
    | inr filled ↦
        let kept = pass.kept h (omega (arith, filled)) in
        let found = layers.back h n (sym kept ∙ is) in
        let stands = found.1 in
        let kept_from = pass.kept found.0 (omega (arith, stands)) in
        (found.0, kept_from ∙ stands, found.2)
  ]

  starts_next : (h : ℕ) → Starts h → at new h ≡ 1
  starts_next h start = let one = layers.starts h start in let kept = pass.kept h (omega (arith, one)) in kept ∙ one

  root_next : (h : ℕ) → at new h ≡ 1 → Starts h
  root_next h one =
      let low = layers.from in
      let before = was h (omega (arith, one)) (omega (arith, one, low)) in
      let kept = pass.kept h before in
      layers.root h (sym kept ∙ one)

  pub IsLayered-next : added ≡ true → IsLayered Leads Starts (level + 1) new
  IsLayered-next filled = record {
    long = pass.long ∙ layers.long;
    from = omega arith;
    few = let less = pass.some filled in let few = layers.few in omega (arith, less, few);
    starts = starts_next;
    root = root_next;
    back = back_next;
    below = below_next;
    on = λ from to some low leads. on_next from to some (omega (arith, low)) leads;
  }

  pub IsStepTable-end : added ≡ false → IsStepTable Leads Starts new
  IsStepTable-end unfilled = record {
    starts = starts_next;
    root = root_next;
    back = back_next;
    on = λ from to some leads.
        let same = ap (λ (l : List ℕ). at l from) (pass.none unfilled) in
        let low = layers.below from in
        on_next from to some (omega (arith, same, low)) leads;
  }
