-- Ways by a table: where one stands, the hub is impulsed, and the other way round.
use Rattle.std.proofs.Common.{◌≡◌, ◌∙◌, sym, ap, subst, refl, arith, ℕ, zero, suc, ◌+◌, ◌≤◌, Bool, true, List, [], ◌∷◌, ◌++◌, Option, Some, None, inl, inr}
use Rattle.std.specs.Prelude.{is_some, IsSome, IfSome, IfOk, ◌↔◌, Result, Ok, Err}
use Rattle.std.proofs.lemmas.Bool.{false≢true}
use Rattle.std.proofs.lemmas.List.Elements.{All-contains, All-nil, All-push, All-weaker}
use Rattle.std.proofs.lemmas.Option.{same_Some}
use Rattle.hubs.proofs.HubLemmas.{number_of-injective, in_range}
use Rattle.hubs.specs.Hubs.{number_of}
use Rattle.hubs.specs.declared.hub.Hub.{Hub}
use Rattle.hubs.specs.SetupsWords.Wiring.{Wiring}
use Rattle.net.specs.HubSets.{HubSet, has_hub, has_number}
use Rattle.net.specs.Impulsed.{IsImpulsed, LeadsOn}
use Rattle.net.specs.Impulsed.IsImpulsed.{emitting as impulsed-emitting, led_on as impulsed-led_on}
use Rattle.explain_wheels.specs.WaysWords.Tables.{at, AreUpTo, IsStepTable, IsUpTo, LeadsAt, StartsAt}
use Rattle.explain_wheels.specs.WaysWords.Ways.{IsWay}
use Rattle.explain_wheels.specs.WaysWords.Ways.IsWay.{emitting, led_on}
use Rattle.explain_wheels.proofs.WaysWords.LeadsLemmas.{leads_between}

-- a hub that a way leads to is impulsed
pub way_impulsed : (wiring : Wiring) (exits closed : Hub → Bool) {hub : Hub} {way : List Hub} → IsWay wiring exits closed hub way
    → IsImpulsed wiring exits closed hub
way_impulsed wiring exits closed (emitting hub there emits) = impulsed-emitting hub there emits
way_impulsed wiring exits closed (led_on from to way before leads new) =
    impulsed-led_on from to (way_impulsed wiring exits closed before) leads

-- a hub of a set has a number
has_number_some : (hubs : HubSet) (number : Option ℕ) → has_number hubs number ≡ true → (n : ℕ) × (number ≡ Some n)
has_number_some hubs (Some n) is = (n, refl)
has_number_some hubs None is = absurd (false≢true is)

some_number : (number : Option ℕ) → is_some number ≡ true → (n : ℕ) × (number ≡ Some n)
some_number (Some n) is = (n, refl)
some_number None is = absurd (false≢true is)

-- a hub that is led to has a number
led_numbered : (wiring : Wiring) (contacts : HubSet) (from to : Hub) → LeadsOn wiring (has_hub contacts) from to
    → (n : ℕ) × (number_of to ≡ Some n)
led_numbered wiring contacts from to (inl wire) = (wire.to, wire.entry_numbered)
led_numbered wiring contacts from to (inr contact) = has_number_some contacts (number_of to) contact.1

module _ (wiring : Wiring) (exits : Hub → Bool) (contacts : HubSet) (steps : List ℕ)
    (table : IsStepTable (LeadsAt wiring (has_hub contacts)) (StartsAt exits) steps) where
  -- an impulsed hub stands in the table
  pub impulsed_stands : {hub : Hub} → IsImpulsed wiring exits (has_hub contacts) hub
      → (n : ℕ) × (number_of hub ≡ Some n) × (1 ≤ at steps n)
  impulsed_stands (impulsed-emitting hub there emits) =
      let numbered = some_number (number_of hub) there in
      let one = table.starts numbered.0 (record { hub = hub; numbered = numbered.1; emits = emits }) in
      (numbered.0, numbered.1, omega (arith, one))
  impulsed_stands (impulsed-led_on from to before leads) =
      let found = impulsed_stands before in
      let numbered = led_numbered wiring contacts from to leads in
      let next = table.on found.0 numbered.0 found.2 (record {
        exit = from;
        entry = to;
        from_numbered = found.1;
        to_numbered = numbered.1;
        leads = leads;
      }) in
      (numbered.0, numbered.1, next.0)

  -- a hub that stands in the table is impulsed
  pub stands_impulsed : (many : ℕ) (hub : Hub) (number : ℕ) → number_of hub ≡ Some number → at steps number ≡ suc many
      → IsImpulsed wiring exits (has_hub contacts) hub
  stands_impulsed zero hub number numbered stands =
      let start = table.root number stands in
      let same = number_of-injective start.hub hub number start.numbered numbered in
      impulsed-emitting hub (in_range hub number numbered) (subst (λ (h : Hub). exits h ≡ true) same start.emits)
  stands_impulsed (suc many) hub number numbered stands =
      let before = table.back number many (omega (arith, stands)) in
      let leads = before.2 in
      let same = number_of-injective leads.entry hub number leads.to_numbered numbered in
      impulsed-led_on leads.exit hub
      (stands_impulsed many leads.exit before.0 leads.from_numbered (omega (arith, before.1)))
      (subst (λ (h : Hub). LeadsOn wiring (has_hub contacts) leads.exit h) same leads.leads)

  -- a hub with a number stands in the table exactly where it is impulsed
  pub stands_as_impulsed : (hub : Hub) (number : ℕ) → number_of hub ≡ Some number
      → (1 ≤ at steps number) ↔ IsImpulsed wiring exits (has_hub contacts) hub
  stands_as_impulsed hub number numbered = (by (at steps number) refl, back) where
    by : (n : ℕ) → at steps number ≡ n → 1 ≤ at steps number → IsImpulsed wiring exits (has_hub contacts) hub
    by zero is some = absurd (omega (arith, is, some))
    by (suc n) is some = stands_impulsed n hub number numbered is

    back : IsImpulsed wiring exits (has_hub contacts) hub → 1 ≤ at steps number
    back at_hub =
        let stands = impulsed_stands at_hub in
        let same : stands.0 ≡ number = same_Some _ _ (sym stands.1 ∙ numbered) in
        subst (λ (n : ℕ). 1 ≤ at steps n) same stands.2

  -- what stands in the table stands for a hub
  pub stands_hub : (to : ℕ) → 1 ≤ at steps to → (hub : Hub) × (number_of hub ≡ Some to)
  stands_hub to some = by (at steps to) refl where
    by : (n : ℕ) → at steps to ≡ n → (hub : Hub) × (number_of hub ≡ Some to)
    by zero is = absurd (omega (arith, is, some))
    by (suc zero) is = let start = table.root to is in (start.hub, start.numbered)
    by (suc (suc n)) is = let led = (table.back to n (is ∙ omega arith)).2 in (led.entry, led.to_numbered)

  -- a hub led to comes behind one with a number less by 1
  pub stands_behind : (to : ℕ) → 2 ≤ at steps to
      → ((from : ℕ) → at steps from + 1 ≡ at steps to → LeadsAt wiring (has_hub contacts) from to → ⊥) → ⊥
  stands_behind to more none = by (at steps to) refl where
    by : (n : ℕ) → at steps to ≡ n → ⊥
    by zero is = absurd (omega (arith, is, more))
    by (suc zero) is = absurd (omega (arith, is, more))
    by (suc (suc n)) is =
        let found = table.back to n (is ∙ omega arith) in
        let less = found.1 in
        none found.0 (omega (arith, less, is)) found.2

  -- a way of one hub
  pub way_start : (hub : Hub) (to : ℕ) → number_of hub ≡ Some to → at steps to ≡ 1
      → IsWay wiring exits (has_hub contacts) hub (hub ∷ [])
  way_start hub to numbered one =
      let start = table.root to one in
      let same : start.hub ≡ hub = number_of-injective start.hub hub to start.numbered numbered in
      emitting hub (in_range hub to numbered) (ap exits (sym same) ∙ start.emits)

-- a hub stands in the table with its own number
own-number : (steps : List ℕ) (hub : Hub) (to : ℕ) → number_of hub ≡ Some to → IsUpTo steps (at steps to) hub
own-number steps hub to numbered n is =
    let same : n ≡ to = same_Some _ _ (sym is ∙ numbered) in
    let stands : at steps n ≡ at steps to = ap (at steps) same in
    omega (arith, stands)

-- a hub alone
pub up-to-own : (steps : List ℕ) (hub : Hub) (to : ℕ) → number_of hub ≡ Some to → AreUpTo steps (at steps to) (hub ∷ [])
up-to-own steps hub to numbered =
    All-push (IsUpTo steps (at steps to)) [] hub (All-nil (IsUpTo steps (at steps to))) (own-number steps hub to numbered)

-- a way whose hubs stand lower in the table than a hub goes on to it
pub way_on : (wiring : Wiring) (exits closed : Hub → Bool) (steps : List ℕ) (hub : Hub) (from to : ℕ) (way : List Hub)
    → number_of hub ≡ Some to → (leads : LeadsAt wiring closed from to) → at steps from + 1 ≡ at steps to
    → IsWay wiring exits closed leads.exit way → AreUpTo steps (at steps from) way → IsWay wiring exits closed hub (way ++ hub ∷ [])
way_on wiring exits closed steps hub from to way numbered leads less before low =
    led_on leads.exit hub way before (leads_between wiring closed leads.exit hub from to leads.from_numbered numbered leads)
    (λ again.
    let there = All-contains (IsUpTo steps (at steps from)) way hub low again to numbered in
    omega (arith, there, less))

-- the hubs of a way and the hub behind it
pub up-to-behind : (steps : List ℕ) (hub : Hub) (from to : ℕ) (way : List Hub) → number_of hub ≡ Some to
    → at steps from + 1 ≡ at steps to → AreUpTo steps (at steps from) way → AreUpTo steps (at steps to) (way ++ hub ∷ [])
up-to-behind steps hub from to way numbered less low =
    All-push (IsUpTo steps (at steps to)) way hub
    (All-weaker (IsUpTo steps (at steps from)) (IsUpTo steps (at steps to)) higher way low) (own-number steps hub to numbered)
  where
    higher : (each : Hub) → IsUpTo steps (at steps from) each → IsUpTo steps (at steps to) each
    higher each here n is = let most = here n is in omega (arith, most, less)

-- a way is told, where no memory is wanting, exactly where the hub is impulsed
pub found_as_impulsed : {Kept Failed : Type 0} (items : Kept → List Hub) (wiring : Wiring) (exits : Hub → Bool) (contacts : HubSet)
    (steps : List ℕ) (hub : Hub) (to : ℕ) (result : Result (Option Kept) Failed)
    → IsStepTable (LeadsAt wiring (has_hub contacts)) (StartsAt exits) steps → number_of hub ≡ Some to
    → IfOk result (λ found. IfSome found (λ way. IsWay wiring exits (has_hub contacts) hub (items way)))
    → (1 ≤ at steps to → IfOk result IsSome)
    → IfOk result (λ found. IsSome found ↔ IsImpulsed wiring exits (has_hub contacts) hub)
found_as_impulsed items wiring exits contacts steps hub to (Err failed) table numbered is some = tt
found_as_impulsed {Kept = Kept} items wiring exits contacts steps hub to (Ok found) table numbered is some = (there found is, back) where
  back : IsImpulsed wiring exits (has_hub contacts) hub → IsSome found
  back at_hub =
      let stands = impulsed_stands wiring exits contacts steps table at_hub in
      let same : stands.0 ≡ to = same_Some _ _ (sym stands.1 ∙ numbered) in
      some (subst (λ (n : ℕ). 1 ≤ at steps n) same stands.2)

  there : (found : Option Kept) → IfSome found (λ way. IsWay wiring exits (has_hub contacts) hub (items way)) → IsSome found
      → IsImpulsed wiring exits (has_hub contacts) hub
  there (Some way) is _ = way_impulsed wiring exits (has_hub contacts) is
  there None is never = absurd (false≢true never)
