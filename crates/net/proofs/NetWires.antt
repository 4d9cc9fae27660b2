-- A net is made from the wires of one exit after another, in the order of their numbers.
use Rattle.std.proofs.Common.{⊎_elim, ◌≡◌, ℕ, ◌+◌, ◌-◌, ◌<◌, ◌≤◌, ◌&&◌, ◌||◌, Bool, true, false, List, [], ◌∷◌, ◌++◌, Option, Some, None, Contains, ◌↔◌, ◌⊎◌, inl, inr, sym, ap, ◌∙◌, refl, subst, arith, length, take, slice_index_or}
use Rattle.std.specs.Prelude.{◌==◌}
use Rattle.std.proofs.lemmas.Bool.{cases_lt, false≢true}
use Rattle.std.proofs.lemmas.Bool.Decides.{nat_tests}
use Rattle.std.proofs.lemmas.List.{take_all}
use Rattle.std.proofs.lemmas.List.Elements.{Contains-push, Contains-append_left, Contains-push_cases}
use Rattle.std.proofs.lemmas.Grind.{take_at_read}
use Rattle.hubs.proofs.HubLemmas.{hub_numbered, number_of-injective, number_of-range, is_exit-number}
use Rattle.hubs.specs.declared.hub.Hub.{Hub}
use Rattle.hubs.specs.Hubs.{number_of}
use Rattle.hubs.specs.SetupsWords.Wiring.{Wiring, HasWire, IsLawfulWiring}
use Rattle.machine_sets.specs.BitSets.Rows.{leads}
use Rattle.net.specs.AddedWires.{Adds, AddsRow}
use Rattle.net.specs.Nets.{IsNetOf, NetRows, leads_by}

-- a test of two parts, one of them with two equations
added_is : (old : Bool) (f p t q : ℕ) (new : Bool) → new ≡ (old || ((f == p) && (t == q)))
    → (new ≡ true) ↔ ((old ≡ true) ⊎ ((f ≡ p) × (t ≡ q)))
added_is old f p t q new e = (gone old e, come) where
  gone : (old : Bool) → new ≡ (old || ((f == p) && (t == q))) → new ≡ true → (old ≡ true) ⊎ ((f ≡ p) × (t ≡ q))
  gone true e at = inl refl
  gone false e at =
      let both : ((f == p) && (t == q)) ≡ true = sym e ∙ at in
      inr (grind (arith, nat_tests, both), grind (arith, nat_tests, both))

  come : (old ≡ true) ⊎ ((f ≡ p) × (t ≡ q)) → new ≡ true
  come (inl at) = grind (arith, nat_tests)
  come (inr at) = let one = at.0 in let other = at.1 in grind (arith, nat_tests)

-- no entry, nothing more
pub Adds-none : (tells : ℕ → ℕ → Bool) (place : ℕ) → Adds tells tells place []
Adds-none tells place from to = (λ at. inl at, back) where
  back : (tells from to ≡ true) ⊎ ((from ≡ place) × Contains [] (to + 1)) → tells from to ≡ true
  back (inl at) = at
  back (inr at) = let listed = at.1 in absurd (omega (arith, listed.1))

-- one entry more
pub Adds-more : (start old new : ℕ → ℕ → Bool) (place : ℕ) (entries : List ℕ) (i d entry : ℕ) → i < length entries
    → slice_index_or entries i d ≡ entry → 1 ≤ entry
    → ((f t : ℕ) → new f t ≡ (old f t || ((f == place) && (t == entry - 1))))
    → Adds start old place (take i entries) → Adds start new place (take (i + 1) entries)
Adds-more start old new place entries i d entry inside is some added before from to = (gone, come) where
  more : take (i + 1) entries ≡ take i entries ++ entry ∷ []
  more = (take_at_read entries i d inside).1 ∙ ap (λ n. take i entries ++ n ∷ []) is

  one : (new from to ≡ true) ↔ ((old from to ≡ true) ⊎ ((from ≡ place) × (to ≡ entry - 1)))
  one = added_is (old from to) from place to (entry - 1) (new from to) (added from to)

  gone : new from to ≡ true → (start from to ≡ true) ⊎ ((from ≡ place) × Contains (take (i + 1) entries) (to + 1))
  gone at = ⊎_elim
      (λ at_old. ⊎_elim
      (λ at_start. inl at_start)
      (λ (listed : (from ≡ place) × Contains (take i entries) (to + 1)).
      inr (listed.0, rw more (Contains-append_left _ _ _ listed.1)))
      ((before from to).0 at_old))
      (λ (is_new : (from ≡ place) × (to ≡ entry - 1)). let same : entry ≡ to + 1 = omega (arith, is_new.1, some) in
      inr (is_new.0, rw more (subst (λ (n : ℕ). Contains (take i entries ++ entry ∷ []) n) same (Contains-push (take i entries) entry))))
      (one.0 at)

  come : (start from to ≡ true) ⊎ ((from ≡ place) × Contains (take (i + 1) entries) (to + 1)) → new from to ≡ true
  come (inl at) = one.1 (inl ((before from to).1 (inl at)))
  come (inr listed) = ⊎_elim
      (λ in_old. one.1 (inl ((before from to).1 (inr (listed.0, in_old)))))
      (λ last. one.1 (inr (listed.0, omega (arith, last, some))))
      (Contains-push_cases (take i entries) entry (to + 1) (rw more at listed.1))

pub Adds-all : (start new : ℕ → ℕ → Bool) (place : ℕ) (entries : List ℕ) (i : ℕ) → length entries ≤ i
    → Adds start new place (take i entries) → Adds start new place entries
Adds-all start new place entries i end added = subst (λ (l : List ℕ). Adds start new place l) (take_all i entries end) added

-- two tests that agree, and gain the same, agree again
pub agree-more : (old new other_old other_new : ℕ → ℕ → Bool) (place : ℕ) (entries : List ℕ) → Adds old new place entries
    → Adds other_old other_new place entries → ((f t : ℕ) → other_old f t ≡ old f t) → (f t : ℕ) → other_new f t ≡ new f t
agree-more old new other_old other_new place entries added also agree f t = by (other_new f t) (new f t) to_new from_new where
  to_new : other_new f t ≡ true → new f t ≡ true
  to_new at = (added f t).1 (as_before ((also f t).0 at)) where
    as_before : (other_old f t ≡ true) ⊎ ((f ≡ place) × Contains entries (t + 1)) → (old f t ≡ true) ⊎ ((f ≡ place) × Contains entries (t + 1))
    as_before (inl is) = inl (sym (agree f t) ∙ is)
    as_before (inr is) = inr is

  from_new : new f t ≡ true → other_new f t ≡ true
  from_new at = (also f t).1 (as_before ((added f t).0 at)) where
    as_before : (old f t ≡ true) ⊎ ((f ≡ place) × Contains entries (t + 1)) → (other_old f t ≡ true) ⊎ ((f ≡ place) × Contains entries (t + 1))
    as_before (inl is) = inl (agree f t ∙ is)
    as_before (inr is) = inr is

  by : (a b : Bool) → (a ≡ true → b ≡ true) → (b ≡ true → a ≡ true) → a ≡ b
  by true b there back = sym (there refl)
  by false true there back = back refl
  by false false there back = refl

-- the rows lead on exactly where the setup has a wire from an exit numbered below n
pub record IsNetBelow (n : ℕ) (wiring : Wiring) (rows : List (List ℕ)) : Type 0 where
  pub lawful : 1 < n → IsLawfulWiring wiring
  pub wires :
      (from to : Hub) (g h : ℕ) → number_of from ≡ Some g → number_of to ≡ Some h
      → (leads rows (g - 1) (h - 1) ≡ true) ↔ ((g < n) × HasWire wiring from to)

-- no hub is numbered below 1
pub IsNetBelow-first : (wiring : Wiring) (rows : List (List ℕ)) → ((from to : ℕ) → leads rows from to ≡ false)
    → IsNetBelow 1 wiring rows
IsNetBelow-first wiring rows empty = record {
  lawful = λ never. absurd (omega arith);
  wires = λ from to g h is and_is.
      let range = number_of-range from g is in (
        λ at. absurd (false≢true (sym (empty (g - 1) (h - 1)) ∙ at)),
        λ wire. let low = wire.0 in absurd (omega (arith, low, range.0)),
      );
}

-- the wires of the exit with the number n bring the rows from those below n to those below n + 1
pub IsNetBelow-more :
    (n : ℕ) (wiring : Wiring) (exit : Hub) (entries : List ℕ) (old new : List (List ℕ)) → 1 ≤ n
    → number_of exit ≡ Some n
    → ((entry : Hub) (number : ℕ) → number_of entry ≡ Some number → Contains entries number ↔ HasWire wiring exit entry)
    → IsLawfulWiring wiring → AddsRow old new (n - 1) entries
    → IsNetBelow n wiring old → IsNetBelow (n + 1) wiring new
IsNetBelow-more n wiring exit entries old new some is_exit listed lawful added below = record {
  lawful = λ _. lawful;
  wires = λ from to g h is and_is. (
    λ at. ⊎_elim
        (λ before. let wire = (below.wires from to g h is and_is).0 before in
        (omega (arith, wire.0), wire.1))
        (λ here.
        let range = number_of-range from g is in
        let range_to = number_of-range to h and_is in
        let same : n ≡ g = omega (arith, here.0, range.0, some) in
        let number : h - 1 + 1 ≡ h = omega (arith, range_to.0) in
        let hub : exit ≡ from = number_of-injective exit from g (is_exit ∙ ap Some same) is in
        let wire = (listed to h and_is).0 (subst (λ (m : ℕ). Contains entries m) number here.1) in
        (omega (arith, same), subst (λ (f : Hub). HasWire wiring f to) hub wire))
        ((added (g - 1) (h - 1)).0 at),
    λ wire. ⊎_elim
        (λ (low : g < n). (added (g - 1) (h - 1)).1 (inl ((below.wires from to g h is and_is).1 (low, wire.1))))
        (λ high.
        let range_to = number_of-range to h and_is in
        let same : n ≡ g = omega (arith, high, wire.0) in
        let number : h ≡ h - 1 + 1 = omega (arith, range_to.0) in
        let place : g - 1 ≡ n - 1 = omega (arith, same) in
        let hub : from ≡ exit = number_of-injective from exit g is (is_exit ∙ ap Some same) in
        let at = (listed to h and_is).1 (subst (λ (f : Hub). HasWire wiring f to) hub wire.1) in
        (added (g - 1) (h - 1)).1 (inr (place, subst (λ (m : ℕ). Contains entries m) number at)))
        (cases_lt g n),
  );
}

-- each number up to 1936 is that of a hub
pub no_hub : (n : ℕ) → 1 ≤ n → n ≤ 1936 → ((hub : Hub) → number_of hub ≡ Some n → None ≡ Some hub) → ⊥
no_hub n from to none =
    let hub = hub_numbered n from to in
    let never = none hub.0 hub.1 in
    cc

-- the exits are numbered up to 1040: then the net is the setup's
pub IsNetOf-all : (n : ℕ) (wiring : Wiring) (net : NetRows) → n ≡ 1041 → IsNetBelow n wiring net.rows → IsNetOf wiring net
IsNetOf-all n wiring net end below from to = by (number_of from) (number_of to) refl refl where
  by : (f t : Option ℕ) → number_of from ≡ f → number_of to ≡ t → (leads_by net.rows f t ≡ true) ↔ HasWire wiring from to
  by (Some g) (Some h) is and_is = (
    λ at. ((below.wires from to g h is and_is).0 at).1,
    λ wire.
        let lawful = below.lawful (omega (arith, end)) in
        let exit = (lawful.leads from to wire).0 in
        let low : g ≤ 1040 = (is_exit-number from g is).0 exit in
        (below.wires from to g h is and_is).1 (omega (arith, low, end), wire),
  )
  by None t is and_is = (λ never. absurd (false≢true never), λ wire. let n = wire.numbered in cc)
  by (Some g) None is and_is = (λ never. absurd (false≢true never), λ wire. let n = wire.entry_numbered in cc)
