-- The picture of the control point: what wires lead to from the exit that tells of the cycle, and what they lead to behind closed contacts.
use Rattle.std.proofs.Common.{⊎_elim, ◌≡◌, ◌∙◌, ℕ, suc, ◌+◌, ◌-◌, ◌<◌, ◌&&◌, ◌||◌, ◌⊎◌, inl, inr, Bool, true, false, List, [], ◌∷◌, length, Option, Some, None, refl, sym, ap, subst, arith}
use Rattle.std.specs.Prelude.{◌==◌, IfSome}
use Rattle.std.specs.Bool.{then_some}
use Rattle.std.proofs.lemmas.Bool.{and_from, and_parts, false≢true, or_cases, or_left, or_right, eq-eqb}
use Rattle.std.proofs.lemmas.Bool.Decides.{nat_tests}
use Rattle.std.proofs.lemmas.List.Folds.{Any-from_list_any, list_any_at}
use Rattle.std.proofs.lemmas.Option.{same_Some}
use Rattle.hubs.proofs.HubLemmas.{hub_numbered, in_range, number_of-injective}
use Rattle.hubs.specs.Hubs.{number_of}
use Rattle.hubs.specs.declared.hub.Hub.{Hub}
use Rattle.hubs.specs.SetupsWords.Wiring.{HasWire, LeadsToEntries, Wiring}
use Rattle.machine_sets.specs.BitSets.Bits.{has_place}
use Rattle.net.specs.HubSets.{HubSet, has_hub, has_number, is_same_number}
use Rattle.net.specs.Impulsed.{IsImpulsed, IsPicture}
use Rattle.net.specs.Impulsed.IsImpulsed.{emitting, led_on}
use Rattle.net.specs.Laws.{FollowsLeads}
use Rattle.net.specs.Nets.{IsNetOf, NetRows, leads_by}
use Rattle.net.specs.Orders.{AreOrdersOf, AreToldBy}
use Rattle.net.specs.Panel.{contact_of}
use Rattle.net.specs.Tells.{kind_of, tells}
use Rattle.net.specs.Tellings.{AreBranches, AreLast, IsBranch, IsTelling, is_branch, is_led_at, is_told}
use Rattle.net.specs.declared.contacts.TheConstants.{CONTACTS}
use Rattle.net.specs.declared.cycle.Cycle.{Cycle}
use Rattle.net.specs.declared.cycle.Cycle.TheVariants.{RunIn, Card, Prog, Head}
use Rattle.net.specs.declared.cycle.ProgramLevel.TheVariants.{Minor, Intermediate, Major, Final}
use Rattle.net.specs.declared.cycle.Ordinal.TheVariants.{First, Second, Third}
use Rattle.net.specs.declared.orders.Orders.{Orders}
use Rattle.net.specs.declared.tellings.Branch.{Branch}
use Rattle.net.specs.declared.tellings.Telling.{Telling}
use Rattle.net.proofs.DirectWires.{exit_numbered}
use Rattle.net.proofs.ImpulsedLaws.{empty_picture, impulsed_within, no_exit_is_entry}
use Rattle.net.proofs.PanelContacts.{IsInRuns, contact_numbered}
use Rattle.net.proofs.TellingLemmas.{AreOrdersOf-same, told-none}

-- the exit of a contact stands among the exits
contact-exit : (common hub : Hub) (n : ℕ) → contact_of hub ≡ Some common → number_of hub ≡ Some (n + 1) → n + 1 < 1041
contact-exit common hub n contact is =
    let found = contact_numbered common hub n contact is in low found.0 n found.2 where
      low : (g h : ℕ) → IsInRuns CONTACTS g h → h + 1 < 1041
      low g h at = grind (arith, at)

module _ (wiring : Wiring) (net : NetRows) (is_net : IsNetOf wiring net) (to_entries : LeadsToEntries wiring) (place : ℕ) (low : place < 1040)
    (exits closed : Hub → Bool) (shut : ℕ → Bool) (branches : List Branch)
    (exits-are : (hub : Hub) → exits hub ≡ is_same_number (Some (place + 1)) (number_of hub))
    (closed-are : (hub : Hub) (n : ℕ) → number_of hub ≡ Some (n + 1) → is_branch branches (n + 1) ≡ true → closed hub ≡ shut n)
    (are : AreBranches 1041 net.rows (is_led_at net.rows place) branches) (last : AreLast shut branches) where
  abbrev pub told : Hub → Bool
  told = is_told (is_led_at net.rows place) (is_led_at net.rows) shut branches

  -- what is led from a hub is that hub, or a wire leads there
  led : (from to : Hub) (p : ℕ) → number_of from ≡ Some (p + 1) → is_led_at net.rows p to ≡ true → (from ≡ to) ⊎ HasWire wiring from to
  led from to p is on = by (or_cases (is_same_number (Some (p + 1)) (number_of to)) (leads_by net.rows (Some (p + 1)) (number_of to)) on) where
    same : (number : Option ℕ) → number_of to ≡ number → is_same_number (Some (p + 1)) number ≡ true → from ≡ to
    same None none e = absurd (false≢true e)
    same (Some n) some e = let numbers : p + 1 ≡ n = grind (arith, nat_tests, e) in number_of-injective from to n (is ∙ ap Some numbers) some

    by : (is_same_number (Some (p + 1)) (number_of to) ≡ true) ⊎ (leads_by net.rows (Some (p + 1)) (number_of to) ≡ true)
        → (from ≡ to) ⊎ HasWire wiring from to
    by (inl here) = inl (same (number_of to) refl here)
    by (inr wire) = inr ((is_net from to).0 (ap (λ n. leads_by net.rows n (number_of to)) is ∙ wire))

  -- and the other way round
  led-own : (hub : Hub) (p : ℕ) → number_of hub ≡ Some (p + 1) → is_led_at net.rows p hub ≡ true
  led-own hub p is =
      or_left (is_same_number (Some (p + 1)) (number_of hub)) _
      (ap (is_same_number (Some (p + 1))) is ∙ eq-eqb (p + 1) (p + 1) refl)

  led-wire : (from to : Hub) (p : ℕ) → number_of from ≡ Some (p + 1) → HasWire wiring from to → is_led_at net.rows p to ≡ true
  led-wire from to p is wire =
      or_right (is_same_number (Some (p + 1)) (number_of to)) _
      (ap (λ n. leads_by net.rows n (number_of to)) (sym is) ∙ (is_net from to).1 wire)

  -- what is led from an impulsed hub is impulsed
  led-impulsed : (from to : Hub) (p : ℕ) → number_of from ≡ Some (p + 1) → IsImpulsed wiring exits closed from
      → is_led_at net.rows p to ≡ true → IsImpulsed wiring exits closed to
  led-impulsed from to p is at on = ⊎_elim
      (λ (same : from ≡ to). subst (IsImpulsed wiring exits closed) same at)
      (λ wire. led_on from to at (inl wire))
      (led from to p is on)

  exit : (hub : Hub) × (number_of hub ≡ Some (place + 1))
  exit = hub_numbered (place + 1) (omega arith) (omega (arith, low))

  exit-impulsed : IsImpulsed wiring exits closed exit.0
  exit-impulsed =
      emitting exit.0 (in_range exit.0 (place + 1) exit.1)
      (exits-are exit.0 ∙ ap (is_same_number (Some (place + 1))) exit.1 ∙ eq-eqb (place + 1) (place + 1) refl)

  base-impulsed : (hub : Hub) → is_led_at net.rows place hub ≡ true → IsImpulsed wiring exits closed hub
  base-impulsed hub on = led-impulsed exit.0 hub place exit.1 exit-impulsed on

  -- each branch is that of a closed contact, where it counts
  branch-impulsed : (k : ℕ) (branch : Branch) → IsBranch net.rows (is_led_at net.rows place) branch → is_branch branches (branch.place + 1) ≡ true
      → shut branch.place ≡ true → (hub : Hub) → is_led_at net.rows branch.place hub ≡ true → IsImpulsed wiring exits closed hub
  branch-impulsed k branch is listed on hub led_there =
      led-impulsed is.exit hub branch.place is.numbered
      (led_on is.common is.exit (base-impulsed is.common is.reached)
      (inr (is.contact, closed-are is.exit branch.place is.numbered listed ∙ on))) led_there

  told-impulsed : (hub : Hub) → told hub ≡ true → IsImpulsed wiring exits closed hub
  told-impulsed hub on = ⊎_elim
      (λ base. base-impulsed hub base)
      (λ some.
      let any = Any-from_list_any (λ (b : Branch). shut b.place && is_led_at net.rows b.place hub) branches some in
      let k = any.0 in
      let branch = any.1 in
      let both = and_parts (shut branch.place) (is_led_at net.rows branch.place hub) any.4 in
      let here = subst (IsBranch net.rows (is_led_at net.rows place)) any.3 (are.each k branch any.2) in
      branch-impulsed k branch here
      (list_any_at (λ (b : Branch). b.place + 1 == branch.place + 1) branches k branch any.2
      (ap (λ (b : Branch). b.place + 1 == branch.place + 1) any.3 ∙ eq-eqb (branch.place + 1) (branch.place + 1) refl))
      both.0 hub both.1)
      (or_cases (is_led_at net.rows place hub) _ on)

  -- a hub that a wire leads from is led from no other
  from-own : (from to : Hub) (p : ℕ) → p < 1936 → HasWire wiring from to → is_led_at net.rows p from ≡ true → number_of from ≡ Some (p + 1)
  from-own from to p few wire on =
      let before = hub_numbered (p + 1) (omega arith) (omega (arith, few)) in
      ⊎_elim
      (λ (same : before.0 ≡ from). ap number_of (sym same) ∙ before.1)
      (λ other. absurd (no_exit_is_entry from (to_entries from to wire).0 (to_entries before.0 from other).1))
      (led before.0 from p before.1 on)

  told-wire : (from to : Hub) → told from ≡ true → HasWire wiring from to → told to ≡ true
  told-wire from to on wire = ⊎_elim
      (λ base. or_left (is_led_at net.rows place to) _
      (led-wire from to place (from-own from to place (omega (arith, low)) wire base) wire))
      (λ some.
      let any = Any-from_list_any (λ (b : Branch). shut b.place && is_led_at net.rows b.place from) branches some in
      let k = any.0 in
      let branch = any.1 in
      let both = and_parts (shut branch.place) (is_led_at net.rows branch.place from) any.4 in
      let here = subst (IsBranch net.rows (is_led_at net.rows place)) any.3 (are.each k branch any.2) in
      let few = contact-exit here.common here.exit branch.place here.contact here.numbered in
      let there = led-wire from to branch.place (from-own from to branch.place (omega (arith, few)) wire both.1) wire in
      or_right (is_led_at net.rows place to) _
      (list_any_at (λ (b : Branch). shut b.place && is_led_at net.rows b.place to) branches k branch any.2
      (ap (λ (b : Branch). shut b.place && is_led_at net.rows b.place to) any.3
      ∙ and_from (shut branch.place) (is_led_at net.rows branch.place to) both.0 there)))
      (or_cases (is_led_at net.rows place from) _ on)

  -- a hub that is led to has a number
  numbered : (hub : Hub) (p : ℕ) → is_led_at net.rows p hub ≡ true → (n : ℕ) × (number_of hub ≡ Some n)
  numbered hub p on = by (number_of hub) refl on where
    by : (number : Option ℕ) → number_of hub ≡ number
        → (is_same_number (Some (p + 1)) number || leads_by net.rows (Some (p + 1)) number) ≡ true → (n : ℕ) × (number_of hub ≡ Some n)
    by (Some n) is there = (n, is)
    by None is there = absurd (false≢true there)

  told-contact : (from to : Hub) → told from ≡ true → contact_of to ≡ Some from → closed to ≡ true → told to ≡ true
  told-contact from to on contact on_to = ⊎_elim
      (λ base.
      let number = numbered from place base in
      let at = exit_numbered to from number.0 contact number.1 in
      let listed = are.all from to (at.0 + 1) (contact-exit from to at.0 contact at.1) at.1 contact base in
      let any = Any-from_list_any (λ (b : Branch). b.place + 1 == at.0 + 1) branches listed in
      let branch = any.1 in
      let same : branch.place ≡ at.0 = equal branch.place at.0 any.4 in
      let closes : shut branch.place ≡ true = ap shut same ∙ sym (closed-are to at.0 at.1 listed) ∙ on_to in
      let own : is_led_at net.rows branch.place to ≡ true = led-own to branch.place (at.1 ∙ ap (λ (p : ℕ). Some (p + 1)) (sym same)) in
      or_right (is_led_at net.rows place to) _
      (list_any_at (λ (b : Branch). shut b.place && is_led_at net.rows b.place to) branches any.0 branch any.2
      (ap (λ (b : Branch). shut b.place && is_led_at net.rows b.place to) any.3
      ∙ and_from (shut branch.place) (is_led_at net.rows branch.place to) closes own)))
      (λ some.
      let any = Any-from_list_any (λ (b : Branch). shut b.place && is_led_at net.rows b.place from) branches some in
      let k = any.0 in
      let branch = any.1 in
      let both = and_parts (shut branch.place) (is_led_at net.rows branch.place from) any.4 in
      let here = subst (IsBranch net.rows (is_led_at net.rows place)) any.3 (are.each k branch any.2) in
      let final = subst (λ (b : Branch). shut b.place ≡ true → b.is_last ≡ true) any.3 (last k branch any.2) in
      absurd (false≢true (sym (here.last (final both.0) from to contact) ∙ both.1)))
      (or_cases (is_led_at net.rows place from) _ on)
    where
      equal : (one other : ℕ) → (one + 1 == other + 1) ≡ true → one ≡ other
      equal one other e = grind (arith, nat_tests, e)

  pub told-picture : IsPicture wiring exits closed told
  told-picture hub = (
    told-impulsed hub,
    λ at. impulsed_within wiring exits closed told
        (λ h there emits. or_left (is_led_at net.rows place h) _
        (or_left (is_same_number (Some (place + 1)) (number_of h)) _ (sym (exits-are h) ∙ emits)))
        follows at,
  ) where
    follows : FollowsLeads wiring closed told
    follows from to on (inl wire) = told-wire from to on wire
    follows from to on (inr contact) = told-contact from to on contact.0 contact.1

-- the exit that tells of a cycle is the one of its kind
pub tells-kind : (cycle : Cycle) (kind : ℕ) → kind_of cycle ≡ Some kind → (hub : Hub) → tells cycle hub ≡ is_same_number (Some (1024 + kind + 1)) (number_of hub)
tells-kind RunIn kind is hub = cc
tells-kind Card kind is hub = ap (λ (k : ℕ). is_same_number (Some (1024 + k + 1)) (number_of hub)) (same_Some 0 kind is)
tells-kind (Prog Minor First) kind is hub = ap (λ (k : ℕ). is_same_number (Some (1024 + k + 1)) (number_of hub)) (same_Some _ kind is)
tells-kind (Prog Minor Second) kind is hub = ap (λ (k : ℕ). is_same_number (Some (1024 + k + 1)) (number_of hub)) (same_Some _ kind is)
tells-kind (Prog Minor Third) kind is hub = ap (λ (k : ℕ). is_same_number (Some (1024 + k + 1)) (number_of hub)) (same_Some _ kind is)
tells-kind (Prog Intermediate First) kind is hub = ap (λ (k : ℕ). is_same_number (Some (1024 + k + 1)) (number_of hub)) (same_Some _ kind is)
tells-kind (Prog Intermediate Second) kind is hub = ap (λ (k : ℕ). is_same_number (Some (1024 + k + 1)) (number_of hub)) (same_Some _ kind is)
tells-kind (Prog Intermediate Third) kind is hub = ap (λ (k : ℕ). is_same_number (Some (1024 + k + 1)) (number_of hub)) (same_Some _ kind is)
tells-kind (Prog Major First) kind is hub = ap (λ (k : ℕ). is_same_number (Some (1024 + k + 1)) (number_of hub)) (same_Some _ kind is)
tells-kind (Prog Major Second) kind is hub = ap (λ (k : ℕ). is_same_number (Some (1024 + k + 1)) (number_of hub)) (same_Some _ kind is)
tells-kind (Prog Major Third) kind is hub = ap (λ (k : ℕ). is_same_number (Some (1024 + k + 1)) (number_of hub)) (same_Some _ kind is)
tells-kind (Prog Final First) kind is hub = ap (λ (k : ℕ). is_same_number (Some (1024 + k + 1)) (number_of hub)) (same_Some _ kind is)
tells-kind (Prog Final Second) kind is hub = ap (λ (k : ℕ). is_same_number (Some (1024 + k + 1)) (number_of hub)) (same_Some _ kind is)
tells-kind (Prog Final Third) kind is hub = ap (λ (k : ℕ). is_same_number (Some (1024 + k + 1)) (number_of hub)) (same_Some _ kind is)
tells-kind (Head First) kind is hub = ap (λ (k : ℕ). is_same_number (Some (1024 + k + 1)) (number_of hub)) (same_Some _ kind is)
tells-kind (Head Second) kind is hub = ap (λ (k : ℕ). is_same_number (Some (1024 + k + 1)) (number_of hub)) (same_Some _ kind is)
tells-kind (Head Third) kind is hub = ap (λ (k : ℕ). is_same_number (Some (1024 + k + 1)) (number_of hub)) (same_Some _ kind is)

-- what is told in a cycle of a kind
pub kind-told : (wiring : Wiring) (net : NetRows) (cycle : Cycle) (kind : ℕ) (closed : HubSet) (telling : Telling) (orders : Orders)
    (words : List ℕ) (branches : List Branch)
    → IsNetOf wiring net → LeadsToEntries wiring → kind_of cycle ≡ Some kind → kind < 16 → IsTelling net.rows (1024 + kind) telling
    → words ≡ closed.words → branches ≡ telling.branches.items
    → AreOrdersOf (is_told (is_led_at net.rows (1024 + kind)) (is_led_at net.rows) (has_place words) branches) orders
    → AreLast (has_place words) branches → AreToldBy wiring cycle (has_hub closed) orders
kind-told wiring net cycle kind closed telling orders words branches is_net to_entries is few telling_is same_words same_branches are last = record {
  picture = is_told (is_led_at net.rows (1024 + kind)) (is_led_at net.rows) (has_place words) branches;
  is_picture =
      told-picture wiring net is_net to_entries (1024 + kind) (omega (arith, few)) (tells cycle) (has_hub closed) (has_place words) branches
      (tells-kind cycle kind is) shut
      (subst (λ (some : List Branch). AreBranches 1041 net.rows (is_led_at net.rows (1024 + kind)) some) (sym same_branches) telling_is.branches)
      last;
  are_orders = are;
}
  where
    shut : (hub : Hub) (n : ℕ) → number_of hub ≡ Some (n + 1) → is_branch branches (n + 1) ≡ true → has_hub closed hub ≡ has_place words n
    shut hub n numbered listed =
        let index : n + 1 - 1 ≡ n = omega arith in
        ap (has_number closed) numbered ∙ ap (has_place closed.words) index ∙ ap (λ (w : List ℕ). has_place w n) (sym same_words)

-- where no contact is reached the contacts don't count
pub kind-told-by-wires : (wiring : Wiring) (net : NetRows) (cycle : Cycle) (kind : ℕ) (closed : Hub → Bool) (telling : Telling)
    → IsNetOf wiring net → LeadsToEntries wiring → kind_of cycle ≡ Some kind → kind < 16 → IsTelling net.rows (1024 + kind) telling
    → telling.branches.items ≡ [] → AreToldBy wiring cycle closed telling.base
kind-told-by-wires wiring net cycle kind closed telling is_net to_entries is few telling_is none = record {
  picture = is_told (is_led_at net.rows (1024 + kind)) (is_led_at net.rows) (λ place. false) [];
  is_picture =
      told-picture wiring net is_net to_entries (1024 + kind) (omega (arith, few)) (tells cycle) closed (λ place. false) [] (tells-kind cycle kind is)
      (λ hub n numbered listed. absurd (false≢true listed))
      (subst (λ (some : List Branch). AreBranches 1041 net.rows (is_led_at net.rows (1024 + kind)) some) none telling_is.branches)
      (λ k d never. absurd (omega (arith, never)));
  are_orders =
      AreOrdersOf-same (is_led_at net.rows (1024 + kind)) (is_told (is_led_at net.rows (1024 + kind)) (is_led_at net.rows) (λ place. false) [])
      telling.base (told-none (is_led_at net.rows (1024 + kind)) (is_led_at net.rows) (λ place. false)) telling_is.base;
}

-- nothing is told in the run-in
pub none-told : (wiring : Wiring) (cycle : Cycle) (closed : Hub → Bool) (orders : Orders) → kind_of cycle ≡ None → AreOrdersOf (λ hub. false) orders
    → AreToldBy wiring cycle closed orders
none-told wiring RunIn closed orders is are = record {
  picture = λ hub. false;
  is_picture = empty_picture wiring (λ hub. false) closed (λ hub. refl);
  are_orders = are;
}
none-told wiring Card closed orders is are = cc
none-told wiring (Prog level ordinal) closed orders is are = cc
none-told wiring (Head heading) closed orders is are = cc

-- two facts on what was found
pub found-both : {X : Type 0} (P Q R : X → Type 0) (found : Option X) → IfSome found P → IfSome found Q → ((x : X) → P x → Q x → R x)
    → IfSome found R
found-both P Q R (Some x) p q both = both x p q
found-both P Q R None p q both = tt

-- what is found where a test holds
pub found-if : {X : Type 0} (P : X → Type 0) (test : Bool) (x : X) → (test ≡ true → P x) → IfSome (then_some test x) P
found-if P true x holds = holds refl
found-if P false x holds = tt

-- a list without length is empty
pub none-of : {X : Type 0} (xs : List X) → (length xs == 0) ≡ true → xs ≡ []
none-of [] e = refl
none-of (x ∷ xs) e = absurd (by (length xs) e) where
  by : (n : ℕ) → (suc n == 0) ≡ true → ⊥
  by n e = grind (arith, nat_tests, e)
