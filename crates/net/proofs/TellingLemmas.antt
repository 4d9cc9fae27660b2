-- Exits that tell of cycles: rows that are joined, what is led from a hub, and the branches of contacts, one after another.
use Rattle.std.proofs.Common.{⊎_elim, ◌≡◌, ◌∙◌, ℕ, ◌+◌, ◌-◌, ◌<◌, ◌≤◌, ◌&&◌, ◌||◌, ◌⊎◌, inl, inr, Bool, true, false, List, [], ◌∷◌, ◌++◌, Option, Some, None, length, get_or, take, refl, sym, ap, subst, arith}
use Rattle.std.specs.Prelude.{◌==◌, nat_le, nat_lt, ◌↔◌}
use Rattle.std.specs.Int.Bits.{bit_or}
use Rattle.std.proofs.Math.Bool.{and-false}
use Rattle.std.proofs.lemmas.Bool.{cases_lt, false≢true, or_cases, or_left, or_right, eq-eqb}
use Rattle.std.proofs.lemmas.Bool.Decides.{nat_tests}
use Rattle.std.proofs.lemmas.Grind.{common_steps, take_at_read}
use Rattle.std.proofs.lemmas.List.Elements.{All-push}
use Rattle.std.proofs.lemmas.List.Folds.{list_any-append, list_any_more}
use Rattle.std.proofs.lemmas.Option.{same_Some}
use Rattle.std.specs.List.{list_any}
use Rattle.hubs.proofs.HubLemmas.{number_of-injective, number_of-range}
use Rattle.hubs.specs.Hubs.{number_of}
use Rattle.hubs.specs.declared.hub.Hub.{Hub}
use Rattle.machine_sets.proofs.BitSets.BitLemmas.{is_bit-or, is_bit-zero}
use Rattle.machine_sets.proofs.BitSets.LedLemmas.{leads-past}
use Rattle.machine_sets.proofs.BitSets.PlaceLemmas.{has_place-past}
use Rattle.machine_sets.specs.BitSets.Bits.{has_place}
use Rattle.machine_sets.specs.BitSets.Contacts.{AreCommons, ArePlacesApart}
use Rattle.machine_sets.specs.BitSets.Reached.{IsReached}
use Rattle.machine_sets.specs.BitSets.Reached.IsReached.{emitting, by_row, by_contact}
use Rattle.machine_sets.specs.BitSets.Rows.{leads}
use Rattle.net.specs.HubSets.{has_hub, has_number, is_bit, is_bit_from, is_in_row, is_same_number}
use Rattle.net.specs.Nets.{leads_by}
use Rattle.net.specs.Orders.{AreOrdersOf, IsRowOf, ordered}
use Rattle.net.specs.Panel.{contact_of}
use Rattle.net.specs.Tellings.{AddsBranch, AreBranches, AreLast, IsBranch, IsTelling, is_branch, is_led_at, is_passed_to, is_told}
use Rattle.net.specs.declared.contacts.TheConstants.{CONTACTS}
use Rattle.net.specs.declared.orders.Orders.{Orders}
use Rattle.net.specs.declared.tellings.Branch.{Branch}
use Rattle.net.specs.declared.tellings.Telling.{Telling}
use Rattle.net.proofs.DirectWires.{exit_numbered}
use Rattle.net.proofs.PanelContacts.{contact_numbered, of_runs}

-- a row of two words together
in_row-or : (first hub : Hub) (a b : ℕ) → is_in_row first (bit_or a b) hub ≡ (is_in_row first a hub || is_in_row first b hub)
in_row-or first hub a b = by (number_of first) (number_of hub) where
  both : (low x y z : Bool) → z ≡ (x || y) → (low && z) ≡ ((low && x) || (low && y))
  both low x y z e = grind (arith, nat_tests, e)

  by : (f n : Option ℕ) → is_bit_from f (bit_or a b) n ≡ (is_bit_from f a n || is_bit_from f b n)
  by (Some f) (Some n) = both (nat_le f n) (is_bit a (n - f)) (is_bit b (n - f)) _ (is_bit-or a b (n - f))
  by (Some f) None = refl
  by None n = refl

pub row-joined : (first : Hub) (one other : Hub → Bool) (a b : ℕ) → IsRowOf first one a → IsRowOf first other b
    → IsRowOf first (λ hub. one hub || other hub) (bit_or a b)
row-joined first one other a b is and_is hub near =
    in_row-or first hub a b ∙ ap (λ x. x || is_in_row first b hub) (is hub near) ∙ ap (λ x. one hub || x) (and_is hub near)

-- a row without bits
pub in_row-none : (first hub : Hub) → is_in_row first 0 hub ≡ false
in_row-none first hub = by (number_of first) (number_of hub) where
  by : (f n : Option ℕ) → is_bit_from f 0 n ≡ false
  by (Some f) (Some n) = ap (λ b. nat_le f n && b) (is_bit-zero (n - f)) ∙ and-false _
  by (Some f) None = refl
  by None n = refl

pub row-none : (first : Hub) → IsRowOf first (λ hub. false) 0
row-none first hub near = in_row-none first hub

-- two answers that follow from one another
both_ways : (a b : Bool) → (a ≡ true → b ≡ true) → (b ≡ true → a ≡ true) → a ≡ b
both_ways true b there back = sym (there refl)
both_ways false true there back = back refl
both_ways false false there back = refl

module _ (rows : List (List ℕ)) (place : ℕ) (short : length rows ≤ 1040) (onward : (from to : ℕ) → leads rows from to ≡ true → 1040 ≤ to) where
  -- where one place emits and no contact is closed, that place is reached and what its row leads to
  reached-led : (emits : List ℕ) → ((p : ℕ) → has_place emits p ≡ (p == place)) → {at : ℕ} → IsReached rows CONTACTS emits [] at
      → (at ≡ place) ⊎ (leads rows place at ≡ true)
  reached-led emits alone (emitting p on) = inl (same p (sym (alone p) ∙ on)) where
    same : (one : ℕ) → (one == place) ≡ true → one ≡ place
    same one e = grind (arith, nat_tests, e)
  reached-led emits alone (by_row from to at led) = ⊎_elim
      (λ here. inr (ap (λ (p : ℕ). leads rows p to) (sym here) ∙ led))
      (λ there. absurd (false≢true (sym (leads-past rows from to (past (onward place from there))) ∙ led)))
      (reached-led emits alone at) where
        past : {n : ℕ} → 1040 ≤ n → length rows ≤ n
        past le = omega (arith, le, short)
  reached-led emits alone (by_contact from to at contact shut) =
      absurd (false≢true (sym (has_place-past [] to (omega arith)) ∙ shut))

  -- so the set that is found has the hub of the place, and those that its row leads to
  pub led-found : (emits found out : List ℕ) → ((p : ℕ) → has_place emits p ≡ (p == place))
      → ((p : ℕ) → (has_place found p ≡ true) ↔ IsReached rows CONTACTS emits [] p)
      → ((p : ℕ) → p < 1936 → has_place out p ≡ has_place found p) → (hub : Hub)
      → has_hub (record { words = out }) hub ≡ is_led_at rows place hub
  led-found emits found out alone reached kept hub = by (number_of hub) refl where
    index : (n : ℕ) → 1 ≤ n → (n - 1 == place) ≡ (place + 1 == n)
    index n low = grind (arith, nat_tests)

    taken : place + 1 - 1 ≡ place
    taken = omega arith

    at : (q : ℕ) → has_place found q ≡ ((q == place) || leads rows place q)
    at q = both_ways (has_place found q) ((q == place) || leads rows place q)
        (λ on. ⊎_elim (λ here. or_left (q == place) _ (eq-eqb q place here)) (λ led. or_right (q == place) _ led)
        (reached-led emits alone ((reached q).0 on)))
        (λ on. ⊎_elim
        (λ here. (reached q).1 (emitting q (alone q ∙ here)))
        (λ led. (reached q).1 (by_row place q (emitting place (alone place ∙ eq-eqb place place refl)) led))
        (or_cases (q == place) (leads rows place q) on))

    by : (number : Option ℕ) → number_of hub ≡ number
        → has_number (record { words = out }) number ≡ (is_same_number (Some (place + 1)) number || leads_by rows (Some (place + 1)) number)
    by None is = refl
    by (Some n) is =
        let range = number_of-range hub n is in
        kept (n - 1) (omega (arith, range.0, range.1)) ∙ at (n - 1)
        ∙ ap (λ b. b || leads rows place (n - 1)) (index n range.0)
        ∙ ap (λ (p : ℕ). (place + 1 == n) || leads rows p (n - 1)) (sym taken)

-- no contact leads from a hub of a set that has no common place
pub no-commons : (commons words : List ℕ) → AreCommons CONTACTS commons → ArePlacesApart commons words → (common hub : Hub)
    → contact_of hub ≡ Some common → has_hub (record { words = words }) common ≡ false
no-commons commons words are apart common hub contact = by (number_of common) refl where
  index : (n g : ℕ) → n ≡ g + 1 → n - 1 ≡ g
  index n g e = omega (arith, e)

  below : (g n : ℕ) → n - 1 ≡ g → 1 ≤ n → n ≤ 1936 → g < 1984
  below g n e first last = omega (arith, e, first, last)

  by : (number : Option ℕ) → number_of common ≡ number → has_number (record { words = words }) number ≡ false
  by None is = refl
  by (Some n) is =
      let at = exit_numbered hub common n contact is in
      let found = contact_numbered common hub at.0 contact at.1 in
      let range = number_of-range common n is in
      let place : n - 1 ≡ found.0 = index n found.0 (same_Some _ _ (sym is ∙ found.1)) in
      ap (λ (p : ℕ). has_place words p) place
      ∙ apart found.0 (are found.0 at.0 (below found.0 n place range.0 range.1) (of_runs CONTACTS found.0 at.0 found.2))

-- a picture without such hubs has no branches
pub AreBranches-none : (number : ℕ) (rows : List (List ℕ)) (base : Hub → Bool)
    → ((common hub : Hub) → contact_of hub ≡ Some common → base common ≡ false) → AreBranches number rows base []
AreBranches-none number rows base none = record {
  each = λ k d never. absurd (omega (arith, never));
  all = λ common hub n low numbered contact on. absurd (false≢true (sym (none common hub contact) ∙ on));
}

-- no exit is numbered below 1
pub AreBranches-first : (rows : List (List ℕ)) (base : Hub → Bool) → AreBranches 1 rows base []
AreBranches-first rows base = record {
  each = λ k d never. absurd (omega (arith, never));
  all = λ common hub n low numbered contact on.
      let range = number_of-range hub n numbered in absurd (omega (arith, low, range.0));
}

-- one exit more
pub AreBranches-more : (number : ℕ) (rows : List (List ℕ)) (base : Hub → Bool) (exit : Hub) (old new : List Branch)
    → number_of exit ≡ Some number → AddsBranch rows base exit number old new → AreBranches number rows base old
    → AreBranches (number + 1) rows base new
AreBranches-more number rows base exit old new is adds before = record {
  each = adds.each before.each;
  all = λ common hub n low numbered contact on. ⊎_elim
      (λ (below : n < number). adds.kept n (before.all common hub n below numbered contact on))
      (λ above.
      let same : n ≡ number = omega (arith, low, above) in
      let hubs : hub ≡ exit = number_of-injective hub exit n numbered (is ∙ ap Some (sym same)) in
      subst (λ (m : ℕ). is_branch new m ≡ true) (sym same) (adds.there common (ap contact_of (sym hubs) ∙ contact) on))
      (cases_lt n number);
}

-- the branch of an exit
pub AddsBranch-more : (rows : List (List ℕ)) (base : Hub → Bool) (exit common : Hub) (number : ℕ) (old : List Branch) (branch : Branch)
    → IsBranch rows base branch → branch.place + 1 ≡ number → AddsBranch rows base exit number old (old ++ branch ∷ [])
AddsBranch-more rows base exit common number old branch is here = record {
  each = λ all. All-push (IsBranch rows base) old branch all is;
  kept = λ n on. list_any-append (λ (b : Branch). b.place + 1 == n) old (branch ∷ []) ∙ or_left (is_branch old n) _ on;
  there = λ _ contact on.
      list_any-append (λ (b : Branch). b.place + 1 == number) old (branch ∷ [])
      ∙ or_right (is_branch old number) _ (or_left (branch.place + 1 == number) false (eq-eqb (branch.place + 1) number here));
}

-- an exit without one
pub AddsBranch-none : (rows : List (List ℕ)) (base : Hub → Bool) (exit : Hub) (number : ℕ) (old : List Branch)
    → ((common : Hub) → contact_of exit ≡ Some common → base common ≡ false) → AddsBranch rows base exit number old old
AddsBranch-none rows base exit number old none = record {
  each = λ all. all;
  kept = λ n on. on;
  there = λ common contact on. absurd (false≢true (sym (none common contact) ∙ on));
}

-- What so many of the exits that tell of cycles tell, up to a place.
pub record AreTellingsTo (rows : List (List ℕ)) (place : ℕ) (tellings : List Telling) : Type 0 where
  pub long : 1024 + length tellings ≡ place
  pub each : (kind : ℕ) (d : Telling) → kind < length tellings → IsTelling rows (1024 + kind) (get_or tellings kind d)

pub Tellings-first : (rows : List (List ℕ)) (tellings : List Telling) → tellings ≡ [] → AreTellingsTo rows 1024 tellings
Tellings-first rows tellings none = rw none (record { long = refl; each = λ kind d never. absurd (omega (arith, never)) })

pub Tellings-more : (rows : List (List ℕ)) (place : ℕ) (old new : List Telling) (telling : Telling) → new ≡ old ++ telling ∷ []
    → IsTelling rows place telling → AreTellingsTo rows place old → AreTellingsTo rows (place + 1) new
Tellings-more rows place old new telling is here before = rw is (record {
  long = let long = before.long in let more : length (old ++ telling ∷ []) ≡ length old + 1 = grind (arith, common_steps) in omega (arith, long, more);
  each = λ kind d low. ⊎_elim
      (λ (below : kind < length old).
      let read : get_or (old ++ telling ∷ []) kind d ≡ get_or old kind d = grind (arith, common_steps, below) in
      subst (IsTelling rows (1024 + kind)) (sym read) (before.each kind d below))
      (λ above.
      let more : length (old ++ telling ∷ []) ≡ length old + 1 = grind (arith, common_steps) in
      let last : kind ≡ length old = omega (arith, low, above, more) in
      let read : get_or (old ++ telling ∷ []) kind d ≡ telling = grind (arith, common_steps, last) in
      let long = before.long in
      let same : place ≡ 1024 + kind = omega (arith, long, last) in
      subst (IsTelling rows (1024 + kind)) (sym read) (subst (λ (p : ℕ). IsTelling rows p telling) same here))
      (cases_lt kind (length old));
})

-- orders of pictures that have the same hubs
pub AreOrdersOf-same : (one other : Hub → Bool) (orders : Orders) → ((hub : Hub) → one hub ≡ other hub) → AreOrdersOf one orders
    → AreOrdersOf other orders
AreOrdersOf-same one other orders same are =
    let is : ◌≡◌ {A = Hub → Bool} one other = λ i hub. same hub i in subst (λ (p : Hub → Bool). AreOrdersOf p orders) is are

-- one branch more, whose contact is closed
pub told-closed : (first : Hub → Bool) (led : ℕ → Hub → Bool) (closed : ℕ → Bool) (branches : List Branch) (i : ℕ) (d : Branch)
    → i < length branches → closed (get_or branches i d).place ≡ true → (hub : Hub)
    → (is_told first led closed (take i branches) hub || led (get_or branches i d).place hub) ≡ is_told first led closed (take (i + 1) branches) hub
told-closed first led closed branches i d inside shut hub =
    sym
    (ap (λ b. first hub || b) (list_any_more (λ (b : Branch). closed b.place && led b.place hub) branches i d inside)
    ∙ by (first hub) (list_any (λ (b : Branch). closed b.place && led b.place hub) (take i branches)) _ (led (get_or branches i d).place hub) shut)
  where
    by : (f a c l : Bool) → c ≡ true → (f || (a || (c && l))) ≡ ((f || a) || l)
    by f a c l e = grind (arith, nat_tests, e)

-- or open
pub told-open : (first : Hub → Bool) (led : ℕ → Hub → Bool) (closed : ℕ → Bool) (branches : List Branch) (i : ℕ) (d : Branch)
    → i < length branches → closed (get_or branches i d).place ≡ false → (hub : Hub)
    → is_told first led closed (take i branches) hub ≡ is_told first led closed (take (i + 1) branches) hub
told-open first led closed branches i d inside off hub =
    sym
    (ap (λ b. first hub || b) (list_any_more (λ (b : Branch). closed b.place && led b.place hub) branches i d inside)
    ∙ by (first hub) (list_any (λ (b : Branch). closed b.place && led b.place hub) (take i branches)) _ (led (get_or branches i d).place hub) off)
  where
    by : (f a c l : Bool) → c ≡ false → (f || (a || (c && l))) ≡ (f || a)
    by f a c l e = grind (arith, nat_tests, e)

-- no branch yet
pub told-none : (first : Hub → Bool) (led : ℕ → Hub → Bool) (closed : ℕ → Bool) (hub : Hub) → first hub ≡ is_told first led closed [] hub
told-none first led closed hub = by (first hub) where
  by : (b : Bool) → b ≡ (b || false)
  by true = refl
  by false = refl

-- none behind a closed contact reaches another
pub AreLast-more : (closed : ℕ → Bool) (branches : List Branch) (i : ℕ) (d : Branch) → i < length branches
    → (closed (get_or branches i d).place ≡ true → (get_or branches i d).is_last ≡ true) → AreLast closed (take i branches)
    → AreLast closed (take (i + 1) branches)
AreLast-more closed branches i d inside last before =
    subst (AreLast closed) (sym (take_at_read branches i d inside).1)
    (All-push (λ (b : Branch). closed b.place ≡ true → b.is_last ≡ true) (take i branches) (get_or branches i d) before last)

-- hubs in reach of one row are out of reach of a later one, and the other way round
abbrev is_in_range : ℕ → ℕ → Option ℕ → Bool
is_in_range from end (Some n) = nat_le from n && nat_lt n end
is_in_range from end None = false

apart : (from end later far : ℕ) → end ≤ later → (given : Option ℕ) → is_in_range from end given ≡ true → is_in_range later far given ≡ false
apart from end later far le (Some n) e = grind (arith, nat_tests, e, le)
apart from end later far le None e = refl

apart_before : (from end later far : ℕ) → end ≤ later → (given : Option ℕ) → is_in_range later far given ≡ true → is_in_range from end given ≡ false
apart_before from end later far le (Some n) e = grind (arith, nat_tests, e, le)
apart_before from end later far le None e = refl

-- the orders are those of the picture that has their hubs alone
pub ordered-orders : (orders : Orders) → AreOrdersOf (ordered orders) orders
ordered-orders orders = record {
  controls = λ hub near.
      one _ _ _ _ _ _ near (apart 1269 1397 1685 1813 (omega arith) (number_of hub) near)
      (apart 1269 1397 1922 2050 (omega arith) (number_of hub) near);
  storage = λ hub near.
      two _ _ _ _ _ _ near (apart_before 1269 1397 1685 1813 (omega arith) (number_of hub) near)
      (apart 1685 1813 1922 2050 (omega arith) (number_of hub) near);
  carriage = λ hub near.
      three _ _ _ _ _ _ near (apart_before 1269 1397 1922 2050 (omega arith) (number_of hub) near)
      (apart_before 1685 1813 1922 2050 (omega arith) (number_of hub) near);
}
  where
    one : (a b c x y z : Bool) → a ≡ true → b ≡ false → c ≡ false → x ≡ ((a && x) || ((b && y) || (c && z)))
    one a b c x y z e f g = grind (arith, nat_tests, e, f, g)

    two : (a b c x y z : Bool) → b ≡ true → a ≡ false → c ≡ false → y ≡ ((a && x) || ((b && y) || (c && z)))
    two a b c x y z e f g = grind (arith, nat_tests, e, f, g)

    three : (a b c x y z : Bool) → c ≡ true → a ≡ false → b ≡ false → z ≡ ((a && x) || ((b && y) || (c && z)))
    three a b c x y z e f g = grind (arith, nat_tests, e, f, g)

-- a hub to which a contact leads from a hub of the base
pub passed : (base : Hub → Bool) (given : Option Hub) → is_passed_to base given ≡ true → (common : Hub) × (given ≡ Some common) × (base common ≡ true)
passed base (Some common) on = (common, refl, on)
passed base None on = absurd (false≢true on)

pub not-passed : (base : Hub → Bool) (given : Option Hub) → is_passed_to base given ≡ false → (common : Hub) → given ≡ Some common
    → base common ≡ false
not-passed base given off common is = ap (is_passed_to base) (sym is) ∙ off

-- the branches of a base that has the same hubs
pub AreBranches-same : (number : ℕ) (rows : List (List ℕ)) (one other : Hub → Bool) (branches : List Branch)
    → ((hub : Hub) → one hub ≡ other hub) → AreBranches number rows one branches → AreBranches number rows other branches
AreBranches-same number rows one other branches same are =
    let is : ◌≡◌ {A = Hub → Bool} one other = λ i hub. same hub i in
    subst (λ (base : Hub → Bool). AreBranches number rows base branches) is are
