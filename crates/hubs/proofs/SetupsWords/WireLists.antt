-- The wires of a setup, exit by exit and entry by entry.
use Rattle.std.proofs.Common.{◌≡◌, ◌≢◌, ◌↔◌, ◌⊎◌, inl, inr, Bool, true, false, true≢false, eqb, ℕ, ◌+◌, ◌<◌, ◌≤◌, List, [], ◌∷◌, ◌++◌, Some, None, Result, Ok, Err, refl, sym, ap, ◌∙◌, subst, arith, append-nil, append_assoc}
use Rattle.std.specs.List.{All, AllPairs, Contains}
use Rattle.std.specs.Result.{OnOk}
use Rattle.std.proofs.lemmas.Bool.{eqb-true, eq-eqb}
use Rattle.std.proofs.lemmas.Option.{same_Some}
use Rattle.std.proofs.lemmas.List.Elements.{All-contains, Contains-append_left, Contains-append_right, Contains-append_cases}
use Rattle.hubs.specs.Hubs.{number_of}
use Rattle.hubs.specs.SetupsWords.Wiring.{Wiring, HasWire}
use Rattle.hubs.specs.declared.hub.Hub.{Hub}
use Rattle.hubs.proofs.HubLemmas.{number_of-range}
use Rattle.hubs.specs.SetupsWords.Wires.{AreWiresOf, GainsWires, IsHubBefore, IsListedAt, IsWireBefore, IsWireTo, IsWireToBelow, IsWireToAny, IsWireFrom, IsWireFromBelow}
use Rattle.hubs.proofs.SetupsWords.Ordered.{pairs_none, pairs_one, pairs_append, contains_none, contains_one, contains_first}

-- no wire
wires_none : (Is : Hub × Hub → Type 0) (old : List (Hub × Hub)) → ((wire : Hub × Hub) → Is wire → ⊥) → GainsWires Is old old
wires_none Is old none = record {
  wires = [];
  all = λ wire. (λ is. absurd (none wire is), λ has. absurd (contains_none wire has));
  in_order = pairs_none IsWireBefore;
  gained = sym (append-nil old);
}

-- one wire
wires_one : (Is : Hub × Hub → Type 0) (old new : List (Hub × Hub)) (x : Hub × Hub) → new ≡ old ++ x ∷ [] → Is x
    → ((wire : Hub × Hub) → Is wire → wire ≡ x) → GainsWires Is old new
wires_one Is old new x gained is only = record {
  wires = x ∷ [];
  all = λ wire. (
    λ i. subst (λ (a : Hub × Hub). Contains (x ∷ []) a) (sym (only wire i)) (contains_first x []),
    λ has. subst Is (sym (contains_one x wire has)) is,
  );
  in_order = pairs_one IsWireBefore x;
  gained = gained;
}

-- some wires, and then others
wires_more : (One Two Is : Hub × Hub → Type 0) (old mid new : List (Hub × Hub)) → GainsWires One old mid → GainsWires Two mid new
    → ((wire : Hub × Hub) → Is wire → One wire ⊎ Two wire)
    → ((wire : Hub × Hub) → One wire → Is wire) → ((wire : Hub × Hub) → Two wire → Is wire)
    → ((x y : Hub × Hub) → One x → Two y → IsWireBefore x y)
    → GainsWires Is old new
wires_more One Two Is old mid new first second parts one two across = record {
  wires = first.wires ++ second.wires;
  all = λ wire. (
    λ is. elim (parts wire is) [
      | inl h ↦ Contains-append_left first.wires second.wires wire ((first.all wire).0 h)
      | inr h ↦ Contains-append_right first.wires second.wires wire ((second.all wire).0 h)
    ],
    λ has. elim (Contains-append_cases first.wires second.wires wire has)
        [ inl h ↦ one wire ((first.all wire).1 h) | inr h ↦ two wire ((second.all wire).1 h) ],
  );
  in_order = pairs_append IsWireBefore first.wires second.wires first.in_order second.in_order
      (λ x y h k. across x y ((first.all x).1 h) ((second.all y).1 k));
  gained = second.gained ∙ ap (λ (l : List (Hub × Hub)). l ++ second.wires) first.gained
      ∙ append_assoc old first.wires second.wires;
}

-- the same wires, described otherwise
wires_same : (One Is : Hub × Hub → Type 0) (old new : List (Hub × Hub)) → GainsWires One old new
    → ((wire : Hub × Hub) → Is wire → One wire) → ((wire : Hub × Hub) → One wire → Is wire) → GainsWires Is old new
wires_same One Is old new gains there back = record {
  wires = gains.wires;
  all = λ wire. (λ is. (gains.all wire).0 (there wire is), λ has. back wire ((gains.all wire).1 has));
  in_order = gains.in_order;
  gained = gains.gained;
}

-- a number below the next one
pub below_or_at : (n m : ℕ) → n < m + 1 → (n < m) ⊎ (n ≡ m)
below_or_at n m h = decide_at (eqb n m) refl
  where
    decide_at : (b : Bool) → eqb n m ≡ b → (n < m) ⊎ (n ≡ m)
    decide_at true e = inr (eqb-true n m e)
    decide_at false e = let apart : n ≢ m = λ same. true≢false (sym (eq-eqb n m same) ∙ e) in inl (omega arith)

-- the numbers of one hub are the same
same_number : (hub : Hub) (one other : ℕ) → number_of hub ≡ Some one → number_of hub ≡ Some other → one ≡ other
same_number hub one other e f = same_Some one other (sym e ∙ f)

-- one hub stands before another
hub_before : (one other : Hub) (number other_number : ℕ) → number_of one ≡ Some number → number_of other ≡ Some other_number
    → number < other_number → IsHubBefore one other
hub_before one other number other_number e f below = record {
  number = number;
  other_number = other_number;
  numbered = e;
  other_numbered = f;
  before = below;
}

-- a wire by its exit and its entry
wire_is : (wire : Hub × Hub) (exit entry : Hub) → wire.0 ≡ exit → wire.1 ≡ entry → wire ≡ (exit, entry)
wire_is wire exit entry e f =
    ap (λ (a : Hub). let w : Hub × Hub = (a, wire.1) in w) e ∙ ap (λ (b : Hub). let w : Hub × Hub = (exit, b) in w) f

none_some : (hub : Hub) → None ≡ Some hub → ⊥
none_some hub e = cc

-- the entry of this number is among the entries
pub wire_gained : (exit entry : Hub) (entries : List ℕ) (number same : ℕ) → same ≡ number → (old new : List (Hub × Hub))
    → Contains entries number → number_of entry ≡ Some same → ((hub : Hub) → number_of hub ≡ Some same → Some entry ≡ Some hub)
    → new ≡ old ++ (exit, entry) ∷ [] → GainsWires (IsWireTo exit entries number) old new
wire_gained exit entry entries number same e old new listed numbered only gained =
    let at : Some same ≡ Some number = ap (λ (n : ℕ). Some n) e in
    wires_one (IsWireTo exit entries number) old new (exit, entry) gained
    (record { exit_is = refl; entry = record { numbered = numbered ∙ at; listed = listed } })
    (λ wire is. wire_is wire exit entry is.exit_is (sym (same_Some entry wire.1 (only wire.1 (is.entry.numbered ∙ sym at)))))

-- no hub has this number
pub no_entry : (exit : Hub) (entries : List ℕ) (number same : ℕ) → same ≡ number → (old : List (Hub × Hub))
    → ((hub : Hub) → number_of hub ≡ Some same → None ≡ Some hub) → GainsWires (IsWireTo exit entries number) old old
no_entry exit entries number same e old none =
    wires_none (IsWireTo exit entries number) old
    (λ wire is. none_some wire.1 (none wire.1 (is.entry.numbered ∙ sym (ap (λ (n : ℕ). Some n) e))))

-- the number is not among the entries
pub not_listed : (exit : Hub) (entries : List ℕ) (number : ℕ) (old : List (Hub × Hub)) → (Contains entries number → ⊥)
    → GainsWires (IsWireTo exit entries number) old old
not_listed exit entries number old none =
    wires_none (IsWireTo exit entries number) old (λ wire is. none is.entry.listed)

-- no entry of a lower number
pub no_entries : (exit : Hub) (entries : List ℕ) (old : List (Hub × Hub)) → All (λ n. (1041 ≤ n) × (n ≤ 1936)) entries
    → GainsWires (IsWireToBelow exit entries 1041) old old
no_entries exit entries old all =
    wires_none (IsWireToBelow exit entries 1041) old
    (λ wire is.
    let range = All-contains (λ (n : ℕ). (1041 ≤ n) × (n ≤ 1936)) entries is.to all is.entry.listed in
    omega (arith, is.below, range.0))

-- one entry more
pub entry_more : (exit : Hub) (entries : List ℕ) (number : ℕ) (old mid new : List (Hub × Hub))
    → GainsWires (IsWireToBelow exit entries number) old mid → GainsWires (IsWireTo exit entries number) mid new
    → GainsWires (IsWireToBelow exit entries (number + 1)) old new
entry_more exit entries number old mid new first second =
    wires_more (IsWireToBelow exit entries number) (IsWireTo exit entries number) (IsWireToBelow exit entries (number + 1))
    old mid new first second
    (λ wire is. elim (below_or_at is.to number is.below) [
      | inl below ↦ inl (record { exit_is = is.exit_is; to = is.to; entry = is.entry; below = below })
      | inr at ↦ inr (record { exit_is = is.exit_is; entry = subst (λ (n : ℕ). IsListedAt entries n wire.1) at is.entry })
    ])
    (λ wire is. record { exit_is = is.exit_is; to = is.to; entry = is.entry; below = omega (arith, is.below) })
    (λ wire is. record { exit_is = is.exit_is; to = number; entry = is.entry; below = omega arith })
    (λ one other is also. inr (
      is.exit_is ∙ sym also.exit_is,
      hub_before one.1 other.1 is.to number is.entry.numbered also.entry.numbered is.below,
    ))

-- all entries
pub all_entries : (exit : Hub) (entries : List ℕ) (number : ℕ) (old new : List (Hub × Hub)) → 1937 ≤ number
    → All (λ n. (1041 ≤ n) × (n ≤ 1936)) entries
    → GainsWires (IsWireToBelow exit entries number) old new → GainsWires (IsWireToAny exit entries) old new
all_entries exit entries number old new last all gains =
    wires_same (IsWireToBelow exit entries number) (IsWireToAny exit entries) old new gains
    (λ wire is.
    let range = All-contains (λ (n : ℕ). (1041 ≤ n) × (n ≤ 1936)) entries is.to all is.entry.listed in
    record { exit_is = is.exit_is; to = is.to; entry = is.entry; below = omega (arith, range.1, last) })
    (λ wire is. record { exit_is = is.exit_is; to = is.to; entry = is.entry })

-- the wires from the exit of this number
pub wires_from : (wiring : Wiring) (number : ℕ) (exit : Hub) (entries : List ℕ) (old new : List (Hub × Hub))
    → number_of exit ≡ Some number
    → ((hub : Hub) → number_of hub ≡ Some number → Some exit ≡ Some hub)
    → ((entry : Hub) (n : ℕ) → number_of entry ≡ Some n → Contains entries n ↔ HasWire wiring exit entry)
    → GainsWires (IsWireToAny exit entries) old new → GainsWires (IsWireFrom wiring number) old new
wires_from wiring number exit entries old new numbered only value gains =
    wires_same (IsWireToAny exit entries) (IsWireFrom wiring number) old new gains
    (λ wire is.
    let same : exit ≡ wire.0 = same_Some exit wire.0 (only wire.0 is.numbered) in
    let has : HasWire wiring exit wire.1 = subst (λ (h : Hub). HasWire wiring h wire.1) (sym same) is.there in
    record {
      exit_is = sym same;
      to = has.to;
      entry = record { numbered = has.entry_numbered; listed = (value wire.1 has.to has.entry_numbered).1 has };
    })
    (λ wire is. record {
      there = subst (λ (h : Hub). HasWire wiring h wire.1) (sym is.exit_is)
          ((value wire.1 is.to is.entry.numbered).0 is.entry.listed);
      numbered = ap number_of is.exit_is ∙ numbered;
    })

-- no hub has this number, so no wire leads from it
pub no_exit : (wiring : Wiring) (number : ℕ) (old : List (Hub × Hub))
    → ((hub : Hub) → number_of hub ≡ Some number → None ≡ Some hub) → GainsWires (IsWireFrom wiring number) old old
no_exit wiring number old none =
    wires_none (IsWireFrom wiring number) old (λ wire is. none_some wire.0 (none wire.0 is.numbered))

-- no wire leads to an entry
pub none_listed : (exit : Hub) (entries : List ℕ) (old : List (Hub × Hub)) → ((n : ℕ) → Contains entries n → ⊥)
    → GainsWires (IsWireToAny exit entries) old old
none_listed exit entries old none = wires_none (IsWireToAny exit entries) old (λ wire is. none is.to is.entry.listed)

-- no exit of a lower number
pub no_exits : (wiring : Wiring) (old : List (Hub × Hub)) → GainsWires (IsWireFromBelow wiring 1) old old
no_exits wiring old =
    wires_none (IsWireFromBelow wiring 1) old
    (λ wire is. let range = number_of-range wire.0 is.there.number is.there.numbered in omega (arith, is.below, range.0))

-- one exit more
pub exit_more : (wiring : Wiring) (number : ℕ) (old mid new : List (Hub × Hub))
    → GainsWires (IsWireFromBelow wiring number) old mid → GainsWires (IsWireFrom wiring number) mid new
    → GainsWires (IsWireFromBelow wiring (number + 1)) old new
exit_more wiring number old mid new first second =
    wires_more (IsWireFromBelow wiring number) (IsWireFrom wiring number) (IsWireFromBelow wiring (number + 1))
    old mid new first second
    (λ wire is. elim (below_or_at is.there.number number is.below) [
      | inl below ↦ inl (record { there = is.there; below = below })
      | inr at ↦ inr (record { there = is.there; numbered = is.there.numbered ∙ ap (λ (n : ℕ). Some n) at })
    ])
    (λ wire is. record { there = is.there; below = omega (arith, is.below) })
    (λ wire is.
    let same : is.there.number ≡ number = same_number wire.0 is.there.number number is.there.numbered is.numbered in
    record { there = is.there; below = omega arith })
    (λ one other is also. inl (hub_before one.0 other.0 is.there.number number is.there.numbered also.numbered is.below))

-- all exits
pub all_exits : (wiring : Wiring) (number : ℕ) (wires : List (Hub × Hub)) → 1937 ≤ number
    → GainsWires (IsWireFromBelow wiring number) [] wires → AreWiresOf wiring wires
all_exits wiring number wires last gains =
    let whole : wires ≡ gains.wires = gains.gained in
    record {
      all = λ exit entry. (
        λ is. subst (λ (l : List (Hub × Hub)). Contains l (exit, entry)) (sym whole)
            ((gains.all (exit, entry)).0 (let range = number_of-range exit is.number is.numbered in
            record { there = is; below = omega (arith, range.1, last) })),
        λ has. ((gains.all (exit, entry)).1 (subst (λ (l : List (Hub × Hub)). Contains l (exit, entry)) whole has)).there,
      );
      in_order = subst (λ (l : List (Hub × Hub)). AllPairs IsWireBefore l) (sym whole) gains.in_order;
    }

-- what follows where a call gave no error
pub on_ok : {T E : Type 0} (r : Result T E) (P Q : Type 0) → (P → Q) → OnOk r P → OnOk r Q
on_ok (Ok x) P Q f p = f p
on_ok (Err e) P Q f p = tt
