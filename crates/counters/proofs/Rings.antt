-- What arrives at the carry hubs of groups that are wired to themselves, or to one another.
use Rattle.std.proofs.Common.{◌≡◌, ◌∙◌, refl, sym, ap, subst, ◌&&◌, ◌⊎◌, inl, inr, Bool, true, false, List, ◌++◌, Some}
use Rattle.std.proofs.lemmas.Bool.{and_from, and_parts, false≢true, or_cases, or_left, or_right}
use Rattle.std.proofs.lemmas.Option.{none-some, same_Some}
use Rattle.hubs.specs.Hubs.{is_entry_hub}
use Rattle.hubs.specs.declared.hub.Group.{Group}
use Rattle.hubs.specs.declared.hub.Hub.{Hub}
use Rattle.hubs.specs.declared.hub.Hub.TheVariants.{CI, CO}
use Rattle.net.specs.Impulsed.{IsImpulsed}
use Rattle.net.specs.Impulsed.IsImpulsed.{emitting, led_on}
use Rattle.net.specs.Panel.{contact_of}
use Rattle.hubs.proofs.SetupsWords.WiredLemmas.{HasWire-is_wired}
use Rattle.hubs.specs.SetupsWords.Wiring.{HasWire, LeadsToEntries, Wiring, is_wired}
use Rattle.counters.specs.Rings.{CarriesBy, IsFedAlone, WiredGroupsAreRings, WiredPairsAreCoupled}
use Rattle.counters.specs.Wheels.{Wheel, all_nines, carries_in, carries_out}
use Rattle.counters.proofs.Carries.{carries_out-again, carries_out-append, carries_out-split}

-- two tests that hold of each other are the same
same : (one other : Bool) → (one ≡ true → other ≡ true) → (other ≡ true → one ≡ true) → one ≡ other
same true other there back = sym (there refl)
same false true there back = back refl
same false false there back = refl

-- a carry that leaves the wheels by themselves leaves them anyway, and one that comes in leaves them where all stand at 9
leaves : (ws : List Wheel) (carry : Bool) → carries_out ws false ≡ true → carries_out ws carry ≡ true
leaves ws carry out = carries_out-split ws carry ∙ or_left (carries_out ws false) _ out

goes_on : (ws : List Wheel) (carry : Bool) → all_nines ws ≡ true → carry ≡ true → carries_out ws carry ≡ true
goes_on ws carry nines came = carries_out-split ws carry ∙ or_right (carries_out ws false) _ (and_from (all_nines ws) carry nines came)

left_how : (ws : List Wheel) (carry : Bool) → carries_out ws carry ≡ true
    → (carries_out ws false ≡ true) ⊎ ((all_nines ws ≡ true) × (carry ≡ true))
left_how ws carry out = elim (or_cases (carries_out ws false) (all_nines ws && carry) (sym (carries_out-split ws carry) ∙ out)) [
  | inl anyway ↦ inl anyway
  | inr passed ↦ inr (and_parts (all_nines ws) carry passed)
]

-- what comes round leaves the wheels once more
round_again : (is_ring : Bool) (ws : List Wheel) → is_ring ≡ true → carries_out ws (carries_in is_ring ws) ≡ true
    → carries_in is_ring ws ≡ true
round_again true ws is out = sym (carries_out-again ws) ∙ out
round_again false ws is out = absurd (false≢true is)

module _ (wiring : Wiring) (exits closed : Hub → Bool) (leads : LeadsToEntries wiring) where
  -- the carry exit of a group is impulsed where a carry leaves its wheels by themselves, or comes in at wheels that stand at 9
  leaving : (name : Group) (ws : List Wheel) → CarriesBy exits closed name ws → carries_out ws false ≡ true
      → IsImpulsed wiring exits closed (CO name)
  leaving name ws carries out = emitting (CO name) carries.there (carries.emits ∙ out)

  passing : (name : Group) (ws : List Wheel) → CarriesBy exits closed name ws → all_nines ws ≡ true
      → IsImpulsed wiring exits closed (CI name) → IsImpulsed wiring exits closed (CO name)
  passing name ws carries nines came = led_on (CI name) (CO name) came (inr (refl, carries.closes ∙ nines))

  along : (from to : Group) → is_wired wiring (CO from) (CI to) ≡ true → IsImpulsed wiring exits closed (CO from)
      → IsImpulsed wiring exits closed (CI to)
  along from to wired out = led_on (CO from) (CI to) out (inl ((HasWire-is_wired wiring (CO from) (CI to)).0 wired))

  module _ (upper lower : Group) (above below : List Wheel) (over : CarriesBy exits closed upper above)
      (under : CarriesBy exits closed lower below) (fed_above : IsFedAlone wiring lower upper) (fed_below : IsFedAlone wiring upper lower)
      (into_above into_below : Bool)
      (solves_above : is_wired wiring (CO lower) (CI upper) ≡ true → carries_out below into_below ≡ true → into_above ≡ true)
      (solves_below : is_wired wiring (CO upper) (CI lower) ≡ true → carries_out above into_above ≡ true → into_below ≡ true)
    where
      -- what is claimed of a hub that is impulsed, where it is a carry hub of one of the two groups
      record Claims (hub : Hub) : Type 0 where
        comes_above : hub ≡ CI upper → into_above ≡ true
        comes_below : hub ≡ CI lower → into_below ≡ true
        goes_above : hub ≡ CO upper → carries_out above into_above ≡ true
        goes_below : hub ≡ CO lower → carries_out below into_below ≡ true

      by_emitting : (hub : Hub) → exits hub ≡ true → Claims hub
      by_emitting hub emits = record {
        comes_above = λ is. absurd (false≢true (sym over.enters ∙ ap exits (sym is) ∙ emits));
        comes_below = λ is. absurd (false≢true (sym under.enters ∙ ap exits (sym is) ∙ emits));
        goes_above = λ is. leaves above into_above (sym over.emits ∙ ap exits (sym is) ∙ emits);
        goes_below = λ is. leaves below into_below (sym under.emits ∙ ap exits (sym is) ∙ emits);
      }

      -- a wire to a carry entry comes from the carry exit that feeds it
      wired_from : (from to : Group) (exit hub : Hub) → hub ≡ CI to → IsFedAlone wiring from to → HasWire wiring exit hub
          → (exit ≡ CO from) × (is_wired wiring (CO from) (CI to) ≡ true)
      wired_from from to exit hub is fed wire =
          let here = subst (λ (h : Hub). HasWire wiring exit h) is wire in
          let exit_is = fed exit here in
          (exit_is, (HasWire-is_wired wiring (CO from) (CI to)).1 (subst (λ (h : Hub). HasWire wiring h (CI to)) exit_is here))

      by_wire : (from to : Hub) → HasWire wiring from to → Claims from → Claims to
      by_wire from to wire claims = record {
        comes_above = λ is.
            let found = wired_from lower upper from to is fed_above wire in solves_above found.1 (claims.goes_below found.0);
        comes_below = λ is.
            let found = wired_from upper lower from to is fed_below wire in solves_below found.1 (claims.goes_above found.0);
        goes_above = λ is. absurd (false≢true (sym (ap is_entry_hub is) ∙ (leads from to wire).1));
        goes_below = λ is. absurd (false≢true (sym (ap is_entry_hub is) ∙ (leads from to wire).1));
      }

      -- a contact to a carry exit comes from the carry entry of the same group
      contact_from : (name : Group) (from to : Hub) → to ≡ CO name → contact_of to ≡ Some from → from ≡ CI name
      contact_from name from to is contact = same_Some from (CI name) (sym contact ∙ ap contact_of is)

      by_contact : (from to : Hub) → contact_of to ≡ Some from → closed to ≡ true → Claims from → Claims to
      by_contact from to contact shut claims = record {
        comes_above = λ is. absurd (none-some from (sym (ap contact_of is) ∙ contact));
        comes_below = λ is. absurd (none-some from (sym (ap contact_of is) ∙ contact));
        goes_above = λ is.
            goes_on above into_above (sym over.closes ∙ ap closed (sym is) ∙ shut)
            (claims.comes_above (contact_from upper from to is contact));
        goes_below = λ is.
            goes_on below into_below (sym under.closes ∙ ap closed (sym is) ∙ shut)
            (claims.comes_below (contact_from lower from to is contact));
      }

      claimed : {hub : Hub} → IsImpulsed wiring exits closed hub → Claims hub
      claimed (emitting hub there emits) = by_emitting hub emits
      claimed (led_on from to impulsed (inl wire)) = by_wire from to wire (claimed impulsed)
      claimed (led_on from to impulsed (inr contact)) = by_contact from to contact.0 contact.1 (claimed impulsed)

-- a group that is wired to itself, or to nothing
pub groups-round : WiredGroupsAreRings
groups-round wiring exits closed picture name ws leads is carries fed =
    let is_ring = is_wired wiring (CO name) (CI name) in
    let into = carries_in is_ring ws in
    same (picture (CI name)) into
    (λ at.
    (claimed wiring exits closed leads name name ws ws carries carries fed fed into into (λ wired. round_again is_ring ws wired)
    (λ wired. round_again is_ring ws wired) ((is (CI name)).0 at)).comes_above refl)
    (λ comes.
    let both = and_parts is_ring (carries_out ws false) comes in
    (is (CI name)).1 (along wiring exits closed leads name name both.0 (leaving wiring exits closed leads name ws carries both.1)))

-- two groups that are wired to one another
pub pairs-coupled : WiredPairsAreCoupled
pairs-coupled wiring exits closed picture upper lower above below leads is over under fed_above fed_below wired =
    let is_ring = is_wired wiring (CO upper) (CI lower) in
    let into_below = carries_in is_ring (above ++ below) in
    let into_above = carries_out below into_below in
    let claims = λ (hub : Hub) (at : IsImpulsed wiring exits closed hub).
    claimed wiring exits closed leads upper lower above below over under fed_above fed_below into_above into_below (λ there out. out)
    (λ back out. round_again is_ring (above ++ below) back (carries_out-append above below into_below ∙ out)) at in
    let out_below = leaving wiring exits closed leads lower below under in
    let into_upper = along wiring exits closed leads lower upper wired in
    let comes_below : into_below ≡ true → IsImpulsed wiring exits closed (CI lower) = λ comes.
    let both = and_parts is_ring (carries_out (above ++ below) false) comes in
    along wiring exits closed leads upper lower both.0
    (elim (left_how above (carries_out below false) (sym (carries_out-append above below false) ∙ both.1)) [
      | inl anyway ↦ leaving wiring exits closed leads upper above over anyway
      | inr passed ↦ passing wiring exits closed leads upper above over passed.0 (into_upper (out_below passed.1))
    ]) in
    let comes_above : into_above ≡ true → IsImpulsed wiring exits closed (CI upper) = λ comes.
    into_upper (elim (left_how below into_below comes) [
      | inl anyway ↦ out_below anyway
      | inr passed ↦ passing wiring exits closed leads lower below under passed.0 (comes_below passed.1)
    ]) in
    let in_below : picture (CI lower) ≡ into_below =
    same (picture (CI lower)) into_below (λ at. (claims (CI lower) ((is (CI lower)).0 at)).comes_below refl) (λ comes. (is (CI lower)).1 (comes_below comes)) in
    let in_above : picture (CI upper) ≡ into_above =
    same (picture (CI upper)) into_above (λ at. (claims (CI upper) ((is (CI upper)).0 at)).comes_above refl) (λ comes. (is (CI upper)).1 (comes_above comes)) in
    record { into_lower = in_below; into_upper = in_above ∙ ap (carries_out below) (sym in_below) }
