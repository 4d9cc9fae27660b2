-- The wires of a setup, one by one.
use Rattle.std.proofs.Common.{◌≡◌, ◌⊎◌, inl, inr, ℕ, ◌+◌, ◌<◌, ◌≤◌, List, get_or, length, take, [], ◌∷◌, ◌++◌, refl, sym, ap, ◌∙◌, subst, arith}
use Rattle.std.specs.List.{AllPairs, Contains}
use Rattle.std.proofs.lemmas.List.{take_all, take_more}
use Rattle.std.proofs.lemmas.List.Elements.{Contains-append_left, Contains-push, Contains-push_cases}
use Rattle.hubs.proofs.SetupsWords.Ordered.{contains_none, pairs_before}
use Rattle.hubs.specs.SetupsWords.Wires.{AreWiresOf, IsWireBefore}
use Rattle.hubs.specs.SetupsWords.Wiring.{Wiring, IsWireOf}
use Rattle.hubs.specs.declared.hub.Hub.{Hub}
use Rattle.wire_chart.specs.WrittenText.{ended, form_place, wire_form, wire_line, IsLineBefore}
use Rattle.wire_chart.specs.Writing.{GainsAllWires, GainsLines, GainsWires, IsOfForm, IsWire}
use Rattle.wire_chart.proofs.Gains.{gains_none, gains_one, gains_more, gains_same}
use Rattle.wiring_text.specs.declared.statement.Version.{Version}
use Rattle.wire_chart.specs.declared.form.WireForm.{WireForm}
use Rattle.wire_chart.specs.declared.form.WireForm.TheVariants.{Ring, Couple, Plain}

-- lines of wires of one form, by what they are
wires_none : (version : Version) (form : WireForm) (Is : Hub × Hub → Type 0) (text : List ℕ)
    → ((wire : Hub × Hub) → Is wire → ⊥) → GainsWires version form Is text text
wires_none version form Is text none =
    gains_none (IsOfForm version form Is) (IsLineBefore version) (wire_line version) text text refl (λ wire is. none wire is.0)

wires_one : (version : Version) (form : WireForm) (Is : Hub × Hub → Type 0) (old new : List ℕ) (x : Hub × Hub)
    → new ≡ old ++ ended (wire_line version x) → wire_form version x ≡ form → Is x → ((wire : Hub × Hub) → Is wire → wire ≡ x)
    → GainsWires version form Is old new
wires_one version form Is old new x gained formed is only =
    gains_one (IsOfForm version form Is) (IsLineBefore version) (wire_line version) old new x gained (is, formed)
    (λ wire it. only wire it.0)

wires_more : (version : Version) (form : WireForm) (One Two Is : Hub × Hub → Type 0) (old mid new : List ℕ)
    → GainsWires version form One old mid → GainsWires version form Two mid new
    → ((wire : Hub × Hub) → Is wire → One wire ⊎ Two wire)
    → ((wire : Hub × Hub) → One wire → Is wire) → ((wire : Hub × Hub) → Two wire → Is wire)
    → ((x y : Hub × Hub) → One x → Two y → IsWireBefore x y)
    → GainsWires version form Is old new
wires_more version form One Two Is old mid new first second parts one two across =
    gains_more (IsOfForm version form One) (IsOfForm version form Two) (IsOfForm version form Is) (IsLineBefore version)
    (wire_line version) old mid new first second
    (λ wire is. elim (parts wire is.0) [ inl h ↦ inl (h, is.1) | inr h ↦ inr (h, is.1) ])
    (λ wire is. (one wire is.0, is.1))
    (λ wire is. (two wire is.0, is.1))
    (λ x y is also. inr (is.1 ∙ sym also.1, across x y is.0 also.0))

wires_same : (version : Version) (form : WireForm) (One Is : Hub × Hub → Type 0) (old new : List ℕ)
    → GainsWires version form One old new → ((wire : Hub × Hub) → Is wire → One wire) → ((wire : Hub × Hub) → One wire → Is wire)
    → GainsWires version form Is old new
wires_same version form One Is old new gains there back =
    gains_same (IsOfForm version form One) (IsOfForm version form Is) (IsLineBefore version) (wire_line version) old new gains
    (λ wire is. (there wire is.0, is.1))
    (λ wire is. (back wire is.0, is.1))

-- a wire of the form
pub wire_gained : (version : Version) (form : WireForm) (wire : Hub × Hub) (old new : List ℕ)
    → new ≡ old ++ ended (wire_line version wire) → wire_form version wire ≡ form → GainsWires version form (IsWire wire) old new
wire_gained version form wire old new gained formed =
    wires_one version form (IsWire wire) old new wire gained formed refl (λ other is. is)

-- a wire of another form
pub other_form : (version : Version) (form : WireForm) (wire : Hub × Hub) (text : List ℕ)
    → (wire_form version wire ≡ form → ⊥) → GainsWires version form (IsWire wire) text text
other_form version form wire text other =
    gains_none (IsOfForm version form (IsWire wire)) (IsLineBefore version) (wire_line version) text text refl
    (λ one is. other (ap (wire_form version) (sym is.0) ∙ is.1))

-- no wire yet
pub no_wire : (version : Version) (form : WireForm) (text : List ℕ) → GainsWires version form (Contains []) text text
no_wire version form text = wires_none version form (Contains []) text (λ wire has. contains_none wire has)

-- one wire more of a list in order
pub wire_more : (version : Version) (form : WireForm) (before : List (Hub × Hub)) (wire : Hub × Hub) (old mid new : List ℕ)
    → ((one : Hub × Hub) → Contains before one → IsWireBefore one wire)
    → GainsWires version form (Contains before) old mid → GainsWires version form (IsWire wire) mid new
    → GainsWires version form (Contains (before ++ wire ∷ [])) old new
wire_more version form before wire old mid new ordered first second =
    wires_more version form (Contains before) (IsWire wire) (Contains (before ++ wire ∷ [])) old mid new first second
    (λ one has. elim (Contains-push_cases before wire one has) [ inl h ↦ inl h | inr e ↦ inr (sym e) ])
    (λ one has. Contains-append_left before (wire ∷ []) one has)
    (λ one is. subst (λ (w : Hub × Hub). Contains (before ++ wire ∷ []) w) (sym is) (Contains-push before wire))
    (λ x y has is. subst (IsWireBefore x) (sym is) (ordered x has))

-- one place more of a list in order, and the whole list
pub wire_next : (version : Version) (form : WireForm) (wires : List (Hub × Hub)) (place : ℕ) (d : Hub × Hub) (old mid new : List ℕ)
    → AllPairs IsWireBefore wires → place < length wires → GainsWires version form (Contains (take place wires)) old mid
    → GainsWires version form (IsWire (get_or wires place d)) mid new
    → GainsWires version form (Contains (take (place + 1) wires)) old new
wire_next version form wires place d old mid new ordered within first second =
    rw (take_more wires place d within)
    (wire_more version form (take place wires) (get_or wires place d) old mid new
    (λ one has. pairs_before IsWireBefore wires place d one ordered within has) first second)

pub wires_last : (version : Version) (form : WireForm) (wires : List (Hub × Hub)) (place : ℕ) (old new : List ℕ)
    → length wires ≤ place → GainsWires version form (Contains (take place wires)) old new
    → GainsWires version form (Contains wires) old new
wires_last version form wires place old new all gains =
    subst (λ (l : List (Hub × Hub)). GainsWires version form (Contains l) old new) (take_all place wires all) gains

-- the wires of a list are those of a setup
pub all_wires : (version : Version) (form : WireForm) (wiring : Wiring) (wires : List (Hub × Hub)) (old new : List ℕ)
    → AreWiresOf wiring wires → GainsWires version form (Contains wires) old new → GainsWires version form (IsWireOf wiring) old new
all_wires version form wiring wires old new are gains =
    wires_same version form (Contains wires) (IsWireOf wiring) old new gains
    (λ wire is. (are.all wire.0 wire.1).0 is)
    (λ wire has. (are.all wire.0 wire.1).1 has)

-- rings, then wires that couple groups, then all others
pub all_forms : (version : Version) (wiring : Wiring) (old one two new : List ℕ)
    → GainsWires version Ring (IsWireOf wiring) old one → GainsWires version Couple (IsWireOf wiring) one two
    → GainsWires version Plain (IsWireOf wiring) two new → GainsAllWires version (IsWireOf wiring) old new
all_forms version wiring old one two new rings couples plain =
    gains_more IsCarry (IsOfForm version Plain (IsWireOf wiring)) (IsWireOf wiring) (IsLineBefore version) (wire_line version)
    old two new carries plain
    (λ wire is. by_form wire is (wire_form version wire) refl)
    (λ wire is. is.0)
    (λ wire is. is.0)
    (λ x y is also. inl (before_plain x y is.1 also.1))
  where
    IsCarry : Hub × Hub → Type 0
    IsCarry wire = IsWireOf wiring wire × ((wire_form version wire ≡ Ring) ⊎ (wire_form version wire ≡ Couple))

    carries : GainsLines IsCarry (IsLineBefore version) (wire_line version) old two
    carries =
        gains_more (IsOfForm version Ring (IsWireOf wiring)) (IsOfForm version Couple (IsWireOf wiring)) IsCarry
        (IsLineBefore version) (wire_line version) old one two rings couples
        (λ wire is. elim is.1 [ inl h ↦ inl (is.0, h) | inr h ↦ inr (is.0, h) ])
        (λ wire is. (is.0, inl is.1))
        (λ wire is. (is.0, inr is.1))
        (λ x y is also. inl (omega (arith, ap form_place is.1, ap form_place also.1)))

    by_form : (wire : Hub × Hub) → IsWireOf wiring wire → (form : WireForm) → wire_form version wire ≡ form
        → IsCarry wire ⊎ IsOfForm version Plain (IsWireOf wiring) wire
    by_form wire is Ring e = inl (is, inl e)
    by_form wire is Couple e = inl (is, inr e)
    by_form wire is Plain e = inr (is, e)

    before_plain : (x y : Hub × Hub) → (wire_form version x ≡ Ring) ⊎ (wire_form version x ≡ Couple) → wire_form version y ≡ Plain
        → form_place (wire_form version x) < form_place (wire_form version y)
    before_plain x y (inl e) f = omega (arith, ap form_place e, ap form_place f)
    before_plain x y (inr e) f = omega (arith, ap form_place e, ap form_place f)
