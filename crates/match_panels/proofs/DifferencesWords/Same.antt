-- Two setups are the same where neither has anything that the other has not, and their tapes have one form.
use Rattle.std.proofs.Common.{◌≡◌, ◌↔◌, ◌∙◌, ℕ, Bool, true, false, true≢false, IsTrue, nat_eq, ◌==◌, ◌&&◌, refl, sym, subst, arith}
use Rattle.std.proofs.lemmas.Bool.{and_from, and_parts, eq-eqb, eqb-true}
use Rattle.hubs.specs.declared.hub.Hub.{Hub}
use Rattle.hubs.specs.declared.jack.Jack.{Jack}
use Rattle.hubs.specs.SetupsWords.Tapes.{has_stop}
use Rattle.hubs.proofs.SetupsWords.WiredLemmas.{HasWire-is_wired}
use Rattle.hubs.specs.SetupsWords.Wiring.{IsSameSetup, Wiring, is_plugged, is_wired}
use Rattle.match_panels.specs.DifferencesWords.Differences.{HasSize, IsDifference, LacksJack, LacksStop, LacksWire}
use Rattle.match_panels.specs.DifferencesWords.PanelProgress.Forms.{same_form}
use Rattle.match_panels.proofs.DifferencesWords.Counts.{many-zero, zero-many}

-- what a test decides is so where it isn't lacking
decided : {P : Type 0} (test : Bool) → IsTrue test ↔ P → ((P → ⊥) → ⊥) → P
decided true tells not = tells.0 refl
decided false tells not = absurd (not (λ p. true≢false (sym (tells.1 p))))

-- nothing is in a difference of no size
none-lacking : {one other left : Wiring} → IsDifference one other left → HasSize left 0
    → ((exit entry : Hub) → LacksWire one other exit entry → ⊥)
    × ((jack : Jack) → LacksJack one other jack → ⊥) × ((channel line : ℕ) → LacksStop one other channel line → ⊥)
none-lacking is size = (
  λ exit entry lacks. many-zero size.are_wires (omega (arith, size.together)) (exit, entry) ((is.wires exit entry).1 lacks),
  λ jack lacks. many-zero size.are_jacks (omega (arith, size.together)) jack ((is.jacks jack).1 lacks),
  λ channel line lacks. many-zero size.are_stops (omega (arith, size.together)) (channel, line) ((is.stops channel line).1 lacks),
)

-- and a difference that has nothing is of no size
size-zero : {one other left : Wiring} {size : ℕ} → IsDifference one other left → ((exit entry : Hub) → LacksWire one other exit entry → ⊥)
    → ((jack : Jack) → LacksJack one other jack → ⊥) → ((channel line : ℕ) → LacksStop one other channel line → ⊥) → HasSize left size → size ≡ 0
size-zero is wires jacks stops size =
    let no_wires = zero-many size.are_wires (λ wire has. wires wire.0 wire.1 ((is.wires wire.0 wire.1).0 has)) in
    let no_jacks = zero-many size.are_jacks (λ jack has. jacks jack ((is.jacks jack).0 has)) in
    let no_stops = zero-many size.are_stops (λ stop has. stops stop.0 stop.1 ((is.stops stop.0 stop.1).0 has)) in
    omega (arith, size.together, no_wires, no_jacks, no_stops)

-- from the sizes of the differences to the setups
pub same-from : (one other missing extra : Wiring) → IsDifference one other missing → IsDifference other one extra → HasSize missing 0
    → HasSize extra 0 → same_form one.tape other.tape ≡ true → IsSameSetup one other
same-from one other missing extra less more nothing no_more form =
    let a = none-lacking less nothing in
    let b = none-lacking more no_more in
    let lines = and_parts (one.tape.lines == other.tape.lines) _ form in
    let others = and_parts (one.tape.first == other.tape.first) _ lines.1 in
    record {
      wires = λ exit entry. (
        λ has. decided (is_wired one exit entry) (HasWire-is_wired one exit entry) (λ not. b.0 exit entry (record { there = has; lacking = not })),
        λ has. decided (is_wired other exit entry) (HasWire-is_wired other exit entry)
            (λ not. a.0 exit entry (record { there = has; lacking = not })),
      );
      jacks = λ jack. plugged_alike jack (is_plugged one jack) (is_plugged other jack) refl refl;
      tape = record {
        lines = sym (eqb-true one.tape.lines other.tape.lines lines.0);
        first = sym (eqb-true one.tape.first other.tape.first others.0);
        overflow = sym (eqb-true one.tape.overflow other.tape.overflow others.1);
        stops = λ c l. alike c l (has_stop one.tape c l) (has_stop other.tape c l) refl refl;
      };
    }
  where
    alike : (c l : ℕ) (p q : Bool) → has_stop one.tape c l ≡ p → has_stop other.tape c l ≡ q → q ≡ p
    alike c l true true e f = refl
    alike c l false false e f = refl
    alike c l true false e f = absurd ((none-lacking less nothing).2 c l (record { there = e; lacking = f }))
    alike c l false true e f = absurd ((none-lacking more no_more).2 c l (record { there = f; lacking = e }))

    plugged_alike : (jack : Jack) (p q : Bool) → is_plugged one jack ≡ p → is_plugged other jack ≡ q → q ≡ p
    plugged_alike jack true true e f = refl
    plugged_alike jack false false e f = refl
    plugged_alike jack true false e f = absurd ((none-lacking less nothing).1 jack (record { there = e; lacking = λ h. true≢false (sym h ∙ f) }))
    plugged_alike jack false true e f = absurd ((none-lacking more no_more).1 jack (record { there = f; lacking = λ h. true≢false (sym h ∙ e) }))

-- and back
pub same-missing : {one other missing : Wiring} {size : ℕ} → IsSameSetup one other → IsDifference one other missing → HasSize missing size → size ≡ 0
same-missing {one} {other} same is =
    size-zero is (λ exit entry lacks. lacks.lacking ((same.wires exit entry).1 lacks.there))
    (λ jack lacks. lacks.lacking (same.jacks jack ∙ lacks.there))
    (λ channel line lacks. true≢false (sym lacks.there ∙ sym (same.tape.stops channel line) ∙ lacks.lacking))

pub same-extra : {one other extra : Wiring} {size : ℕ} → IsSameSetup one other → IsDifference other one extra → HasSize extra size → size ≡ 0
same-extra {one} {other} same is =
    size-zero is (λ exit entry lacks. lacks.lacking ((same.wires exit entry).0 lacks.there))
    (λ jack lacks. lacks.lacking (sym (same.jacks jack) ∙ lacks.there))
    (λ channel line lacks. true≢false (sym lacks.there ∙ same.tape.stops channel line ∙ lacks.lacking))

-- so a test of the form and of the two sizes tells whether the setups are the same
pub same-tells : (one other missing extra : Wiring) (form : Bool) (m n : ℕ) → IsDifference one other missing → IsDifference other one extra
    → HasSize missing m → HasSize extra n → form ≡ same_form one.tape other.tape
    → IsTrue (form && (nat_eq m 0 && nat_eq n 0)) ↔ IsSameSetup one other
same-tells one other missing extra form m n less more size size_too tells = (there, back)
  where
    there : IsTrue (form && (nat_eq m 0 && nat_eq n 0)) → IsSameSetup one other
    there is =
        let outer = and_parts form _ is in
        let inner = and_parts (nat_eq m 0) (nat_eq n 0) outer.1 in
        same-from one other missing extra less more (subst (HasSize missing) (eqb-true m 0 inner.0) size)
        (subst (HasSize extra) (eqb-true n 0 inner.1) size_too) (sym tells ∙ outer.0)

    back : IsSameSetup one other → IsTrue (form && (nat_eq m 0 && nat_eq n 0))
    back same =
        and_from form _ (tells ∙ one_form)
        (and_from (nat_eq m 0) (nat_eq n 0) (eq-eqb m 0 (same-missing same less size)) (eq-eqb n 0 (same-extra same more size_too)))
      where
        one_form : same_form one.tape other.tape ≡ true
        one_form =
            and_from (one.tape.lines == other.tape.lines) _ (eq-eqb one.tape.lines other.tape.lines (sym same.tape.lines))
            (and_from (one.tape.first == other.tape.first) _ (eq-eqb one.tape.first other.tape.first (sym same.tape.first))
            (eq-eqb one.tape.overflow other.tape.overflow (sym same.tape.overflow)))
