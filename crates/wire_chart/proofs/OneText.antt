-- A setup has one text.
use Rattle.std.proofs.Common.{◌≡◌, inl, inr, ℕ, ◌<◌, List, ◌++◌, codes, refl, sym, ap, ◌∙◌, subst, arith}
use Rattle.std.proofs.lemmas.Option.{same_Some}
use Rattle.hubs.specs.SetupsWords.Tapes.{CarriageTape, SameTape}
use Rattle.hubs.specs.SetupsWords.Wiring.{IsSameSetup, Wiring}
use Rattle.hubs.specs.declared.hub.Hub.{Hub}
use Rattle.hubs.specs.declared.jack.Jack.{Jack}
use Rattle.hubs.specs.SetupsWords.Wires.{IsHubBefore, IsWireBefore}
use Rattle.wire_chart.specs.WrittenText.{ArePartsOf, IsWritten, IsWrittenIn, IsStopBefore, IsJackBefore, IsLineBefore, JoinsGroups, ended, form_line, form_place, parts_text, title_line}
use Rattle.wire_chart.proofs.Ordered.{IsOneWay, same_list}
use Rattle.wiring_text.specs.declared.statement.Version.{Version}
use Rattle.wiring_text.specs.declared.statement.Version.TheVariants.{First, Second}

pub stops_one_way : IsOneWay IsStopBefore
stops_one_way x y one other =
    elim one [
      | inl a ↦ elim other [ inl b ↦ absurd (omega arith) | inr b ↦ absurd (omega (arith, b.0)) ]
      | inr a ↦ elim other [ inl b ↦ absurd (omega (arith, a.0)) | inr b ↦ absurd (omega (arith, a.1, b.1)) ]
    ]

pub jacks_one_way : IsOneWay IsJackBefore
jacks_one_way x y one other = omega (arith, one, other)

hubs_one_way : IsOneWay IsHubBefore
hubs_one_way x y one other =
    let first : one.number ≡ other.other_number = same_Some one.number other.other_number (sym one.numbered ∙ other.other_numbered) in
    let second : one.other_number ≡ other.number = same_Some one.other_number other.number (sym one.other_numbered ∙ other.numbered) in
    let below : one.number < one.other_number = one.before in
    let above : other.number < other.other_number = other.before in
    omega arith

hub_not_before : (x y : Hub) → x ≡ y → IsHubBefore x y → ⊥
hub_not_before x y e before =
    let itself : IsHubBefore y y = subst (λ z. IsHubBefore z y) e before in
    hubs_one_way y y itself itself

pub wires_one_way : IsOneWay IsWireBefore
wires_one_way x y one other =
    elim one [
      | inl a ↦ elim other [ inl b ↦ hubs_one_way x.0 y.0 a b | inr b ↦ hub_not_before x.0 y.0 (sym b.0) a ]
      | inr a ↦ elim other [ inl b ↦ hub_not_before y.0 x.0 (sym a.0) b | inr b ↦ hubs_one_way x.1 y.1 a.1 b.1 ]
    ]

pub lines_one_way : (version : Version) → IsOneWay (IsLineBefore version)
lines_one_way version x y one other =
    elim one [
      | inl a ↦ elim other [ inl b ↦ absurd (omega arith) | inr b ↦ absurd (omega (arith, ap form_place b.0)) ]
      | inr a ↦ elim other [ inl b ↦ absurd (omega (arith, ap form_place a.0)) | inr b ↦ wires_one_way x y a.1 b.1 ]
    ]

-- the same members of two lists by what they are
same_stops : (version : Version) (one other : Wiring) (text words : List ℕ) → IsSameSetup one other → (first : ArePartsOf version one text)
    → (second : ArePartsOf version other words) → first.stops ≡ second.stops
same_stops version one other text words same first second =
    same_list IsStopBefore first.stops second.stops stops_one_way first.stops_in_order second.stops_in_order
    (λ a has. (second.all_stops a.0 a.1).0 (same.tape.stops a.0 a.1 ∙ (first.all_stops a.0 a.1).1 has))
    (λ a has. (first.all_stops a.0 a.1).0 (sym (same.tape.stops a.0 a.1) ∙ (second.all_stops a.0 a.1).1 has))

same_jacks : (version : Version) (one other : Wiring) (text words : List ℕ) → IsSameSetup one other → (first : ArePartsOf version one text)
    → (second : ArePartsOf version other words) → first.jacks ≡ second.jacks
same_jacks version one other text words same first second =
    same_list IsJackBefore first.jacks second.jacks jacks_one_way first.jacks_in_order second.jacks_in_order
    (λ a has. (second.all_jacks a).0 (same.jacks a ∙ (first.all_jacks a).1 has))
    (λ a has. (first.all_jacks a).0 (sym (same.jacks a) ∙ (second.all_jacks a).1 has))

same_wires : (version : Version) (one other : Wiring) (text words : List ℕ) → IsSameSetup one other → (first : ArePartsOf version one text)
    → (second : ArePartsOf version other words) → first.wires ≡ second.wires
same_wires version one other text words same first second =
    same_list (IsLineBefore version) first.wires second.wires (lines_one_way version) first.wires_in_order second.wires_in_order
    (λ a has. (second.all_wires a.0 a.1).0 ((same.wires a.0 a.1).1 ((first.all_wires a.0 a.1).1 has)))
    (λ a has. (first.all_wires a.0 a.1).0 ((same.wires a.0 a.1).0 ((second.all_wires a.0 a.1).1 has)))

-- so the same setups have the same lines
one_parts : (version : Version) (one other : Wiring) (text words : List ℕ) → IsSameSetup one other → ArePartsOf version one text
    → ArePartsOf version other words → text ≡ words
one_parts version one other text words same first second =
    first.spelled
    ∙ ap (λ (stops : List (ℕ × ℕ)). parts_text version stops first.jacks first.wires)
    (same_stops version one other text words same first second)
    ∙ ap (λ (jacks : List Jack). parts_text version second.stops jacks first.wires)
    (same_jacks version one other text words same first second)
    ∙ ap (λ (wires : List (Hub × Hub)). parts_text version second.stops second.jacks wires)
    (same_wires version one other text words same first second)
    ∙ sym second.spelled

-- a form is written by its numbers alone
same_form : (one other : CarriageTape) → SameTape one other → form_line one ≡ form_line other
same_form one other same = rw (same.lines, same.first, same.overflow) refl

-- The same setups have one text in each version.
pub one_text_in : (version : Version) (one other : Wiring) (text words : List ℕ) → IsSameSetup one other → IsWrittenIn version one text → IsWrittenIn version other words
    → text ≡ words
one_text_in version one other text words same first second =
    first.spelled
    ∙ ap (λ (parts : List ℕ). ended (title_line version) ++ ended (form_line one.tape) ++ parts ++ ended (codes "END"))
    (one_parts version one other first.parts second.parts same first.are second.are)
    ∙ ap (λ (form : List ℕ). ended (title_line version) ++ ended form ++ second.parts ++ ended (codes "END"))
    (same_form one.tape other.tape same.tape)
    ∙ sym second.spelled

-- and the version of what is written is the setup's
joins_too : (one other : Wiring) → IsSameSetup one other → JoinsGroups one → JoinsGroups other
joins_too one other same joins =
    record { exit = joins.exit; entry = joins.entry; there = (same.wires joins.exit joins.entry).1 joins.there; couples = joins.couples }

turned : (one other : Wiring) → IsSameSetup one other → JoinsGroups other → JoinsGroups one
turned one other same joins =
    record { exit = joins.exit; entry = joins.entry; there = (same.wires joins.exit joins.entry).0 joins.there; couples = joins.couples }

same_version : (one other : Version) → (one ≡ Second → other ≡ Second) → (other ≡ Second → one ≡ Second) → one ≡ other
same_version First First there back = refl
same_version Second Second there back = refl
same_version First Second there back = back refl
same_version Second First there back = sym (there refl)

-- The same setups have one text.
pub one_text : (one other : Wiring) (text words : List ℕ) → IsSameSetup one other → IsWritten one text → IsWritten other words
    → text ≡ words
one_text one other text words same first second =
    one_text_in second.version one other text words same
    (subst (λ (v : Version). IsWrittenIn v one text) versions first.written) second.written
  where
    versions : first.version ≡ second.version
    versions =
        same_version first.version second.version
        (λ e. second.second.1 (joins_too one other same (first.second.0 e)))
        (λ e. first.second.1 (turned one other same (second.second.0 e)))
