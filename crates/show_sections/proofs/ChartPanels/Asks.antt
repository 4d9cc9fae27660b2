-- The lines that ask for a wire, and wires with their lines.
use Rattle.std.proofs.Common.{◌≡◌, ◌≢◌, inl, inr, ◌∙◌, refl, sym, ap, subst, arith, eqb, Bool, true, false, true≢false, ℕ, ◌+◌, ◌<◌, ◌≤◌, List, [], ◌∷◌, ◌++◌, Some, length, take, get_or}
use Rattle.std.specs.Prelude.{slice_get}
use Rattle.std.proofs.lemmas.Bool.{eqb-true, eq-eqb}
use Rattle.std.proofs.lemmas.List.{map-append, take_all, take_more}
use Rattle.std.proofs.lemmas.List.Elements.{All-append, All-cons, All-nil}
use Rattle.std.proofs.lemmas.Option.{same_Some, slice_get_within}
use Rattle.chart_lines.specs.declared.charts.chart.Line.{Line}
use Rattle.hubs.specs.declared.hub.Hub.{Hub}
use Rattle.show_drawings.specs.declared.drawings.panel_drawing.drawing.PanelWire.{PanelWire}
use Rattle.chart_plans.specs.PlansWords.Plans.{Lists}
use Rattle.hubs.specs.SetupsWords.Wiring.{Wiring, HasWire}
use Rattle.wire_gen.specs.OfLine.{IsSetupOfLine}
use Rattle.wiring_table.specs.Wires.{LineWire}
use Rattle.show_sections.specs.ChartPanels.Asking.{AreAsked, HasItsLine, IsAsked, IsLineOf, NoneBefore, ends}

-- no line stands before the first one
pub none_before : (lines : List Line) (plan : Lists) (exit entry : Hub) → NoneBefore lines plan exit entry 0
none_before lines plan exit entry before line less there asks = absurd (omega (arith, less))

-- one line more that doesn't ask
pub none_more : (lines : List Line) (plan : Lists) (exit entry : Hub) (place : ℕ) (line : Line) (setup : Wiring)
    → NoneBefore lines plan exit entry place → slice_get lines place ≡ Some line → IsSetupOfLine lines plan line setup
    → (HasWire setup exit entry → ⊥) → NoneBefore lines plan exit entry (place + 1)
none_more lines plan exit entry place line setup none there of unwired before other less there_too asks =
    decide_at (eqb before place) refl
  where
    decide_at : (same : Bool) → eqb before place ≡ same → ⊥
    decide_at true e =
        let at : slice_get lines place ≡ Some other =
        ap (λ (n : ℕ). slice_get lines n) (sym (eqb-true before place e)) ∙ there_too in
        let one : other ≡ line = same_Some other line (sym at ∙ there) in
        unwired ((of.wires exit entry).1
        (subst (λ (l : Line). LineWire lines plan l.number l.statement exit entry) one asks))
    decide_at false e =
        let apart : before ≢ place = λ same. true≢false (sym (eq-eqb before place same) ∙ e) in
        none before other (omega (arith, less)) there_too asks

-- the line that asks
pub asked_here : (lines : List Line) (plan : Lists) (exit entry : Hub) (place : ℕ) (line : Line) (setup : Wiring)
    → NoneBefore lines plan exit entry place → slice_get lines place ≡ Some line → IsSetupOfLine lines plan line setup
    → HasWire setup exit entry → IsLineOf lines plan exit entry line.number
asked_here lines plan exit entry place line setup none there of wired = inl (record {
  place = place;
  line = line;
  there = there;
  number_is = refl;
  asks = (of.wires exit entry).0 wired;
  first = none;
})

-- no line of all asks
pub none_of_all : (lines : List Line) (plan : Lists) (exit entry : Hub) (place : ℕ) → NoneBefore lines plan exit entry place
    → length lines ≤ place → IsLineOf lines plan exit entry 0
none_of_all lines plan exit entry place none all =
    inr (refl, λ at line there. none at line (omega (arith, all, slice_get_within lines at line there)) there)

-- no wire yet, and one more
pub asked_none : (lines : List Line) (plan : Lists) → AreAsked lines plan [] []
asked_none lines plan = record { ends_are = refl; asked = All-nil (HasItsLine lines plan) }

pub asked_more : (lines : List Line) (plan : Lists) (pairs : List (Hub × Hub)) (wires : List PanelWire) (wire : PanelWire)
    → AreAsked lines plan pairs wires → HasItsLine lines plan wire
    → AreAsked lines plan (pairs ++ (wire.exit, wire.entry) ∷ []) (wires ++ wire ∷ [])
asked_more lines plan pairs wires wire before is = record {
  ends_are = map-append ends wires (wire ∷ []) ∙ ap (λ (l : List (Hub × Hub)). l ++ ends wire ∷ []) before.ends_are;
  asked = All-append (HasItsLine lines plan) wires (wire ∷ []) before.asked
      (All-cons (HasItsLine lines plan) wire [] is (All-nil (HasItsLine lines plan)));
}

pub asked_item : (lines : List Line) (plan : Lists) (pairs : List (Hub × Hub)) (place : ℕ) (d : Hub × Hub) (old new : List PanelWire)
    (wire : PanelWire) → place < length pairs → AreAsked lines plan (take place pairs) old
    → IsAsked lines plan (get_or pairs place d) wire → new ≡ old ++ wire ∷ [] → AreAsked lines plan (take (place + 1) pairs) new
asked_item lines plan pairs place d old new wire less before is pushed =
    let more = asked_more lines plan (take place pairs) old wire before is.asked in
    let all : take place pairs ++ ends wire ∷ [] ≡ take (place + 1) pairs =
    ap (λ (p : Hub × Hub). take place pairs ++ p ∷ []) is.ends_is ∙ sym (take_more pairs place d less) in
    subst (λ (l : List PanelWire). AreAsked lines plan (take (place + 1) pairs) l) (sym pushed)
    (subst (λ (l : List (Hub × Hub)). AreAsked lines plan l (old ++ wire ∷ [])) all more)

-- all wires with their lines
pub asked_all : (lines : List Line) (plan : Lists) (pairs : List (Hub × Hub)) (place : ℕ) (wires : List PanelWire) → length pairs ≤ place
    → AreAsked lines plan (take place pairs) wires → AreAsked lines plan pairs wires
asked_all lines plan pairs place wires all before =
    subst (λ (l : List (Hub × Hub)). AreAsked lines plan l wires) (take_all place pairs all) before
