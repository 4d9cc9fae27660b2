-- The ways of impulses to the entries of a panel that is wired for a chart.
use Rattle.std.proofs.Common.{◌≡◌, refl, sym, ap, Bool, true, false, Some, None, is_some, ◌↔◌}
use Rattle.wiring_table.specs.Below.chart_plans.PlansWords.Plans.{Lists}
use Rattle.wiring_table.specs.Below.chart_lines.ChartsWords.Chart.{Chart}
use Rattle.proof_cycles.specs.Below.hubs.Hubs.{is_hub_in_range, number_of}
use Rattle.wiring_table.specs.Below.hubs.SetupsWords.Wiring.{Wiring, LeadsToEntries}
use Rattle.proof_cycles.specs.Below.hubs.declared.hub.Hub.{Hub}
use Rattle.proof_cycles.specs.WholeCycles.Carries.{CarriesLeadToCarries}
use Rattle.proof_cycles.specs.Below.net.Impulsed.{IsImpulsed}
use Rattle.proof_cycles.specs.Below.net.Panel.{contact_of}
use Rattle.proof_cycles.proofs.WholeCycles.Contacts.{contacts-one_deep}
use Rattle.proof_cycles.proofs.WholeCycles.Sources.{emit_at_sources}
use Rattle.proof_cycles.specs.WholeCycles.OneContactDeep.{AreCarriesOpen, IsOneContactDeep, IsWithinOneContact, SourcesAloneEmit, is_source}
use Rattle.proof_cycles.specs.WholeCycles.OneContactDeep.IsWithinOneContact.{emits, wired, through as passed, after}
use Rattle.proof_reports.specs.WiredPanels.Panel.{IsPanel, Arrives}
use Rattle.proof_reports.specs.WiredPanels.Panel.Arrives.{straight, through}
use Rattle.proof_reports.proofs.WiredPanels.Chains.{carry_on, wire_orderly}

-- tests that hold together are the same
pub same_tests : (a b : Bool) → (a ≡ true → b ≡ true) → (b ≡ true → a ≡ true) → a ≡ b
same_tests true b to from = sym (to refl)
same_tests false true to from = from refl
same_tests false false to from = refl

-- a hub with a number is in range
numbered : (hub : Hub) (n : _) → number_of hub ≡ Some n → is_hub_in_range hub ≡ true
numbered hub n is = ap is_some is

-- the wires of a panel lead from exits to entries
pub leads : (chart : Chart) (plan : Lists) (wiring : Wiring) → IsPanel chart plan wiring → LeadsToEntries wiring
leads chart plan wiring panel exit entry wire =
    let given = (panel.wired.wires exit entry).0 wire in
    let orderly = wire_orderly chart.lines plan given.line.number given.wire in
    let from = orderly.from in
    let to = orderly.to in
    let exit_there = numbered exit wire.number wire.numbered in
    let entry_there = numbered entry wire.to wire.entry_numbered in
    (rw (from, exit_there) refl, rw (to, entry_there) refl)

-- no impulse passes two contacts
pub one_deep : (chart : Chart) (plan : Lists) (wiring : Wiring) → IsPanel chart plan wiring → IsOneContactDeep wiring
one_deep chart plan wiring panel = record {
  leads = leads chart plan wiring panel;
  shallow = λ x y wire out to. let given = (panel.wired.wires x y).0 wire in
      (wire_orderly chart.lines plan given.line.number given.wire).shallow out to;
}

-- wires from carries lead to carries
pub carries-lead : (chart : Chart) (plan : Lists) (wiring : Wiring) → IsPanel chart plan wiring → CarriesLeadToCarries wiring
carries-lead chart plan wiring panel exit entry wire =
    let given = (panel.wired.wires exit entry).0 wire in carry_on chart.lines plan given.line.number given.wire

-- An entry is impulsed exactly where an impulse arrives: at a point whose exits are those of units, and where no carry passes.
pub arrives :
    (chart : Chart) (plan : Lists) (wiring : Wiring) (exits closed picture : Hub → Bool) (entry : Hub)
    → IsPanel chart plan wiring → SourcesAloneEmit exits → AreCarriesOpen closed
    → (picture entry ≡ true) ↔ IsImpulsed wiring exits closed entry
    → contact_of entry ≡ None → is_source entry ≡ false → (picture entry ≡ true) ↔ Arrives chart.lines plan exits closed entry
arrives chart plan wiring exits closed picture entry panel alone open_all is_picture no_contact no_source =
    let ways = contacts-one_deep wiring exits closed entry (one_deep chart plan wiring panel) (emit_at_sources.no_common exits alone) open_all in
    (λ on. by (ways.0 (is_picture.0 on)) no_contact (alone entry no_source), λ come. is_picture.1 (ways.1 (back come)))
  where
    by : {hub : Hub} → IsWithinOneContact wiring exits closed hub → contact_of hub ≡ None → exits hub ≡ false
        → Arrives chart.lines plan exits closed hub
    by (emits hub there on) none off = cc
    by (wired exit hub on wire) none off = straight exit hub on ((panel.wired.wires exit hub).0 wire)
    by (passed exit middle hub on wire contact shut) none off = cc
    by (after exit middle contact hub on wire leads shut last) none off =
        through exit middle contact hub on ((panel.wired.wires exit middle).0 wire) leads shut
        ((panel.wired.wires contact hub).0 last)

    back : {hub : Hub} → Arrives chart.lines plan exits closed hub → IsWithinOneContact wiring exits closed hub
    back (straight exit hub on wire) = wired exit hub on ((panel.wired.wires exit hub).1 wire)
    back (through exit middle contact hub on wire leads shut last) =
        after exit middle contact hub on ((panel.wired.wires exit middle).1 wire) leads shut
        ((panel.wired.wires contact hub).1 last)
