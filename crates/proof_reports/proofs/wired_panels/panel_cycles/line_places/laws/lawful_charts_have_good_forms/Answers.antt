use Rattle.proof_reports.proofs.WiredPanels.CycleAsks.LinePlaces.LawfulForms.{form-lawful}
use Rattle.proof_reports.proofs.wired_panels.panel_cycles.line_places.laws.lawful_charts_have_good_forms.Goals as goal

pub returns : goal.returns
returns c = form-lawful
