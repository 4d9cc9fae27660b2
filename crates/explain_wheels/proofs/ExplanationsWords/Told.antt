-- What was found of a line, told of one of its wheels, is its explanation.
use Rattle.std.proofs.Common.{◌≡◌, ◌∙◌, sym, ap, subst, refl, arith, ℕ, ◌+◌, ◌-◌, ◌<◌, ◌≤◌, Bool, List, Option, None, map, slice_index_or}
use Rattle.std.specs.Prelude.{Vec, is_some}
use Rattle.std.specs.declared.alloc.Global.{Global}
use Rattle.std.proofs.lemmas.List.{length-map}
use Rattle.hubs.specs.declared.hub.Hub.{Hub}
use Rattle.hubs.specs.declared.hub.Hub.TheVariants.{W}
use Rattle.hubs.specs.SetupsWords.Wiring.{Wiring}
use Rattle.net.specs.HubSets.{has_hub}
use Rattle.net.specs.Impulsed.{IsPicture}
use Rattle.net.specs.declared.cycle.Cycle.{Cycle}
use Rattle.net.specs.declared.cycle.Point.{Point}
use Rattle.machine.specs.Cycles.{point_at}
use Rattle.machine.specs.Kept.{KeepsPoints, kept_at}
use Rattle.machine.specs.Machine.{MachineState, closes, emits}
use Rattle.machine.specs.declared.kept.KeptPoint.{KeptPoint}
use Rattle.machine.proofs.OneOutcome.{Reached-one}
use Rattle.print_unit.specs.Wheels.{wheel_at_start}
use Rattle.print_unit.specs.ZeroControl.{shown}
use Rattle.explain_wheels.specs.ExplanationsWords.Explanations.{ExplainsBy, IsExplanation, IsTold, SeesRow, TellsPoint, TellsRows, TellsSignificance, character_on, is_significant}
use Rattle.explain_wheels.specs.ExplanationsWords.PlacedInRun.{IsFound, machine_before}
use Rattle.explain_wheels.specs.ExplanationsWords.Rows.{ArePictures}
use Rattle.explain_wheels.specs.declared.explanations.explanation.Explanation.{Explanation}
use Rattle.explain_wheels.specs.declared.explanations.found.FoundLine.{FoundLine}
use Rattle.explain_wheels.specs.declared.explanations.significance.Significance.{Significance}
use Rattle.explain_wheels.proofs.ExplanationsWords.PointsTold.{point-told}
use Rattle.explain_wheels.proofs.ExplanationsWords.ReadyRuns.{ready-before}
use Rattle.explain_wheels.proofs.ExplanationsWords.RowLists.{received-is, told-received}
use Rattle.explain_wheels.proofs.ExplanationsWords.SeenRows.{cycle-seen}
use Rattle.explain_wheels.proofs.ExplanationsWords.ZeroControl.{line-shows, placed-text}

picture-same : (wiring : Wiring) (picture exits closed other_exits other_closed : Hub → Bool)
    → exits ≡ other_exits → closed ≡ other_closed
    → IsPicture wiring exits closed picture → IsPicture wiring other_exits other_closed picture
picture-same wiring picture exits closed other_exits other_closed one other is =
    subst (λ (c : Hub → Bool). IsPicture wiring other_exits c picture) other (subst (λ (e : Hub → Bool). IsPicture wiring e closed picture) one is)

module _ (wiring : Wiring) (cycle : Cycle) (old : MachineState) (points : List KeptPoint) (keeps : KeepsPoints wiring cycle old 14 points) where
  -- a row is told by the state of the machine just before it
  told-row : (hub : Hub) (row : ℕ) → row < 12 → (found : Option (Vec Hub Global)) → IsTold wiring (kept_at points (row + 1)) hub found
      → TellsPoint wiring cycle old (row + 1) hub found
  told-row hub row less found told =
      point-told wiring cycle old points keeps (row + 1) (omega (arith, less)) hub found (told.way, told.exactly)

  -- what the machine saw at the rows is the pictures of the points that are kept
  pictures-kept : (pictures : Point → Hub → Bool) → ((row : ℕ) → row < 12 → SeesRow wiring cycle old pictures row)
      → ArePictures wiring points pictures
  pictures-kept pictures sees = λ row less.
      let kept = keeps (row + 1) (omega (arith, less)) in
      let seen = sees row less in
      let one = Reached-one wiring cycle (row + 1) old seen.now kept.0 seen.reached kept.1 in
      let here =
      subst
      (λ (m : MachineState). IsPicture wiring (emits m cycle (point_at (row + 1))) (closes m cycle (point_at (row + 1))) (pictures (point_at (row + 1))))
      one seen.picture in
      picture-same wiring (pictures (point_at (row + 1))) _ _ (has_hub (kept_at points (row + 1)).exits)
      (has_hub (kept_at points (row + 1)).contacts) (sym (λ i hub. kept.2.exits hub i)) (sym (λ i hub. kept.2.contacts hub i)) here

pub explained : (wiring : Wiring) (deck : List (List ℕ)) (found : FoundLine) (wheel : ℕ) → 1 ≤ wheel → wheel ≤ 120
    → IsFound wiring deck found → (rows : Vec (Option (Vec Hub Global)) Global)
    → TellsRows wiring found.kept.points 12 (W wheel) rows.items → (significance : Significance)
    → ((pictures : Point → Hub → Bool) → ArePictures wiring found.kept.points pictures
    → TellsSignificance wiring pictures found.kept.cycle wheel significance)
    → (character : ℕ) → character ≡ character_on found.kept.line wheel
    → ExplainsBy found.kept.points wiring deck found.kept.line.page found.kept.line.line wheel (record {
      cards = found.cards;
      cycle = found.kept.cycle;
      waits = found.kept.waits;
      line = found.kept.line;
      wheel = wheel;
      character = character;
      rows = rows;
      significance = significance;
    })
explained wiring deck found wheel first range is rows tells significance tells_significance character printed =
    let cycle = found.kept.cycle in
    let points = found.kept.points in
    let old = machine_before is.run in
    let ready = ready-before wiring deck found.cards cycle found.kept.line is.run in
    let seen = cycle-seen wiring cycle old is.run.after.machine ready is.run.step.ran in
    let are = pictures-kept wiring cycle old points is.points seen.pictures seen.rows in
    let told = tells_significance seen.pictures are in
    let text = placed-text is.run.after.machine.carriage.printed is.run.after.machine.wheels.line found.kept.line is.run.placed in
    let received =
    received-is wiring points seen.pictures wheel (map is_some rows.items) (length-map rows.items is_some ∙ tells.long)
    (told-received wiring points wheel rows.items tells) are in
    record {
      is = record {
        run = is.run;
        waits = is.waits;
        points = points;
        kept = is.points;
        at_page = refl;
        at_line = refl;
        at_wheel = refl;
        long = tells.long;
        rows = λ row less. told-row wiring cycle old points is.points (W wheel) row less (slice_index_or rows.items row None) (tells.told row less);
        pictures = seen.pictures;
        seen = seen.rows;
        significance = told;
        printed = printed;
        shows =
            printed
            ∙ ap (λ (line : List ℕ). slice_index_or line (wheel - 1) 0) (text ∙ seen.line)
            ∙ line-shows wiring seen.pictures cycle wheel first range significance told
            ∙ ap (λ (has : List Bool). shown (is_significant significance) (record (wheel_at_start wiring wheel) { received = has })) (sym received);
      };
      by = refl;
    }

-- what is told of a line that stands at a page and a line of it
pub told-there : (wiring : Wiring) (deck : List (List ℕ)) (found other : FoundLine) (page line wheel : ℕ) (told : Explanation)
    → found ≡ other → other.kept.line.page ≡ page → other.kept.line.line ≡ line
    → IsExplanation wiring deck found.kept.line.page found.kept.line.line wheel told → IsExplanation wiring deck page line wheel told
told-there wiring deck found other page line wheel told same at_page at_line is =
    subst (λ (l : ℕ). IsExplanation wiring deck page l wheel told) (ap (λ (f : FoundLine). f.kept.line.line) same ∙ at_line)
    (subst (λ (p : ℕ). IsExplanation wiring deck p found.kept.line.line wheel told) (ap (λ (f : FoundLine). f.kept.line.page) same ∙ at_page)
    is)
