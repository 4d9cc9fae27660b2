use Rattle.std.proofs.Common.{◌≡◌, ◌↔◌, IsTrue, refl}
use Rattle.chart_lines.specs.declared.charts.level.ControlLevel.TheVariants as control
use Rattle.chart_plans.proofs.PlansWords.EachKind.{HasFirst, all-told, and-next, and-none, first-told}
use Rattle.chart_plans.specs.declared.plans.part_numbers.PartKind.TheVariants as kind
use Rattle.chart_plans.proofs.plans.part_numbers.PartNumbers.are_in_order.Goals as goal
use Rattle.chart_plans.proofs.plans.part_numbers.PartNumbers.are_in_order.Goals.{then-are_first, else-are_first, then-are_first-2, else-are_first-2, then-are_first-3, else-are_first-3, then-are_first-4, else-are_first-4, then-are_first_at, else-are_first_at}

pub returns-then-are_first_at-2 : goal.returns-then-are_first_at-2
returns-then-are_first_at-2 c =
    let P = HasFirst c.args.parts.now c.args.self.now in
    let one : IsTrue c.are_first.result ↔ P kind.Pilot = first-told c.are_first.ensures c.pilots-2.ensures c.pilots.ensures.value in
    let two : IsTrue c.if-are_first.value ↔ ((P kind.Pilot) × P kind.Comparing) =
    elim c.if-are_first.branch [
      | then-are_first w ↦ and-next one w.if-are_first.true w.value-is (first-told w.are_first-then-are_first.ensures w.comparing-then-are_first.ensures w.comparing.ensures.value)
      | else-are_first w ↦ and-none one w.if-are_first.false w.value-is
    ] in
    let three : IsTrue c.if-are_first-2.value ↔ (((P kind.Pilot) × P kind.Comparing) × P kind.Storage) =
    elim c.if-are_first-2.branch [
      | then-are_first-2 w ↦ and-next two w.if-are_first-2.true w.value-is (first-told w.are_first-then-are_first-2.ensures w.storage-then-are_first-2.ensures w.storage.ensures.value)
      | else-are_first-2 w ↦ and-none two w.if-are_first-2.false w.value-is
    ] in
    let four : IsTrue c.if-are_first-3.value ↔ ((((P kind.Pilot) × P kind.Comparing) × P kind.Storage) × P kind.Split) =
    elim c.if-are_first-3.branch [
      | then-are_first-3 w ↦ and-next three w.if-are_first-3.true w.value-is (first-told w.are_first-then-are_first-3.ensures w.splits-then-are_first-3.ensures w.splits.ensures.value)
      | else-are_first-3 w ↦ and-none three w.if-are_first-3.false w.value-is
    ] in
    let five : IsTrue c.if-are_first-4.value ↔ (((((P kind.Pilot) × P kind.Comparing) × P kind.Storage) × P kind.Split) × P (kind.Indicate control.Minor)) =
    elim c.if-are_first-4.branch [
      | then-are_first-4 w ↦ and-next four w.if-are_first-4.true w.value-is w.are_first_at.ensures
      | else-are_first-4 w ↦ and-none four w.if-are_first-4.false w.value-is
    ] in
    let six : IsTrue c.if-are_first_at.value ↔ ((((((P kind.Pilot) × P kind.Comparing) × P kind.Storage) × P kind.Split) × P (kind.Indicate control.Minor)) × P (kind.Indicate control.Intermediate)) =
    elim c.if-are_first_at.branch [
      | then-are_first_at w ↦ and-next five w.if-are_first_at.true w.value-is w.are_first_at-then-are_first_at.ensures
      | else-are_first_at w ↦ and-none five w.if-are_first_at.false w.value-is
    ] in
    all-told P (and-next six c.if-are_first_at-2.true refl c.are_first_at-then-are_first_at-2.ensures)

pub returns-else-are_first_at-2 : goal.returns-else-are_first_at-2
returns-else-are_first_at-2 c =
    let P = HasFirst c.args.parts.now c.args.self.now in
    let one : IsTrue c.are_first.result ↔ P kind.Pilot = first-told c.are_first.ensures c.pilots-2.ensures c.pilots.ensures.value in
    let two : IsTrue c.if-are_first.value ↔ ((P kind.Pilot) × P kind.Comparing) =
    elim c.if-are_first.branch [
      | then-are_first w ↦ and-next one w.if-are_first.true w.value-is (first-told w.are_first-then-are_first.ensures w.comparing-then-are_first.ensures w.comparing.ensures.value)
      | else-are_first w ↦ and-none one w.if-are_first.false w.value-is
    ] in
    let three : IsTrue c.if-are_first-2.value ↔ (((P kind.Pilot) × P kind.Comparing) × P kind.Storage) =
    elim c.if-are_first-2.branch [
      | then-are_first-2 w ↦ and-next two w.if-are_first-2.true w.value-is (first-told w.are_first-then-are_first-2.ensures w.storage-then-are_first-2.ensures w.storage.ensures.value)
      | else-are_first-2 w ↦ and-none two w.if-are_first-2.false w.value-is
    ] in
    let four : IsTrue c.if-are_first-3.value ↔ ((((P kind.Pilot) × P kind.Comparing) × P kind.Storage) × P kind.Split) =
    elim c.if-are_first-3.branch [
      | then-are_first-3 w ↦ and-next three w.if-are_first-3.true w.value-is (first-told w.are_first-then-are_first-3.ensures w.splits-then-are_first-3.ensures w.splits.ensures.value)
      | else-are_first-3 w ↦ and-none three w.if-are_first-3.false w.value-is
    ] in
    let five : IsTrue c.if-are_first-4.value ↔ (((((P kind.Pilot) × P kind.Comparing) × P kind.Storage) × P kind.Split) × P (kind.Indicate control.Minor)) =
    elim c.if-are_first-4.branch [
      | then-are_first-4 w ↦ and-next four w.if-are_first-4.true w.value-is w.are_first_at.ensures
      | else-are_first-4 w ↦ and-none four w.if-are_first-4.false w.value-is
    ] in
    let six : IsTrue c.if-are_first_at.value ↔ ((((((P kind.Pilot) × P kind.Comparing) × P kind.Storage) × P kind.Split) × P (kind.Indicate control.Minor)) × P (kind.Indicate control.Intermediate)) =
    elim c.if-are_first_at.branch [
      | then-are_first_at w ↦ and-next five w.if-are_first_at.true w.value-is w.are_first_at-then-are_first_at.ensures
      | else-are_first_at w ↦ and-none five w.if-are_first_at.false w.value-is
    ] in
    all-told P (and-none six c.if-are_first_at-2.false refl)
