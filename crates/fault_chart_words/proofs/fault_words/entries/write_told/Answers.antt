use Rattle.std.proofs.Common.{List, ℕ, OnOk, length, refl, subst}
use Rattle.std.proofs.lemmas.Option.{slice_get_read}
use Rattle.std.specs.Io.KnownBytes.{Appends}
use Rattle.fault_chart_words.proofs.FaultWords.Telling.{NotYet-more, is_number, not_number, told_end, told_here}
use Rattle.fault_chart_words.proofs.fault_words.entries.write_told.Goals as goal

pub returns-then-line-fault : goal.returns-then-line-fault
returns-then-line-fault g c =
    let at = slice_get_read c.lines-lines.result.now (length c.lines-lines.result.now) c.loop-place.place c.index-lines-place.result refl c.loop-place-test.true c.index-lines-place.is in
    subst (λ (t : List ℕ). OnOk c.write_line.result (Appends (g.W.Write.contents c.args.out.now) (g.W.Write.contents c.write_line.new.out) t))
    (told_here c.args.fault.rule c.args.raw.now c.args.text.now c.args.fault.line c.loop-place.place c.index-lines-place.result
    (rw c.lines-lines.ensures.value at at) (is_number c.index-lines-place.result.number c.args.fault.line c.if-line-fault.true) c.loop-place.invariant.1)
    (rw (c.loop-place.invariant.0, c.requires.fields, c.lines-lines.ensures.value) at c.write_line.ensures)

pub loop-place-preserved : goal.loop-place-preserved
loop-place-preserved g c =
    let at = slice_get_read c.lines-lines.result.now (length c.lines-lines.result.now) c.loop-place.place c.index-lines-place.result refl c.loop-place-test.true c.index-lines-place.is in (
      c.loop-place.invariant.0,
      NotYet-more c.args.fault.rule c.args.raw.now c.args.text.now c.args.fault.line c.loop-place.place c.index-lines-place.result
          (rw c.lines-lines.ensures.value at at) (not_number c.index-lines-place.result.number c.args.fault.line c.if-line-fault.false) c.loop-place.invariant.1,
    )

pub returns : goal.returns
returns g c =
    subst (λ (t : List ℕ). OnOk c.write_end.result (Appends (g.W.Write.contents c.args.out.now) (g.W.Write.contents c.write_end.new.out) t))
    (told_end c.args.fault.rule c.args.raw.now c.args.text.now c.args.fault.line c.loop-place.place
    (rw c.lines-lines.ensures.value at c.loop-place-test.false) c.loop-place.invariant.1)
    (rw c.loop-place.invariant.0 at c.write_end.ensures)
