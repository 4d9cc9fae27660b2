use Rattle.std.proofs.Common.{refl}
use Rattle.readback_panels.proofs.ColumnsShown.{put_keeps, put_shows}
use Rattle.readback_panels.proofs.card_line.put_run.Goals as goal

pub returns-clause-shows : goal.returns-clause-shows
returns-clause-shows c = λ straight.
    put_shows c.put.result c.args.run c.card_field.new.self c.put.new.self _ c.in_ok-field.field straight refl refl refl refl
    c.in_ok-field.ensures.columns c.put.ensures.fields c.put.ensures.gained

pub returns-clause-kept : goal.returns-clause-kept
returns-clause-kept c =
    put_keeps c.put.result c.args.draft.now c.card_field.new.self c.put.new.self _ c.in_ok-field.ensures.items c.in_ok-field.ensures.kept
    c.put.ensures.fields c.put.ensures.gained
