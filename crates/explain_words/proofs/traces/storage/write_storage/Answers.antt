use Rattle.std.proofs.Common.{◌++◌, codes, decimal}
use Rattle.explain_words.specs.TracesWords.TracedUnits.{bracketed, storage_text}
use Rattle.explain_words.proofs.TracesWords.Pieces.{kept_none, other_told}
use Rattle.explain_words.proofs.traces.storage.write_storage.Goals as goal

pub returns-then-is : goal.returns-then-is
returns-then-is c =
    kept_none c.args.text.now.items
    (codes "   storage " ++ decimal c.args.storage.now.place ++ codes " " ++ bracketed (storage_text c.args.behind.now))
    c.characters_held.result c.characters_held-held.result (storage_text c.args.storage.now) (storage_text c.args.behind.now)
    c.is.result c.is.ensures c.characters_held.ensures c.characters_held-held.ensures c.if-is.true

pub returns : goal.returns
returns c =
    other_told c.write_held.result c.args.text.now.items c.write_held.new.text.items c.characters_held.result
    c.characters_held-held.result (storage_text c.args.storage.now) (storage_text c.args.behind.now) c.place.result
    c.args.storage.now.place c.is.result c.is.ensures c.characters_held.ensures c.characters_held-held.ensures c.place.ensures
    c.if-is.false c.write_held.ensures
