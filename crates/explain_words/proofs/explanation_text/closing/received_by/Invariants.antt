use Rattle.std.specs.Prelude.{◌≡◌, is_some, length, map, take}
use Rattle.explain_words.proofs.explanation_text.closing.received_by.Given as goal

-- the rows so far are read
abbrev pub invariant-loop-place : goal.invariant-loop-place
invariant-loop-place l = record {
  read : take l.place l.received ≡ map is_some (take l.place l.told.rows.items);
  long : length l.received ≡ 12;
}
