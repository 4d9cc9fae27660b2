use Rattle.std.proofs.Common.{◌≡◌, ◌∙◌, ◌+◌, ◌-◌, ◌++◌, ℕ, List, length, take, drop, sym, ap, arith, length-drop}
use Rattle.std.proofs.KnownBytes.{Appends-trans}
use Rattle.std.proofs.Math.Seq.{take-add, take_all}
use Rattle.explain_words.proofs.traces.tracing.put_line.Goals as goal

-- a piece more of what is left
piece_more : (bytes : List ℕ) (done count : ℕ) → take (done + count) bytes ≡ take done bytes ++ take count (take (length bytes - done) (drop done bytes))
piece_more bytes done count =
    take-add done count bytes
    ∙ ap (λ rest. take done bytes ++ take count rest)
    (sym (take_all (length bytes - done) (drop done bytes) (omega (arith, length-drop done bytes))))

pub loop-done-preserved : goal.loop-done-preserved
loop-done-preserved g c = record {
  within = omega (arith, c.in-Ok.ensures.bound, length-drop c.loop-done.done c.args.line.now);
  taken = rw (piece_more c.args.line.now c.loop-done.done c.in-Ok.count)
      (Appends-trans _ _ _ _ _ c.loop-done.invariant.taken c.in-Ok.ensures.bytes);
}
