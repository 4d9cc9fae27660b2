use Rattle.std.proofs.Common.{◌∙◌, sym, subst, take, drop, take-append-drop, ℕ, List}
use Rattle.std.specs.Io.KnownBytes.{Appends}
use Rattle.explain_wheels.specs.RunsWords.{along_of}
use Rattle.explain_wheels.proofs.RunsWords.DeckRuns.{run-falls}
use Rattle.explain_words.specs.TracesWords.Tracing.{WritesTrace}
use Rattle.explain_words.proofs.TracesWords.Running.{Stands-all, Stands-begun, Stands-front, Stands-more, Stands-over, Stands-part, nothing_traced, whatever}
use Rattle.explain_words.proofs.traces.tracing.write_trace.Goals as goal

pub loop-cycle-init : goal.loop-cycle-init
loop-cycle-init g c =
    Stands-begun c.args.setup.now c.args.cards.now c.in_ok-run.run' (g.W.Write.contents c.args.out.now) c.in_ok-run.ensures

pub enter-requires-clause-between : goal.enter-requires-clause-between
enter-requires-clause-between g c = c.loop-cycle.invariant.between

pub loop-cycle-smaller : goal.loop-cycle-smaller
loop-cycle-smaller g c =
    run-falls c.args.setup.now c.args.cards.now c.in-Some.cycle (along_of c.loop-cycle.run) c.enter.new.self c.tell_cycle.new.run
    c.in-Some.ensures.enters
    (c.in_ok-tell_cycle.ensures c.args.setup.now c.args.cards.now (along_of c.loop-cycle.run) c.in-Some.ensures.enters).ends

pub loop-cycle-preserved : goal.loop-cycle-preserved
loop-cycle-preserved g c =
    Stands-more c.args.setup.now c.args.cards.now c.in-Some.cycle c.loop-cycle.run c.enter.new.self c.tell_cycle.new.run
    c.tell_cycle.new.line.items (g.W.Write.contents c.args.out.now) (g.W.Write.contents c.loop-cycle.out)
    (g.W.Write.contents c.put_line.new.out) c.loop-cycle.invariant c.in-Some.ensures.enters
    (c.in_ok-tell_cycle.ensures c.args.setup.now c.args.cards.now (along_of c.loop-cycle.run) c.in-Some.ensures.enters)
    (subst (λ (l : List ℕ). Appends (g.W.Write.contents c.loop-cycle.out) (g.W.Write.contents c.put_line.new.out) l)
    c.as_slice.ensures.value c.in_ok-put_line.ensures.written)

pub returns-clause-written : goal.returns-clause-written
returns-clause-written g c =
    whatever (WritesTrace c.args.setup.now c.args.cards.now (g.W.Write.contents c.args.out.now) (g.W.Write.contents c.flush.new.self))
    c.flush.result
    (Stands-over c.args.setup.now c.args.cards.now c.loop-cycle.run (g.W.Write.contents c.args.out.now)
    (g.W.Write.contents c.loop-cycle.out) (g.W.Write.contents c.flush.new.self) c.loop-cycle.invariant
    (c.enter.ensures.over c.in_default.is) c.flush.ensures.bytes)

pub returns-clause-front : goal.returns-clause-front
returns-clause-front g c =
    Stands-all c.args.setup.now c.args.cards.now (g.W.Write.contents c.args.out.now) (g.W.Write.contents c.flush.new.self)
    (Stands-over c.args.setup.now c.args.cards.now c.loop-cycle.run (g.W.Write.contents c.args.out.now)
    (g.W.Write.contents c.loop-cycle.out) (g.W.Write.contents c.flush.new.self) c.loop-cycle.invariant
    (c.enter.ensures.over c.in_default.is) c.flush.ensures.bytes)

pub returns-in_err-run-clause-front : goal.returns-in_err-run-clause-front
returns-in_err-run-clause-front g c = nothing_traced c.args.setup.now c.args.cards.now (g.W.Write.contents c.args.out.now)

pub returns-in_err-tell_cycle-clause-front : goal.returns-in_err-tell_cycle-clause-front
returns-in_err-tell_cycle-clause-front g c = Stands-front c.args.setup.now c.args.cards.now c.loop-cycle.run (g.W.Write.contents c.args.out.now)
    (g.W.Write.contents c.loop-cycle.out) c.loop-cycle.invariant

pub returns-in_err-put_line-clause-front : goal.returns-in_err-put_line-clause-front
returns-in_err-put_line-clause-front g c =
    let part = c.in_err-put_line.ensures.front in
    Stands-part c.args.setup.now c.args.cards.now c.in-Some.cycle c.loop-cycle.run c.enter.new.self c.tell_cycle.new.run
    c.tell_cycle.new.line.items (take part.0 c.as_slice.result.now) (drop part.0 c.as_slice.result.now)
    (g.W.Write.contents c.args.out.now) (g.W.Write.contents c.loop-cycle.out) (g.W.Write.contents c.put_line.new.out)
    c.loop-cycle.invariant c.in-Some.ensures.enters
    (c.in_ok-tell_cycle.ensures c.args.setup.now c.args.cards.now (along_of c.loop-cycle.run) c.in-Some.ensures.enters)
    (sym c.as_slice.ensures.value ∙ sym (take-append-drop part.0 c.as_slice.result.now)) part.2
