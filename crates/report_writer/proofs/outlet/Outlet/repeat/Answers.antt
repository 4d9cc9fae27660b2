use Rattle.std.proofs.Common.{◌≡◌, ◌∙◌, ◌+◌, ◌-◌, ◌<◌, ◌++◌, ◌∷◌, [], ℕ, replicate, ap, arith}
use Rattle.std.proofs.lemmas.List.{length-replicate, replicate-append-replicate, replicate_more}
use Rattle.std.proofs.lemmas.Result.{err_from_is_err_and}
use Rattle.report_writer.proofs.Sending.{breaks_after, breaks_in, takes_after, takes_as, total_after}
use Rattle.report_writer.proofs.outlet.Outlet.repeat.Goals as goal

-- a byte more, and those that are left
parts : (time count byte : ℕ) → time < count → (replicate time byte ++ byte ∷ []) ++ replicate (count - (time + 1)) byte ≡ replicate count byte
parts time count byte within =
    let sum : time + 1 + (count - (time + 1)) ≡ count = omega arith in
    ap (λ t. t ++ replicate (count - (time + 1)) byte) (replicate_more time byte)
    ∙ replicate-append-replicate (time + 1) (count - (time + 1)) byte
    ∙ ap (λ n. replicate n byte) sum

pub take-requires-clause-fits : goal.take-requires-clause-fits
take-requires-clause-fits g c =
    omega (arith, total_after c.loop-time.invariant.bytes, length-replicate c.loop-time._time c.args.byte, c.loop-time-test.true, c.requires)

pub returns-in_err-take-clause-bytes : goal.returns-in_err-take-clause-bytes
returns-in_err-take-clause-bytes g c =
    let p = err_from_is_err_and c.from_residual.result c.from_residual.ensures.1 in
    rw (p.1, p.2) (
      c.in_err-take.ensures.bytes.0,
      breaks_in _ (parts c.loop-time._time c.args.count c.args.byte c.loop-time-test.true)
          (breaks_after c.loop-time.invariant.bytes c.in_err-take.ensures.bytes.1),
    )

pub loop-time-preserved : goal.loop-time-preserved
loop-time-preserved g c = record {
  bytes = takes_as (replicate_more c.loop-time._time c.args.byte) (takes_after c.loop-time.invariant.bytes c.in_ok-take.ensures.bytes);
  same = c.in_ok-take.ensures.same ∙ c.loop-time.invariant.same;
}
