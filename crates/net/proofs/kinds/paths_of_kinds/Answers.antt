use Rattle.std.proofs.Common.{◌≡◌, ◌+◌, arith, get_or, subst, sym, ℕ}
use Rattle.std.proofs.lemmas.List.{get_or_read_under}
use Rattle.net.specs.Tellings.{IsTelling}
use Rattle.net.specs.declared.tellings.Telling.{Telling}
use Rattle.net.proofs.DirectWires.{wires-lead}
use Rattle.net.proofs.KindPaths.{ArePathsBelow, paths-first, paths-more}
use Rattle.net.proofs.kinds.paths_of_kinds.Goals as goal

pub loop-kind-init : goal.loop-kind-init
loop-kind-init c = paths-first c.args.links.now c.args.tellings.now _ c.new-paths.ensures.items

pub loop-kind-preserved : goal.loop-kind-preserved
loop-kind-preserved c =
    paths-more c.args.links.now c.args.tellings.now c.loop-kind.kind c.loop-kind.paths.items _ _ c.in_ok-push.ensures.items
    (λ telling wiring rows cycle is_net lead is told. record {
      links = c.args.links.now;
      lead = lead;
      exits = c.emitting-exits.result;
      emitting =
          c.emitting-exits.ensures wiring rows cycle is_net
          (wires-lead wiring (record { rows = rows }) c.args.links.now is_net lead.range lead.agree) is
          (subst (λ (t : Telling). IsTelling rows (1024 + c.loop-kind.kind) t) (read telling) told);
      parted = c.in_ok-of.ensures;
    })
    c.loop-kind.invariant
  where
    read : (telling : Telling) → ◌≡◌ {A = Telling} (get_or c.args.tellings.now c.loop-kind.kind telling) c.index-tellings-kind.result
    read telling =
        sym (get_or_read_under c.args.tellings.now c.loop-kind.kind 16 c.index-tellings-kind.result telling c.index-tellings-kind.is
        c.loop-kind-test.true (sym c.requires.all))

pub returns : goal.returns
returns c =
    let end : c.loop-kind.kind ≡ 16 = omega (arith, c.loop-kind-test.false, c.loop-kind.auto.kind-end) in
    let all = subst (λ (count : ℕ). ArePathsBelow c.args.links.now c.args.tellings.now count c.loop-kind.paths.items) end c.loop-kind.invariant in
    record { long = all.long; each = all.each }
