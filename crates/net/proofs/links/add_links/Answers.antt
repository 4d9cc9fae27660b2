use Rattle.std.proofs.Common.{◌∙◌, List, All, ap, refl, sym, subst, arith}
use Rattle.std.proofs.lemmas.List.Elements.{All-push}
use Rattle.machine_sets.specs.SpreadsWords.Links.{IsInRange, is_linked}
use Rattle.machine_sets.specs.declared.spreads.links.Link.{Link}
use Rattle.machine_sets.proofs.SpreadsWords.LinkLemmas.{linked-more}
use Rattle.net.proofs.NetWires.{Adds-all, Adds-more, Adds-none}
use Rattle.net.proofs.links.add_links.Goals as goal

pub loop-to-init : goal.loop-to-init
loop-to-init c = record { lawful = c.requires.lawful; added = Adds-none (is_linked c.args.links.now.items) c.args.place }

pub loop-to-preserved : goal.loop-to-preserved
loop-to-preserved c =
    let entry = c.requires.entries c.loop-to.to-index 0 c.loop-to-test.true in
    let items = c.in_ok-push.ensures.items in
    record {
      lawful =
          subst (λ (links : List Link). All IsInRange links) (sym items)
          (All-push IsInRange c.loop-to.links.items _ c.loop-to.invariant.lawful
          (record {
            from = c.requires.place;
            low = omega (arith, entry.0);
            high = omega (arith, entry.0, entry.1);
          }));
      added =
          Adds-more (is_linked c.args.links.now.items) (is_linked c.loop-to.links.items) (is_linked c.push.new.self.items) c.args.place
          c.args.entries.now c.loop-to.to-index 0 _ c.loop-to-test.true refl (omega (arith, entry.0))
          (λ f t. ap (λ (links : List Link). is_linked links f t) items ∙ linked-more c.loop-to.links.items _ f t)
          c.loop-to.invariant.added;
    }

pub returns-clause-added : goal.returns-clause-added
returns-clause-added c =
    Adds-all (is_linked c.args.links.now.items) (is_linked c.loop-to.links.items) c.args.place c.args.entries.now c.loop-to.to-index
    c.loop-to-test.false c.loop-to.invariant.added
