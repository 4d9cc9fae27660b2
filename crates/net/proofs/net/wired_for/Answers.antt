use Rattle.std.proofs.Common.{◌≤◌, ◌≡◌, ◌∙◌, All, List, ap, subst, sym, arith}
use Rattle.std.proofs.lemmas.List.Elements.{All-nil}
use Rattle.machine_sets.specs.BitSets.Rows.{leads}
use Rattle.machine_sets.specs.SpreadsWords.Links.{IsInRange, is_linked}
use Rattle.machine_sets.specs.declared.spreads.links.Link.{Link}
use Rattle.net.proofs.NetWires.{IsNetBelow-first, IsNetBelow-more, IsNetOf-all, agree-more, no_hub}
use Rattle.net.proofs.net.wired_for.Goals as goal
use Rattle.net.proofs.net.wired_for.Goals.{in-Some+in_ok-add_links, in_default}

pub loop-number-init : goal.loop-number-init
loop-number-init c = record {
  long = c.in_ok-rows.ensures.long;
  below = IsNetBelow-first c.args.setup.now c.in_ok-rows.rows c.in_ok-rows.ensures.empty;
  lead = record {
    range = subst (λ (links : List Link). All IsInRange links) (sym c.new-links.ensures.items) (All-nil IsInRange);
    agree = λ from to.
        ap (λ (links : List Link). is_linked links from to) c.new-links.ensures.items ∙ sym (c.in_ok-rows.ensures.empty from to);
  };
}

pub loop-number-preserved : goal.loop-number-preserved
loop-number-preserved c =
    let from : 1 ≤ c.loop-number.number = omega arith in
    elim c.match-of_number.branch [
      | in-Some+in_ok-add_links w ↦ rw (w.rows-is, w.links-is) (record {
        long = w.add_row.ensures.long ∙ c.loop-number.invariant.long;
        below = IsNetBelow-more c.loop-number.number c.args.setup.now w.in-Some.exit _ c.loop-number.rows _ from
            w.in-Some.ensures.numbered w.entries_of-entries.ensures.value w.entries_of-entries.ensures.lawful w.add_row.ensures.added
            c.loop-number.invariant.below;
        lead = record {
          range = w.in_ok-add_links.ensures.lawful;
          agree =
              agree-more (leads c.loop-number.rows) (leads w.add_row.new.rows) (is_linked c.loop-number.links.items)
              (is_linked w.add_links.new.links.items) _ _ w.add_row.ensures.added w.in_ok-add_links.ensures.added c.loop-number.invariant.lead.agree;
        };
      })
      | in_default w ↦ absurd (no_hub c.loop-number.number from (omega arith) w.in_default.ensures.found)
    ]

pub returns : goal.returns
returns c =
    let end : c.loop-number.number ≡ 1041 = omega arith in
    record {
      net = rw c.bundle.ensures
          (IsNetOf-all c.loop-number.number c.args.setup.now (record { rows = c.loop-number.rows }) end c.loop-number.invariant.below);
      lead = rw c.bundle.ensures c.loop-number.invariant.lead;
    }
