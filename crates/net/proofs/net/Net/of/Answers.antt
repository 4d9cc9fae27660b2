use Rattle.std.proofs.Common.{◌≡◌, ◌∙◌, All, IfSome, List, false, rules, subst}
use Rattle.machine_sets.specs.BitSets.Bits.{has_place}
use Rattle.machine_sets.specs.BitSets.Rows.{leads}
use Rattle.machine_sets.specs.SpreadsWords.Links.{is_linked}
use Rattle.machine_sets.specs.declared.spreads.links.Link.{Link}
use Rattle.machine_sets.specs.SpreadsWords.Paths.{AreParted}
use Rattle.net.specs.CyclePaths.{AreCyclePaths}
use Rattle.net.specs.Straight.{AreRunsOf}
use Rattle.net.specs.declared.contacts.TheConstants.{CONTACTS}
use Rattle.net.specs.declared.tellings.Telling.{Telling}
use Rattle.net.proofs.DirectWires.{linked-range}
use Rattle.net.proofs.StraightRuns.{runs-alike}
use Rattle.net.proofs.net.Net.of.Goals as goal

pub returns : goal.returns
returns c = c.in_ok-rows.ensures.net

pub tellings_of-requires : goal.tellings_of-requires
tellings_of-requires c = record {
  onward = λ from to on.
      (linked-range c.in_ok-rows.field-0.links.items from to c.in_ok-rows.ensures.lead.range (c.in_ok-rows.ensures.lead.agree from to ∙ on)).1;
  commons = c.commons_of-commons.ensures.all;
}

pub invariant_of-result : goal.invariant_of-result
invariant_of-result c =
    let links = c.in_ok-rows.field-0.links.items in
    record {
      links = links;
      lead = c.in_ok-rows.ensures.lead;
      commons = search rules;
      others = search rules;
      told = c.in_ok-tellings.ensures;
      pathed =
          subst (λ (some : List Link). IfSome c.in_ok-paths.paths (AreCyclePaths some c.in_ok-tellings.tellings.items)) c.as_slice-2.ensures.value
          (subst (λ (some : List Telling). IfSome c.in_ok-paths.paths (AreCyclePaths c.as_slice-2.result.now some)) c.as_slice.ensures.value
          c.in_ok-paths.ensures);
      straight =
          runs-alike (is_linked links) (leads c.in_ok-rows.field-0.rows) c.in_ok-straight.straight c.in_ok-rows.ensures.lead.agree
          (subst (λ (some : List Link). IfSome c.in_ok-straight.straight (λ runs. AreRunsOf (is_linked some) runs.items))
          c.as_slice-3.ensures.value c.in_ok-straight.ensures.runs);
      direct =
          subst (λ (some : List Link). IfSome c.in_ok-straight.straight (λ runs. All (λ (link : Link). has_place c.commons_of-commons.result link.to ≡ false) some))
          c.as_slice-3.ensures.value c.in_ok-straight.ensures.apart;
    }
