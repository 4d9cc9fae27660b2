use Rattle.std.proofs.Common.{List, ℕ, [], ◌≡◌, ◌<◌, ◌∙◌, ap, sym, subst, refl, rules, length, slice_index_or}
use Rattle.std.proofs.lemmas.List.{get_or_read_under}
use Rattle.machine_sets.specs.BitSets.Bundles.{AreRows}
use Rattle.machine_sets.specs.BitSets.Shorts.{IsShort}
use Rattle.machine_sets.specs.declared.bit_sets.shorts.Short.{Short}
use Rattle.machine_sets.proofs.BitSets.LedLemmas.{leads-once}
use Rattle.machine_sets.proofs.BitSets.ShortLemmas.{GainsLed-short}
use Rattle.machine_sets.proofs.bit_sets.rows.Rows.join_place.Goals as goal

pub returns-then-index : goal.returns-then-index
returns-then-index c =
    let shorts = c.self.inside.shorts.items in
    let are_rows = subst (λ (rows : List (List ℕ)). AreRows c.self.inside.marked c.self.inside.apart c.self.inside.runs.items shorts rows) c.self.view_is c.self.invariant in
    let inside : c.args.from < length shorts = search rules in
    let same : c.index-short.result.now ≡ c.index.result.now =
    get_or_read_under shorts c.args.from c.len.result c.index-short.result.now c.index.result.now c.index-short.ensures c.if-from-len.true (search rules)
    ∙ sym c.index.ensures in
    GainsLed-short c.args.self.now c.args.from c.index-short.result.now c.args.words.now c.told-words
    (subst (λ (s : Short). IsShort (slice_index_or c.args.self.now c.args.from []) s) (sym c.index.ensures ∙ sym same)
    (are_rows.shortened c.args.from c.index.result.now inside))
    (ap (λ (s : Short). s.is_whole) same ∙ c.if-index.true) (leads-once c.args.self.now are_rows.short are_rows.onward c.args.from) _ _ refl refl
