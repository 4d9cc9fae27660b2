-- The wires of a difference, entry by entry and exit by exit.
use Rattle.std.proofs.Common.{◌≡◌, ◌↔◌, ◌∙◌, ℕ, ◌≤◌, List, Contains, Some, None, length, slice_get, refl, sym, ap, subst, arith}
use Rattle.std.proofs.lemmas.Option.{get_or_from_slice_get, none-some, same_Some, slice_get_read}
use Rattle.hubs.specs.Hubs.{number_of}
use Rattle.hubs.specs.declared.hub.Hub.{Hub}
use Rattle.hubs.proofs.HubLemmas.{is_exit-number}
use Rattle.wiring_lines.specs.LineWires.HelperAdds.{Adds, OfSome, One, Upto, below, one as only, some}
use Rattle.wiring_lines.proofs.LineWires.Steps.{adds-as, adds-none}
use Rattle.hubs.specs.SetupsWords.Wiring.{HasWire, IsLawfulWiring, Wiring}
use Rattle.match_panels.specs.DifferencesWords.Differences.{LacksWire}
use Rattle.match_panels.specs.DifferencesWords.Helper.{LacksFrom, LacksTo}

-- no hub has the number
pub to-nowhere : {other : Wiring} {exit : Hub} {number : ℕ} {setup : Wiring} → ((hub : Hub) → number_of hub ≡ Some number → None ≡ Some hub)
    → Adds (LacksTo other exit number) setup setup
to-nowhere none = adds-none (λ from to by. none-some to (none to by.numbered))

-- the wire is there
pub to-there : {other : Wiring} {exit : Hub} {number : ℕ} {setup : Wiring} (entry : Hub)
    → ((hub : Hub) → number_of hub ≡ Some number → Some entry ≡ Some hub) → HasWire other exit entry → Adds (LacksTo other exit number) setup setup
to-there {other} {exit} entry found has = adds-none (λ from to by.
    by.lacking (subst (λ h. HasWire other h to) (sym by.leaves)
    (subst (λ h. HasWire other exit h) (same_Some entry to (found to by.numbered)) has)))

-- the wire is lacking
pub to-lacking : {other : Wiring} {exit : Hub} {number : ℕ} {old new : Wiring} (entry : Hub) → number_of entry ≡ Some number
    → ((hub : Hub) → number_of hub ≡ Some number → Some entry ≡ Some hub) → ¬ HasWire other exit entry → Adds (One exit entry) old new
    → Adds (LacksTo other exit number) old new
to-lacking {other} {exit} {number} entry numbered found lacking added = adds-as there back added
  where
    there : (from to : Hub) → One exit entry from to → LacksTo other exit number from to
    there from to only = record { leaves = refl; numbered = numbered; lacking = lacking }

    back : (from to : Hub) → LacksTo other exit number from to → One exit entry from to
    back from to by =
        subst (λ h. One exit entry h to) (sym by.leaves)
        (subst (λ h. One exit entry exit h) (same_Some entry to (found to by.numbered)) only)

-- no exit has the number
pub from-nowhere : {one other : Wiring} {number : ℕ} {setup : Wiring} → ((hub : Hub) → number_of hub ≡ Some number → None ≡ Some hub)
    → Adds (LacksFrom one other number) setup setup
from-nowhere none = adds-none (λ from to by. none-some from (none from by.numbered))

-- all entries that the exit of a number leads to
pub from-all : {one other : Wiring} {number bound : ℕ} {old new : Wiring} (exit : Hub) (entries : List ℕ) → number_of exit ≡ Some number
    → ((hub : Hub) → number_of hub ≡ Some number → Some exit ≡ Some hub)
    → ((entry : Hub) (n : ℕ) → number_of entry ≡ Some n → Contains entries n ↔ HasWire one exit entry)
    → bound ≡ length entries
    → Adds (Upto bound (λ k. OfSome (slice_get entries k) (LacksTo other exit))) old new → Adds (LacksFrom one other number) old new
from-all {one} {other} {number} {bound} exit entries numbered found value all added = adds-as there back added
  where
    there : (from to : Hub) → Upto bound (λ k. OfSome (slice_get entries k) (LacksTo other exit)) from to → LacksFrom one other number from to
    there from to (below k less (some n is by)) =
        let listed : Contains entries n = (k, omega (arith, less, all), get_or_from_slice_get entries k n n is) in
        let has : HasWire one exit to = (value to n by.numbered).0 listed in
        record {
          numbered = ap number_of by.leaves ∙ numbered;
          wire = record { there = subst (λ h. HasWire one h to) (sym by.leaves) has; lacking = by.lacking };
        }

    back : (from to : Hub) → LacksFrom one other number from to → Upto bound (λ k. OfSome (slice_get entries k) (LacksTo other exit)) from to
    back from to by =
        let same : exit ≡ from = same_Some exit from (found from by.numbered) in
        let has : HasWire one exit to = subst (λ h. HasWire one h to) (sym same) by.wire.there in
        let listed = (value to has.to has.entry_numbered).1 has in
        below listed.0 (omega (arith, all, listed.1))
        (some has.to (slice_get_read entries (length entries) listed.0 has.to refl listed.1 (sym listed.2))
        (record { leaves = sym same; numbered = has.entry_numbered; lacking = by.wire.lacking }))

-- all exits
pub wires-all : {one other : Wiring} {bound : ℕ} {old new : Wiring} → IsLawfulWiring one → 1041 ≤ bound
    → Adds (Upto bound (LacksFrom one other)) old new → Adds (LacksWire one other) old new
wires-all {one} {other} {bound} lawful last added = adds-as there back added
  where
    there : (from to : Hub) → Upto bound (LacksFrom one other) from to → LacksWire one other from to
    there from to (below k less by) = by.wire

    back : (from to : Hub) → LacksWire one other from to → Upto bound (LacksFrom one other) from to
    back from to wire =
        let exit = (is_exit-number from wire.there.number wire.there.numbered).0 (lawful.leads from to wire.there).0 in
        below wire.there.number (omega (arith, last, exit)) (record { numbered = wire.there.numbered; wire = wire })
