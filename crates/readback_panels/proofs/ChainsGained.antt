-- Chains of totals that a draft gains.
use Rattle.std.proofs.Common.{All, ◌≡◌, ◌∙◌, ◌++◌, ◌∷◌, [], ℕ, List, Result, Ok, Err, ap, append_assoc, length, subst, sym}
use Rattle.std.proofs.lemmas.List.Elements.{All-nil, All-push}
use Rattle.std.specs.Prelude.{OnOk}
use Rattle.readback_panels.proofs.ItemsGained.{gains_nothing, gains_then}
use Rattle.readback_panels.specs.Chains.{GainsChain, GainsChains, GainsField, GainsTotal, GoesUp, IsChain, IsReadOut, IsReadTotal, IsTotalItem, alone, next, none, one_more}
use Rattle.readback_panels.specs.Items.{Gains}
use Rattle.readback_panels.specs.declared.totals.Total.{Total}
use Rattle.readback_panels.specs.declared.draft.Draft.{Draft}
use Rattle.readback_panels.specs.declared.draft.DraftField.{DraftField}
use Rattle.readback_panels.specs.declared.draft.Item.{Item}
use Rattle.hubs.specs.SetupsWords.Wiring.{Wiring}

-- one more total that is read out
pub totals_pushed : (setup : Wiring) (old new : List Total) (total : Total) → new ≡ old ++ total ∷ [] → All (IsReadOut setup) old
    → IsReadOut setup total → All (IsReadOut setup) new
totals_pushed setup old new total same before here =
    subst (All (IsReadOut setup)) (sym same) (All-push (IsReadOut setup) old total before here)

-- the item of a total
pub total_put : {E : Type 0} (result : Result (Unit {0}) E) (field : ℕ) (total : Total) (old new : Draft) (item : Item)
    → OnOk result (new.items.items ≡ old.items.items ++ item ∷ []) → new.fields ≡ old.fields → IsTotalItem field total item
    → OnOk result (GainsTotal field total old new)
total_put (Ok _) field total old new item gained fields is =
    record { item = item; is = is; gained = gained; fields = ap (λ v. v.items) fields }
total_put (Err _) field total old new item gained fields is = tt

module _ (setup : Wiring) where
  -- the lowest total of a chain
  pub chain_begins : (field : ℕ) (lowest : Total) (old new : Draft) → IsReadOut setup lowest → GainsTotal field lowest old new
      → GainsChain setup field lowest lowest old new
  chain_begins field lowest old new out total =
      record { items = total.item ∷ []; chain = alone total.item out total.is; gained = total.gained; fields = total.fields }

  -- a further one
  pub chain_goes_on : (field : ℕ) (lowest last higher : Total) (old between new : Draft) → GainsChain setup field lowest last old between
      → GoesUp setup last higher → IsReadOut setup higher → GainsTotal field higher between new
      → GainsChain setup field lowest higher old new
  chain_goes_on field lowest last higher old between new chain up out total = record {
    items = chain.items ++ total.item ∷ [];
    chain = next last higher chain.items total.item chain.chain up out total.is;
    gained =
        total.gained ∙ ap (λ (items : List Item). items ++ total.item ∷ []) chain.gained
        ∙ append_assoc old.items.items chain.items (total.item ∷ []);
    fields = total.fields ∙ chain.fields;
  }

  -- a chain of a field of its own
  pub chain_added : {E : Type 0} (result : Result (Unit {0}) E) (field : DraftField) (place : ℕ) (lowest : Total) (old grown new : Draft)
      → GainsField field old grown → place ≡ length old.fields.items
      → OnOk result ((last : Total) × GainsChain setup place lowest last grown new) → OnOk result (GainsChains setup old new)
  chain_added (Ok _) field place lowest old grown new gained is chain =
      one_more old grown new field lowest chain.0 none gained
      (subst (λ (at : ℕ). GainsChain setup at lowest chain.0 grown new) is chain.1)
  chain_added (Err _) field place lowest old grown new gained is chain = tt

  -- chains behind chains
  pub chains_then : (old between : Draft) {new : Draft} → GainsChains setup old between → GainsChains setup between new
      → GainsChains setup old new
  chains_then old between first none = first
  chains_then old between first (one_more before grown new field lowest last second gained chain) =
      one_more before grown new field lowest last (chains_then old between first second) gained chain

  -- the items of a chain are totals that are read out
  each_read : (field : ℕ) (lowest last : Total) (items : List Item) → IsChain setup field lowest last items → All (IsReadTotal setup) items
  each_read field lowest last items (alone item out is) =
      All-push (IsReadTotal setup) [] item (All-nil (IsReadTotal setup)) (record { field = field; total = lowest; is = is; out = out })
  each_read field lowest last items (next before higher others item chain up out is) =
      All-push (IsReadTotal setup) others item (each_read field lowest before others chain)
      (record { field = field; total = higher; is = is; out = out })

  pub chains_read : (old : Draft) {new : Draft} → GainsChains setup old new → Gains (IsReadTotal setup) old new
  chains_read old none = gains_nothing (IsReadTotal setup) old
  chains_read old (one_more between grown new field lowest last before gained chain) =
      gains_then (IsReadTotal setup) old between new (chains_read old before)
      (record {
        more = chain.items;
        all = each_read (length between.fields.items) lowest last chain.items chain.chain;
        gained = chain.gained ∙ ap (λ (items : List Item). items ++ chain.items) gained.items;
      })
