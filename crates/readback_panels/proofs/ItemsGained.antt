-- Items that a draft gains.
use Rattle.std.proofs.Common.{◌≡◌, ◌∙◌, ◌++◌, ◌∷◌, [], All, List, Result, Ok, Err, ap, append-nil, append_assoc, subst, sym}
use Rattle.std.proofs.lemmas.List.Elements.{All-append, All-nil, All-push, All-weaker}
use Rattle.std.specs.Prelude.{OnOk}
use Rattle.readback_panels.specs.Items.{Gains}
use Rattle.readback_panels.specs.declared.draft.Draft.{Draft}
use Rattle.readback_panels.specs.declared.draft.Item.{Item}

module _ (IsOfKind : Item → Type 0) where
  -- none
  pub gains_none : (old new : Draft) → new.items ≡ old.items → Gains IsOfKind old new
  gains_none old new same = record {
    more = [];
    all = All-nil IsOfKind;
    gained = ap (λ v. v.items) same ∙ sym (append-nil old.items.items);
  }

  pub gains_nothing : (draft : Draft) → Gains IsOfKind draft draft
  gains_nothing draft = record { more = []; all = All-nil IsOfKind; gained = sym (append-nil draft.items.items) }

  -- some, and then others
  pub gains_then : (old between new : Draft) → Gains IsOfKind old between → Gains IsOfKind between new → Gains IsOfKind old new
  gains_then old between new first second = record {
    more = first.more ++ second.more;
    all = All-append IsOfKind first.more second.more first.all second.all;
    gained =
        second.gained ∙ ap (λ (items : List Item). items ++ second.more) first.gained
        ∙ append_assoc old.items.items first.more second.more;
  }

  -- one, by a call that adds it
  pub gains_one : {E : Type 0} (result : Result (Unit {0}) E) (old new : Draft) (item : Item)
      → OnOk result (new.items.items ≡ old.items.items ++ item ∷ []) → IsOfKind item → OnOk result (Gains IsOfKind old new)
  gains_one (Ok _) old new item gained is =
      record { more = item ∷ []; all = All-push IsOfKind [] item (All-nil IsOfKind) is; gained = gained }
  gains_one (Err _) old new item gained is = tt

  -- by a call that is the last one
  pub gains_last : {E : Type 0} (result : Result (Unit {0}) E) (old between new : Draft) → Gains IsOfKind old between
      → OnOk result (Gains IsOfKind between new) → OnOk result (Gains IsOfKind old new)
  gains_last (Ok _) old between new first second = gains_then old between new first second
  gains_last (Err _) old between new first second = tt

-- items that are of a wider kind
pub more_of_kind : (IsOfKind IsWider : Item → Type 0) → ((item : Item) → IsOfKind item → IsWider item) → (old new : Draft)
    → All IsWider old.items.items → Gains IsOfKind old new → All IsWider new.items.items
more_of_kind IsOfKind IsWider wider old new before gains =
    subst (All IsWider) (sym gains.gained)
    (All-append IsWider old.items.items gains.more before (All-weaker IsOfKind IsWider wider gains.more gains.all))

-- what a call adds no item to, what it adds items to, and what another adds behind
pub ruleset gaining = (gains_none, gains_nothing, gains_then)
