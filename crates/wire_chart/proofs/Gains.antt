-- Lines that a text gains one after another.
use Rattle.std.proofs.Common.{◌≡◌, ◌⊎◌, inl, inr, ℕ, List, [], ◌∷◌, ◌++◌, sym, ap, ◌∙◌, subst, append-nil, append_assoc}
use Rattle.std.specs.List.{Contains, flat_map}
use Rattle.std.proofs.lemmas.List.Elements.{Contains-append_left, Contains-append_right, Contains-append_cases}
use Rattle.std.proofs.lemmas.Grind.{flat_map-append}
use Rattle.wire_chart.specs.WrittenText.{ended}
use Rattle.wire_chart.specs.Writing.{GainsLines}
use Rattle.hubs.proofs.SetupsWords.Ordered.{pairs_none, pairs_one, pairs_append, contains_none, contains_one, contains_first}

-- no line
pub gains_none : {A : Type 0} (Is : A → Type 0) (Before : A → A → Type 0) (line_of : A → List ℕ) (old new : List ℕ)
    → new ≡ old → ((thing : A) → Is thing → ⊥) → GainsLines Is Before line_of old new
gains_none Is Before line_of old new same none = record {
  things = [];
  all = λ thing. (λ is. absurd (none thing is), λ has. absurd (contains_none thing has));
  in_order = pairs_none Before;
  gained = same ∙ sym (append-nil old);
}

-- one line
pub gains_one : {A : Type 0} (Is : A → Type 0) (Before : A → A → Type 0) (line_of : A → List ℕ) (old new : List ℕ) (x : A)
    → new ≡ old ++ ended (line_of x) → Is x → ((thing : A) → Is thing → thing ≡ x) → GainsLines Is Before line_of old new
gains_one {A} Is Before line_of old new x gained is only = record {
  things = x ∷ [];
  all = λ thing. (
    λ i. subst (λ (a : A). Contains (x ∷ []) a) (sym (only thing i)) (contains_first x []),
    λ has. subst Is (sym (contains_one x thing has)) is,
  );
  in_order = pairs_one Before x;
  gained = gained ∙ ap (λ (l : List ℕ). old ++ l) (sym (append-nil (ended (line_of x))));
}

-- the lines of some things, and then those of others
pub gains_more : {A : Type 0} (One Two Is : A → Type 0) (Before : A → A → Type 0) (line_of : A → List ℕ)
    (old mid new : List ℕ)
    → GainsLines One Before line_of old mid → GainsLines Two Before line_of mid new
    → ((thing : A) → Is thing → One thing ⊎ Two thing)
    → ((thing : A) → One thing → Is thing) → ((thing : A) → Two thing → Is thing)
    → ((x y : A) → One x → Two y → Before x y)
    → GainsLines Is Before line_of old new
gains_more {A} One Two Is Before line_of old mid new first second parts one two across = record {
  things = first.things ++ second.things;
  all = λ thing. (
    λ is. elim (parts thing is) [
      | inl h ↦ Contains-append_left first.things second.things thing ((first.all thing).0 h)
      | inr h ↦ Contains-append_right first.things second.things thing ((second.all thing).0 h)
    ],
    λ has. elim (Contains-append_cases first.things second.things thing has)
        [ inl h ↦ one thing ((first.all thing).1 h) | inr h ↦ two thing ((second.all thing).1 h) ],
  );
  in_order = pairs_append Before first.things second.things first.in_order second.in_order
      (λ x y h k. across x y ((first.all x).1 h) ((second.all y).1 k));
  gained = let line : A → List ℕ = λ a. ended (line_of a) in
      second.gained ∙ ap (λ (l : List ℕ). l ++ flat_map line second.things) first.gained
      ∙ append_assoc old (flat_map line first.things) (flat_map line second.things)
      ∙ ap (λ (l : List ℕ). old ++ l) (sym (flat_map-append line first.things second.things));
}

-- the same lines of what is described otherwise
pub gains_same : {A : Type 0} (One Is : A → Type 0) (Before : A → A → Type 0) (line_of : A → List ℕ) (old new : List ℕ)
    → GainsLines One Before line_of old new → ((thing : A) → Is thing → One thing) → ((thing : A) → One thing → Is thing)
    → GainsLines Is Before line_of old new
gains_same One Is Before line_of old new gains there back = record {
  things = gains.things;
  all = λ thing. (λ is. (gains.all thing).0 (there thing is), λ has. back thing ((gains.all thing).1 has));
  in_order = gains.in_order;
  gained = gains.gained;
}
