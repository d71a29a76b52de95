-- The steps of a visit to a node.
use Rattle.std.proofs.Common.{◌≡◌, ◌≢◌, ℕ, ◌+◌, ◌<◌, ◌⊎◌, Bool, true, false, not, cond, List, [], ◌∷◌, ◌++◌, length}
use Rattle.std.proofs.Common.{get_or, set, sym, subst, ◌∙◌, inl, inr, arith, length-set, length-append}
use Rattle.std.specs.List.{Contains}
use Rattle.std.proofs.lemmas.List.{get_or-set_same, get_or-set_other, get_or_append_left}
use Rattle.std.proofs.lemmas.List.Elements.{Contains-push_cases, Contains-push, Contains-append_left}
use Rattle.std.proofs.lemmas.List.Sums.{sum_by-set}
use Rattle.std.proofs.lemmas.Bool.{cases_eq}
use Rattle.external_dependencies.specs.Search.{IsReached, unreached, Visits}

-- nothing lies in an empty list
pub contains_nil : {X : Type 0} (x : X) → Contains [] x → ⊥
contains_nil x (k, lt, at) = absurd (omega arith)

module _ (targets : List ℕ) (node start : ℕ) (reached : List Bool) (order : List ℕ) (reached' : List Bool)
    (order' : List ℕ) (so_far : Visits targets node start reached order reached' order') (next : ℕ) where
  -- a target that is the node itself, or that is marked
  pub visits_skip : ((next ≡ node) ⊎ IsReached reached' next)
      → Visits (targets ++ next ∷ []) node start reached order reached' order'
  visits_skip why = record {
    same_length = so_far.same_length;
    longer = so_far.longer;
    same_front = so_far.same_front;
    all_reached = λ w here other. elim (Contains-push_cases targets next w here) [
      | inl before ↦ so_far.all_reached w before other
      | inr same ↦ elim why [
        | inl self ↦ absurd (other (sym same ∙ self))
        | inr marked ↦ subst (IsReached reached') same marked
      ]
    ];
    grows = so_far.grows;
    are_targets = λ w marked. elim (so_far.are_targets w marked) [
      | inl old ↦ inl old
      | inr new ↦ inr (Contains-append_left targets (next ∷ []) w new.0, new.1, new.2)
    ];
    are_listed = so_far.are_listed;
    are_reached = so_far.are_reached;
    listed_grows = so_far.listed_grows;
    work_left = so_far.work_left;
  }

  -- a target that is marked now
  pub visits_mark : next ≢ node → next ≢ start → next < length reached → get_or reached' next false ≡ false
      → Visits (targets ++ next ∷ []) node start reached order (set reached' next true) (order' ++ next ∷ [])
  visits_mark not_node not_start in_range unmarked =
      let here : next < length reached' = omega (arith, so_far.same_length) in
      let marked : IsReached (set reached' next true) next = get_or-set_same reached' next true false here in
      let keeps : (w : ℕ) → IsReached reached' w → IsReached (set reached' next true) w =
      λ w was. elim (cases_eq w next) [
        | inl same ↦ subst (IsReached (set reached' next true)) (sym same) marked
        | inr other ↦ get_or-set_other reached' next w true false other ∙ was
      ] in
      let from : (w : ℕ) → IsReached (set reached' next true) w → (w ≡ next) ⊎ IsReached reached' w =
      λ w is. elim (cases_eq w next) [
        | inl same ↦ inl same
        | inr other ↦ inr (sym (get_or-set_other reached' next w true false other) ∙ is)
      ] in
      let counted : unreached (set reached' next true) + 1 ≡ unreached reached' =
      subst (λ b. unreached (set reached' next true) + cond (not b) 1 0 ≡ unreached reached' + 0) unmarked
      (sum_by-set (λ b. cond (not b) 1 0) reached' next true false here) ∙ omega arith in
      record {
        same_length = length-set reached' next true ∙ so_far.same_length;
        longer = omega (arith, length-append order' (next ∷ []), so_far.longer);
        same_front = λ j lt. get_or_append_left order' (next ∷ []) 0 j (omega (arith, so_far.longer))
            ∙ so_far.same_front j lt;
        all_reached = λ w at other. elim (Contains-push_cases targets next w at) [
          | inl before ↦ keeps w (so_far.all_reached w before other)
          | inr same ↦ subst (IsReached (set reached' next true)) same marked
        ];
        grows = λ w was. keeps w (so_far.grows w was);
        are_targets = λ w is. elim (from w is) [
          | inl same ↦ inr (
            subst (Contains (targets ++ next ∷ [])) (sym same) (Contains-push targets next),
            (λ e. not_node (sym same ∙ e)),
            (λ e. not_start (sym same ∙ e)),
          )
          | inr was ↦ elim (so_far.are_targets w was) [
            | inl old ↦ inl old
            | inr new ↦ inr (Contains-append_left targets (next ∷ []) w new.0, new.1, new.2)
          ]
        ];
        are_listed = λ w is. elim (from w is) [
          | inl same ↦ inr (subst (Contains (order' ++ next ∷ [])) (sym same) (Contains-push order' next))
          | inr was ↦ elim (so_far.are_listed w was) [
            | inl old ↦ inl old
            | inr new ↦ inr (Contains-append_left order' (next ∷ []) w new)
          ]
        ];
        are_reached = λ w at. elim (Contains-push_cases order' next w at) [
          | inl before ↦ elim (so_far.are_reached w before) [
            | inl old ↦ inl old
            | inr new ↦ inr (keeps w new.0, new.1)
          ]
          | inr same ↦ inr (
            subst (IsReached (set reached' next true)) same marked,
            subst (λ n. n < length reached) same in_range,
          )
        ];
        listed_grows = λ w at. Contains-append_left order' (next ∷ []) w (so_far.listed_grows w at);
        work_left = omega (arith, counted, so_far.work_left, length-append order' (next ∷ []));
      }
