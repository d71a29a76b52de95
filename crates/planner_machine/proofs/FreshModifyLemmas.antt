-- Modify statements leave fresh content: of all applications from any, of one from fresh content.
use Rattle.std.proofs.Common.{◌≡◌, ◌⊎◌, ℕ, ◌<◌, ◌≤◌, true, false, List, refl, sym, ap, subst, ◌∙◌, inl, inr}
use Rattle.std.proofs.Common.{Option, None, Some}
use Rattle.std.specs.Prelude.{Bool}
use Rattle.std.proofs.lemmas.Bool.{false≢true}
use Rattle.app_definitions.specs.declared.definitions.Definitions.{Definitions}
use Rattle.occurrences.specs.declared.key.Key.{Key}
use Rattle.occurrences.specs.declared.place.Place.TheVariants.{LongTerm, Deleted}
use Rattle.occurrences.specs.declared.place.Reason.TheVariants.{Operator, Withdrawn}
use Rattle.occurrences.specs.declared.row.Row.{Row}
use Rattle.external_dependencies.specs.declared.rows.PlacedRow.{PlacedRow}
use Rattle.planner_machine.specs.declared.content.Bounds.{Bounds}
use Rattle.planner_machine.specs.declared.content.Draft.{Draft}
use Rattle.planner_machine.specs.Content.{Sets, IsOnlyAt}
use Rattle.planner_machine.specs.Drafts.{AreDrafts, IsMade, NamesDraft}
use Rattle.planner_machine.specs.Fate.{IsGenerated, IsLookedAt, ModifyFate}
use Rattle.planner_machine.specs.Fresh.{IsLeftOut, NamesInPlan, StandsSo, draft_of_row}
use Rattle.planner_machine.specs.Laws.{Follows}
use Rattle.planner_machine.specs.Modify.{NamesAhead}
use Rattle.planner_machine.specs.Moves.{numbered_row}
use Rattle.planner_machine.specs.RowsSound.{RowsSound}
use Rattle.planner_machine.proofs.AssembleLemmas.{stands_in_deletions}
use Rattle.planner_machine.proofs.DeleteLemmas.{stands_in_ltp}
use Rattle.planner_machine.proofs.FollowLemmas.{came}
use Rattle.planner_machine.proofs.FreshLemmas.{Told, both_told, key_told, left_out_added, left_out_operator}
use Rattle.planner_machine.proofs.FreshLemmas.{ltp_told, made_stands, not_generated, one_of_key, operator_told}
use Rattle.planner_machine.proofs.FreshLemmas.{origin_told, out_cases, some_stands}
use Rattle.planner_machine.proofs.ModifyLemmas.{Tests}

module _ (looks : List ℕ → Bool) (Looks : List ℕ → Type 0) (tests : Tests looks Looks) where
  looks_told : (app : List ℕ) → Told (Looks app)
  looks_told app = elim (looks app) as (λ r. looks app ≡ r → Told (Looks app)) [
    | true ↦ λ is. inl ((tests app).0 is)
    | false ↦ λ is. inr (λ at. false≢true (sym is ∙ (tests app).1 at))
  ] refl

  module _ (all : Definitions) (s s' : Sets) (sound : RowsSound s) (sound' : RowsSound s') (b : Bounds)
      (is_b : s.bounds ≡ Some b) (named new : List Draft) (are_named : AreDrafts (NamesAhead Looks all s.bounds) named)
      (are_new : AreDrafts (IsMade (NamesAhead Looks all s.bounds) s) new)
      (f : Follows LongTerm (ModifyFate Looks all) new s s')
      (rest_named : (serial : ℕ) (row : Row) → IsOnlyAt s serial (record { row = row; place = LongTerm })
      → IsGenerated row.origin → (Looks row.key.app → ⊥) → NamesDraft all (draft_of_row row))
      (rest_stands : (draft : Draft) → NamesInPlan all b draft → (Looks draft.key.app → ⊥)
      → StandsSo s draft ⊎ IsLeftOut s draft.key) where
    ahead : (draft : Draft) → NamesInPlan all b draft → Looks draft.key.app → NamesAhead Looks all s.bounds draft
    ahead draft names look = subst (λ (o : Option Bounds). NamesAhead Looks all o draft) (sym is_b) (names, look)

    named_of : (o : Option Bounds) (draft : Draft) → NamesAhead Looks all o draft → NamesDraft all draft
    named_of None draft is = absurd is
    named_of (Some x) draft is = is.0.0

    -- what stays as it was
    not_looked : (p q : PlacedRow) → ModifyFate Looks all p q → (IsLookedAt Looks p → ⊥) → q ≡ p
    not_looked p q (inl looked) never = absurd (never looked.0)
    not_looked p q (inr stays) never = stays.1

    out_stays : (key : Key) → IsLeftOut s key → IsLeftOut s' key
    out_stays key out =
        let went = f.old out.serial out.placed out.stands in
        elim (out_cases out.placed.row.origin out.placed.place out.out) [
          | inl added ↦ left_out_added s' out.serial out.placed (subst (IsOnlyAt s' out.serial)
              (not_looked out.placed went.0 went.1
              (λ looked. not_generated out.placed.row.origin added.1 looked.1)) went.2) added.0 added.1 key out.keyed
          | inr operator ↦ left_out_operator s' out.serial out.placed (subst (IsOnlyAt s' out.serial)
              (not_looked out.placed went.0 went.1
              (λ looked. let apart : Deleted Operator ≡ LongTerm = sym operator ∙ looked.0 in cc)) went.2) operator
              key out.keyed
        ]

    -- a row that is looked at, under a key that is named, takes what is named
    stamped_so : (draft : Draft) → NamesInPlan all b draft → Looks draft.key.app → (serial : ℕ) (p : PlacedRow)
        → IsOnlyAt s serial p → p.place ≡ LongTerm → p.row.key ≡ draft.key → IsGenerated p.row.origin
        → StandsSo s' draft
    stamped_so draft names look serial p there ltp keyed generated =
        by_fate (f.old serial p there).0 (f.old serial p there).1 (f.old serial p there).2
      where
        by_fate : (q : PlacedRow) → ModifyFate Looks all p q → IsOnlyAt s' serial q → StandsSo s' draft
        by_fate q (inr stays) at = absurd (stays.0 (
          ltp,
          generated,
          subst Looks (sym (ap (λ (k : Key). k.app) keyed)) look,
        ))
        by_fate q (inl (looked, inr withdrawn)) at = absurd (withdrawn.unnamed draft names.0 (sym keyed))
        by_fate q (inl (looked, inl stays)) at =
            let there_draft = (are_named.exactly draft).1 (ahead draft names look) in
            let keys : stays.draft.key ≡ draft.key = stays.keyed ∙ keyed in
            let arrives : NamesInPlan all b stays.draft = (
              stays.named,
              subst (λ (k : Key). b.plan_end ≤ k.ia) (sym keys) names.1,
              subst (λ (k : Key). k.ia < _) (sym keys) names.2,
            ) in
            let there_stays = (are_named.exactly stays.draft).1 (ahead stays.draft arrives
            (subst (λ (k : Key). Looks k.app) (sym keys) look)) in
            let one : stays.draft ≡ draft =
            one_of_key named are_named.rising stays.draft draft there_stays there_draft keys in
            let number : p.row.serial ≡ serial = sound.numbered serial p there in
            let becomes : q ≡ record { row = numbered_row serial draft; place = LongTerm } =
            stays.stays ∙ (λ i. record {
              row = record {
                key = keyed i;
                serial = number i;
                deadline = (one i).deadline;
                origin = (one i).origin;
              };
              place = LongTerm;
            }) in
            (serial, subst (IsOnlyAt s' serial) becomes at)

    looked_stands : (draft : Draft) → NamesInPlan all b draft → Looks draft.key.app
        → StandsSo s' draft ⊎ IsLeftOut s' draft.key
    looked_stands draft names look =
        elim (some_stands s sound (λ p. (p.place ≡ LongTerm) × (p.row.key ≡ draft.key))
        (λ p. both_told (ltp_told p.place) (key_told p.row.key draft.key))) [
          | inl found ↦ elim (origin_told found.1.0.row.origin) [
            | inl added ↦ inr (out_stays draft.key (left_out_added s found.0 found.1.0 found.1.1.0 found.1.1.1.0 added
                draft.key found.1.1.1.1))
            | inr generated ↦ inl (stamped_so draft names look found.0 found.1.0 found.1.1.0 found.1.1.1.0
                found.1.1.1.1 generated)
          ]
          | inr unplanned ↦ elim (some_stands s sound (λ p. (p.place ≡ Deleted Operator) × (p.row.key ≡ draft.key))
              (λ p. both_told (operator_told p.place) (key_told p.row.key draft.key))) [
                | inl found ↦ inr (out_stays draft.key (left_out_operator s found.0 found.1.0 found.1.1.0 found.1.1.1.0
                    draft.key found.1.1.1.1))
                | inr undeleted ↦ inl (made_stands (ModifyFate Looks all) new s s' f draft
                    ((are_new.exactly draft).1 (record {
                      named = ahead draft names look;
                      not_planned = λ serial row at same. unplanned serial (record { row = row; place = LongTerm })
                          (stands_in_ltp s sound serial row at) (refl, same);
                      not_deleted = λ serial deletion at operator same. undeleted serial (record {
                        row = deletion.row;
                        place = Deleted deletion.reason;
                      }) (stands_in_deletions s sound serial deletion at) (ap Deleted operator, same);
                    })))
              ]
        ]

    pub modified_stands : (draft : Draft) → NamesInPlan all b draft → StandsSo s' draft ⊎ IsLeftOut s' draft.key
    modified_stands draft names = elim (looks_told draft.key.app) [
      | inl look ↦ looked_stands draft names look
      | inr never ↦ elim (rest_stands draft names never) [
        | inr out ↦ inr (out_stays draft.key out)
        | inl stands ↦
            let row : PlacedRow = record { row = numbered_row stands.0 draft; place = LongTerm } in
            let went = f.old stands.0 (record { row = numbered_row stands.0 draft; place = LongTerm }) stands.1 in
            inl (
              stands.0,
              subst (IsOnlyAt s' stands.0)
                  (not_looked (record { row = numbered_row stands.0 draft; place = LongTerm }) went.0 went.1
                  (λ looked. never looked.2)) went.2,
            )
      ]
    ]

    pub modified_named : (serial : ℕ) (row : Row) → IsOnlyAt s' serial (record { row = row; place = LongTerm })
        → IsGenerated row.origin → NamesDraft all (draft_of_row row)
    modified_named serial row there generated =
        elim (came LongTerm (ModifyFate Looks all) new s s' sound sound' f serial
        (record { row = row; place = LongTerm }) there) [
          | inr made ↦
              let rows : row ≡ numbered_row serial made.draft = ap (λ (p : PlacedRow). p.row) made.is in
              subst (λ (r : Row). NamesDraft all (draft_of_row r)) (sym rows)
              (named_of s.bounds made.draft ((are_new.exactly made.draft).0 made.listed).named)
          | inl (p, was, goes) ↦ by_fate p was goes
        ]
      where
        by_fate : (p : PlacedRow) → IsOnlyAt s serial p
            → ModifyFate Looks all p (record { row = row; place = LongTerm }) → NamesDraft all (draft_of_row row)
        by_fate p was (inl (looked, inr withdrawn)) =
            let apart : LongTerm ≡ Deleted Withdrawn = ap (λ (x : PlacedRow). x.place) withdrawn.goes in absurd cc
        by_fate p was (inl (looked, inl stays)) =
            let rows = ap (λ (x : PlacedRow). x.row) stays.stays in
            let same : stays.draft ≡ draft_of_row row =
            (λ i. record {
              key = stays.keyed i;
              deadline = stays.draft.deadline;
              origin = stays.draft.origin;
            }) ∙ ap draft_of_row (sym rows) in
            subst (NamesDraft all) same stays.named
        by_fate p was (inr (never, stays)) =
            let there_before : IsOnlyAt s serial (record { row = row; place = LongTerm }) =
            subst (IsOnlyAt s serial) (sym stays) was in
            rest_named serial row there_before generated (λ look. never (
              ap (λ (x : PlacedRow). x.place) (sym stays),
              subst (λ (x : PlacedRow). IsGenerated x.row.origin) stays generated,
              subst (λ (x : PlacedRow). Looks x.row.key.app) stays look,
            ))
