-- Of which drafts a row has the key.
use Rattle.std.proofs.Common.{◌≡◌, ◌≢◌, ◌↔◌, ℕ, ◌<◌, ◌++◌, ◌∷◌, ◌∙◌, Bool, true, false, List, [], get_or, length, set}
use Rattle.std.proofs.Common.{replicate, refl, sym, ap, subst, inl, inr, arith, Option, Some}
use Rattle.std.specs.Prelude.{IsTrue, not}
use Rattle.std.specs.List.{Contains}
use Rattle.std.proofs.lemmas.Bool.{cases_eq, cases_lt, false≢true}
use Rattle.std.proofs.lemmas.List.{get_or-replicate, get_or-set_other, get_or-set_same, get_or_default}
use Rattle.std.proofs.lemmas.List.{length-replicate, length-set}
use Rattle.std.proofs.lemmas.List.Elements.{Contains-append_left, Contains-push, Contains-push_cases}
use Rattle.occurrences.proofs.KeyLemmas.{key_strict}
use Rattle.occurrences.specs.Key.{KeyBefore}
use Rattle.occurrences.specs.declared.key.Key.{Key}
use Rattle.occurrences.specs.declared.row.Row.{Row}
use Rattle.occurrences.specs.declared.place.Place.TheVariants.{LongTerm}
use Rattle.plan_store_lists.specs.Rows.{of_row}
use Rattle.planner_machine.specs.Content.{Content, Sets}
use Rattle.planner_machine.specs.Drafts.{AreDrafts}
use Rattle.planner_machine.specs.Modify.{NamesAhead}
use Rattle.planner_machine.specs.Sound.{IsSound}
use Rattle.planner_machine.specs.declared.content.Bounds.{Bounds}
use Rattle.planner_machine.specs.declared.content.Draft.{Draft}
use Rattle.plan_store.specs.Views.{IsDeletedKey, ListsSet}
use Rattle.plan_store.proofs.PlaceLemmas.{stands_ltp}
use Rattle.plan_store_pairs.proofs.ListLemmas.{none}
use Rattle.long_term_plan.specs.Drafting.{ArePlannedKeys, DraftsRise, IsNewKey, IsPlannedKey}
use Rattle.long_term_plan.specs.Modifying.{AreMet, HasKey, Looks, NamesThen}

-- ---- drafts that rise

module _ (named : List Draft) (order : DraftsRise named) where
  not_before : (i j : ℕ) (a b : Draft) → i < j → get_or named i a ≡ a → j < length named → get_or named j b ≡ b
      → a.key ≢ b.key
  not_before i j a b before at_i within at_j same =
      let rises : KeyBefore (get_or named i a).key (get_or named j a).key = order i j a before within in
      let second : get_or named j a ≡ b = get_or_default named j a b within ∙ at_j in
      let keys : KeyBefore a.key b.key = subst (λ (d : Draft). KeyBefore a.key d.key) second
      (subst (λ (d : Draft). KeyBefore d.key (get_or named j a).key) at_i rises) in
      key_strict.irreflexive b.key (subst (λ (k : Key). KeyBefore k b.key) same keys)

  -- one key stands at one place
  same_place : (i j : ℕ) (a b : Draft) → i < length named → get_or named i a ≡ a → j < length named
      → get_or named j b ≡ b → a.key ≡ b.key → i ≡ j
  same_place i j a b lt_i at_i lt_j at_j same = elim (cases_eq i j) [
    | inl is ↦ is
    | inr other ↦ elim (cases_lt i j) [
      | inl before ↦ absurd (not_before i j a b before at_i lt_j at_j same)
      | inr after ↦ absurd (not_before j i b a (omega (arith, after, other)) at_j lt_i at_i (sym same))
    ]
  ]

  -- ---- the drafts that are met

  module _ (rows : List Row) (row : Row) (met : List Bool) (are : AreMet rows named met) where
    wider : (key : Key) → HasKey rows key → HasKey (rows ++ row ∷ []) key
    wider key (r, there, same) = (r, Contains-append_left rows (row ∷ []) r there, same)

    -- one more row, which has the key of none
    pub met_skip : ((draft : Draft) → Contains named draft → draft.key ≢ row.key) → AreMet (rows ++ row ∷ []) named met
    met_skip lacks = record {
      count = are.count;
      says = λ i draft lt at. (
        (λ yes. wider draft.key ((are.says i draft lt at).0 yes)),
        λ (r, there, same). elim (Contains-push_cases rows row r there) [
          | inl was ↦ (are.says i draft lt at).1 (r, was, same)
          | inr is ↦ absurd (lacks draft (i, lt, at) (sym (ap (λ (x : Row). x.key) is ∙ same)))
        ],
      );
    }

    -- or that of one
    pub met_more : (i : ℕ) (draft : Draft) → i < length named → get_or named i draft ≡ draft → draft.key ≡ row.key
        → AreMet (rows ++ row ∷ []) named (set met i true)
    met_more i draft lt at key = record {
      count = length-set met i true ∙ are.count;
      says = λ j other lt' at'. elim (cases_eq j i) [
        | inl same ↦
            let here : get_or named i other ≡ other = subst (λ n. get_or named n other ≡ other) same at' in
            let one : draft ≡ other = sym at ∙ get_or_default named i draft other lt ∙ here in
            let within : i < length met = omega (arith, lt, are.count) in (
              (λ yes. (row, Contains-push rows row, sym key ∙ ap (λ (d : Draft). d.key) one)),
              λ has. subst (λ n. get_or (set met i true) n false ≡ true) (sym same)
                  (get_or-set_same met i true false within),
            )
        | inr apart ↦
            let stays : get_or (set met i true) j false ≡ get_or met j false =
            get_or-set_other met i j true false apart in (
              (λ yes. wider other.key ((are.says j other lt' at').0 (sym stays ∙ yes))),
              λ (r, there, same). elim (Contains-push_cases rows row r there) [
                | inl was ↦ stays ∙ (are.says j other lt' at').1 (r, was, same)
                | inr is ↦
                    let keys : draft.key ≡ other.key = key ∙ ap (λ (x : Row). x.key) is ∙ same in
                    absurd (apart (sym (same_place i j draft other lt at lt' at' keys)))
              ],
            )
      ];
    }

pub met_none : (named : List Draft) (met : List Bool) → met ≡ replicate (length named) false → AreMet [] named met
met_none named met is = record {
  count = ap length is ∙ length-replicate (length named) false;
  says = λ i draft lt at. (
    (λ yes. absurd (false≢true (sym (ap (λ (bs : List Bool). get_or bs i false) is
        ∙ get_or-replicate (length named) i false false lt) ∙ yes))),
    λ (r, there, same). absurd (none r there),
  );
}

-- the tests of a key
pub met_key : (s : Sets) (key : Key) → IsPlannedKey s key → IsTrue false ↔ IsNewKey s key
met_key s key (serial, row, stands, same) =
    ((λ no. absurd (false≢true no)), λ is. absurd (is.not_planned serial row stands same))

pub unmet_key : (s : Sets) (key : Key) → (IsPlannedKey s key → ⊥) → (deleted : Bool)
    → IsTrue deleted ↔ IsDeletedKey s key → IsTrue (not deleted) ↔ IsNewKey s key
unmet_key s key unplanned true tested = (
  (λ no. absurd (false≢true no)),
  λ is. let (serial, deletion, stands, operator, same) = tested.0 refl in
      absurd (is.not_deleted serial deletion stands operator same),
)
unmet_key s key unplanned false tested = (
  (λ yes. record {
    not_planned = λ serial row stands same. unplanned (serial, row, stands, same);
    not_deleted = λ serial deletion stands operator same.
        false≢true (tested.1 (serial, deletion, stands, operator, same));
  }),
  λ is. refl,
)

-- what is named is of applications that are looked at: where a row of the long-term plan has its key, that is looked at
pub keys_planned : (c : Content) → IsSound c → (only : Option (List ℕ)) (b : Bounds) → c.sets.bounds ≡ Some b
    → (looked : List Row) → ListsSet of_row c.sets.ltp (λ row. Looks only row.key.app) looked → (named : List Draft)
    → AreDrafts (NamesThen c only) named → (met : List Bool) → AreMet looked named met
    → ArePlannedKeys c.sets named met
keys_planned c sound only b planned looked own named are met is i draft lt at = (
  (λ yes. let (row, there, same) = (is.says i draft lt at).0 yes in
      (row.serial, row, ((own.exactly row).0 there).0, same)),
  λ (serial, row, stands, same).
      let number : row.serial ≡ serial = sound.serials.numbered serial (record { row = row; place = LongTerm })
      (stands_ltp c.sets sound.serials serial row stands) in
      let names : NamesAhead (Looks only) c.definitions (Some b) draft =
      subst (λ o. NamesAhead (Looks only) c.definitions o draft) planned ((are.exactly draft).0 (i, lt, at)) in
      let looks : Looks only row.key.app = subst (λ (k : Key). Looks only k.app) (sym same) names.1 in
      (is.says i draft lt at).1 (
        row,
        (own.exactly row).1 (subst (λ n. c.sets.ltp n ≡ Some row) (sym number) stands, looks),
        same,
      ),
)
