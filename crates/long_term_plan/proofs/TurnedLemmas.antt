-- The live occurrences before and after a statement that makes rows of the long-term plan and withdraws others.
use Rattle.std.proofs.Common.{◌≡◌, ◌≢◌, ◌⊎◌, ℕ, ◌++◌, List, [], refl, sym, subst, ◌∙◌, inl, inr, arith, Option, None, Some}
use Rattle.std.proofs.Common.{ap}
use Rattle.std.specs.Prelude.{is_none}
use Rattle.std.specs.List.{Contains}
use Rattle.occurrences.specs.declared.place.CurrentRow.{CurrentRow}
use Rattle.occurrences.specs.declared.row.Row.{Row}
use Rattle.external_dependencies.specs.declared.links.Link.{Link}
use Rattle.external_dependencies.specs.declared.touch.Touch.{Touch}
use Rattle.planner_machine.specs.declared.content.Draft.{Draft}
use Rattle.planner_machine.specs.Content.{Content, Sets}
use Rattle.planner_machine.specs.Sound.{IsSound}
use Rattle.planner_machine.specs.RowsSound.{RowsSound}
use Rattle.planner_machine.proofs.SoundLemmas.{rows_sound}
use Rattle.plan_store_lists.specs.Rows.{of_current, of_row}
use Rattle.plan_store.specs.Views.{IsAny, ListsSet}
use Rattle.plan_store_pairs.specs.LiveRows.{AreCompleted, HasLists}
use Rattle.plan_store_pairs.specs.Turns.{ArePlanned, HasItself, IsTouchOf}
use Rattle.plan_store_pairs.proofs.RowLemmas.{of_set}
use Rattle.plan_store_pairs.proofs.TurnLemmas.{IsTurnTo, all_stay, turn_to}
use Rattle.long_term_plan.specs.Making.{numbered}
use Rattle.long_term_plan.specs.Modifying.{AreParted, outcome}
use Rattle.long_term_plan.proofs.ModifyingLemmas.{gone_in, stays_self, within}
use Rattle.long_term_plan.proofs.NumberLemmas.{numbered_high}
use Rattle.long_term_plan.proofs.PartingLemmas.{mapped_all, mapped_has}
use Rattle.plan_store_pairs.proofs.ListLemmas.{filter_keeps}

-- what is made has new serials
module _ (c : Sets) (sound : RowsSound c) (rows : List Row) (lists : ListsSet of_row c.ltp IsAny rows) where
  pub new_serials : (new : List Draft) (row x : Row) → Contains rows row → Contains (numbered c.issued new) x
      → x.serial ≢ row.serial
  new_serials new row x there made same =
      let old = (within c sound rows lists row there).1 in
      let high = numbered_high c.issued new x made in
      omega (arith, old, high, same)

  module _ (only : Option (List ℕ)) (named : List Draft) (planned gone changed : List Row)
      (is : AreParted (outcome only named) rows planned gone changed) (new : List Draft) where
    abbrev f : Row → Option Row
    f = outcome only named

    from : (x : Row) → Contains planned x → (row : Row) × Contains rows row × (f row ≡ Some x)
    from x there = mapped_has f rows x (subst (λ l. Contains l x) is.stay there)

    on : (row : Row) → Contains rows row → (o : Option Row) → f row ≡ o → HasItself planned row ⊎ Contains gone row
    on row there None goes = inr (subst (λ l. Contains l row) (sym is.go)
        (filter_keeps (λ r. is_none (f r)) rows row there (ap is_none goes)))
    on row there (Some x) becomes =
        let self = stays_self only named row x becomes in
        inl (x, subst (λ l. Contains l x) (sym is.stay) (mapped_all f rows row x there becomes), self.0, self.1)

    apart : (row x : Row) → Contains gone row → Contains planned x → x.serial ≢ row.serial
    apart row x left stays same =
        let (in_rows, goes) = gone_in c sound rows lists only named planned gone changed is row left in
        let (other, there, becomes) = from x stays in
        let self = stays_self only named other x becomes in
        let one : other ≡ row = lists.rows.one_each other row there in_rows (sym self.0 ∙ same) in
        let no = sym (ap is_none (subst (λ (r : Row). f r ≡ Some x) one becomes)) ∙ goes in
        cc

    pub modifying_planned : ArePlanned rows planned gone (numbered c.issued new)
    modifying_planned = record {
      on = λ row there. on row there (f row) refl;
      stood = λ x there.
          let (row, in_rows, becomes) = from x there in
          let self = stays_self only named row x becomes in
          (row, in_rows, sym self.0, sym self.1);
      gone_stood = λ row left. (gone_in c sound rows lists only named planned gone changed is row left).0;
      gone_apart = apart;
      new = new_serials new;
    }

-- from the content before the statement to the sets after it
module _ (c : Content) (sound : IsSound c) (rows : List Row) (lists : ListsSet of_row c.sets.ltp IsAny rows)
    (current : List CurrentRow) (current_are : ListsSet of_current c.sets.cp IsAny current) (completed : List Row)
    (completed_are : AreCompleted c.sets completed) where
  has_lists : HasLists c.sets rows current completed
  has_lists = record {
    sound = rows_sound c sound;
    ltp = of_set of_row c.sets.ltp rows lists;
    cp = of_set of_current c.sets.cp current current_are;
    history = completed_are;
  }

  pub turned : (s : Sets) (stay gone made : List Row) → HasLists s (stay ++ made) current completed
      → ArePlanned rows stay gone made → (touch : Touch) (links : List Link)
      → IsTouchOf gone made c.in_force links touch
      → IsTurnTo c.sets s c.in_force links touch (stay ++ made) current completed
  turned s stay gone made has plan touch links is =
      turn_to c.sets s rows stay gone made current completed has_lists has plan touch c.in_force links is

-- what is made comes, and all else stays
pub rows_made : (c : Content) → IsSound c → (rows : List Row) → ListsSet of_row c.sets.ltp IsAny rows
    → (new : List Draft) → ArePlanned rows rows [] (numbered c.sets.issued new)
rows_made c sound rows lists new =
    all_stay rows (numbered c.sets.issued new) (new_serials c.sets (rows_sound c sound) rows lists new)
