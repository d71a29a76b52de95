-- Deletions from a moment on are brought into lists.
use Rattle.std.proofs.Common.{◌≡◌, ◌++◌, ◌≤◌, ◌∷◌, ℕ, Bool, Contains, Err, List, Ok, Result, Some, [], false, inl, inr}
use Rattle.std.proofs.Common.{◌∙◌, refl, subst, sym, true}
use Rattle.std.proofs.Math.Logic.{∥∥₁_elim}
use Rattle.std.specs.Prelude.{◌&&◌, IsErrAnd, not, nat_lt}
use Rattle.std.proofs.lemmas.Bool.{ltb-false}
use Rattle.std.proofs.lemmas.List.Elements.{Contains-append_left, Contains-push, Contains-push_cases}
use Rattle.sqlite.specs.Held.{Held, state}
use Rattle.sqlite.specs.Store.{Ghosts}
use Rattle.occurrences.specs.declared.place.Deletion.{Deletion}
use Rattle.occurrences.specs.declared.place.Reason.{Reason}
use Rattle.occurrences.specs.declared.place.Reason.TheVariants.{Operator, Plan, Withdrawn}
use Rattle.planner_machine.specs.Content.{Content}
use Rattle.plan_store.specs.Parts.{IsPartOf, Rest, with_deleted, with_rest}
use Rattle.plan_store.specs.Views.{bars_from, is_by_operator}
use Rattle.plan_tables_windows.proofs.PartLemmas.{deleted_has, deleted_part, stood_still}
use Rattle.plan_tables_schema.specs.Rows.{Tables, tables_of}
use Rattle.plan_tables_schema.proofs.ResultLemmas.{still_ok}
use Rattle.plan_tables_queries.specs.Deletions.{AreGoneFrom}
use Rattle.plan_tables_queries.specs.Finding.{FindsFact}
use Rattle.plan_tables_lookups.specs.declared.faults.TableFault.{TableFault}
use Rattle.plan_tables_windows.specs.Loading.{Loads, LoadsEach, HasGoneFrom, Stand}
use Rattle.plan_tables_windows.specs.Fetching.{Fetches, Grows, rest_in}
use Rattle.plan_tables_windows.proofs.LoadLemmas.{brings_either, brings_ok, deleted_grows, numbered_deletion}
use Rattle.plan_tables_windows.proofs.EachLemmas.{no_item}
use Rattle.plan_tables_windows.proofs.FetchLemmas.{as_before, gathers_found, grows_then}
use Rattle.plan_tables_windows.proofs.SetLemmas.{deletion_found_set}

-- ---- one after another

pub brings_none : (c : Content) → LoadsEach [] c c (Ok tt)
brings_none c = record {
  grows = as_before c;
  part = λ rest stand part. part;
  ready = λ rest stand part deletion there. absurd (no_item deletion there);
  memory = tt;
}

module _ (deletions : List Deletion) (deletion : Deletion) (was lists now : Content)
    (result : Result (Unit {0}) TableFault)
    (one : LoadsEach deletions was lists (Ok tt)) (two : Loads (with_deleted deletion lists) lists now result) where
  abbrev after : Content
  after = with_deleted deletion lists

  abbrev all : List Deletion
  all = deletions ++ deletion ∷ []

  module _ (rest : Rest) (stand : Stand rest all) (part : IsPartOf rest was) where
    here : rest.deletions deletion.row.serial ≡ Some deletion
    here = stand deletion (Contains-push deletions deletion)

    before : Stand rest deletions
    before other there = stand other (Contains-append_left deletions (deletion ∷ []) other there)

    mid : IsPartOf rest lists
    mid = one.part rest before part

    has_all : (other : Deletion) → Contains all other → after.sets.deletions other.row.serial ≡ Some other
    has_all other there = elim (Contains-push_cases deletions deletion other there) [
      | inl earlier ↦ stood_still lists.sets.deletions deletion.row.serial deletion other.row.serial other
          (one.ready rest before part other earlier)
      | inr same ↦ subst (λ (d : Deletion). after.sets.deletions d.row.serial ≡ Some d) same
          (deleted_has rest lists deletion here mid)
    ]

  pub brings_more : LoadsEach all was now result
  brings_more = record {
    grows = grows_then was lists now one.grows (brings_either after lists now result (Grows lists) two
        (deleted_grows lists deletion) (as_before lists));
    part = λ rest stand part. brings_either after lists now result (IsPartOf rest) two
        (deleted_part rest lists deletion (here rest stand part) (mid rest stand part)) (mid rest stand part);
    ready = λ rest stand part. brings_ok after lists now result
        (λ c. (other : Deletion) → Contains all other → c.sets.deletions other.row.serial ≡ Some other) two
        (has_all rest stand part);
    memory = two.memory;
  }

-- where memory was refused, it was refused for more
pub brings_part : (some every : List Deletion) (was now : Content) (fault : TableFault)
    → ((deletion : Deletion) → Contains some deletion → Contains every deletion)
    → LoadsEach some was now (Err fault) → (result : Result (Unit {0}) TableFault) → IsErrAnd result (λ f. f ≡ fault)
    → LoadsEach every was now result
brings_part some every was now fault within is (Ok x) passed = absurd passed
brings_part some every was now fault within is (Err f) passed = record {
  grows = is.grows;
  part = λ rest stand. is.part rest (λ deletion there. stand deletion (within deletion there));
  ready = λ rest stand part. tt;
  memory = passed ∙ is.memory;
}

-- ---- those that were found

by_operator : (r : Reason) → is_by_operator r ≡ true → r ≡ Operator
by_operator Operator is = refl
by_operator Withdrawn is = absurd (let h : ⊥ = cc is in h)
by_operator Plan is = absurd (let h : ⊥ = cc is in h)

both_so : (a b : Bool) → (not a && b) ≡ true → (a ≡ false) × (b ≡ true)
both_so false b is = (refl, is)
both_so true b is = absurd (let h : ⊥ = cc is in h)

pub bars_so : (moment : ℕ) (d : Deletion) → bars_from moment d ≡ true → (d.reason ≡ Operator) × (moment ≤ d.row.key.ia)
bars_so moment d is =
    let (late, by) = both_so (nat_lt d.row.key.ia moment) (is_by_operator d.reason) is in
    (by_operator d.reason by, ltb-false d.row.key.ia moment late)

module _ {S X : Type 0} (g : Ghosts S) (old new : Held S) (moment : ℕ) (found : X) (list_of : X → List Deletion)
    (was now : Content) (result : Result (Unit {0}) TableFault)
    (each : LoadsEach (list_of found) was now result) where
  abbrev tables : Tables
  tables = tables_of (state g old).now.trees

  abbrev rest : Rest
  rest = rest_in (state g old)

  abbrev AreFound : Content → X → Type 0
  AreFound c x = AreGoneFrom tables moment c (list_of x)

  module _ (are : ∥ AreFound (with_rest rest was) found ∥₁) where
    stand : Stand rest (list_of found)
    stand deletion there = ∥∥₁_elim are (deletion_found_set _ _) (λ (h : AreFound (with_rest rest was) found).
        let gone = (h.exactly deletion).0 there in
        subst (λ n. rest.deletions n ≡ Some deletion) (sym (numbered_deletion tables gone.serial deletion gone.is))
        gone.is)

    has_gone : ((deletion : Deletion) → Contains (list_of found) deletion
        → now.sets.deletions deletion.row.serial ≡ Some deletion)
        → HasGoneFrom moment rest now
    has_gone has serial deletion at bars = ∥∥₁_elim are (deletion_found_set _ _)
        (λ (h : AreFound (with_rest rest was) found).
        let (by, late) = bars_so moment deletion bars in
        let there = (h.exactly deletion).1 (record { serial = serial; is = at; reason = by; late = late }) in
        subst (λ n. now.sets.deletions n ≡ Some deletion) (numbered_deletion tables serial deletion at)
        (has deletion there))

  pub gathers_bars : FindsFact g old new (Ok found) AreFound → Fetches g old new was now result (HasGoneFrom moment)
  gathers_bars finds = gathers_found g old new AreFound was (HasGoneFrom moment) found finds now each.grows result
      each.memory (λ of part are. (
        each.part rest (stand are) part,
        still_ok result _ _ (has_gone are) (each.ready rest (stand are) part),
      ))
