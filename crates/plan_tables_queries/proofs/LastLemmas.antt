-- The row that arrives last tells what arrives last in history.
use Rattle.std.proofs.Common.{◌≡◌, ◌≢◌, ◌∙◌, ◌≤◌, ℕ, List, Some, None, refl, sym, ap, subst, Contains, map}
use Rattle.sqlite.specs.Order.{Row as Values, column}
use Rattle.sqlite.specs.declared.types.Value.TheVariants.{Text}
use Rattle.occurrences.specs.declared.place.Place.TheVariants.{History}
use Rattle.occurrences.specs.declared.row.Row.{Row}
use Rattle.planner_machine.specs.Content.{Content}
use Rattle.planner_machine.specs.Sound.{IsSound}
use Rattle.plan_store.proofs.PlaceLemmas.{stands_history}
use Rattle.plan_tables_schema.specs.Rows.{Tables, shown}
use Rattle.plan_tables_schema.specs.declared.tables.Table.TheVariants as table
use Rattle.plan_tables_lookups.specs.Last.{Arrives, EachArrives, IsLastBefore, IsLastFound}
use Rattle.plan_tables_content.specs.Content.{IsContentOf}
use Rattle.plan_tables_content.specs.Decoded.{nat_in, text_in}
use Rattle.plan_tables_content.specs.Facts.{row_values}
use Rattle.plan_tables_content.proofs.Decoded.{one_row}
use Rattle.plan_tables_content.proofs.SameOptions.{is_some}
use Rattle.plan_tables_loading.specs.Cells.{IsNumberedRow}
use Rattle.plan_tables_queries.specs.Last.{IsLastRow}
use Rattle.plan_tables_queries.specs.Decoding.{TellsNone}
use Rattle.plan_tables_lookups.specs.declared.faults.TableFault.{TableFault}
use Rattle.plan_tables_lookups.specs.declared.faults.TableFault.TheVariants.{Memory, Malformed, Store}
use Rattle.plan_tables_queries.proofs.SerialLemmas.{completed_formed}

module _ (all : Tables) (c : Content) (is : IsContentOf all c) (sound : IsSound c) (app : List ℕ) (moment : ℕ) where
  abbrev rows : List Values
  rows = map (shown table.History) (all table.History)

  arrives_as : (v : Values) (row : Row) → v ≡ row_values row → Arrives row.key.app row.key.ia v
  arrives_as v row values = record {
    of = ap (λ (r : Values). column r 1) values;
    at = ap (λ (r : Values). column r 2) values;
  }

  each_arrives : EachArrives rows
  each_arrives v there =
      let (n, row, at, values) = (is.facts table.History v).0 there in
      (row.key.app, row.key.ia, arrives_as v row values)

  has_row : (n : ℕ) (row : Row) → c.sets.history n ≡ Some row → Contains rows (row_values row)
  has_row n row at = (is.facts table.History (row_values row)).1 (n, row, at, refl)

  arrives : (row : Row) → row.key.app ≡ app → Arrives app row.key.ia (row_values row)
  arrives row of = record { of = ap Text of; at = refl }

  pub none_last : IsLastFound app moment all None → IsLastRow c.sets.history app moment None
  none_last found n row at of before =
      found.1 each_arrives (row_values row) row.key.ia (has_row n row at) (arrives row of) before

  module _ (cells : Values) (found : IsLastFound app moment all (Some cells)) where
    last_found : IsLastBefore app moment rows cells
    last_found = found.1 each_arrives

    pub last_row : (row : Row) → row_values row ≡ cells → IsLastRow c.sets.history app moment (Some row)
    last_row row told =
        let (n, x, at_x, values) = (is.facts table.History cells).0 last_found.has in
        let same : x ≡ row = one_row x row (sym values ∙ sym told) in
        let at : c.sets.history n ≡ Some row = at_x ∙ ap Some same in
        let own : row.serial ≡ n = is.representable.history n row at in
        let of : row.key.app ≡ app =
        ap (λ (v : Values). text_in (column v 1)) told ∙ ap text_in last_found.arrives.of in
        let ia : row.key.ia ≡ last_found.ia =
        ap (λ (v : Values). nat_in (column v 2)) told ∙ ap nat_in last_found.arrives.at in
        record {
          has = subst (λ k. c.sets.history k ≡ Some row) (sym own) at;
          of = of;
          before = subst (λ k. k ≤ moment) (sym ia) last_found.before;
          last = λ m other has of_app before. subst (λ k. other.key.ia ≤ k) (sym ia)
              (last_found.last (row_values other) other.key.ia (has_row m other has) (arrives other of_app) before);
          alone = λ m other has of_app same_ia.
              let key : other.key ≡ row.key = λ i. record { ia = same_ia i; app = (of_app ∙ sym of) i } in
              let one : m ≡ n = sound.keys m n (record { row = other; place = History })
              (record { row = row; place = History }) (stands_history c.sets sound.serials m other has)
              (stands_history c.sets sound.serials n row at) tt tt key in
              is_some other row (sym has ∙ ap c.sets.history one ∙ at);
        }

    pub last_is_told : (fault : TableFault) → TellsNone IsNumberedRow row_values cells fault → fault ≢ Malformed
    last_is_told Memory tells e = cc
    last_is_told Malformed tells e =
        let (n, row, at, values) = (is.facts table.History cells).0 last_found.has in
        tells row (completed_formed c sound n row at) (sym values)
    last_is_told (Store error) tells e = tells
