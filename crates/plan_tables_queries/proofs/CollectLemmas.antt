-- A row that is refused as all rows of a table are handed out.
use Rattle.std.proofs.Common.{◌≡◌, List, [], ◌∷◌, ◌++◌, Contains, map, sym, subst}
use Rattle.std.specs.List.Sorted.{IsPermutation}
use Rattle.std.proofs.lemmas.List.Elements.{Contains-append_right}
use Rattle.std.proofs.lemmas.List.Sorted.{Contains-permutation, IsPermutation-sym}
use Rattle.sqlite.specs.Order.{Row as Values}
use Rattle.plan_store_lists.proofs.KeyLemmas.{contains_first}
use Rattle.plan_tables_lookups.specs.Emitting.{EmitsPart}
use Rattle.plan_tables_lookups.specs.declared.faults.Stopped.TheVariants.{Sink}
use Rattle.plan_tables_queries.specs.Decoding.{TellsNone, TellsNot}
use Rattle.plan_tables_lookups.specs.declared.faults.TableFault.{TableFault}
use Rattle.plan_tables_queries.proofs.RowLemmas.{none_among}

module _ {W X : Type 0} (kept : W → List X) (why : W → TableFault) (Is : X → Type 0) (values_of : X → Values) where
  abbrev Keeps : W → Values → W → Type 0
  Keeps old row new = map values_of (kept new) ≡ map values_of (kept old) ++ row ∷ []

  abbrev Refuses : W → Values → W → Type 0
  Refuses old row new = TellsNone Is values_of row (why new)

  -- it is one of them
  pub refused : (rows : List Values) (old new : W) → EmitsPart Keeps Refuses (IsPermutation rows) old new Sink
      → TellsNot Is values_of rows (why new)
  refused rows old new h =
      let (last, row, later, is, taken, tells) = h.ends in
      let there = subst (λ l. Contains (h.done ++ l) row) (sym is)
      (Contains-append_right h.done (row ∷ later) row (contains_first row later)) in
      none_among Is values_of rows row (Contains-permutation _ rows row (IsPermutation-sym rows _ h.whole) there)
      (why new) tells
