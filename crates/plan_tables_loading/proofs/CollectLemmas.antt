-- What is kept of the rows of a table that were handed out.
use Rattle.std.proofs.Common.{◌≡◌, ◌∙◌, Bool, false, List, [], ◌∷◌, ◌++◌, append-nil, append_assoc, map, refl, sym, ap}
use Rattle.std.proofs.Common.{subst}
use Rattle.std.specs.List.{Contains}
use Rattle.std.specs.List.Sorted.{IsPermutation}
use Rattle.sqlite.specs.Order.{Row as Values}
use Rattle.plan_store_lists.proofs.KeyLemmas.{contains_first, contains_later}
use Rattle.plan_tables_lookups.specs.Emitting.{EmitsAll, EmitsPart, AcceptsAll}
use Rattle.plan_tables_lookups.specs.declared.faults.Stopped.TheVariants.{Sink}
use Rattle.plan_tables_schema.specs.Rows.{Tables, shown}
use Rattle.plan_tables_schema.specs.declared.tables.Table.{Table}
use Rattle.plan_tables_loading.specs.Readable.{ShowsEach}
use Rattle.plan_tables_loading.specs.Tables.{IsOneOf, ShowsOnly}
use Rattle.plan_tables_loading.proofs.TableLemmas.{not_each, shows_listed}

stands_behind : (done : List Values) (row : Values) (later : List Values) → Contains (done ++ row ∷ later) row
stands_behind [] row later = contains_first row later
stands_behind (d ∷ done) row later = contains_later d row (done ++ row ∷ later) (stands_behind done row later)

module _ {W X : Type 0} (kept : W → List X) (is_short : W → Bool) (Is : X → Type 0) (values_of : X → Values) where
  abbrev Keeps : W → Values → W → Type 0
  Keeps old row new = map values_of (kept new) ≡ map values_of (kept old) ++ row ∷ []

  abbrev IsMalformed : W → Values → W → Type 0
  IsMalformed old row new = is_short new ≡ false → (x : X) → Is x → values_of x ≡ row → ⊥

  all_kept : (rows : List Values) (old new : W) → AcceptsAll Keeps old rows new
      → map values_of (kept new) ≡ map values_of (kept old) ++ rows
  all_kept [] old new is = ap (λ w. map values_of (kept w)) is ∙ sym (append-nil (map values_of (kept old)))
  all_kept (row ∷ rows) old new (next, one, later) =
      all_kept rows next new later ∙ ap (λ l. l ++ rows) one ∙ append_assoc (map values_of (kept old)) (row ∷ []) rows

  module _ (IsWhole : List Values → Type 0) (old new : W) where
    pub kept_rows : kept old ≡ [] → EmitsAll Keeps IsWhole old new → IsWhole (map values_of (kept new))
    kept_rows none h =
        subst IsWhole (sym (all_kept h.rows old new h.taken ∙ ap (λ xs. map values_of xs ++ h.rows) none)) h.whole

    -- a row that was refused, though memory was not short, is one of all
    pub untold : EmitsPart Keeps IsMalformed IsWhole old new Sink → is_short new ≡ false → (rows : List Values)
        × IsWhole rows × ((v : Values) × Contains rows v × ((x : X) → Is x → values_of x ≡ v → ⊥))
    untold h long =
        let (last, row, later, is, taken, refused) = h.ends in (
          h.done ++ h.rest,
          h.whole,
          (row, subst (λ l. Contains (h.done ++ l) row) (sym is) (stands_behind h.done row later), refused long),
        )

  module _ (t : Table) (all : Tables) (old new : W) where
    abbrev IsTable : List Values → Type 0
    IsTable = IsPermutation (map (shown t) (all t))

    pub kept_shown : kept old ≡ [] → EmitsAll Keeps IsTable old new → ShowsOnly all t (IsOneOf values_of (kept new))
    kept_shown none h =
        shows_listed values_of (kept new) (map values_of (kept new)) all t (kept_rows IsTable old new none h) refl

    pub untold_row : EmitsPart Keeps IsMalformed IsTable old new Sink → is_short new ≡ false → ShowsEach all t values_of Is
        → ⊥
    untold_row h long =
        let (rows, whole, none) = untold IsTable old new h long in
        not_each values_of Is rows all t whole none
