-- What the tables show once the two that change are made anew, and the row of `plan_meta` is replaced.
use Rattle.std.proofs.Common.{◌≡◌, ◌∙◌, ◌++◌, Bool, true, false, List, [], ◌∷◌, drop, map, take, refl, sym, ap, subst, true≢false}
use Rattle.std.specs.List.{All, AllByRecursion, list_all}
use Rattle.std.specs.List.Sorted.{IsPermutation}
use Rattle.std.proofs.lemmas.List.{drop-map, map-id, take-append-drop, take-map}
use Rattle.std.proofs.lemmas.List.Elements.{All-append, All-cons, All-drop, All-head, All-nil, All-tail, All-take}
use Rattle.std.proofs.lemmas.List.Sorted.{IsPermutation-sym}
use Rattle.sqlite.specs.Effect.{Database}
use Rattle.sqlite.specs.Order.{Row}
use Rattle.sqlite.specs.State.{State}
use Rattle.sqlite_rules.proofs.ListLemmas.{has_got}
use Rattle.plan_tables_schema.specs.Rows.{Tables, shown, tables_of, without_key}
use Rattle.plan_tables_schema.specs.Schema.{all_tables}
use Rattle.plan_tables_schema.specs.declared.tables.Table.{Table}
use Rattle.plan_tables_schema.specs.declared.tables.Table.TheVariants.{LinkInForce, Meta, Predecessor}
use Rattle.plan_migrations_remaking.specs.FirstSchema.{changed, first_shown, is_changed}
use Rattle.plan_migrations_remaking.specs.Remaking.{AreAllFirst, AreRemade, AreWhole, CanRemakeOf, IsRemadeInside}
use Rattle.plan_migrations_remaking.specs.Remaking.{RemakesTo, emptied, meta_key, of_changed, of_meta, refilled, remade_row, tables_in}
use Rattle.plan_migrations_remaking.specs.Remaking.{with_all_put}
use Rattle.plan_migrations_remaking.specs.declared.rows.FirstRows.{FirstRows}
use Rattle.plan_migrations_remaking.proofs.AgainLemmas.{was_told}
use Rattle.plan_migrations_remaking.proofs.MetaLemmas.{meta_gone}
use Rattle.plan_migrations_remaking.proofs.RefillLemmas.{changed_typed, meta_typed}
use Rattle.plan_migrations_remaking.proofs.ShowLemmas.{AreEmpty, Shows, all_shown, are_apart, is_apart, left_alone}

-- rows are written into it
abbrev is_written : Table → Bool
is_written Meta = true
is_written t = is_changed t

-- the row of another is as it was
one_stays : (t : Table) → is_written t ≡ false → (rows was : List Row) → IsPermutation (map (first_shown t) was) rows
    → IsPermutation (map (remade_row t) rows) (map (shown t) was)
one_stays Meta h rows was same = absurd (true≢false h)
one_stays Predecessor h rows was same = absurd (true≢false h)
one_stays LinkInForce h rows was same = absurd (true≢false h)
one_stays t h rows was same = subst (λ l. IsPermutation l (map (shown t) was)) (sym (map-id rows))
    (IsPermutation-sym _ _ same)

empty_from : (reads : List FirstRows) (all : Tables) → AllByRecursion (λ t. all t ≡ []) (tables_in reads)
    → AreEmpty reads all
empty_from [] all none = tt
empty_from (read ∷ reads) all none = (none.0, empty_from reads all none.1)

-- tables that have the same rows show them
carried : (reads : List FirstRows) (all next : Tables) → AllByRecursion (λ t. next t ≡ all t) (tables_in reads)
    → AreRemade reads all → AreRemade reads next
carried [] all next same shows = All-nil (Shows next)
carried (read ∷ reads) all next same shows = All-cons (Shows next) read reads
    (subst (λ rows. IsPermutation (map (remade_row read.table) read.rows.items) (map (shown read.table) rows)) (sym same.0)
    (All-head (Shows all) read reads shows))
    (carried reads all next same.1 (All-tail (Shows all) read reads shows))

module _ (reads : List FirstRows) (base : Database) (whole : AreWhole reads) (typed : AreAllFirst reads)
    (from : CanRemakeOf reads base) where
  abbrev was : Tables
  was = tables_of base.trees

  abbrev none : Tables
  none = without_key Meta meta_key (emptied was)

  abbrev one : Tables
  one = with_all_put (of_meta reads) none

  abbrev two : Tables
  two = with_all_put (of_changed reads) one

  meta_tables : tables_in (of_meta reads) ≡ Meta ∷ []
  meta_tables = sym (take-map (λ (read : FirstRows). read.table) 1 reads) ∙ ap (take 1) whole

  changed_tables : tables_in (of_changed reads) ≡ changed
  changed_tables = sym (take-map (λ (read : FirstRows). read.table) 2 (drop 6 reads))
      ∙ ap (take 2) (sym (drop-map (λ (read : FirstRows). read.table) 6 reads) ∙ ap (drop 6) whole)

  apart_meta : (t : Table) → list_all (is_apart t) (Meta ∷ []) ≡ true → list_all (is_apart t) (tables_in (of_meta reads)) ≡ true
  apart_meta t = subst (λ ts. list_all (is_apart t) ts ≡ true) (sym meta_tables)

  apart_changed : (t : Table) → list_all (is_apart t) changed ≡ true
      → list_all (is_apart t) (tables_in (of_changed reads)) ≡ true
  apart_changed t = subst (λ ts. list_all (is_apart t) ts ≡ true) (sym changed_tables)

  meta_none : none Meta ≡ []
  meta_none = meta_gone base (from.can.has.trees Meta)
      (has_got base.schema.tables (from.can.has.at Meta) _ (from.can.has.stands Meta).got)
      (was_told base from.can from.obeys Meta) (from.rowids Meta refl) from.obeys

  meta_shown : AreRemade (of_meta reads) one
  meta_shown = all_shown (of_meta reads) none (ap are_apart meta_tables) (meta_typed reads typed)
      (empty_from (of_meta reads) none (subst (AllByRecursion (λ t. none t ≡ [])) (sym meta_tables) (meta_none, tt)))

  still_none : AllByRecursion (λ t. one t ≡ []) changed
  still_none = (
    left_alone Predecessor (of_meta reads) none (apart_meta Predecessor refl),
    (left_alone LinkInForce (of_meta reads) none (apart_meta LinkInForce refl), tt),
  )

  changed_shown : AreRemade (of_changed reads) two
  changed_shown = all_shown (of_changed reads) one (ap are_apart changed_tables) (changed_typed reads typed)
      (empty_from (of_changed reads) one (subst (AllByRecursion (λ t. one t ≡ [])) (sym changed_tables) still_none))

  meta_still : AreRemade (of_meta reads) two
  meta_still = carried (of_meta reads) one two (subst (AllByRecursion (λ t. two t ≡ one t)) (sym meta_tables)
      (left_alone Meta (of_changed reads) one (apart_changed Meta refl), tt)) meta_shown

  stays : (t : Table) → is_written t ≡ false → two t ≡ was t
  stays Meta h = absurd (true≢false h)
  stays Predecessor h = absurd (true≢false h)
  stays LinkInForce h = absurd (true≢false h)
  stays t h = left_alone t (of_changed reads) one (apart_changed t refl) ∙ left_alone t (of_meta reads) none (apart_meta t refl)

  abbrev Had : FirstRows → Type 0
  Had read = IsPermutation (map (first_shown read.table) (was read.table)) read.rows.items

  others_shown : (rest : List FirstRows) → AllByRecursion (λ t. is_written t ≡ false) (tables_in rest) → All Had rest
      → AreRemade rest two
  others_shown [] other had = All-nil (Shows two)
  others_shown (read ∷ rest) other had = All-cons (Shows two) read rest
      (subst (λ rows. IsPermutation (map (remade_row read.table) read.rows.items) (map (shown read.table) rows))
      (sym (stays read.table other.0))
      (one_stays read.table other.0 read.rows.items (was read.table) (All-head Had read rest had)))
      (others_shown rest other.1 (All-tail Had read rest had))

  abbrev first : List FirstRows
  first = take 5 (drop 1 reads)

  abbrev last : List FirstRows
  last = drop 2 (drop 6 reads)

  first_tables : tables_in first ≡ take 5 (drop 1 all_tables)
  first_tables = sym (take-map (λ (read : FirstRows). read.table) 5 (drop 1 reads))
      ∙ ap (take 5) (sym (drop-map (λ (read : FirstRows). read.table) 1 reads) ∙ ap (drop 1) whole)

  last_tables : tables_in last ≡ drop 2 (drop 6 all_tables)
  last_tables = sym (drop-map (λ (read : FirstRows). read.table) 2 (drop 6 reads))
      ∙ ap (drop 2) (sym (drop-map (λ (read : FirstRows). read.table) 6 reads) ∙ ap (drop 6) whole)

  first_shown_still : AreRemade first two
  first_shown_still = others_shown first (subst (AllByRecursion (λ t. is_written t ≡ false)) (sym first_tables)
      (refl, (refl, (refl, (refl, (refl, tt)))))) (All-take Had 5 (drop 1 reads) (All-drop Had 1 reads from.rows))

  last_shown_still : AreRemade last two
  last_shown_still = others_shown last (subst (AllByRecursion (λ t. is_written t ≡ false)) (sym last_tables)
      (refl, (refl, (refl, (refl, (refl, (refl, tt))))))) (All-drop Had 2 (drop 6 reads) (All-drop Had 6 reads from.rows))

  parts : of_meta reads ++ (first ++ (of_changed reads ++ last)) ≡ reads
  parts = ap (λ l. of_meta reads ++ (first ++ l)) (take-append-drop 2 (drop 6 reads))
      ∙ ap (λ l. of_meta reads ++ (first ++ l)) (sym (drop_drop reads))
      ∙ ap (λ l. of_meta reads ++ l) (take-append-drop 5 (drop 1 reads)) ∙ take-append-drop 1 reads
    where
      drop_drop : (xs : List FirstRows) → drop 5 (drop 1 xs) ≡ drop 6 xs
      drop_drop [] = refl
      drop_drop (x ∷ xs) = refl

  all_shown_still : AreRemade reads two
  all_shown_still = subst (λ l. AreRemade l two) parts
      (All-append (Shows two) (of_meta reads) (first ++ (of_changed reads ++ last)) meta_still
      (All-append (Shows two) first (of_changed reads ++ last) first_shown_still
      (All-append (Shows two) (of_changed reads) last changed_shown last_shown_still)))

  pub remade_again : (all : Tables) → all ≡ refilled reads (emptied was) → AreRemade reads all
  remade_again all is = subst (AreRemade reads) (sym is) all_shown_still

  -- and so does the database that is committed
  pub remakes_to : (s : State) → IsRemadeInside reads base s → RemakesTo reads base s.now.trees
  remakes_to s made = record {
    schema = s.now.schema;
    remade = made.remade;
    obeys = made.obeys;
    plan = made.plan.schema;
    rowids = made.plan.rowids;
    rows = remade_again (tables_of s.now.trees) made.rows_are;
  }
