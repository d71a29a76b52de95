-- The content of the tables of schema 1 stays in those that are made of them.
use Rattle.std.proofs.Common.{◌≡◌, ◌↔◌, ◌∙◌, inl, inr, ℕ, List, [], ◌∷◌, drop, map, refl, sym, ap, subst}
use Rattle.std.specs.Prelude.{Option, Some, None, option_map, ⊤}
use Rattle.std.specs.List.{Contains}
use Rattle.std.proofs.lemmas.List.Sorted.{Contains-permutation, IsPermutation-sym}
use Rattle.sqlite.specs.Order.{Row as Values, column}
use Rattle.sqlite.specs.declared.types.Value.{Value}
use Rattle.sqlite.specs.declared.types.Value.TheVariants.{Null, Text}
use Rattle.plan_store_lists.proofs.KeyLemmas.{contains_cases, contains_first, contains_later, nothing}
use Rattle.app_definition_records.specs.declared.predecessors.Predecessor.{Predecessor}
use Rattle.external_dependencies.specs.declared.links.Link.{Link}
use Rattle.planner_machine.specs.Content.{Content}
use Rattle.plan_tables_schema.specs.Rows.{Tables, shown}
use Rattle.plan_tables_schema.specs.declared.tables.Table.{Table}
use Rattle.plan_tables_schema.specs.declared.tables.Table.TheVariants as table
use Rattle.plan_tables_schema.specs.declared.tables.Table.TheVariants.{Meta, CalendarEntry, Period, Application, RunCycle}
use Rattle.plan_tables_schema.specs.declared.tables.Table.TheVariants.{Offset, LinkInForce, LongTerm, Current}
use Rattle.plan_tables_schema.specs.declared.tables.Table.TheVariants.{History, Deletion, Dependency, Job}
use Rattle.plan_tables_schema.specs.declared.tables.TheConstants.{SCHEMA_VERSION}
use Rattle.plan_tables_content.specs.Content.{IsContentOf, IsFact}
use Rattle.plan_tables_content.specs.Facts.{link_values, natural, or_null, predecessor_values}
use Rattle.plan_migrations_remaking.specs.FirstSchema.{first_shown}
use Rattle.plan_migrations_remaking.specs.Remaking.{remade_row, with_version}
use Rattle.plan_migrations.specs.FirstContent.{AreOfFirst, HasNoLimits, IsFirstContentOf, IsFirstFact, first_link_values}
use Rattle.plan_migrations.specs.FirstContent.{first_meta_values, first_predecessor_values}
use Rattle.plan_migrations.specs.Migrating.{AreRenewed, KeepsContent}
use Rattle.plan_migrations.specs.declared.versions.TheConstants.{FIRST_VERSION}

module _ {X Y : Type 0} (f : X → Y) where
  pub mapped : (xs : List X) (y : Y) → Contains (map f xs) y → (x : X) × Contains xs x × (f x ≡ y)
  mapped [] y there = absurd (nothing y there)
  mapped (x ∷ xs) y there = elim (contains_cases (f x) y (map f xs) there) [
    | inl is ↦ (x, contains_first x xs, is)
    | inr rest ↦ let (z, has, at) = mapped xs y rest in (z, contains_later x z xs has, at)
  ]

  pub maps : (xs : List X) (x : X) → Contains xs x → Contains (map f xs) (f x)
  maps [] x there = absurd (nothing x there)
  maps (z ∷ xs) x there = elim (contains_cases z x xs there) [
    | inl is ↦ subst (λ w. Contains (f z ∷ map f xs) w) (ap f is) (contains_first (f z) (map f xs))
    | inr rest ↦ contains_later (f z) (f x) (map f xs) (maps xs x rest)
  ]

-- a fact is what stands for one of schema 1
same_fact : (t : Table) (c : Content) (v : Values) → ((w : Values) × IsFact t c w × (w ≡ v)) ↔ IsFact t c v
same_fact t c v = (λ (w, fact, is). subst (IsFact t c) is fact, λ fact. (v, fact, refl))

-- without a limit, the row that is made of that of schema 1 is the one that stands for it
remade_predecessor : (app : List ℕ) (p : Predecessor) → p.within ≡ None
    → remade_row table.Predecessor (first_predecessor_values app p) ≡ predecessor_values app p
remade_predecessor app p none = ap (λ within. Text app ∷ Text p.name ∷ or_null (option_map natural within) ∷ []) (sym none)

remade_link : (link : Link) → link.within ≡ None → remade_row LinkInForce (first_link_values link) ≡ link_values link
remade_link link none =
    ap (λ within. Text link.app ∷ Text link.predecessor ∷ or_null (option_map natural within) ∷ []) (sym none)

module _ (c : Content) (unlimited : HasNoLimits c) where
  facts : (t : Table) (v : Values) → ((w : Values) × IsFirstFact t c w × (remade_row t w ≡ v)) ↔ IsFact t c v
  facts Meta v = (
    (λ (w, fact, is). sym is ∙ ap (remade_row Meta) fact),
    λ fact. (first_meta_values c.sets.bounds c.sets.issued c.definitions.options, refl, sym fact),
  )
  facts table.Predecessor v = (
    (λ (w, (app, all, got, (p, has, fact)), is). (
      app,
      all,
      got,
      (
        p,
        has,
        sym is ∙ ap (remade_row table.Predecessor) fact
            ∙ remade_predecessor app p (unlimited.defined app all got p has),
      ),
    )),
    λ (app, all, got, (p, has, fact)). (
      first_predecessor_values app p,
      (app, all, got, (p, has, refl)),
      remade_predecessor app p (unlimited.defined app all got p has) ∙ sym fact,
    ),
  )
  facts LinkInForce v = (
    (λ (w, (link, has, fact), is). (
      link,
      has,
      sym is ∙ ap (remade_row LinkInForce) fact ∙ remade_link link (unlimited.in_force link has),
    )),
    λ (link, has, fact). (
      first_link_values link,
      (link, has, refl),
      remade_link link (unlimited.in_force link has) ∙ sym fact,
    ),
  )
  facts CalendarEntry v = same_fact CalendarEntry c v
  facts Period v = same_fact Period c v
  facts Application v = same_fact Application c v
  facts RunCycle v = same_fact RunCycle c v
  facts Offset v = same_fact Offset c v
  facts LongTerm v = same_fact LongTerm c v
  facts Current v = same_fact Current c v
  facts History v = same_fact History c v
  facts Deletion v = same_fact Deletion c v
  facts Dependency v = same_fact Dependency c v
  facts Job v = same_fact Job c v

-- ---- and back

-- what is not there is none
none_at : (within : Option ℕ) → or_null (option_map natural within) ≡ Null → within ≡ None
none_at None h = refl
none_at (Some n) h = absurd cc

-- a row of `plan_meta` has the first version
abbrev IsTold : Table → Values → Type 0
IsTold Meta v = column v 1 ≡ natural FIRST_VERSION
IsTold t v = ⊤

told : (old : Tables) → AreOfFirst old → (t : Table) (v : Values) → Contains (map (first_shown t) (old t)) v → IsTold t v
told old first Meta v has = first v has
told old first t v has = tt

meta_back : (v : Values) (id : Value) (rest : Values) → column v 1 ≡ natural FIRST_VERSION
    → with_version v ≡ id ∷ natural SCHEMA_VERSION ∷ rest → v ≡ id ∷ natural FIRST_VERSION ∷ rest
meta_back [] id rest one is = absurd cc
meta_back (a ∷ []) id rest one is = absurd cc
meta_back (a ∷ b ∷ more) id rest one is = λ i. column (is i) 0 ∷ one i ∷ drop 2 (is i)

-- the row of schema 1 of which a fact was made is a fact
back : (t : Table) (c : Content) (row : Values) → IsTold t (first_shown t row)
    → IsFact t c (remade_row t (first_shown t row)) → IsFirstFact t c (first_shown t row)
back Meta c row one fact = meta_back (first_shown Meta row) (natural 1) _ one fact
back table.Predecessor c row one (app, all, got, (p, has, fact)) =
    (app, all, got, (p, has, λ i. column (fact i) 0 ∷ column (fact i) 1 ∷ []))
back LinkInForce c row one (link, has, fact) = (link, has, λ i. column (fact i) 0 ∷ column (fact i) 1 ∷ [])
back t c row one fact = fact

-- and it is the one that stands for that fact
alike : (t : Table) (c : Content) (v row : Values) → IsFirstFact t c v → IsTold t (first_shown t row)
    → remade_row t (first_shown t row) ≡ remade_row t v → first_shown t row ≡ v
alike Meta c v row fact one is =
    meta_back (first_shown Meta row) (natural 1) _ one (is ∙ ap (remade_row Meta) fact) ∙ sym fact
alike table.Predecessor c v row (app, all, got, (p, has, fact)) one is =
    let both = is ∙ ap (remade_row table.Predecessor) fact in (λ i. column (both i) 0 ∷ column (both i) 1 ∷ []) ∙ sym fact
alike LinkInForce c v row (link, has, fact) one is =
    let both = is ∙ ap (remade_row LinkInForce) fact in (λ i. column (both i) 0 ∷ column (both i) 1 ∷ []) ∙ sym fact
alike t c v row fact one is = is

module _ (old new : Tables) (rows : AreRenewed old new) where
  abbrev was : Table → List Values
  was t = map (first_shown t) (old t)

  abbrev now : Table → List Values
  now t = map (shown t) (new t)

  abbrev remade : Table → List Values
  remade t = map (remade_row t) (was t)

  stands : (t : Table) (v : Values) → Contains (was t) v → Contains (now t) (remade_row t v)
  stands t v has = Contains-permutation (remade t) (now t) (remade_row t v) (rows t) (maps (remade_row t) (was t) v has)

  -- what stands there was made of such a row
  made_of : (t : Table) (v : Values) → Contains (now t) v
      → (row : Values) × Contains (was t) (first_shown t row) × (remade_row t (first_shown t row) ≡ v)
  made_of t v there =
      let (w, has, at) = mapped (remade_row t) (was t) v (Contains-permutation (now t) (remade t) v
      (IsPermutation-sym (remade t) (now t) (rows t)) there) in
      let (row, _, shows) = mapped (first_shown t) (old t) w has in
      (row, subst (Contains (was t)) (sym shows) has, ap (remade_row t) shows ∙ at)

  pub content_stays : (c : Content) → IsFirstContentOf old c → IsContentOf new c
  content_stays c is = record { representable = is.representable; facts = λ t v. both t v }
    where
      both : (t : Table) (v : Values) → Contains (now t) v ↔ IsFact t c v
      both t v = (
        (λ there.
            let (row, has, at) = made_of t v there in
            (facts c is.unlimited t v).0 (first_shown t row, (is.facts t (first_shown t row)).0 has, at)),
        λ fact.
            let (w, first, at) = (facts c is.unlimited t v).1 fact in
            subst (Contains (now t)) at (stands t w ((is.facts t w).1 first)),
      )

  module _ (first : AreOfFirst old) (c : Content) (is : IsContentOf new c) where
    no_limit : (t : Table) (v : Values) (within : Option ℕ) → IsFact t c v → column v 2 ≡ or_null (option_map natural within)
        → ((row : Values) → column (remade_row t (first_shown t row)) 2 ≡ Null) → within ≡ None
    no_limit t v within fact at none =
        let (row, has, made) = made_of t v ((is.facts t v).1 fact) in
        none_at within (sym at ∙ ap (λ (w : Values). column w 2) (sym made) ∙ none row)

    unlimited : HasNoLimits c
    unlimited = record {
      defined = λ app all got p has. no_limit table.Predecessor (predecessor_values app p) p.within
          (app, all, got, (p, has, refl)) refl (λ row. refl);
      in_force = λ link has. no_limit LinkInForce (link_values link) link.within (link, has, refl) refl (λ row. refl);
    }

    pub content_was : IsFirstContentOf old c
    content_was = record { representable = is.representable; unlimited = unlimited; facts = λ t v. both t v }
      where
        one : (t : Table) (v row : Values) → first_shown t row ≡ v → Contains (was t) v → IsFirstFact t c v
        one t v row shows has =
            subst (IsFirstFact t c) shows (back t c row (told old first t _ (subst (Contains (was t)) (sym shows) has))
            ((is.facts t _).0 (subst (λ w. Contains (now t) (remade_row t w)) (sym shows) (stands t v has))))

        both : (t : Table) (v : Values) → Contains (was t) v ↔ IsFirstFact t c v
        both t v = (
          (λ has. let (row, _, shows) = mapped (first_shown t) (old t) v has in one t v row shows has),
          λ fact.
              let remakes = (facts c unlimited t (remade_row t v)).0 (v, fact, refl) in
              let (row, has, made) = made_of t (remade_row t v) ((is.facts t (remade_row t v)).1 remakes) in
              subst (Contains (was t)) (alike t c v row fact (told old first t _ has) made) has,
        )

  pub content_kept : AreOfFirst old → KeepsContent old new
  content_kept first c = (content_stays c, content_was first c)
