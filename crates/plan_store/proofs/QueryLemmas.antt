-- What is asked of history, as a list that is made step by step.
use Rattle.std.proofs.Common.{◌≡◌, ◌↔◌, ◌⊎◌, ℕ, ◌+◌, List, [], ◌∷◌, ◌++◌, arith, inl, inr, refl, sym, ap, subst, ◌∙◌}
use Rattle.std.proofs.Common.{Err, Global, IfOk, None, Ok, Option, Ordering, Result, Some, Vec}
use Rattle.std.specs.FinMap as map
use Rattle.std.specs.FinMap.{IsAntisymmetric, nat_cmp-IsAntisymmetric, slice_cmp-IsAntisymmetric}
use Rattle.std.specs.Cmp.Lexicographic.{slice_cmp}
use Rattle.std.specs.Ordering.{nat_cmp, ordering_then}
use Rattle.std.specs.List.{Contains}
use Rattle.std.proofs.lemmas.List.Elements.{Contains-append_cases, Contains-append_left, Contains-append_right}
use Rattle.std.proofs.lemmas.List.Elements.{Contains-push, Contains-push_cases}
use Rattle.app_definitions.specs.declared.definitions.Definitions.{Definitions}
use Rattle.app_definition_records.specs.ByName.{AreEntriesOf}
use Rattle.app_definition_records.specs.declared.predecessors.Predecessor.{Predecessor}
use Rattle.app_definition_records.proofs.ByNameLemmas.{entry_is, entry_there}
use Rattle.occurrences.specs.declared.key.Key.{Key}
use Rattle.occurrences.specs.declared.place.CurrentRow.{CurrentRow}
use Rattle.occurrences.specs.declared.row.Row.{Row}
use Rattle.occurrences.specs.declared.status.Status.TheVariants.{W}
use Rattle.external_dependencies.specs.Link.{Lists}
use Rattle.external_dependencies.specs.declared.links.Link.{Link}
use Rattle.external_dependencies.proofs.OrderLemmas.{then_equal}
use Rattle.planner_machine.specs.Content.{Content}
use Rattle.planner_machine.specs.declared.content.Bounds.{Bounds}
use Rattle.plan_store_lists.specs.Rows.{AreRows, look_up, of_current}
use Rattle.plan_store_lists.specs.declared.namings.Naming.{Naming}
use Rattle.plan_store_lists.proofs.KeyLemmas.{nothing}
use Rattle.plan_store_lists.proofs.LookLemmas.{look_has, look_some}
use Rattle.plan_store.specs.HistoryReads.{ReadsKey, ReadsNaming, ReadsPlan, ListsDefined, ListsEither}
use Rattle.plan_store.specs.Queries.{ReadByOne, ReadsEach, ReadsEnd, ReadsEndOf, ReadsRow, IsAsked, IsDefined}
use Rattle.plan_store.specs.Views.{current_serial}
use Rattle.plan_store.specs.Queries.{AddsQueries, IsQueriedIn}
use Rattle.plan_store.specs.declared.queries.LastQuery.{LastQuery}

-- by application, then by moment
abbrev pub ask_cmp : LastQuery → LastQuery → Ordering
ask_cmp a b = ordering_then (slice_cmp nat_cmp a.app b.app) (nat_cmp a.moment b.moment)

-- only equal queries compare as equal
pub ask_ties : IsAntisymmetric ask_cmp
ask_ties a b is =
    let both = then_equal (slice_cmp nat_cmp a.app b.app) (nat_cmp a.moment b.moment) is in
    let app : a.app ≡ b.app = slice_cmp-IsAntisymmetric nat_cmp-IsAntisymmetric a.app b.app both.0 in
    let moment : a.moment ≡ b.moment = nat_cmp-IsAntisymmetric a.moment b.moment both.1 in
    λ i. record { app = app i; moment = moment i }

-- what an entry of the lists that are defined asks for
abbrev pub ReadsEntry : ℕ → List ℕ × List Predecessor → List ℕ → ℕ → Type 0
ReadsEntry minute entry = ReadByOne (λ (p : Predecessor). IsAsked p.name minute) entry.1

-- nothing is asked for
pub asks_none : (Asked : List ℕ → ℕ → Type 0) (queries : List LastQuery)
    → ((app : List ℕ) (minute : ℕ) → Asked app minute → IsQueriedIn queries app minute)
    → AddsQueries Asked queries queries
asks_none Asked queries held = record { stay = λ query there. there; come = λ query there. inl there; found = held }

-- one more
pub asks_one : (queries : List LastQuery) (app : List ℕ) (moment : ℕ) (query : LastQuery) → query.app ≡ app
    → query.moment ≡ moment → AddsQueries (IsAsked app (moment + 1)) queries (queries ++ query ∷ [])
asks_one queries app moment query of at = record {
  stay = λ other there. Contains-append_left queries (query ∷ []) other there;
  come = λ other there. elim (Contains-push_cases queries query other there) [
    | inl before ↦ inl before
    | inr same ↦ inr (
      ap (λ (a : LastQuery). a.app) (sym same) ∙ of,
      ap (λ (a : LastQuery). a.moment + 1) (sym same) ∙ ap (λ n. n + 1) at,
    )
  ];
  found = λ of_app minute asked. (
    query,
    Contains-push queries query,
    of ∙ sym asked.0,
    asked.1 ∙ ap (λ n. n + 1) (sym at),
  );
}

-- what two lists ask for, one after the other
pub asks_both : {X : Type 0} (Asks : X → List ℕ → ℕ → Type 0) (xs ys : List X) (first old new : List LastQuery)
    → AddsQueries (ReadByOne Asks xs) first old → AddsQueries (ReadByOne Asks ys) old new
    → AddsQueries (ReadByOne Asks (xs ++ ys)) first new
asks_both Asks xs ys first old new one two = record {
  stay = λ query there. two.stay query (one.stay query there);
  come = λ query there. elim (two.come query there) [
    | inl before ↦ elim (one.come query before) [
      | inl was ↦ inl was
      | inr (x, among, asked) ↦ inr (x, Contains-append_left xs ys x among, asked)
    ]
    | inr (x, among, asked) ↦ inr (x, Contains-append_right xs ys x among, asked)
  ];
  found = λ app minute (x, among, asked). elim (Contains-append_cases xs ys x among) [
    | inl here ↦
        let at = one.found app minute (x, here, asked) in
        (at.0, two.stay at.0 at.1, at.2, at.3)
    | inr later ↦ two.found app minute (x, later, asked)
  ];
}

-- the same in another order
pub asks_same : (Asked : List ℕ → ℕ → Type 0) (old new ordered : List LastQuery) → AddsQueries Asked old new
    → ((query : LastQuery) → Contains ordered query ↔ Contains new query) → AddsQueries Asked old ordered
asks_same Asked old new ordered adds same = record {
  stay = λ query there. (same query).1 (adds.stay query there);
  come = λ query there. adds.come query ((same query).0 there);
  found = λ app minute asked. let at = adds.found app minute asked in (at.0, (same at.0).1 at.1, at.2, at.3);
}

-- in other words
pub asks_as : (P Q : List ℕ → ℕ → Type 0) (old new : List LastQuery)
    → ((app : List ℕ) (minute : ℕ) → P app minute → Q app minute)
    → ((app : List ℕ) (minute : ℕ) → Q app minute → P app minute) → AddsQueries P old new → AddsQueries Q old new
asks_as P Q old new to from adds = record {
  stay = adds.stay;
  come = λ query there. elim (adds.come query there) [
    | inl before ↦ inl before
    | inr one ↦ inr (to query.app (query.moment + 1) one)
  ];
  found = λ app minute asked. adds.found app minute (from app minute asked);
}

-- one after the other
pub asks_then : (P Q : List ℕ → ℕ → Type 0) (a b c : List LastQuery) → AddsQueries P a b → AddsQueries Q b c
    → AddsQueries (λ app minute. P app minute ⊎ Q app minute) a c
asks_then P Q a b c first second = record {
  stay = λ query there. second.stay query (first.stay query there);
  come = λ query there. elim (second.come query there) [
    | inl before ↦ elim (first.come query before) [ inl older ↦ inl older | inr one ↦ inr (inl one) ]
    | inr two ↦ inr (inr two)
  ];
  found = λ app minute asked. elim asked [
    | inl one ↦ let at = first.found app minute one in (at.0, second.stay at.0 at.1, at.2, at.3)
    | inr two ↦ second.found app minute two
  ];
}

module _ {X : Type 0} (Asks : X → List ℕ → ℕ → Type 0) where
  -- what one more asks for
  pub asks_more : (xs : List X) (x : X) (a b c : List LastQuery) → AddsQueries (ReadByOne Asks xs) a b
      → AddsQueries (Asks x) b c → AddsQueries (ReadByOne Asks (xs ++ x ∷ [])) a c
  asks_more xs x a b c first second = asks_as (λ app minute. ReadByOne Asks xs app minute ⊎ Asks x app minute)
      (ReadByOne Asks (xs ++ x ∷ [])) a c
      (λ app minute asked. elim asked [
        | inl one ↦ (one.0, Contains-append_left xs (x ∷ []) one.0 one.1, one.2)
        | inr two ↦ (x, Contains-push xs x, two)
      ])
      (λ app minute (y, there, asked). elim (Contains-push_cases xs x y there) [
        | inl before ↦ inl (y, before, asked)
        | inr same ↦ inr (subst (λ z. Asks z app minute) (sym same) asked)
      ]) (asks_then (ReadByOne Asks xs) (Asks x) a b c first second)

  -- one more that asks for nothing
  pub asks_skip : (xs : List X) (x : X) (a b : List LastQuery)
      → ((app : List ℕ) (minute : ℕ) → Asks x app minute → ⊥) → AddsQueries (ReadByOne Asks xs) a b
      → AddsQueries (ReadByOne Asks (xs ++ x ∷ [])) a b
  asks_skip xs x a b nothing first = asks_more xs x a b b first
      (asks_none (Asks x) b (λ app minute asked. absurd (nothing app minute asked)))

-- the applications of a list, from its links
pub asks_list : (links list : List Link) (naming : List ℕ) (minute : ℕ) (a b : List LastQuery)
    → ((link : Link) → Contains list link ↔ (Contains links link × (link.app ≡ naming)))
    → AddsQueries (ReadByOne (λ (link : Link). IsAsked link.predecessor minute) list) a b
    → AddsQueries (ReadsEach (Lists links naming) minute) a b
asks_list links list naming minute a b is = asks_as
    (ReadByOne (λ (link : Link). IsAsked link.predecessor minute) list) (ReadsEach (Lists links naming) minute) a b
    (λ app m (link, there, asked).
    let own = (is link).0 there in
    let same : link ≡ record { app = naming; predecessor = app; within = link.within } =
    λ i. record { app = own.1 i; predecessor = sym asked.0 i; within = link.within } in
    (asked.1, (link.within, subst (λ (l : Link). Contains links l) same own.0)))
    (λ app m (at, listed).
    let link : Link = record { app = naming; predecessor = app; within = listed.0 } in
    (link, (is link).1 (listed.1, refl), (refl, at)))

-- from the list that is defined
pub asks_defined : (all : Definitions) (naming : List ℕ) (listed : List Predecessor) (minute : ℕ) (a b : List LastQuery)
    → map.get all.predecessors naming ≡ Some listed
    → AddsQueries (ReadByOne (λ (p : Predecessor). IsAsked p.name minute) listed) a b
    → AddsQueries (ReadsEach (ListsDefined all naming) minute) a b
asks_defined all naming listed minute a b is = asks_as
    (ReadByOne (λ (p : Predecessor). IsAsked p.name minute) listed) (ReadsEach (ListsDefined all naming) minute) a b
    (λ app m (p, there, asked).
    let same : p ≡ record { name = app; within = p.within } =
    λ i. record { name = sym asked.0 i; within = p.within } in
    (asked.1, (p.within, (listed, is, subst (λ (q : Predecessor). Contains listed q) same there))))
    (λ app m (at, defined).
    let (within, by_all) = defined in
    let (others, there, has) = by_all in
    let both : Some others ≡ Some listed = sym there ∙ is in
    let one : others ≡ listed = cc in
    let p : Predecessor = record { name = app; within = within } in
    (p, subst (λ ps. Contains ps p) one has, (refl, at)))

pub asks_undefined : (all : Definitions) (naming : List ℕ) (minute : ℕ) (a : List LastQuery)
    → map.get all.predecessors naming ≡ None → AddsQueries (ReadsEach (ListsDefined all naming) minute) a a
asks_undefined all naming minute a none = asks_none (ReadsEach (ListsDefined all naming) minute) a
    (λ app m (at, defined).
    let (within, by_all) = defined in
    let (others, there, has) = by_all in
    let both : Some others ≡ None = sym there ∙ none in
    absurd (some_none others both))
  where
    some_none : (xs : List Predecessor) → Some xs ≡ None → ⊥
    some_none xs is = cc

-- no entry
pub no_entries : (minute : ℕ) (a : List LastQuery) → AddsQueries (ReadByOne (ReadsEntry minute) []) a a
no_entries minute a = asks_none (ReadByOne (ReadsEntry minute) []) a
    (λ app m (entry, (k, lt, at), asked). absurd (omega arith))

-- all entries
pub asks_entries : (all : Definitions) (entries : List (List ℕ × List Predecessor)) (minute : ℕ) (a b : List LastQuery)
    → AreEntriesOf entries all.predecessors → AddsQueries (ReadByOne (ReadsEntry minute) entries) a b
    → AddsQueries (ReadsEach (IsDefined all) minute) a b
asks_entries all entries minute a b are = asks_as (ReadByOne (ReadsEntry minute) entries)
    (ReadsEach (IsDefined all) minute) a b
    (λ app m (entry, there, by_entry).
    let (p, has, asked) = by_entry in
    let same : p ≡ record { name = app; within = p.within } =
    λ i. record { name = sym asked.0 i; within = p.within } in (
      asked.1,
      (
        entry.0,
        (
          p.within,
          (
            entry.1,
            entry_is entries all.predecessors entry.0 entry.1 are there,
            subst (λ (q : Predecessor). Contains entry.1 q) same has,
          ),
        ),
      ),
    ))
    (λ app m (at, defined).
    let (naming, by_naming) = defined in
    let (within, by_all) = by_naming in
    let (listed, there, has) = by_all in (
      (naming, listed),
      entry_there entries all.predecessors naming listed are there,
      (record { name = app; within = within }, has, (refl, at)),
    ))

-- what a row that waits asks for
pub asks_row : (links : List Link) (all : Definitions) (current : CurrentRow) (a b c : List LastQuery)
    → current.status ≡ W → AddsQueries (ReadsEach (Lists links current.row.key.app) (current.row.key.ia + 1)) a b
    → AddsQueries (ReadsEach (ListsDefined all current.row.key.app) (current.row.key.ia + 1)) b c
    → AddsQueries (ReadsRow links all current) a c
asks_row links all current a b c waits one two = asks_as
    (λ app m. InForce app m ⊎ Defined app m) (ReadsRow links all current) a c
    (λ app m asked. elim asked [
      | inl listed ↦ (waits, (listed.0, inl listed.1))
      | inr defined ↦ (waits, (defined.0, inr defined.1))
    ])
    (λ app m (is, asked). elim asked.1 [ inl listed ↦ inl (asked.0, listed) | inr defined ↦ inr (asked.0, defined) ])
    (asks_then InForce Defined a b c one two)
  where
    InForce : List ℕ → ℕ → Type 0
    InForce = ReadsEach (Lists links current.row.key.app) (current.row.key.ia + 1)

    Defined : List ℕ → ℕ → Type 0
    Defined = ReadsEach (ListsDefined all current.row.key.app) (current.row.key.ia + 1)

-- what is asked for at the plan end
module _ (links : List Link) (all : Definitions) (bounds : Bounds) where
  abbrev pub ReadsNamed : List ℕ → ℕ → Type 0
  ReadsNamed = ReadByOne (λ (link : Link). IsAsked link.predecessor (bounds.plan_end + 1)) links

  end_to : (app : List ℕ) (m : ℕ) → ReadsNamed app m ⊎ ReadsEach (IsDefined all) (bounds.plan_end + 1) app m
      → ReadsEnd links all (Some bounds) app m
  end_to app m (inl (link, there, asked)) =
      let same : link ≡ record { app = link.app; predecessor = app; within = link.within } =
      λ i. record { app = link.app; predecessor = sym asked.0 i; within = link.within } in
      (bounds, refl, (asked.1, (link.app, inl (link.within, subst (λ (l : Link). Contains links l) same there))))
  end_to app m (inr (at, (naming, listed))) = (bounds, refl, (at, (naming, inr listed)))

  end_from : (app : List ℕ) (m : ℕ) → ReadsEnd links all (Some bounds) app m
      → ReadsNamed app m ⊎ ReadsEach (IsDefined all) (bounds.plan_end + 1) app m
  end_from app m (known, is, (at, (naming, either))) =
      let one : bounds ≡ known = cc in
      let here : m ≡ bounds.plan_end + 1 = at ∙ ap (λ (x : Bounds). x.plan_end + 1) (sym one) in
      elim either [
        | inl listed ↦ inl (record { app = naming; predecessor = app; within = listed.0 }, listed.1, (refl, here))
        | inr defined ↦ inr (here, (naming, defined))
      ]

  pub asks_end : (a b c : List LastQuery) → AddsQueries ReadsNamed a b
      → AddsQueries (ReadsEach (IsDefined all) (bounds.plan_end + 1)) b c
      → AddsQueries (ReadsEnd links all (Some bounds)) a c
  asks_end a b c one two = asks_as
      (λ app m. ReadsNamed app m ⊎ ReadsEach (IsDefined all) (bounds.plan_end + 1) app m)
      (ReadsEnd links all (Some bounds)) a c end_to end_from
      (asks_then ReadsNamed (ReadsEach (IsDefined all) (bounds.plan_end + 1)) a b c one two)

-- nothing, where there is no plan
pub no_end : (links : List Link) (all : Definitions) (a : List LastQuery) → AddsQueries (ReadsEnd links all None) a a
no_end links all a = asks_none (ReadsEnd links all None) a (λ app m (known, is, asked). absurd (none_some known is))
  where
    none_some : (known : Bounds) → (let none : Option Bounds = None in none) ≡ Some known → ⊥
    none_some known same = cc

-- what a statement on the key asks
pub asks_key : (c : Content) (key : Key) (a b d : List LastQuery)
    → AddsQueries (IsAsked key.app (key.ia + 1)) a b
    → AddsQueries (ReadsEach (Lists c.in_force key.app) (key.ia + 1)) b d → AddsQueries (ReadsKey c key) a d
asks_key c key a b d own listed = asks_as (λ app m. IsAsked key.app (key.ia + 1) app m ⊎ Listed app m)
    (ReadsKey c key) a d
    (λ app m asked. elim asked [ inl at ↦ (at.1, inl at.0) | inr lists ↦ (lists.0, inr lists.1) ])
    (λ app m (at, either). elim either [ inl same ↦ inl (same, at) | inr lists ↦ inr (at, lists) ])
    (asks_then (IsAsked key.app (key.ia + 1)) Listed a b d own listed)
  where
    Listed : List ℕ → ℕ → Type 0
    Listed = ReadsEach (Lists c.in_force key.app) (key.ia + 1)

-- what is asked for at the plan end for one application
module _ (links : List Link) (all : Definitions) (bounds : Bounds) (naming : List ℕ) where
  abbrev OwnInForce : List ℕ → ℕ → Type 0
  OwnInForce = ReadsEach (Lists links naming) (bounds.plan_end + 1)

  abbrev OwnDefined : List ℕ → ℕ → Type 0
  OwnDefined = ReadsEach (ListsDefined all naming) (bounds.plan_end + 1)

  end_of_to : (app : List ℕ) (m : ℕ) → OwnInForce app m ⊎ OwnDefined app m → ReadsEndOf links all (Some bounds) naming app m
  end_of_to app m (inl (at, listed)) = (bounds, refl, (at, inl listed))
  end_of_to app m (inr (at, defined)) = (bounds, refl, (at, inr defined))

  end_of_from : (app : List ℕ) (m : ℕ) → ReadsEndOf links all (Some bounds) naming app m
      → OwnInForce app m ⊎ OwnDefined app m
  end_of_from app m (known, is, (at, either)) =
      let one : bounds ≡ known = cc in
      let here : m ≡ bounds.plan_end + 1 = at ∙ ap (λ (x : Bounds). x.plan_end + 1) (sym one) in
      elim either [ inl listed ↦ inl (here, listed) | inr defined ↦ inr (here, defined) ]

  pub asks_end_of : (a b c : List LastQuery) → AddsQueries OwnInForce a b → AddsQueries OwnDefined b c
      → AddsQueries (ReadsEndOf links all (Some bounds) naming) a c
  asks_end_of a b c one two = asks_as (λ app m. OwnInForce app m ⊎ OwnDefined app m)
      (ReadsEndOf links all (Some bounds) naming) a c end_of_to end_of_from (asks_then OwnInForce OwnDefined a b c one two)

pub no_end_of : (links : List Link) (all : Definitions) (naming : List ℕ) (a : List LastQuery)
    → AddsQueries (ReadsEndOf links all None naming) a a
no_end_of links all naming a = asks_none (ReadsEndOf links all None naming) a
    (λ app m (known, is, asked). absurd (none_some known is))
  where
    none_some : (known : Bounds) → (let none : Option Bounds = None in none) ≡ Some known → ⊥
    none_some known same = cc

-- what a statement on the long-term plan asks
module _ (c : Content) (cp : List CurrentRow) (cp_rows : AreRows of_current cp)
    (cp_is : c.sets.cp ≡ look_up current_serial cp) where
  -- a row that waits, and the row itself
  row_stands : (x : CurrentRow) → Contains cp x → x.status ≡ W
      → c.sets.cp x.row.serial ≡ Some (record { row = x.row; status = W })
  row_stands x there waits =
      let same : x ≡ record { row = x.row; status = W } = λ i. record { row = x.row; status = waits i } in
      ap (λ (f : ℕ → Option CurrentRow). f x.row.serial) cp_is ∙ look_has current_serial cp cp_rows.one_each x there
      ∙ ap Some same

  row_there : (row : Row) → c.sets.cp row.serial ≡ Some (record { row = row; status = W })
      → Contains cp (record { row = row; status = W })
  row_there row stands = (look_some current_serial cp row.serial (record { row = row; status = W })
      (ap (λ (f : ℕ → Option CurrentRow). f row.serial) (sym cp_is) ∙ stands)).0

  -- for one application
  module _ (naming : List ℕ) (own : List CurrentRow)
      (own_are : (x : CurrentRow) → Contains own x ↔ (Contains cp x × (x.row.key.app ≡ naming))) where
    abbrev ReadsOwn : List ℕ → ℕ → Type 0
    ReadsOwn = ReadByOne (ReadsRow c.in_force c.definitions) own

    abbrev OwnAtEnd : List ℕ → ℕ → Type 0
    OwnAtEnd = ReadsEndOf c.in_force c.definitions c.sets.bounds naming

    naming_to : (app : List ℕ) (minute : ℕ) → ReadsOwn app minute ⊎ OwnAtEnd app minute → ReadsNaming c naming app minute
    naming_to app minute (inl (x, there, asked)) =
        let both = (own_are x).0 there in
        inl (x.row, row_stands x both.0 asked.0, both.1, asked.1.0, subst (λ n. ListsEither c n app) both.1 asked.1.1)
    naming_to app minute (inr (bounds, is, asked)) = inr (bounds, is, asked.0, asked.1)

    naming_from : (app : List ℕ) (minute : ℕ) → ReadsNaming c naming app minute → ReadsOwn app minute ⊎ OwnAtEnd app minute
    naming_from app minute (inl (row, stands, of_app, at, lists)) =
        let x : CurrentRow = record { row = row; status = W } in
        inl (x, (own_are x).1 (row_there row stands, of_app), (refl, (at, subst (λ n. ListsEither c n app) (sym of_app) lists)))
    naming_from app minute (inr (bounds, is, at, lists)) = inr (bounds, is, (at, lists))

    pub asks_naming : (a b d : List LastQuery) → AddsQueries ReadsOwn a b → AddsQueries OwnAtEnd b d
        → AddsQueries (ReadsNaming c naming) a d
    asks_naming a b d current ends = asks_as (λ app minute. ReadsOwn app minute ⊎ OwnAtEnd app minute)
        (ReadsNaming c naming) a d naming_to naming_from (asks_then ReadsOwn OwnAtEnd a b d current ends)

  -- for all
  abbrev ReadsCurrent : List ℕ → ℕ → Type 0
  ReadsCurrent = ReadByOne (ReadsRow c.in_force c.definitions) cp

  abbrev AtEnd : List ℕ → ℕ → Type 0
  AtEnd = ReadsEnd c.in_force c.definitions c.sets.bounds

  plan_to : (app : List ℕ) (minute : ℕ) → ReadsCurrent app minute ⊎ AtEnd app minute → ReadsPlan None c app minute
  plan_to app minute (inl (x, there, asked)) =
      (x.row.key.app, tt, inl (x.row, row_stands x there asked.0, refl, asked.1.0, asked.1.1))
  plan_to app minute (inr (bounds, is, asked)) = (asked.1.0, tt, inr (bounds, is, asked.0, asked.1.1))

  plan_from : (app : List ℕ) (minute : ℕ) → ReadsPlan None c app minute → ReadsCurrent app minute ⊎ AtEnd app minute
  plan_from app minute (naming, reached, inl (row, stands, of_app, at, lists)) = inl (
    record { row = row; status = W },
    row_there row stands,
    (refl, (at, subst (λ n. ListsEither c n app) (sym of_app) lists)),
  )
  plan_from app minute (naming, reached, inr (bounds, is, at, lists)) = inr (bounds, is, (at, (naming, lists)))

  pub asks_plan : (a b d : List LastQuery) → AddsQueries ReadsCurrent a b → AddsQueries AtEnd b d
      → AddsQueries (ReadsPlan None c) a d
  asks_plan a b d current ends = asks_as (λ app minute. ReadsCurrent app minute ⊎ AtEnd app minute)
      (ReadsPlan None c) a d plan_to plan_from (asks_then ReadsCurrent AtEnd a b d current ends)

-- for one application, and for each whose list in force names it
module _ (c : Content) (one : List ℕ) (namings : List Naming)
    (are : (naming : Naming) → Contains namings naming ↔ (Contains c.in_force naming.link
    × (naming.link.predecessor ≡ one))) where
  abbrev ReadsNamings : List ℕ → ℕ → Type 0
  ReadsNamings = ReadByOne (λ (naming : Naming). ReadsNaming c naming.link.app) namings

  one_to : (app : List ℕ) (minute : ℕ) → ReadsNaming c one app minute ⊎ ReadsNamings app minute
      → ReadsPlan (Some one) c app minute
  one_to app minute (inl own) = (one, inl refl, own)
  one_to app minute (inr (naming, there, asked)) =
      let both = (are naming).0 there in
      let link = naming.link in
      let same : link ≡ record { app = link.app; predecessor = one; within = link.within } =
      λ i. record { app = link.app; predecessor = both.1 i; within = link.within } in
      (link.app, inr (link.within, subst (Contains c.in_force) same both.0), asked)

  one_from : (app : List ℕ) (minute : ℕ) → ReadsPlan (Some one) c app minute
      → ReadsNaming c one app minute ⊎ ReadsNamings app minute
  one_from app minute (naming, inl same, asked) = inl (subst (λ n. ReadsNaming c n app minute) same asked)
  one_from app minute (naming, inr (within, listed), asked) =
      let x : Naming = record { link = record { app = naming; predecessor = one; within = within } } in
      inr (x, (are x).1 (listed, refl), asked)

  pub asks_one_app : (a b d : List LastQuery) → AddsQueries (ReadsNaming c one) a b → AddsQueries ReadsNamings b d
      → AddsQueries (ReadsPlan (Some one) c) a d
  asks_one_app a b d own others = asks_as (λ app minute. ReadsNaming c one app minute ⊎ ReadsNamings app minute)
      (ReadsPlan (Some one) c) a d one_to one_from (asks_then (ReadsNaming c one) ReadsNamings a b d own others)

-- what a list has that was made from nothing
module _ {E : Type 0} (Asked Asks : List ℕ → ℕ → Type 0) (same : Asks ≡ Asked) where
  pub asks_found : (r : Result (Vec LastQuery Global) E) → IfOk r (λ queries. AddsQueries Asked [] queries.items)
      → IfOk r (λ queries. (app : List ℕ) (minute : ℕ) → Asks app minute → IsQueriedIn queries.items app minute)
  asks_found (Ok queries) adds = λ app minute asked. adds.found app minute
      (subst (λ (P : List ℕ → ℕ → Type 0). P app minute) same asked)
  asks_found (Err e) adds = tt

  pub asks_only : (r : Result (Vec LastQuery Global) E) → IfOk r (λ queries. AddsQueries Asked [] queries.items)
      → IfOk r (λ queries. (query : LastQuery) → Contains queries.items query → Asks query.app (query.moment + 1))
  asks_only (Ok queries) adds = λ query there. elim (adds.come query there) [
    | inl none ↦ absurd (nothing query none)
    | inr asked ↦ subst (λ (P : List ℕ → ℕ → Type 0). P query.app (query.moment + 1)) (sym same) asked
  ]
  asks_only (Err e) adds = tt
