-- What the tables show after a change of the plans.
use Rattle.std.proofs.Common.{◌≡◌, ◌↔◌, ℕ, Bool, true, false, cond, List, [], ◌∷◌, ◌⊎◌, inl, inr, refl, sym, ap}
use Rattle.std.proofs.Common.{subst, ◌∙◌, Option, Some, None}
use Rattle.std.specs.Prelude.{nat_eq}
use Rattle.std.specs.List.{Contains}
use Rattle.std.proofs.lemmas.Bool.{and_from, and_parts, false_from_ne_true, false≢true, not-true, eqb-true, eq-eqb}
use Rattle.sqlite.specs.Order.{Row as Values}
use Rattle.sqlite.specs.Rowids.TheVariants.{Chosen}
use Rattle.sqlite_rules.specs.Edit.{with_rowid}
use Rattle.app_definitions.specs.declared.options.Options.{Options}
use Rattle.external_dependencies.specs.declared.change.PairChange.{PairChange}
use Rattle.external_dependencies.specs.declared.links.Link.{Link}
use Rattle.external_dependencies.specs.declared.pairs.Pair.{Pair}
use Rattle.planner_machine.specs.declared.content.Bounds.{Bounds}
use Rattle.planner_machine.specs.declared.job.Job.{Job}
use Rattle.plan_tables_schema.specs.Rows.{Tables, shown, stored, without_key}
use Rattle.plan_tables_schema.specs.declared.tables.Table.TheVariants as table
use Rattle.plan_store.specs.Changes.{is_among, jobs_after, pairs_after}
use Rattle.external_dependencies.specs.Pair.{pair_cmp}
use Rattle.plan_store_lists.specs.Keyed.{holds_key}
use Rattle.external_dependencies.proofs.PairLemmas.{pair_ties}
use Rattle.plan_store_lists.proofs.KeyLemmas.{contains_filter, contains_first, filter_contains, holds_lacks}
use Rattle.external_dependencies.specs.Link.{link_cmp, HaveSameNames}
use Rattle.external_dependencies.specs.Rising.{IsRising}
use Rattle.external_dependencies.proofs.OrderLemmas.{named_once}
use Rattle.std.specs.Prelude.{not}
use Rattle.sqlite.specs.declared.types.Value.TheVariants.{Text}
use Rattle.plan_store.proofs.PairLemmas.{held_pair, itself, pair_total, pairs_after_contains}
use Rattle.plan_tables_content.specs.Facts.{link_key, link_values, natural, pair_values}
use Rattle.plan_tables_content.specs.Content.{IsOfList, IsOfSet, job_values, meta_values}
use Rattle.plan_tables_writing.specs.Writing.{beside, holds_link, job_put, links_replaced, meta_told, pairs_moved}
use Rattle.plan_tables_writing.specs.Writing.{standing, without_each}
use Rattle.plan_tables_writing.proofs.LinkLemmas.{holds_link-Decides}
use Rattle.plan_tables_constraints.proofs.Held.{Shows, matched, natural_itself, one_natural, one_text, same_cell}
use Rattle.plan_tables_constraints.proofs.Held.{text_itself}
use Rattle.plan_tables_constraints.proofs.SetMoves.{shows_cells, shows_with, shows_without}
use Rattle.plan_tables_content.proofs.SameOptions.{is_some as same_some, none_some}

-- ---- pairs

pub pairs_told : (p q : Pair) → matched table.Dependency (pair_values p) (pair_values q) ≡ true → p ≡ q
pairs_told p q h =
    let k = and_parts (same_cell (natural q.successor) (natural p.successor)) _ h in
    let l = and_parts (same_cell (natural q.predecessor) (natural p.predecessor)) _ k.1 in
    let a : p.successor ≡ q.successor = sym (one_natural q.successor p.successor k.0) in
    let b : p.predecessor ≡ q.predecessor = sym (one_natural q.predecessor p.predecessor l.0) in
    λ i. record { successor = a i; predecessor = b i }

pub pair_itself : (p : Pair) → matched table.Dependency (pair_values p) (pair_values p) ≡ true
pair_itself p = and_from _ _ (natural_itself p.successor p.successor refl)
    (and_from _ _ (natural_itself p.predecessor p.predecessor refl) refl)

pub pair_shows : (p : Pair) (rows : List Values) → shown table.Dependency (with_rowid Chosen rows
    (stored table.Dependency (pair_values p))) ≡ pair_values p
pair_shows p rows = refl

pair_apart : (xs : List Pair) (p : Pair) → (Contains xs p → ⊥) → (q : Pair) → Contains xs q
    → matched table.Dependency (pair_values q) (pair_values p) ≡ false
pair_apart xs p lacks q has = false_from_ne_true _ (λ e. lacks (subst (Contains xs) (pairs_told q p e) has))

pair_lacks : (xs : List Pair) (p : Pair) (v : Values) → v ≡ pair_values p
    → ((q : Pair) → Contains xs q → matched table.Dependency (pair_values q) v ≡ false) → Contains xs p → ⊥
pair_lacks xs p v is none has = false≢true (sym (none p has) ∙ ap (matched table.Dependency (pair_values p)) is
    ∙ pair_itself p)

among : (xs : List Pair) (p : Pair) → Contains xs p ⊎ (Contains xs p → ⊥)
among xs p = go (holds_key pair_cmp itself xs p) refl
  where
    go : (b : Bool) → holds_key pair_cmp itself xs p ≡ b → Contains xs p ⊎ (Contains xs p → ⊥)
    go true e = inl (held_pair xs p e)
    go false e = inr (λ has. holds_lacks pair_total pair_ties itself xs p e p has refl)

pub pairs_shown : (change : PairChange) (pairs : List Pair) (all : Tables)
    → ((v : Values) → Shows table.Dependency (all table.Dependency) v ↔ IsOfList pair_values pairs v) → (v : Values)
    → Shows table.Dependency (pairs_moved pairs change all table.Dependency) v ↔ IsOfList pair_values
    (pairs_after change pairs) v
pairs_shown change pairs all held v = (
  (λ there. elim ((shows_with table.Dependency pair_values pair_shows change.added _ v).0 there) [
    | inl new ↦ (new.0, (pairs_after_contains change pairs new.0).1 (inl new.1), new.2)
    | inr old ↦
        let k = (shows_without table.Dependency pair_values (standing pairs change.added)
        (without_each table.Dependency pair_values change.removed all) v).0 old in
        let h = (shows_without table.Dependency pair_values change.removed all v).0 k.0 in
        let (p, has, is) = (held v).0 h.0 in
        (p, (pairs_after_contains change pairs p).1 (inr (has, pair_lacks change.removed p v is h.1)), is)
  ]),
  λ is_one.
      let (p, has, is) = is_one in
      elim ((pairs_after_contains change pairs p).0 has) [
        | inl new ↦ (shows_with table.Dependency pair_values pair_shows change.added _ v).1 (inl (p, new, is))
        | inr old ↦ back p is old
      ],
)
  where
    stays : (p : Pair) → v ≡ pair_values p → Contains pairs p × (Contains change.removed p → ⊥)
        → Shows table.Dependency (without_each table.Dependency pair_values change.removed all table.Dependency) v
    stays p is old = (shows_without table.Dependency pair_values change.removed all v).1 (
      (held v).1 (p, old.0, is),
      λ q has. subst (λ w. matched table.Dependency (pair_values q) w ≡ false) (sym is)
          (pair_apart change.removed p old.1 q has),
    )

    -- it may stand among those that are added too
    go : (p : Pair) → v ≡ pair_values p → Contains pairs p × (Contains change.removed p → ⊥)
        → Contains change.added p ⊎ (Contains change.added p → ⊥)
        → Shows table.Dependency (pairs_moved pairs change all table.Dependency) v
    go p is old (inl new) = (shows_with table.Dependency pair_values pair_shows change.added _ v).1 (inl (p, new, is))
    go p is old (inr lacks) = (shows_with table.Dependency pair_values pair_shows change.added _ v).1 (inr
        ((shows_without table.Dependency pair_values (standing pairs change.added)
        (without_each table.Dependency pair_values change.removed all) v).1 (
          stays p is old,
          λ q has. subst (λ w. matched table.Dependency (pair_values q) w ≡ false) (sym is)
              (pair_apart (standing pairs change.added) p
              (λ there. lacks (contains_filter (is_among pairs) change.added p there).0) q has),
        )))

    back : (p : Pair) → v ≡ pair_values p → Contains pairs p × (Contains change.removed p → ⊥)
        → Shows table.Dependency (pairs_moved pairs change all table.Dependency) v
    back p is old = go p is old (among change.added p)

-- ---- links

pub link_itself : (l : Link) → matched table.LinkInForce (link_key l) (link_values l) ≡ true
link_itself l = and_from _ _ (text_itself l.app l.app refl) (and_from _ _
    (text_itself l.predecessor l.predecessor refl) refl)

pub link_shows : (l : Link) (rows : List Values)
    → shown table.LinkInForce (with_rowid Chosen rows (stored table.LinkInForce (link_values l))) ≡ link_values l
link_shows l rows = refl

-- a key tells the names, and not the limit
links_told : (l m : Link) → matched table.LinkInForce (link_key l) (link_values m) ≡ true → HaveSameNames l m
links_told l m h =
    let k = and_parts (same_cell (Text m.app) (Text l.app)) _ h in
    let n = and_parts (same_cell (Text m.predecessor) (Text l.predecessor)) _ k.1 in
    let a : l.app ≡ m.app = sym (one_text m.app l.app k.0) in
    let b : l.predecessor ≡ m.predecessor = sym (one_text m.predecessor l.predecessor n.0) in
    (a, b)

abbrev pub lacked_by : List Link → Link → Bool
lacked_by links l = not (holds_link links l)

-- it is one of the links with its limit, or one of those that these lack
pub link_among : (links : List Link) (l : Link) → Contains links l ⊎ (lacked_by links l ≡ true)
link_among links l = go (holds_link links l) refl
  where
    go : (b : Bool) → holds_link links l ≡ b → Contains links l ⊎ (lacked_by links l ≡ true)
    go true e = inl ((holds_link-Decides links l).0 e)
    go false e = inr (ap not e)

pub link_lacks : (links : List Link) (l : Link) → lacked_by links l ≡ true → Contains links l → ⊥
link_lacks links l e has = false≢true (sym (not-true _ e) ∙ (holds_link-Decides links l).1 has)

pub links_shown : (old new : List Link) → IsRising link_cmp old → (all : Tables)
    → ((v : Values) → Shows table.LinkInForce (all table.LinkInForce) v ↔ IsOfList link_values old v) → (v : Values)
    → Shows table.LinkInForce (links_replaced old new all table.LinkInForce) v ↔ IsOfList link_values new v
links_shown old new rising all held v = (
  (λ there. elim ((shows_with table.LinkInForce link_values link_shows (beside old new) _ v).0 there) [
    | inl come ↦ (come.0, (contains_filter (lacked_by old) new come.0 come.1).0, come.2)
    | inr stood ↦
        let k = (shows_without table.LinkInForce link_key (beside new old) all v).0 stood in
        let (l, has, is) = (held v).0 k.0 in
        (l, stays l has is k.1, is)
  ]),
  λ fact.
      let (l, has, is) = fact in
      (shows_with table.LinkInForce link_values link_shows (beside old new) _ v).1 (elim (link_among old l) [
        | inl stood ↦ inr ((shows_without table.LinkInForce link_key (beside new old) all v).1 (
          (held v).1 (l, stood, is),
          λ m gone. false_from_ne_true _ (λ hit.
              let was = contains_filter (lacked_by new) old m gone in
              let same : m ≡ l = named_once old rising m l was.0 stood
              (links_told m l (subst (λ w. matched table.LinkInForce (link_key m) w ≡ true) is hit)) in
              link_lacks new m was.1 (subst (Contains new) (sym same) has)),
        ))
        | inr lacks ↦ inl (l, filter_contains (lacked_by old) new l has lacks, is)
      ]),
)
  where
    stays : (l : Link) → Contains old l → v ≡ link_values l
        → ((m : Link) → Contains (beside new old) m → matched table.LinkInForce (link_key m) v ≡ false)
        → Contains new l
    stays l has is none = elim (link_among new l) [
      | inl there ↦ there
      | inr lacks ↦ absurd (false≢true (sym (none l (filter_contains (lacked_by new) old l has lacks))
          ∙ ap (matched table.LinkInForce (link_key l)) is ∙ link_itself l))
    ]

-- ---- a job

job_shows : (j : Job) (rows : List Values) → shown table.Job (with_rowid Chosen rows (stored table.Job
    (job_values j))) ≡ job_values j
job_shows j rows = refl

pub job_shown : (job : Job) (jobs : ℕ → Option Job) (all : Tables) → jobs job.number ≡ None
    → ((v : Values) → Shows table.Job (all table.Job) v ↔ IsOfSet job_values jobs v) → (v : Values)
    → Shows table.Job (job_put job all table.Job) v ↔ IsOfSet job_values (jobs_after (Some job) jobs) v
job_shown job jobs all new held v = (forth, back)
  where
    other : (n : ℕ) (j : Job) → jobs n ≡ Some j → nat_eq job.number n ≡ false
    other n j at = false_from_ne_true _ (λ e.
        none_some (jobs job.number) j new (ap jobs (eqb-true job.number n e) ∙ at))

    forth : Shows table.Job (job_put job all table.Job) v → IsOfSet job_values (jobs_after (Some job) jobs) v
    forth there = elim ((shows_cells table.Job job_values job_shows job all v).0 there) [
      | inl is ↦ (
        job.number,
        job,
        ap (λ b. cond b (Some job) (jobs job.number))
            (eq-eqb job.number job.number refl),
        sym is,
      )
      | inr old ↦
          let (n, j, at, is) = (held v).0 old in
          (n, j, ap (λ b. cond b (Some job) (jobs n)) (other n j at) ∙ at, is)
    ]

    go : (n : ℕ) (j : Job) → v ≡ job_values j → (b : Bool) → cond b (Some job) (jobs n) ≡ Some j
        → (job_values job ≡ v) ⊎ Shows table.Job (all table.Job) v
    go n j is true e = inl (ap job_values (same_some job j e) ∙ sym is)
    go n j is false e = inr ((held v).1 (n, j, e, is))

    back : IsOfSet job_values (jobs_after (Some job) jobs) v → Shows table.Job (job_put job all table.Job) v
    back (n, j, e, is) = (shows_cells table.Job job_values job_shows job all v).1 (go n j is (nat_eq job.number n) e)

-- ---- how far the plans reach

pub meta_shows : (bounds : Option Bounds) (issued : ℕ) (options : Options) (rows : List Values)
    → shown table.Meta (with_rowid Chosen rows (stored table.Meta
    (meta_values bounds issued options))) ≡ meta_values bounds issued options
meta_shows None issued options rows = refl
meta_shows (Some b) issued options rows = refl

pub meta_key : (bounds : Option Bounds) (issued : ℕ) (options : Options)
    → matched table.Meta (natural 1 ∷ []) (meta_values bounds issued options) ≡ true
meta_key bounds issued options = and_from _ _ (natural_itself 1 1 refl) refl

pub meta_shown : (bounds : Option Bounds) (issued : ℕ) (options : Options) (was : Values) (all : Tables)
    → matched table.Meta (natural 1 ∷ []) was ≡ true
    → ((v : Values) → Shows table.Meta (all table.Meta) v ↔ (v ≡ was)) → (v : Values)
    → Shows table.Meta (meta_told bounds issued options all table.Meta) v ↔ (v ≡ meta_values bounds issued options)
meta_shown bounds issued options was all key held v = (
  (λ there. elim ((shows_cells table.Meta (λ (u : Unit {0}). meta_values bounds issued options)
      (λ u rows. meta_shows bounds issued options rows) tt
      (without_key table.Meta (natural 1 ∷ []) all) v).0 there) [
        | inl is ↦ sym is
        | inr old ↦
            let k = (shows_without table.Meta (λ (u : Unit {0}). natural 1 ∷ []) (tt ∷ []) all v).0 old in
            absurd (false≢true (sym (k.1 tt (contains_first tt []))
            ∙ ap (matched table.Meta (natural 1 ∷ [])) ((held v).0 k.0) ∙ key))
      ]),
  λ is. (shows_cells table.Meta (λ (u : Unit {0}). meta_values bounds issued options)
      (λ u rows. meta_shows bounds issued options rows) tt
      (without_key table.Meta (natural 1 ∷ []) all) v).1 (inl (sym is)),
)
