-- What an answer to a question shows.
use Rattle.std.proofs.Common.{◌≡◌, ◌∙◌, ℕ, ◌<◌, ◌+◌, Bool, true, false, cond, List, [], ◌∷◌, ◌++◌, length, map}
use Rattle.std.proofs.Common.{filter, flat_map, take, drop, get_or, refl, sym, ap, subst, arith, pos, negsuc, All}
use Rattle.std.specs.List.{AllByRecursion, list_all}
use Rattle.std.specs.List.Sorted.{IsPermutation, IsSorted}
use Rattle.std.specs.Ordering.{is_lt}
use Rattle.std.proofs.lemmas.List.{get_or-map, length-map}
use Rattle.std.proofs.lemmas.List.Elements.{All-from_recursion}
use Rattle.std.proofs.lemmas.List.Sorted.{All-permutation, IsPermutation-map}
use Rattle.sqlite.specs.Order.{Row}
use Rattle.sqlite.specs.Program.{overlay}
use Rattle.sqlite.specs.Query.{IsAnswer, Output, Query, as_count, key_cmp, limited, output, output_cmp}
use Rattle.sqlite.specs.Term.{Env, eval_all, holds}
use Rattle.sqlite.specs.Tree.{Trees}
use Rattle.sqlite.specs.declared.types.Value.TheVariants.{Int}
use Rattle.sqlite_keyed.proofs.ListLemmas.{map-map}
use Rattle.plan_tables_lookups.specs.Looks.{question}
use Rattle.plan_tables_lookups.specs.Question.{Answers, Question, order_cmp, order_keys, order_values, passes}
use Rattle.plan_tables_lookups.specs.declared.looks.Look.{Look}
use Rattle.plan_tables_lookups.specs.declared.looks.Look.TheVariants.{InHistory, Whole}
use Rattle.plan_tables_lookups.proofs.LookFits.{placed, query_to, tested}
use Rattle.plan_tables_lookups.proofs.QuestionMeanings.{test_term}
use Rattle.plan_tables_lookups.proofs.SortMeanings.{sort_term}
use Rattle.plan_tables_schema.specs.Cells.{select_terms}
use Rattle.plan_tables_schema.specs.Rows.{Tables, shown}
use Rattle.plan_tables_schema.specs.declared.tables.Table.TheVariants.{Meta}

pub staged_is : (p : Row → Bool) (e : Row → Env) (xs : List Row) → flat_map (λ r. cond (p r) (e r ∷ []) []) xs ≡ map e
    (filter p xs)
staged_is p e [] = refl
staged_is p e (x ∷ xs) = go (p x) (staged_is p e xs)
  where
    go : (b : Bool) → flat_map (λ r. cond (p r) (e r ∷ []) []) xs ≡ map e (filter p xs)
        → cond b (e x ∷ []) [] ++ flat_map (λ r. cond (p r) (e r ∷ []) []) xs ≡ map e (cond b (x ∷ filter p xs)
        (filter p xs))
    go true h = ap (λ l. e x ∷ l) h
    go false h = h

filter_map : (f : Row → Row) (p q : Row → Bool) → ((r : Row) → q r ≡ p (f r)) → (xs : List Row)
    → map f (filter q xs) ≡ filter p (map f xs)
filter_map f p q same [] = refl
filter_map f p q same (x ∷ xs) = go (q x) (p (f x)) (same x) (filter_map f p q same xs)
  where
    go : (a b : Bool) → a ≡ b → map f (filter q xs) ≡ filter p (map f xs)
        → map f (cond a (x ∷ filter q xs) (filter q xs)) ≡ cond b (f x ∷ filter p (map f xs)) (filter p (map f xs))
    go true true e h = ap (λ l. f x ∷ l) h
    go false false e h = h
    go true false e h = absurd (let k = e in cc)
    go false true e h = absurd (let k = e in cc)

-- ---- of a row: what is asked with is not shown, and tests and orders are of what is shown

abbrev tests_hold : Question → Row → Row → Bool
tests_hold q asked r = list_all (holds (asked ∷ r ∷ [])) (map (test_term (tested q)) q.tests)

passes_shown : (look : Look) (asked r : Row)
    → tests_hold (question look) asked r ≡ passes (question look) asked (shown (question look).table r)
passes_shown InHistory asked r = refl
passes_shown look asked r = refl

shown_same : (look : Look) (asked r : Row)
    → eval_all (select_terms (question look).table) (asked ∷ r ∷ []) ≡ shown (question look).table r
shown_same InHistory asked r = refl
shown_same (Whole Meta) asked r = refl
shown_same look asked r = refl

sorts_shown : (look : Look) (asked r : Row)
    → eval_all (map (λ k. k.0) (map (sort_term (placed (question look))) (question look).order)) (asked ∷ r ∷ [])
    ≡ order_values (question look) (eval_all (select_terms (question look).table) (asked ∷ r ∷ []))
sorts_shown InHistory asked r = refl
sorts_shown look asked r = refl

keys_are : (look : Look) → map (λ k. k.1) (map (sort_term (placed (question look))) (question look).order)
    ≡ order_keys (question look)
keys_are InHistory = refl
keys_are look = refl

page_is : (b : Bool) (rows : List Row)
    → limited (as_count (Int (cond b (pos 1) (negsuc 0)))) (drop 0 rows) ≡ cond b (take 1 rows) rows
page_is true rows = refl
page_is false rows = refl

-- ---- of all rows

module _ (tree : ℕ) (look : Look) (asked : Row) where
  abbrev q : Question
  q = question look

  abbrev query : Query
  query = query_to tree q

  abbrev second : Output → Row
  second o = o.1

  -- it is put in order by what it shows
  abbrev IsByShown : Output → Type 0
  IsByShown o = o.0 ≡ order_values q o.1

  by_shown : (rows : List Row) → AllByRecursion IsByShown (map (λ r. output query (asked ∷ r ∷ [])) rows)
  by_shown [] = tt
  by_shown (r ∷ rs) = (sorts_shown look asked r, by_shown rs)

  same_order : (a b : Output) → IsByShown a → IsByShown b → is_lt (output_cmp query a b) ≡ is_lt (order_cmp q a.1 b.1)
  same_order a b is_a is_b = λ i. is_lt (key_cmp 0 (keys_are look i) (is_a i) (is_b i))

  sorted_by : (ordered : List Output) → All IsByShown ordered → IsSorted (output_cmp query) ordered
      → IsSorted (order_cmp q) (map second ordered)
  sorted_by ordered by sorted k d low within =
      let long = length-map ordered second in
      let e : Output = ([], d) in
      let inside : k + 1 < length ordered = omega (arith, within, long) in
      let here = get_or-map second ordered k e d (omega (arith, inside)) in
      let next = get_or-map second ordered (k + 1) e d inside in
      (λ i. is_lt (order_cmp q (next i) (here i)))
      ∙ sym (same_order (get_or ordered (k + 1) e) (get_or ordered k e) (by (k + 1) e inside)
      (by k e (omega (arith, inside))))
      ∙ sorted k e low inside

  pub answer_is : (db : Trees) (all : Tables) (rows : List Row) → overlay db [] tree ≡ db tree → all q.table ≡ db tree
      → IsAnswer query (overlay db []) asked rows → Answers q asked all rows
  answer_is db all rows own told a =
      let e = λ (r : Row). asked ∷ r ∷ [] in
      let p = tests_hold q asked in
      let passing = filter p (db tree) in
      let staged : a.staged ≡ map e passing = a.grouped ∙ staged_is p e (overlay db [] tree)
      ∙ ap (λ xs. map e (filter p xs)) own in
      let kept : a.kept ≡ map (λ r. output query (e r)) passing = a.distinct ∙ ap (map (output query)) staged
      ∙ map-map (output query) e passing in
      let same = subst (λ xs. IsPermutation xs a.ordered) kept a.same in
      let by = All-permutation IsByShown _ a.ordered same (All-from_recursion IsByShown _ (by_shown passing)) in
      let outs = map-map second (λ r. output query (e r)) passing in
      let shows : map (λ r. eval_all (select_terms q.table) (e r)) passing ≡ map (shown q.table) passing =
      λ i. map (λ r. shown_same look asked r i) passing in
      let asks : map (shown q.table) passing ≡ filter (passes q asked) (map (shown q.table) (all q.table)) =
      filter_map (shown q.table) (passes q asked) p (passes_shown look asked) (db tree)
      ∙ ap (λ xs. filter (passes q asked) (map (shown q.table) xs)) (sym told) in
      record {
        ordered = map second a.ordered;
        same = subst (λ xs. IsPermutation xs (map second a.ordered)) (outs ∙ shows ∙ asks)
            (IsPermutation-map second _ a.ordered same);
        sorted = sorted_by a.ordered by a.sorted;
        is = a.shown ∙ page_is q.is_one (map second a.ordered);
      }
