-- Rows that are inserted several at a time.
use Rattle.std.proofs.Common.{◌≡◌, ◌<◌, ◌+◌, ◌*◌, ◌∙◌, ℕ, inl, List, [], ◌∷◌, ◌++◌, drop, get_or, length, map, Result, Ok, arith, refl, sym, ap, subst}
use Rattle.std.specs.List.{AllByRecursion, flat_map}
use Rattle.std.proofs.lemmas.List.{drop_all}
use Rattle.std.proofs.lemmas.List.Sums.{fold-append}
use Rattle.sqlite.specs.Order.{Row as Values}
use Rattle.sqlite.specs.State.{State, Survives}
use Rattle.sqlite.specs.Store.{Ghosts}
use Rattle.sqlite.specs.declared.error.Error.{Error}
use Rattle.sqlite.specs.declared.transaction.Transaction.{Transaction}
use Rattle.plan_tables_schema.specs.Accepted.{AcceptsInTurn, AcceptsSeveral}
use Rattle.plan_tables_schema.specs.Cells.{column_names, rows_at_once, rows_given}
use Rattle.plan_tables_schema.specs.Rows.{AreOfKinds, Tables, with_cells, with_several}
use Rattle.plan_tables_schema.specs.Writes.{AcceptsWhere, WritesWhere, seen}
use Rattle.plan_tables_schema.specs.declared.tables.Table.{Table}
use Rattle.plan_tables_schema.proofs.InTurn.{cut}
use Rattle.plan_tables_writing.specs.Accepted.{AcceptsEach, WritesAccepted}
use Rattle.plan_tables_writing.specs.Writing.{AreStorable, with_each}
use Rattle.plan_tables_writing.proofs.TakingLemmas.{takes_weaker, writes_then, writes_weaker}

-- ---- the facts of a slice, one by one

module _ {X : Type 0} (xs : List X) where
  -- the next of them, and then the rest
  next_is : (i : ℕ) (x : X) (rest : List X) → i < length xs → x ≡ get_or xs i x → drop (i + 1) xs ≡ rest
      → drop i xs ≡ x ∷ rest
  next_is i x rest low is then = cut xs i x low is ∙ ap (λ l. x ∷ l) then

  pub three_are : (a b c : X) → length xs ≡ 3 → a ≡ get_or xs 0 a → b ≡ get_or xs 1 b → c ≡ get_or xs 2 c
      → xs ≡ a ∷ b ∷ c ∷ []
  three_are a b c all is_a is_b is_c = next_is 0 a _ (omega arith) is_a (next_is 1 b _ (omega arith) is_b
      (next_is 2 c _ (omega arith) is_c (drop_all 3 xs (omega arith))))

  pub nine_are : (a b c d e f g h i : X) → length xs ≡ 9 → a ≡ get_or xs 0 a → b ≡ get_or xs 1 b → c ≡ get_or xs 2 c
      → d ≡ get_or xs 3 d → e ≡ get_or xs 4 e → f ≡ get_or xs 5 f → g ≡ get_or xs 6 g → h ≡ get_or xs 7 h
      → i ≡ get_or xs 8 i → xs ≡ a ∷ b ∷ c ∷ d ∷ e ∷ f ∷ g ∷ h ∷ i ∷ []
  nine_are a b c d e f g h i all is_a is_b is_c is_d is_e is_f is_g is_h is_i =
      next_is 0 a _ (omega arith) is_a (next_is 1 b _ (omega arith) is_b (next_is 2 c _ (omega arith) is_c
      (next_is 3 d _ (omega arith) is_d (next_is 4 e _ (omega arith) is_e (next_is 5 f _ (omega arith) is_f
      (next_is 6 g _ (omega arith) is_g (next_is 7 h _ (omega arith) is_h (next_is 8 i _ (omega arith) is_i
      (drop_all 9 xs (omega arith))))))))))

-- ---- by one statement

module _ {X : Type 0} (t : Table) (values_of : X → Values) where
  each_is : (xs : List X) (all : Tables) → with_several t (map values_of xs) all ≡ with_each t values_of xs all
  each_is [] all = refl
  each_is (x ∷ xs) all = each_is xs (with_cells t (values_of x) all)

  each_accepted : (xs : List X) (all : Tables) → AcceptsEach t values_of xs all → AcceptsInTurn t (map values_of xs) all
  each_accepted [] all h = tt
  each_accepted (x ∷ xs) all h = (h.0, each_accepted xs (with_cells t (values_of x) all) h.1)

  each_of_kinds : AreStorable t values_of → (xs : List X) → AllByRecursion (AreOfKinds t) (map values_of xs)
  each_of_kinds fits [] = tt
  each_of_kinds fits (x ∷ xs) = (fits x, each_of_kinds fits xs)

-- the rows of facts are inserted by values that were handed over, if those are the values of the facts
pub several_by : {S X : Type 0} (g : Ghosts S) (old new : Transaction S) (result : Result (Unit {0}) Error)
    (table t : Table) (given : Values) (values_of : X → Values) (facts some : List X) → table ≡ t → facts ≡ some
    → given ≡ flat_map values_of some → rows_given t (flat_map values_of some) ≡ map values_of some
    → length given ≡ rows_at_once t * length (column_names t)
    → WritesWhere (λ _. AllByRecursion (AreOfKinds t) (rows_given t given)) g old new result
    (with_several t (rows_given t given))
    → AcceptsWhere (AcceptsSeveral t given) g old new result (with_several t (rows_given t given))
    → WritesAccepted (λ _. AreStorable table values_of) (AcceptsEach table values_of facts) g old new result
    (with_each table values_of facts)
several_by {X = X} g old new result table t given values_of facts some same facts_are is told whole writes accepts =
    subst (λ (u : Table). WritesAccepted (λ _. AreStorable u values_of) (AcceptsEach u values_of facts) g old new result
    (with_each u values_of facts)) (sym same) (subst (λ (xs : List X). WritesAccepted (λ _. AreStorable t values_of)
    (AcceptsEach t values_of xs) g old new result (with_each t values_of xs)) (sym facts_are)
    (subst (λ f. WritesAccepted (λ _. AreStorable t values_of) (AcceptsEach t values_of some) g old new result f) made
    (record {
      same_reference = writes.same_reference;
      ok = λ clean plan mode fits. writes.ok clean plan mode
          (subst (AllByRecursion (AreOfKinds t)) (sym rows) (each_of_kinds t values_of fits some));
      kept = writes.kept;
      survives = writes.survives;
      accepts = takes_weaker g (AcceptsSeveral t given) (AcceptsEach t values_of some)
          (with_several t (rows_given t given)) old new result (λ all h. (
            whole,
            subst (λ rs. AcceptsInTurn t rs all) (sym rows) (each_accepted t values_of some all h),
          )) accepts;
    })))
  where
    rows : rows_given t given ≡ map values_of some
    rows = ap (rows_given t) is ∙ told

    made : with_several t (rows_given t given) ≡ with_each t values_of some
    made = ap (with_several t) rows ∙ (λ i all. each_is t values_of some all i)

-- ---- one statement after another

all_hold : {X : Type 0} (P : X → Type 0) → ((x : X) → P x) → (xs : List X) → AllByRecursion P xs
all_hold P holds [] = tt
all_hold P holds (x ∷ xs) = (holds x, all_hold P holds xs)

unasked : (s : State) → Survives s s (λ _. ⊥)
unasked s = record {
  clean = omega arith;
  shield = λ h. h;
  counts = omega arith;
  limit = refl;
  closes = λ _ opens. inl opens;
  crash = λ _ _ left. inl left;
}

module _ {S X : Type 0} (g : Ghosts S) (t : Table) (values_of : X → Values) where
  abbrev pub PutsEach : {T : Type 0} → List X → (old new : Transaction S) → Result T Error → Type 0
  PutsEach xs old new result = WritesAccepted (λ _. AreStorable t values_of) (AcceptsEach t values_of xs) g old new result
      (with_each t values_of xs)

  pub none_put : (tx : Transaction S) → PutsEach {T = Unit {0}} [] tx tx (Ok tt)
  none_put tx = record {
    same_reference = refl;
    ok = λ clean plan mode fits. record {
      plan = plan;
      schema = refl;
      same = λ u. refl;
      others = all_hold _ (λ d away. refl) _;
      obeys = λ h. h;
      rows_are = refl;
      committed = refl;
      mode = mode;
    };
    kept = λ clean. record { was_open = λ o. o; committed = λ o. refl };
    survives = unasked (seen g tx);
    accepts = record { fails = λ clean sound h. tt; sound = λ clean sound h. (sound, (λ o. o), refl) };
  }

  pub accepts_both : (xs ys : List X) (all : Tables) → AcceptsEach t values_of (xs ++ ys) all
      → AcceptsEach t values_of xs all × AcceptsEach t values_of ys (with_each t values_of xs all)
  accepts_both [] ys all h = (tt, h)
  accepts_both (x ∷ xs) ys all h =
      let more = accepts_both xs ys (with_cells t (values_of x) all) h.1 in ((h.0, more.0), more.1)

  pub put_more : {T U : Type 0} {v : T} {old mid new : Transaction S} (xs ys : List X) (r : Result U Error)
      → PutsEach xs old mid (Ok v) → PutsEach ys mid new r → PutsEach (xs ++ ys) old new r
  put_more {old = old} {new = new} xs ys r first second =
      subst (λ f. WritesAccepted (λ _. AreStorable t values_of) (AcceptsEach t values_of (xs ++ ys)) g old new r f) made
      (writes_weaker g _ _ _ _ _ old new r (λ all fits. (fits, fits)) (λ all h. accepts_both xs ys all h)
      (writes_then first second))
    where
      made : (λ all. with_each t values_of ys (with_each t values_of xs all)) ≡ with_each t values_of (xs ++ ys)
      made = λ i all. sym (fold-append (λ (now : Tables) x. with_cells t (values_of x) now) all xs ys) i
