-- What stood under the names of definitions, and how it is put back.
use Rattle.std.proofs.Common.{◌≡◌, ◌∙◌, sym, ap, subst, refl, append_assoc, ℕ, List, [], ◌∷◌, ◌++◌, Bool, true, false}
use Rattle.std.proofs.Common.{cond, Option, Some, None, nat_eq}
use Rattle.std.proofs.lemmas.List.{append-nil}
use Rattle.std.proofs.lemmas.Bool.{false≢true}
use Rattle.std.specs.Prelude.{IsSome, unwrap_or, map as list_map}
use Rattle.std.specs.Option.{option_map, option_or}
use Rattle.std.specs.Ordering.{nat_cmp, eq_by_cmp}
use Rattle.std.specs.Cmp.Lexicographic.{pointwise, slice_cmp, nat_list_cmp_total, texts_ties}
use Rattle.std.specs.FinMap as map
use Rattle.std.specs.FinMap.{find, get-from_entries}
use Rattle.std.specs.List.{IsDistinct}
use Rattle.std.specs.Map.{lookup, keys_of}
use Rattle.app_definition_records.specs.ByName.{AllStand, AreEntriesOf, overlaid, replaced, restored, with_each, with_one}
use Rattle.app_definition_records.proofs.ByNameLemmas.{Definitions, get-view_of, view_of, get-inserted, get-overlaid}
use Rattle.app_definition_records.proofs.ByNameLemmas.{get-removed, lookup-absent, name_itself, name_sym, same_by_name}
use Rattle.app_definition_records.proofs.ByNameLemmas.{same_name}

-- ---- what is found

-- what was noted is found, else what is there
pub get-with_one : {D : Type 0} (m : Definitions D) (k : List ℕ) (o : Option D) (q : List ℕ)
    → map.get (with_one k o m) q ≡ cond (pointwise nat_eq k q) o (map.get m q)
get-with_one m k None q = get-removed m k q
get-with_one m k (Some d) q = get-inserted m k d q

get-with_each : {D : Type 0} (es : List (List ℕ × Option D)) (m : Definitions D) (q : List ℕ)
    → map.get (with_each es m) q ≡ unwrap_or (find (slice_cmp nat_cmp) q es) (map.get m q)
get-with_each [] m q = refl
get-with_each (e ∷ es) m q =
    get-with_one (with_each es m) e.0 e.1 q
    ∙ (rw (get-with_each es m q, name_sym e.0 q, texts_ties q e.0) (by_case (eq_by_cmp (slice_cmp nat_cmp) q e.0)))
  where
    by_case : (b : Bool) → cond b e.1 (unwrap_or (find (slice_cmp nat_cmp) q es) (map.get m q))
        ≡ unwrap_or (cond b (Some e.1) (find (slice_cmp nat_cmp) q es)) (map.get m q)
    by_case true = refl
    by_case false = refl

pub get-restored : {D : Type 0} (was : Definitions (Option D)) (m : Definitions D) (q : List ℕ)
    → map.get (restored was m) q ≡ unwrap_or (map.get was q) (map.get m q)
get-restored was m q = get-with_each (map.entries was) m q
    ∙ ap (λ o. unwrap_or o (map.get m q)) (sym (map.get-entries was q))

find-noted : {D : Type 0} (old : Definitions D) (es : List (List ℕ × D)) (q : List ℕ)
    → find (slice_cmp nat_cmp) q (list_map (λ e. (e.0, map.get old e.0)) es)
    ≡ option_map (λ _. map.get old q) (find (slice_cmp nat_cmp) q es)
find-noted old [] q = refl
find-noted {D} old (e ∷ es) q =
    by_case (eq_by_cmp (slice_cmp nat_cmp) q e.0) (texts_ties q e.0) _ _ (find-noted old es q)
  where
    by_case : (b : Bool) → pointwise nat_eq q e.0 ≡ b → (noted : Option (Option D)) (found : Option D)
        → noted ≡ option_map (λ _. map.get old q) found
        → cond b (Some (map.get old e.0)) noted ≡ option_map (λ _. map.get old q) (cond b (Some e.1) found)
    by_case true is noted found rest = ap (λ n. Some (map.get old n)) (sym (same_name q e.0 is))
    by_case false is noted found rest = rest

-- of each name of `more` what stands in `old` is noted, and of no other
pub get-replaced : {D : Type 0} (old more : Definitions D) (q : List ℕ)
    → map.get (replaced old more) q ≡ option_map (λ _. map.get old q) (map.get more q)
get-replaced old more q =
    get-from_entries nat_list_cmp_total (list_map (λ e. (e.0, map.get old e.0)) (map.entries more)) q
    ∙ find-noted old (map.entries more) q
    ∙ ap (option_map (λ _. map.get old q)) (sym (map.get-entries more q))

-- ---- what was taken in is taken back

pub taken_back : {D : Type 0} (old more : Definitions D) → restored (replaced old more) (overlaid old more) ≡ old
taken_back {D} old more = same_by_name _ _ (λ q.
    get-restored (replaced old more) (overlaid old more) q
    ∙ (rw (get-replaced old more q, get-overlaid old more q) (by_case (map.get more q) (map.get old q))))
  where
    by_case : (brought was : Option D)
        → unwrap_or (option_map (λ _. was) brought) (option_or brought was) ≡ was
    by_case None was = refl
    by_case (Some d) was = refl

-- and each name of which something was noted has a definition until then
pub all_stand : {D : Type 0} (old more : Definitions D) → AllStand (replaced old more) (overlaid old more)
all_stand {D} old more q noted =
    rw (get-overlaid old more q) (by_case (map.get more q) (rw (get-replaced old more q) at noted))
  where
    by_case : (brought : Option D) → IsSome (option_map (λ _. map.get old q) brought)
        → IsSome (option_or brought (map.get old q))
    by_case None none = absurd (false≢true none)
    by_case (Some d) is = refl

-- ---- noting, name after name

-- of the names before those that are left what stood is noted
pub record AreNoted {D : Type 0} (old more : Definitions D) (rest : List (List ℕ × D)) (was : Definitions (Option D))
    : Type 0 where
  pub done : List (List ℕ × D)
  pub are : AreEntriesOf (done ++ rest) more
  pub noted : (q : List ℕ) → map.get was q ≡ option_map (λ _. map.get old q) (lookup (pointwise nat_eq q) done)

pub noted_none : {D : Type 0} (old more : Definitions D) (es : List (List ℕ × D)) (was : Definitions (Option D))
    → AreEntriesOf es more → was ≡ map.empty → AreNoted old more es was
noted_none old more es was are none = record {
  done = [];
  are = are;
  noted = λ q. ap (λ m. map.get m q) none ∙ map.get-empty (slice_cmp nat_cmp) q;
}

lookup-push : {D : Type 0} (q k : List ℕ) (es : List (List ℕ × D)) (d : D)
    → lookup (pointwise nat_eq q) (es ++ (k, d) ∷ [])
    ≡ option_or (lookup (pointwise nat_eq q) es) (cond (pointwise nat_eq q k) (Some d) None)
lookup-push q k [] d = refl
lookup-push {D} q k (e ∷ es) d = by_case (pointwise nat_eq q e.0) _ _ _ (lookup-push q k es d)
  where
    by_case : (b : Bool) (new old last : Option D) → new ≡ option_or old last
        → cond b (Some e.1) new ≡ option_or (cond b (Some e.1) old) last
    by_case true new old last is = refl
    by_case false new old last is = is

pub noted_more : {D : Type 0} (old more : Definitions D) (it rest : List (List ℕ × D)) (k : List ℕ) (d : D)
    (was new : Definitions (Option D)) (o : Option D)
    → AreNoted old more it was → it ≡ (k, d) ∷ rest → o ≡ map.get old k → new ≡ map.insert was k o
    → AreNoted old more rest new
noted_more {D} old more it rest k d was new o so_far steps stood put = record {
  done = so_far.done ++ (k, d) ∷ [];
  are = subst (λ l. AreEntriesOf l more) (ap (λ l. so_far.done ++ l) steps
      ∙ sym (append_assoc so_far.done ((k, d) ∷ []) rest)) so_far.are;
  noted = λ q. ap (λ m. map.get m q) put ∙ get-inserted was k o q
      ∙ (rw (name_sym k q, lookup-push q k so_far.done d, so_far.noted q)
      (by_case q (pointwise nat_eq q k) refl (lookup (pointwise nat_eq q) so_far.done)));
}
  where
    by_case : (q : List ℕ) (b : Bool) → pointwise nat_eq q k ≡ b → (found : Option D)
        → cond b (Some o) (option_map (λ _. map.get old q) found)
        ≡ option_map (λ _. map.get old q) (option_or found (cond b (Some d) None))
    by_case q true is None = ap Some (stood ∙ ap (map.get old) (sym (same_name q k is)))
    by_case q true is (Some x) = ap Some (stood ∙ ap (map.get old) (sym (same_name q k is)))
    by_case q false is None = refl
    by_case q false is (Some x) = refl

pub noted_all : {D : Type 0} (old more : Definitions D) (it : List (List ℕ × D)) (was : Definitions (Option D))
    → AreNoted old more it was → it ≡ [] → was ≡ replaced old more
noted_all old more it was so_far none =
    let all : AreEntriesOf so_far.done more = subst (λ l. AreEntriesOf l more)
    (ap (λ l. so_far.done ++ l) none ∙ append-nil so_far.done) so_far.are in
    same_by_name was (replaced old more) (λ q. so_far.noted q
    ∙ ap (option_map (λ _. map.get old q)) (sym (get-view_of so_far.done q) ∙ ap (λ m. map.get m q) all.are)
    ∙ sym (get-replaced old more q))

-- ---- putting back, name after name

-- what is left to be put back makes of the definitions what all that was noted made of those at first; each name that
-- is left has a definition, and stands there once
pub record AreToPutBack {D : Type 0} (was : Definitions (Option D)) (first : Definitions D)
    (rest : List (List ℕ × Option D)) (now : Definitions D) : Type 0 where
  pub goal : (q : List ℕ) → unwrap_or (lookup (pointwise nat_eq q) rest) (map.get now q)
      ≡ unwrap_or (map.get was q) (map.get first q)
  pub own_names : IsDistinct (pointwise nat_eq) (keys_of rest)
  pub stand : (q : List ℕ) → IsSome (lookup (pointwise nat_eq q) rest) → IsSome (map.get now q)

pub back_all : {D : Type 0} (was : Definitions (Option D)) (first : Definitions D) (es it : List (List ℕ × Option D))
    → view_of es ≡ was → it ≡ es → IsDistinct (pointwise nat_eq) (keys_of es) → AllStand was first
    → AreToPutBack was first it first
back_all was first es it are is own stand =
    let seen : (q : List ℕ) → lookup (pointwise nat_eq q) it ≡ map.get was q =
    λ q. ap (lookup (pointwise nat_eq q)) is ∙ sym (get-view_of es q) ∙ ap (λ m. map.get m q) are in
    record {
      goal = λ q. ap (λ o. unwrap_or o (map.get first q)) (seen q);
      own_names = subst (λ l. IsDistinct (pointwise nat_eq) (keys_of l)) (sym is) own;
      stand = λ q there. stand q (subst IsSome (seen q) there);
    }

-- the name that is next has a definition
pub back_stands : {D : Type 0} (was : Definitions (Option D)) (first now : Definitions D)
    (it rest : List (List ℕ × Option D)) (k : List ℕ) (o : Option D)
    → AreToPutBack was first it now → it ≡ (k, o) ∷ rest → IsSome (map.get now k)
back_stands was first now it rest k o left steps = left.stand k (rw (steps, name_itself k) refl)

pub back_more : {D : Type 0} (was : Definitions (Option D)) (first now new : Definitions D)
    (it rest : List (List ℕ × Option D)) (k : List ℕ) (o : Option D)
    → AreToPutBack was first it now → it ≡ (k, o) ∷ rest → new ≡ with_one k o now → AreToPutBack was first rest new
unfolding IsDistinct
back_more {D} was first now new it rest k o left steps put = record {
  goal = λ q. ap (unwrap_or (lookup (pointwise nat_eq q) rest)) (found q)
      ∙ goal_by q (pointwise nat_eq q k) refl ∙ ap (λ l. unwrap_or (lookup (pointwise nat_eq q) l) (map.get now q))
      (sym steps) ∙ left.goal q;
  own_names = own.1;
  stand = λ q there. subst IsSome (sym (found q)) (stand_by q (pointwise nat_eq q k) refl there);
}
  where
    own : IsDistinct (pointwise nat_eq) (keys_of ((k, o) ∷ rest))
    own = subst (λ l. IsDistinct (pointwise nat_eq) (keys_of l)) steps left.own_names

    found : (q : List ℕ) → map.get new q ≡ cond (pointwise nat_eq q k) o (map.get now q)
    found q = ap (λ m. map.get m q) put ∙ get-with_one now k o q
        ∙ ap (λ b. cond b o (map.get now q)) (name_sym k q)

    alone : (q : List ℕ) → pointwise nat_eq q k ≡ true → lookup (pointwise nat_eq q) rest ≡ None
    alone q is = rw (same_name q k is) (lookup-absent k rest own.0)

    goal_by : (q : List ℕ) (b : Bool) → pointwise nat_eq q k ≡ b
        → unwrap_or (lookup (pointwise nat_eq q) rest) (cond (pointwise nat_eq q k) o (map.get now q))
        ≡ unwrap_or (lookup (pointwise nat_eq q) ((k, o) ∷ rest)) (map.get now q)
    goal_by q true is = rw (is, alone q is) refl
    goal_by q false is = rw is refl

    stand_by : (q : List ℕ) (b : Bool) → pointwise nat_eq q k ≡ b → IsSome (lookup (pointwise nat_eq q) rest)
        → IsSome (cond (pointwise nat_eq q k) o (map.get now q))
    stand_by q true is there = absurd (false≢true (rw (alone q is) at there))
    stand_by q false is there = rw is (left.stand q (rw (steps, is) there))

-- nothing is left
pub back_none : {D : Type 0} (was : Definitions (Option D)) (first now : Definitions D)
    (it : List (List ℕ × Option D)) → AreToPutBack was first it now → it ≡ [] → now ≡ restored was first
back_none was first now it left none = same_by_name now (restored was first) (λ q.
    ap (λ l. unwrap_or (lookup (pointwise nat_eq q) l) (map.get now q)) (sym none) ∙ left.goal q
    ∙ sym (get-restored was first q))
