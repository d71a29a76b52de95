-- What has to be found out, as serials that are added step by step, and what is known then.
use Rattle.std.proofs.Common.{◌≡◌, ◌↔◌, ◌⊎◌, ◌+◌, ◌<◌, ◌∙◌, ◌++◌, ◌∷◌, ℕ, Bool, false, true, List, [], inl, inr, refl, ap, sym}
use Rattle.std.proofs.Common.{None, Option, Some, subst}
use Rattle.std.specs.Prelude.{◌||◌, is_some, nat_lt}
use Rattle.std.specs.List.{Contains}
use Rattle.std.proofs.lemmas.Bool.{false≢true, ltb-true}
use Rattle.std.proofs.lemmas.List.Elements.{Contains-append_left, Contains-push, Contains-push_cases}
use Rattle.occurrences.specs.declared.key.Key.{Key}
use Rattle.occurrences.specs.declared.row.Row.{Row}
use Rattle.external_dependencies.specs.declared.pairs.Pair.{Pair}
use Rattle.planner_machine.specs.Content.{Content}
use Rattle.planner_machine.specs.Sound.{IsSound}
use Rattle.plan_store_lists.specs.Rows.{of_current, of_row}
use Rattle.plan_store_lists.proofs.KeyLemmas.{nothing}
use Rattle.plan_store.specs.HistoryReads.{ReadsKey}
use Rattle.plan_store.specs.Parts.{HasBars, IsPartOf, Knows, KnowsDeletion, Rest, is_planned, with_rest}
use Rattle.plan_store.specs.declared.changes.Change.{Change}
use Rattle.plan_tables_windows.specs.Changes.{KnowsNamed, KnowsPairsOf}
use Rattle.plan_tables_windows.specs.Unknown.{AddsUnsettled, FindsOut, HasMore, IsNamed, IsNamedDeletion, IsPredecessorIn}
use Rattle.plan_tables_windows.specs.Unknown.{IsSerialIn}
use Rattle.plan_tables_windows.specs.Unknown.{IsPredecessorOf, IsPredecessorOfNew, IsPredecessorOfRow}
use Rattle.plan_tables_windows.specs.Unknown.{NamedByOne, is_elsewhere, is_settled, is_settled_deletion}
use Rattle.plan_tables_windows.specs.Windows.{HasLastsOf, KnowsLive}
use Rattle.plan_tables_windows.proofs.PartLemmas.{listed_deletion_known, listed_known, part_is, past_deletion_known, past_known}
use Rattle.plan_tables_windows.proofs.PartLemmas.{planned_deletion_known, planned_known}
use Rattle.plan_tables_windows.proofs.SoundLemmas.{own_sound, past_pairs}
use Rattle.plan_tables_windows.proofs.WindowLemmas.{live_has}

-- ---- serials that are added

module _ (settled : ℕ → Bool) where
  -- nothing is named
  pub adds_none : (Named : ℕ → Type 0) (serials : List ℕ) → ((serial : ℕ) → Named serial → settled serial ≡ true)
      → AddsUnsettled settled Named serials serials
  adds_none Named serials all = record {
    stay = λ serial there. there;
    come = λ serial there. inl there;
    found = λ serial named. inl (all serial named);
  }

  -- in other words
  pub adds_as : (P Q : ℕ → Type 0) (a b : List ℕ) → ((n : ℕ) → P n → Q n) → ((n : ℕ) → Q n → P n)
      → AddsUnsettled settled P a b → AddsUnsettled settled Q a b
  adds_as P Q a b to from adds = record {
    stay = adds.stay;
    come = λ n there. elim (adds.come n there) [
      | inl before ↦ inl before
      | inr new ↦ inr (to n new.0, new.1)
    ];
    found = λ n named. adds.found n (from n named);
  }

  -- one after the other
  pub adds_then : (P Q : ℕ → Type 0) (a b c : List ℕ) → AddsUnsettled settled P a b → AddsUnsettled settled Q b c
      → AddsUnsettled settled (λ n. P n ⊎ Q n) a c
  adds_then P Q a b c first second = record {
    stay = λ n there. second.stay n (first.stay n there);
    come = λ n there. elim (second.come n there) [
      | inl before ↦ elim (first.come n before) [
        | inl older ↦ inl older
        | inr one ↦ inr (inl one.0, one.1)
      ]
      | inr two ↦ inr (inr two.0, two.1)
    ];
    found = λ n named. elim named [
      | inl one ↦ elim (first.found n one) [ inl is ↦ inl is | inr there ↦ inr (second.stay n there) ]
      | inr two ↦ second.found n two
    ];
  }

  module _ {X : Type 0} (Names : X → ℕ → Type 0) where
    -- of no rows
    pub adds_begin : (serials : List ℕ) → AddsUnsettled settled (NamedByOne Names []) serials serials
    adds_begin serials = adds_none (NamedByOne Names []) serials (λ n (x, there, names). absurd (nothing x there))

    -- what one more names
    pub adds_more : (xs : List X) (x : X) (a b c : List ℕ) → AddsUnsettled settled (NamedByOne Names xs) a b
        → AddsUnsettled settled (Names x) b c → AddsUnsettled settled (NamedByOne Names (xs ++ x ∷ [])) a c
    adds_more xs x a b c first second = adds_as (λ n. NamedByOne Names xs n ⊎ Names x n)
        (NamedByOne Names (xs ++ x ∷ [])) a c
        (λ n named. elim named [
          | inl one ↦ (one.0, Contains-append_left xs (x ∷ []) one.0 one.1, one.2)
          | inr two ↦ (x, Contains-push xs x, two)
        ])
        (λ n (y, there, names). elim (Contains-push_cases xs x y there) [
          | inl before ↦ inl (y, before, names)
          | inr same ↦ inr (subst (λ z. Names z n) (sym same) names)
        ]) (adds_then (NamedByOne Names xs) (Names x) a b c first second)

  -- the predecessors of a serial, from its pairs
  pub adds_of_successor : (c : Content) (successor : ℕ) (pairs : List Pair) (a b : List ℕ)
      → ((pair : Pair) → Contains pairs pair ↔ (Contains c.pairs pair × (pair.successor ≡ successor)))
      → AddsUnsettled settled (IsPredecessorIn pairs) a b → AddsUnsettled settled (IsPredecessorOf c successor) a b
  adds_of_successor c successor pairs a b all = adds_as (IsPredecessorIn pairs) (IsPredecessorOf c successor) a b
      (λ n (pair, there, same). let is = (all pair).0 there in (pair, is.0, is.1, same))
      (λ n (pair, there, of, same). (pair, (all pair).1 (there, of), same))

  -- where a test is passed, or failed
  module _ (P : ℕ → Type 0) (a b : List ℕ) (test : Bool) where
    pub adds_if : test ≡ false → AddsUnsettled settled P a b
        → AddsUnsettled settled (λ n. (test ≡ false) × P n) a b
    adds_if is = adds_as P (λ n. (test ≡ false) × P n) a b (λ n named. (is, named)) (λ n both. both.1)

  pub adds_if_not : (P : ℕ → Type 0) (a : List ℕ) (test : Bool) → test ≡ true
      → AddsUnsettled settled (λ n. (test ≡ false) × P n) a a
  adds_if_not P a test is = adds_none (λ n. (test ≡ false) × P n) a
      (λ n both. absurd (false≢true (sym both.0 ∙ is)))

  -- what a change names in history
  pub adds_named : (c : Content) (change : Change) (a b d e f : List ℕ)
      → AddsUnsettled settled (IsSerialIn of_row change.history.gone.items) [] a
      → AddsUnsettled settled (IsSerialIn of_row change.history.changed.items) a b
      → AddsUnsettled settled (IsPredecessorIn change.pairs.added) b d
      → AddsUnsettled settled (IsPredecessorOfNew of_row c change.ltp.put.items) d e
      → AddsUnsettled settled (IsPredecessorOfNew of_current c change.cp.put.items) e f
      → AddsUnsettled settled (IsNamed change c) [] f
  adds_named c change a b d e f gone changed added ltp cp =
      let New = λ (n : ℕ). IsPredecessorOfNew of_row c change.ltp.put.items n
      ⊎ IsPredecessorOfNew of_current c change.cp.put.items n in
      let Pairs = λ (n : ℕ). IsPredecessorIn change.pairs.added n ⊎ New n in
      let Changed = λ (n : ℕ). IsSerialIn of_row change.history.changed.items n ⊎ Pairs n in
      adds_then (IsSerialIn of_row change.history.gone.items) Changed [] a f gone
      (adds_then (IsSerialIn of_row change.history.changed.items) Pairs a b f changed
      (adds_then (IsPredecessorIn change.pairs.added) New b d f added
      (adds_then (IsPredecessorOfNew of_row c change.ltp.put.items)
      (IsPredecessorOfNew of_current c change.cp.put.items) d e f ltp cp)))

  -- only what is named is added to nothing
  pub adds_only : (Named : ℕ → Type 0) (serials : List ℕ) → AddsUnsettled settled Named [] serials → (n : ℕ)
      → Contains serials n → Named n × (settled n ≡ false)
  adds_only Named serials adds n there = elim (adds.come n there) [
    | inl before ↦ absurd (nothing n before)
    | inr new ↦ new
  ]

-- ---- what is settled is known

or_cases : (a b : Bool) → (a || b) ≡ true → (a ≡ true) ⊎ (b ≡ true)
or_cases true b is = inl refl
or_cases false b is = inr is

is_found : {X : Type 0} (o : Option X) → is_some o ≡ true → (x : X) × (o ≡ Some x)
is_found None is = absurd (false≢true is)
is_found (Some x) is = (x, refl)

module _ (rest : Rest) (c more : Content) (has : HasMore rest c more) (part : IsPartOf rest more)
    (sound : ∥ IsSound (with_rest rest more) ∥₁) where
  issued_more : (serial : ℕ) → nat_lt c.sets.issued serial ≡ true → more.sets.issued < serial
  issued_more serial is = subst (λ n. n < serial) (ap (λ (x : Content). x.sets.issued) (sym has.same))
      (ltb-true c.sets.issued serial is)

  planned_more : (serial : ℕ) → is_planned c.sets serial ≡ true → is_planned more.sets serial ≡ true
  planned_more serial is = ap (λ (x : Content). is_planned x.sets serial) has.same ∙ is

  pairs_more : (pair : Pair) → Contains more.pairs pair → Contains c.pairs pair
  pairs_more pair there = subst (λ (x : Content). Contains x.pairs pair) has.same there

  pub settled_known : (serial : ℕ) → is_settled c.sets serial ≡ true → Knows rest more serial
  settled_known serial is = elim (or_cases (is_elsewhere c.sets serial) (is_some (c.sets.history serial)) is) [
    | inl elsewhere ↦ elim (or_cases (nat_lt c.sets.issued serial) (is_planned c.sets serial) elsewhere) [
      | inl past ↦ past_known rest more part serial sound (issued_more serial past)
      | inr planned ↦ planned_known rest more part serial sound (planned_more serial planned)
    ]
    | inr listed ↦
        let (row, stands) = is_found (c.sets.history serial) listed in
        listed_known rest more part serial row (has.history serial row stands)
  ]

  pub settled_deletion_known : (serial : ℕ) → is_settled_deletion c.sets serial ≡ true
      → KnowsDeletion rest more serial
  settled_deletion_known serial is =
      elim (or_cases (is_elsewhere c.sets serial) (is_some (c.sets.deletions serial)) is) [
        | inl elsewhere ↦ elim (or_cases (nat_lt c.sets.issued serial) (is_planned c.sets serial) elsewhere) [
          | inl past ↦ past_deletion_known rest more part serial sound (issued_more serial past)
          | inr planned ↦ planned_deletion_known rest more part serial sound (planned_more serial planned)
        ]
        | inr listed ↦
            let (deletion, stands) = is_found (c.sets.deletions serial) listed in
            listed_deletion_known rest more part serial deletion (has.deletions serial deletion stands)
      ]

  -- of what is planned the predecessors are known, and what is not issued has none
  elsewhere_pairs : (serial : ℕ) → is_elsewhere c.sets serial ≡ true → KnowsPairsOf rest more serial
  elsewhere_pairs serial is pair there of =
      elim (or_cases (nat_lt c.sets.issued serial) (is_planned c.sets serial) is) [
        | inl past ↦ absurd (past_pairs (with_rest rest more) sound serial (issued_more serial past) pair there of)
        | inr planned ↦ part.named pair there
            (subst (λ n. is_planned more.sets n ≡ true) (sym of) (planned_more serial planned))
      ]

  module _ (serials : List ℕ) (knows : (serial : ℕ) → Contains serials serial → Knows rest more serial) where
    -- all that is named is known
    named_known : (Named : ℕ → Type 0) → AddsUnsettled (is_settled c.sets) Named [] serials → (serial : ℕ)
        → Named serial → Knows rest more serial
    named_known Named adds serial named = elim (adds.found serial named) [
      | inl is ↦ settled_known serial is
      | inr there ↦ knows serial there
    ]

    -- the predecessors of a row that comes into a plan
    new_pairs : {X : Type 0} (row_of : X → Row) (rows : List X)
        → ((serial : ℕ) → IsPredecessorOfNew row_of c rows serial → Knows rest more serial) → (x : X) → Contains rows x
        → KnowsPairsOf rest more (row_of x).serial
    new_pairs row_of rows named x there pair has_pair of = elim (is_elsewhere c.sets (row_of x).serial) as
        (λ b. is_elsewhere c.sets (row_of x).serial ≡ b → Knows rest more pair.predecessor) [
          | true ↦ λ is. elsewhere_pairs (row_of x).serial is pair has_pair of
          | false ↦ λ is. named pair.predecessor (x, there, (is, (pair, pairs_more pair has_pair, of, refl)))
        ] refl

-- ---- what has to be found out before a change

module _ (c : Content) (change : Change) (history deletions : List ℕ)
    (in_history : AddsUnsettled (is_settled c.sets) (IsNamed change c) [] history)
    (in_deletions : AddsUnsettled (is_settled_deletion c.sets) (IsNamedDeletion change) [] deletions) where
  pub finds_named : FindsOut c history deletions
      (λ rest more. HasBars change.bounds rest more → KnowsNamed rest change more)
  finds_named rest more has mere sound knows knows_deletions bars =
      let part = part_is rest more mere in
      let known = named_known rest c more has part sound history knows (IsNamed change c) in_history in
      record {
        gone = λ row there. known row.serial (inl (row, there, refl));
        changed = λ row there. known row.serial (inr (inl (row, there, refl)));
        gone_deletions = λ deletion there. known_deletion rest more has part sound knows_deletions
            deletion.row.serial (inl (deletion, there, refl));
        changed_deletions = λ deletion there. known_deletion rest more has part sound knows_deletions
            deletion.row.serial (inr (deletion, there, refl));
        added = λ pair there. known pair.predecessor (inr (inr (inl (pair, there, refl))));
        ltp = new_pairs rest c more has part sound history knows of_row change.ltp.put.items
            (λ serial named. known serial (inr (inr (inr (inl named)))));
        cp = new_pairs rest c more has part sound history knows of_current change.cp.put.items
            (λ serial named. known serial (inr (inr (inr (inr named)))));
        bars = bars;
      }
    where
      known_deletion : (rest : Rest) (more : Content) → HasMore rest c more → IsPartOf rest more
          → ∥ IsSound (with_rest rest more) ∥₁
          → ((serial : ℕ) → Contains deletions serial → KnowsDeletion rest more serial) → (serial : ℕ)
          → IsNamedDeletion change serial → KnowsDeletion rest more serial
      known_deletion rest more has part sound knows serial named = elim (in_deletions.found serial named) [
        | inl is ↦ settled_deletion_known rest c more has part sound serial is
        | inr there ↦ knows serial there
      ]

-- ---- what has to be found out before a window on a key

module _ (c : Content) (key : Key) (rows : List Row) (serials : List ℕ)
    (adds : AddsUnsettled (is_settled c.sets) (IsPredecessorOfRow c rows) [] serials)
    (all : (row : Row) → (c.sets.history row.serial ≡ Some row) × (row.key ≡ key) → Contains rows row) where
  pub finds_live : FindsOut c serials []
      (λ rest more. HasLastsOf (ReadsKey c key) rest c → KnowsLive rest key more)
  finds_live rest more has mere sound knows _ lasts serial row stands keyed pair there of =
      let part = part_is rest more mere in
      let own = own_sound (with_rest rest more) sound in
      let is_part = λ (n : ℕ) (r : Row) (is : c.sets.history n ≡ Some r). part.history n r (has.history n r is) in
      let listed : c.sets.history serial ≡ Some row = live_has rest.history c.sets.history key is_part own.own
      (lasts key.app (key.ia + 1) (refl, inl refl)) serial row stands keyed in
      let same : row.serial ≡ serial = own.numbered serial row stands in
      let among = all row (ap c.sets.history same ∙ listed, keyed) in
      named_known rest c more has part sound serials knows (IsPredecessorOfRow c rows) adds pair.predecessor
      (row, among, (pair, pairs_more rest c more has part sound pair there, of ∙ sym same, refl))
