-- Pairs of what is no longer open, after a statement.
use Rattle.std.proofs.Common.{◌≡◌, ◌≢◌, ℕ, zero, suc, ◌+◌, ◌-◌, ◌⊎◌, List, length, get_or, sym, ap, subst, ◌∙◌, inl}
use Rattle.std.proofs.Common.{inr, arith, Option, None}
use Rattle.std.specs.Prelude.{Contains}
use Rattle.std.proofs.lemmas.List.Elements.{Contains-get_or}
use Rattle.occurrences.specs.Place.{IsComplete, IsLive, IsOpen}
use Rattle.occurrences.specs.declared.key.Key.{Key}
use Rattle.occurrences.specs.declared.place.Place.{Place}
use Rattle.occurrences.specs.declared.place.Place.TheVariants.{LongTerm, Current, History, Deleted}
use Rattle.occurrences.specs.declared.status.Status.TheVariants.{C, D, W}
use Rattle.external_dependencies.specs.Loop.{IsRing}
use Rattle.external_dependencies.specs.Nearest.{IsCandidate, IsNearest, arrival_of}
use Rattle.external_dependencies.specs.declared.live.Arrival.{Arrival}
use Rattle.external_dependencies.specs.declared.rows.PlacedRow.{PlacedRow}
use Rattle.planner_machine.specs.declared.content.Draft.{Draft}
use Rattle.external_dependencies.proofs.NearestLemmas.{nearest_unlimited, unlimited}
use Rattle.planner_machine.specs.Content.{Content, Sets, IsOnlyAt}
use Rattle.planner_machine.specs.Fate.{Fate}
use Rattle.planner_machine.specs.Laws.{Follows}
use Rattle.planner_machine.specs.Pairs.{ArePairs, IsClosedAt, IsClosedPair, IsCompleteAt, IsOpenPair, LiveAt, pair_of}
use Rattle.planner_machine.specs.Sound.{HasPairs, IsSound}
use Rattle.planner_machine.proofs.FollowLemmas.{FateKeeps, IsMadeAt, came}
use Rattle.planner_machine.proofs.PairLemmas.{pairs_settle}
use Rattle.planner_machine.specs.RowsSound.{RowsSound}
use Rattle.planner_machine.proofs.SeatLemmas.{one_place}
use Rattle.planner_machine.proofs.SoundLemmas.{rows_sound}

complete_closed : (place : Place) → IsComplete place → IsLive place × (IsOpen place → ⊥)
complete_closed LongTerm is = absurd is
complete_closed (Current status) is = ((λ d. let no : C ≡ D = sym is ∙ d in cc), λ w. let no : C ≡ W = sym is ∙ w in cc)
complete_closed History is = (tt, λ h. h)
complete_closed (Deleted reason) is = absurd is

pub complete_at : (s : Sets) (n : ℕ) → IsCompleteAt s n → IsClosedAt s n
complete_at s n (p, there, is) = let closed = complete_closed p.place is in (p, there, closed.0, closed.1)

-- each node of a ring has an edge from another one
module _ {V : Type 0} (E : V → V → Type 0) (ring : List V) (is : IsRing E ring) where
  pub edge_into : (v : V) → Contains ring v → (u : V) × Contains ring u × E u v × (u ≢ v)
  edge_into v (zero, lt, at) =
      let more = is.several in (
        get_or ring (length ring - 1) v,
        Contains-get_or ring (length ring - 1) v (omega arith),
        subst (E (get_or ring (length ring - 1) v)) at (is.closes v),
        λ same. is.different 0 (length ring - 1) v (omega arith) (omega arith) (at ∙ sym same),
      )
  edge_into v (suc k, lt, at) = (
    get_or ring k v,
    Contains-get_or ring k v (omega arith),
    subst (E (get_or ring k v)) (ap (λ n. get_or ring n v) (let same : k + 1 ≡ suc k = omega arith in same)
        ∙ at) (is.next k v (omega arith)),
    λ same. is.different k (suc k) v (omega arith) (omega arith) (same ∙ sym at),
  )

  -- a ring of other edges, where each edge between its nodes is one of them
  pub other_ring : (F : V → V → Type 0) → ((u v : V) → Contains ring u → Contains ring v → E u v → F u v)
      → IsRing F ring
  other_ring F to = record {
    several = is.several;
    different = is.different;
    next = λ k d lt. to (get_or ring k d) (get_or ring (k + 1) d) (Contains-get_or ring k d (omega arith))
        (Contains-get_or ring (k + 1) d lt) (is.next k d lt);
    closes = λ d. let more = is.several in
        to (get_or ring (length ring - 1) d) (get_or ring 0 d)
        (Contains-get_or ring (length ring - 1) d (omega arith)) (Contains-get_or ring 0 d (omega arith))
        (is.closes d);
  }

-- an occurrence that starts: it was waiting, and its predecessors were complete
pub record Starts (c : Content) (serial : ℕ) : Type 0 where
  pub placed : PlacedRow
  pub stood : IsOnlyAt c.sets serial placed
  pub waited : IsOpen placed.place
  pub predecessors : (n : ℕ) → Contains c.pairs (pair_of serial n) → IsCompleteAt c.sets n

module _ (place : Place) (fate : Fate) (drafts : List Draft) (c c' : Content) (sound : IsSound c)
    (sound' : RowsSound c'.sets) (keeps : FateKeeps fate) (f : Follows place fate drafts c.sets c'.sets)
    (pairs : ArePairs c.pairs c'.in_force c'.sets c'.pairs) (born : IsOpen place)
    (closes : (serial : ℕ) (p q : PlacedRow) → IsOnlyAt c.sets serial p → fate p q → IsLive q.place
    → (IsOpen q.place → ⊥) → (IsLive p.place × (IsOpen p.place → ⊥)) ⊎ Starts c serial) where
  rows : RowsSound c.sets
  rows = rows_sound c sound

  -- a pair of what is closed was there before
  was_pair : (successor n : ℕ) → Contains c'.pairs (pair_of successor n) → IsClosedAt c'.sets successor
      → Contains c.pairs (pair_of successor n)
  was_pair successor n there (q, stands, live, closed) = elim ((pairs.exactly (pair_of successor n)).0 there) [
    | inl open' ↦ absurd (closed
        (subst (λ (x : PlacedRow). IsOpen x.place)
        (one_place c'.sets successor open'.placed q open'.stands stands) open'.waits))
    | inr kept ↦ kept.had
  ]

  -- and what is closed was closed before, or starts
  was_closed : (successor : ℕ) → IsClosedAt c'.sets successor → IsClosedAt c.sets successor ⊎ Starts c successor
  was_closed successor (q, stands, live, closed) =
      elim (came place fate drafts c.sets c'.sets rows sound' f successor q stands) [
        | inr new ↦ absurd (closed (subst (λ (x : PlacedRow). IsOpen x.place) (sym new.is) born))
        | inl (p, was, goes) ↦ elim (closes successor p q was goes live closed) [
          | inl before ↦ inl (p, was, before.0, before.1)
          | inr starts ↦ inr starts
        ]
      ]

  -- the predecessors were complete before
  were_complete : (successor n : ℕ) → Contains c'.pairs (pair_of successor n) → IsClosedAt c'.sets successor
      → IsCompleteAt c.sets n
  were_complete successor n there closed = elim (was_closed successor closed) [
    | inl before ↦ sound.pairs.complete (pair_of successor n) (was_pair successor n there closed) before
    | inr starts ↦ starts.predecessors n (was_pair successor n there closed)
  ]

  still_complete : (n : ℕ) → IsCompleteAt c.sets n → IsCompleteAt c'.sets n
  still_complete n (p, there, is) = let (q, goes, at) = f.old n p there in (q, at, keeps.complete p q goes is)

  -- what stood before has the same key
  same_key_at : (n : ℕ) (p q : PlacedRow) → IsOnlyAt c.sets n p → IsOnlyAt c'.sets n q → q.row.key ≡ p.row.key
  same_key_at n p q was now = let (o, goes, at) = f.old n p was in
      ap (λ (x : PlacedRow). x.row.key) (one_place c'.sets n q o now at) ∙ keeps.key p o goes

  -- a pair of what starts is one with a nearest predecessor
  open_pair : (successor n : ℕ) → Contains c.pairs (pair_of successor n) → Starts c successor
      → IsOpenPair c.in_force c.sets (pair_of successor n)
  open_pair successor n there starts = elim ((sound.pairs.settled.exactly (pair_of successor n)).0 there) [
    | inl open' ↦ open'
    | inr kept ↦ absurd (kept.waits_no_more
        (subst (λ (x : PlacedRow). IsOpen x.place)
        (one_place c.sets successor starts.placed kept.placed starts.stood kept.stands) starts.waited))
  ]

  -- and that predecessor arrives as the nearest does
  near_is : (successor n : ℕ) (q : PlacedRow) (o : IsOpenPair c.in_force c.sets (pair_of successor n))
      → IsOnlyAt c.sets n q → arrival_of q.row ≡ o.near
  near_is successor n q o there =
      let (m, p, stands, live, is) = o.nearest.live in
      let number : p.row.serial ≡ n = ap (λ (x : Arrival). x.serial) is ∙ o.predecessor in
      let own = rows.numbered m p stands in
      let same : m ≡ n = sym own ∙ number in
      ap (λ (x : PlacedRow). arrival_of x.row)
      (one_place c.sets n q p there (subst (λ k. IsOnlyAt c.sets k p) same stands)) ∙ is

  -- two nearest predecessors in one application are one, whatever their limits
  one_near : (key : Key) (app : List ℕ) (within within' : Option ℕ) (x y : Arrival)
      → IsNearest (LiveAt c.sets) key app within x → IsNearest (LiveAt c.sets) key app within' y → x.serial ≡ y.serial
  one_near key app within within' x y limited limited' =
      let a = nearest_unlimited (LiveAt c.sets) key app within x limited in
      let b = nearest_unlimited (LiveAt c.sets) key app within' y limited' in
      let up = a.greatest y b.live b.candidate in let down = b.greatest x a.live a.candidate in
      let same : y.ia ≡ x.ia = omega arith in
      let first = a.last y b.live b.candidate same in let second = b.last x a.live a.candidate (sym same) in
      omega arith

  one_open : (successor m n : ℕ) (p q : PlacedRow) → Starts c successor → Contains c.pairs (pair_of successor m)
      → Contains c.pairs (pair_of successor n) → IsOnlyAt c.sets m p → IsOnlyAt c.sets n q
      → p.row.key.app ≡ q.row.key.app → m ≡ n
  one_open successor m n p q starts at_m at_n there there' apps =
      let o = open_pair successor m at_m starts in let o' = open_pair successor n at_n starts in
      let placed = one_place c.sets successor o'.placed o.placed o'.stands o.stands in
      let app : o'.app ≡ o.app = sym o'.nearest.candidate.of_app
      ∙ sym (ap (λ (x : Arrival). x.app) (near_is successor n q o' there')) ∙ sym apps
      ∙ ap (λ (x : Arrival). x.app) (near_is successor m p o there) ∙ o.nearest.candidate.of_app in
      let key = ap (λ (x : PlacedRow). x.row.key) placed in
      let moved : IsNearest (LiveAt c.sets) o.placed.row.key o.app o'.within o'.near =
      subst (λ k. IsNearest (LiveAt c.sets) k o.app o'.within o'.near) key
      (subst (λ a. IsNearest (LiveAt c.sets) o'.placed.row.key a o'.within o'.near) app o'.nearest) in
      sym o.predecessor
      ∙ one_near o.placed.row.key o.app o.within o'.within o.near o'.near o.nearest moved ∙ o'.predecessor

  in_time_open : (successor n : ℕ) (p q : PlacedRow) → Starts c successor → Contains c.pairs (pair_of successor n)
      → IsOnlyAt c.sets successor p → IsOnlyAt c.sets n q → IsCandidate p.row.key q.row.key.app None (arrival_of q.row)
  in_time_open successor n p q starts at there there' =
      let o = open_pair successor n at starts in
      let near = near_is successor n q o there' in
      let placed = one_place c.sets successor o.placed p o.stands there in
      let app : o.app ≡ q.row.key.app = sym o.nearest.candidate.of_app ∙ sym (ap (λ (x : Arrival). x.app) near) in
      subst (λ x. IsCandidate p.row.key q.row.key.app None x) (sym near)
      (subst (λ a. IsCandidate p.row.key a None o.near) app
      (subst (λ (x : PlacedRow). IsCandidate x.row.key o.app None o.near) placed
      (unlimited o.placed.row.key o.app o.within o.near o.nearest.candidate)))

  -- on a ring of what is closed nothing starts
  no_start : (ring : List ℕ) → IsRing (IsClosedPair c'.sets c'.pairs) ring → (v : ℕ) → Contains ring v → Starts c v → ⊥
  no_start ring is v at starts =
      let (u, at', edge, other) = edge_into (IsClosedPair c'.sets c'.pairs) ring is v at in
      let (q, stood, done) = were_complete u v edge.0 edge.1 in
      let closed = complete_closed q.place done in
      closed.1 (subst (λ (x : PlacedRow). IsOpen x.place)
      (one_place c.sets v starts.placed q starts.stood stood) starts.waited)

  before_ring : (ring : List ℕ) → IsRing (IsClosedPair c'.sets c'.pairs) ring
      → IsRing (IsClosedPair c.sets c.pairs) ring
  before_ring ring is = other_ring (IsClosedPair c'.sets c'.pairs) ring is (IsClosedPair c.sets c.pairs)
      (λ u v at_u at_v edge. (
        was_pair u v edge.0 edge.1,
        elim (was_closed u edge.1) [ inl before ↦ before | inr starts ↦ absurd (no_start ring is u at_u starts) ],
        complete_at c.sets v (were_complete u v edge.0 edge.1),
      ))

  pub pairs_sound : HasPairs c'
  pairs_sound = record {
    settled = pairs_settle c.pairs c'.in_force c'.sets c'.pairs pairs;
    complete = λ pair there closed. still_complete pair.predecessor
        (were_complete pair.successor pair.predecessor there closed);
    one_each = λ successor m n p q closed at_m at_n there there' apps.
        let (o, was, done) = were_complete successor m at_m closed in
        let (o', was', done') = were_complete successor n at_n closed in
        let app : o.row.key.app ≡ o'.row.key.app = sym (ap (λ (k : Key). k.app) (same_key_at m o p was there)) ∙ apps
        ∙ ap (λ (k : Key). k.app) (same_key_at n o' q was' there') in
        elim (was_closed successor closed) [
          | inl before ↦ sound.pairs.one_each successor m n o o' before (was_pair successor m at_m closed)
              (was_pair successor n at_n closed) was was' app
          | inr starts ↦ one_open successor m n o o' starts (was_pair successor m at_m closed)
              (was_pair successor n at_n closed) was was' app
        ];
    in_time = λ pair p q there closed at_p at_q.
        let (o, was, done) = were_complete pair.successor pair.predecessor there closed in
        let arrives : (x : PlacedRow) → IsOnlyAt c.sets pair.successor x
        → IsCandidate x.row.key o.row.key.app None (arrival_of o.row) =
        λ x at_x. elim (was_closed pair.successor closed) [
          | inl before ↦ sound.pairs.in_time pair x o
              (was_pair pair.successor pair.predecessor there closed) before at_x was
          | inr starts ↦ in_time_open pair.successor pair.predecessor x o starts
              (was_pair pair.successor pair.predecessor there closed) at_x was
        ] in
        elim (came place fate drafts c.sets c'.sets rows sound' f pair.successor p at_p) [
          | inr new ↦ absurd (closed_not_new pair.successor p at_p new closed)
          | inl (x, at_x, goes) ↦ moved x o p q (keeps.key x p goes) (same_key_at pair.predecessor o q was at_q)
              (same_serial pair.predecessor o q was at_q) (arrives x at_x)
        ];
    no_loop = λ serial on. let (ring, is, at) = on in sound.pairs.no_loop serial (ring, before_ring ring is, at);
  }
    where
      closed_not_new : (n : ℕ) (p : PlacedRow) → IsOnlyAt c'.sets n p → IsMadeAt place drafts c.sets n p
          → IsClosedAt c'.sets n → ⊥
      closed_not_new n p at_p new (q, stands, live, closed) =
          closed (subst (λ (x : PlacedRow). IsOpen x.place) (sym new.is ∙ one_place c'.sets n p q at_p stands) born)

      same_serial : (n : ℕ) (p q : PlacedRow) → IsOnlyAt c.sets n p → IsOnlyAt c'.sets n q → q.row.serial ≡ p.row.serial
      same_serial n p q was now = let (o, goes, at) = f.old n p was in
          ap (λ (x : PlacedRow). x.row.serial) (one_place c'.sets n q o now at) ∙ keeps.serial p o goes

      moved : (x o p q : PlacedRow) → p.row.key ≡ x.row.key → q.row.key ≡ o.row.key → q.row.serial ≡ o.row.serial
          → IsCandidate x.row.key o.row.key.app None (arrival_of o.row)
          → IsCandidate p.row.key q.row.key.app None (arrival_of q.row)
      moved x o p q key key' serial is =
          let arrives : arrival_of o.row ≡ arrival_of q.row =
          λ i. record { app = (sym key' i).app; ia = (sym key' i).ia; serial = sym serial i } in
          subst (λ k. IsCandidate k q.row.key.app None (arrival_of q.row)) (sym key)
          (subst (λ (k : Key). IsCandidate x.row.key k.app None (arrival_of q.row)) (sym key')
          (subst (λ a. IsCandidate x.row.key o.row.key.app None a) arrives is))
