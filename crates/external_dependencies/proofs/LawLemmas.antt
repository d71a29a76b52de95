-- The laws of predecessors and pairs.
use Rattle.std.proofs.Common.{◌≡◌, ◌↔◌, ℕ, ◌≤◌, List, [], ◌∷◌, refl, sym, ap, subst, ◌∙◌, inl, inr, arith}
use Rattle.std.specs.List.{Contains}
use Rattle.std.proofs.lemmas.Bool.{cases_lt, cases_eq}
use Rattle.occurrences.specs.declared.key.Key.{Key}
use Rattle.external_dependencies.specs.declared.links.Link.{Link}
use Rattle.external_dependencies.specs.declared.live.Arrival.{Arrival}
use Rattle.external_dependencies.specs.declared.rows.PlacedRow.{PlacedRow}
use Rattle.external_dependencies.specs.declared.pairs.Pair.{Pair}
use Rattle.external_dependencies.specs.Link.{Lists}
use Rattle.external_dependencies.specs.Loop.{OnRing, OnLoop}
use Rattle.external_dependencies.specs.Walk.{IsWalk, Reaches}
use Rattle.external_dependencies.specs.Nearest.{arrival_of, IsLiveIn}
use Rattle.external_dependencies.specs.Pair.{IsPairOf}
use Rattle.external_dependencies.specs.Laws.{SerialsDiffer, PairEdge, NearestIsUnique, NearestArrivesLast}
use Rattle.external_dependencies.specs.Laws.{PairsDependOnSet, PairsHaveNoLoop, NoRowPrecedesItself}
use Rattle.external_dependencies.proofs.WalkLemmas.{reaches-trans}
use Rattle.external_dependencies.proofs.RingLemmas.{returns_on_ring, on_ring}
use Rattle.external_dependencies.proofs.LoopLemmas.{decide_names}
use Rattle.external_dependencies.proofs.NearestLemmas.{nearest_once, nearest_same}

pub nearest_unique : NearestIsUnique
nearest_unique rows key app within x y = nearest_once (IsLiveIn rows) key app within x y

pub nearest_last : NearestArrivesLast
nearest_last rows differ key app within near other is live may = elim (cases_lt other.ia near.ia) [
  | inl before ↦ inr before
  | inr after ↦
      let upto : other.ia ≤ near.ia = is.greatest other live may in
      let moments : other.ia ≡ near.ia = omega arith in
      let apps : other.app ≡ near.app = may.of_app ∙ sym is.candidate.of_app in
      let here = is.live in
      let key_of : (p : PlacedRow) → arrival_of p.row ≡ other
      → p.row.key ≡ record { ia = other.ia; app = other.app } =
      λ p same i. record { ia = (same i).ia; app = (same i).app } in
      let key_of_near : (p : PlacedRow) → arrival_of p.row ≡ near
      → p.row.key ≡ record { ia = near.ia; app = near.app } =
      λ p same i. record { ia = (same i).ia; app = (same i).app } in
      let one_key : live.0.row.key ≡ here.0.row.key =
      key_of live.0 live.3 ∙ (λ i. record { ia = moments i; app = apps i }) ∙ sym (key_of_near here.0 here.3) in
      let rows_same = differ live.0 here.0 live.1 here.1 live.2 here.2 one_key in
      inl (sym live.3 ∙ ap arrival_of rows_same ∙ here.3)
]

live_same : (rows rows' : List PlacedRow) → ((placed : PlacedRow) → Contains rows placed ↔ Contains rows' placed)
    → (arrival : Arrival) → IsLiveIn rows arrival ↔ IsLiveIn rows' arrival
live_same rows rows' same arrival = (
  (λ is. (is.0, (same is.0).0 is.1, is.2, is.3)),
  λ is. (is.0, (same is.0).1 is.1, is.2, is.3),
)

pair_same : (rows rows' : List PlacedRow) (links links' : List Link)
    → ((placed : PlacedRow) → Contains rows placed ↔ Contains rows' placed)
    → ((link : Link) → Contains links link ↔ Contains links' link) → (pair : Pair) → IsPairOf rows links pair
    → IsPairOf rows' links' pair
pair_same rows rows' links links' same_rows same_links pair is = record {
  placed = is.placed;
  stands = (same_rows is.placed).0 is.stands;
  waits = is.waits;
  successor = is.successor;
  app = is.app;
  within = is.within;
  listed = (same_links (record { app = is.placed.row.key.app; predecessor = is.app; within = is.within })).0
      is.listed;
  near = is.near;
  nearest = nearest_same (IsLiveIn rows) (IsLiveIn rows')
      (live_same rows rows' same_rows) is.placed.row.key is.app is.within is.near is.nearest;
  predecessor = is.predecessor;
}

pub pairs_on_set : PairsDependOnSet
pairs_on_set rows rows' links links' same_rows same_links pair = (
  pair_same rows rows' links links' same_rows same_links pair,
  pair_same rows' rows links' links (λ p. ((same_rows p).1, (same_rows p).0))
      (λ l. ((same_links l).1, (same_links l).0)) pair,
)

module _ (rows : List PlacedRow) (links : List Link) (differ : SerialsDiffer rows) where
  -- a row of that serial has that key
  Stands : ℕ → Key → Type 0
  Stands serial key = (placed : PlacedRow) × Contains rows placed × (placed.row.serial ≡ serial)
      × (placed.row.key ≡ key)

  one_key : (serial : ℕ) (k m : Key) → Stands serial k → Stands serial m → k ≡ m
  unfolding Stands
  one_key serial k m at_k at_m = sym at_k.3 ∙ differ at_k.0 at_m.0 at_k.1 at_m.1 (at_k.2 ∙ sym at_m.2) ∙ at_m.3

  -- along pairs arrivals do not rise, and where they stay the lists lead from one application to the next
  record Falls (first last : ℕ) : Type 0 where
    from : Key
    to : Key
    stands_from : Stands first from
    stands_to : Stands last to
    not_later : to.ia ≤ from.ia
    together : to.ia ≡ from.ia → Reaches (Lists links) from.app to.app

  falls_once : (first last : ℕ) → PairEdge rows links first last → Falls first last
  unfolding Stands
  falls_once first last is =
      let near = is.nearest.live in
      let may = is.nearest.candidate in
      let to_key : Key = record { ia = is.near.ia; app = is.near.app } in
      record {
        from = is.placed.row.key;
        to = to_key;
        stands_from = (is.placed, is.stands, is.successor, refl);
        stands_to = (
          near.0,
          near.1,
          ap (λ (a : Arrival). a.serial) near.3
              ∙ is.predecessor,
          λ i. record { ia = (near.3 i).ia; app = (near.3 i).app },
        );
        not_later = may.in_time;
        together = λ same. (
          [],
          (
            subst (Lists links is.placed.row.key.app) (sym may.of_app) (is.within, is.listed),
            λ own. let before = may.before_own (sym (own ∙ may.of_app)) in absurd (omega arith),
          ),
        );
      }

  falls_on : (first between last : ℕ) → Falls first between → Falls between last → Falls first last
  falls_on first between last a b =
      let joint : a.to ≡ b.from = one_key between a.to b.from a.stands_to b.stands_from in
      let moments : a.to.ia ≡ b.from.ia = ap (λ (k : Key). k.ia) joint in
      let apps : a.to.app ≡ b.from.app = ap (λ (k : Key). k.app) joint in
      let below = a.not_later in
      let below' = b.not_later in
      record {
        from = a.from;
        to = b.to;
        stands_from = a.stands_from;
        stands_to = b.stands_to;
        not_later = omega arith;
        together = λ same.
            let first_part = a.together (omega arith) in
            let last_part = b.together (omega arith) in
            reaches-trans (Lists links) a.from.app b.from.app b.to.app
            (subst (Reaches (Lists links) a.from.app) apps first_part) last_part;
      }

  falls : (first last : ℕ) (between : List ℕ) → IsWalk (PairEdge rows links) first between last → Falls first last
  falls first last [] walk = falls_once first last walk.0
  falls first last (x ∷ between) walk = falls_on first x last (falls_once first x walk.0.0)
      (falls x last between walk.1)

  pub no_loop : ((app : List ℕ) → OnLoop links app → ⊥) → (serial : ℕ) → OnRing (PairEdge rows links) serial → ⊥
  no_loop none serial on =
      let back = returns_on_ring (PairEdge rows links) cases_eq serial on in
      let is = falls serial serial back.0 back.1 in
      let same : is.from ≡ is.to = one_key serial is.from is.to is.stands_from is.stands_to in
      let round = is.together (ap (λ (k : Key). k.ia) (sym same)) in
      none is.from.app (on_ring (Lists links) decide_names is.from.app
      (subst (Reaches (Lists links) is.from.app) (ap (λ (k : Key). k.app) (sym same)) round))

pub pairs_without_loop : PairsHaveNoLoop
pairs_without_loop rows links differ = no_loop rows links differ

-- a row that preceded itself would arrive before itself
pub none_itself : NoRowPrecedesItself
none_itself rows links differ serial is =
    let here = is.nearest.live in
    let may = is.nearest.candidate in
    let number : here.0.row.serial ≡ serial = ap (λ (a : Arrival). a.serial) here.3 ∙ is.predecessor in
    let one : here.0.row.key ≡ is.placed.row.key =
    differ here.0 is.placed here.1 is.stands (number ∙ sym is.successor) in
    let moments : is.near.ia ≡ is.placed.row.key.ia =
    ap (λ (a : Arrival). a.ia) (sym here.3) ∙ ap (λ (k : Key). k.ia) one in
    let apps : is.near.app ≡ is.placed.row.key.app =
    ap (λ (a : Arrival). a.app) (sym here.3) ∙ ap (λ (k : Key). k.app) one in
    let before = may.before_own (sym may.of_app ∙ apps) in
    omega arith
