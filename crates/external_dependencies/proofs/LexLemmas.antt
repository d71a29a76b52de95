-- Orders by two parts in turn, and those of pairs, links and arrivals.
use Rattle.std.proofs.Common.{◌≡◌, ◌⊎◌, ℕ, ◌<◌, sym, subst, ◌∙◌, inl, inr, arith, Ordering}
use Rattle.std.specs.declared.cmp.Ordering.TheVariants.{Less, Equal, Greater}
use Rattle.std.specs.Cmp.{IsTotalOrder, ranks, nat_cmp_total, on_total, then_total}
use Rattle.std.specs.Cmp.Lexicographic.{slice_cmp, nat_list_cmp_total}
use Rattle.std.specs.Ordering.{nat_cmp, MatchOrdering, ordering_then}
use Rattle.occurrences.specs.Key.{ByteBefore}
use Rattle.occurrences.specs.Order.{IsStrictOrder, Ranks}
use Rattle.occurrences.proofs.KeyLemmas.{byte_less, byte_ranks}
use Rattle.occurrences.proofs.OrderLemmas.{ranked_strict}
use Rattle.external_dependencies.specs.Arrival.{arrival_cmp, ArrivalBefore}
use Rattle.external_dependencies.specs.Laws.{IsOrderBy, IsOrderOfNames}
use Rattle.external_dependencies.specs.Link.{link_cmp, HaveSameNames, LinkBefore}
use Rattle.external_dependencies.specs.Pair.{follower_cmp, pair_cmp, PairBefore}
use Rattle.external_dependencies.specs.declared.followers.Follower.{Follower}
use Rattle.external_dependencies.specs.declared.links.Link.{Link}
use Rattle.external_dependencies.specs.declared.live.Arrival.{Arrival}
use Rattle.external_dependencies.specs.declared.pairs.Pair.{Pair}

-- by a first part, and where it is the same by a second
module _ {X A C : Type 0} (f : X → A) (g : X → C) (B : A → A → Type 0) (D : C → C → Type 0) where
  abbrev Lex : X → X → Type 0
  Lex x y = B (f x) (f y) ⊎ ((f x ≡ f y) × D (g x) (g y))

  lex_step : (x y : X) (o p : Ordering) → MatchOrdering o (B (f x) (f y)) (f x ≡ f y) (B (f y) (f x))
      → MatchOrdering p (D (g x) (g y)) (g x ≡ g y) (D (g y) (g x)) → (f x ≡ f y → g x ≡ g y → x ≡ y)
      → MatchOrdering (ordering_then o p) (Lex x y) (x ≡ y) (Lex y x)
  lex_step x y Less p h k one = inl h
  lex_step x y Greater p h k one = inl h
  lex_step x y Equal Less h k one = inr (h, k)
  lex_step x y Equal Equal h k one = one h k
  lex_step x y Equal Greater h k one = inr (sym h, k)

  lex_ranks : (c : A → A → Ordering) (d : C → C → Ordering) → Ranks c B → Ranks d D
      → ((x y : X) → f x ≡ f y → g x ≡ g y → x ≡ y) → Ranks (λ x y. ordering_then (c (f x) (f y)) (d (g x) (g y))) Lex
  lex_ranks c d first second one x y =
      lex_step x y (c (f x) (f y)) (d (g x) (g y)) (first (f x) (f y)) (second (g x) (g y)) (one x y)

  lex_strict : IsStrictOrder B → IsStrictOrder D → IsStrictOrder Lex
  lex_strict first second = record { irreflexive = itself; transitive = onward }
    where
      itself : (x : X) → Lex x x → ⊥
      itself x h = elim h [ inl k ↦ first.irreflexive (f x) k | inr p ↦ second.irreflexive (g x) p.1 ]

      onward : (x y z : X) → Lex x y → Lex y z → Lex x z
      onward x y z h k = elim h [
        | inl a ↦ elim k [
          | inl b ↦ inl (first.transitive (f x) (f y) (f z) a b)
          | inr q ↦ inl (subst (λ u. B (f x) u) q.0 a)
        ]
        | inr p ↦ elim k [
          | inl b ↦ inl (subst (λ u. B u (f z)) (sym p.0) b)
          | inr q ↦ inr (p.0 ∙ q.0, second.transitive (g x) (g y) (g z) p.1 q.1)
        ]
      ]

number_strict : IsStrictOrder (λ (x y : ℕ). x < y)
number_strict = record { irreflexive = λ a h. omega arith; transitive = λ a b c h k. omega arith }

byte_strict : IsStrictOrder ByteBefore
byte_strict = ranked_strict (slice_cmp nat_cmp) ByteBefore nat_list_cmp_total byte_ranks byte_less

pub pair_total : IsTotalOrder pair_cmp
pair_total = then_total (on_total (λ (p : Pair). p.successor) nat_cmp_total)
    (on_total (λ (p : Pair). p.predecessor) nat_cmp_total)

pub follower_total : IsTotalOrder follower_cmp
follower_total =
    then_total (on_total (λ (p : Follower). p.predecessor) nat_cmp_total)
    (on_total (λ (p : Follower). p.successor) nat_cmp_total)

pub link_total : IsTotalOrder link_cmp
link_total =
    then_total (on_total (λ (l : Link). l.app) nat_list_cmp_total)
    (on_total (λ (l : Link). l.predecessor) nat_list_cmp_total)

pub arrival_total : IsTotalOrder arrival_cmp
arrival_total =
    then_total (on_total (λ (a : Arrival). a.app) nat_list_cmp_total)
    (then_total (on_total (λ (a : Arrival). a.ia) nat_cmp_total) (on_total (λ (a : Arrival). a.serial) nat_cmp_total))

pub pairs_ordered : IsOrderBy pair_cmp PairBefore
pairs_ordered = record {
  strict = lex_strict (λ (p : Pair). p.successor) (λ (p : Pair). p.predecessor) (λ x y. x < y)
      (λ x y. x < y) number_strict number_strict;
  total = pair_total;
  ranks =
      lex_ranks (λ (p : Pair). p.successor) (λ (p : Pair). p.predecessor) (λ x y. x < y)
      (λ x y. x < y) nat_cmp nat_cmp ranks ranks
      (λ x y a b i. record { successor = a i; predecessor = b i });
}

-- links that tie have the same names
names_step : (a b : Link) (o p : Ordering) → MatchOrdering o (ByteBefore a.app b.app) (a.app ≡ b.app)
    (ByteBefore b.app a.app)
    → MatchOrdering p (ByteBefore a.predecessor b.predecessor) (a.predecessor ≡ b.predecessor)
    (ByteBefore b.predecessor a.predecessor)
    → MatchOrdering (ordering_then o p) (LinkBefore a b) (HaveSameNames a b) (LinkBefore b a)
names_step a b Less p h k = inl h
names_step a b Greater p h k = inl h
names_step a b Equal Less h k = inr (h, k)
names_step a b Equal Equal h k = (h, k)
names_step a b Equal Greater h k = inr (sym h, k)

pub links_ordered : IsOrderOfNames
links_ordered = record {
  strict = lex_strict (λ (l : Link). l.app) (λ (l : Link). l.predecessor) ByteBefore ByteBefore byte_strict byte_strict;
  total = link_total;
  ranks = λ a b. names_step a b (slice_cmp nat_cmp a.app b.app) (slice_cmp nat_cmp a.predecessor b.predecessor)
      (byte_ranks a.app b.app) (byte_ranks a.predecessor b.predecessor);
}

-- by input arrival, then by serial
abbrev numbers_cmp : ℕ × ℕ → ℕ × ℕ → Ordering
numbers_cmp x y = ordering_then (nat_cmp x.0 y.0) (nat_cmp x.1 y.1)

abbrev NumbersBefore : ℕ × ℕ → ℕ × ℕ → Type 0
NumbersBefore x y = (x.0 < y.0) ⊎ ((x.0 ≡ y.0) × (x.1 < y.1))

numbers_ranks : Ranks numbers_cmp NumbersBefore
numbers_ranks =
    lex_ranks (λ (n : ℕ × ℕ). n.0) (λ (n : ℕ × ℕ). n.1) (λ x y. x < y) (λ x y. x < y) nat_cmp nat_cmp ranks ranks
    (λ x y a b i. (a i, b i))

numbers_strict : IsStrictOrder NumbersBefore
numbers_strict = lex_strict (λ (n : ℕ × ℕ). n.0) (λ (n : ℕ × ℕ). n.1) (λ x y. x < y)
    (λ x y. x < y) number_strict number_strict

pub arrivals_ordered : IsOrderBy arrival_cmp ArrivalBefore
arrivals_ordered = record {
  strict = lex_strict (λ (a : Arrival). a.app)
      (λ (a : Arrival). (a.ia, a.serial)) ByteBefore NumbersBefore byte_strict numbers_strict;
  total = arrival_total;
  ranks =
      lex_ranks (λ (a : Arrival). a.app) (λ (a : Arrival). (a.ia, a.serial)) ByteBefore NumbersBefore
      (slice_cmp nat_cmp) numbers_cmp byte_ranks numbers_ranks
      (λ x y a b i. record { app = a i; ia = (b i).0; serial = (b i).1 });
}
