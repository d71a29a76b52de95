-- Lists in force, and least applications.
use Rattle.std.proofs.Common.{◌≡◌, ℕ, List, refl, sym, subst, ◌∙◌, Some}
use Rattle.std.specs.Cmp.{IsTotalOrder, on_total, then_total, tied_itself}
use Rattle.std.specs.Cmp.Lexicographic.{nat_list_cmp_total, slice_cmp}
use Rattle.std.specs.Ordering.{nat_cmp}
use Rattle.std.specs.declared.cmp.Ordering.{Ordering}
use Rattle.std.specs.declared.cmp.Ordering.TheVariants.{Less, Equal, Greater}
use Rattle.app_definitions.specs.declared.definitions.Definitions.{Definitions}
use Rattle.occurrences.specs.Key.{ByteBefore}
use Rattle.occurrences.specs.Order.{IsStrictOrder}
use Rattle.occurrences.proofs.KeyLemmas.{byte_ranks}
use Rattle.occurrences.proofs.OrderLemmas.{answer_means}
use Rattle.external_dependencies.specs.Link.{link_cmp}
use Rattle.external_dependencies.specs.Loop.{IsLeastOnLoop, OnLoop}
use Rattle.external_dependencies.specs.declared.links.Link.{Link}
use Rattle.planner_machine.specs.Content.{Content}
use Rattle.planner_machine.specs.InForce.{AreLinks, PutsAll, PutsLists, PutsNone, PutsOne}
use Rattle.planner_machine.specs.Plans.{IsLeastApp, WouldLoop}
use Rattle.planner_machine.proofs.RisingLemmas.{one_list}

link_total : IsTotalOrder link_cmp
link_total = then_total (on_total (λ (l : Link). l.app) nat_list_cmp_total)
    (on_total (λ (l : Link). l.predecessor) nat_list_cmp_total)

link_strict : IsStrictOrder (λ x y. link_cmp x y ≡ Less)
link_strict = record {
  irreflexive = λ a less. let tied = tied_itself link_total a in
      let apart : Less ≡ Equal = sym less ∙ tied in cc;
  transitive = λ a b c. link_total.trans a b c;
}

pub one_links : (Is : Link → Type 0) (xs ys : List Link) → AreLinks Is xs → AreLinks Is ys → xs ≡ ys
one_links Is xs ys a b =
    one_list (λ x y. link_cmp x y ≡ Less) link_strict xs ys a.rising b.rising
    (λ z h. (b.exactly z).1 ((a.exactly z).0 h)) (λ z h. (a.exactly z).1 ((b.exactly z).0 h))

-- the lists after a statement are one
abbrev pub PutsOneList : PutsLists → Type 0
PutsOneList Puts = (all : Definitions) (before xs ys : List Link) → Puts all before xs → Puts all before ys → xs ≡ ys

pub none_is_one : PutsOneList PutsNone
none_is_one all before xs ys a b = a ∙ sym b

pub all_is_one : PutsOneList PutsAll
all_is_one all before xs ys a b = one_links _ xs ys a b

pub one_is_one : (app : List ℕ) → PutsOneList (PutsOne app)
one_is_one app all before xs ys a b = one_links _ xs ys a b

-- the least application is one
least_by : (a b : List ℕ) (o p : Ordering) → slice_cmp nat_cmp a b ≡ o → slice_cmp nat_cmp b a ≡ p → (o ≡ Greater → ⊥)
    → (p ≡ Greater → ⊥) → a ≡ b
least_by a b Greater p is is' first second = absurd (first refl)
least_by a b o Greater is is' first second = absurd (second refl)
least_by a b Equal p is is' first second = answer_means (slice_cmp nat_cmp) ByteBefore byte_ranks a b Equal is
least_by a b Less Equal is is' first second = sym (answer_means (slice_cmp nat_cmp) ByteBefore byte_ranks b a Equal is')
least_by a b Less Less is is' first second =
    let less = nat_list_cmp_total.trans a b a is is' in let tied = tied_itself nat_list_cmp_total a in
    let apart : Less ≡ Equal = sym less ∙ tied in cc

pub one_least_app : (Holds : List ℕ → Type 0) (a b : List ℕ) → IsLeastApp Holds a → IsLeastApp Holds b → a ≡ b
one_least_app Holds a b x y =
    least_by a b (slice_cmp nat_cmp a b) (slice_cmp nat_cmp b a) refl refl (x.1 b y.0) (y.1 a x.0)

pub one_loop : (Puts : PutsLists) → PutsOneList Puts → (c : Content) (a b : List ℕ) → WouldLoop Puts c a
    → WouldLoop Puts c b → a ≡ b
one_loop Puts one c a b (xs, puts, least) (ys, puts', least') =
    let same = one c.definitions c.in_force xs ys puts puts' in
    one_least_app (λ app. OnLoop ys app) a b (subst (λ l. IsLeastOnLoop l (Some a)) same least) least'
