-- The lists in force where one application's list is put.
use Rattle.std.proofs.Common.{◌≡◌, ◌≢◌, ◌⊎◌, ◌↔◌, ◌∷◌, [], ℕ, zero, suc, ◌+◌, ◌-◌, ◌<◌, List}
use Rattle.std.proofs.Common.{None, arith, get_or, inl, inr, length, subst, sym}
use Rattle.std.specs.List.{Contains}
use Rattle.std.proofs.lemmas.List.Elements.{Contains-get_or}
use Rattle.app_definitions.specs.declared.definitions.Definitions.{Definitions}
use Rattle.external_dependencies.specs.Link.{Lists, link_cmp}
use Rattle.external_dependencies.specs.Loop.{IsLeastOnLoop, IsRing, LoopsPass}
use Rattle.external_dependencies.specs.Rising.{IsRising}
use Rattle.external_dependencies.specs.declared.links.Link.{Link}
use Rattle.planner_machine.specs.InForce.{IsDefinedLink, PutsOne}
use Rattle.plan_store_pairs.proofs.TouchedLemmas.{same_or_not}

abbrev pub IsOwn : Definitions → List ℕ → Link → Type 0
IsOwn all app link = (link.app ≡ app) × IsDefinedLink all link

-- where the list of the application is the one that is defined, the lists in force are those to put
pub list_stays : (all : Definitions) (app : List ℕ) (before own list : List Link)
    → ((link : Link) → Contains own link ↔ IsOwn all app link) → IsRising link_cmp before
    → ((link : Link) → Contains list link ↔ (Contains before link × (link.app ≡ app))) → own ≡ list
    → PutsOne app all before before
list_stays all app before own list are rising is_list same = record {
  rising = rising;
  exactly = λ link. (
    (λ there. elim (same_or_not link.app app) [
      | inl mine ↦ inl ((are link).0 (subst (λ ls. Contains ls link) (sym same) ((is_list link).1 (there, mine))))
      | inr other ↦ inr (other, there)
    ]),
    λ is. elim is [
      | inl mine ↦ ((is_list link).0 (subst (λ ls. Contains ls link) same ((are link).1 mine))).0
      | inr (other, was) ↦ was
    ],
  );
}

-- an application is on the ring, or none of the ring is it
on_or_off : (ring : List (List ℕ)) (app : List ℕ)
    → Contains ring app ⊎ ((k : ℕ) (d : List ℕ) → k < length ring → get_or ring k d ≢ app)
on_or_off [] app = inr (λ k d lt. absurd (omega arith))
on_or_off (first ∷ rest) app = elim (same_or_not first app) [
  | inl same ↦ inl (0, omega arith, same)
  | inr other ↦ elim (on_or_off rest app) [
    | inl (k, lt, at) ↦ inl (suc k, omega arith, at)
    | inr never ↦ inr (off other never)
  ]
]
  where
    off : first ≢ app → ((k : ℕ) (d : List ℕ) → k < length rest → get_or rest k d ≢ app) → (k : ℕ) (d : List ℕ)
        → k < length (first ∷ rest) → get_or (first ∷ rest) k d ≢ app
    off other never zero d lt = other
    off other never (suc k) d lt = never k d (omega arith)

-- where the lists before have no loop, each that comes by the list of one application passes it
pub loops_pass : (all : Definitions) (app : List ℕ) (before links : List Link) → PutsOne app all before links
    → IsLeastOnLoop before None → LoopsPass links app
loops_pass all app before links puts none ring is = elim (on_or_off ring app) [
  | inl on ↦ on
  | inr off ↦ absurd (none (get_or ring 0 []) (ring, stood off, Contains-get_or ring 0 [] (omega (arith, is.several))))
]
  where
    lists : (name predecessor : List ℕ) → name ≢ app → Lists links name predecessor → Lists before name predecessor
    lists name predecessor other (within, there) = elim ((puts.exactly _).0 there) [
      | inl mine ↦ absurd (other mine.0)
      | inr was ↦ (within, was.1)
    ]

    stood : ((k : ℕ) (d : List ℕ) → k < length ring → get_or ring k d ≢ app) → IsRing (Lists before) ring
    stood off = record {
      several = is.several;
      different = is.different;
      next = λ k d lt. lists (get_or ring k d) (get_or ring (k + 1) d) (off k d (omega arith)) (is.next k d lt);
      closes = λ d. lists (get_or ring (length ring - 1) d) (get_or ring 0 d)
          (off (length ring - 1) d (omega (arith, is.several))) (is.closes d);
    }
