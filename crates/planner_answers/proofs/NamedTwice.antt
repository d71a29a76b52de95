-- Sound content whose lists in force name a predecessor twice, and that `list links` has no answer on.
use Rattle.std.proofs.Common.{◌≡◌, ℕ, zero, suc, ◌-◌, ◌<◌, List, [], ◌∷◌, length, get_or, refl, sym}
use Rattle.std.proofs.Common.{ap, subst, ◌∙◌, inl, inr, arith, Option, None, Some, Ok, Err, IsTrue}
use Rattle.std.specs.Prelude.{codes}
use Rattle.std.specs.List.{Contains}
use Rattle.work_calendars.specs.Name.{IsName, is_name_byte}
use Rattle.external_dependencies.specs.Link.{Lists}
use Rattle.external_dependencies.specs.Loop.{OnLoop}
use Rattle.external_dependencies.specs.declared.links.Link.{Link}
use Rattle.external_dependencies.specs.declared.rows.PlacedRow.{PlacedRow}
use Rattle.external_dependencies.proofs.OrderLemmas.{named_once}
use Rattle.app_definitions.specs.Definitions.{no_definitions}
use Rattle.planner_machine.specs.declared.content.Bounds.{Bounds}
use Rattle.planner_machine.specs.Content.{Content, IsOnlyAt, midnight, nothing_known}
use Rattle.planner_machine.specs.Pairs.{ArePairs}
use Rattle.planner_machine.specs.Sound.{AreBounds, IsLink, IsSound}
use Rattle.planner_machine.specs.Statement.{Answer, ListLinks, Steps}
use Rattle.planner_machine.proofs.SeatLemmas.{not_empty}
use Rattle.planner_answers.specs.Answers.{LacksAnswer}

abbrev first_link : Link
first_link = record { app = codes "A"; predecessor = codes "B"; within = None }

abbrev second_link : Link
second_link = record { app = codes "A"; predecessor = codes "B"; within = Some 1 }

abbrev one_day : Bounds
one_day = record { first_day = 1000; last_day = 1000; plan_end = midnight 1000 }

-- a plan of one day without a row, and two links of one application and one predecessor
abbrev named_twice : Content
named_twice = record {
  definitions = no_definitions;
  sets = record {
    bounds = Some one_day;
    issued = 0;
    ltp = λ serial. None;
    cp = λ serial. None;
    history = λ serial. None;
    deletions = λ serial. None;
  };
  in_force = first_link ∷ second_link ∷ [];
  pairs = [];
  jobs = λ number. None;
}

nowhere : (serial : ℕ) (p : PlacedRow) → IsOnlyAt named_twice.sets serial p → ⊥
nowhere serial p there = not_empty named_twice.sets serial p there refl

nothing_in : {X : Type 0} (x : X) → Contains [] x → ⊥
nothing_in x (k, lt, is) = omega (arith, lt)

at_bounds : (P : Bounds → Type 0) → P one_day → (b : Bounds) → named_twice.sets.bounds ≡ Some b → P b
at_bounds P has b is = let whole : Some one_day ≡ Some b = is in let same : one_day ≡ b = cc in subst P same has

letter : (b : ℕ) → IsTrue (is_name_byte b) → (i d : ℕ) → i < 1 → IsTrue (is_name_byte (get_or (b ∷ []) i d))
letter b is zero d lt = is
letter b is (suc i) d lt = absurd (omega (arith, lt))

name_a : IsName (codes "A")
unfolding is_name_byte
name_a = record { not_empty = omega arith; fits = omega arith; alphabet = letter 65 refl; start = refl }

name_b : IsName (codes "B")
unfolding is_name_byte
name_b = record { not_empty = omega arith; fits = omega arith; alphabet = letter 66 refl; start = refl }

-- each link is one of the two
module _ (P : Link → Type 0) (first : P first_link) (second : P second_link) where
  of_both : (link : Link) → Contains named_twice.in_force link → P link
  of_both link (zero, lt, is) = subst P is first
  of_both link (suc zero, lt, is) = subst P is second
  of_both link (suc (suc k), lt, is) = absurd (omega (arith, lt))

from_a : (x y : List ℕ) → Lists named_twice.in_force x y → (codes "A" ≡ x) × (codes "B" ≡ y)
from_a x y (within, there) =
    of_both (λ link. (codes "A" ≡ link.app) × (codes "B" ≡ link.predecessor)) (refl, refl) (refl, refl)
    (record { app = x; predecessor = y; within = within }) there

-- a ring would begin at the one application, and at the other
no_loop : (app : List ℕ) → OnLoop named_twice.in_force app → ⊥
no_loop app (ring, is, there) =
    let several = is.several in
    let start = (from_a (get_or ring 0 []) (get_or ring 1 []) (is.next 0 [] (omega (arith, several)))).0 in
    let end = (from_a (get_or ring (length ring - 1) []) (get_or ring 0 []) (is.closes [])).1 in
    let letters : ◌≡◌ {A = List ℕ} (65 ∷ []) (66 ∷ []) = start ∙ sym end in
    let no : ◌≡◌ {A = ℕ} 65 66 = cc in
    omega (arith, no)

no_pairs : ArePairs [] named_twice.in_force named_twice.sets []
no_pairs = record {
  rising = λ i j d lt within. absurd (omega (arith, within));
  exactly = λ pair. (
    (λ h. absurd (nothing_in pair h)),
    λ h. elim h [
      | inl waits ↦ absurd (nowhere pair.successor waits.placed waits.stands)
      | inr stays ↦ absurd (nowhere pair.successor stays.placed stays.stands)
    ],
  );
}

twice_sound : IsSound nothing_known → IsSound named_twice
twice_sound empty = record {
  ranges = record {
    definitions = empty.ranges.definitions;
    rows = λ serial p there. absurd (nowhere serial p there);
    days = at_bounds _ ((omega arith, omega arith), (omega arith, omega arith), (omega arith, omega arith));
    links = of_both IsLink (name_a, name_b, tt) (name_a, name_b, (omega arith, omega arith));
  };
  bounds = record {
    before = λ is. let no : Some one_day ≡ None = is in absurd (let x : ⊥ = cc in x);
    after = at_bounds AreBounds (record {
      days = omega arith;
      last = omega arith;
      begun = omega arith;
      ended = omega arith;
    });
  };
  serials = record {
    placed = λ serial above below. absurd (omega (arith, above, below));
    unissued = λ serial past. refl;
    numbered = λ serial p there. absurd (nowhere serial p there);
  };
  keys = λ m n p q there other live live' same. absurd (nowhere m p there);
  arrivals = record {
    in_bounds = λ b is serial p there. absurd (nowhere serial p there);
    not_deleted = λ serial row is. let no : None ≡ Some row = is in absurd (let x : ⊥ = cc in x);
  };
  sizes = record { planned = omega arith; issued = omega arith };
  lists = no_loop;
  pairs = record {
    settled = no_pairs;
    complete = λ pair there. absurd (nothing_in pair there);
    one_each = λ successor m n p q closed there. absurd (nothing_in _ there);
    in_time = λ pair p q there. absurd (nothing_in pair there);
    no_loop = λ serial (ring, is, there). let several = is.several in
        nothing_in _ (is.next 0 0 (omega (arith, several))).0;
  };
  jobs = λ number job is. let no : None ≡ Some job = is in absurd (let x : ⊥ = cc in x);
}

never_listed : (a : Answer) (c' : Content) → Steps (ListLinks None) named_twice a c' → ⊥
never_listed (Err r) c' (least, same) = least.0
never_listed (Ok reply) c' (none, (same, (shown, lists, is))) =
    let one = named_once shown lists.rising first_link second_link
    ((lists.exactly first_link).1 ((zero, omega arith, refl), tt))
    ((lists.exactly second_link).1 ((suc zero, omega arith, refl), tt)) (refl, refl) in
    let limits : ◌≡◌ {A = Option ℕ} None (Some 1) = ap (λ (l : Link). l.within) one in
    cc

pub lacks_answer : IsSound nothing_known → LacksAnswer
lacks_answer empty = (named_twice, twice_sound empty, never_listed)
