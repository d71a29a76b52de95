-- One thing after another is found out.
use Rattle.std.proofs.Common.{◌≡◌, ◌++◌, ◌∷◌, ℕ, Contains, Err, List, None, Ok, Option, Some, [], arith, inl, inr, refl}
use Rattle.std.proofs.Common.{Result, subst, sym, take}
use Rattle.std.proofs.lemmas.List.{take-append-drop}
use Rattle.std.proofs.lemmas.List.Elements.{Contains-append_left, Contains-push_cases}
use Rattle.std.proofs.Common.{drop}
use Rattle.std.specs.Prelude.{IsErrAnd}
use Rattle.sqlite.specs.Held.{Held}
use Rattle.sqlite.specs.Store.{Ghosts}
use Rattle.planner_machine.specs.Content.{Content}
use Rattle.plan_store.specs.Parts.{IsPartOf, Knows, KnowsDeletion, Rest}
use Rattle.plan_tables_windows.specs.Unknown.{HasMore}
use Rattle.plan_tables_lookups.specs.declared.faults.TableFault.{TableFault}
use Rattle.plan_tables_windows.specs.Fetching.{Fetches}
use Rattle.plan_tables_windows.proofs.FetchLemmas.{gathers_none, gathers_stopped, gathers_then}

-- each of them is so
abbrev pub Each : {X : Type 0} → (X → Rest → Content → Type 0) → List X → Rest → Content → Type 0
Each {X} Is xs rest c = (x : X) → Contains xs x → Is x rest c

pub no_item : {X : Type 0} (x : X) → Contains [] x → ⊥
no_item x there = omega (arith, there.1)

pub of_front : {X : Type 0} (n : ℕ) (xs : List X) (x : X) → Contains (take n xs) x → Contains xs x
of_front n xs x there = subst (λ l. Contains l x) (take-append-drop n xs)
    (Contains-append_left (take n xs) (drop n xs) x there)

module _ {S X : Type 0} (g : Ghosts S) (Is : X → Rest → Content → Type 0) where
  pub each_none : (held : Held S) (c : Content) → Fetches {T = Unit {0}} g held held c c (Ok tt) (Each Is [])
  each_none held c = gathers_none g held c (Ok tt) (Each Is []) tt (λ rest part sound x there. absurd (no_item x there))

  module _ (still : (x : X) (rest : Rest) (a b : Content) → IsPartOf rest b → HasMore rest a b → Is x rest a
      → Is x rest b)
      (old mid new : Held S) (was lists now : Content) (xs : List X) (x : X)
      (one : Fetches {T = Unit {0}} g old mid was lists (Ok tt) (Each Is xs)) where
    pub each_more : Fetches {T = Unit {0}} g mid new lists now (Ok tt) (Is x)
        → Fetches {T = Unit {0}} g old new was now (Ok tt) (Each Is (xs ++ x ∷ []))
    each_more two = gathers_then g old mid new was lists now (Ok tt) (Each Is xs) (Is x) (Each Is (xs ++ x ∷ [])) one
        two (λ rest part more before here y there. elim (Contains-push_cases xs x y there) [
          | inl earlier ↦ still y rest lists now part more (before y earlier)
          | inr same ↦ subst (λ z. Is z rest now) same here
        ])

    pub each_stops : (fault : TableFault) (R : Rest → Content → Type 0)
        → Fetches {T = Unit {0}} g mid new lists now (Err fault) (Is x)
        → (result : Result (Unit {0}) TableFault) → IsErrAnd result (λ f. f ≡ fault)
        → Fetches g old new was now result R
    each_stops fault R two = gathers_stopped g old new was now fault (λ _ _. Unit {0}) R
        (gathers_then g old mid new was lists now (Err fault) (Each Is xs) (Is x) (λ _ _. Unit {0}) one two
        (λ _ _ _ _ _. tt))

-- ---- what stays so as more is brought

still_known : {X : Type 0} (part now whole : Option X) → ((x : X) → part ≡ Some x → now ≡ Some x)
    → ((x : X) → now ≡ Some x → whole ≡ Some x) → part ≡ whole → now ≡ whole
still_known part (Some x) whole more of known = sym (of x refl)
still_known part None None more of known = refl
still_known part None (Some x) more of known = more x known

pub knows_still : (serial : ℕ) (rest : Rest) (a b : Content) → IsPartOf rest b → HasMore rest a b → Knows rest a serial
    → Knows rest b serial
knows_still serial rest a b part more known = still_known (a.sets.history serial) (b.sets.history serial)
    (rest.history serial) (more.history serial) (part.history serial) known

pub knows_deletion_still : (serial : ℕ) (rest : Rest) (a b : Content) → IsPartOf rest b → HasMore rest a b
    → KnowsDeletion rest a serial → KnowsDeletion rest b serial
knows_deletion_still serial rest a b part more known = still_known (a.sets.deletions serial) (b.sets.deletions serial)
    (rest.deletions serial) (more.deletions serial) (part.deletions serial) known
