-- All definitions, and the names that have one.
use Rattle.std.proofs.Common.{◌≡◌, ℕ, List, [], subst, sym, refl, arith, Option, None, Some}
use Rattle.std.specs.Prelude.{IsSome}
use Rattle.std.specs.Cmp.Lexicographic.{slice_cmp}
use Rattle.std.specs.Ordering.{nat_cmp}
use Rattle.std.specs.FinMap as map
use Rattle.std.specs.List.{All, Contains}
use Rattle.std.proofs.lemmas.List.Elements.{All-contains, All-contains_itself, All-weaker}
use Rattle.app_definition_records.specs.ByName.{AreNamesOf, FitsKind, IsDefinedBy, records_of}
use Rattle.app_definition_records.specs.Records.{AllGood, Record, Records}
use Rattle.planner_machine.specs.Sound.{AreDefinable}
use Rattle.app_definition_soundness.specs.Given.{AllGiven, IsGiven}

some_of : {D : Type 0} (o : Option D) (d : D) → o ≡ Some d → IsSome o
some_of o d is = subst IsSome (sym is) refl

module _ {D : Type 0} (Test : List ℕ → D → Type 0) (definitions : map.FinMap (slice_cmp nat_cmp) D) where
  abbrev pub IsTested : List ℕ → Type 0
  IsTested name = (d : D) → map.get definitions name ≡ Some d → Test name d

  pub all_from : (names : List (List ℕ)) → AreNamesOf names definitions → All IsTested names
      → AllGiven Test definitions
  all_from names are all name d is =
      All-contains IsTested names name all ((are.exactly name).1 (some_of (map.get definitions name) d is)) d is

  pub all_to : (names : List (List ℕ)) → AllGiven Test definitions → All IsTested names
  all_to names all = All-weaker (Contains names) IsTested (λ name there d is. all name d is) names
      (All-contains_itself names)

-- definitions are definable where each is given
module _ {D : Type 0} (HasFields : ℕ → Type 0) (Fits : Records → Record → Type 0) (IsMadeOf : D → Records → Type 0)
    (definitions : map.FinMap (slice_cmp nat_cmp) D) where
  pub definable_to : AllGiven (IsGiven HasFields Fits IsMadeOf) definitions
      → AreDefinable HasFields Fits IsMadeOf (map.get definitions)
  definable_to all name =
      elim (map.get definitions name) as (λ o. map.get definitions name ≡ o → (rows : Records)
      × AllGood (FitsKind HasFields Fits) rows × IsDefinedBy IsMadeOf o (records_of name rows)) [
        | None ↦ λ is. ([], (λ k lt. absurd (omega (arith, lt))), refl)
        | Some d ↦ λ is. all name d is
      ] refl

  pub definable_from : AreDefinable HasFields Fits IsMadeOf (map.get definitions)
      → AllGiven (IsGiven HasFields Fits IsMadeOf) definitions
  definable_from definable name d is =
      let (rows, good, by) = definable name in
      (rows, good, subst (λ o. IsDefinedBy IsMadeOf o (records_of name rows)) is by)
