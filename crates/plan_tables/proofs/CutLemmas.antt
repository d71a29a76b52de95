-- Lists that are cut have a part of what they had, and keep the same content beside the tables.
use Rattle.std.proofs.Common.{◌≡◌, ◌∙◌, Contains, List, Option, ap, subst, sym, true}
use Rattle.std.proofs.Math.Logic.{∥∥₁_map}
use Rattle.sqlite.specs.State.{HasCleanDisk, State}
use Rattle.external_dependencies.specs.declared.pairs.Pair.{Pair}
use Rattle.planner_machine.specs.Content.{Content}
use Rattle.planner_machine.specs.Sound.{IsSound}
use Rattle.planner_machine.specs.declared.content.Bounds.{Bounds}
use Rattle.plan_store.specs.Parts.{IsPartOf, Rest, is_planned, rest_of, with_rest}
use Rattle.plan_store.specs.Views.{bars}
use Rattle.plan_tables_opening.specs.Opened.{IsStored}
use Rattle.plan_tables_schema.specs.Rows.{tables_of}
use Rattle.plan_tables_windows.specs.Fetching.{told_rest}
use Rattle.plan_tables.specs.Kept.{IsKept, LooksOn, kept_in}

-- a part of a part is a part
pub part_within : (rest : Rest) (was now : Content) → with_rest (rest_of was) now ≡ was → IsPartOf (rest_of was) now
    → IsPartOf rest was → IsPartOf rest now
part_within rest was now same less more =
    let pairs : now.pairs ≡ was.pairs = ap (λ (c : Content). c.pairs) same in
    let bounds : now.sets.bounds ≡ was.sets.bounds = ap (λ (c : Content). c.sets.bounds) same in
    let ltp : now.sets.ltp ≡ was.sets.ltp = ap (λ (c : Content). c.sets.ltp) same in
    let cp : now.sets.cp ≡ was.sets.cp = ap (λ (c : Content). c.sets.cp) same in
    record {
      history = λ serial row is. more.history serial row (less.history serial row is);
      deletions = λ serial deletion is. more.deletions serial deletion (less.deletions serial deletion is);
      named = λ pair there planned.
          let was_there = subst (λ (all : List Pair). Contains all pair) pairs there in
          let was_planned = subst (λ (s : Content). is_planned s.sets pair.successor ≡ true) same planned in
          less.named pair there planned ∙ more.named pair was_there was_planned;
      bars = λ serial deletion is barred.
          less.bars serial deletion (more.bars serial deletion is
          (subst (λ (b : Option Bounds). bars b deletion ≡ true) bounds barred)) barred;
    }

module _ (s : State) (was now : Content)
    (same : (rest : Rest) → with_rest rest now ≡ with_rest rest was) where
  -- the tables and the lists keep what they kept
  pub cut_same : kept_in s now ≡ kept_in s was
  cut_same = same (told_rest (tables_of s.now.trees))

  pub kept_cut : ((rest : Rest) → IsPartOf rest was → IsPartOf rest now) → IsKept s was → IsKept s now
  kept_cut part kept = record {
    stored = subst (IsStored s) (sym cut_same) kept.stored;
    sound = subst IsSound (sym cut_same) kept.sound;
    part = part (told_rest (tables_of s.now.trees)) kept.part;
  }

  pub held_cut : ((rest : Rest) → IsPartOf rest was → IsPartOf rest now) → ∥ (HasCleanDisk s → IsKept s was) ∥₁
      → ∥ (HasCleanDisk s → IsKept s now) ∥₁
  held_cut part held = ∥∥₁_map held (λ h clean. kept_cut part (h clean))

  pub looks_cut : (new : State) (later : Content) → LooksOn s new now later → LooksOn s new was later
  looks_cut new later looks = record {
    clean = looks.clean;
    opens = looks.opens;
    same = λ can. looks.same can ∙ cut_same;
    crash = looks.crash;
  }
