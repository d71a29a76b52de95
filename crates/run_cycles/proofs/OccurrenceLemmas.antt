-- Run cycles name one occurrence at most at a day and time.
use Rattle.std.proofs.Common.{◌≡◌, ℕ, ◌<◌, Bool, List, length, get_or, sym, subst, ap, ◌∙◌, arith}
use Rattle.std.proofs.lemmas.List.{get_or_default}
use Rattle.run_cycles.specs.declared.cycles.Deadline.{Deadline}
use Rattle.run_cycles.specs.declared.cycles.CycleType.{CycleType}
use Rattle.run_cycles.specs.declared.cycles.CycleType.TheVariants.{Normal, Negative}
use Rattle.run_cycles.specs.declared.cycles.RunCycle.{RunCycle}
use Rattle.run_cycles.specs.declared.named.Named.{Named}
use Rattle.run_cycles.specs.Occurrence.{PeriodMap, HasDeadline, IsNormal, IsNameAtMost, NamesAt, GivesAt}
use Rattle.run_cycles.specs.Occurrence.{IsOccurrence, HaveOwnNames, deadline_of}
use Rattle.run_cycles.proofs.NameLemmas.{at_most_both}

deadline_of_kind : (kind : CycleType) (a b : Deadline) → HasDeadline kind a → HasDeadline kind b → a ≡ b
deadline_of_kind (Normal own) a b p q = p ∙ sym q
deadline_of_kind (Negative own) a b p q = absurd p

pub normal_of_deadline : (kind : CycleType) (a : Deadline) → HasDeadline kind a → IsNormal kind
normal_of_deadline (Normal own) a p = tt
normal_of_deadline (Negative own) a p = absurd p

module _ (cycles : List RunCycle) (periods : PeriodMap) (work : ℕ → Bool) where
  neither : (k j : ℕ) → (k < j → ⊥) → (j < k → ⊥) → k ≡ j
  neither k j a b = grind arith

  named_alike : (c e : RunCycle) (k j : ℕ) → HaveOwnNames cycles →
      k < length cycles → get_or cycles k c ≡ c → j < length cycles → get_or cycles j e ≡ e → c.name ≡ e.name → k ≡ j
  named_alike c e k j own in-k at-k in-j at-j same =
      let apart_k : k < j → ⊥ = λ h. own k j c h in-j (ap (λ x. x.name) at-k ∙
      same ∙ ap (λ x. x.name) (sym at-j ∙ get_or_default cycles j e c in-j)) in
      let apart_j : j < k → ⊥ = λ h. own j k e h in-k (ap (λ x. x.name) at-j ∙
      sym same ∙ ap (λ x. x.name) (sym at-k ∙ get_or_default cycles k c e in-k)) in
      neither k j apart_k apart_j

  -- of two occurrences of one day and time, the one's name is not after the other's
  name_at_most : (x y : Named) → IsOccurrence cycles periods work x →
      IsOccurrence cycles periods work y → x.day ≡ y.day → x.time ≡ y.time → IsNameAtMost x.run_cycle y.run_cycle
  name_at_most x y at-x at-y same-day same-time =
      let (k, e, in', at, given) = at-y.given in
      let (own, names, name) = given in
      let At : ℕ → ℕ → Type 0 = λ d t. NamesAt periods work d t e in
      let there : NamesAt periods work x.day x.time e = subst
      (λ d. At d x.time) (sym same-day) (subst (λ t. At y.day t) (sym same-time) names) in
      let least = at-x.least k e in' in
      let P : RunCycle → Type 0 = λ c. GivesAt periods work x.day x.time c → IsNameAtMost x.run_cycle c.name in
      subst (λ n. IsNameAtMost x.run_cycle n) (sym name) (subst P at least (
        normal_of_deadline e.kind own.0 own.1,
        there,
      ))

  -- the run cycles name one occurrence at most at a day and time
  pub one_occurrence : (x y : Named) → HaveOwnNames cycles →
      IsOccurrence cycles periods work x → IsOccurrence cycles periods work y → x.day ≡ y.day → x.time ≡ y.time → x ≡ y
  one_occurrence x y own at-x at-y same-day same-time =
      let (k, c, in-k, at-k, given-x) = at-x.given in
      let (j, e, in-j, at-j, given-y) = at-y.given in
      let (due-x, names-x, name-x) = given-x in
      let (due-y, names-y, name-y) = given-y in
      let same-name : x.run_cycle ≡ y.run_cycle = at_most_both x.run_cycle y.run_cycle
      (name_at_most x y at-x at-y same-day same-time) (name_at_most y x at-y at-x (sym same-day) (sym same-time)) in
      let same-place : k ≡ j = named_alike c e k j own in-k at-k in-j at-j (sym name-x ∙ same-name ∙ name-y) in
      let same-cycle : c ≡ e = sym at-k ∙ get_or_default cycles k c e in-k ∙
      ap (λ n. get_or cycles n e) same-place ∙ at-j in
      let (own-x, has-x, is-x) = due-x in
      let (own-y, has-y, is-y) = due-y in
      let same-own : own-x ≡ own-y = deadline_of_kind e.kind own-x own-y (let P : RunCycle →
      Type 0 = λ z. HasDeadline z.kind own-x in subst P same-cycle has-x) has-y in
      let same-deadline : x.deadline ≡ y.deadline = is-x ∙ ap (λ n. deadline_of n own-x) same-day ∙
      ap (λ o. deadline_of y.day o) same-own ∙ sym is-y in
      λ i. record { day = same-day i; time = same-time i; run_cycle = same-name i; deadline = same-deadline i }
