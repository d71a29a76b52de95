-- Sound content that is only known to be sound is sound: what soundness names is determined, or found by a search.
use Rattle.std.proofs.Common.{◌⊎◌, ℕ, inl, inr}
use Rattle.std.proofs.Math.Logic.{∥∥₁_elim, ∥∥₁_map}
use Rattle.std.proofs.Props.{props}
use Rattle.std.specs.List.{Contains}
use Rattle.std.specs.Prelude.{Result, Ok, Err}
use Rattle.occurrences.specs.Place.{IsComplete}
use Rattle.occurrences.specs.declared.place.Place.{Place}
use Rattle.occurrences.specs.declared.place.Place.TheVariants.{LongTerm, Current, History, Deleted}
use Rattle.occurrences.specs.declared.refusal.Refusal.{Refusal}
use Rattle.occurrences.specs.declared.refusal.Refusal.TheVariants as refusal
use Rattle.occurrences.specs.declared.reply.Reply.{Reply}
use Rattle.occurrences.specs.declared.reply.Reply.TheVariants.{Changed, Defined, Made, Moved, Numbered, Rows, Undefined}
use Rattle.occurrences.specs.declared.row.Origin.{Origin}
use Rattle.occurrences.specs.declared.row.Origin.TheVariants.{Generated, Added}
use Rattle.external_dependencies.specs.declared.links.Link.{Link}
use Rattle.external_dependencies.specs.declared.pairs.Pair.{Pair}
use Rattle.external_dependencies.specs.declared.rows.PlacedRow.{PlacedRow}
use Rattle.planner_machine.specs.declared.content.Bounds.{Bounds}
use Rattle.planner_machine.specs.declared.job.Job.{Job}
use Rattle.planner_machine.specs.Content.{Content, Sets, IsOnlyAt}
use Rattle.planner_machine.specs.Pairs.{IsKeptPair, IsOpenPair}
use Rattle.planner_machine.specs.Sound.{AreBounds, AreNumbered, ArrivesIn, HasBounds, HasPairs, HasRanges, HaveArrivals}
use Rattle.planner_machine.specs.Sound.{HaveOwnKeys, HaveSizes, IsJob, IsKeptReply, IsLink, IsOrigin, IsRow, IsSound}
use Rattle.planner_machine.specs.Sound.{IsUnplanned}
use Rattle.app_definition_soundness.proofs.DefinitionsAgain.{definitions_again, limit_prop, name_prop}
use Rattle.app_definition_soundness.proofs.PairsAgain.{candidate_prop, contains_again, row_prop, seat_set}
use Rattle.app_definition_soundness.proofs.PairsAgain.{settled_again}
use Rattle.app_definition_soundness.proofs.Searches.{no_prop}

number_set : IsSet ℕ
number_set = hlevel props

-- ranges

origin_prop : (origin : Origin) → IsProp (IsOrigin origin)
origin_prop (Generated name) = hlevel props
origin_prop Added = hlevel props

placed_prop : (p : PlacedRow) → IsProp (IsRow p.row)
placed_prop p = hlevel (props, origin_prop)

link_prop : (link : Link) → IsProp (IsLink link)
link_prop link = hlevel (props, name_prop, limit_prop)

module _ (c : Content) where
  ranges_again : ∥ HasRanges c ∥₁ → HasRanges c
  ranges_again some = record {
    definitions = definitions_again c.definitions (∥∥₁_map some (λ (h : HasRanges c). h.definitions));
    rows = λ serial p at. ∥∥₁_elim some (placed_prop p) (λ (h : HasRanges c). h.rows serial p at);
    days = λ b is. ∥∥₁_elim some (let prop : IsProp _ = hlevel props in prop) (λ (h : HasRanges c). h.days b is);
    links = λ link there. ∥∥₁_elim some (link_prop link) (λ (h : HasRanges c). h.links link there);
  }

  -- bounds

  unplanned_prop : IsProp (IsUnplanned c)
  unplanned_prop = hlevel (props, seat_set)

  bounds_prop : (b : Bounds) → IsProp (AreBounds b)
  bounds_prop b = hlevel props

  bounds_again : ∥ HasBounds c ∥₁ → HasBounds c
  bounds_again some = record {
    before = λ none. ∥∥₁_elim some unplanned_prop (λ (h : HasBounds c). h.before none);
    after = λ b is. ∥∥₁_elim some (bounds_prop b) (λ (h : HasBounds c). h.after b is);
  }

-- serials, keys and arrivals

module _ (s : Sets) where
  numbered_again : ∥ AreNumbered s ∥₁ → AreNumbered s
  numbered_again some = record {
    placed = λ serial from to.
        let found = ∥∥₁_elim some (row_prop s (λ p. Unit {0}) (λ p. hlevel props) serial)
        (λ (h : AreNumbered s). let at = h.placed serial from to in (at.0, (at.1, tt))) in
        (found.0, found.1.0);
    unissued = λ serial past. ∥∥₁_elim some (seat_set _ _) (λ (h : AreNumbered s). h.unissued serial past);
    numbered = λ serial p at. ∥∥₁_elim some (number_set _ _) (λ (h : AreNumbered s). h.numbered serial p at);
  }

  keys_again : ∥ HaveOwnKeys s ∥₁ → HaveOwnKeys s
  keys_again some m n p q at_m at_n live lives same =
      ∥∥₁_elim some (number_set _ _) (λ (h : HaveOwnKeys s). h m n p q at_m at_n live lives same)

  arrives_prop : (b : Bounds) (ia : ℕ) (place : Place) → IsProp (ArrivesIn b ia place)
  arrives_prop b ia LongTerm = hlevel props
  arrives_prop b ia (Current status) = hlevel props
  arrives_prop b ia History = hlevel props
  arrives_prop b ia (Deleted reason) = hlevel props

  arrivals_again : ∥ HaveArrivals s ∥₁ → HaveArrivals s
  arrivals_again some = record {
    in_bounds = λ b is serial p at. ∥∥₁_elim some (arrives_prop b p.row.key.ia p.place)
        (λ (h : HaveArrivals s). h.in_bounds b is serial p at);
    not_deleted = λ serial row stands generated other deletion deleted by same. ∥∥₁_elim some no_prop
        (λ (h : HaveArrivals s). h.not_deleted serial row stands generated other deletion deleted by same);
  }

  sizes_prop : IsProp (HaveSizes s)
  sizes_prop = hlevel props

-- pairs

complete_prop : (place : Place) → IsProp (IsComplete place)
complete_prop LongTerm = hlevel props
complete_prop (Current status) = hlevel props
complete_prop History = hlevel props
complete_prop (Deleted reason) = hlevel props

module _ (c : Content) (numbered : AreNumbered c.sets) (some : ∥ HasPairs c ∥₁) where
  stands_again : (pair : Pair) → Contains c.pairs pair → (p : PlacedRow) × (IsOnlyAt c.sets pair.successor p × Unit {0})
  stands_again pair there = ∥∥₁_elim some (row_prop c.sets (λ p. Unit {0}) (λ p. hlevel props) pair.successor)
      (λ (h : HasPairs c). stands ((h.settled.exactly pair).0 there))
    where
      stands : IsOpenPair c.in_force c.sets pair ⊎ IsKeptPair c.pairs c.sets pair
          → (p : PlacedRow) × (IsOnlyAt c.sets pair.successor p × Unit {0})
      stands (inl is) = (is.placed, (is.stands, tt))
      stands (inr kept) = (kept.placed, (kept.stands, tt))

  exactly_again : (pair : Pair) → Contains c.pairs pair
      → IsOpenPair c.in_force c.sets pair ⊎ IsKeptPair c.pairs c.sets pair
  exactly_again pair there =
      let (p, at) = stands_again pair there in
      settled_again c.in_force c.sets numbered pair p at.0 c.pairs there
      (∥∥₁_map some (λ (h : HasPairs c). (h.settled.exactly pair).0 there))

  pairs_again : HasPairs c
  pairs_again = record {
    settled = record {
      rising = ∥∥₁_elim some (let prop : IsProp _ = hlevel props in prop) (λ (h : HasPairs c). h.settled.rising);
      exactly = λ pair. (
        exactly_again pair,
        λ is. contains_again c.pairs pair (∥∥₁_map some (λ (h : HasPairs c). (h.settled.exactly pair).1 is)),
      );
    };
    complete = λ pair there closed.
        let found = ∥∥₁_elim some
        (row_prop c.sets (λ p. IsComplete p.place) (λ p. complete_prop p.place) pair.predecessor)
        (λ (h : HasPairs c). let (p, at, is) = h.complete pair there closed in (p, (at, is))) in
        (found.0, found.1.0, found.1.1);
    one_each = λ successor m n p q closed one other at_m at_n same. ∥∥₁_elim some (number_set _ _)
        (λ (h : HasPairs c). h.one_each successor m n p q closed one other at_m at_n same);
    in_time = λ pair p q there closed at_p at_q. ∥∥₁_elim some (candidate_prop _ _ _ _)
        (λ (h : HasPairs c). h.in_time pair p q there closed at_p at_q);
    no_loop = λ serial on. ∥∥₁_elim some no_prop (λ (h : HasPairs c). h.no_loop serial on);
  }

-- jobs

reply_prop : (reply : Result Reply Refusal) → IsProp (IsKeptReply reply)
reply_prop (Ok (Defined names)) = hlevel props
reply_prop (Ok Undefined) = hlevel props
reply_prop (Ok (Made made withdrawn)) = hlevel props
reply_prop (Ok (Numbered serial)) = hlevel props
reply_prop (Ok (Changed serial status)) = hlevel props
reply_prop (Ok (Moved moved carried completed deleted)) = hlevel props
reply_prop (Ok (Rows rows)) = hlevel props
reply_prop (Err refusal.NotAStatement) = hlevel props
reply_prop (Err (refusal.FaultyData place)) = hlevel props
reply_prop (Err refusal.JobWithAnotherText) = hlevel props
reply_prop (Err refusal.NotDefined) = hlevel props
reply_prop (Err refusal.NoPlan) = hlevel props
reply_prop (Err refusal.PlanExists) = hlevel props
reply_prop (Err (refusal.CalendarUndefined app)) = hlevel props
reply_prop (Err (refusal.PeriodUndefined app)) = hlevel props
reply_prop (Err refusal.DatesOutOfRange) = hlevel props
reply_prop (Err (refusal.Loop app)) = hlevel props
reply_prop (Err refusal.NoActiveApplication) = hlevel props
reply_prop (Err refusal.KeyIsLive) = hlevel props
reply_prop (Err refusal.NoSuchOccurrence) = hlevel props
reply_prop (Err refusal.StatusForbids) = hlevel props
reply_prop (Err (refusal.PredecessorUncompleted serial)) = hlevel props
reply_prop (Err refusal.TooManyRows) = hlevel props
reply_prop (Err refusal.PlanEndOutOfRange) = hlevel props

job_prop : (number : ℕ) (job : Job) → IsProp (IsJob number job)
job_prop number job = hlevel (props, reply_prop)

-- all

pub sound_again : (c : Content) → ∥ IsSound c ∥₁ → IsSound c
sound_again c some =
    let serials = numbered_again c.sets (∥∥₁_map some (λ (h : IsSound c). h.serials)) in
    record {
      ranges = ranges_again c (∥∥₁_map some (λ (h : IsSound c). h.ranges));
      bounds = bounds_again c (∥∥₁_map some (λ (h : IsSound c). h.bounds));
      serials = serials;
      keys = keys_again c.sets (∥∥₁_map some (λ (h : IsSound c). h.keys));
      arrivals = arrivals_again c.sets (∥∥₁_map some (λ (h : IsSound c). h.arrivals));
      sizes = ∥∥₁_elim some (sizes_prop c.sets) (λ (h : IsSound c). h.sizes);
      lists = λ app on. ∥∥₁_elim some no_prop (λ (h : IsSound c). h.lists app on);
      pairs = pairs_again c serials (∥∥₁_map some (λ (h : IsSound c). h.pairs));
      jobs = λ number job is. ∥∥₁_elim some (job_prop number job) (λ (h : IsSound c). h.jobs number job is);
    }
