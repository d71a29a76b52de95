-- What a plan of an older version becomes.
use Rattle.std.proofs.Common.{◌≡◌, ◌⊎◌, ◌∙◌, ◌≤◌, ap, arith, inl, inr, subst, sym, ℕ}
use Rattle.std.specs.Prelude.{Option, Some, None, Ok}
use Rattle.sqlite.specs.Effect.{Database}
use Rattle.sqlite.specs.State.{HasCleanDisk, IsUnchanged, State, Survives}
use Rattle.sqlite.proofs.StateLemmas.{survives_then}
use Rattle.plan_tables_schema.specs.Texts.{select_sql}
use Rattle.plan_tables_schema.specs.declared.tables.TheConstants.{SCHEMA_VERSION}
use Rattle.plan_tables_opening.specs.Foreign.{RefusesVersion, version_sql}
use Rattle.plan_tables_opening.proofs.ForeignLemmas.{version_reads}
use Rattle.plan_tables_opening.proofs.QueryLemmas.{refused_same}
use Rattle.plan_migrations.specs.Migrating.{IsMigrated, IsUnmigrated, MayRenew, RenewsFrom}
use Rattle.plan_migrations.specs.Older.{IsCurrent, IsFoundAs}
use Rattle.plan_migrations.specs.Schemas.{IsKnownVersion, IsOfVersion, ShowsVersion, TellsVersion}
use Rattle.plan_migrations.specs.declared.faults.MigrateFault.{MigrateFault}
use Rattle.plan_migrations.specs.declared.faults.MigrateFault.TheVariants.{UnknownVersion, OtherTable, Rows, Memory, Device}
use Rattle.plan_migrations.specs.declared.versions.TheConstants.{FIRST_VERSION}
use Rattle.plan_migrations.proofs.AskLemmas.{device_since}
use Rattle.plan_migrations.proofs.ReadLemmas.{renewed_since, unrenewed_since}
use Rattle.plan_migrations.proofs.TextLemmas.{select_reads}
use Rattle.plan_migrations.proofs.TurnLemmas.{answer_since, failure_since, memory_since, other_since, refused_since}
use Rattle.plan_migrations.proofs.TurnLemmas.{same_if_version, shown_since, version_since}

same_if_refused : (a b : State) → RefusesVersion a b → IsUnchanged a b
same_if_refused a b h = refused_same version_sql version_reads a b h.0 h.1 h.2

-- the version is shown, or refused, so the database is as it was
pub same_if_told : (a b : State) (found : Option ℕ) → TellsVersion a b (Ok found) → IsUnchanged a b
same_if_told a b None h = same_if_refused a b h
same_if_told a b (Some v) h = same_if_version a b v h.1

pub current_if_none : (a b : State) (found : Option ℕ) → found ≡ None → TellsVersion a b (Ok found) → IsCurrent a b
current_if_none a b found is h =
    let none : RefusesVersion a b = subst (λ (o : Option ℕ). TellsVersion a b (Ok o)) is h in
    let same = same_if_refused a b none in
    record { is_open = same.0.is_open; current = inl (inl none, same.0.now_is) }

pub current_if_known : (a b : State) (found : Option ℕ) (v : ℕ) → found ≡ Some v → (v ≡ FIRST_VERSION → ⊥)
    → TellsVersion a b (Ok found) → IsCurrent a b
current_if_known a b found v is other h =
    let known : IsKnownVersion v × ShowsVersion v a b = subst (λ (o : Option ℕ). TellsVersion a b (Ok o)) is h in
    let same = same_if_version a b v known.1 in
    let current : v ≡ SCHEMA_VERSION = elim known.0 [ inl first ↦ absurd (other first) | inr now ↦ now ] in
    record {
      is_open = same.0.is_open;
      current = inl (inr (subst (λ n. ShowsVersion n a b) current known.1), same.0.now_is);
    }

-- a database that was asked for its version alone is as it was
pub found_if_told : (a b : State) (found : Option ℕ) (r : Option ℕ) → found ≡ r → (r ≡ Some FIRST_VERSION → ⊥)
    → TellsVersion a b (Ok found) → IsFoundAs r a b
found_if_told a b found r is other h =
    record { first = λ one. absurd (other one); other = λ _. (same_if_told a b found h).0.now_is }

pub some_is : {x y : ℕ} → Some x ≡ Some y → x ≡ y
some_is is = cc

pub none_is_some : (x : ℕ) → None ≡ Some x → ⊥
none_is_some x is = absurd (cc)

never_zero : (v : ℕ) → v ≡ 0 → IsKnownVersion v → ⊥
never_zero v zero (inl one) = omega (arith, zero, one)
never_zero v zero (inr two) = omega (arith, zero, two)

never_first : SCHEMA_VERSION ≡ FIRST_VERSION → ⊥
never_first is = omega (arith, is)

module _ (a b c : State) (same : IsUnchanged a b) (more : a.faults ≤ b.faults) (limit : b.step_limit ≡ a.step_limit) where
  pub current_since : (found left : ℕ) → IsMigrated b c found left → IsCurrent a c
  current_since found left (inl none) =
      let up = (same_if_refused b c none.2).0.is_open in
      record {
        is_open = up;
        current = inl (
          inl (refused_since version_sql version_reads a b c same more limit none.2),
          none.3.now up ∙ same.0.now_is,
        );
      }
  current_since found left (inr (inl known)) =
      let up = (same_if_version b c _ known.2).0.is_open in
      record {
        is_open = up;
        current = inl (inr (version_since a b c SCHEMA_VERSION same known.2), known.4.now up ∙ same.0.now_is);
      }
  current_since found left (inr (inr first)) =
      record { is_open = first.2.is_open; current = inr (renewed_since a b c same first.2) }

  -- the version that a migration found is told, as it was or as it is now
  pub found_told : (found left : ℕ) (r : Option ℕ) → IsMigrated b c found left → (found ≡ 0 → r ≡ None)
      → ((found ≡ 0 → ⊥) → r ≡ Some found) → TellsVersion a b (Ok (Some FIRST_VERSION))
      → TellsVersion a b (Ok r) ⊎ TellsVersion a c (Ok r)
  found_told found left r (inl none) is-none is-some was =
      inr (subst (λ (o : Option ℕ). TellsVersion a c (Ok o)) (sym (is-none none.0))
      (refused_since version_sql version_reads a b c same more limit none.2))
  found_told found left r (inr (inl known)) is-none is-some was =
      let is : r ≡ Some found = is-some (λ zero. never_zero found zero (inr known.0)) in
      inr (subst (λ (o : Option ℕ). TellsVersion a c (Ok o)) (sym is) (
        inr known.0,
        subst (λ v. ShowsVersion v a c) (sym known.0) (version_since a b c SCHEMA_VERSION same known.2),
      ))
  found_told found left r (inr (inr first)) is-none is-some was =
      let is : r ≡ Some found = is-some (λ zero. never_zero found zero (inl first.0)) in
      inl (subst (λ (o : Option ℕ). TellsVersion a b (Ok o)) (sym (is ∙ ap Some first.0)) was)

  -- and it says what became of the tables
  pub found_since : (found left : ℕ) (r : Option ℕ) → IsMigrated b c found left → (found ≡ 0 → r ≡ None)
      → ((found ≡ 0 → ⊥) → r ≡ Some found) → IsFoundAs r a c
  found_since found left r (inl none) is-none is-some =
      let is : r ≡ None = is-none none.0 in
      let up = (same_if_refused b c none.2).0.is_open in
      record { first = λ one. absurd (none_is_some FIRST_VERSION (sym is ∙ one)); other = λ _. none.3.now up ∙ same.0.now_is }
  found_since found left r (inr (inl known)) is-none is-some =
      let is : r ≡ Some found = is-some (λ zero. never_zero found zero (inr known.0)) in
      let up = (same_if_version b c _ known.2).0.is_open in
      record {
        first = λ one. absurd (never_first (some_is (sym (ap Some known.0) ∙ sym is ∙ one)));
        other = λ _. known.4.now up ∙ same.0.now_is;
      }
  found_since found left r (inr (inr first)) is-none is-some =
      let is : r ≡ Some found = is-some (λ zero. never_zero found zero (inl first.0)) in
      record { first = λ _. renewed_since a b c same first.2; other = λ other. absurd (other (is ∙ ap Some first.0)) }

  version_was : (v : ℕ) → IsOfVersion v b → IsOfVersion v a
  version_was v h = (h.0, answer_since a b version_sql h.0 same h.1, h.2)

  pub unmigrated_since : (f : MigrateFault) → IsUnmigrated b c f → IsUnmigrated a c f
  unmigrated_since UnknownVersion h = (h.0, shown_since version_sql version_reads a b c h.0 same h.1, h.2)
  unmigrated_since OtherTable (inl h) =
      inl (version_since a b c SCHEMA_VERSION same h.0, (h.1.0, other_since a b c same more limit h.1.0 h.1.1))
  unmigrated_since OtherTable (inr h) =
      inr (version_was FIRST_VERSION h.0, unrenewed_since a b c same more limit OtherTable h.1)
  unmigrated_since Rows (inl h) = absurd h
  unmigrated_since Rows (inr h) = inr (version_was FIRST_VERSION h.0, unrenewed_since a b c same more limit Rows h.1)
  unmigrated_since Memory (inl h) = inl (memory_since version_sql version_reads a b c same more limit h)
  unmigrated_since Memory (inr (inl h)) = inr (inl (
    version_was SCHEMA_VERSION h.0,
    failure_since a b c select_sql select_reads same more limit Memory h.1,
  ))
  unmigrated_since Memory (inr (inr h)) =
      inr (inr (version_was FIRST_VERSION h.0, unrenewed_since a b c same more limit Memory h.1))
  unmigrated_since Device h = device_since a b c same more h

pub survives_both : (a b c : State) → (HasCleanDisk b → IsUnchanged a b) → Survives a b (λ _. ⊥)
    → Survives b c (MayRenew b) → Survives a c (MayRenew a)
survives_both a b c same one two =
    survives_then a b c (λ _. ⊥) (MayRenew b) (MayRenew a) (λ _ db none. absurd none)
    (λ clean db h. subst (λ (d : Database). RenewsFrom d db) (same (omega (arith, two.clean, clean))).0.now_is h) one two
