use Rattle.std.proofs.Common.{◌∙◌, subst, sym}
use Rattle.sqlite.proofs.Callers.{memory_is_clean}
use Rattle.plan_migrations_remaking.specs.FirstSchema.{CanRemake}
use Rattle.plan_migrations.proofs.FirstStanding.{remake_iff}
use Rattle.plan_migrations.proofs.first_tables.has_first_tables.Goals as goal

pub returns : goal.returns
returns g c =
    let first = c.schema-2.ensures.value ∙ c.in_ok-make_first_tables.ensures (memory_is_clean
    c.make_first_tables.new.conn) c.in_ok-first.ensures.empty.2 in
    let changed = c.schema-3.ensures.value ∙ c.in_ok-make_changed_tables.ensures (memory_is_clean
    c.make_changed_tables.new.conn) c.in_ok-changed.ensures.empty.2 in
    let both = remake_iff _ _ _ first changed in
    let own = c.schema.ensures.value in (
      λ same. subst CanRemake own (both.0 (c.in_ok-can_remake.ensures.0 same)),
      λ can. c.in_ok-can_remake.ensures.1 (both.1 (subst CanRemake (sym own) can)),
    )
