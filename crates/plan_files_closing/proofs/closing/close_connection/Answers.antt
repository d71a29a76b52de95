use Rattle.std.proofs.Common.{◌≡◌, ◌∙◌, Bool, IsTrue, arith, false, inl, inr, not, refl, sym, true}
use Rattle.std.proofs.lemmas.Bool.{both_ways, cases_Bool}
use Rattle.std.proofs.Math.Logic.{∥∥₁_map}
use Rattle.std.specs.Prelude.{Err, Ok, OnOk, Result}
use Rattle.sqlite_store.specs.FileStore.{view}
use Rattle.sqlite_store.specs.Laws.{shut_is_broken}
use Rattle.plan_files_closing.proofs.StandLemmas.{clean_store, left_stands, stands_alone}
use Rattle.plan_files_closing.proofs.closing.close_connection.Goals as goal

pub returns-clause-honest : goal.returns-clause-honest
returns-clause-honest g c clean =
    omega (
      arith,
      c.into_store-store.ensures.quiet.clean,
      clean_store c.into_store-store.result c.close.result c.close.ensures (c.copy_log-files.ensures.keeps.clean clean),
    )

pub returns-clause-holds : goal.returns-clause-holds
returns-clause-holds g c clean left out =
    let it = c.into_store-store.result in
    let keeps = c.copy_log-files.ensures.keeps in
    let sure = clean_store it c.close.result c.close.ensures (keeps.clean clean) in
    ∥∥₁_map (left_stands it (c.into_store-store.ensures.numbered sure) (c.into_store-store.ensures.sound sure) g.met.D.Disk.seen_may_stay
    c.close.result c.copy_log-files.result.0 c.close.ensures keeps clean left out)
    (λ h. record { db = h.1.db; may = c.into_store-store.ensures.quiet.outcomes h.1.db h.1.allowed; both = h.1.both })

on_ok : {T E : Type 0} (r : Result T E) (P Q : Type 0) → (P → Q) → OnOk r P → OnOk r Q
on_ok (Ok x) P Q f h = f h
on_ok (Err e) P Q f h = tt

pub returns-clause-alone : goal.returns-clause-alone
returns-clause-alone g c =
    let it = c.into_store-store.result in
    let keeps = c.copy_log-files.ensures.keeps in
    on_ok c.copy_log-files.result.1 _ _ (λ alone clean left out.
    let sure = clean_store it c.close.result c.close.ensures (keeps.clean clean) in
    let numbered = c.into_store-store.ensures.numbered sure in
    let sound = c.into_store-store.ensures.sound sure in
    let stays = g.met.D.Disk.seen_may_stay in
    ∥∥₁_map (left_stands it numbered sound stays c.close.result c.copy_log-files.result.0 c.close.ensures keeps clean left out)
    (λ h. record {
      db = h.1.db;
      may = c.into_store-store.ensures.quiet.outcomes h.1.db h.1.allowed;
      both = h.1.both;
      alone = stands_alone it numbered sound stays c.close.result c.copy_log-files.result.0 c.close.ensures keeps clean alone left out h.0 h.1;
    })) c.copy_log-files.ensures.alone

un_not : (b : Bool) → IsTrue (not b) → b ≡ false
un_not true h = absurd cc
un_not false h = refl

pub returns-clause-open : goal.returns-clause-open
returns-clause-open g c known clean =
    let it = c.into_store-store.result in
    let sure = clean_store it c.close.result c.close.ensures (c.copy_log-files.ensures.keeps.clean clean) in
    elim (cases_Bool (view it).is_open) [
      | inl still ↦ (c.into_store-store.ensures.undone.kept sure).was_open still
      | inr shut ↦ absurd (both_ways (view it).is_broken (sym (c.is_broken-was_open.ensures.shown sure) ∙ un_not _ known) (shut_is_broken it shut))
    ]
