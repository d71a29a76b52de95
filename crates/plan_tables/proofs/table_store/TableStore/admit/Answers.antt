use Rattle.std.proofs.Common.{◌∙◌, arith, subst, sym, true≢false}
use Rattle.std.proofs.Math.Logic.{∥∥₁_elim}
use Rattle.sqlite.specs.Held.{Held, state}
use Rattle.sqlite.specs.State.{HasCleanDisk}
use Rattle.plan_store.specs.Contents.{content_of}
use Rattle.plan_tables.specs.Kept.{CanRead, KeepsSound, NotesIn, kept_in}
use Rattle.plan_tables.specs.Stored.{LeavesSound}
use Rattle.plan_tables.proofs.LookLemmas.{kept_sure}
use Rattle.plan_tables.proofs.MetLemmas.{fits_lists}
use Rattle.plan_tables.proofs.SetLemmas.{no_prop}
use Rattle.plan_tables.proofs.ToldLemmas.{told_by_tables}
use Rattle.plan_tables.proofs.table_store.TableStore.admit.Goals as goal

pub invariant_of-self : goal.invariant_of-self
invariant_of-self g c =
    let old = c.args.self.now in
    record {
      jobless = old.jobless;
      stored = ∣ (λ none clean doubt. absurd (let h : ⊥ = omega (arith, c.blame.ensures.failures, none) in h)) ∣₁;
      told = subst (λ (conn : Held _). ∥ (HasCleanDisk (state g.S.Store conn) → LeavesSound (state g.S.Store conn)) ∥₁)
          (sym c.blame.ensures.conn) old.told;
      noted = subst (λ (conn : Held _). NotesIn (state g.S.Store conn) old.gone) (sym c.blame.ensures.conn) old.noted;
      sound = subst (λ (conn : Held _). KeepsSound (state g.S.Store conn) (content_of old.lists))
          (sym c.blame.ensures.conn) old.sound;
    }

pub returns-clause-admits : goal.returns-clause-admits
returns-clause-admits g c clean _ =
    let old = c.args.self.now in
    let before = state g.S.Store old.session.conn in
    let lists = content_of old.lists in
    let change = c.args.change.now in
    ∥∥₁_elim (kept_sure old.session.in_doubt old.session.failures c.requires.whole.1 c.requires.whole.0 old.stored) no_prop (λ h.
    let k = h clean in
    let can : CanRead before = (clean, k.stored.is_open) in
    let yes = c.requires.fit.1 (
      fits_lists before lists change old.jobless k.part (c.requires.knows can) (c.requires.fits can),
      (told_by_tables change (kept_in before lists) (c.requires.sound can)).1,
    ) in
    true≢false (sym yes ∙ c.if-is_fit.false))
