use Rattle.std.proofs.Common.{◌≡◌, ◌⊎◌, ◌∙◌, arith, false, inl, inr, refl, rules, subst, sym, true≢false}
use Rattle.sqlite.specs.Held.{Held, state}
use Rattle.sqlite.specs.State.{HasCleanDisk, Survives}
use Rattle.sqlite_disk.specs.Disk.{MoreFaults}
use Rattle.plan_tables.specs.Kept.{StaysPut}
use Rattle.plan_tables.proofs.LookLemmas.{unmoved}
use Rattle.plan_tables.proofs.session.Session.check.Goals as goal

pub returns-then-self-gt0 : goal.returns-then-self-gt0
returns-then-self-gt0 g c = record {
  whole = tt;
  fine = λ clean. tt;
  doubt = λ memory. absurd (let h : ⊥ = cc memory in h);
  blames = λ _. inr (omega (arith, c.if-self-gt0.true));
  broken = λ _. (refl, refl);
  counts = omega arith;
  shut = λ clean none _. absurd (let h : ⊥ = omega (arith, none, c.if-self-gt0.true) in h);
  stays = λ clean opens. (opens, inl refl, refl);
  survives = unmoved (state g.S.Store c.args.self.now.conn) _;
}

pub returns-then-not-self : goal.returns-then-not-self
returns-then-not-self g c =
    let sure : c.args.self.now.in_doubt ≡ false = search rules in
    record {
      whole = (omega (arith, c.if-self-gt0.false), omega (arith, c.if-self-gt0.false), search rules);
      fine = λ clean. record {
        opens = λ is. absurd (true≢false (sym is ∙ sure));
        stays_open = λ opens. opens;
        now = refl;
        committed = refl;
      };
      doubt = tt;
      blames = tt;
      broken = λ some. absurd (let h : ⊥ = omega (arith, some, c.if-self-gt0.false) in h);
      counts = omega arith;
      shut = λ clean none. tt;
      stays = λ clean opens. (opens, inl refl, refl);
      survives = unmoved (state g.S.Store c.args.self.now.conn) _;
    }

pub returns-in-Ok : goal.returns-in-Ok
returns-in-Ok g c = record {
  whole = (omega (arith, c.if-self-gt0.false), omega (arith, c.if-self-gt0.false), refl);
  fine = λ clean.
      let same = c.in-Ok.ensures.open clean in
      record {
        opens = λ _. same.0.was_open;
        stays_open = λ _. same.0.is_open;
        now = same.0.now_is;
        committed = same.0.committed_is;
      };
  doubt = tt;
  blames = tt;
  broken = λ some. absurd (let h : ⊥ = omega (arith, some, c.if-self-gt0.false) in h);
  counts = omega arith;
  shut = λ clean none. tt;
  stays = c.ask_open.ensures.stays;
  survives = c.ask_open.ensures.survives;
}

pub returns-in-Err-Memory : goal.returns-in-Err-Memory
returns-in-Err-Memory g c = record {
  whole = tt;
  fine = λ clean. tt;
  doubt = λ _. (omega (arith, c.if-self-gt0.false), omega (arith, c.if-self-gt0.false), search rules);
  blames = λ device. absurd (let h : ⊥ = cc device in h);
  broken = λ some. absurd (let h : ⊥ = omega (arith, some, c.if-self-gt0.false) in h);
  counts = omega arith;
  shut = λ clean none device. absurd (let h : ⊥ = cc device in h);
  stays = c.ask_open.ensures.stays;
  survives = c.ask_open.ensures.survives;
}

pub returns-in-Err-Device : goal.returns-in-Err-Device
returns-in-Err-Device g c =
    let old = state g.S.Store c.args.self.now.conn in
    let (stays, survives, shut) = subst (λ (h : Held _). (HasCleanDisk (state g.S.Store h) → StaysPut old (state g.S.Store h))
    × Survives old (state g.S.Store h) (λ _. ⊥) × (HasCleanDisk (state g.S.Store h)
    → MoreFaults old.faults (state g.S.Store h).faults ⊎ (old.is_open ≡ false))) (sym c.blame.ensures.conn) (
      c.ask_open.ensures.stays,
      c.ask_open.ensures.survives,
      λ clean. c.in-Err-Device.ensures.shut clean c.in-Err-Device.field-0-is,
    ) in
    record {
      whole = tt;
      fine = λ clean. tt;
      doubt = λ memory. absurd (let device = c.blame.ensures.fault in let h : ⊥ = cc (memory, device) in h);
      blames = λ _. inl (omega (arith, c.blame.ensures.failures));
      broken = λ some. absurd (let h : ⊥ = omega (arith, some, c.if-self-gt0.false) in h);
      counts = omega (arith, c.blame.ensures.failures);
      shut = λ clean none _. shut clean;
      stays = stays;
      survives = survives;
    }
