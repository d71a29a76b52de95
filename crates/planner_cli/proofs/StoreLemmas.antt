-- Lemmas on calls that answer over a store.
use Rattle.std.proofs.Common.{◌≡◌, ◌⊎◌, ℕ, zero, suc, ◌+◌, ◌-◌, ◌^◌, ◌≤◌, ◌∙◌, refl, sym, ap, subst, inl, inr, arith, min}
use Rattle.std.specs.Prelude.{Err, IfErr, IfOk, IsErrAnd, Ok, OnErr, OnOk, Result}
use Rattle.planner_machine.specs.Content.{Content}
use Rattle.plan_store.specs.Faults.{IsMild}
use Rattle.plan_store.specs.declared.stores.PlanStore.{Ghosts}
use Rattle.plan_store.specs.declared.stores.StoreFault.{StoreFault}
use Rattle.plan_store.specs.declared.stores.StoreFault.TheVariants.{Device, Memory}
use Rattle.planner_cli.specs.Replies.{Answered, Prints, AnswerLines}
use Rattle.planner_cli.specs.Stores.{Answering, AnswersBy, IsBlamed, LeavesOwn, LooksBy, ReadsBy}
use Rattle.planner_cli.specs.declared.answers.Printed.{Printed}

-- ---- counts of failures

pub blamed_since : (a b c : ℕ) → a ≤ b → b ≤ c → IsBlamed b c → IsBlamed a c
blamed_since a b c before after (inl more) = let h : min (b + 1) (2 ^ 64 - 1) ≤ c = more in inl (omega arith)
blamed_since a b c before after (inr some) = cases a refl
  where
    cases : (n : ℕ) → n ≡ a → IsBlamed a c
    cases zero is = inl (let h : a ≡ 0 = sym is in omega arith)
    cases (suc n) is = inr (omega arith)

-- ---- results

pub if_ok : {T E : Type 0} (r : Result T E) (P Q : T → Type 0) → ((x : T) → P x → Q x) → IfOk r P → IfOk r Q
if_ok (Ok x) P Q f h = f x h
if_ok (Err e) P Q f h = tt

pub if_err : {T E : Type 0} (r : Result T E) (P Q : E → Type 0) → ((x : E) → P x → Q x) → IfErr r P → IfErr r Q
if_err (Ok x) P Q f h = tt
if_err (Err e) P Q f h = f e h

pub on_ok : {T E : Type 0} (r : Result T E) (P Q : Type 0) → (P → Q) → OnOk r P → OnOk r Q
on_ok (Ok x) P Q f h = f h
on_ok (Err e) P Q f h = tt

pub on_err : {T E : Type 0} (r : Result T E) (P Q : Type 0) → (P → Q) → OnErr r P → OnErr r Q
on_err (Ok x) P Q f h = tt
on_err (Err e) P Q f h = f h

pub always_on_err : {T E : Type 0} (r : Result T E) (P : Type 0) → P → OnErr r P
always_on_err (Ok x) P h = tt
always_on_err (Err e) P h = h

-- ---- calls

module _ {S : Type 0} (g : Ghosts S) where
  -- a reply that one may give is one that the other may give
  pub answers_so : (before now : S) (result : Result Printed StoreFault) (Does More : AnswerLines → Content → Type 0)
      → (g.is_honest before → (reply : AnswerLines) (c : Content) → Does reply c → More reply c)
      → AnswersBy g before now result Does
      → AnswersBy g before now result More
  answers_so before now result Does More more a = record {
    answers = λ honest. if_ok result _ _
        (λ printed h. record {
          reply = h.reply;
          gives = more (a.honest honest) h.reply (g.content now) h.gives;
          prints = h.prints;
        })
        (a.answers honest);
    unchanged = a.unchanged;
    whole = λ honest. on_err result _ _ (λ h. left (a.honest honest) (g.content now) h) (a.whole honest);
    settled = a.settled;
    crash = λ honest clean own. on_err result _ _ (λ h c leaves. left honest c (h c leaves)) (a.crash honest clean own);
    blames = a.blames;
    counts = a.counts;
    honest = a.honest;
    clean = a.clean;
    stays_honest = a.stays_honest;
    stays_whole = a.stays_whole;
  }
    where
      left : g.is_honest before → (c : Content) → (c ≡ g.content before) ⊎ ((reply : AnswerLines) × Does reply c)
          → (c ≡ g.content before) ⊎ ((reply : AnswerLines) × More reply c)
      left honest c (inl same) = inl same
      left honest c (inr (reply, does)) = inr (reply, more honest reply c does)

  -- nothing was asked of the store: it gives this, or memory was refused
  pub unasked : {T : Type 0} (store : S) (result : Result T StoreFault) (Gives : T → Content → Type 0)
      (IsMade : Content → Type 0) → (g.is_honest store → IfOk result (λ given. Gives given (g.content store)))
      → IfErr result (λ fault. fault ≡ Memory)
      → Answering g store store result Gives IsMade
  unasked store (Ok given) Gives IsMade gives memory = record {
    answers = gives;
    unchanged = λ honest. tt;
    whole = λ honest. tt;
    settled = λ honest own. own;
    crash = λ honest clean own. tt;
    blames = tt;
    counts = omega arith;
    honest = λ honest. honest;
    clean = λ clean. clean;
    stays_honest = λ honest clean fine. honest;
    stays_whole = λ whole. whole;
  }
  unasked store (Err fault) Gives IsMade gives memory = record {
    answers = λ honest. tt;
    unchanged = λ honest is. refl;
    whole = λ honest. inl refl;
    settled = λ honest own. tt;
    crash = λ honest clean own c leaves. inl (own c leaves);
    blames = λ is. absurd (let no : Memory ≡ Device = sym memory ∙ is in let h : ⊥ = cc no in h);
    counts = omega arith;
    honest = λ honest. honest;
    clean = λ clean. clean;
    stays_honest = λ honest clean fine. honest;
    stays_whole = tt;
  }

  -- so a reply, or memory was refused
  pub untouched : (store : S) (result : Result Printed StoreFault) (reply : AnswerLines) (Does : AnswerLines → Content → Type 0)
      → Does reply (g.content store)
      → IfOk result (λ printed. Prints reply printed.text.items printed.is_accepted)
      → IfErr result (λ fault. fault ≡ Memory)
      → AnswersBy g store store result Does
  untouched store result reply Does does prints memory =
      unasked store result _ _ (λ honest. if_ok result _ _ (λ printed h. record {
        reply = reply;
        gives = does;
        prints = h;
      }) prints) memory

  -- memory was refused, and nothing was asked of the store since
  pub refused_so : (store : S) (result : Result Printed StoreFault) (Does : AnswerLines → Content → Type 0)
      → IsErrAnd result (λ fault. fault ≡ Memory)
      → AnswersBy g store store result Does
  refused_so store (Ok printed) Does memory = absurd memory
  refused_so store (Err fault) Does memory = unasked store (Err fault) _ _ (λ honest. tt) memory

  -- ---- after a look

  module _ {T : Type 0} (before mid : S) (look : Result T StoreFault) (IsRight : T → Content → Type 0)
      (looks : LooksBy g before mid look IsRight) where
    only : {A : Type 0} → A ⊎ ⊥ → A
    only (inl a) = a
    only (inr none) = absurd none

    -- it failed
    pub look_fails : {U : Type 0} (fault : StoreFault) → look ≡ Err fault → (result : Result U StoreFault)
        (Gives : U → Content → Type 0) (IsMade : Content → Type 0) → IsErrAnd result (λ other. other ≡ fault)
        → Answering g before mid result Gives IsMade
    look_fails fault was (Ok given) Gives IsMade same = absurd same
    look_fails fault was (Err other) Gives IsMade same =
        let failed : LooksBy g before mid (Err other) IsRight =
        subst (λ r. LooksBy g before mid r IsRight) (was ∙ ap Err (sym same)) looks in record {
          answers = λ honest. tt;
          unchanged = failed.unchanged;
          whole = λ honest. inl (only (failed.whole honest));
          settled = λ honest own. tt;
          crash = λ honest clean own c leaves. inl (only (failed.crash honest clean own c leaves));
          blames = failed.blames;
          counts = failed.counts;
          honest = failed.honest;
          clean = failed.clean;
          stays_honest = failed.stays_honest;
          stays_whole = tt;
        }

    module _ (value : T) (was : look ≡ Ok value) where
      looked : LooksBy g before mid (Ok value) IsRight
      looked = subst (λ r. LooksBy g before mid r IsRight) was looks

      -- what it gave is right for what is there then, which is what was there before
      pub look_right : g.is_honest mid → IsRight value (g.content mid)
      look_right honest = (looked.answers honest).0

      pub look_as : (other : T) → value ≡ other → g.is_honest mid → IsRight other (g.content mid)
      look_as other is honest = subst (λ x. IsRight x (g.content mid)) is (look_right honest)

      pub look_same : g.is_honest mid → g.content mid ≡ g.content before
      look_same honest = (looked.answers honest).1

      look_honest : g.is_honest before → g.is_clean mid → g.is_honest mid
      look_honest honest clean = looked.stays_honest honest clean tt

      -- another call came after it
      pub after_look : {U : Type 0} (now : S) (result : Result U StoreFault)
          (Gives : Content → U → Content → Type 0) (IsMade : Content → Content → Type 0)
          → Answering g mid now result (Gives (g.content mid)) (IsMade (g.content mid))
          → Answering g before now result (Gives (g.content before)) (IsMade (g.content before))
      after_look now result Gives IsMade a = record {
        answers = λ honest. if_ok result _ _ (λ given h.
            subst (λ b. Gives b given (g.content now)) (look_same (a.honest honest)) h) (a.answers honest);
        unchanged = λ honest. if_err result _ _ (λ fault h is. h is ∙ look_same (a.honest honest))
            (a.unchanged honest);
        whole = λ honest. on_err result _ _ (λ h. left (look_same (a.honest honest)) (g.content now) h)
            (a.whole honest);
        settled = λ honest own. a.settled honest (looked.settled (a.honest honest) own);
        crash = λ honest clean own.
            let between = look_honest honest (a.clean clean) in
            on_err result _ _ (λ h c leaves. left (look_same between) c (h c leaves))
            (a.crash between clean (looked.settled between own));
        blames = if_err result _ _ (λ fault h is. blamed_since (g.failures before) (g.failures mid) (g.failures now)
            looked.counts a.counts (h is)) a.blames;
        counts = let x = looked.counts in let y = a.counts in omega arith;
        honest = λ honest. looked.honest (a.honest honest);
        clean = λ clean. looked.clean (a.clean clean);
        stays_honest = λ honest clean fine. a.stays_honest (look_honest honest (a.clean clean)) clean fine;
        stays_whole = on_ok result _ _ (λ h whole. h (looked.stays_whole whole)) a.stays_whole;
      }
        where
          left : g.content mid ≡ g.content before → (c : Content) → (c ≡ g.content mid) ⊎ IsMade (g.content mid) c
              → (c ≡ g.content before) ⊎ IsMade (g.content before) c
          left is c (inl stays) = inl (stays ∙ is)
          left is c (inr made) = inr (subst (λ b. IsMade b c) is made)

      -- another call replied after it
      pub answers_after : (now : S) (result : Result Printed StoreFault) (Does : Content → AnswerLines → Content → Type 0)
          → AnswersBy g mid now result (Does (g.content mid))
          → AnswersBy g before now result (Does (g.content before))
      answers_after now result Does a =
          after_look now result (λ b printed c. Answered (Does b) c printed.text.items printed.is_accepted)
          (λ b c. (reply : AnswerLines) × Does b reply c) a

  module _ {T : Type 0} (before mid : S) (read : Result T StoreFault) (IsRight : T → Type 0)
      (reads : ReadsBy g before mid read IsRight) (value : T) (was : read ≡ Ok value) where
    own : ReadsBy g before mid (Ok value) IsRight
    own = subst (λ r. ReadsBy g before mid r IsRight) was reads

    -- a store that was read was looked at
    pub read_looks : LooksBy g before mid (Ok value) (λ x c. IsRight x)
    read_looks = record {
      answers = λ honest. (own.right honest, own.same honest);
      unchanged = λ honest. tt;
      whole = λ honest. tt;
      settled = λ honest owns c leaves. owns c (own.crash c leaves) ∙ sym (own.same honest);
      crash = λ honest clean owns. tt;
      blames = tt;
      counts = own.counts;
      honest = own.honest;
      clean = own.clean;
      stays_honest = λ honest clean fine. own.stays_honest honest clean tt;
      stays_whole = own.whole;
    }

    -- it was read, and that is all: this was made of it, or memory was refused
    pub read_gives : {U : Type 0} (result : Result U StoreFault) (Gives : U → Content → Type 0)
        (IsMade : Content → Type 0)
        → (g.is_honest mid → IfOk result (λ given. Gives given (g.content before)))
        → IfErr result (λ fault. fault ≡ Memory)
        → Answering g before mid result Gives IsMade
    read_gives result Gives IsMade gives memory =
        after_look before mid (Ok value) (λ x c. IsRight x) read_looks value refl mid result (λ b. Gives) (λ b. IsMade)
        (unasked mid result Gives IsMade (λ honest. if_ok result _ _
        (λ given h. subst (Gives given) (sym (own.same honest)) h) (gives honest)) memory)

    -- and memory was refused
    pub read_refused : {U : Type 0} (result : Result U StoreFault) (Gives : U → Content → Type 0)
        (IsMade : Content → Type 0) → IsErrAnd result (λ fault. fault ≡ Memory)
        → Answering g before mid result Gives IsMade
    read_refused (Ok given) Gives IsMade memory = absurd memory
    read_refused (Err fault) Gives IsMade memory = read_gives (Err fault) Gives IsMade (λ honest. tt) memory

    -- and a reply is printed, or memory was refused
    pub read_answered : (result : Result Printed StoreFault) (Does : AnswerLines → Content → Type 0)
        → (g.is_honest mid → IfOk result (λ printed. (reply : AnswerLines) × Does reply (g.content before)
        × Prints reply printed.text.items printed.is_accepted))
        → IfErr result (λ fault. fault ≡ Memory)
        → AnswersBy g before mid result Does
    read_answered result Does told memory = read_gives result _ _ (λ honest. if_ok result _ _ (λ printed h.
        let (reply, does, prints) = h in record { reply = reply; gives = does; prints = prints })
        (told honest)) memory

-- ---- a change that is made

module _ {S : Type 0} (g : Ghosts S) (before now : S) where
  -- it was made
  pub made : (printed : Printed) (reply : AnswerLines) (Does : AnswerLines → Content → Type 0)
      → (g.is_honest now → Does reply (g.content now))
      → Prints reply printed.text.items printed.is_accepted
      → (g.is_honest now → LeavesOwn g now) → g.failures before ≤ g.failures now
      → (g.is_honest now → g.is_honest before) → (g.is_clean now → g.is_clean before)
      → (g.is_honest before → g.is_clean now → g.is_honest now)
      → (g.is_whole before → g.is_whole now) → AnswersBy g before now (Ok printed) Does
  made printed reply Does does prints settled counts honest' clean' stays_honest' stays = record {
    answers = λ honest. record { reply = reply; gives = does honest; prints = prints };
    unchanged = λ honest. tt;
    whole = λ honest. tt;
    settled = λ honest own. settled honest;
    crash = λ honest clean own. tt;
    blames = tt;
    counts = counts;
    honest = honest';
    clean = clean';
    stays_honest = λ honest clean fine. stays_honest' honest clean;
    stays_whole = stays;
  }

  -- it may be made
  pub not_made : (fault : StoreFault) (Does : AnswerLines → Content → Type 0)
      → (g.is_honest now → fault ≡ Memory → g.content now ≡ g.content before)
      → (g.is_honest now → (g.content now ≡ g.content before) ⊎ ((reply : AnswerLines) × Does reply (g.content now)))
      → (g.is_honest before → LeavesOwn g before → (c : Content) → g.may_leave now c
      → (c ≡ g.content before) ⊎ ((reply : AnswerLines) × Does reply c))
      → (fault ≡ Device → IsBlamed (g.failures before) (g.failures now)) → g.failures before ≤ g.failures now
      → (g.is_honest now → g.is_honest before) → (g.is_clean now → g.is_clean before)
      → (g.is_honest before → g.is_clean now → IsMild (g.is_whole now) fault → g.is_honest now)
      → AnswersBy g before now (Err fault) Does
  not_made fault Does unchanged whole crash blames counts honest' clean' stays_honest' = record {
    answers = λ honest. tt;
    unchanged = unchanged;
    whole = whole;
    settled = λ honest own. tt;
    crash = λ honest clean. crash honest;
    blames = blames;
    counts = counts;
    honest = honest';
    clean = clean';
    stays_honest = stays_honest';
    stays_whole = tt;
  }
