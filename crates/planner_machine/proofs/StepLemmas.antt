-- One step: one answer, soundness, and fates, for every statement.
use Rattle.std.proofs.Common.{List, None, Option, Some, [], ap, ap₂, arith, inl, inr, length, refl, subst, sym, ℕ, ◌∙◌}
use Rattle.std.proofs.Common.{◌≡◌, ◌≢◌, ◌≤◌, ◌⊎◌}
use Rattle.std.specs.Prelude.{Err, Ok}
use Rattle.app_definitions.proofs.OneBlock.{never_both, one_block, one_fault}
use Rattle.app_definitions.specs.Blocks.{ReadsAs}
use Rattle.app_definitions.specs.declared.kinds.Block.{Block}
use Rattle.app_definitions.specs.declared.kinds.Kind.{Kind}
use Rattle.external_dependencies.proofs.LexLemmas.{link_total}
use Rattle.external_dependencies.proofs.RisingLemmas.{rising_unique}
use Rattle.external_dependencies.specs.Link.{link_cmp}
use Rattle.external_dependencies.specs.declared.links.Link.{Link}
use Rattle.external_dependencies.specs.declared.rows.PlacedRow.{PlacedRow}
use Rattle.occurrences.proofs.RowLemmas.{row_strict}
use Rattle.occurrences.specs.Order.{IsStrictOrder}
use Rattle.occurrences.specs.Row.{RowBefore}
use Rattle.occurrences.specs.declared.place.Place.TheVariants.{LongTerm}
use Rattle.occurrences.specs.declared.refusal.Refusal.{Refusal}
use Rattle.occurrences.specs.declared.refusal.Refusal.TheVariants.{FaultyData, JobWithAnotherText}
use Rattle.occurrences.specs.declared.reply.Reply.{Reply}
use Rattle.occurrences.specs.declared.reply.Reply.TheVariants.{Rows}
use Rattle.run_cycles.specs.Occurrence.{IsEarlier}
use Rattle.run_cycles.specs.declared.named.Named.{Named}
use Rattle.planner_machine.specs.Content.{Content, Sets}
use Rattle.planner_machine.specs.Days.{DaysRefused, days}
use Rattle.planner_machine.specs.Decision.{Decides, DecidesOne, Decision, trial}
use Rattle.planner_machine.specs.Define.{define}
use Rattle.planner_machine.specs.Fate.{Stays}
use Rattle.planner_machine.specs.Jobs.{AnswersKept, kept, with_job}
use Rattle.planner_machine.specs.Laws.{Follows, IsWellFormed}
use Rattle.planner_machine.specs.Shown.{LinkedBefore, LinkedRows, Listed, list_links, list_pairs, list_rows}
use Rattle.planner_machine.specs.Sound.{IsSound}
use Rattle.planner_machine.specs.Statement.{Answer, AnswersDefine, AreRead, Change, Days, Define, DefineJob, IsFaulty}
use Rattle.planner_machine.specs.Statement.{Job, ListLinks, ListPairs, ListRows, Statement, Steps, Trial, decision_of}
use Rattle.planner_machine.specs.Stream.{IsStatement, MakesAt, acting, change_made, fate_at, place_at}
use Rattle.planner_machine.specs.declared.content.Draft.{Draft}
use Rattle.planner_machine.specs.declared.job.Job.{Job as KeptJob}
use Rattle.planner_machine.specs.declared.limits.TheConstants.{GREATEST_JOB}
use Rattle.planner_machine.proofs.ChangeLemmas.{change_follows, change_once, change_sound, kept_reply}
use Rattle.planner_machine.proofs.DecisionLemmas.{ShowsOne, decides_one, shows_one}
use Rattle.planner_machine.proofs.JobLemmas.{job_sound}
use Rattle.planner_machine.proofs.PlansLemmas.{stay_follow}
use Rattle.planner_machine.proofs.RisingLemmas.{one_list}

-- a job

module _ (number : ℕ) (text : List ℕ) (change : Change) where
  job_once : (c : Content) → IsSound c → (o : Option KeptJob) (a a' : Answer) (c' c'' : Content)
      → AnswersKept number text (decision_of change) c o a c'
      → AnswersKept number text (decision_of change) c o a' c'' → (a ≡ a') × (c' ≡ c'')
  job_once c sound None a a' c' c'' (left, decides, is) (left', decides', is') =
      let same = change_once change c a a' left left' sound decides decides' in
      (same.0, is ∙ ap₂ (λ x y. with_job (kept number text x) y) same.0 same.1 ∙ sym is')
  job_once c sound (Some job) a a' c' c'' (is, how) (is', how') = (by_text how how', is ∙ sym is')
    where
      by_text : ((job.text ≡ text) × (a ≡ job.reply)) ⊎ ((job.text ≢ text) × (a ≡ Err JobWithAnotherText))
          → ((job.text ≡ text) × (a' ≡ job.reply)) ⊎ ((job.text ≢ text) × (a' ≡ Err JobWithAnotherText)) → a ≡ a'
      by_text (inl x) (inl y) = x.1 ∙ sym y.1
      by_text (inl x) (inr y) = absurd (y.0 x.0)
      by_text (inr x) (inl y) = absurd (x.0 y.0)
      by_text (inr x) (inr y) = x.1 ∙ sym y.1

  job_keeps : 1 ≤ number → number ≤ GREATEST_JOB → IsWellFormed change → (c : Content) → IsSound c
      → (o : Option KeptJob) (a : Answer) (c' : Content) → AnswersKept number text (decision_of change) c o a c'
      → IsSound c'
  job_keeps least greatest fine c sound None a c' (left, decides, is) =
      let sound' = change_sound change fine c a left sound decides in
      subst IsSound (sym is) (job_sound (kept number text a) left sound' (record {
        numbered = refl;
        least = least;
        greatest = greatest;
        reply = kept_reply change fine c a left sound sound' decides;
      }))
  job_keeps least greatest fine c sound (Some job) a c' (is, how) = subst IsSound (sym is) sound

-- what a statement makes, and where it leaves what stood
abbrev FollowsAt : Option Change → Content → Content → Type 0
FollowsAt made c c' = (drafts : List Draft) × MakesAt made c drafts
    × Follows (place_at made) (fate_at made c) drafts c.sets c'.sets

nothing_made : (c c' : Content) → c'.sets ≡ c.sets → FollowsAt None c c'
nothing_made c c' same =
    ([], refl, subst (λ (s : Sets). Follows LongTerm Stays [] c.sets s) (sym same) (stay_follow LongTerm c.sets))

job_follows : (number : ℕ) (text : List ℕ) (change : Change) (c : Content) → IsSound c
    → (o : Option KeptJob) (reply : Reply) (c' : Content)
    → AnswersKept number text (decision_of change) c o (Ok reply) c' → FollowsAt (change_made o change) c c'
job_follows number text change c sound None reply c' (left, decides, is) =
    let (drafts, makes, follows) = change_follows change c reply left sound decides in (
      drafts,
      makes,
      subst (λ (s : Sets). Follows (place_at (Some change)) (fate_at (Some change) c) drafts c.sets s)
          (ap (λ (x : Content). x.sets) (sym is)) follows,
    )
job_follows number text change c sound (Some job) reply c' (is, how) =
    nothing_made c c' (ap (λ (x : Content). x.sets) is)

job_refused : (number : ℕ) (text : List ℕ) (change : Change) (c : Content) (o : Option KeptJob) (r : Refusal)
    (c' : Content) → AnswersKept number text (decision_of change) c o (Err r) c' → c'.sets ≡ c.sets
job_refused number text change c None r c' (left, decides, is) = ap (λ (x : Content). x.sets) is
    ∙ ap (λ (x : Content). x.sets) decides.1
job_refused number text change c (Some job) r c' (is, how) = ap (λ (x : Content). x.sets) is

define_sets : (number : ℕ) (text : List ℕ) (block : Block) (c : Content) (o : Option KeptJob) (a : Answer)
    (c' : Content) → AnswersKept number text (define block) c o a c' → c'.sets ≡ c.sets
define_sets number text block c None (Ok reply) c' (left, decides, is) = ap (λ (x : Content). x.sets) is
    ∙ ap (λ (x : Content). x.sets) decides.1.1
define_sets number text block c None (Err r) c' (left, decides, is) = absurd decides.0.0
define_sets number text block c (Some job) a c' (is, how) = ap (λ (x : Content). x.sets) is

-- data
read_once : (kind : Kind) (given : Option (List ℕ)) (a b : Block) → AreRead kind given a → AreRead kind given b → a ≡ b
read_once kind None a b h k = absurd h
read_once kind (Some text) a b h k = one_block kind text a b h k

pub read_or_faulty : (kind : Kind) (given : Option (List ℕ)) (b : Block) (n : ℕ) → AreRead kind given b
    → IsFaulty kind given n → ⊥
read_or_faulty kind None b n h k = h
read_or_faulty kind (Some text) b n h k = never_both kind text b n h k

pub faulty_once : (kind : Kind) (given : Option (List ℕ)) (m n : ℕ)
    → IsFaulty kind given m → IsFaulty kind given n → m ≡ n
faulty_once kind None m n h k = h ∙ sym k
faulty_once kind (Some text) m n h k = one_fault kind text m n h k

define_once : (number : ℕ) (text : List ℕ) (kind : Kind) (given : Option (List ℕ)) (c : Content) → IsSound c
    → (a a' : Answer) (c' c'' : Content) → AnswersDefine number text kind given c a c'
    → AnswersDefine number text kind given c a' c'' → (a ≡ a') × (c' ≡ c'')
define_once number text kind given c sound a a' c' c'' (inl (m, h, is, same)) (inl (n, k, is', same')) =
    (is ∙ ap (λ x. Err (FaultyData x)) (faulty_once kind given m n h k) ∙ sym is', same ∙ sym same')
define_once number text kind given c sound a a' c' c'' (inl (m, h, is, same)) (inr (b, k, rest)) =
    absurd (read_or_faulty kind given b m k h)
define_once number text kind given c sound a a' c' c'' (inr (b, k, rest)) (inl (m, h, is, same)) =
    absurd (read_or_faulty kind given b m k h)
define_once number text kind given c sound a a' c' c'' (inr (b, h, rest)) (inr (b', k, rest')) =
    let same = read_once kind given b' b k h in
    job_once number text (Define b) c sound (c.jobs number) a a' c' c'' rest
    (subst (λ x. AnswersKept number text (define x) c (c.jobs number) a' c'') same rest')

-- questions
earlier_strict : IsStrictOrder IsEarlier
earlier_strict = record { irreflexive = itself; transitive = onward }
  where
    itself : (a : Named) → IsEarlier a a → ⊥
    itself a (inl h) = omega (arith, h)
    itself a (inr h) = omega (arith, h.1)

    onward : (a b c : Named) → IsEarlier a b → IsEarlier b c → IsEarlier a c
    onward a b c (inl h) (inl k) = inl (omega (arith, h, k))
    onward a b c (inl h) (inr k) = inl (omega (arith, h, k.0))
    onward a b c (inr h) (inl k) = inl (omega (arith, h.0, k))
    onward a b c (inr h) (inr k) = inr (h.0 ∙ k.0, omega (arith, h.1, k.1))

days_shows : (app : List ℕ) (from to : ℕ) (c : Content) → ShowsOne (DaysRefused app from to c)
days_shows app from to c =
    record {
      data_at = λ m n h k. absurd h;
      calendar = λ a b h k. h.0 ∙ sym k.0;
      period = λ a b h k. h.0 ∙ sym k.0;
      loop = λ a b h k. absurd h;
      predecessor = λ m n h k. absurd h;
    }

days_once : (app : List ℕ) (from to : ℕ) → DecidesOne IsSound (days app from to)
days_once app from to = decides_one IsSound (days app from to) (λ c reply reply' c' c'' sound (
  is,
  (shown, lists, r),
) (is', (shown', lists', r')). (
  r ∙ ap (λ (l : List Named). Rows (length l))
      (one_list IsEarlier earlier_strict shown shown' lists.in_order lists'.in_order
      (λ z h. (lists'.exactly z).1 ((lists.exactly z).0 h)) (λ z h. (lists.exactly z).1 ((lists'.exactly z).0 h)))
      ∙ sym r',
  is ∙ sym is',
)) (λ c q r sound. shows_one (DaysRefused app from to c) (days_shows app from to c) q r)

abbrev PlacedBefore : PlacedRow → PlacedRow → Type 0
PlacedBefore p q = RowBefore p.row q.row

placed_strict : IsStrictOrder PlacedBefore
placed_strict = record {
  irreflexive = λ p. row_strict.irreflexive p.row;
  transitive = λ p q r. row_strict.transitive p.row q.row r.row;
}

list_once : (listed : Listed) (app : Option (List ℕ)) → DecidesOne IsSound (list_rows listed app)
list_once listed app = decides_one IsSound (list_rows listed app) (λ c reply reply' c' c'' sound (
  is,
  (shown, lists, r),
) (is', (shown', lists', r')). (
  r ∙ ap (λ (l : List PlacedRow). Rows (length l))
      (one_list PlacedBefore placed_strict shown shown' lists.rising lists'.rising
      (λ z h. (lists'.exactly z).1 ((lists.exactly z).0 h)) (λ z h. (lists.exactly z).1 ((lists'.exactly z).0 h)))
      ∙ sym r',
  is ∙ sym is',
)) (λ c q r sound h k same. absurd h)

linked_strict : IsStrictOrder LinkedBefore
linked_strict = record { irreflexive = itself; transitive = onward }
  where
    itself : (a : LinkedRows) → LinkedBefore a a → ⊥
    itself a (inl h) = omega (arith, h)
    itself a (inr h) = omega (arith, h.1)

    onward : (a b c : LinkedRows) → LinkedBefore a b → LinkedBefore b c → LinkedBefore a c
    onward a b c (inl h) (inl k) = inl (omega (arith, h, k))
    onward a b c (inl h) (inr k) = inl (omega (arith, h, k.0))
    onward a b c (inr h) (inl k) = inl (omega (arith, h.0, k))
    onward a b c (inr h) (inr k) = inr (h.0 ∙ k.0, omega (arith, h.1, k.1))

pairs_once : (app : Option (List ℕ)) → DecidesOne IsSound (list_pairs app)
pairs_once app = decides_one IsSound (list_pairs app) (λ c reply reply' c' c'' sound (is, (shown, lists, r)) (
  is',
  (shown', lists', r'),
). (
  r ∙ ap (λ (l : List LinkedRows). Rows (length l))
      (one_list LinkedBefore linked_strict shown shown' lists.rising lists'.rising
      (λ z h. (lists'.exactly z).1 ((lists.exactly z).0 h)) (λ z h. (lists.exactly z).1 ((lists'.exactly z).0 h)))
      ∙ sym r',
  is ∙ sym is',
)) (λ c q r sound h k same. absurd h)

links_once : (app : Option (List ℕ)) → DecidesOne IsSound (list_links app)
links_once app = decides_one IsSound (list_links app) (λ c reply reply' c' c'' sound (is, (shown, lists, r)) (
  is',
  (shown', lists', r'),
). (
  r ∙ ap (λ (l : List Link). Rows (length l)) (rising_unique link_cmp link_total shown shown' lists.rising lists'.rising
      (λ z. (
        (λ h. (lists'.exactly z).1 ((lists.exactly z).0 h)),
        (λ h. (lists.exactly z).1 ((lists'.exactly z).0 h)),
      ))) ∙ sym r',
  is ∙ sym is',
)) (λ c q r sound h k same. absurd h)

-- a trial is answered as its statement would be
pub trial_as : (d : Decision Content) (c : Content) (a : Answer) (c' : Content) → Decides (trial d) c a c'
    → (left : Content) × Decides d c a left × (c' ≡ c)
trial_as d c (Ok reply) c' (none, (is, (left, does))) = (left, (none, does), is)
trial_as d c (Err r) c' (least, is) = (c, (least, refl), is)

trial_once : (d : Decision Content) → DecidesOne IsSound d → DecidesOne IsSound (trial d)
trial_once d once c a a' c' c'' sound h k =
    let (left, decides, is) = trial_as d c a c' h in
    let (left', decides', is') = trial_as d c a' c'' k in
    ((once c a a' left left' sound decides decides').0, is ∙ sym is')

-- what only asks changes nothing
pub asks_nothing : (d : Decision Content) → ((c : Content) (reply : Reply) (c' : Content) → d.Does c reply c' → c' ≡ c)
    → (c : Content) (a : Answer) (c' : Content) → Decides d c a c' → c' ≡ c
asks_nothing d same c (Ok reply) c' (none, does) = same c reply c' does
asks_nothing d same c (Err r) c' (least, is) = is

pub step_once : (s : Statement) (c : Content) → IsSound c → (a a' : Answer) (c' c'' : Content) → Steps s c a c'
    → Steps s c a' c'' → (a ≡ a') × (c' ≡ c'')
step_once (DefineJob number text kind given) c sound a a' c' c'' h k =
    define_once number text kind given c sound a a' c' c'' h k
step_once (Job number text change) c sound a a' c' c'' h k =
    job_once number text change c sound (c.jobs number) a a' c' c'' h k
step_once (Days app from to) c sound a a' c' c'' h k = days_once app from to c a a' c' c'' sound h k
step_once (Trial change) c sound a a' c' c'' h k =
    trial_once (decision_of change) (change_once change) c a a' c' c'' sound h k
step_once (ListRows listed app) c sound a a' c' c'' h k = list_once listed app c a a' c' c'' sound h k
step_once (ListPairs app) c sound a a' c' c'' h k = pairs_once app c a a' c' c'' sound h k
step_once (ListLinks app) c sound a a' c' c'' h k = links_once app c a a' c' c'' sound h k

define_keeps : (number : ℕ) (text : List ℕ) (kind : Kind) (given : Option (List ℕ))
    → IsStatement (DefineJob number text kind given) → (c : Content) → IsSound c → (a : Answer) (c' : Content)
    → AnswersDefine number text kind given c a c' → IsSound c'
define_keeps number text kind given fine c sound a c' (inl (m, h, is, same)) = subst IsSound (sym same) sound
define_keeps number text kind given fine c sound a c' (inr (b, h, rest)) =
    job_keeps number text (Define b) fine.0 fine.1 (fine.2 b h, read_from given h) c sound (c.jobs number) a c' rest
  where
    read_from : (given : Option (List ℕ)) → AreRead kind given b → (k : Kind) × (t : List ℕ) × ReadsAs k t b
    read_from None h = absurd h
    read_from (Some t) h = (kind, t, h)

pub step_keeps : (s : Statement) → IsStatement s → (c : Content) → IsSound c → (a : Answer) (c' : Content)
    → Steps s c a c' → IsSound c'
step_keeps (DefineJob number text kind given) fine c sound a c' h =
    define_keeps number text kind given fine c sound a c' h
step_keeps (Job number text change) fine c sound a c' h =
    job_keeps number text change fine.0 fine.1 fine.2 c sound (c.jobs number) a c' h
step_keeps (Days app from to) fine c sound a c' h =
    subst IsSound (sym (asks_nothing (days app from to) (λ c reply c' does. does.0) c a c' h)) sound
step_keeps (Trial change) fine c sound a c' h =
    subst IsSound (sym (asks_nothing (trial (decision_of change)) (λ c reply c' does. does.0) c a c' h)) sound
step_keeps (ListRows listed app) fine c sound a c' h =
    subst IsSound (sym (asks_nothing (list_rows listed app) (λ c reply c' does. does.0) c a c' h)) sound
step_keeps (ListPairs app) fine c sound a c' h =
    subst IsSound (sym (asks_nothing (list_pairs app) (λ c reply c' does. does.0) c a c' h)) sound
step_keeps (ListLinks app) fine c sound a c' h =
    subst IsSound (sym (asks_nothing (list_links app) (λ c reply c' does. does.0) c a c' h)) sound

define_follows : (number : ℕ) (text : List ℕ) (kind : Kind) (given : Option (List ℕ)) (c : Content) (a : Answer)
    (c' : Content) → AnswersDefine number text kind given c a c' → FollowsAt None c c'
define_follows number text kind given c a c' (inl (m, h, is, same)) =
    nothing_made c c' (ap (λ (x : Content). x.sets) same)
define_follows number text kind given c a c' (inr (b, h, rest)) =
    nothing_made c c' (define_sets number text b c (c.jobs number) a c' rest)

pub step_follows : (s : Statement) (c : Content) → IsSound c → (a : Answer) (c' : Content) → Steps s c a c'
    → FollowsAt (acting s c a) c c'
step_follows (DefineJob number text kind given) c sound a c' h = define_follows number text kind given c a c' h
step_follows (Job number text change) c sound (Ok reply) c' h =
    job_follows number text change c sound (c.jobs number) reply c' h
step_follows (Job number text change) c sound (Err r) c' h =
    nothing_made c c' (job_refused number text change c (c.jobs number) r c' h)
step_follows (Days app from to) c sound a c' h =
    nothing_made c c' (ap (λ (x : Content). x.sets)
    (asks_nothing (days app from to) (λ c reply c' does. does.0) c a c' h))
step_follows (Trial change) c sound a c' h =
    nothing_made c c' (ap (λ (x : Content). x.sets)
    (asks_nothing (trial (decision_of change)) (λ c reply c' does. does.0) c a c' h))
step_follows (ListRows listed app) c sound a c' h =
    nothing_made c c' (ap (λ (x : Content). x.sets)
    (asks_nothing (list_rows listed app) (λ c reply c' does. does.0) c a c' h))
step_follows (ListPairs app) c sound a c' h =
    nothing_made c c' (ap (λ (x : Content). x.sets)
    (asks_nothing (list_pairs app) (λ c reply c' does. does.0) c a c' h))
step_follows (ListLinks app) c sound a c' h =
    nothing_made c c' (ap (λ (x : Content). x.sets)
    (asks_nothing (list_links app) (λ c reply c' does. does.0) c a c' h))
