-- Streams that are run again: their items ask the same statements.
use Rattle.std.proofs.Common.{◌≡◌, ◌∙◌, ℕ, zero, suc, List, [], ◌∷◌, ◌++◌, refl, sym, ap, subst, inl, inr, append_assoc}
use Rattle.std.proofs.Common.{None, Option, Some, append-nil}
use Rattle.std.specs.Prelude.{All, option_and_then, option_map, slice_get}
use Rattle.planner_machine.specs.Content.{Content}
use Rattle.planner_machine.specs.Rerun.{AnswersAgree, RerunEndsAsEachRun, job_number}
use Rattle.planner_machine.specs.Sound.{IsSound}
use Rattle.planner_machine.specs.Statement.{Answer, Statement}
use Rattle.planner_machine.specs.Stream.{IsStatement, Runs, RunsSound}
use Rattle.planner_cli_stream.specs.Statement.{IsLineOf, Reads}
use Rattle.planner_cli_stream.specs.declared.statements.Statement.{Statement as LineStatement}
use Rattle.planner_cli_stream.specs.Items.{Alone, Item, NoStatement, WithBlock, items_of}
use Rattle.planner_cli.specs.Requests.{AreAsked, Asks, asked_alone, asked_with, if_asked}
use Rattle.planner_cli.specs.Faults.{fault_line}
use Rattle.planner_cli.specs.Meaning.{Answers}
use Rattle.planner_cli.specs.Outcomes.{answering}
use Rattle.planner_cli.specs.Plans.{AreAnswered}
use Rattle.planner_cli.specs.Replies.{AnswerLines}
use Rattle.planner_cli.specs.Reruns.{EndsAsOneRun, IsEarlierRun, IsJobItem, RepliesAgree, RerunAfterRuns}
use Rattle.planner_cli.specs.Reruns.{RerunEndsAsOneRun}
use Rattle.planner_cli.specs.Runs.{with_hand}
use Rattle.planner_cli.specs.Steps.{Step}
use Rattle.planner_cli.proofs.PlanLemmas.{Reached, Tells, TellsAsked, TellsJob, answers_sound, led, reached}
use Rattle.planner_cli.proofs.PlanLemmas.{reached_by_crash}

-- what the whole stream is answered parts where the stream does
abbrev pub AnswersParts : List Item → List Item → List AnswerLines → Content → Content → Type 0
AnswersParts first rest replies c c' =
    (x : List AnswerLines) × (y : List AnswerLines) × (middle : Content) × (replies ≡ x ++ y) × Answers Step c first x middle
    × Answers Step middle rest y c'

answers_parts : (first rest : List Item) (replies : List AnswerLines) (c c' : Content)
    → Answers Step c (first ++ rest) replies c' → AnswersParts first rest replies c c'
answers_parts [] rest replies c c' h = ([], replies, c, refl, (refl, refl), h)
answers_parts (item ∷ first) rest replies c c' (reply, others, between, is, step, later) =
    let (x, y, middle, split, firsts, rests) = answers_parts first rest others between c' later in (
      reply ∷ x,
      y,
      middle,
      is ∙ ap (λ l. reply ∷ l) split,
      (reply, x, between, refl, step, firsts),
      rests,
    )

answers_joined : (first rest : List Item) (x y : List AnswerLines) (c middle c' : Content) → Answers Step c first x middle
    → Answers Step middle rest y c' → Answers Step c (first ++ rest) (x ++ y) c'
answers_joined [] rest x y c middle c' h more =
    subst (λ (l : List AnswerLines). Answers Step c rest (l ++ y) c') (sym h.0)
    (subst (λ (s : Content). Answers Step s rest y c') h.1 more)
answers_joined (item ∷ first) rest x y c middle c' (reply, others, between, is, step, later) more = (
  reply,
  others ++ y,
  between,
  ap (λ l. l ++ y) is,
  step,
  answers_joined first rest others y between middle c' later more,
)

-- the items of the text are those that a run answered, and others
record Kept (text : List ℕ) (c left : Content) : Type 0 where
  pub items : List Item
  pub others : List Item
  pub told : List AnswerLines
  pub split : items_of text ≡ items ++ others
  pub answers : Answers Step c items told left

after : (done items : List Item) (hand : Option Item) (rest : List Item) → AreAnswered done hand items
    → (others : List Item) × (done ++ with_hand hand rest ≡ items ++ others)
after done items hand rest (inl is) = (with_hand hand rest, ap (λ l. l ++ with_hand hand rest) (sym is))
after done items hand rest (inr (item, some, is)) = (
  rest,
  ap (λ o. done ++ with_hand o rest) some ∙ sym (append_assoc done (item ∷ []) rest)
      ∙ ap (λ l. l ++ rest) (sym is),
)

kept_of : (text : List ℕ) (c left : Content) (done rest : List Item) (replies : List AnswerLines) (hand : Option Item)
    → items_of text ≡ done ++ with_hand hand rest → Reached done replies c left hand → Kept text c left
kept_of text c left done rest replies hand read at =
    let (others, split) = after done at.items hand rest at.are_answered in
    record {
      items = at.items;
      others = others;
      told = at.told;
      split = read ∙ split;
      answers = at.answers;
    }

kept : (text : List ℕ) (c left : Content) → IsEarlierRun text c left → Kept text c left
kept text c left (end, w, w', inl (tally, ran, is)) =
    subst (Kept text c) (sym is)
    (record {
      items = ran.items;
      others = [];
      told = ran.replies;
      split = ran.read ∙ sym (append-nil ran.items);
      answers = ran.answers;
    })
kept text c left (end, w, w', inr (fault, inl (stopped, is))) =
    subst (Kept text c) (sym is)
    (kept_of text c end stopped.done stopped.read.0 stopped.replies stopped.hand stopped.read.1
    (reached fault_line c end w w' (Some text) fault stopped))
kept text c left (end, w, w', inr (fault, inr crashed)) =
    kept_of text c left crashed.stopped.done crashed.stopped.read.0 crashed.stopped.replies crashed.stopped.hand
    crashed.stopped.read.1 (reached_by_crash c end w w' (Some text) fault left crashed)

-- where one answering of the whole stream is there, the other one ends so
abbrev EndsAsEach : Type 0
EndsAsEach =
    (first rest : List Item) (before replies again : List AnswerLines) (c c1 c' c'' : Content) → IsSound c
    → Answers Step c first before c1 → Answers Step c (first ++ rest) replies c'
    → Answers Step c1 (first ++ rest) again c''
    → (c'' ≡ c') × RepliesAgree (first ++ rest) replies again

-- no line is two statements
abbrev pub OneStatement : Type 0
OneStatement = (line : List ℕ) (s t : LineStatement) → IsLineOf s line → IsLineOf t line → s ≡ t

module _ (law : OneStatement) where
  reads_one : (line : List ℕ) (o p : Option LineStatement) → Reads line o → Reads line p → o ≡ p
  reads_one line None None r s = refl
  reads_one line None (Some t) r s = absurd (r t s)
  reads_one line (Some t) None r s = absurd (s t r)
  reads_one line (Some t) (Some u) r s = ap Some (law line t u r s)

  pub asks_one : (item : Item) (a b : Option Statement) → Asks item a → Asks item b → a ≡ b
  asks_one NoStatement a b x y = x ∙ sym y
  asks_one (Alone line) a b (read, reads, is) (read', reads', is') =
      is ∙ ap (option_map (asked_alone line)) (reads_one line read read' reads reads') ∙ sym is'
  asks_one (WithBlock line block) a b (read, reads, is) (read', reads', is') =
      is ∙ ap (option_and_then (asked_with line block)) (reads_one line read read' reads reads') ∙ sym is'

  are_asked_one : (items : List Item) (x y : List Statement) → AreAsked items x → AreAsked items y → x ≡ y
  are_asked_one [] x y h k = h ∙ sym k
  are_asked_one (item ∷ items) x y (asked, rest, is, asks, more) (asked', rest', is', asks', more') =
      is ∙ ap (λ o. if_asked o ++ rest) (asks_one item asked asked' asks asks')
      ∙ ap (λ l. if_asked asked' ++ l) (are_asked_one items rest rest' more more') ∙ sym is'

  -- the statements of the first items, and those of the rest
  abbrev Parts : List Item → List Item → List Statement → Type 0
  Parts first rest stream =
      (x : List Statement) × (y : List Statement) × (stream ≡ x ++ y) × AreAsked first x × AreAsked rest y

  parts : (first rest : List Item) (stream : List Statement) → AreAsked (first ++ rest) stream → Parts first rest stream
  parts [] rest stream h = ([], stream, refl, refl, h)
  parts (item ∷ first) rest stream (asked, later, is, asks, more) =
      let (x, y, split, in_first, in_rest) = parts first rest later more in (
        if_asked asked ++ x,
        y,
        is ∙ ap (λ l. if_asked asked ++ l) split ∙ sym (append_assoc (if_asked asked) x y),
        (asked, x, refl, asks, in_first),
        in_rest,
      )

  -- replies agree where answers do
  job_agrees : (s t : Statement) (a b : Answer) (r q : AnswerLines) (number : ℕ) → t ≡ s → job_number t ≡ Some number
      → TellsJob s a r → TellsJob s b q
      → a ≡ b → r ≡ q
  job_agrees s t a b r q number same is told told' alike =
      let number_is : job_number s ≡ Some number = ap job_number (sym same) ∙ is in
      told number number_is ∙ ap answering alike ∙ sym (told' number number_is)

  -- whatever is told of the items, their replies agree
  abbrev AllAgree : List Item → Type 0
  AllAgree items = (stream : List Statement) (answers again : List Answer) (rs qs : List AnswerLines)
      → Tells items stream answers rs
      → Tells items stream again qs → AnswersAgree stream answers again → RepliesAgree items rs qs

  module _ (item : Item) (items : List Item) (next : AllAgree items) (stream : List Statement)
      (answers again : List Answer)
      (r q : AnswerLines) (rest rest' : List AnswerLines) (agree : AnswersAgree stream answers again) where
    by_asked : (o : Option Statement) → Asks item o → TellsAsked o (λ x y. Tells items x y rest') stream again q
        → TellsAsked o (λ x y. Tells items x y rest) stream answers r
        → (place : ℕ) → IsJobItem (item ∷ items) place → slice_get (q ∷ rest') place ≡ slice_get (r ∷ rest) place
    by_asked None asks told' told zero (one, at, (t, asks_t, (number, numbered))) =
        let whole : Some item ≡ Some one = at in
        let same : item ≡ one = cc in
        let e : Some t ≡ None = asks_one item (Some t) None (subst (λ z. Asks z (Some t)) (sym same) asks_t) asks in
        absurd (let no : ⊥ = cc e in no)
    by_asked None asks told' told (suc k) job = next stream answers again rest rest' told told' agree k job
    by_asked (Some s) asks (stream1, b, later', s_is', again_is, job', told')
        (stream2, a, later, s_is, answers_is, job_told, told) zero (one, at, (t, asks_t, (number, numbered))) =
        let whole : Some item ≡ Some one = at in
        let same : item ≡ one = cc in
        let e : Some t ≡ Some s = asks_one item (Some t) (Some s) (subst (λ z. Asks z (Some t)) (sym same) asks_t)
        asks in
        let t_is : t ≡ s = cc in
        let first = agree zero number (
          s,
          ap (λ (l : List Statement). slice_get l zero) s_is,
          ap job_number (sym t_is)
              ∙ numbered,
        ) in
        let alike : Some b ≡ Some a = sym (ap (λ (l : List Answer). slice_get l zero) again_is) ∙ first
        ∙ ap (λ (l : List Answer). slice_get l zero) answers_is in
        let alike' : b ≡ a = cc in
        ap Some (job_agrees s t b a q r number t_is numbered job' job_told alike')
    by_asked (Some s) asks (stream1, b, later', s_is', again_is, job', told')
        (stream2, a, later, s_is, answers_is, job_told, told) (suc k) job =
        let whole : s ∷ stream1 ≡ s ∷ stream2 = sym s_is' ∙ s_is in
        let tails : stream1 ≡ stream2 = cc in
        next stream2 later later' rest rest' told (subst (λ x. Tells items x later' rest') tails told')
        (λ place number job_at.
        let e = agree (suc place) number (
          job_at.0,
          ap (λ (l : List Statement). slice_get l (suc place)) s_is
              ∙ job_at.1,
          job_at.2,
        ) in
        sym (ap (λ (l : List Answer). slice_get l (suc place)) again_is) ∙ e
        ∙ ap (λ (l : List Answer). slice_get l (suc place)) answers_is)
        k job

  replies_agree : (items : List Item) → AllAgree items
  replies_agree [] stream answers again rs qs x y agree place (item, at, job) = absurd (let no : ⊥ = cc at in no)
  replies_agree (item ∷ items) stream answers again rs qs (asked, r, rest, is, asks, more)
      (asked', q, rest', is', asks', more') agree place job =
      ap (λ l. slice_get l place) is'
      ∙ by_asked item items (replies_agree items) stream answers again r q rest rest' agree asked asks
      (subst (λ o. TellsAsked o (λ x y. Tells items x y rest') stream again q) (asks_one item asked' asked asks' asks)
      more') more place job
      ∙ ap (λ l. slice_get l place) (sym is)

  module _ (each : RerunEndsAsEachRun) (keeps : RunsSound) where
    as_each : EndsAsEach
    as_each first rest before replies again c c1 c' c'' sound cut whole rerun =
        let a = led first before c c1 cut in
        let b = led (first ++ rest) replies c c' whole in
        let d = led (first ++ rest) again c1 c'' rerun in
        let (x, y, split, in_first, in_rest) = parts first rest b.stream b.asked in
        let first_is : a.stream ≡ x = are_asked_one first a.stream x a.asked in_first in
        let again_is : d.stream ≡ b.stream = are_asked_one (first ++ rest) d.stream b.stream d.asked b.asked in
        let ends = each x y c c1 c' c'' a.answers b.answers d.answers sound
        (subst (All IsStatement) split b.well_formed) (subst (λ l. Runs l c a.answers c1) first_is a.run)
        (subst (λ l. Runs l c b.answers c') split b.run)
        (subst (λ l. Runs l c1 d.answers c'') (again_is ∙ split) d.run) in (
          ends.0,
          replies_agree (first ++ rest) b.stream b.answers d.answers replies again b.tells
              (subst (λ l. Tells (first ++ rest) l d.answers again) again_is d.tells)
              (subst (λ l. AnswersAgree l b.answers d.answers) (sym split) ends.1),
        )

    -- the first items, answered again, change nothing
    first_again : (first : List Item) (before again : List AnswerLines) (c c1 c2 : Content) → IsSound c
        → Answers Step c first before c1 → Answers Step c1 first again c2 → c2 ≡ c1
    first_again first before again c c1 c2 sound cut rerun =
        (as_each first [] before before again c c1 c1 c2 sound cut
        (subst (λ l. Answers Step c l before c1) (sym (append-nil first)) cut)
        (subst (λ l. Answers Step c1 l again c2) (sym (append-nil first)) rerun)).0

    -- so the first part and the rest of the second run are one answering of the whole stream
    pub one_run : RerunEndsAsOneRun
    one_run first rest before again c c1 c' sound cut rerun =
        let (again1, later, middle, is, firsts, rests) = answers_parts first rest again c1 c' rerun in
        let same : middle ≡ c1 = first_again first before again1 c c1 middle sound cut firsts in
        let whole = answers_joined first rest before later c c1 c' cut
        (subst (λ (x : Content). Answers Step x rest later c') same rests) in
        record {
          replies = before ++ later;
          answers = whole;
          agree = (as_each first rest before (before ++ later) again c c1 c' c' sound cut whole rerun).1;
          only = λ others left h.
              let ends = as_each first rest before others again c c1 left c' sound cut h rerun in (sym ends.0, ends.1);
        }

    -- one run from what was left, which ends as this one, ends as one run from the beginning
    before_it : (text : List ℕ) (c left c' : Content) (again : List AnswerLines) → IsSound c → Kept text c left
        → EndsAsOneRun (items_of text) left c' again → EndsAsOneRun (items_of text) c c' again
    before_it text c left c' again sound k ends =
        let first = one_run k.items k.others k.told ends.replies c left c' sound k.answers
        (subst (λ l. Answers Step left l ends.replies c') k.split ends.answers) in
        through (subst (λ l. EndsAsOneRun l c c' ends.replies) (sym k.split) first)
      where
        through : EndsAsOneRun (items_of text) c c' ends.replies → EndsAsOneRun (items_of text) c c' again
        through one = record {
          replies = one.replies;
          answers = one.answers;
          agree = λ place job. ends.agree place job ∙ one.agree place job;
          only = λ others last h. (
            (one.only others last h).0,
            λ place job. ends.agree place job ∙ (one.only others last h).1 place job,
          );
        }

    pub after_runs : RerunAfterRuns
    after_runs zero text c left c' w w' tally sound is again =
        subst (λ l. EndsAsOneRun l c c' again.replies) (sym again.read)
        (one_run [] again.items [] again.replies c c c' sound (refl, refl)
        (subst (λ (x : Content). Answers Step x again.items again.replies c') is again.answers))
    after_runs (suc times) text c left c' w w' tally sound (between, cut, more) again =
        let k = kept text c between cut in
        before_it text c between c' again.replies sound k
        (after_runs times text between left c' w w' tally
        (answers_sound keeps k.items k.told c between sound k.answers) more again)
