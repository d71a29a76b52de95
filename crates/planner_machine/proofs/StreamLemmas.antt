-- Streams of statements.
use Rattle.std.proofs.Common.{◌≡◌, ℕ, suc, ◌+◌, ◌-◌, ◌≤◌, ◌<◌, List, [], ◌∷◌, refl, sym, ap, ap₂, subst, ◌∙◌, inl}
use Rattle.std.proofs.Common.{inr, arith}
use Rattle.std.specs.Prelude.{All}
use Rattle.std.proofs.lemmas.Bool.{cases_lt}
use Rattle.std.proofs.lemmas.List.Elements.{All-head, All-tail}
use Rattle.std.proofs.lemmas.Option.{slice_get_cases}
use Rattle.external_dependencies.specs.declared.rows.PlacedRow.{PlacedRow}
use Rattle.planner_machine.specs.Content.{Content, IsOnlyAt}
use Rattle.planner_machine.specs.Moves.{numbered_row}
use Rattle.planner_machine.specs.Sound.{IsSound}
use Rattle.planner_machine.specs.Statement.{Answer, Statement}
use Rattle.planner_machine.specs.Stream.{Goes, IsBorn, IsStatement, Lives, Runs, RunsByFate, RunsOneWay, RunsSound}
use Rattle.planner_machine.specs.Stream.{acting, place_at}
use Rattle.planner_machine.proofs.StepLemmas.{step_follows, step_keeps, step_once}

pub one_way : RunsOneWay
one_way [] [] [] c c' c'' sound fine r r' = (refl, r ∙ sym r')
one_way [] [] (a ∷ az) c c' c'' sound fine r r' = absurd r'
one_way [] (a ∷ az) answers' c c' c'' sound fine r r' = absurd r
one_way (s ∷ stream) [] answers' c c' c'' sound fine r r' = absurd r
one_way (s ∷ stream) (a ∷ az) [] c c' c'' sound fine r r' = absurd r'
one_way (s ∷ stream) (a ∷ az) (b ∷ bs) c c' c'' sound fine (next, d, r) (next', d', r') =
    let same = step_once s c sound a b next next' d d' in
    let rest = one_way stream az bs next c' c'' (step_keeps s (All-head IsStatement s stream fine) c sound a next d)
    (All-tail IsStatement s stream fine) r (subst (λ x. Runs stream x bs c'') (sym same.1) r') in
    (ap₂ (λ x xs. x ∷ xs) same.0 rest.0, rest.1)

pub run_sound : RunsSound
run_sound [] [] c c' sound fine r = subst IsSound (sym r) sound
run_sound [] (a ∷ az) c c' sound fine r = absurd r
run_sound (s ∷ stream) [] c c' sound fine r = absurd r
run_sound (s ∷ stream) (a ∷ az) c c' sound fine (next, d, r) =
    run_sound stream az next c' (step_keeps s (All-head IsStatement s stream fine) c sound a next d)
    (All-tail IsStatement s stream fine) r

-- what stood goes on by its fates
goes_on : (stream : List Statement) (answers : List Answer) (c c' : Content) → IsSound c → All IsStatement stream
    → (run : Runs stream c answers c') → (serial : ℕ) (p : PlacedRow) → IsOnlyAt c.sets serial p → (q : PlacedRow)
    × IsOnlyAt c'.sets serial q × Goes stream answers c c' run p q
goes_on [] [] c c' sound fine r serial p there =
    (p, subst (λ (x : Content). IsOnlyAt x.sets serial p) (sym r) there, refl)
goes_on [] (a ∷ az) c c' sound fine r serial p there = absurd r
goes_on (s ∷ stream) [] c c' sound fine r serial p there = absurd r
goes_on (s ∷ stream) (a ∷ az) c c' sound fine (next, d, r) serial p there =
    let (drafts, makes, follows) = step_follows s c sound a next d in
    let (o, fate, there') = follows.old serial p there in
    let (q, at, goes) = goes_on stream az next c' (step_keeps s (All-head IsStatement s stream fine) c sound a next d)
    (All-tail IsStatement s stream fine) r serial o there' in
    (q, at, (o, fate, goes))

-- what is made goes on from where it is made
lives_on : (stream : List Statement) (answers : List Answer) (c c' : Content) → IsSound c → All IsStatement stream
    → (run : Runs stream c answers c') → (serial : ℕ) → c.sets.issued < serial → serial ≤ c'.sets.issued
    → (q : PlacedRow) × IsOnlyAt c'.sets serial q × Lives stream answers c c' run serial q
lives_on [] [] c c' sound fine r serial above below =
    absurd (let same : c'.sets.issued ≡ c.sets.issued = ap (λ (x : Content). x.sets.issued) r in omega arith)
lives_on [] (a ∷ az) c c' sound fine r serial above below = absurd r
lives_on (s ∷ stream) [] c c' sound fine r serial above below = absurd r
lives_on (s ∷ stream) (a ∷ az) c c' sound fine (next, d, r) serial above below =
    let (drafts, makes, follows) = step_follows s c sound a next d in
    let sound' = step_keeps s (All-head IsStatement s stream fine) c sound a next d in
    let rest = All-tail IsStatement s stream fine in
    elim (cases_lt next.sets.issued serial) [
      | inl later ↦ let (q, at, lives) = lives_on stream az next c' sound' rest r serial later below in
          (q, at, inr lives)
      | inr now ↦
          let issues = follows.issues in
          elim (slice_get_cases drafts (serial - suc c.sets.issued)).1 [
            | inr past ↦ absurd (omega (arith, past.0))
            | inl (draft, lt, is, at) ↦
                let numbered : serial ≡ c.sets.issued + 1 + (serial - suc c.sets.issued) = omega arith in
                let o : PlacedRow = record { row = numbered_row serial draft; place = place_at (acting s c a) } in
                let stands : IsOnlyAt next.sets serial o =
                subst (λ n. IsOnlyAt next.sets n (record {
                  row = numbered_row n draft;
                  place = place_at (acting s c a);
                })) (sym numbered)
                (follows.new (serial - suc c.sets.issued) draft is) in
                let (q, at', goes) = goes_on stream az next c' sound' rest r serial o stands in
                let born : IsBorn s a c serial o =
                record {
                  drafts = drafts;
                  makes = makes;
                  place_in_list = serial - suc c.sets.issued;
                  draft = draft;
                  there = is;
                  numbered = numbered;
                  is = refl;
                } in
                (q, at', inl (o, born, goes))
          ]
    ]

pub by_fate : RunsByFate
by_fate stream answers c c' sound fine run serial above below = elim (cases_lt c.sets.issued serial) [
  | inl new ↦ let (q, at, lives) = lives_on stream answers c c' sound fine run serial new below in (q, at, inr lives)
  | inr old ↦
      let (p, there) = sound.serials.placed serial above old in
      let (q, at, goes) = goes_on stream answers c c' sound fine run serial p there in
      (q, at, inl (p, there, goes))
]
