-- Two runs side by side: what is written of them, and which verdict is due.
use Rattle.std.proofs.Common.{◌≡◌, ℕ, zero, suc, ◌+◌, ◌-◌, ◌≤◌, ◌<◌, ◌∙◌, refl, sym, ap, subst, List, [], ◌++◌, Option, append_assoc, append-nil, arith, inl, inr}
use Rattle.std.proofs.lemmas.Bool.{cases_lt}
use Rattle.bench_io.specs.Sinks.{AppendsFront, appended}
use Rattle.bench_io.proofs.Writing.{IsWriting, appended-none, appended-appended, stops_in}
use Rattle.elf_image.specs.Image.{Segment}
use Rattle.stimulus.specs.Stimulus.{Stimulus}
use Rattle.trace_print.specs.declared.items.TraceItem.TheVariants.{End}
use Rattle.trace_print.specs.declared.releases.Item.{Item}
use Rattle.trace_print.specs.declared.verdicts.Verdict.{Verdict}
use Rattle.trace_print.specs.declared.verdicts.Verdict.TheVariants.{Seal, Outside, Release, Same}
use Rattle.trace_print.specs.Lines.{line_of}
use Rattle.trace_print.specs.Verdicts.{IsTellable, verdict_line_of}
use Rattle.chip_core.specs.Items.{items_of}
use Rattle.chip_core.specs.Lines.{lines_of}
use Rattle.chip_core.specs.Run.{chip_after}
use Rattle.chip_core.specs.State.{State}
use Rattle.chip_core.specs.Tick.{ticked}
use Rattle.release_log.specs.SameItems.{AreSameItems}
use Rattle.stage_laws.specs.OneTick.{ItemsAgree}
use Rattle.stage_laws.specs.TwoRuns.{AgreeUntil, ImagesAgree, RunsAlike, first_of}
use Rattle.stage_laws.specs.Verdicts.{ImagesDiffer, IsVerdict, RunsCompare, RunsDecide}
use Rattle.stage_laws.proofs.Runs.{runs_agree}
use Rattle.stage_laws.proofs.Due.{agree_not_differ, release_is_later, verdict_is_one}
use Rattle.capsule.specs.declared.statuses.Status.{Status}
use Rattle.capsule.specs.declared.statuses.Status.TheVariants.{Done, Differ}
use Rattle.capsule.specs.Pairs.{lines_before, pair_text}
use Rattle.capsule.specs.Ticks.{text_of_ticks}
use Rattle.capsule.specs.Trace.{text_of_lines, trace_tick}
use Rattle.capsule.specs.Written.{IsCompared, IsComparison, SinkView, ending_of, sink_view}
use Rattle.capsule.proofs.Calls.{whole_written}

-- ---- the text of ticks

module _ (tick_text : Stimulus → ℕ → State → List ℕ) (bench : Stimulus) (first : State) where
  -- the text of some ticks, and of some more
  pub ticks-split : (n m tick : ℕ) → text_of_ticks tick_text (n + m) tick bench first ≡ text_of_ticks tick_text n tick bench first ++ text_of_ticks tick_text m (tick + n) bench first
  ticks-split zero m tick =
      let count : 0 + m ≡ m = omega arith in
      let place : tick ≡ tick + 0 = omega arith in
      ap (λ count. text_of_ticks tick_text count tick bench first) count
      ∙ ap (λ place. text_of_ticks tick_text m place bench first) place
  ticks-split (suc n) m tick =
      let one : List ℕ = tick_text bench tick (chip_after tick bench first) in
      let count : suc n + m ≡ suc (n + m) = omega arith in
      let place : suc tick + n ≡ tick + suc n = omega arith in
      ap (λ count. text_of_ticks tick_text count tick bench first) count
      ∙ ap (λ rest. one ++ rest) (ticks-split n m (suc tick))
      ∙ sym (append_assoc one (text_of_ticks tick_text n (suc tick) bench first) (text_of_ticks tick_text m (suc tick + n) bench first))
      ∙ ap (λ place. (one ++ text_of_ticks tick_text n (suc tick) bench first) ++ text_of_ticks tick_text m place bench first) place

  -- one tick more
  pub ticks-one_more : (n : ℕ) → text_of_ticks tick_text (n + 1) 0 bench first ≡ text_of_ticks tick_text n 0 bench first ++ tick_text bench n (chip_after n bench first)
  ticks-one_more n =
      let place : 0 + n ≡ n = omega arith in
      ticks-split n 1 0
      ∙ ap (λ place. text_of_ticks tick_text n 0 bench first ++ text_of_ticks tick_text 1 place bench first) place
      ∙ ap (λ last. text_of_ticks tick_text n 0 bench first ++ last) (append-nil (tick_text bench n (chip_after n bench first)))

-- runs whose lines are equal have one text
pub ticks-agree : (bench : Stimulus) (a b : State) (n tick : ℕ) → ((k : ℕ) → k < tick + n → lines_of bench (chip_after k bench a) ≡ lines_of bench (chip_after k bench b)) → text_of_ticks trace_tick n tick bench a ≡ text_of_ticks trace_tick n tick bench b
ticks-agree bench a b zero tick same = refl
ticks-agree bench a b (suc n) tick same =
    let rest : List ℕ = text_of_ticks trace_tick n (suc tick) bench a in
    ap (λ lines. text_of_lines tick lines ++ rest) (same tick (omega arith))
    ∙ ap (λ rest. trace_tick bench tick (chip_after tick bench b) ++ rest) (ticks-agree bench a b n (suc tick) (λ k h. same k (omega (arith, h))))

-- ---- the lines before a verdict are those of both

of_runs : (bench : Stimulus) (one other : List Segment) (verdict : Verdict) → RunsDecide bench one other verdict → lines_before verdict bench (first_of bench one) ≡ lines_before verdict bench (first_of bench other)
of_runs bench one other Seal decide = absurd decide.runs
of_runs bench one other (Outside at) decide = absurd decide.runs
of_runs bench one other (Release tick) decide =
    let alike : RunsAlike bench one other tick = runs_agree one other bench tick decide.images decide.runs.until in
    ticks-agree bench (first_of bench one) (first_of bench other) tick 0 (λ k h. alike.lines k (omega (arith, h)))
of_runs bench one other Same decide =
    let alike : RunsAlike bench one other bench.end = runs_agree one other bench bench.end decide.images decide.runs in
    ap (λ text. text ++ line_of bench.end End) (ticks-agree bench (first_of bench one) (first_of bench other) bench.end 0 (λ k h. alike.lines k (omega (arith, h))))

-- where the images differ there are none
pub of_images : (bench : Stimulus) (one other : List Segment) (verdict : Verdict) (first : State) → ImagesDiffer one other verdict → lines_before verdict bench first ≡ []
of_images bench one other Seal first differ = refl
of_images bench one other (Outside at) first differ = refl
of_images bench one other (Release tick) first differ = absurd differ
of_images bench one other Same first differ = absurd differ

pub of_both : (bench : Stimulus) (one other : List Segment) (verdict : Verdict) → IsVerdict bench one other verdict → lines_before verdict bench (first_of bench one) ≡ lines_before verdict bench (first_of bench other)
of_both bench one other verdict (inl differ) =
    of_images bench one other verdict (first_of bench one) differ ∙ sym (of_images bench one other verdict (first_of bench other) differ)
of_both bench one other verdict (inr decide) = of_runs bench one other verdict decide

-- ---- what is left of them behind ticks whose items agree

-- a verdict of the runs comes behind all ticks whose items are known to agree
pub record HasLeft (bench : Stimulus) (first : State) (verdict : Verdict) (n : ℕ) : Type 0 where
  pub rest : List ℕ
  pub whole : lines_before verdict bench first ≡ text_of_ticks trace_tick n 0 bench first ++ rest

left_of : (bench : Stimulus) (first : State) (n end : ℕ) (last : List ℕ) → n ≤ end → text_of_ticks trace_tick end 0 bench first ++ last ≡ text_of_ticks trace_tick n 0 bench first ++ (text_of_ticks trace_tick (end - n) n bench first ++ last)
left_of bench first n end last within =
    let parts : end ≡ n + (end - n) = omega (arith, within) in
    let place : 0 + n ≡ n = omega arith in
    ap (λ count. text_of_ticks trace_tick count 0 bench first ++ last) parts
    ∙ ap (λ text. text ++ last) (ticks-split trace_tick bench first n (end - n) 0)
    ∙ ap (λ place. (text_of_ticks trace_tick n 0 bench first ++ text_of_ticks trace_tick (end - n) place bench first) ++ last) place
    ∙ append_assoc (text_of_ticks trace_tick n 0 bench first) (text_of_ticks trace_tick (end - n) n bench first) last

pub has_left : (bench : Stimulus) (a b : State) (verdict : Verdict) (n : ℕ) → RunsCompare bench a b verdict → AgreeUntil bench a b n → n ≤ bench.end → HasLeft bench a verdict n
has_left bench a b Seal n compare until within = absurd compare
has_left bench a b (Outside at) n compare until within = absurd compare
has_left bench a b (Release tick) n compare until within = record {
  rest = text_of_ticks trace_tick (tick - n) n bench a ++ [];
  whole = sym (append-nil (text_of_ticks trace_tick tick 0 bench a)) ∙ left_of bench a n tick [] (release_is_later bench a b tick n compare until);
}
has_left bench a b Same n compare until within = record {
  rest = text_of_ticks trace_tick (bench.end - n) n bench a ++ line_of bench.end End;
  whole = left_of bench a n bench.end (line_of bench.end End) within;
}

-- a front of the next tick was written, and so a front of what is before the verdict, whichever that is
pub front_of_tick : (bench : Stimulus) (a b : State) (n : ℕ) (before now after : Option (List ℕ)) (text : List ℕ) → AgreeUntil bench a b (n + 1) → n < bench.end → now ≡ appended before (text_of_ticks trace_tick n 0 bench a) → text ≡ trace_tick bench n (chip_after n bench a) → AppendsFront now after text → (verdict : Verdict) → RunsCompare bench a b verdict → AppendsFront before after (lines_before verdict bench a)
front_of_tick bench a b n before now after text until within written is front = λ verdict compare.
    let left : HasLeft bench a verdict (n + 1) = has_left bench a b verdict (n + 1) compare until (omega (arith, within)) in
    let done : List ℕ = text_of_ticks trace_tick n 0 bench a in
    let writing : IsWriting before now (lines_before verdict bench a) (text ++ left.rest) = record {
      done = done;
      written = written;
      whole_is = left.whole ∙ ap (λ told. told ++ left.rest) (ticks-one_more trace_tick bench a n ∙ ap (λ line. done ++ line) (sym is)) ∙ append_assoc done text left.rest;
    } in
    stops_in before now after (lines_before verdict bench a) (text ++ left.rest) text left.rest writing refl front

-- behind all ticks the runs are the same, and a front of the last line is a front of their text
front_of_last : (bench : Stimulus) (a b : State) (before now after : Option (List ℕ)) → AgreeUntil bench a b bench.end → now ≡ appended before (text_of_ticks trace_tick bench.end 0 bench a) → AppendsFront now after (line_of bench.end End) → (verdict : Verdict) → RunsCompare bench a b verdict → AppendsFront before after (lines_before verdict bench a)
front_of_last bench a b before now after until written front Seal compare = absurd compare
front_of_last bench a b before now after until written front (Outside at) compare = absurd compare
front_of_last bench a b before now after until written front (Release tick) compare =
    absurd (compare.differ (until tick compare.in_run))
front_of_last bench a b before now after until written front Same compare =
    let line : List ℕ = line_of bench.end End in
    let writing : IsWriting before now (lines_before Same bench a) line = record {
      done = text_of_ticks trace_tick bench.end 0 bench a;
      written = written;
      whole_is = refl;
    } in
    stops_in before now after (lines_before Same bench a) line line [] writing (sym (append-nil line)) front

pub front_of_end : (bench : Stimulus) (a b : State) (n end : ℕ) (before now after : Option (List ℕ)) → n ≡ bench.end → end ≡ bench.end → AgreeUntil bench a b n → now ≡ appended before (text_of_ticks trace_tick n 0 bench a) → AppendsFront now after (line_of end End) → (verdict : Verdict) → RunsCompare bench a b verdict → AppendsFront before after (lines_before verdict bench a)
front_of_end bench a b n end before now after all ends until written front =
    front_of_last bench a b before now after
    (subst (λ n. AgreeUntil bench a b n) all until)
    (subst (λ n. now ≡ appended before (text_of_ticks trace_tick n 0 bench a)) all written)
    (subst (λ end. AppendsFront now after (line_of end End)) ends front)

-- ---- and of the verdict

-- a front of the lines before a verdict is a front of its text
pub front_of_text : (before after : Option (List ℕ)) (lines last : List ℕ) → AppendsFront before after lines → AppendsFront before after (lines ++ last)
front_of_text before after lines last front =
    let writing : IsWriting before before (lines ++ last) (lines ++ last) = record {
      done = [];
      written = sym (appended-none before);
      whole_is = refl;
    } in
    stops_in before before after (lines ++ last) (lines ++ last) lines last writing refl front

-- the runs were written in part, whatever verdict is due
pub front_of_runs : (bench : Stimulus) (one other : List Segment) (before after : Option (List ℕ)) → ImagesAgree one other → ((verdict : Verdict) → RunsCompare bench (first_of bench one) (first_of bench other) verdict → AppendsFront before after (lines_before verdict bench (first_of bench one))) → (verdict : Verdict) → IsVerdict bench one other verdict → AppendsFront before after (pair_text verdict bench one)
front_of_runs bench one other before after images front verdict (inl differ) = absurd (agree_not_differ one other verdict images differ)
front_of_runs bench one other before after images front verdict (inr decide) =
    front_of_text before after (lines_before verdict bench (first_of bench one)) (verdict_line_of verdict) (front verdict decide.runs)

-- the lines were written, and the verdict's own in part
pub front_of_verdict : (bench : Stimulus) (one other : List Segment) (due : Verdict) (before now after : Option (List ℕ)) (text : List ℕ) → IsVerdict bench one other due → now ≡ appended before (lines_before due bench (first_of bench one)) → text ≡ verdict_line_of due → AppendsFront now after text → (verdict : Verdict) → IsVerdict bench one other verdict → AppendsFront before after (pair_text verdict bench one)
front_of_verdict bench one other due before now after text is written line front = λ verdict second.
    let writing : IsWriting before now (pair_text due bench one) text = record {
      done = lines_before due bench (first_of bench one);
      written = written;
      whole_is = ap (λ last. lines_before due bench (first_of bench one) ++ last) (sym line);
    } in
    subst (λ told. AppendsFront before after (pair_text told bench one)) (verdict_is_one bench one other due verdict is second)
    (stops_in before now after (pair_text due bench one) text text [] writing (sym (append-nil text)) front)

-- both were written
pub whole_pair : (before now after : Option (List ℕ)) (lines line : List ℕ) → now ≡ appended before lines → after ≡ appended now line → after ≡ appended before (lines ++ line)
whole_pair before now after lines line written put =
    put ∙ ap (λ held. appended held line) written ∙ appended-appended before lines line

-- nothing was written yet
pub none_written : (bench : Stimulus) (one other : List Segment) (verdict : Verdict) (first : State) (before : Option (List ℕ)) → ImagesDiffer one other verdict → before ≡ appended before (lines_before verdict bench first)
none_written bench one other verdict first before differ =
    sym (appended-none before) ∙ ap (appended before) (sym (of_images bench one other verdict first differ))

-- ---- one tick of both

-- the items that both chips gave are those of their ticks
agree_of_items : (bench : Stimulus) (a b next_a next_b : State) (items other : List Item) → items ≡ items_of bench a → other ≡ items_of bench b → next_a ≡ ticked bench a → next_b ≡ ticked bench b → AreSameItems items other next_a.bus.memory next_b.bus.memory → ItemsAgree bench a b
agree_of_items bench a b next_a next_b items other is_a is_b t_a t_b same =
    rw (← is_a, ← is_b, ← t_a, ← t_b) same

-- the items of one tick more agree
pub agree_more : (bench : Stimulus) (first_a first_b a b next_a next_b : State) (items other : List Item) (n : ℕ) → a ≡ chip_after n bench first_a → b ≡ chip_after n bench first_b → items ≡ items_of bench a → other ≡ items_of bench b → next_a ≡ ticked bench a → next_b ≡ ticked bench b → AgreeUntil bench first_a first_b n → AreSameItems items other next_a.bus.memory next_b.bus.memory → AgreeUntil bench first_a first_b (n + 1)
agree_more bench first_a first_b a b next_a next_b items other n at_a at_b is_a is_b t_a t_b until same = λ k before. elim (cases_lt k n) [
  | inl earlier ↦ until k earlier
  | inr last ↦
      let here : ItemsAgree bench a b = agree_of_items bench a b next_a next_b items other is_a is_b t_a t_b same in
      let there : ItemsAgree bench (chip_after n bench first_a) (chip_after n bench first_b) = rw (at_a, at_b) at here in
      let number : n ≡ k = omega (arith, before, last) in
      subst (λ k. ItemsAgree bench (chip_after k bench first_a) (chip_after k bench first_b)) number there
]

-- the lines of one tick more are written
pub lines_more : (bench : Stimulus) (first chip : State) (n : ℕ) (before now after : Option (List ℕ)) (text : List ℕ) → chip ≡ chip_after n bench first → now ≡ appended before (text_of_ticks trace_tick n 0 bench first) → text ≡ trace_tick bench n chip → after ≡ appended now text → after ≡ appended before (text_of_ticks trace_tick (n + 1) 0 bench first)
lines_more bench first chip n before now after text at written is put =
    let done : List ℕ = text_of_ticks trace_tick n 0 bench first in
    put
    ∙ ap (λ held. appended held text) written
    ∙ appended-appended before done text
    ∙ ap (λ line. appended before (done ++ line)) (is ∙ ap (trace_tick bench n) at)
    ∙ ap (appended before) (sym (ticks-one_more trace_tick bench first n))

-- the verdicts of runs have their lines
pub runs-tellable : (bench : Stimulus) (a b : State) (verdict : Verdict) → RunsCompare bench a b verdict → IsTellable verdict
runs-tellable bench a b Seal compare = tt
runs-tellable bench a b (Outside at) compare = absurd compare
runs-tellable bench a b (Release tick) compare = tt
runs-tellable bench a b Same compare = tt

-- ---- the status of a verdict

comparison_of : (bench : Stimulus) (one other : List Segment) (verdict : Verdict) (before after : Option (List ℕ)) (faults counted : ℕ) (status : Status) → status ≡ ending_of verdict → IsVerdict bench one other verdict → after ≡ appended before (pair_text verdict bench one) → counted ≡ faults → IsComparison bench one other (sink_view before faults) (sink_view after counted) status
comparison_of bench one other verdict before after faults counted status ending due whole uncounted = record {
  verdict = verdict;
  due = due;
  of_both = of_both bench one other verdict due;
  whole = whole_written before after faults counted (pair_text verdict bench one) whole uncounted;
  ending = ending;
}

-- a verdict ends with Done or with Differ
ends_so : (bench : Stimulus) (one other : List Segment) (sink now : SinkView) (status : Status) (verdict : Verdict) → status ≡ ending_of verdict → IsComparison bench one other sink now status → IsCompared bench one other sink now status
ends_so bench one other sink now Done verdict ending told = told
ends_so bench one other sink now Differ verdict ending told = told
ends_so bench one other sink now status Same ending told = absurd (cc)
ends_so bench one other sink now status Seal ending told = absurd (cc)
ends_so bench one other sink now status (Outside at) ending told = absurd (cc)
ends_so bench one other sink now status (Release tick) ending told = absurd (cc)

pub compared_of : (bench : Stimulus) (one other : List Segment) (verdict : Verdict) (before after : Option (List ℕ)) (faults counted : ℕ) (status : Status) → status ≡ ending_of verdict → IsVerdict bench one other verdict → after ≡ appended before (pair_text verdict bench one) → counted ≡ faults → IsCompared bench one other (sink_view before faults) (sink_view after counted) status
compared_of bench one other verdict before after faults counted status ending due whole uncounted =
    ends_so bench one other (sink_view before faults) (sink_view after counted) status verdict ending (comparison_of bench one other verdict before after faults counted status ending due whole uncounted)

-- ---- runs from the first chips of images

pub runs_decide : (bench : Stimulus) (one other : List Segment) (a b : State) (verdict : Verdict) → a ≡ first_of bench one → b ≡ first_of bench other → ImagesAgree one other → RunsCompare bench a b verdict → RunsDecide bench one other verdict
runs_decide bench one other a b verdict first_a first_b images compare = record {
  images = images;
  runs = subst (λ chip. RunsCompare bench (first_of bench one) chip verdict) first_b (subst (λ chip. RunsCompare bench chip b verdict) first_a compare);
}

pub runs_written : (bench : Stimulus) (one : List Segment) (a : State) (verdict : Verdict) (before after : Option (List ℕ)) → a ≡ first_of bench one → after ≡ appended before (lines_before verdict bench a) → after ≡ appended before (lines_before verdict bench (first_of bench one))
runs_written bench one a verdict before after first written =
    written ∙ ap (λ chip. appended before (lines_before verdict bench chip)) first
