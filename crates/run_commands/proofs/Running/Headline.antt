-- From every answer to the headline, and to when a run is done.
use Rattle.run_commands.proofs.Names.{arith, ◌≡◌, ◌⊎◌, ℕ, true, List, [], ◌++◌, Some, refl, ◌∙◌, ap, subst, option_map, last-only, done-of}
use Rattle.run_commands.proofs.Names.{shared-of, Answers, done_line, Status, Done, LineLost, NotDetected, LinkLost, ChanceMatch, RunLaws}
use Rattle.run_commands.proofs.Names.{may-run, RunEnd, wire_of, link_of, delay_of, Holds-kept, told_later, FolderState, GoesOn, Holds}
use Rattle.run_commands.proofs.Names.{KeepsAll, OnlyOutputs, RanTo, EndsBy, run_job, is_run_end, run-ends-own, stopped-so, RefusesOwn}
use Rattle.run_commands.proofs.Names.{RunNames, files_of, LIMITS, Originator, Answerer}
use Rattle.link_run.specs.Laws.{agreed_srej}
use Rattle.link_run.specs.Taken.{taken_octets}
use Rattle.line_run.specs.Ends.{turns_heard}
use Rattle.line_run.specs.Ends as runs
use Rattle.line_ends.proofs.ReadingOff.{run-read}
use Rattle.command_base.specs.declared.stop.Stop.TheVariants as stops
use Rattle.run_inputs.proofs.Files.{prefix-later}
use Rattle.run_inputs.specs.Files.{HoldsWhole}
use Rattle.run_commands.specs.Running.Ends as ends
use Rattle.run_commands.specs.Running.Headline.{Ran, RanBy, Headline}
use Rattle.run_commands.proofs.Running.Prefixes.{BothPrefix, both-of}
use Rattle.run_commands.proofs.Running.Tapes.{are-of, tapes-last, begun-last, tapes-of}

-- a run that is done
whole-of : RunLaws → (old before new : FolderState) (n : RunNames) (turn : ℕ) → GoesOn old before → KeepsAll before new
    → RanTo LIMITS old before n (runs.IsDone turn)
    → HoldsWhole old new n.names.got_o n.names.answ × HoldsWhole old new n.names.got_a n.names.orig
whole-of laws old before new n turn g kept e =
    let w =
    laws.whole (wire_of e.script) (link_of e.script e.files) turn e.left (may-run laws (wire_of e.script) e.files e.takes.limits) e.run in (
      (λ ts tg. kept n.names.got_o (told_later g n.names.got_o tg) ∙ e.holds.0 (told_later g n.names.got_o tg)
          ∙ ap Some (w Originator ∙ e.takes.answ ts)),
      (λ ts tg. kept n.names.got_a (told_later g n.names.got_a tg) ∙ e.holds.1.0 (told_later g n.names.got_a tg)
          ∙ ap Some (w Answerer ∙ e.takes.orig ts)),
    )

-- a run that ended by itself
ran-of : RunLaws → (old before new : FolderState) (n : RunNames) (end : RunEnd) → OnlyOutputs before new [] → RanTo LIMITS old before n end
    → Ran old new n end
ran-of laws old before new n end last e =
    let c = wire_of e.script in
    let link = link_of e.script e.files in
    let heard = turns_heard c link e.run.turns e.run.ends end e.left e.run.ended in
    let passed = laws.passed c link end e.left (may-run laws (wire_of e.script) e.files e.takes.limits) e.run in record {
      script = e.script;
      limits = e.takes.limits;
      files = e.files;
      are_of = are-of old n e.script e.files e.takes;
      left = e.left;
      run = e.run;
      heard = heard;
      heard_is = refl;
      read_off = run-read laws.least c link e.run.turns e.run.ends end e.left e.run.run e.run.ended;
      got = record {
        got_o = Holds-kept before new n.names.got_o (taken_octets (agreed_srej link) (delay_of e.script) Originator heard) last.goes_on
            (subst (Holds before n.names.got_o) (passed Originator) e.holds.0) (last.names n.names.got_o tt);
        got_a = Holds-kept before new n.names.got_a (taken_octets (agreed_srej link) (delay_of e.script) Answerer heard) last.goes_on
            (subst (Holds before n.names.got_a) (passed Answerer) e.holds.1.0) (last.names n.names.got_a tt);
      };
      trace = Holds-kept before new n.names.trace e.left.trace last.goes_on e.holds.1.1.0 (last.names n.names.trace tt);
      taped = tapes-last before new n.tapes c e.run.turns last e.taped;
      few = laws.soon c e.files e.run.turns e.run.ends e.takes.limits e.run.run;
      cause = laws.causes c e.files end e.left e.takes.limits e.run;
    }

-- the answer is that of the run's end
pub own-ends : (words : List (List ℕ)) (old new : FolderState) (n : RunNames) (s t : Status) (a : Answers (run_job n) words old new s)
    → is_run_end t ≡ true → s ≡ t → EndsBy LIMITS old a.before n (stops.Own t)
own-ends words old new n s t a e f =
    let is = stopped-so is_run_end run-ends-own done_line words a.before new a.end s t a.says f e in
    subst (ends.Ends LIMITS old a.before n) is a.ends.0

pub not-refused : {P : Type 0} → (old before : FolderState) (n : RunNames) (answer : Status)
    → (RefusesOwn LIMITS old n.script 3 (files_of n) 1 answer → ⊥)
    → (KeepsAll old before × RefusesOwn LIMITS old n.script 3 (files_of n) 1 answer) ⊎ P → P
not-refused old before n answer never given = grind (arith)

ran-by : RunLaws → (words : List (List ℕ)) (old new : FolderState) (n : RunNames) (s t : Status) (a : Answers (run_job n) words old new s)
    → OnlyOutputs a.before new [] → s ≡ t → RanBy old new n t
ran-by laws words old new n s Done a last e = let d = done-of (run_job n) words old new s a e in (
  d.done,
  d.said ∙ ap (option_map (λ x. x ++ done_line d.done)) d.ends.1,
  ran-of laws old a.before new n (runs.IsDone d.done) last d.ends.0,
)
ran-by laws words old new n s (LinkLost role segment turn) a last e =
    ran-of laws old a.before new n _ last
    (not-refused old a.before n (LinkLost role segment turn) (λ x. x) (own-ends words old new n s (LinkLost role segment turn) a refl e))
ran-by laws words old new n s (NotDetected turn) a last e =
    ran-of laws old a.before new n _ last
    (not-refused old a.before n (NotDetected turn) (λ x. x) (own-ends words old new n s (NotDetected turn) a refl e))
ran-by laws words old new n s (LineLost role symbol) a last e =
    ran-of laws old a.before new n _ last
    (not-refused old a.before n (LineLost role symbol) (λ x. x) (own-ends words old new n s (LineLost role symbol) a refl e))
ran-by laws words old new n s (ChanceMatch role turn) a last e =
    ran-of laws old a.before new n _ last
    (not-refused old a.before n (ChanceMatch role turn) (λ x. x) (own-ends words old new n s (ChanceMatch role turn) a refl e))
ran-by laws words old new n s t a last e = tt

-- the headline holds of every answer
pub headline-of : RunLaws → (words : List (List ℕ)) (old new : FolderState) (n : RunNames) (s : Status)
    → Answers (run_job n) words old new s → Headline old new n s
headline-of laws words old new n s a = record {
  shared = shared-of (run_job n) words old new s a (λ e. e.0.0);
  got_o = prefix-later old a.before new n.names.got_o n.names.answ a.only.goes_on (kept n.names.got_o) both.got_o;
  got_a = prefix-later old a.before new n.names.got_a n.names.orig a.only.goes_on (kept n.names.got_a) both.got_a;
  whole_o = λ e. let d = done-of (run_job n) words old new s a e in
      (whole-of laws old a.before new n d.done a.only.goes_on kept d.ends.0).0;
  whole_a = λ e. let d = done-of (run_job n) words old new s a e in
      (whole-of laws old a.before new n d.done a.only.goes_on kept d.ends.0).1;
  taped = begun-last old a.before new n n.tapes last a.only.goes_on (tapes-of old a.before n a.end a.ends.0);
  ran = ran-by laws words old new n s s a last refl;
}
  where
    last : OnlyOutputs a.before new []
    last = last-only done_line words a.before new a.end s a.says

    kept : KeepsAll a.before new
    kept name = last.names name tt

    both : BothPrefix old a.before n
    both = both-of laws old a.before n a.end a.only.goes_on a.ends.0
