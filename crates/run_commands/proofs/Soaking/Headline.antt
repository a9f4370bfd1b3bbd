-- From every answer to the headline, and to when a soak is done.
use Rattle.run_commands.proofs.Names.{arith, ◌≡◌, ◌∙◌, ◌⊎◌, inl, inr, ℕ, true, List, [], ◌++◌, Result, Ok, Err, refl, ap, subst, option_map}
use Rattle.run_commands.proofs.Names.{done-of, done-unless-memory, shared-of, Comes, is_done, is_own, is_memory, comes-to, Answers, IsSound}
use Rattle.run_commands.proofs.Names.{StopCounts, Tells, Status, Done, LineLost, NotDetected, LinkLost, ChanceMatch, NoMemory, Stop}
use Rattle.run_commands.proofs.Names.{IsCarried, LostLinksWereStarved, ScriptRunsTo, RunEnd, Left, CountsStand-refl, FolderState, Ends}
use Rattle.run_commands.proofs.Names.{SoakEnds, soak_wire, soak_files, soak_file, is_run_end, run-ends-own, stopped-so, stopped-by}
use Rattle.run_commands.proofs.Names.{stopped-how, answer_of, of, other, Role}
use Rattle.line_run.specs.Ends.{MayRun, RunsLeavePrefixes, DoneLeavesWhole, OneResult, GivesUp}
use Rattle.line_run.specs.Ends as runs
use Rattle.line_run.specs.Scripted.{ScriptsMayPlay, ScriptsHaveDelays}
use Rattle.line_ends.specs.Scripts.{LineRunsEndSoon}
use Rattle.line_ends.specs.Causes.{EndsHaveCauses}
use Rattle.command_base.specs.Job.{SaysStop}
use Rattle.command_base.specs.Lines.{soak_line}
use Rattle.outside_calls.proofs.OnlyOutputs.{OnlyOutputs-refl}
use Rattle.run_commands.specs.Soaking.Soak.{soak_script}
use Rattle.run_commands.specs.declared.soak.counts.SoakCounts.{SoakCounts}
use Rattle.run_commands.specs.Soaking.Ends.{IsSoaked, soak_link, soak_job}
use Rattle.run_commands.specs.Soaking.Ends as ends
use Rattle.run_commands.specs.Soaking.Headline.{Soaks, RanBy, Headline}
use Rattle.run_commands.specs.Soaking.Completes.{Completes}

-- ---- how the command answers

stop-counts : (seed : ℕ) (f : FolderState) (stop : Stop) → Ends seed (Err stop) → StopCounts f f [] [] stop
stop-counts seed f other e = grind (arith)

pub soaked : (words : List (List ℕ)) (old new : FolderState) (seed : ℕ) (counts : SoakCounts) (s : Status) → IsSoaked seed counts
    → Tells old new (soak_line seed counts.turn counts.lost counts.again) Done s → Answers (soak_job seed) words old new s
soaked words old new seed counts s e tells = record {
  end = Ok counts;
  before = old;
  ends = (e, refl);
  only = OnlyOutputs-refl old [];
  refused = λ never. absurd never;
  counts = CountsStand-refl old;
  says = tells;
}

pub stopped : (words : List (List ℕ)) (old new : FolderState) (seed : ℕ) (stop : Stop) (s : Status) → Ends seed (Err stop)
    → SaysStop words old new stop s → Answers (soak_job seed) words old new s
stopped words old new seed stop s e says = record {
  end = Err stop;
  before = old;
  ends = (e, refl);
  only = OnlyOutputs-refl old [];
  refused = λ r name told. refl;
  counts = stop-counts seed old stop e;
  says = says;
}

-- ---- the headline

-- the laws of runs that it rests on
pub record SoakLaws : Type 0 where
  pub play : ScriptsMayPlay
  pub delays : ScriptsHaveDelays
  pub prefixes : RunsLeavePrefixes
  pub whole : DoneLeavesWhole
  pub soon : LineRunsEndSoon
  pub causes : EndsHaveCauses

may-run : SoakLaws → (seed : ℕ) (end : RunEnd) → SoakEnds seed end → MayRun (soak_wire seed) (soak_link seed)
may-run laws seed end e = record {
  may_play = laws.play (soak_script seed) (soak_files seed) e.limits;
  delays = laws.delays (soak_script seed) e.limits;
}

-- the file that a role's user sends
file-of : (seed : ℕ) (role : Role) → (of role (soak_link seed)).user.file ≡ soak_file seed role
file-of seed role = grind (arith)

soaks-of : SoakLaws → (seed : ℕ) (end : RunEnd) → SoakEnds seed end → Soaks seed end
soaks-of laws seed end e = record {
  ends = e;
  begins = λ role. let p = laws.prefixes (soak_wire seed) (soak_link seed) end e.left (may-run laws seed end e) e.run role in
      (p.0, p.1 ∙ file-of seed (other role));
  few = laws.soon (soak_wire seed) (soak_files seed) e.run.turns e.run.ends e.limits e.run.run;
  cause = laws.causes (soak_wire seed) (soak_files seed) end e.left e.limits e.run;
}

-- the answer is that of the run's end
ran-of : (words : List (List ℕ)) (old new : FolderState) (seed : ℕ) (s t : Status) → Answers (soak_job seed) words old new s → s ≡ t
    → is_run_end t ≡ true → ends.RanBy seed t
ran-of words old new seed s t a e k =
    let is = stopped-so is_run_end run-ends-own (soak_job seed).line_of words a.before new a.end s t a.says e k in
    subst (Ends seed) is a.ends.0

ran-by : SoakLaws → (words : List (List ℕ)) (old new : FolderState) (seed : ℕ) (s t : Status) → Answers (soak_job seed) words old new s
    → s ≡ t → RanBy old new seed t
ran-by laws words old new seed s Done a e =
    let d = done-of (soak_job seed) words old new s a e in
    let i : IsSoaked seed d.done = d.ends.0 in
    record {
      counts = d.done;
      said = d.said ∙ ap (λ (f : FolderState). option_map (λ x. x ++ soak_line seed d.done.turn d.done.lost d.done.again) f.said) d.ends.1;
      soaked = i;
      whole = λ role. laws.whole (soak_wire seed) (soak_link seed) d.done.turn i.ends.left (may-run laws seed _ i.ends) i.ends.run role
          ∙ file-of seed (other role);
      soaks = soaks-of laws seed (runs.IsDone d.done.turn) i.ends;
    }
ran-by laws words old new seed s (LinkLost role segment turn) a e =
    soaks-of laws seed _ (ran-of words old new seed s (LinkLost role segment turn) a e refl)
ran-by laws words old new seed s (NotDetected turn) a e =
    soaks-of laws seed _ (ran-of words old new seed s (NotDetected turn) a e refl)
ran-by laws words old new seed s (LineLost role symbol) a e =
    soaks-of laws seed _ (ran-of words old new seed s (LineLost role symbol) a e refl)
ran-by laws words old new seed s (ChanceMatch role turn) a e =
    soaks-of laws seed _ (ran-of words old new seed s (ChanceMatch role turn) a e refl)
ran-by laws words old new seed s t a e = tt

pub headline-of : SoakLaws → (words : List (List ℕ)) (old new : FolderState) (seed : ℕ) (s : Status)
    → Answers (soak_job seed) words old new s → Headline old new seed s
headline-of laws words old new seed s a =
    record {
      shared = shared-of (soak_job seed) words old new s a (λ e name. a.only.names name tt);
      ran = ran-by laws words old new seed s s a refl;
    }

-- ---- when a soak is done

never-up : LostLinksWereStarved → (seed : ℕ) (end : RunEnd) → IsCarried (soak_script seed) (soak_files seed) → GivesUp end
    → SoakEnds seed end → ⊥
never-up starved seed end c g e =
    c.not_starved end e.left e.run g (starved (soak_wire seed) (soak_files seed) end e.left e.limits e.run g)

never-ran : LostLinksWereStarved → (seed : ℕ) (answer : Status) → IsCarried (soak_script seed) (soak_files seed) → ends.RanBy seed answer
    → ⊥
never-ran starved seed answer c e =
    stopped-how (SoakEnds seed) answer e (λ end g h. never-up starved seed end c g h) (λ end l h. c.stays end h.left h.run l)

-- the end of the run that an answer names
own-end : (seed : ℕ) (answer : Status) → ends.RanBy seed answer → (found : RunEnd) × (answer ≡ answer_of found) × SoakEnds seed found
own-end seed answer e = stopped-by (SoakEnds seed) answer e

exact-of : OneResult → (words : List (List ℕ)) (old new : FolderState) (seed : ℕ) (s : Status) → Answers (soak_job seed) words old new s
    → IsSound old new [] [] → (end : RunEnd) (left : Left) → ScriptRunsTo (soak_script seed) (soak_files seed) end left
    → (s ≡ answer_of end) ⊎ (s ≡ NoMemory)
exact-of law words old new seed s a sound end left run = by (comes-to (soak_job seed) words old new s a sound)
  where
    so : (found : RunEnd) → SoakEnds seed found → s ≡ answer_of found → (s ≡ answer_of end) ⊎ (s ≡ NoMemory)
    so found e is = inl (is ∙ ap answer_of (law (soak_wire seed) (soak_link seed) found end e.left left e.run run).0)

    by : Comes a.end s → (s ≡ answer_of end) ⊎ (s ≡ NoMemory)
    by (is_done counts is e) =
        let soaked : IsSoaked seed counts = subst (λ (x : Result SoakCounts Stop). Ends seed x) is a.ends.0 in
        so (runs.IsDone counts.turn) soaked.ends e
    by (is_own answer is e) =
        let found = own-end seed answer (subst (λ (x : Result SoakCounts Stop). Ends seed x) is a.ends.0) in
        so found.0 found.2 (e ∙ found.1)
    by (is_memory e) = inr e

pub completes-of : OneResult → LostLinksWereStarved → (words : List (List ℕ)) (old new : FolderState) (seed : ℕ) (s : Status)
    → Answers (soak_job seed) words old new s → Completes old new seed s
completes-of law starved words old new seed s a = record {
  exact = exact-of law words old new seed s a;
  carried = λ sound c. done-unless-memory (soak_job seed) words old new s a sound (λ answer e. never-ran starved seed answer c e.0);
}
