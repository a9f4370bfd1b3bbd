use Rattle.exact_decoder.proofs.Names.{◌≡◌, ℕ, ◌+◌, ◌-◌, ◌<◌, ◌≤◌, ◌^◌, ◌++◌, [], ◌∷◌, List, length, take, drop, lit<, Option, None, Some}
use Rattle.exact_decoder.proofs.Names.{reverse, append-nil, append_assoc, refl, sym, ◌∙◌, ap, subst, arith, length-take-le, length-reverse}
use Rattle.exact_decoder.proofs.Names.{take-append-drop, Decoding, decoding_of, IsSound, DecoderStands, Sample}
use Rattle.exact_decoder.specs.Memory.{opened}
use Rattle.exact_decoder.proofs.Keeping.{All-turned}
use Rattle.exact_decoder.proofs.Pushed.{Pushed, none-some, stands-goes_on, stands-lost, stands-stays}
use Rattle.exact_decoder.proofs.Batches.{heard-within, heard-fit, some-heard}
use Rattle.exact_decoder.proofs.Spreading.{sound-next}
use Rattle.exact_decoder.proofs.decoder.Decoder.push_some.Given.{Over}
use Rattle.exact_decoder.proofs.decoder.Decoder.push_some.Goals.{After-release}
use Rattle.exact_decoder.proofs.decoder.Decoder.push_some.Goals as goal

whole : (past samples : List Sample) (heard : ℕ) → (past ++ take heard samples) ++ drop heard samples ≡ past ++ samples
whole past samples heard = grind (arith, append_assoc, take-append-drop)

empty-turned : (l : List ℕ) → reverse l ≡ [] → l ≡ []
empty-turned [] e = refl
empty-turned (x ∷ l) e = absurd (omega (arith, ap length e, length-reverse (x ∷ l)))

pub returns-in-Some-clause-stands : goal.returns-in-Some-clause-stands
returns-in-Some-clause-stands g c = λ starts past taken h.
    stands-stays _ _ _ _ _ _ _ _ _ (ap (λ v. v.lost) (sym c.self.view_is) ∙ c.in-Some.is) h

pub overflow_sub-unreleased : goal.overflow_sub-unreleased
unfolding opened
overflow_sub-unreleased g c = omega (arith, c.unreleased.ensures, c.self.invariant.few_unreleased)

pub returns-then-heard-eq0-clause-stands : goal.returns-then-heard-eq0-clause-stands
returns-then-heard-eq0-clause-stands g c = λ starts past taken h.
    let t = g.C.TrellisCode in
    subst (λ l. DecoderStands t.table t.points starts g.row.DEPTH c.args.self.now l taken) (sym (append-nil past)) h

pub returns-then-heard-eq0-clause-some : goal.returns-then-heard-eq0-clause-some
unfolding opened
returns-then-heard-eq0-clause-some g c = λ some.
    let room : 1 ≤ g.row.DEPTH + 1 - c.unreleased.result = omega (arith, c.unreleased.ensures, c.self.invariant.room c.in_default.is) in
    let one = some-heard _ _ _ c.min-heard.ensures room some in
    absurd (omega (arith, one, c.if-heard-eq0.true))

pub push_each-requires : goal.push_each-requires
unfolding opened
push_each-requires g c =
    let fit = heard-fit (length c.args.samples.now) (g.row.DEPTH + 1 - c.unreleased.result) c.min-heard.result c.min-heard.ensures in
    let within = heard-within (length c.args.samples.now) (g.row.DEPTH + 1 - c.unreleased.result) c.min-heard.result
    c.min-heard.ensures in (
      lit< tt,
      (
        c.self.invariant.high,
        (
          omega (
            arith,
            fit,
            length-take-le c.min-heard.result c.args.samples.now within,
            c.unreleased.ensures,
            c.self.invariant.few_unreleased,
          ),
          (c.self.inside.count, c.self.invariant.spread),
        ),
      ),
    )

pub release-requires : goal.release-requires
unfolding opened
release-requires g c =
    let within = heard-within (length c.args.samples.now) (g.row.DEPTH + 1 - c.unreleased.result) c.min-heard.result c.min-heard.ensures in
    let none : reverse c.self.inside.pending ≡ [] = subst (λ v. v.pending ≡ []) (sym c.self.view_is) c.requires.taken in (
      lit< tt,
      (
        c.self.invariant.high,
        (
          empty-turned c.self.inside.pending none,
          c.push_each.ensures.covered (omega (arith, length-take-le c.min-heard.result c.args.samples.now within, c.if-heard-eq0.false)),
        ),
      ),
    )

-- What stands once the released labels are handed over, whether the line is lost then or not.
module _ (g : Over) (c : After-release g) where
  abbrev hears : List Sample
  hears = take c.min-heard.result c.args.samples.now

  abbrev before : Decoding
  before = decoding_of c.self.inside.survivors c.self.inside.count c.self.inside.pending c.self.inside.lost

  abbrev behind : Option ℕ → Decoding
  behind lost = decoding_of c.release.new.self (c.self.inside.count + c.min-heard.result) c.release.new.labels lost

  abbrev room : ℕ
  room = g.row.DEPTH + 1 - c.unreleased.result

  long : length hears ≡ c.min-heard.result
  long = length-take-le c.min-heard.result c.args.samples.now (heard-within _ _ _ c.min-heard.ensures)

  few : c.self.inside.count + length hears ≤ 2 ^ 56
  few = grind (arith, long, heard-within)

  fits : c.self.inside.survivors.unreleased + length hears ≤ g.row.DEPTH + 1
  unfolding opened
  fits =
      let fit = heard-fit (length c.args.samples.now) room c.min-heard.result c.min-heard.ensures in
      omega (arith, fit, long, c.unreleased.ensures, c.self.invariant.few_unreleased)

  next : (lost : Option ℕ) → (lost ≡ None → c.release.new.self.unreleased ≤ g.row.DEPTH)
      → IsSound g.C.TrellisCode.table g.row.STATES g.row.LABELS g.C.TrellisCode.REACH g.row.DEPTH (behind lost)
  unfolding opened
  next lost = sound-next _ _ _ _ _ _ _ _ _ _ _ c.self.invariant few fits (ap (λ n. c.self.inside.count + n) (sym long))
      c.push_each.ensures.stepped c.release.ensures.released refl (All-turned (λ x. x < g.row.LABELS) _ c.release.ensures.below)

  pushed : (lost : Option ℕ) → Pushed g.C.TrellisCode.table g.C.TrellisCode.points g.row.STATES g.C.TrellisCode.REACH hears before
      (behind lost)
  unfolding opened
  pushed lost =
      let none : before.pending ≡ [] = subst (λ v. v.pending ≡ []) (sym c.self.view_is) c.requires.taken in
      record {
        between = c.push_each.new.self;
        stepped = c.push_each.ensures.stepped;
        labels = reverse c.release.new.labels;
        released = c.release.ensures.released;
        pending_is = ap (λ l. l ++ reverse c.release.new.labels) (sym none);
        count = ap (λ n. c.self.inside.count + n) (sym long);
      }

pub invariant_of-self : goal.invariant_of-self
invariant_of-self g c =
    next g (goal.at.invariant_of-self g c).After-release (Some (c.self.inside.count + c.min-heard.result - 1)) (λ e. absurd cc)

pub returns-then-unreleased-clause-stands : goal.returns-then-unreleased-clause-stands
unfolding opened
returns-then-unreleased-clause-stands g c = λ starts past taken h.
    let t = g.C.TrellisCode in
    let m = (goal.at.returns-then-unreleased-clause-stands g c).After-release in
    let last = c.self.inside.count + c.min-heard.result - 1 in
    let was = subst (λ v. DecoderStands t.table t.points starts g.row.DEPTH v past taken) (sym c.self.view_is) h in
    let lost = stands-lost t.table t.points g.row.STATES t.REACH g.row.DEPTH starts (hears g m) (before g m) (behind g m (Some last)) past
    taken c.in_default.is (fits g m) (pushed g m (Some last)) was last (omega (arith, c.if-heard-eq0.false)) refl
    (omega (arith, c.if-unreleased.true, c.unreleased-2.ensures)) in
    subst (λ l. DecoderStands t.table t.points starts g.row.DEPTH (behind g m (Some last)) l taken)
    (whole past c.args.samples.now c.min-heard.result) (stands-stays _ _ _ _ (drop c.min-heard.result c.args.samples.now) _ _ _ _ refl lost)

pub returns-then-unreleased-clause-stays : goal.returns-then-unreleased-clause-stays
returns-then-unreleased-clause-stays g c = λ symbol e.
    none-some symbol (sym c.in_default.is ∙ ap (λ v. v.lost) c.self.view_is ∙ e)

pub returns-then-unreleased-clause-count : goal.returns-then-unreleased-clause-count
returns-then-unreleased-clause-count g c =
    omega (arith, ap (λ v. v.count) c.self.view_is, heard-within _ _ _ c.min-heard.ensures)

pub invariant_of-self-else-unreleased : goal.invariant_of-self-else-unreleased
unfolding opened
invariant_of-self-else-unreleased g c =
    next g (goal.at.invariant_of-self-else-unreleased g c).After-release c.self.inside.lost
    (λ e. omega (arith, c.if-unreleased.false, c.unreleased-2.ensures))

pub returns-clause-stands : goal.returns-clause-stands
unfolding opened
returns-clause-stands g c = λ starts past taken h.
    let t = g.C.TrellisCode in
    let m = (goal.at.returns-clause-stands g c).After-release in
    stands-goes_on t.table t.points g.row.STATES t.REACH g.row.DEPTH starts (hears g m) (before g m) (behind g m c.self.inside.lost) past
    taken c.in_default.is (fits g m) (pushed g m c.self.inside.lost)
    (subst (λ v. DecoderStands t.table t.points starts g.row.DEPTH v past taken) (sym c.self.view_is) h) c.in_default.is
    (omega (arith, c.if-unreleased.false, c.unreleased-2.ensures))

pub returns-clause-stays : goal.returns-clause-stays
returns-clause-stays g c = λ symbol e. none-some symbol (sym c.in_default.is ∙ ap (λ v. v.lost) c.self.view_is ∙ e)

pub returns-clause-count : goal.returns-clause-count
returns-clause-count g c = omega (arith, ap (λ v. v.count) c.self.view_is)
