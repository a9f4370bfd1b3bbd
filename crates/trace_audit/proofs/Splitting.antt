-- The lines of a text, compared one after the other.
use Rattle.trace_audit.proofs.Cited.{◌≡◌, ◌≢◌, ℕ, ◌+◌, ◌<◌, List, [], ◌∷◌, ◌++◌, length, take, drop, refl, sym, ◌∙◌, ap, subst, arith}
use Rattle.trace_audit.proofs.Cited.{append_assoc, append-nil, length-append, IsTrue, told_later, octets-kept, FolderState, OnlyReads}
use Rattle.trace_audit.proofs.Cited.{Compared, IsFew, audited, trace_limit, front_of, rest_of, is_no_feed, text_of, AreWhole, IsCut}
use Rattle.trace_audit.proofs.Cited.{AreLines, HasFew, Comparison}
use Rattle.trace_audit.proofs.Cuts.{first-front, first-rest, first-some, one-cut}

-- an empty text has no line
pub no-lines : (lines : List (List ℕ)) → text_of lines ≡ [] → lines ≡ []
no-lines [] e = refl
no-lines (line ∷ lines) e = absurd (first-some line lines e)

-- The first of some lines, and the others.
pub record Splits (lines : List (List ℕ)) (line rest : List ℕ) : Type 0 where
  pub more : List (List ℕ)
  pub lines_is : lines ≡ line ∷ more
  pub rest_is : rest ≡ text_of more

pub splits : (lines : List (List ℕ)) (text line rest : List ℕ) → text ≢ [] → text ≡ text_of lines → AreWhole lines
    → line ≡ front_of is_no_feed text → rest ≡ drop 1 (rest_of is_no_feed text) → Splits lines line rest
splits [] text line rest some e whole front behind = absurd (some e)
splits (first ∷ more) text line rest some e whole front behind =
    let l : line ≡ first = front ∙ ap (front_of is_no_feed) e ∙ first-front first more whole.0 in
    record {
      more = more;
      lines_is = ap (λ (x : List ℕ). x ∷ more) (sym l);
      rest_is = behind ∙ ap (λ (x : List ℕ). drop 1 (rest_of is_no_feed x)) e
          ∙ ap (λ (x : List ℕ). drop 1 x) (first-rest first more whole.0);
    }

-- Of a text's lines these were compared, and those are left.
pub record Midway (Told : Type 0) (octets text rest : List ℕ) (start now : Comparison) : Type 0 where
  pub done : List (List ℕ)
  pub left : List (List ℕ)
  pub cut : IsCut text (done ++ left)
  pub rest_is : rest ≡ text_of left
  pub are : AreLines left
  pub few : HasFew (length left) now
  pub compared : (before : List (List ℕ)) → Told → Compared octets before start → Compared octets (before ++ done) now
  pub counted : (n : ℕ) → IsFew n start → IsFew (n + length done) now

pub midway-start : (Told : Type 0) (octets text : List ℕ) (lines : List (List ℕ)) (start : Comparison) → text ≡ text_of lines
    → AreLines lines
    → HasFew (length lines) start → Midway Told octets text text start start
midway-start Told octets text lines start e are few = record {
  done = [];
  left = lines;
  cut = record { whole = are.1; text_is = e };
  rest_is = e;
  are = are;
  few = few;
  compared = λ before told h. subst (λ (l : List (List ℕ)). Compared octets l start) (sym (append-nil before)) h;
  counted = λ n h. subst (λ (k : ℕ). IsFew k start) (omega arith) h;
}

module _ (Told : Type 0) (octets text rest : List ℕ) (start now : Comparison) (m : Midway Told octets text rest start now) where
  -- the first of those that are left
  pub next : (line behind : List ℕ) → rest ≢ [] → line ≡ front_of is_no_feed rest → behind ≡ drop 1 (rest_of is_no_feed rest)
      → Splits m.left line behind
  next line behind some front back = splits m.left rest line behind some m.rest_is m.are.1 front back

  pub next-line : (line behind : List ℕ) → Splits m.left line behind → AreLines (line ∷ [])
  next-line line behind s = let all : AreLines (line ∷ s.more) = subst AreLines s.lines_is m.are in ((all.0.0, tt), (all.1.0, tt))

  count : (line behind : List ℕ) (s : Splits m.left line behind) → length m.left ≡ length s.more + 1
  count line behind s = ap (λ (l : List (List ℕ)). length l) s.lines_is ∙ omega arith

  pub next-few : (line behind : List ℕ) → Splits m.left line behind → HasFew 1 now
  next-few line behind s = (m.few.0, omega (arith, m.few.1, count line behind s), m.few.2)

  pub shorter : (line behind : List ℕ) → Splits m.left line behind → length behind < length rest
  shorter line behind s = grind (arith, append_assoc, length-append)

  pub midway-on : (line behind : List ℕ) (later : Comparison) → Splits m.left line behind
      → ((lines : List (List ℕ)) → Told → Compared octets lines now → Compared octets (lines ++ line ∷ []) later)
      → ((n : ℕ) → IsFew n now → IsFew (n + 1) later) → Midway Told octets text behind start later
  midway-on line behind later s compared counted =
      let all : AreLines (line ∷ s.more) = subst AreLines s.lines_is m.are in
      record {
        done = m.done ++ line ∷ [];
        left = s.more;
        cut = subst (IsCut text)
            (ap (λ (l : List (List ℕ)). m.done ++ l) s.lines_is ∙ sym (append_assoc m.done (line ∷ []) s.more)) m.cut;
        rest_is = s.rest_is;
        are = (all.0.1, all.1.1);
        few = (m.few.0 + 1, omega (arith, m.few.1, count line behind s), counted m.few.0 m.few.2);
        compared = λ before told h.
            subst (λ (l : List (List ℕ)). Compared octets l later) (append_assoc before m.done (line ∷ []))
            (compared (before ++ m.done) told (m.compared before told h));
        counted = λ n h.
            subst (λ (k : ℕ). IsFew k later) (omega (arith, length-append {A = List ℕ} m.done (line ∷ [])))
            (counted (n + length m.done) (m.counted n h));
      }

  -- none is left: the lines of the text were compared
  all-done : rest ≡ [] → (lines : List (List ℕ)) → IsCut text lines → m.done ≡ lines
  all-done none lines cut = grind (arith, no-lines, append-nil, one-cut)

  pub all-compared : rest ≡ [] → (before lines : List (List ℕ)) → IsCut text lines → Told → Compared octets before start
      → Compared octets (before ++ lines) now
  all-compared none before lines cut told h = grind (arith, all-done)

  pub all-counted : rest ≡ [] → (n : ℕ) (lines : List (List ℕ)) → IsCut text lines → IsFew n start → IsFew (n + length lines) now
  all-counted none n lines cut h = grind (arith, all-done)

-- the octets of a name stay, where it is told
pub same-octets : (a b : FolderState) (name : List ℕ) → OnlyReads a b → IsTrue (a.tells name) → audited b name ≡ audited a name
same-octets a b name r told = ap (take trace_limit) (octets-kept a b name (r.names name) told)

-- so what is said of the octets as they were before some reads holds of them
pub compared-later : (a b : FolderState) (name : List ℕ) (c d : Comparison) (line : List ℕ) → OnlyReads a b
    → ((lines : List (List ℕ)) → IsTrue (b.tells name) → Compared (audited b name) lines c
    → Compared (audited b name) (lines ++ line ∷ []) d)
    → (lines : List (List ℕ)) → IsTrue (a.tells name) → Compared (audited a name) lines c
    → Compared (audited a name) (lines ++ line ∷ []) d
compared-later a b name c d line r f lines told h =
    let same : audited b name ≡ audited a name = same-octets a b name r told in
    subst (λ (o : List ℕ). Compared o (lines ++ line ∷ []) d) same
    (f lines (told_later r.goes_on name told) (subst (λ (o : List ℕ). Compared o lines c) (sym same) h))
