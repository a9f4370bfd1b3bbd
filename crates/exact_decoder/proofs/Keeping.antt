-- What is kept of the survivors, over sums and columns.
use Rattle.exact_decoder.proofs.Names.{◌≡◌, ◌≢◌, ℕ, zero, suc, ◌+◌, ◌-◌, ◌*◌, ◌/◌, ◌%◌, ◌^◌, ◌<◌, ◌≤◌, ◌⊎◌, inl, inr, Bool, true, List, []}
use Rattle.exact_decoder.proofs.Names.{◌∷◌, ◌++◌, length, map, take, reverse, All, get_or, slice_index, set, replicate, Option, Some, None}
use Rattle.exact_decoder.proofs.Names.{option_map, arith, refl, sym, ◌∙◌, ap, subst, cases_lt, cases_eq, lt-ltb, le-ltb, common_steps}
use Rattle.exact_decoder.proofs.Names.{take_at, length-reverse, reverse-append, length-replicate, length-take-le, All-take, All-same}
use Rattle.exact_decoder.proofs.Names.{All-push, All-head, All-tail, same_Some, Advances, Entry, branch_of, sum_of, sum_in, entry_in}
use Rattle.exact_decoder.proofs.Names.{sums_at, tail_at, entry_at, new_sums_at, kept_of, HoldsColumns, AreSums, AllChosen, Stepped, Covered}
use Rattle.exact_decoder.proofs.Names.{IsParted, Released, IsLeastSum, IsLeastKeyOf, far_key, leveled, chosen, choice_in, choice_at}
use Rattle.exact_decoder.proofs.Names.{Chooses, trellis_of, traced, IsColumn, AreColumns, Splits, Choice, distance_of, Sample, Reaches}
use Rattle.exact_decoder.proofs.Names.{Leads}
use Rattle.std.proofs.Common.{add-one}
use Rattle.std.specs.List.{range_with_len}
use Rattle.std.proofs.lemmas.List.{append_cancel_left, reverse-reverse, length-set}
use Rattle.std.proofs.lemmas.List.FromFn.{get_or-map-range_with_len}
use Rattle.std.proofs.lemmas.List.Elements.{All-cons}
use Rattle.exact_decoder.specs.Settled.{settled}
use Rattle.exact_decoder.specs.Traced.{Part}
use Rattle.exact_decoder.proofs.Subsets.{set-index, set-index_here}
use Rattle.exact_decoder.proofs.Stepping.{IsCode, AreKeys, map-at, map-past, sum-near, entry-near, entry-far, known-at}
use Rattle.exact_decoder.proofs.Stepping.{chosen-all}
use Rattle.exact_decoder.proofs.Walking.{length-traced, traced-below}

-- the labels of a state
pub tail-at : (states : ℕ) (columns : List (List Choice)) (s : ℕ) → s < states
    → tail_at (map (traced columns) (range_with_len 0 states)) s ≡ traced columns s
tail-at states columns s l = get_or-map-range_with_len (traced columns) 0 states s s [] l (omega arith)

-- the parts of a key are a state and a label
pub parts-within : (table : ℕ → ℕ → Option ℕ) (points : ℕ → Sample) (states labels parallel subsets ways : ℕ) (before subset : ℕ → ℕ → ℕ)
    (sample : Sample) (sums nearest entered : List ℕ) (to : ℕ) → to < states
    → IsCode table states labels parallel subsets ways before subset
    → AreKeys points states parallel subsets ways before subset sample sums nearest entered → (slice_index entered to % 256 < states)
    × (slice_index entered to / 256 % 256 < labels)
parts-within table points states labels parallel subsets ways before subset sample sums nearest entered to l code keys = grind (arith)

-- a key, and what it is settled as
pub settled-near : (key least : ℕ) → key < far_key → settled key least ≡ key
settled-near key least l = rw (lt-ltb key far_key l) refl

settled-far : (key least : ℕ) → far_key ≤ key → settled key least ≡ least
settled-far key least l = rw (le-ltb key far_key l) refl

pub leveled-near : (key least to : ℕ) → key < far_key → leveled key least to ≡ (key / 65536 - least / 65536) * 65536 + to
leveled-near key least to l = rw (lt-ltb key far_key l) refl

leveled-far : (key least to : ℕ) → far_key ≤ key → leveled key least to ≡ far_key + to
leveled-far key least to l = rw (le-ltb key far_key l) refl

sum-far : (key : ℕ) → far_key ≤ key → sum_in key ≡ None
sum-far key l = rw (le-ltb key far_key l) refl

-- the sums and the column that keys make, and the least of these
pub record Settles (states : ℕ) (entered : List ℕ) (least : ℕ) (new_sums : List ℕ) (column : List Choice) : Type 0 where
  pub new_long : length new_sums ≡ states
  pub column_long : length column ≡ states
  pub is_least : IsLeastKeyOf states entered least
  pub levels : (to : ℕ) → to < states → slice_index new_sums to ≡ leveled (slice_index entered to) least to
  pub choices : (to : ℕ) → to < states → choice_at column to ≡ chosen (slice_index entered to) least

-- some state is reached again
pub reached-next : (table : ℕ → ℕ → Option ℕ) (points : ℕ → Sample) (states labels steps : ℕ) (sample : Sample) (sums : List (Option ℕ))
    (entries : List (Option Entry)) → (ℕ → Bool) → 1 ≤ steps → Reaches table states labels steps
    → AllChosen table points sample sums entries
    → (s m : ℕ) → s < states → sums_at sums s ≡ Some m → (t : ℕ) × (n : ℕ) × (new_sums_at entries t ≡ Some n)
reached-next table points states labels steps sample sums entries starts low reach h s m within reached =
    let path = reach s s within within in grind (arith, first)
  where
    there : (mid label : ℕ) → table s label ≡ Some mid → (o : Option Entry) → entry_at entries mid ≡ o
        → Chooses (trellis_of table points starts) sample (sums_at sums) mid (option_map branch_of o) (option_map sum_of o) → (t : ℕ)
        × (n : ℕ) × (new_sums_at entries t ≡ Some n)
    there mid label b None e k = absurd
        (k (record { before = s; label = label }) (m + distance_of (points label) sample)
        (record { leads = b; known = m; reached = reached; sum_is = refl }))
    there mid label b (Some ch) e k = (mid, ch.sum, ap (option_map sum_of) e)

    first : (path : List ℕ) → length path ≡ steps → Leads table s path s → (t : ℕ) × (n : ℕ) × (new_sums_at entries t ≡ Some n)
    first [] e l = absurd (omega arith)
    first (label ∷ rest) e (mid, b, l) = there mid label b (entry_at entries mid) refl (h starts mid)

-- an entry and its sum are those of a key
pub new_sum-known : (states : ℕ) (entered : List ℕ) (s m : ℕ) → length entered ≡ states → new_sums_at (map entry_in entered) s ≡ Some m
    → (s < states) × (slice_index entered s < far_key) × (slice_index entered s / 65536 ≡ m)
new_sum-known states entered s m long e = elim (cases_lt s states) [
  | inl l ↦ elim (cases_lt (slice_index entered s) far_key) [
    | inl near ↦ let is : new_sums_at (map entry_in entered) s ≡ Some (slice_index entered s / 65536) = grind (arith, map-at, entry-near) in
        (l, near, same_Some _ _ (sym is ∙ e))
    | inr far ↦ let is : new_sums_at (map entry_in entered) s ≡ None = grind (arith, map-at, entry-far, far) in absurd cc
  ]
  | inr l ↦ let none : new_sums_at (map entry_in entered) s ≡ None = ap (option_map sum_of) (map-past entry_in entered s (omega arith)) in
      absurd cc
]

pub new_sum-near : (states : ℕ) (entered : List ℕ) (s : ℕ) → length entered ≡ states → s < states → slice_index entered s < far_key
    → new_sums_at (map entry_in entered) s ≡ Some (slice_index entered s / 65536)
new_sum-near states entered s long l near = grind (arith, option_map, map-at, entry-near)

-- the least key is that of a state that was reached
pub least-near : (states : ℕ) (entered : List ℕ) (least : ℕ) → length entered ≡ states → IsLeastKeyOf states entered least
    → ((t : ℕ) × (n : ℕ) × (new_sums_at (map entry_in entered) t ≡ Some n)) → least < far_key
least-near states entered least long h some = grind (arith, new_sum-known)

-- where a state's key is near, and where it is far, the new sum
new_sums-at : (states : ℕ) (entered new_sums : List ℕ) (least : ℕ) (column : List Choice) (s : ℕ) → states ≤ 256 → length entered ≡ states
    → Settles states entered least new_sums column
    → sums_at (map sum_in new_sums) s ≡ option_map (λ n. n - least / 65536) (new_sums_at (map entry_in entered) s)
new_sums-at states entered new_sums least column s few long h = elim (cases_lt s states) [
  | inl l ↦ elim (cases_lt (slice_index entered s) far_key) [
    | inl near ↦
        let is : slice_index new_sums s ≡ (slice_index entered s / 65536 - least / 65536) * 65536 + s = grind (arith, leveled-near) in
        let value : slice_index new_sums s / 65536 ≡ slice_index entered s / 65536 - least / 65536 = omega (arith, is) in
        map-at sum_in new_sums s (omega (arith, h.new_long)) ∙ sum-near (slice_index new_sums s) (omega (arith, is)) ∙ ap Some value
        ∙ sym (ap (option_map (λ n. n - least / 65536)) (new_sum-near states entered s long l near))
    | inr far ↦
        let is : slice_index new_sums s ≡ far_key + s = h.levels s l ∙ leveled-far (slice_index entered s) least s far in
        let none : new_sums_at (map entry_in entered) s ≡ None = grind (arith, map-at, entry-far, far) in
        map-at sum_in new_sums s (omega (arith, h.new_long)) ∙ sum-far (slice_index new_sums s) (omega (arith, is))
        ∙ sym (ap (option_map (λ n. n - least / 65536)) none)
  ]
  | inr l ↦
      let none : new_sums_at (map entry_in entered) s ≡ None = ap (option_map sum_of) (map-past entry_in entered s (omega arith)) in
      map-past sum_in new_sums s (omega (arith, h.new_long)) ∙ sym (ap (option_map (λ n. n - least / 65536)) none)
]

-- the newest columns, with one more
pub newest-more : (column : List Choice) (columns newer : List (List Choice)) (n : ℕ) → n < length columns
    → newer ≡ column ∷ take (length columns - 1) columns → take (n + 1) newer ≡ column ∷ take n columns
newest-more column columns newer n l e =
    ap (take (n + 1)) e ∙ cons n (take (length columns - 1) columns)
    ∙ ap (λ t. column ∷ t) (take-take-less n (length columns - 1) columns (omega arith))
  where
    cons : (n : ℕ) (xs : List (List Choice)) → take (n + 1) (column ∷ xs) ≡ column ∷ take n xs
    cons n xs = rw (add-one n) refl

    take-take-less : (n m : ℕ) (xs : List (List Choice)) → n ≤ m → take n (take m xs) ≡ take n xs
    take-take-less n m xs l = grind (arith, common_steps)

-- each state has a choice of one that was reached
pub covered-of : (states : ℕ) (entered new_sums : List ℕ) (least : ℕ) (column : List Choice) (columns newer : List (List Choice))
    (unreleased : ℕ) → states ≤ 256 → length entered ≡ states → Settles states entered least new_sums column
    → least < far_key → unreleased < length columns → newer ≡ column ∷ take (length columns - 1) columns
    → Covered states (kept_of states new_sums newer (unreleased + 1))
covered-of states entered new_sums least column columns newer unreleased few long made near room e s l =
    elim (cases_lt (slice_index entered s) far_key) [
      | inl here ↦ (s, slice_index entered s / 65536 - least / 65536, l, known s l here, refl)
      | inr far ↦
          let r = made.is_least.state in
          let in_r = made.is_least.within in
          let near_r : slice_index entered r < far_key = omega (arith, made.is_least.least_is) in
          let mine : choice_at column s ≡ choice_in least = made.choices s l ∙ ap choice_in (settled-far _ _ far) in
          let theirs : choice_at column r ≡ choice_in least = grind (arith, settled-near) in (
            r,
            slice_index entered r / 65536 - least / 65536,
            in_r,
            known r in_r near_r,
            tail-at _ (take (unreleased + 1) newer) _ l ∙ ap (λ c. traced c s) (newest-more _ _ _ _ room e) ∙ ap
                (λ x. traced (take unreleased columns) x.before ++ x.label ∷ []) (mine ∙ sym theirs) ∙ sym
                (tail-at _ (take (unreleased + 1) newer) _ in_r ∙ ap (λ c. traced c r) (newest-more _ _ _ _ room e)),
          )
    ]
  where
    known : (s : ℕ) → s < states → slice_index entered s < far_key
        → sums_at (map sum_in new_sums) s ≡ Some (slice_index entered s / 65536 - least / 65536)
    known s l here = new_sums-at _ _ _ _ _ _ few long made
        ∙ ap (option_map (λ n. n - least / 65536)) (new_sum-near _ _ _ long l here)

module _ (table : ℕ → ℕ → Option ℕ) (points : ℕ → Sample) (states labels parallel subsets ways : ℕ) (before subset : ℕ → ℕ
    → ℕ) (sample : Sample) (sums nearest entered new_sums : List ℕ) (least : ℕ) (column : List Choice) (columns newer : List (List Choice))
    (unreleased : ℕ) (code : IsCode table states labels parallel subsets ways before subset)
    (keys : AreKeys points states parallel subsets ways before subset sample sums nearest entered)
    (made : Settles states entered least new_sums column) (near : least < far_key)
    (e : newer ≡ column ∷ take (length columns - 1) columns) where
  -- the step that keys make
  pub stepped-of : unreleased < length columns
      → Stepped table points sample (kept_of states sums columns unreleased) (kept_of states new_sums newer (unreleased + 1))
  stepped-of room = record {
    entries = map entry_in entered;
    chosen = λ starts to. chosen-all _ _ _ _ _ _ _ _ _ _ _ _ _ _ _ code keys;
    lowered = least / 65536;
    lowest = grind (arith, new_sum-near, keys);
    least = λ s m f. let k = new_sum-known _ _ _ _ keys.entered_long f in omega (arith, made.is_least.below s k.0, k.2);
    sums = λ s. new_sums-at _ _ _ _ _ _ code.states_few keys.entered_long made;
    follow = λ s f g. goes s f g;
    longer_by_one = refl;
    close = λ s label to b.
        let w = code.all s label to b in
        let in_table = code.bounded s label to b in
        let q = code.ways_within to w.0 (code.within s label to in_table.0 in_table.1 b) w.2 in
        subst (λ x. distance_of (points x) sample < 2 ^ 33) w.5 (keys.close (subset to w.0) w.1 q.1 w.3);
  }
    where
      goes : (s : ℕ) (f : Entry) → entry_at (map entry_in entered) s ≡ Some f
          → tail_at (map (traced (take (unreleased + 1) newer)) (range_with_len 0 states)) s ≡ tail_at
          (map (traced (take unreleased columns)) (range_with_len 0 states)) f.before ++ f.label ∷ []
      goes s f g =
          let k = new_sum-known _ _ _ _ keys.entered_long (ap (option_map sum_of) g) in
          let is : entry_in (slice_index entered s) ≡ Some f = grind (arith, map-at, keys) in
          let same : record {
            before = slice_index entered s % 256;
            label = slice_index entered s / 256 % 256;
            sum = slice_index entered s / 65536;
          } ≡ f = same_Some _ _ (sym (entry-near _ k.1) ∙ is) in
          let choice : choice_at column s ≡ choice_in (slice_index entered s) = made.choices s k.0 ∙ ap choice_in (settled-near _ _ k.1) in
          let b : (choice_at column s).before ≡ f.before = ap (λ c. c.before) choice ∙ ap (λ x. x.before) same in
          let l : (choice_at column s).label ≡ f.label = ap (λ c. c.label) choice ∙ ap (λ x. x.label) same in
          let within : f.before < states = grind (arith, parts-within, keys) in
          tail-at _ (take (unreleased + 1) newer) _ k.0 ∙ ap (λ c. traced c s) (newest-more _ _ _ _ room e)
          ∙ ap (λ x. traced (take unreleased columns) x ++ (choice_at column s).label ∷ []) b
          ∙ ap (λ x. traced (take unreleased columns) f.before ++ x ∷ []) l
          ∙ ap (λ t. t ++ f.label ∷ []) (sym (tail-at _ (take unreleased columns) _ within))

  -- what holds of sums and columns holds after a step
  pub holds-next : (depth : ℕ) → unreleased ≤ depth → HoldsColumns states labels depth sums columns unreleased
      → HoldsColumns states labels depth new_sums newer (unreleased + 1)
  holds-next depth room h = record {
    sums_long = made.new_long;
    states_in = λ s l. elim (cases_lt (slice_index entered s) far_key) [
      | inl here ↦ omega (arith, made.levels s l ∙ leveled-near (slice_index entered s) least s here, code.states_few)
      | inr far ↦ omega (arith, made.levels s l ∙ leveled-far (slice_index entered s) least s far, code.states_few)
    ];
    bound = λ s l. elim (cases_lt (slice_index entered s) far_key) [
      | inl here ↦ omega (arith, made.levels s l ∙ leveled-near (slice_index entered s) least s here, code.states_few)
      | inr far ↦ omega (arith, made.levels s l ∙ leveled-far (slice_index entered s) least s far, code.states_few)
    ];
    reached = (
      made.is_least.state,
      made.is_least.within,
      omega (
        arith,
        made.levels made.is_least.state made.is_least.within
            ∙ leveled-near (slice_index entered made.is_least.state) least made.is_least.state (omega (arith, made.is_least.least_is)),
        made.is_least.least_is,
        made.is_least.within,
        code.states_few,
      ),
    );
    columns_long = omega (arith, ap length e, length-take-le (length columns - 1) columns (omega arith), h.columns_long);
    columns_fit = All-same (IsColumn states labels) newer (column ∷ take (length columns - 1) columns) e
        (All-cons (IsColumn states labels) column (take (length columns - 1) columns) (record {
          long = made.column_long;
          before = λ s l. omega (arith, ap (λ c. c.before) (made.choices s l), (fits s l).0);
          label = λ s l. omega (arith, ap (λ c. c.label) (made.choices s l), (fits s l).1);
        }) (All-take (IsColumn states labels) (length columns - 1) columns h.columns_fit));
    within = omega arith;
  }
    where
      own : (s : ℕ) → s < states → (slice_index entered s % 256 < states) × (slice_index entered s / 256 % 256 < labels)
      own s l = parts-within table points states labels parallel subsets ways before subset sample sums nearest entered s l code keys

      fits : (s : ℕ) → s < states → ((chosen (slice_index entered s) least).before < states)
          × ((chosen (slice_index entered s) least).label < labels)
      fits s l = elim (cases_lt (slice_index entered s) far_key) [
        | inl here ↦ subst (λ k. ((choice_in k).before < states) × ((choice_in k).label < labels)) (sym (settled-near _ _ here)) (own _ l)
        | inr far ↦ subst (λ k. ((choice_in k).before < states) × ((choice_in k).label < labels))
            (sym (settled-far _ _ far ∙ made.is_least.least_is)) (own _ made.is_least.within)
      ]

-- what is released is what the columns split off
pub released-of : (states : ℕ) (sums : List ℕ) (columns : List (List Choice)) (unreleased left : ℕ) (labels : List ℕ) → length sums ≡
    states
    → ((s : ℕ) × (s < states) × (slice_index sums s < far_key)) → Splits states columns unreleased left labels
    → Covered states (kept_of states sums columns unreleased)
    → Released (kept_of states sums columns unreleased) (kept_of states sums columns left) (reverse labels)
released-of states sums columns unreleased left labels long some split covered = record {
  count = omega (arith, split.count, length-reverse {A = ℕ} labels);
  sums_stay = refl;
  moved = λ s m e. moved s (known-at states sums s m long e).0;
  parted = parts split.parted;
}
  where
    moved : (s : ℕ) → s < states → tail_at (map (traced (take unreleased columns)) (range_with_len 0 states)) s ≡ reverse labels ++ tail_at
        (map (traced (take left columns)) (range_with_len 0 states)) s
    moved s l = grind (arith, tail-at)

    -- a state's labels are those of one that was reached
    like : (s x : ℕ) (a : List ℕ) → s < states → traced (take left columns) s ≡ x ∷ a → (r : ℕ) × (m : ℕ)
        × (sums_at (map sum_in sums) r ≡ Some m) × (tail_at (map (traced (take left columns)) (range_with_len 0 states)) r ≡ x ∷ a)
    like s x a l e =
        let c = covered s l in
        let same : reverse labels ++ tail_at (map (traced (take left columns)) (range_with_len 0 states)) s ≡ reverse labels ++ tail_at
        (map (traced (take left columns)) (range_with_len 0 states)) c.0 = sym (moved _ l) ∙ c.4 ∙ moved _ c.2 in (
          c.0,
          c.1,
          c.3,
          sym (append_cancel_left (reverse labels) (tail_at (map (traced (take left columns)) (range_with_len 0 states)) s)
              (tail_at (map (traced (take left columns)) (range_with_len 0 states)) c.0) same) ∙ tail-at _ (take left columns) _ l ∙ e,
        )

    parts : (left ≡ 0) ⊎ Part states (take left columns)
        → IsParted (map sum_in sums) (map (traced (take left columns)) (range_with_len 0 states))
    parts (inl none) = inl (
      some.0,
      slice_index sums some.0 / 65536,
      map-at sum_in sums some.0 (omega (arith, some.1)) ∙ sum-near _ some.2,
      tail-at _ (take left columns) _ some.1 ∙ ap (λ n. traced (take n columns) some.0) none,
    )
    parts (inr p) =
        let a = like p.s p.x p.a p.s_within p.s_begins in
        let b = like p.t p.y p.b p.t_within p.t_begins in
        inr (record {
          s = a.0;
          t = b.0;
          s_sum = a.1;
          t_sum = b.1;
          s_reached = a.2;
          t_reached = b.2;
          x = p.x;
          y = p.y;
          a = p.a;
          b = p.b;
          s_begins = a.3;
          t_begins = b.3;
          apart = p.apart;
        })

-- the state in the least of the sums is the first one of least sum
pub least_sum-of : (states : ℕ) (sums : List ℕ) (least : ℕ) → states ≤ 256 → length sums ≡ states
    → ((s : ℕ) → s < states → slice_index sums s % 65536 ≡ s) → ((s : ℕ) × (s < states) × (slice_index sums s < far_key))
    → IsLeastKeyOf states sums least
    → (least % 256 < states) × IsLeastSum (map sum_in sums) (least % 256)
least_sum-of states sums least few long states_in some h =
    let r = h.state in
    let state : least % 256 ≡ r = omega (arith, h.least_is, states_in r h.within, h.within) in
    let near : slice_index sums r < far_key = omega (arith, h.least_is, h.below some.0 some.1, some.2) in (
      omega (arith, h.within),
      record {
        sum = slice_index sums r / 65536;
        reached = ap (λ s. sums_at (map sum_in sums) s) state ∙ map-at sum_in sums r (omega (arith, h.within)) ∙ sum-near _ near;
        least = λ s m e. let k = known-at _ _ _ _ long e in omega (arith, k.2, h.below s k.0, h.least_is);
        first = grind (arith, known-at);
      },
    )

-- all that a sample does
pub push-all : (table : ℕ → ℕ → Option ℕ) (points : ℕ → Sample) (states labels parallel subsets ways steps depth : ℕ)
    (before subset : ℕ → ℕ
    → ℕ) (sample : Sample) (was sums made now : List ℕ) (columns newer : List (List Choice)) (unreleased : ℕ)
    → IsCode table states labels parallel subsets ways before subset → 1 ≤ steps → Reaches table states labels steps
    → ((s m : ℕ) → sums_at (map sum_in sums) s ≡ Some m → m < 2 ^ 44) → unreleased ≤ depth
    → HoldsColumns states labels depth sums columns unreleased → was ≡ sums → now ≡ made
    → ((column : List Choice) × (newer ≡ column ∷ take (length columns - 1) columns)
    × Advances points states parallel subsets ways before subset sample was made column)
    → HoldsColumns states labels depth now newer (unreleased + 1)
    × Stepped table points sample (kept_of states sums columns unreleased) (kept_of states now newer (unreleased + 1))
    × Covered states (kept_of states now newer (unreleased + 1))
push-all table points states labels parallel subsets ways steps depth before subset sample was sums made now columns newer unreleased
    code low
    reach small room holds is_was is_now (column, e, advanced) = (
      holds-next _ points states labels parallel subsets ways before subset sample sums step.nearest step.entered now step.least
          column columns newer unreleased code keys settles far e depth room holds,
      stepped-of table points states labels parallel subsets ways before subset sample sums step.nearest step.entered now step.least
          column columns newer unreleased code keys settles far e (omega (arith, holds.columns_long)),
      covered-of _ _ _ _ _ _ _ _ code.states_few step.entered_long settles far (omega (arith, holds.columns_long)) e,
    )
  where
    step : Advances points states parallel subsets ways before subset sample sums now column
    step = grind (arith)

    keys : AreKeys points states parallel subsets ways before subset sample sums step.nearest step.entered
    keys = grind (arith, step)

    settles : Settles states step.entered step.least now column
    settles = grind (arith, step)

    far : step.least < far_key
    far = least-near _ _ _ step.entered_long step.is_least
        (reached-next _ _ _ labels _ _ _ (map entry_in step.entered) (λ s. true) low reach
        (λ starts to. chosen-all table points states labels parallel subsets ways before subset sample sums step.nearest step.entered
        starts to code keys) _ _ holds.reached.1 (map-at sum_in sums holds.reached.0 (omega (arith, holds.reached.1, holds.sums_long))
        ∙ sum-near _ holds.reached.2))

-- lists that are read from the last have the same labels
pub All-reversed : (P : ℕ → Type 0) (xs : List ℕ) → All P (reverse xs) → All P xs
All-reversed P xs h = All-same P xs (reverse (reverse xs)) (sym (reverse-reverse xs)) (turned (reverse xs) h)
  where
    turned : (ys : List ℕ) → All P ys → All P (reverse ys)
    turned [] h = h
    turned (y ∷ ys) h = All-same P (reverse (y ∷ ys)) (reverse ys ++ y ∷ []) (reverse-append (y ∷ []) ys)
        (All-push P (reverse ys) y (turned ys (All-tail P y ys h)) (All-head P y ys h))

pub All-turned : (P : ℕ → Type 0) (xs : List ℕ) → All P xs → All P (reverse xs)
All-turned P xs h = All-reversed P (reverse xs) (All-same P (reverse (reverse xs)) xs (reverse-reverse xs) h)

pub released-below : (states labels : ℕ) (columns : List (List Choice)) (unreleased left : ℕ) (list : List ℕ) → 1 ≤ states
    → AreColumns states labels columns → Splits states columns unreleased left list → All (λ x. x < labels) list
released-below states labels columns unreleased left list some h split =
    let whole = traced-below _ _ _ 0 (omega arith) (All-take (IsColumn states labels) unreleased columns h) in
    let both : All (λ x. x < labels) (reverse list ++ traced (take left columns) 0) = grind (arith, traced) in
    let front : All (λ x. x < labels) (take (length (reverse list)) (reverse list ++ traced (take left columns) 0)) =
    All-take (λ x. x < labels) (length (reverse list)) (reverse list ++ traced (take left columns) 0) both in
    All-reversed (λ x. x < labels) _
    (All-same (λ x. x < labels) (reverse list) (take (length (reverse list)) (reverse list ++ traced (take left columns) 0))
    (sym (take_at (reverse list) (traced (take left columns) 0) (length (reverse list)) refl)) front)

pub labels-long : (columns : List (List Choice)) (unreleased from : ℕ) (list : List ℕ) → unreleased ≤ length columns
    → reverse list ≡ traced (take unreleased columns) from → length list ≡ unreleased
labels-long columns unreleased from list l e = grind (arith, length-reverse, length-traced, length-take-le)

pub labels-below : (states labels : ℕ) (columns : List (List Choice)) (unreleased from : ℕ) (list : List ℕ) → from < states
    → AreColumns states labels columns → reverse list ≡ traced (take unreleased columns) from → All (λ x. x < labels) list
labels-below states labels columns unreleased from list l h e =
    All-reversed (λ x. x < labels) _ (All-same (λ x. x < labels) (reverse list) (traced (take unreleased columns) from) e
    (traced-below _ _ _ _ l (All-take (IsColumn states labels) unreleased columns h)))

-- before the first sample
small-sum : (n : ℕ) → n < 256 → sum_in n ≡ Some 0
small-sum n l = let zero_is : n / 65536 ≡ 0 = omega arith in sum-near n (omega arith) ∙ ap Some zero_is

pub start-sums : (states start : ℕ) (sums : List ℕ) → states ≤ 256 → start < states → length sums ≡ states
    → ((s : ℕ) → s < states → slice_index sums s ≡ far_key + s)
    → map sum_in (set sums start start) ≡ set (replicate states None) start (Some 0)
start-sums states start sums few within long far =
    same_map (set sums start start) (set (replicate states None) start (Some 0))
    (length-set sums start start ∙ long ∙ sym (length-set (replicate states None) start (Some 0) ∙ length-replicate states None))
    (λ s l. let in_states : s < states = omega (arith, length-set sums start start) in elim (cases_eq s start) [
      | inl e ↦ ap sum_in (set-index_here sums start start s e (omega arith)) ∙ small-sum start (omega arith)
          ∙ sym (set_here (replicate states None) (Some 0) start s e (omega (arith, length-replicate {A = Option ℕ} states None)))
      | inr n ↦ ap sum_in (set-index sums start start s n ∙ far s in_states) ∙ sum-far (far_key + s) (omega arith)
          ∙ sym (set_other (replicate states None) (Some 0) start s n ∙ nowhere s)
    ])
  where
    set_here : (xs : List (Option ℕ)) (x : Option ℕ) (n i : ℕ) → i ≡ n → n < length xs → get_or (set xs n x) i None ≡ x
    set_here xs x n i e l = grind (arith, common_steps)

    set_other : (xs : List (Option ℕ)) (x : Option ℕ) (n i : ℕ) → i ≢ n → get_or (set xs n x) i None ≡ get_or xs i None
    set_other xs x n i e = grind (arith, common_steps)

    nowhere : (s : ℕ) → get_or {A = Option ℕ} (replicate states None) s None ≡ None
    nowhere s = grind (arith, common_steps)

    same_map : (xs : List ℕ) (ys : List (Option ℕ)) → length xs ≡ length ys
        → ((s : ℕ) → s < length xs → sum_in (slice_index xs s) ≡ get_or ys s None) → map sum_in xs ≡ ys
    same_map [] [] e h = refl
    same_map [] (y ∷ ys) e h = absurd (omega arith)
    same_map (x ∷ xs) [] e h = absurd (omega arith)
    same_map (x ∷ xs) (y ∷ ys) e h = let a : sum_in x ≡ y = h 0 (omega arith) in
        ap (λ z. z ∷ map sum_in xs) a ∙ ap (λ t. y ∷ t) (same_map xs ys (omega arith) (λ s l. h (suc s) (omega arith)))

pub start-tails : (states : ℕ) (columns : List (List Choice))
    → map (traced (take 0 columns)) (range_with_len 0 states) ≡ replicate states []
start-tails states columns = each 0 states
  where
    each : (first n : ℕ) → map (traced (take 0 columns)) (range_with_len first n) ≡ replicate n []
    each first zero = refl
    each first (suc n) = ap (λ t. [] ∷ t) (each (first + 1) n)

pub start-are : (states start : ℕ) (sums : List ℕ) → states ≤ 256 → start < states → length sums ≡ states
    → ((s : ℕ) → s < states → slice_index sums s ≡ far_key + s) → AreSums states (set sums start start)
start-are states start sums few within long far = record {
  sums_long = length-set sums start start ∙ long;
  states_in = grind (arith, set-index_here, set-index);
  bound = grind (arith, set-index_here, set-index);
  reached = (start, within, omega (arith, set-index_here sums start start start refl (omega arith)));
}

-- the same where a sequence starts in each state
pub any-are : (states : ℕ) (sums : List ℕ) → 1 ≤ states → states ≤ 256 → length sums ≡ states
    → ((s : ℕ) → s < states → slice_index sums s ≡ s) → AreSums states sums
any-are states sums some few long own = grind (arith)

pub any-sums : (states : ℕ) (sums : List ℕ) → states ≤ 256 → length sums ≡ states → ((s : ℕ) → s < states → slice_index sums s ≡ s)
    → map sum_in sums ≡ replicate states (Some 0)
any-sums states sums few long own = each sums states long (λ s l. omega (arith, own s l))
  where
    each : (xs : List ℕ) (n : ℕ) → length xs ≡ n → ((s : ℕ) → s < n → slice_index xs s < 256) → map sum_in xs ≡ replicate n (Some 0)
    each [] zero e h = refl
    each [] (suc n) e h = absurd (omega arith)
    each (x ∷ xs) zero e h = absurd (omega arith)
    each (x ∷ xs) (suc n) e h = let a : sum_in x ≡ Some 0 = small-sum x (h 0 (omega arith)) in
        ap (λ z. z ∷ map sum_in xs) a ∙ ap (λ t. Some 0 ∷ t) (each xs n (omega arith) (λ s l. h (suc s) (omega arith)))
