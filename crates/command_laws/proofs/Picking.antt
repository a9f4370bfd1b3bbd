-- What a pickup finds in the middle of a recording that a tap told.
use Rattle.command_laws.proofs.Names.{◌≡◌, ◌∙◌, inl, inr, ℕ, zero, suc, ◌+◌, ◌*◌, ◌<◌, ◌≤◌, Bool, List, [], ◌++◌, length, map, take, drop}
use Rattle.command_laws.proofs.Names.{slice_index, refl, sym, ap, subst, arith, None, append-nil, map-append, take-append-drop, take_all}
use Rattle.command_laws.proofs.Names.{Found, pieces_of, wholes, AreWholeOrAborted, LastPiecesAreFound, HEAD, TAIL, content-same, Status}
use Rattle.command_laws.proofs.Names.{Done, frames_sent, Signal, slots_of, signal_bits, LostIs, line_depth, Modulates, AreFit, signals}
use Rattle.command_laws.proofs.Names.{bits_of, Tapping, tapping, line_of, Tells, Turn, IsInLimits, FolderState, octets_at, mode_number}
use Rattle.command_laws.proofs.Names.{header_of, samples_in, Trellis, mode_of, tap_of, Mode, of, IsPrefixOf, Role, Sample}
use Rattle.std.proofs.Common.{◌%◌}
use Rattle.std.proofs.Math.Nat.{mul_assoc}
use Rattle.std.proofs.lemmas.List.{append_cancel_left}
use Rattle.symbol_map.specs.Distance.{quarter_turned}
use Rattle.exact_decoder.specs.Surviving.V32.{any_trellis}
use Rattle.bit_stuffing.proofs.Sent.{all-expected}
use Rattle.line_run.specs.Scripted.{SlotsHaveRoom}
use Rattle.line_tap.specs.Ends.{TapEnd}
use Rattle.command_base.specs.Recordings.{sender_of}
use Rattle.line_tap.specs.Names.{TapNames}
use Rattle.line_tap.specs.Headline as tap
use Rattle.signal_commands.specs.PickingUp.Gives.{GivesPieces}
use Rattle.signal_commands.specs.PickingUp.Laws.{SomePiecesAreGiven, PiecesAreGivenOnce, LaterPiecesStandBehind}
use Rattle.signal_commands.specs.PickingUp.Middles.{middle_of, AreNear, AreHeardOf, MiddlesGiveWhatWasSent, MiddlesAreNeverLost}
use Rattle.signal_commands.proofs.PickingUp.Middles.{near-front}
use Rattle.signal_commands.specs.PickingUp.Headline as pickup
use Rattle.signal_commands.specs.PickingUp.Completes.{IsRecording}
use Rattle.command_laws.specs.Pickups.{FindsFrames, SaysFrames, IsMiddle, EndsThere, told_symbols, told_turns}
use Rattle.command_laws.specs.Pickups.{PickupsFindWhatIsTold, PickupsFindWhatTapsName}
use Rattle.command_laws.proofs.Cutting.{SlotLaws, CutFinds, cut-finds}
use Rattle.line_tap.proofs.ToldFit.{FitLaws, told-fit}
use Rattle.command_laws.proofs.Told.{frames-are, signals-split, tells-earlier, one-each, told-bits}
use Rattle.command_laws.proofs.Told.{few-samples, all-told}
use Rattle.line_coding.specs.QuarterTurns.{turned_by}
use Rattle.signal_commands.proofs.PickingUp.Longer.{drop-front}

-- the laws that it rests on
pub record PickupLaws : Type 0 where
  pub room : SlotsHaveRoom
  pub slots : SlotLaws
  pub fit : FitLaws
  pub tails : LastPiecesAreFound
  pub some : SomePiecesAreGiven
  pub once : PiecesAreGivenOnce
  pub later : LaterPiecesStandBehind
  pub sent : MiddlesGiveWhatWasSent
  pub kept : MiddlesAreNeverLost

-- ---- the frames of turns, of which the first symbols aren't there

module _ (laws : PickupLaws) (x : Tapping) (limits : IsInLimits x.script) (ts : List Turn) (tells : Tells x ts) (role : Role)
    (cut : ℕ) where
  abbrev size : ℕ
  size = 4 * (line_of x).symbols

  abbrev sigs : List Signal
  sigs = signals (line_of x) role ts

  wide : 4 * (HEAD + TAIL) < size
  wide = omega (arith, (laws.room x.script limits).0)

  pieces-are : (before : List Turn) → Tells x before
      → wholes (pieces_of (signal_bits size (signals (line_of x) role before))) ≡ frames_sent role before
  pieces-are before h =
      let fit : AreFit size 0 (signals (line_of x) role before) = told-fit laws.fit x before h role in
      let all = all-expected size (slots_of size (signals (line_of x) role before))
      (laws.slots.slots size (signals (line_of x) role before) wide fit) in
      all.octets ∙ frames-are x size role before

  expected : AreWholeOrAborted (pieces_of (signal_bits size sigs))
  expected =
      let all = all-expected size (slots_of size sigs) (laws.slots.slots size sigs wide (told-fit laws.fit x ts tells role)) in
      all.pieces

  finds-frames : (heard : List Bool) (pieces : List Found) → AreHeardOf 464 (bits_of (line_of x) role ts) cut heard
      → pieces ≡ pieces_of heard → FindsFrames (line_of x).symbols role ts cut pieces
  finds-frames heard pieces h is =
      let f : CutFinds size sigs (4 * cut + 27) h.upto =
      cut-finds laws.slots laws.tails size sigs (4 * cut + 27) h.upto wide (told-fit laws.fit x ts tells role) (omega (arith, h.late)) in
      let same : pieces_of (drop (4 * cut + 27) (take h.upto (signal_bits size sigs))) ≡ pieces = ap pieces_of (sym h.bits_are) ∙ sym is in
      record {
        missed = wholes f.missed;
        all = sym (pieces-are ts tells) ∙ f.all ∙ ap (λ p. wholes f.missed ++ wholes p) same;
        early = λ later earlier e far.
            let split = signals-split x role later earlier in
            let before : Tells x earlier = tells-earlier x later earlier (subst (Tells x) e tells) in
            let count : length (signal_bits size (signals (line_of x) role earlier)) ≡ size * length earlier =
            laws.slots.size size (signals (line_of x) role earlier) wide (told-fit laws.fit x earlier before role)
            ∙ ap (λ n. size * n) (one-each x earlier before role) in
            let four : size * length earlier ≡ 4 * ((line_of x).symbols * length earlier) =
            mul_assoc 4 (line_of x).symbols (length earlier) in
            subst (IsPrefixOf (wholes f.missed)) (pieces-are earlier before)
            (f.early (signals (line_of x) role earlier) split.0 (ap (signals (line_of x) role) e ∙ split.1)
            (omega (arith, count, four, far)));
        others = subst AreWholeOrAborted same (f.others expected);
      }

-- ---- the commands

mode-same : (a b : Mode) → mode_number Trellis a ≡ mode_number Trellis b → a ≡ b
mode-same a b e = grind (arith)

sender-is : (role : Role) → sender_of (mode_of role) ≡ role
sender-is role = grind (arith)

turned-append : (turns : ℕ) (a b : List Sample) → turned_by turns (a ++ b) ≡ turned_by turns a ++ turned_by turns b
turned-append zero a b = refl
turned-append (suc turns) a b =
    ap (map quarter_turned) (turned-append turns a b) ∙ map-append quarter_turned (turned_by turns a) (turned_by turns b)

middle-front : (cut turns : ℕ) (a b : List Sample) → (more : List Sample) × (middle_of cut turns (a ++ b) ≡ middle_of cut turns a ++ more)
middle-front cut turns a b =
    let d = drop-front cut a b in
    (turned_by turns d.0, ap (turned_by turns) d.1 ∙ turned-append turns (drop cut a) d.0)

module _ (laws : PickupLaws) (n : TapNames) (role : Role) (rec : List ℕ) (cut turns : ℕ) (old new was then : FolderState) (end : TapEnd)
    (t : tap.Told old new n end) (is : IsMiddle n role rec cut turns old was) where
  abbrev x : Tapping
  x = tapping t.script t.bodies

  abbrev ts : List Turn
  ts = t.tap.turns

  abbrev tape : List Sample
  tape = samples_in (of role t.bodies)

  abbrev count : ℕ
  count = (line_of x).symbols * length ts

  body-is : is.body ≡ of role t.bodies
  body-is = grind (arith, content-same)

  near : AreNear cut tape is.heard
  near = subst (λ octets. AreNear cut (samples_in octets) is.heard) body-is is.near

  abbrev front : List Sample
  front = take count is.heard

  sent : Modulates (tap_of (mode_of role)) (bits_of (line_of x) role ts) (take count tape)
  sent = told-bits x ts t.tap.tells role

  given : (found : List Found) × GivesPieces (mode_of role) (middle_of cut turns front) found
  given = laws.some (mode_of role) (middle_of cut turns front)

  abbrev found : List Found
  found = given.0

  finds : FindsFrames (line_of x).symbols role ts cut found
  finds = finds-frames laws x t.limits ts t.tap.tells role cut given.1.bits found
      (laws.sent (mode_of role) (bits_of (line_of x) role ts) (take count tape) front cut turns found sent
      (near-front cut count tape is.heard near) given.1) given.1.pieces_are

  -- what is listed is what the recording's middle gives
  module _ (l : pickup.ListsAll was then rec) where
    whole : header_of (mode_of role) ++ is.content ≡ header_of l.mode ++ l.content
    whole = sym is.rec_is ∙ l.recording_is is.rec_told

    mode-is : l.mode ≡ mode_of role
    mode-is = mode-same l.mode (mode_of role) (ap (λ (xs : List ℕ). slice_index xs 4) (sym whole))

    gives : GivesPieces (mode_of role) (middle_of cut turns is.heard) l.pieces
    gives = grind (arith, mode-is, content-same, whole)

    begins : IsPrefixOf found l.pieces
    begins =
        let more = middle-front cut turns front (drop count is.heard) in
        let all : middle_of cut turns is.heard ≡ middle_of cut turns front ++ more.0 =
        ap (middle_of cut turns) (sym (take-append-drop count is.heard)) ∙ more.1 in
        laws.later (mode_of role) (middle_of cut turns front) more.0 found l.pieces given.1
        (subst (λ (xs : List Sample). GivesPieces (mode_of role) xs l.pieces) all gives)

    nothing-beyond : EndsThere t role → begins.0 ≡ []
    nothing-beyond ended =
        let all : front ≡ is.heard = take_all count is.heard (omega (arith, ended, few-samples (of role t.bodies), near.as_many)) in
        let same : found ≡ l.pieces = laws.once (mode_of role) (middle_of cut turns is.heard) found l.pieces
        (subst (λ (xs : List Sample). GivesPieces (mode_of role) (middle_of cut turns xs) found) all given.1) gives in
        append_cancel_left found begins.0 [] (begins.1 ∙ sym same ∙ sym (append-nil found))

    says : SaysFrames (line_of x).symbols role ts cut begins.0 was then
    says = grind (arith, finds, begins, mode-is, sender-is)

  of-told : pickup.Headline was then rec Done
      → (beyond : List Found) × SaysFrames (line_of x).symbols role ts cut beyond was then × (EndsThere t role → beyond ≡ [])
  of-told p = let l = p.lists refl in ((begins l).0, says l, nothing-beyond l)

  recording : EndsThere t role → length is.content % 4 ≡ 0 → length (octets_at was rec) ≤ 8388616 → IsRecording (octets_at was rec)
  recording ended whole_samples short = record {
    within = short;
    mode = mode_of role;
    content = is.content;
    octets_are = is.rec_is;
    followed = record {
      whole = whole_samples;
      not_lost = subst (λ (xs : List Sample). LostIs any_trellis line_depth xs None) (sym is.samples_are)
          (laws.kept (mode_of role) (bits_of (line_of x) role ts) tape is.heard cut turns (all-told x ts t.tap.tells role ended) near);
    };
  }

pub pickups-find-told : PickupLaws → PickupsFindWhatIsTold
pickups-find-told laws n role rec cut turns old new was then end t is p = of-told laws n role rec cut turns old new was then end t is p

pub pickups-find-named : PickupLaws → PickupsFindWhatTapsName
pickups-find-named laws n role rec cut turns old new was then s h is whole short sound p completes =
    elim (completes sound is.rec_told (recording laws n role rec cut turns old new was then _ h.told.2 is ended whole short)) [
      | inl done ↦
          let all = of-told laws n role rec cut turns old new was then _ h.told.2 is
          (subst (λ (it : Status). pickup.Headline was then rec it) done p) in
          inl (
            done,
            subst (λ (beyond : List Found). SaysFrames (told_symbols h.told.2) role (told_turns h.told.2) cut beyond was then)
                (all.2 ended) all.1,
          )
      | inr memory ↦ inr memory
    ]
  where
    ended : EndsThere h.told.2 role
    ended = h.told.2.tap.ended.none role
