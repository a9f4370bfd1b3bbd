-- What the output holds where a recording is not played to its end.
use Rattle.signal_commands.proofs.Names.{◌≡◌, ◌≢◌, ◌∙◌, inl, ℕ, ◌+◌, ◌%◌, List, [], ◌++◌, length, take, drop, sym, ap, subst, arith}
use Rattle.signal_commands.proofs.Names.{append-nil, append_assoc, Option, Some, None, Result, Ok, Err, take-append-drop, take-append-le}
use Rattle.signal_commands.proofs.Names.{GoesOnBy, ReadsRecording, hearer_of, lost-stays, heard, IsReleased, LostIs, line_depth}
use Rattle.signal_commands.proofs.Names.{HoldsFront-longer, FolderState, Holds, HoldsFront, samples_in-front, samples_in, HEADER, Rate}
use Rattle.signal_commands.proofs.Names.{tap_of, Mode, Role, IsFollowed, DecodesFront, RecordingLost, SampleCut, Carries, LosesWithin}
use Rattle.signal_commands.proofs.Names.{decoding_of, Hears, trellis_at, DecodeNames, Playback, Sample}
use Rattle.exact_decoder.specs.declared.decoder.Lost.{Lost}
use Rattle.signal_commands.specs.Decoding.Played.{PlaysPiece}
use Rattle.signal_commands.specs.Decoding.Ends.{DecodesPart}
use Rattle.recordings.specs.declared.rate.Rate.TheVariants as rates
use Rattle.signal_commands.proofs.Decoding.Longer.{longer}
use Rattle.signal_commands.proofs.Decoding.Playings.{takes-octets}
use Rattle.signal_commands.proofs.Decoding.Rates.{lost-at}
use Rattle.signal_commands.proofs.PickingUp.Longer.{tap-low}

-- some of the samples release labels that carry the octets
pub record Releases (rate : Rate) (mode : Mode) (samples : List Sample) (octets : List ℕ) : Type 0 where
  pub front : List Sample
  pub more : List Sample
  pub split : samples ≡ front ++ more
  pub labels : List ℕ
  pub released : IsReleased (trellis_at rate) front labels
  pub carried : Carries rate (tap_of mode) labels octets

heard-split : (lost : Option ℕ) (samples : List Sample) → (more : List Sample) × (samples ≡ heard lost samples ++ more)
heard-split None samples = ([], sym (append-nil samples))
heard-split (Some symbol) samples = (drop (symbol + 1) samples, sym (take-append-drop (symbol + 1) samples))

-- where each released label is taken, those that were taken are released
all-taken : (rate : Rate) (samples : List Sample) (labels pending : List ℕ) → IsReleased (trellis_at rate) samples (labels ++ pending)
    → pending ≡ [] → IsReleased (trellis_at rate) samples labels
all-taken rate samples labels pending r taken = grind (arith, append-nil)

pub hears-releases : (rate : Rate) (mode : Mode) (p : Playback) (samples : List Sample) (octets : List ℕ) → Hears rate mode p samples octets
    → (decoding_of p.reader).pending ≡ [] → Releases rate mode samples octets
hears-releases rate mode p samples octets h taken =
    let d = decoding_of p.reader in
    let t = takes-octets rate mode p samples octets h in
    let s = heard-split d.lost samples in
    record {
      front = heard d.lost samples;
      more = s.0;
      split = s.1;
      labels = t.labels;
      released = all-taken rate (heard d.lost samples) t.labels d.pending t.released taken;
      carried = t.carried;
    }

pub piece-releases : (rate : Rate) (mode : Mode) (p : Playback) (samples : List Sample) (piece octets : List ℕ) (r : Result (Unit {0}) Lost)
    → PlaysPiece rate mode p samples piece octets r
    → (decoding_of p.reader).pending ≡ [] → Releases rate mode (samples ++ samples_in piece) octets
piece-releases rate mode p samples piece octets (Ok _) h taken = hears-releases rate mode p (samples ++ samples_in piece) octets h taken
piece-releases rate mode p samples piece octets (Err lost) h taken =
    let r = hears-releases rate mode p h.heard octets h.hears taken in
    record {
      front = r.front;
      more = r.more ++ h.more;
      split = h.split ∙ ap (λ (xs : List Sample). xs ++ h.more) r.split ∙ append_assoc r.front r.more h.more;
      labels = r.labels;
      released = r.released;
      carried = r.carried;
    }

-- the output holds the beginning of what the whole recording gives
pub part : (start now : FolderState) (n : DecodeNames) (mode : Mode) (content octets : List ℕ) → GoesOnBy start n.rec n.rate mode content
    → Releases n.rate mode (samples_in content) octets → HoldsFront now n.file octets → DecodesPart start now n
part start now n mode content octets w r file =
    let s = samples_in-front content w.rest in
    let all : samples_in (content ++ w.rest) ≡ r.front ++ (r.more ++ s.0) =
    s.1 ∙ ap (λ (xs : List Sample). xs ++ s.0) r.split ∙ append_assoc r.front r.more s.0 in
    let l = longer n.rate (tap_of mode) r.front (r.more ++ s.0) r.labels octets (tap-low mode) r.released r.carried in
    record {
      mode = mode;
      content = content ++ w.rest;
      reads = w.reads;
      octets = l.all;
      may = inl (l.labels, subst (λ (xs : List Sample). IsReleased (trellis_at n.rate) xs l.labels) (sym all) l.released, l.carried);
      file = HoldsFront-longer now n.file octets l.all file l.front;
    }

-- the recording is lost where the samples so far are
pub lost-part : (start now : FolderState) (n : DecodeNames) (mode : Mode) (p : Playback) (content octets : List ℕ) (symbol : ℕ)
    (role : Role) → GoesOnBy start n.rec n.rate mode content
    → LosesWithin n.rate mode p (samples_in content) octets symbol → role ≡ hearer_of mode → Holds now n.file octets
    → (n.rate ≡ rates.Trellis) × RecordingLost start now n role symbol
lost-part start now n mode p content octets symbol role all w role_is file =
    let code = trellis_at n.rate in
    let s = samples_in-front content all.rest in
    let more : List Sample = w.more ++ s.0 in
    let whole : samples_in (content ++ all.rest) ≡ w.heard ++ more =
    s.1 ∙ ap (λ (xs : List Sample). xs ++ s.0) w.split ∙ append_assoc w.heard w.more s.0 in
    let t = takes-octets n.rate mode p w.heard octets w.hears in
    let d = decoding_of p.reader in
    let lost : LostIs code line_depth w.heard (Some symbol) = subst (λ (l : Option ℕ). LostIs code line_depth w.heard l) w.lost t.lost in
    let released : IsReleased code (take (symbol + 1) w.heard) t.labels =
    subst (λ (l : Option ℕ). IsReleased code (heard l w.heard) t.labels) w.lost
    (all-taken n.rate (heard d.lost w.heard) t.labels d.pending t.released w.all_taken) in
    let front_take : take (symbol + 1) (w.heard ++ more) ≡ take (symbol + 1) w.heard =
    take-append-le (symbol + 1) w.heard more (omega (arith, lost.within)) in (
      lost-at n.rate w.heard symbol lost,
      record {
        mode = mode;
        content = content ++ all.rest;
        reads = all.reads;
        role_is = role_is;
        lost = subst (λ (xs : List Sample). LostIs code line_depth xs (Some symbol)) (sym whole)
            (lost-stays code line_depth w.heard more symbol lost);
        labels = t.labels;
        released = subst (λ (xs : List Sample). IsReleased code (take (symbol + 1) xs) t.labels) (sym whole)
            (subst (λ (xs : List Sample). IsReleased code xs t.labels) (sym front_take) released);
        octets = octets;
        carried = t.carried;
        file = file;
      },
    )

-- a recording whose last sample is cut
pub cut-part : (start now : FolderState) (n : DecodeNames) (mode : Mode) (p : Playback) (content octets : List ℕ) (at : ℕ)
    → ReadsRecording start n.rec n.rate mode content → length content % 4 ≢ 0 → at + length content % 4 ≡ HEADER + length content
    → Hears n.rate mode p (samples_in content) octets → (decoding_of p.reader).lost ≡ None → (decoding_of p.reader).pending ≡ []
    → Holds now n.file octets → SampleCut start now n at
cut-part start now n mode p content octets at reads cut at_is h not_lost taken file =
    let code = trellis_at n.rate in
    let d = decoding_of p.reader in
    let t = takes-octets n.rate mode p (samples_in content) octets h in
    record {
      mode = mode;
      content = content;
      reads = reads;
      cut = cut;
      at_is = at_is;
      not_lost = subst (λ (l : Option ℕ). LostIs code line_depth (samples_in content) l) not_lost t.lost;
      labels = t.labels;
      released = subst (λ (l : Option ℕ). IsReleased code (heard l (samples_in content)) t.labels) not_lost
          (all-taken n.rate (heard d.lost (samples_in content)) t.labels d.pending t.released taken);
      octets = octets;
      carried = t.carried;
      file = file;
    }

-- the first samples of a recording, behind which nothing was read
pub front-part : (start now : FolderState) (n : DecodeNames) (mode : Mode) (p : Playback) (content octets : List ℕ)
    → GoesOnBy start n.rec n.rate mode content
    → Hears n.rate mode p (samples_in content) octets → (decoding_of p.reader).lost ≡ None → (decoding_of p.reader).pending ≡ []
    → Holds now n.file octets → DecodesFront start now n
front-part start now n mode p content octets w h not_lost taken file =
    let code = trellis_at n.rate in
    let d = decoding_of p.reader in
    let s = samples_in-front content w.rest in
    let t = takes-octets n.rate mode p (samples_in content) octets h in
    record {
      mode = mode;
      content = content ++ w.rest;
      reads = w.reads;
      first = samples_in content;
      front = (s.0, sym s.1);
      not_lost = subst (λ (l : Option ℕ). LostIs code line_depth (samples_in content) l) not_lost t.lost;
      labels = t.labels;
      released = subst (λ (l : Option ℕ). IsReleased code (heard l (samples_in content)) t.labels) not_lost
          (all-taken n.rate (heard d.lost (samples_in content)) t.labels d.pending t.released taken);
      octets = octets;
      carried = t.carried;
      file = file;
    }

-- one that is followed to its end
pub followed : (rate : Rate) (mode : Mode) (p : Playback) (content octets : List ℕ) → length content % 4 ≡ 0
    → Hears rate mode p (samples_in content) octets → (decoding_of p.reader).lost ≡ None → IsFollowed rate content
followed rate mode p content octets whole h not_lost = record {
  whole = whole;
  not_lost = subst (λ (l : Option ℕ). LostIs (trellis_at rate) line_depth (samples_in content) l) not_lost
      (takes-octets rate mode p (samples_in content) octets h).lost;
}
