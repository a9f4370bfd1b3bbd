-- How many samples a decoder has read, and which one lost the line.
use Rattle.gateway.proofs.Names.{◌≡◌, ℕ, zero, suc, ◌+◌, ◌<◌, ◌≤◌, ℤ, Bool, List, ◌++◌, length, take, drop, Option, Some, None, inl, inr}
use Rattle.gateway.proofs.Names.{refl, sym, ◌∙◌, ap, subst, arith, append_assoc, length-append, take-append-le, take-append-drop, take_all}
use Rattle.gateway.proofs.Names.{length-take-le, DecoderStands, IsReleased, LostIs, HasDecoded, decoding_of, samples_in, ReadsAs, AnyReader}
use Rattle.gateway.proofs.Names.{LineKind, Reading, SamplesRead, Mode, Sample}
use Rattle.std.proofs.Math.Seq.{take-append-add}
use Rattle.std.proofs.lemmas.Bool.{cases_lt}
use Rattle.exact_decoder.specs.Decoder.{Decoding, heard}
use Rattle.exact_decoder.specs.Surviving.Trellises.{Trellis, trellis_of}
use Rattle.exact_decoder.specs.Surviving.Survivors.{IsLost}
use Rattle.exact_decoder.proofs.Surviving.Fronts.{over-before, over-more}
use Rattle.exact_decoder.proofs.Pushed.{none-some}
use Rattle.gateway.specs.declared.any_reader.AnyReader.TheVariants as readers
use Rattle.gateway.specs.declared.any_reader.LineKind.TheVariants as lines
use Rattle.gateway.specs.declared.decoder.SampleDecoder.{SampleDecoder}

pub length-samples_in : (count : ℕ) (parts : List ℤ) → length (samples_in count parts) ≡ count
length-samples_in zero parts = refl
length-samples_in (suc count) parts = omega (arith, length-append {A = Sample}, length-samples_in count parts)

pub take-samples_in : (few count : ℕ) (parts : List ℤ) → few ≤ count → take few (samples_in count parts) ≡ samples_in few parts
take-samples_in few zero parts h = let none : few ≡ 0 = omega (arith, h) in rw none refl
take-samples_in few (suc count) parts h = elim (cases_lt few (suc count)) [
  | inl less ↦
      let long : few ≤ length (samples_in count parts) = omega (arith, less, length-samples_in count parts) in
      take-append-le few (samples_in count parts) _ long ∙ take-samples_in few count parts (omega (arith, less))
  | inr all ↦
      let same : few ≡ suc count = omega (arith, h, all) in
      take_all few (samples_in (suc count) parts) (omega (arith, all, length-samples_in (suc count) parts))
      ∙ ap (λ n. samples_in n parts) (sym same)
]

-- of the samples that were copied the first ones go behind those before them
pub some-more : (past : List Sample) (parts : List ℤ) (at count read : ℕ) (copied : List Sample)
    → samples_in at parts ++ copied ≡ samples_in (at + count) parts → read ≤ count
    → (past ++ samples_in at parts) ++ take read copied ≡ past ++ samples_in (at + read) parts
some-more past parts at count read copied are few =
    let before = samples_in at parts in
    append_assoc past before (take read copied)
    ∙ ap (λ l. past ++ l) (
    sym (take-append-add before copied read)
    ∙ ap (λ n. take (n + read) (before ++ copied)) (length-samples_in at parts)
    ∙ ap (take (at + read)) are
    ∙ take-samples_in (at + read) (at + count) parts (omega (arith, few))
    )

-- a line that wasn't lost is lost with one of the samples that come next
lost-next : (t : Trellis Sample) (depth : ℕ) (samples more : List Sample) (symbol : ℕ) (old new : Option ℕ) → old ≡ None
    → new ≡ Some symbol → LostIs t depth samples old → LostIs t depth (samples ++ more) new
    → (length samples ≤ symbol) × (symbol < length samples + length more)
lost-next t depth samples more symbol old new e n before after =
    let h : IsLost t depth (samples ++ more) symbol = subst (LostIs t depth (samples ++ more)) n after in
    let within : symbol < length samples + length more = omega (arith, h.within, length-append {A = Sample} samples more) in
    elim (cases_lt symbol (length samples)) [
      | inl early ↦
          absurd (subst (LostIs t depth samples) e before (symbol + 1) (omega (arith, early))
          (over-before t depth samples more (symbol + 1) (omega (arith, early)) h.over))
      | inr late ↦ (omega (arith, late), within)
    ]

pub lost-with : (line : LineKind) (mode : Mode) (old new : AnyReader) (samples more : List Sample) (bits given : List Bool) (symbol : ℕ)
    → (decoding_of old).lost ≡ None → (decoding_of new).lost ≡ Some symbol → ReadsAs line mode old samples bits
    → ReadsAs line mode new (samples ++ more) given → (length samples ≤ symbol) × (symbol < length samples + length more)
lost-with lines.Begun mode (readers.Begun r) (readers.Begun q) samples more bits given symbol e n before after =
    lost-next _ _ samples more symbol r.decoder.lost q.decoder.lost e n before.decoder.lost after.decoder.lost
lost-with lines.Begun mode (readers.Begun r) (readers.Middle q) samples more bits given symbol e n before after = absurd after
lost-with lines.Begun mode (readers.Begun r) (readers.Quarters q) samples more bits given symbol e n before after = absurd after
lost-with lines.Begun mode (readers.Middle r) new samples more bits given symbol e n before after = absurd before
lost-with lines.Begun mode (readers.Quarters r) new samples more bits given symbol e n before after = absurd before
lost-with lines.Middle mode (readers.Middle r) (readers.Middle q) samples more bits given symbol e n before after =
    lost-next _ _ samples more symbol r.reading.decoder.lost q.reading.decoder.lost e n before.read.decoder.lost after.read.decoder.lost
lost-with lines.Middle mode (readers.Middle r) (readers.Begun q) samples more bits given symbol e n before after = absurd after
lost-with lines.Middle mode (readers.Middle r) (readers.Quarters q) samples more bits given symbol e n before after = absurd after
lost-with lines.Middle mode (readers.Begun r) new samples more bits given symbol e n before after = absurd before
lost-with lines.Middle mode (readers.Quarters r) new samples more bits given symbol e n before after = absurd before
lost-with lines.Quarters mode (readers.Quarters r) (readers.Quarters q) samples more bits given symbol e n before after =
    lost-next _ _ samples more symbol r.decoder.lost q.decoder.lost e n before.decoder.lost after.decoder.lost
lost-with lines.Quarters mode (readers.Quarters r) (readers.Begun q) samples more bits given symbol e n before after = absurd after
lost-with lines.Quarters mode (readers.Quarters r) (readers.Middle q) samples more bits given symbol e n before after = absurd after
lost-with lines.Quarters mode (readers.Begun r) new samples more bits given symbol e n before after = absurd before
lost-with lines.Quarters mode (readers.Middle r) new samples more bits given symbol e n before after = absurd before

-- A decoder that lost the line stands for the samples up to the one that lost it, whatever followed.
stands-shorter : (table : ℕ → ℕ → Option ℕ) (points : ℕ → Sample) (depth : ℕ) (starts : ℕ → Bool) (more : List Sample) (d : Decoding)
    (samples : List Sample) (taken : List ℕ) (symbol : ℕ) → d.lost ≡ Some symbol → symbol < length samples
    → DecoderStands table points starts depth d (samples ++ more) taken → DecoderStands table points starts depth d samples taken
stands-shorter table points depth starts more d samples taken symbol e within h = record {
  counted = h.counted ∙ ap length same;
  lost = subst (LostIs c depth samples) (sym e) (record {
    within = within;
    over = over-before c depth samples more (symbol + 1) (omega (arith, within)) was.over;
    first = λ n low o. was.first n low (over-more c depth samples more n (omega (arith, within, low)) o);
  });
  released = subst (λ s. IsReleased c s (taken ++ d.pending)) same h.released;
  keeps = λ g. none-some symbol (sym g ∙ e);
}
  where
    c : Trellis Sample
    c = trellis_of table points starts

    was : IsLost c depth (samples ++ more) symbol
    was = subst (LostIs c depth (samples ++ more)) e h.lost

    same : heard d.lost (samples ++ more) ≡ heard d.lost samples
    same = grind (arith, take-append-le)

samples-shorter : {D : Type 0} (table : ℕ → ℕ → Option ℕ) (points : ℕ → Sample) (reads : D → List ℕ → List Bool → Type 0)
    (starts : ℕ → Bool) (depth : ℕ) (r : Reading D) (samples more : List Sample) (bits : List Bool) (symbol : ℕ)
    → r.decoder.lost ≡ Some symbol → symbol < length samples → SamplesRead table points reads starts depth r (samples ++ more) bits
    → SamplesRead table points reads starts depth r samples bits
samples-shorter table points reads starts depth r samples more bits symbol e within h = record {
  labels = h.labels;
  decoder = stands-shorter table points depth starts more r.decoder samples h.labels symbol e within h.decoder;
  demodulator = h.demodulator;
}

pub reads-shorter : (line : LineKind) (mode : Mode) (r : AnyReader) (samples more : List Sample) (bits : List Bool) (symbol : ℕ)
    → (decoding_of r).lost ≡ Some symbol → symbol < length samples → ReadsAs line mode r (samples ++ more) bits
    → ReadsAs line mode r samples bits
reads-shorter lines.Begun mode (readers.Begun r) samples more bits symbol e within h =
    samples-shorter _ _ _ _ _ r samples more bits symbol e within h
reads-shorter lines.Begun mode (readers.Middle r) samples more bits symbol e within h = h
reads-shorter lines.Begun mode (readers.Quarters r) samples more bits symbol e within h = h
reads-shorter lines.Middle mode (readers.Begun r) samples more bits symbol e within h = h
reads-shorter lines.Middle mode (readers.Middle m) samples more bits symbol e within h = record {
  all = h.all;
  read = samples-shorter _ _ _ _ _ m.reading samples more h.all symbol e within h.read;
  bits_are = h.bits_are;
  counted = h.counted;
}
reads-shorter lines.Middle mode (readers.Quarters r) samples more bits symbol e within h = h
reads-shorter lines.Quarters mode (readers.Begun r) samples more bits symbol e within h = h
reads-shorter lines.Quarters mode (readers.Middle r) samples more bits symbol e within h = h
reads-shorter lines.Quarters mode (readers.Quarters r) samples more bits symbol e within h =
    samples-shorter _ _ _ _ _ r samples more bits symbol e within h

-- a decoder that read the first of some samples and didn't lose the line
pub decoded-on : (line : LineKind) (mode : Mode) (old new : SampleDecoder) (past more : List Sample) (bits : List Bool) (read : ℕ)
    → HasDecoded line mode old past bits → new.samples ≡ old.samples + read → read ≤ length more
    → (decoding_of new.reader).lost ≡ None → ReadsAs line mode new.reader (past ++ take read more) bits
    → HasDecoded line mode new (past ++ take read more) bits
decoded-on line mode old new past more bits read h samples within lost reads = grind (arith, length-append, length-take-le, none-some)

-- and one that did
pub decoded-until : (line : LineKind) (mode : Mode) (old new : SampleDecoder) (past more : List Sample) (bits : List Bool) (read symbol : ℕ)
    → HasDecoded line mode old past bits → (decoding_of old.reader).lost ≡ None → new.samples ≡ old.samples + read → read ≤ length more
    → (old.samples ≤ symbol → symbol < old.samples + length more → old.samples + read ≡ symbol + 1)
    → (decoding_of new.reader).lost ≡ Some symbol → ReadsAs line mode new.reader (past ++ more) bits
    → HasDecoded line mode new (past ++ take read more) bits
decoded-until line mode old new past more bits read symbol h runs samples within until lost reads =
    let at = lost-with line mode old.reader new.reader past more bits bits symbol runs lost h.reads reads in
    let last = until (omega (arith, at.0, h.counted)) (omega (arith, at.1, h.counted)) in
    let long : length (past ++ take read more) ≡ symbol + 1 =
    omega (arith, last, h.counted, length-append {A = Sample} past (take read more), length-take-le read more within) in
    let all : (past ++ take read more) ++ drop read more ≡ past ++ more =
    append_assoc past (take read more) (drop read more) ∙ ap (λ l. past ++ l) (take-append-drop read more) in
    record {
      reads = reads-shorter line mode new.reader (past ++ take read more) (drop read more) bits symbol lost (omega (arith, long))
          (subst (λ l. ReadsAs line mode new.reader l bits) (sym all) reads);
      counted = omega (arith, samples, long, last);
      ended = λ other e. same-end symbol other (sym lost ∙ e) long;
    }
  where
    same-end : (one other : ℕ) → ◌≡◌ {A = Option ℕ} (Some one) (Some other) → length (past ++ take read more) ≡ one + 1
        → length (past ++ take read more) ≡ other + 1
    same-end one other e long = let same : one ≡ other = cc in omega (arith, same, long)

-- bits that are given change nothing else
pub decoded-given : (line : LineKind) (mode : Mode) (old new : SampleDecoder) (samples : List Sample) (before after : List Bool)
    → HasDecoded line mode old samples before → new.samples ≡ old.samples → (decoding_of new.reader).lost ≡ (decoding_of old.reader).lost
    → ReadsAs line mode new.reader samples after → HasDecoded line mode new samples after
decoded-given line mode old new samples before after h same lost reads = grind (arith)
