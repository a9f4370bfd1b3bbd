-- What a push and the end of a decoder's line answer, by why it stops.
use Rattle.std.proofs.Common.{◌≡◌, ℕ, ℤ, List, length, inl, inr, refl, subst, sym, Option}
use Rattle.gateway.specs.declared.decoder.SampleDecoder.{SampleDecoder}
use Rattle.gateway.specs.declared.decoder.DecoderStop.{DecoderStop}
use Rattle.gateway.specs.declared.decoder.DecoderStop.TheVariants as stops
use Rattle.gateway.specs.Decoding.{decoding_of}
use Rattle.gateway.specs.Stopped.{IsUnfinished}
use Rattle.gateway.specs.Stops.{StopsSo}
use Rattle.modem_c.specs.declared.machine.Machine.{Machine}
use Rattle.modem_c.specs.declared.progress.Progress.{Progress}
use Rattle.modem_c.specs.Progressed.{nothing_done}
use Rattle.modem_c.specs.Decoders.{FinishAnswers, PushAnswers, code_of, lost_of}

pub push-answers : (stop : DecoderStop) (old new : SampleDecoder) (parts read written : ℕ) (before room : List ℕ)
    → StopsSo stop old parts (length room) read written new → (stop ≡ stops.Late → room ≡ before)
    → PushAnswers old parts before room (code_of stop) (record { read = read; written = written; lost = lost_of stop }) new
push-answers stops.All old new parts read written before room h late = inl (refl, refl, h)
push-answers stops.Full old new parts read written before room h late = inr (inl (refl, refl, h))
push-answers (stops.Lost symbol) old new parts read written before room h late = inr (inr (inl (refl, h)))
push-answers stops.Late old new parts read written before room h late = inr (inr (inr (refl, refl, late refl, h)))

pub finish-answers : (stop : DecoderStop) (decoder : SampleDecoder) (before room : List ℕ) (old new : Option Machine)
    → IsUnfinished stop (decoding_of decoder.reader) (length room) → room ≡ before → new ≡ old
    → FinishAnswers decoder before room (code_of stop) (record { read = 0; written = 0; lost = lost_of stop }) old new
finish-answers stops.Full decoder before room old new h same stays = inr (inl (refl, refl, same, stays, h))
finish-answers (stops.Lost symbol) decoder before room old new h same stays = inr (inr (refl, refl, refl, same, stays, h))
finish-answers stops.All decoder before room old new h same stays = absurd h
finish-answers stops.Late decoder before room old new h same stays = absurd h

pub pushed-so : (stop : DecoderStop) (old new : SampleDecoder) (parts read written lost : ℕ) (before room : List ℕ) (code : ℤ)
    → code ≡ code_of stop → lost ≡ lost_of stop → StopsSo stop old parts (length room) read written new
    → (stop ≡ stops.Late → room ≡ before)
    → PushAnswers old parts before room code (record { read = read; written = written; lost = lost }) new
pushed-so stop old new parts read written lost before room code e f h late =
    subst (λ (z : ℤ). PushAnswers old parts before room z (record { read = read; written = written; lost = lost }) new) (sym e)
    (subst (λ (n : ℕ). PushAnswers old parts before room (code_of stop) (record { read = read; written = written; lost = n }) new) (sym f)
    (push-answers stop old new parts read written before room h late))

pub finished-so : (stop : DecoderStop) (decoder : SampleDecoder) (before room : List ℕ) (old new : Option Machine) (none : Progress)
    (lost : ℕ) (code : ℤ) → none ≡ nothing_done → code ≡ code_of stop → lost ≡ lost_of stop
    → IsUnfinished stop (decoding_of decoder.reader) (length room) → room ≡ before → new ≡ old
    → FinishAnswers decoder before room code (record none { lost = lost }) old new
finished-so stop decoder before room old new none lost code e f g h same stays =
    subst (λ (p : Progress). FinishAnswers decoder before room code (record p { lost = lost }) old new) (sym e)
    (subst (λ (z : ℤ). FinishAnswers decoder before room z (record { read = 0; written = 0; lost = lost }) old new) (sym f)
    (subst (λ (n : ℕ). FinishAnswers decoder before room (code_of stop) (record { read = 0; written = 0; lost = n }) old new) (sym g)
    (finish-answers stop decoder before room old new h same stays)))
