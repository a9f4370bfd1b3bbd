-- What is said of the things that handles lead to is said of the handles.
use Rattle.std.proofs.Common.{Option, Some, None, IsSomeAnd}
use Rattle.gateway.specs.SignalLaws as gateway
use Rattle.modem_c.specs.Led.{decoder_in, encoder_in}
use Rattle.modem_c.specs.SignalLaws.{SentBitsComeBack, SentBitsComeSoon, AllBitsComeBack, MiddleBitsComeBack, SureBitsAreGiven}
use Rattle.modem_c.specs.SignalLaws.{QuarterBitsComeBack, AllQuarterBitsComeBack}

of-it : {A R : Type 0} {P : A → Type 0} (o : Option A) → IsSomeAnd o P → ((a : A) → P a → R) → R
of-it None h f = absurd h
of-it (Some a) h f = f a h

at-it : {A : Type 0} {P Q : A → Type 0} (o : Option A) → IsSomeAnd o P → ((a : A) → P a → Q a) → IsSomeAnd o Q
at-it None h f = absurd h
at-it (Some a) h f = f a h

pub sent-bits-come-back : gateway.SentBitsComeBack → SentBitsComeBack
sent-bits-come-back law mode e d sent given samples heard encodes near decodes =
    of-it (encoder_in e) encodes (λ a h. at-it (decoder_in d) decodes (λ b k. law mode a b sent given samples heard h near k))

pub sent-bits-come-soon : gateway.SentBitsComeSoon → SentBitsComeSoon
sent-bits-come-soon law mode e d sent given heard later encodes decodes =
    of-it (encoder_in e) encodes (λ a h. at-it (decoder_in d) decodes (λ b k. law mode a b sent given heard later h k))

pub all-bits-come-back : gateway.AllBitsComeBack → AllBitsComeBack
all-bits-come-back law mode e sent given last samples encodes ends =
    of-it (encoder_in e) encodes (λ a h. law mode a sent given last samples h ends)

pub middle-bits-come-back : gateway.MiddleBitsComeBack → MiddleBitsComeBack
middle-bits-come-back law mode e d sent given samples heard count encodes behind decodes =
    of-it (encoder_in e) encodes (λ a h. at-it (decoder_in d) decodes (λ b k. law mode a b sent given samples heard count h behind k))

pub sure-bits-are-given : gateway.SureBitsAreGiven → SureBitsAreGiven
sure-bits-are-given law mode d bits given samples price costs low decodes =
    at-it (decoder_in d) decodes (λ b k. law mode b bits given samples price costs low k)

pub quarter-bits-come-back : gateway.QuarterBitsComeBack → QuarterBitsComeBack
quarter-bits-come-back law mode e d sent given samples heard encodes near decodes =
    of-it (encoder_in e) encodes (λ a h. at-it (decoder_in d) decodes (λ b k. law mode a b sent given samples heard h near k))

pub all-quarter-bits-come-back : gateway.AllQuarterBitsComeBack → AllQuarterBitsComeBack
all-quarter-bits-come-back law mode e sent given last samples heard encodes near ends =
    of-it (encoder_in e) encodes (λ a h. law mode a sent given last samples heard h near ends)
