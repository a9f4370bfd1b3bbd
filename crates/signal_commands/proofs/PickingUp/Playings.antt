-- A player goes on, and what was said of what it played.
use Rattle.signal_commands.proofs.Names.{◌≡◌, ◌∙◌, ℕ, ◌+◌, ◌≤◌, Bool, List, [], ◌++◌, length, length-append, take, drop, Result, Ok, Err}
use Rattle.signal_commands.proofs.Names.{refl, sym, ap, subst, arith, append-nil, append_assoc, Option, Some, None, take-append-drop}
use Rattle.signal_commands.proofs.Names.{take-append-le, length-take, pieces-stay, pieces_of, Heard, PartlyHeard, hearer_of, Stop, Own, Say}
use Rattle.signal_commands.proofs.Names.{lost-stays, heard_of, heard, IsReleased, LostIs, any_trellis, line_depth, Middle, MiddleRead}
use Rattle.signal_commands.proofs.Names.{FolderState, OnlyReads, tap_of, Mode, Role, AreFollowed, SaysPieces, Playing, playing_of, Plays}
use Rattle.signal_commands.proofs.Names.{IsReady, StopsPlay, Sample}
use Rattle.exact_decoder.proofs.Surviving.Fronts.{over-before}
use Rattle.line_coding.proofs.Readers.{readers_pick_up}
use Rattle.command_base.specs.Readings.{AreLines}
use Rattle.command_base.specs.Heard.{Listening}
use Rattle.command_base.proofs.Hearing.{heard-after}
use Rattle.command_base.specs.Recordings.{sender_of}
use Rattle.signal_commands.specs.PickingUp.Playing.{SaysSome, LosesLine}
use Rattle.signal_commands.proofs.PickingUp.Longer.{bits-longer, tap-low}

-- bits more are taken and heard
pub plays-taken : (start now new : FolderState) (mode : Mode) (reader next : Middle) (listener later : Listening) (samples : List Sample)
    (more : List Bool)
    → ((bits : List Bool) → MiddleRead mode line_depth reader samples bits → MiddleRead mode line_depth next samples (bits ++ more))
    → ((start : FolderState) (bits : List Bool) → Heard start now listener bits → Heard start new later (bits ++ more))
    → later.sender ≡ listener.sender → Plays start now mode (playing_of reader listener) samples
    → Plays start new mode (playing_of next later) samples
plays-taken start now new mode reader next listener later samples more reads hears same h = record {
  bits = h.bits ++ more;
  read = reads h.bits h.read;
  heard = hears start h.bits h.heard;
  sender_is = same ∙ h.sender_is;
}

-- samples more are read
pub plays-pushed : (start now : FolderState) (mode : Mode) (reader next : Middle) (listener : Listening) (samples more : List Sample)
    → ((bits : List Bool) → MiddleRead mode line_depth reader samples bits → MiddleRead mode line_depth next more bits)
    → Plays start now mode (playing_of reader listener) samples → Plays start now mode (playing_of next listener) more
plays-pushed start now mode reader next listener samples more reads h = grind (arith, heard)

-- a read of the folder leaves what was said
pub plays-after : (start old mid : FolderState) (mode : Mode) (p : Playing) (samples : List Sample) → OnlyReads old mid
    → Plays start old mode p samples → Plays start mid mode p samples
plays-after start old mid mode p samples reads h = grind (arith, heard, heard-after)

-- who is ready for some samples is ready for more
pub ready-later : (p : Playing) (a b : ℕ) → a ≤ b → IsReady p a → IsReady p b
ready-later p a b l r = grind (arith)

-- up to where a line is lost, it isn't lost before the last sample
pub followed-by : (lost : Option ℕ) (samples : List Sample) → LostIs any_trellis line_depth samples lost
    → AreFollowed samples (heard lost samples)
followed-by None samples h = record { front = ([], append-nil samples); not_lost = λ n l over. h n (omega (arith, l)) over }
followed-by (Some symbol) samples h = record {
  front = (drop (symbol + 1) samples, take-append-drop (symbol + 1) samples);
  not_lost = λ n l over. h.first n (omega (arith, l, length-take (symbol + 1) samples)) over;
}

pub followed-longer : (samples more first : List Sample) → AreFollowed samples first → AreFollowed (samples ++ more) first
followed-longer samples more first f =
    let rest : List Sample = f.front.0 in
    let counts : length first + length rest ≡ length samples =
    sym (length-append first rest) ∙ ap (λ (xs : List Sample). length xs) f.front.1 in
    record {
      front = (rest ++ more, sym (append_assoc first rest more) ∙ ap (λ (xs : List Sample). xs ++ more) f.front.1);
      not_lost = λ n l over. f.not_lost n l (over-before any_trellis line_depth samples more n (omega (arith, l, counts)) over);
    }

-- a line was not said of the samples that were heard, nor then of all that were handed over
pub says-all : {E : Type 0} (start now : FolderState) (mode : Mode) (past samples : List Sample) (pushed : Result ℕ E)
    → SaysSome start now mode (past ++ heard_of pushed samples) → SaysSome start now mode (past ++ samples)
says-all start now mode past samples (Ok heard) s =
    let whole : (past ++ take heard samples) ++ drop heard samples ≡ past ++ samples =
    append_assoc past (take heard samples) (drop heard samples) ∙ ap (λ (xs : List Sample). past ++ xs) (take-append-drop heard samples) in
    record {
      first = s.first;
      followed = subst (λ (xs : List Sample). AreFollowed xs s.first) whole
          (followed-longer (past ++ take heard samples) (drop heard samples) s.first s.followed);
      says = s.says;
    }
says-all start now mode past samples (Err lost) s = s

-- what a player has played is lost where its decoder says
pub plays-lost : (start now : FolderState) (mode : Mode) (p : Playing) (samples : List Sample) → Plays start now mode p samples
    → LostIs any_trellis line_depth samples p.reader.reading.decoder.lost
plays-lost start now mode p samples h = let r = readers_pick_up mode line_depth p.reader samples h.bits h.read in r.decoder.lost

-- once each label is taken, the lines were said of all that the samples give
pub says-pieces : (start now : FolderState) (mode : Mode) (p : Playing) (samples : List Sample) → Plays start now mode p samples
    → p.reader.reading.decoder.pending ≡ []
    → SaysPieces start now mode (heard p.reader.reading.decoder.lost samples)
says-pieces start now mode p samples h taken =
    let r = readers_pick_up mode line_depth p.reader samples h.bits h.read in
    let first : List Sample = heard p.reader.reading.decoder.lost samples in
    record {
      pieces = pieces_of h.bits;
      gives = record {
        labels = r.labels;
        released = subst (λ (xs : List ℕ). IsReleased any_trellis first xs) (ap (λ (xs : List ℕ). r.labels ++ xs) taken
            ∙ append-nil r.labels) r.decoder.released;
        bits = h.bits;
        picked_up = r.picked_up;
        pieces_are = refl;
      };
      lines = h.heard.lines;
      are_lines = subst (λ (role : Role). AreLines role (pieces_of h.bits) h.heard.lines) h.sender_is h.heard.are_lines;
      said = h.heard.said;
    }

-- The lines were said of all that the samples give, and they are so many.
pub record SaysCounted (start now : FolderState) (mode : Mode) (samples : List Sample) (count : ℕ) : Type 0 where
  pub says : SaysPieces start now mode samples
  pub count_is : count ≡ length says.pieces

pub says-counted : (start now : FolderState) (mode : Mode) (p : Playing) (samples : List Sample) → Plays start now mode p samples
    → p.reader.reading.decoder.pending ≡ []
    → SaysCounted start now mode (heard p.reader.reading.decoder.lost samples) p.listener.pieces
unfolding says-pieces
says-counted start now mode p samples h taken = record { says = says-pieces start now mode p samples h taken; count_is = h.heard.count }

-- a line was not said
pub says-some : (start now : FolderState) (mode : Mode) (reader : Middle) (samples : List Sample) (bits : List Bool) (sender : Role)
    → MiddleRead mode line_depth reader samples bits → sender ≡ sender_of mode
    → PartlyHeard start now sender bits → SaysSome start now mode samples
says-some start now mode reader samples bits sender read sender_is p =
    let r = readers_pick_up mode line_depth reader samples bits read in
    let pending : List ℕ = reader.reading.decoder.pending in
    let b = bits-longer (tap_of mode) r.labels pending bits (tap-low mode) r.picked_up in
    let added = pieces-stay p.heard (p.rest ++ b.0) in
    let whole : bits ++ b.0 ≡ p.heard ++ (p.rest ++ b.0) =
    ap (λ (xs : List Bool). xs ++ b.0) p.bits_are ∙ append_assoc p.heard p.rest b.0 in
    record {
      first = heard reader.reading.decoder.lost samples;
      followed = followed-by reader.reading.decoder.lost samples r.decoder.lost;
      says = record {
        told = pieces_of p.heard;
        rest = added.0;
        gives = record {
          labels = r.labels ++ pending;
          released = r.decoder.released;
          bits = bits ++ b.0;
          picked_up = b.1;
          pieces_are = sym added.1.all ∙ ap pieces_of (sym whole);
        };
        lines = p.lines;
        are_lines = subst (λ (role : Role). AreLines role (pieces_of p.heard) p.lines) sender_is p.are_lines;
        said = p.said;
      };
    }

-- the line is lost
pub loses-line : (start now : FolderState) (mode : Mode) (p : Playing) (samples : List Sample) (role : Role) (symbol : ℕ)
    → Plays start now mode p samples → p.reader.reading.decoder.pending ≡ []
    → p.reader.reading.decoder.lost ≡ Some symbol → role ≡ hearer_of mode → LosesLine start now mode samples role symbol
loses-line start now mode p samples role symbol h taken lost role_is = assumption (
  subst (λ (l : Option ℕ). LostIs any_trellis line_depth samples l) lost (plays-lost start now mode p samples h),
  subst (λ (l : Option ℕ). SaysPieces start now mode (heard l samples)) lost (says-pieces start now mode p samples h taken),
)

-- why some samples are not all played, more of them aren't
pub stops-longer : (start now : FolderState) (mode : Mode) (samples more : List Sample) (stop : Stop)
    → StopsPlay start now mode samples stop → StopsPlay start now mode (samples ++ more) stop
stops-longer start now mode samples more (Own answer) (role, symbol, e, l) = (
  role,
  symbol,
  e,
  record {
    role_is = l.role_is;
    lost = lost-stays any_trellis line_depth samples more symbol l.lost;
    says = subst (λ (xs : List Sample). SaysPieces start now mode xs)
        (sym (take-append-le (symbol + 1) samples more (omega (arith, l.lost.within)))) l.says;
  },
)
stops-longer start now mode samples more (Say fault) s =
    record { first = s.first; followed = followed-longer samples more s.first s.followed; says = s.says }
stops-longer start now mode samples more other never = never
