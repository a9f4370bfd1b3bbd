-- How far the files of the users count in a run: as far as they were read.
use Rattle.std.specs.Prelude.{◌≡◌, ℕ, ◌+◌, ◌*◌, ◌≤◌, Bool, true, false, if◌then◌else◌, nat_lt, List, [], ◌++◌, length, take, drop, Some, Ok}
use Rattle.std.specs.List.{concat}
use Rattle.shared_terms.specs.declared.role.Role.{Role}
use Rattle.shared_terms.specs.Both.{Both, of}
use Rattle.xid_params.specs.declared.terms.Terms.{Terms}
use Rattle.xid_params.specs.Offers.{IsAllowed}
use Rattle.lapm_sender.specs.Outgoing.{Outgoing}
use Rattle.lapm_frames.specs.declared.arrived.Arrived.{Arrived}
use Rattle.link_account.specs.declared.setup.Setup.{Setup}
use Rattle.link_account.specs.Account.{Account, fresh, is_connected, wants, piece_size, after_offer, after_given}
use Rattle.link_account.specs.Hear.{hear}
use Rattle.link_account.specs.Speak.{Said, speak}
use Rattle.link_run.specs.End.{piece_at, delivered}
use Rattle.link_run.specs.Run.{Party, Link, Accounts, Turn, Hears, RunOf}

-- a size is agreed both ways
abbrev pub AreSized : Terms → Type 0
AreSized terms = (1 ≤ terms.len_o) × (1 ≤ terms.len_a)

-- What was offered begins the file, in segments of this size. Once the file has ended it is all of it, and until then the file is no shorter.
pub record IsCut (file : List ℕ) (size : ℕ) (pieces : List (List ℕ)) (ended : Bool) : Type 0 where
  pub begins : concat pieces ≡ take (size * length pieces) file
  pub whole : ended ≡ true → concat pieces ≡ file
  pub more : ended ≡ false → size * length pieces ≤ length file

-- An end was offered its user's file up to some place.
pub record IsOffered (file : List ℕ) (a : Account) : Type 0 where
  pub allowed : IsAllowed a.setup.offer
  pub terms : AreSized a.terms
  pub size : is_connected a.phase ≡ true → 1 ≤ a.outgoing.size
  pub cut : IsCut file a.outgoing.size a.outgoing.pieces a.outgoing.ended

-- Another file is the same as far as the end was offered this one.
pub record SameSoFar (o : Outgoing) (file others : List ℕ) : Type 0 where
  pub front : take (o.size * length o.pieces) others ≡ take (o.size * length o.pieces) file
  pub whole : o.ended ≡ true → others ≡ file

-- the file with this segment in the place of that number, and with nothing behind it where it isn't full
abbrev pub with_segment : ℕ → ℕ → List ℕ → List ℕ → List ℕ
with_segment size n piece file = take (size * n) file ++ (piece ++ (if nat_lt (length piece) size then [] else drop (size * n + size) file))

-- An end that is offered what was read in the place of the segment that it wants: the file is then known to have it there.
pub record OffersNext (file : List ℕ) (a : Account) (n : ℕ) (piece : List ℕ) : Type 0 where
  pub some : 1 ≤ piece_size a
  pub number : n ≡ length a.outgoing.pieces
  pub within : piece_size a * n ≤ length file
  pub same : SameSoFar a.outgoing file (with_segment (piece_size a) n piece file)
  pub offered : IsOffered (with_segment (piece_size a) n piece file) (after_offer piece a)

-- an end begins with nothing offered, and neither hearing nor speaking changes what was; nor do they change which breaks it took
abbrev pub BeginsUnoffered : Type 0
BeginsUnoffered = (file : List ℕ) (setup : Setup) → IsAllowed setup.offer → IsOffered file (fresh setup)

pub record StaysOffered (file : List ℕ) (a b : Account) : Type 0 where
  pub offered : IsOffered file b
  pub breaks : b.own_breaks.lengths ≡ a.own_breaks.lengths

abbrev pub HearingStaysOffered : Type 0
HearingStaysOffered = (file : List ℕ) (turn : ℕ) (arrived : Arrived) (a b : Account) → IsOffered file a → hear turn arrived a ≡ Ok b
    → StaysOffered file a b

abbrev pub SpeakingStaysOffered : Type 0
SpeakingStaysOffered = (file : List ℕ) (turn : ℕ) (release : Bool) (a : Account) (said : Said) → IsOffered file a
    → speak turn release a ≡ Ok said → StaysOffered file a said.account

-- A segment that is wanted may be any, up to the agreed size.
abbrev pub OffersWhatIsRead : Type 0
OffersWhatIsRead = (file : List ℕ) (a : Account) (n : ℕ) (piece : List ℕ) → IsOffered file a → wants a ≡ Some n
    → length piece ≤ piece_size a → OffersNext file a n piece

-- each file that has that segment there has it in its place, and is the same as before up to there
pub record TellsSegment (file others : List ℕ) (a : Account) (n : ℕ) (piece : List ℕ) : Type 0 where
  pub segment : piece_at (piece_size a) others n ≡ piece
  pub same : SameSoFar a.outgoing file others

abbrev pub SegmentsAreTold : Type 0
SegmentsAreTold = (file others : List ℕ) (a : Account) (n : ℕ) (piece : List ℕ) → IsOffered file a → wants a ≡ Some n
    → length piece ≤ piece_size a
    → SameSoFar (after_offer piece a).outgoing (with_segment (piece_size a) n piece file) others
    → TellsSegment file others a n piece

-- What was read is the file's own where it stands there.
abbrev pub OwnSegmentsStay : Type 0
OwnSegmentsStay = (size n : ℕ) (file : List ℕ) → with_segment size n (piece_at size file n) file ≡ file

-- a party with another file
abbrev pub with_file : List ℕ → Party → Party
with_file file p = record p { user = record p.user { file = file } }

-- both parties of a link
abbrev pub with_files : Both (List ℕ) → Link → Link
with_files files link = record { orig = with_file files.orig link.orig; answ = with_file files.answ link.answ }

-- Files count as far as they were read: a run is one of any others that are the same up to there.
abbrev pub RunsByWhatWasRead : Type 0
RunsByWhatWasRead = (link : Link) (files others : Both (List ℕ)) (ts : List Turn) (ends : Accounts)
    → ((role : Role) → IsAllowed (of role link).setup.offer)
    → RunOf (with_files files link) ts ends
    → ((role : Role) → SameSoFar (of role ends).outgoing (of role files) (of role others))
    → RunOf (with_files others link) ts ends

-- The same, by what is known in the middle of the next turn: once both ends have heard and what they took is handed over.
abbrev pub RunsByWhatIsReadOn : Type 0
RunsByWhatIsReadOn = (link : Link) (files others : Both (List ℕ)) (ts : List Turn) (ends : Accounts) (t : Turn) (mid : Accounts)
    → ((role : Role) → IsAllowed (of role link).setup.offer)
    → RunOf (with_files files link) ts ends → Hears (length ts) ends t mid
    → ((role : Role) → SameSoFar (after_given (delivered (of role mid))).outgoing (of role files) (of role others))
    → RunOf (with_files others link) ts ends
