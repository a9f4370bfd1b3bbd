use Rattle.turn_bound.proofs.Names.{drop, ◌≡◌, ℕ, Bool, ap, Ok, List, [], ◌∷◌, ◌⊎◌, length, arith, ◌<◌, ◌≤◌, zero, suc, length-append}
use Rattle.turn_bound.proofs.Names.{Outgoing, Arrived, wants, hear, Said, speak, Role, of, User, offered_at, offered_times, Link, Accounts}
use Rattle.turn_bound.proofs.Names.{Turn, RunOf, IsWithin}
use Rattle.std.proofs.Common.{take, length-take, length-drop}
use Rattle.turn_bound.proofs.Serving.{served-by}
use Rattle.link_account.proofs.Names.{Account}
use Rattle.link_run.proofs.Speaking.{speaks-pieces}
use Rattle.turn_bound.proofs.Run.{served_account}
use Rattle.turn_bound.proofs.CalmRuns.{said-speaks}

-- the segments and their length, as hearing leaves them
abbrev pub SameCut : Account → Account → Type 0
SameCut a b = (b.outgoing.pieces ≡ []) ⊎ ((b.outgoing.pieces ≡ a.outgoing.pieces) × (b.outgoing.size ≡ a.outgoing.size))

abbrev pub IsSame : Outgoing → Outgoing → Type 0
IsSame o new = (new.pieces ≡ o.pieces) × (new.size ≡ o.size)

cut-hears : (arrived : Arrived) (turn : ℕ) (a mid : Account) → hear turn arrived a ≡ Ok mid → SameCut a mid
cut-hears arrived turn a mid e = grind (arith)

-- Offers: a piece that isn't empty begins within the file.

abbrev pub IsCut : List ℕ → Account → Type 0
IsCut file a = IsWithin file a.outgoing

piece-within : (s k : ℕ) (file : List ℕ) (octet : ℕ) (octets : List ℕ) → take s (drop k file) ≡ octet ∷ octets → (1 ≤ s) × (k < length file)
piece-within s k file octet octets e =
    let one : length (take s (drop k file)) ≡ length (octet ∷ octets) = ap (λ l. length l) e in
    (omega (arith, one, length-take s (drop k file)), omega (arith, one, length-take s (drop k file), length-drop k file))

offer-within : (file : List ℕ) (a : Account) → IsCut file a → IsCut file (offered_at file a (wants a))
offer-within file a h = grind (arith, piece-within, length-append {A = List ℕ})

offers-within : (n : ℕ) (file : List ℕ) (a : Account) → IsCut file a → IsCut file (offered_times n file a)
offers-within zero file a h = h
offers-within (suc n) file a h = offers-within n file (offered_at file a (wants a)) (offer-within file a h)

served-within : (user : User) (turn : ℕ) (released : Bool) (a : Account) → IsCut user.file a
    → IsCut user.file (served_account user turn released a)
served-within user turn released a h = grind (arith, served-by, offers-within)

none-within : (file : List ℕ) (o : Outgoing) → length o.pieces ≡ 0 → IsWithin file o
none-within file o none = record { sized = λ some. absurd (omega (arith, some, none)); last = λ some. absurd (omega (arith, some, none)) }

within-same : (file : List ℕ) (o new : Outgoing) → IsSame o new → IsWithin file o → IsWithin file new
within-same file o new s h = grind (arith)

end-within : (user : User) (turn : ℕ) (arrived : Arrived) (a mid : Account) (released release : Bool) (said : Said)
    → hear turn arrived a ≡ Ok mid → speak turn release (served_account user turn released mid) ≡ Ok said → IsCut user.file a
    → IsCut user.file said.account
end-within user turn arrived a mid released release said hears speaks h =
    let b : Account = served_account user turn released mid in
    within-same user.file b.outgoing said.account.outgoing (speaks-pieces turn release b said speaks)
    (served-within user turn released mid (heard (cut-hears arrived turn a mid hears)))
  where
    heard : SameCut a mid → IsCut user.file mid
    heard x = grind (arith, none-within, within-same)

pub within-run : (link : Link) (ts : List Turn) (ends : Accounts) (role : Role) → RunOf link ts ends
    → IsCut (of role link).user.file (of role ends)
within-run link [] ends role run = grind (arith, none-within)
within-run link (t ∷ ts) ends role (before, run, g) = grind (arith, within-run link ts before role run, said-speaks, end-within)
