use Rattle.stations.proofs.Names.{◌≡◌, ◌⊎◌, inl, inr, ◌-◌, ◌*◌, ◌≤◌, ◌<◌, ◌+◌, List, ℕ, IsTrue, ◌++◌, length, take, drop, arith, ap, ◌∙◌}
use Rattle.stations.proofs.Names.{Result, Ok, Err, IfOk, length-take, length-take-le, piece_at, octets_at, FolderFault, file_at}
use Rattle.outside_calls.specs.Folder.{ReadsFront}
use Rattle.stations.proofs.Offering.{read-segment}
use Rattle.stations.proofs.segment.read_segment.Given.{Over}
use Rattle.stations.proofs.segment.read_segment.Goals.{After-read_at, then-left-from, else-left-from}
use Rattle.stations.proofs.segment.read_segment.Goals as goal

-- the room is the lesser of both
abbrev Rooms : ℕ → ℕ → ℕ → ℕ → Type 0
Rooms room size left from = ((room ≡ left) × (left < from)) ⊎ ((room ≡ size) × (from ≤ left))

in-bounds : (room size left from : ℕ) → from ≡ size → Rooms room size left from → (room ≤ size) × (room ≤ left)
in-bounds room size left from e (inl h) = (omega (arith, e, h.0, h.1), omega (arith, h.0))
in-bounds room size left from e (inr h) = (omega (arith, h.0), omega (arith, e, h.0, h.1))

rooms : (g : Over) (c : After-read_at g)
    → Rooms c.if-left-from.room c.args.size (c.args.limit - c.from.result * c.args.number) c.from-2.result
rooms g c = elim c.if-left-from.branch [
  | then-left-from w ↦ inl (w.room-is, w.if-left-from.true)
  | else-left-from w ↦ inr (w.room-is ∙ w.from-room.ensures, w.if-left-from.false)
]

within-so : (r : Result ℕ FolderFault) (segment : List ℕ) (room size number at limit : ℕ) → at ≡ size * number → at ≤ limit
    → room ≤ limit - at → IfOk r (λ count. count ≤ length (take room segment)) → IfOk r (λ count. size * number + count ≤ limit)
within-so (Ok count) segment room size number at limit e low few h = omega (arith, e, low, few, h, length-take room segment)
within-so (Err fault) segment room size number at limit e low few h = tt

count-so : (r : Result ℕ FolderFault) (segment : List ℕ) (room size : ℕ) → room ≤ size
    → IfOk r (λ count. count ≤ length (take room segment)) → IfOk r (λ count. count ≤ size)
count-so (Ok count) segment room size low h = omega (arith, low, h, length-take room segment)
count-so (Err fault) segment room size low h = tt

-- so it is as the octets are read
bounds : (g : Over) (c : After-read_at g)
    → (c.if-left-from.room ≤ c.args.size) × (c.if-left-from.room ≤ c.args.limit - c.from.result * c.args.number)
bounds g c = in-bounds c.if-left-from.room c.args.size _ c.from-2.result c.from-2.ensures (rooms g c)

pub returns-clause-within : goal.returns-clause-within
returns-clause-within g c =
    let at : ℕ = c.from.result * c.args.number in
    let at-is : at ≡ c.args.size * c.args.number = ap (λ n. n * c.args.number) c.from.ensures in
    within-so c.read_at.result c.args.segment.now c.if-left-from.room c.args.size c.args.number at c.args.limit at-is
    (rw at-is c.requires.within) (bounds g (goal.at.returns-clause-within g c).After-read_at).1 c.read_at.ensures.bound

pub returns-clause-count : goal.returns-clause-count
returns-clause-count g c =
    count-so c.read_at.result c.args.segment.now c.if-left-from.room c.args.size
    (bounds g (goal.at.returns-clause-count g c).After-read_at).0 c.read_at.ensures.bound

pub returns-clause-octets : goal.returns-clause-octets
returns-clause-octets g c = go c.read_at.result c.read_at.ensures.octets
  where
    at : ℕ
    at = c.from.result * c.args.number

    room : ℕ
    room = c.if-left-from.room

    at-is : at ≡ c.args.size * c.args.number
    at-is = ap (λ n. n * c.args.number) c.from.ensures

    low : at ≤ c.args.limit
    low = rw at-is c.requires.within

    small : room ≤ c.args.size
    small = (bounds g (goal.at.returns-clause-octets g c).After-read_at).0

    few : room ≤ c.args.limit - at
    few = (bounds g (goal.at.returns-clause-octets g c).After-read_at).1

    way : (room ≡ c.args.size) ⊎ (room ≡ c.args.limit - at)
    way = elim (rooms g (goal.at.returns-clause-octets g c).After-read_at) [ inl h ↦ inr h.0 | inr h ↦ inl h.0 ]

    wide : length (take room c.args.segment.now) ≡ room
    wide = length-take-le room c.args.segment.now (omega (arith, small, c.requires.size, c.requires.room))

    go : (r : Result ℕ FolderFault)
        → IfOk r (ReadsFront (g.F.Folder.state c.args.folder.now) c.args.name.now at (take room c.args.segment.now) c.read_at.new.buf)
        → IfOk r (λ count. IsTrue ((g.F.Folder.state c.args.folder.now).tells c.args.name.now)
        → take count (c.read_at.new.buf ++ drop room c.args.segment.now) ≡ piece_at c.args.size
        (file_at (g.F.Folder.state c.args.folder.now) c.args.name.now c.args.limit) c.args.number)
    go (Ok count) h = λ told.
        let r = h told in
        read-segment (octets_at (g.F.Folder.state c.args.folder.now) c.args.name.now) (take room c.args.segment.now) c.read_at.new.buf
        (drop room c.args.segment.now) c.args.size c.args.number at c.args.limit room count at-is low small few way wide r.0 r.1
    go (Err fault) h = tt

pub overflow_mul-at : goal.overflow_mul-at
overflow_mul-at g c = let at-is : c.from.result * c.args.number ≡ c.args.size * c.args.number = ap (λ n. n * c.args.number) c.from.ensures
    in
    omega (arith, at-is, c.requires.within, c.requires.limit)

pub overflow_sub-left : goal.overflow_sub-left
overflow_sub-left g c = let at-is : c.from.result * c.args.number ≡ c.args.size * c.args.number = ap (λ n. n * c.args.number) c.from.ensures
    in
    omega (arith, at-is, c.requires.within)
