-- Whatever samples follow, the octets that were given begin those that are given then.
use Rattle.signal_commands.proofs.Names.{◌≡◌, ◌∙◌, ℕ, ◌*◌, ◌/◌, ◌<◌, ◌≤◌, Bool, List, ◌++◌, length, take, drop, refl, sym, ap, subst, arith}
use Rattle.signal_commands.proofs.Names.{append_assoc, take-append_seam, flat_map-append, take-append-drop, length-take, stays-prefix}
use Rattle.signal_commands.proofs.Names.{some-released, IsReleased, octet_bits, bits_of, descrambled, descrambles, Rate, Descrambles}
use Rattle.signal_commands.proofs.Names.{IsPrefixOf, AreWholeOctets, Carries, trellis_at, line_at, Sample}
use Rattle.std.proofs.lemmas.List.{length-drop}
use Rattle.std.proofs.lemmas.List.Elements.{All-append}
use Rattle.frame_check.specs.Bits.{octets_of}
use Rattle.frame_check.proofs.BitLists.{bits_of-octets_of, octets_of-are_octets}
use Rattle.scramblers.proofs.Readings.{Descrambles_once, Descrambles_from_Scrambles, Scrambles_from_Descrambles, Scrambles-take}
use Rattle.signal_commands.proofs.Decoding.Rates.{code_at, line-longer}

-- all the whole octets of some bits
whole-octets : (bits : List Bool) → AreWholeOctets bits (octets_of (length bits / 8) (take (8 * (length bits / 8)) bits))
whole-octets bits =
    let count : ℕ = length bits / 8 in
    let front : List Bool = take (8 * count) bits in
    let long : length front ≡ 8 * count = length-take (8 * count) bits ∙ omega arith in
    let eq : bits_of (octets_of count front) ≡ front = bits_of-octets_of count front long in
    record {
      rest = drop (8 * count) bits;
      bits_are = sym (take-append-drop (8 * count) bits) ∙ ap (λ xs. xs ++ drop (8 * count) bits) (sym eq);
      few = rw (length-drop (8 * count) bits) (omega arith);
      small = octets_of-are_octets count front;
    }

-- whole octets go on with those of the bits that follow
record MoreOctets (octets : List ℕ) (bits : List Bool) : Type 0 where
  pub more : List ℕ
  pub whole : AreWholeOctets bits (octets ++ more)

octets-more : (octets : List ℕ) (bits more : List Bool) → AreWholeOctets bits octets → MoreOctets octets (bits ++ more)
octets-more octets bits more h =
    let w = whole-octets (h.rest ++ more) in
    let new : List ℕ = octets_of (length (h.rest ++ more) / 8) (take (8 * (length (h.rest ++ more) / 8)) (h.rest ++ more)) in
    record {
      more = new;
      whole = record {
        rest = w.rest;
        bits_are = ap (λ xs. xs ++ more) h.bits_are ∙ append_assoc (bits_of octets) h.rest more ∙ ap (λ xs. bits_of octets ++ xs) w.bits_are
            ∙ sym (append_assoc (bits_of octets) (bits_of new) w.rest)
            ∙ ap (λ xs. xs ++ w.rest) (sym (flat_map-append octet_bits octets new));
        few = w.few;
        small = All-append (λ octet. octet < 256) octets new h.small w.small;
      };
    }

-- what labels and those behind them carry
pub record LongerGives (rate : Rate) (tap : ℕ) (samples : List Sample) (octets : List ℕ) : Type 0 where
  pub labels : List ℕ
  pub released : IsReleased (trellis_at rate) samples labels
  pub all : List ℕ
  pub carried : Carries rate tap labels all
  pub front : IsPrefixOf octets all

-- the bits of a line go on with those of what follows
pub reads-on : (tap : ℕ) (line more bits : List Bool) → 1 ≤ tap → Descrambles tap line bits
    → (rest : List Bool) × Descrambles tap (line ++ more) (bits ++ rest)
reads-on tap line more bits low h =
    let whole : List Bool = line ++ more in
    let all : List Bool = descrambled tap whole in
    let n : ℕ = length line in
    let part : Descrambles tap (take n whole) (take n all) =
    Descrambles_from_Scrambles tap (take n all) (take n whole)
    (Scrambles-take tap n all whole low (Scrambles_from_Descrambles tap all whole (descrambles tap whole))) in
    let first : Descrambles tap line (take n all) =
    subst (λ (xs : List Bool). Descrambles tap xs (take n all)) (take-append_seam line more) part in
    let same : take n all ≡ bits = Descrambles_once tap line (take n all) bits first h in
    let split : all ≡ bits ++ drop n all = sym (take-append-drop n all) ∙ ap (λ (xs : List Bool). xs ++ drop n all) same in
    (drop n all, subst (Descrambles tap whole) split (descrambles tap whole))

carries-more : (rate : Rate) (tap : ℕ) (labels rest octets : List ℕ) → 1 ≤ tap → Carries rate tap labels octets
    → (more : List ℕ) × Carries rate tap (labels ++ rest) (octets ++ more)
carries-more rate tap labels rest octets low c =
    let l = line-longer rate labels rest in
    let b = reads-on tap (line_at rate labels) l.0 c.bits low c.read in
    let m = octets-more octets c.bits b.0 c.whole in
    (m.more, record { bits = c.bits ++ b.0; read = subst (λ xs. Descrambles tap xs (c.bits ++ b.0)) (sym l.1) b.1; whole = m.whole })

pub longer : (rate : Rate) (tap : ℕ) (samples more : List Sample) (labels octets : List ℕ) → 1 ≤ tap
    → IsReleased (trellis_at rate) samples labels → Carries rate tap labels octets → LongerGives rate tap (samples ++ more) octets
longer rate tap samples more labels octets low r c =
    let code = code_at rate in
    let all = some-released (trellis_at rate) code.states code.labels code.steps (samples ++ more) code.laws in
    let stays = stays-prefix (trellis_at rate) samples more labels all.0 r all.1 in
    let m = carries-more rate tap labels stays.0 octets low c in
    record {
      labels = all.0;
      released = all.1;
      all = octets ++ m.0;
      carried = subst (λ (xs : List ℕ). Carries rate tap xs (octets ++ m.0)) stays.1 m.1;
      front = (m.0, refl);
    }
