use Rattle.signal_commands.proofs.Names.{◌≡◌, ◌∙◌, ◌<◌, ◌≤◌, ◌+◌, ◌++◌, ◌∷◌, ℕ, List, [], length, take, sym, ap, subst, arith, append_assoc}
use Rattle.signal_commands.proofs.Names.{take_more, take_all, low_bits, OctetsJoined, LabelsJoined}
use Rattle.std.proofs.Common.{get_or}
use Rattle.std.proofs.Common.{option_to_list}
use Rattle.signal_commands.proofs.decode.playback.read_tail.Goals as goal

pub loop-label-preserved : goal.loop-label-preserved
loop-label-preserved g c =
    let i = c.loop-label.invariant in
    let place : ℕ = c.loop-label.label-index in
    let labels : List ℕ = c.args.labels.now in
    let within : place < length labels = omega arith in
    let given : List ℕ = option_to_list c.push-octet.result in
    record {
      room = omega (arith, i.room, c.push-octet.ensures.count, c.put.ensures.room);
      read = λ mode before octets joined.
          let so_far = i.read mode before octets joined in
          let all : List ℕ = octets ++ c.loop-label.octets in
          let front : (before ++ take place labels) ++ get_or labels place 0 ∷ [] ≡ before ++ take (place + 1) labels =
          append_assoc before (take place labels) (get_or labels place 0 ∷ [])
          ∙ ap (λ (xs : List ℕ). before ++ xs) (sym (take_more labels place 0 within)) in
          let behind : all ++ given ≡ octets ++ c.put.new.octets =
          append_assoc octets c.loop-label.octets given ∙ ap (λ (xs : List ℕ). octets ++ xs) (sym c.put.ensures.octets) in
          let next : OctetsJoined c.push-octet.new.self (so_far.bits ++ low_bits g.D.Demodulate.BITS c.push-number.result) (all ++ given) =
          subst (λ (count : ℕ). OctetsJoined c.push-octet.new.self (so_far.bits ++ low_bits count c.push-number.result) (all ++ given))
          c.BITS.ensures (c.push-octet.ensures.joined so_far.bits all so_far.joined) in
          subst (λ (p : List ℕ × List ℕ). LabelsJoined (g.D.Demodulate.reads mode) c.push-number.new.self c.push-octet.new.self p.0 p.1)
          (λ i. (front i, behind i)) (record {
            bits = so_far.bits ++ low_bits g.D.Demodulate.BITS c.push-number.result;
            read = c.push-number.ensures.stands mode (before ++ take place labels) so_far.bits so_far.read;
            joined = next;
          });
    }

pub returns : goal.returns
returns g c mode before octets joined =
    let l = c.loop-label in
    let all : length c.args.labels.now ≤ l.label-index = omega arith in (
      l.demodulator,
      l.joiner,
      subst (λ (xs : List ℕ). LabelsJoined (g.D.Demodulate.reads mode) l.demodulator l.joiner (before ++ xs) (octets ++ l.octets))
          (take_all l.label-index c.args.labels.now all) (l.invariant.read mode before octets joined),
    )
