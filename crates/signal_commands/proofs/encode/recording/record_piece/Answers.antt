use Rattle.signal_commands.proofs.Names.{ℕ, List, [], ◌∷◌, ◌++◌, ◌∙◌, length, slice_index, take, sym, ap, subst, arith, append-nil}
use Rattle.signal_commands.proofs.Names.{append_assoc, take_more, take_all, RecorderStands}
use Rattle.signal_commands.proofs.encode.recording.record_piece.Goals as goal

pub loop-octet-init : goal.loop-octet-init
loop-octet-init c = record {
  room = omega (arith, ap (λ (xs : List ℕ). length xs) c.clear.ensures);
  stands = λ rate mode octets before h.
      subst (λ (xs : List ℕ). RecorderStands rate mode c.args.recorder.now (octets ++ []) (before ++ xs)) (sym c.clear.ensures)
      (subst (λ (xs : List ℕ). RecorderStands rate mode c.args.recorder.now xs (before ++ [])) (sym (append-nil octets))
      (subst (λ (xs : List ℕ). RecorderStands rate mode c.args.recorder.now octets xs) (sym (append-nil before)) h));
}

pub loop-octet-preserved : goal.loop-octet-preserved
loop-octet-preserved c =
    let i : ℕ = c.loop-octet.octet-index in
    let piece : List ℕ = c.args.piece.now in
    record {
      room = omega (arith, c.loop-octet.invariant.room, c.put.ensures.room);
      stands = λ rate mode octets before h. subst (λ (xs : List ℕ). RecorderStands rate mode c.put.new.self xs (before ++ c.put.new.out))
          (append_assoc octets (take i piece) (slice_index piece i ∷ [])
          ∙ ap (λ (xs : List ℕ). octets ++ xs) (sym (take_more piece i 0 c.loop-octet-test.true)))
          (c.put.ensures.stands rate mode (octets ++ take i piece) before (c.loop-octet.invariant.stands rate mode octets before h));
    }

pub returns : goal.returns
returns c rate mode octets before h =
    subst (λ (xs : List ℕ). RecorderStands rate mode c.loop-octet.recorder (octets ++ xs) (before ++ c.loop-octet.recorded))
    (take_all c.loop-octet.octet-index c.args.piece.now c.loop-octet-test.false) (c.loop-octet.invariant.stands rate mode octets before h)
