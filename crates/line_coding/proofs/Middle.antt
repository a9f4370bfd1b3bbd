-- What is picked up.
use Rattle.line_coding.proofs.Names.{◌≡◌, ◌∙◌, ◌+◌, ◌*◌, Bool, List, map, drop, sym, ap, subst, flat_map, low_bits, line_of, line_behind}
use Rattle.line_coding.proofs.Names.{Descrambles_once, Descrambles, turned_label, quads_of}
use Rattle.line_coding.specs.Laws.{PickedUpOnce, TurnedAreAlike, MiddleIsSent}
use Rattle.line_coding.proofs.Quads.{quads-turned, quads-drop, fours-drop}
use Rattle.line_coding.proofs.Late.{late}

pub picked_up_once : PickedUpOnce
picked_up_once tap labels bits other h k =
    h.bits_are ∙ ap (drop 23) (Descrambles_once tap (line_behind labels) h.all k.all h.descrambled k.descrambled) ∙ sym k.bits_are

pub turned_are_alike : TurnedAreAlike
turned_are_alike tap labels bits other h k =
    let same : line_behind (map turned_label labels) ≡ line_behind labels = ap (flat_map (low_bits 4)) (quads-turned labels) in
    let again : Descrambles tap (line_behind labels) k.all = subst (λ (xs : List Bool). Descrambles tap xs k.all) same k.descrambled in
    h.bits_are ∙ ap (drop 23) (Descrambles_once tap (line_behind labels) h.all k.all h.descrambled again) ∙ sym k.bits_are

pub middle_is_sent : MiddleIsSent
middle_is_sent tap n labels sent bits high whole h =
    let same : line_behind (drop n labels) ≡ drop (4 * (n + 1)) (line_of labels) =
    ap (flat_map (low_bits 4)) (quads-drop labels n) ∙ fours-drop (n + 1) (quads_of labels) in
    let part : Descrambles tap (drop (4 * (n + 1)) (line_of labels)) h.all =
    subst (λ (xs : List Bool). Descrambles tap xs h.all) same h.descrambled in
    h.bits_are ∙ late tap (4 * (n + 1)) (line_of labels) h.all sent high whole part
