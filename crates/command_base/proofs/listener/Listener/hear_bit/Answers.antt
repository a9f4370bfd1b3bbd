use Rattle.command_base.proofs.Names.{◌∙◌, ◌+◌, Bool, List, [], ◌∷◌, ◌++◌, Ok, refl, sym, subst, Listening, Hears, FolderState}
use Rattle.command_base.proofs.Saying.{on-err-map, on-ok-map}
use Rattle.command_base.specs.Heard.{SaysPiece, PartlySaysPiece}
use Rattle.command_base.proofs.Hearing.{FoundThere, found-there, pieces-same, hears-quiet, heard-some, left-some}
use Rattle.command_base.proofs.listener.Listener.hear_bit.Goals as goal

pub returns-in-None-clause-hears : goal.returns-in-None-clause-hears
returns-in-None-clause-hears g c =
    let now : FolderState = g.F.Folder.state c.args.folder.now in
    let old : Listening = record { deframer = c.self.inside.deframer; sender = c.self.inside.sender; pieces = c.self.inside.pieces } in
    let next : Listening = record { deframer = c.push.new.self; sender = c.self.inside.sender; pieces = c.self.inside.pieces } in
    subst (λ (l : Listening). Hears now now l next (c.args.bit ∷ []) (Ok tt)) c.self.view_is
    (hears-quiet now old next (c.args.bit ∷ []) c.in-None.ensures.stands
    (λ past stands. pieces-same past c.args.bit (c.in-None.ensures.value past stands)) refl refl)

pub returns-in-Some-clause-hears : goal.returns-in-Some-clause-hears
returns-in-Some-clause-hears g c =
    let now : FolderState = g.F.Folder.state c.args.folder.now in let new : FolderState = g.F.Folder.state c.say_piece.new.folder in
    let old : Listening = record { deframer = c.self.inside.deframer; sender = c.self.inside.sender; pieces = c.self.inside.pieces } in
    let next : Listening = record { deframer = c.push.new.self; sender = c.self.inside.sender; pieces = c.self.inside.pieces + 1 } in
    let hears : Hears now new old next (c.args.bit ∷ []) c.say_piece.result = record {
      ok = λ start bits h.
          let all : List Bool = bits ++ c.args.bit ∷ [] in
          let stands = c.in-Some.ensures.stands bits h.stands in
          let f : FoundThere all c.in-Some.piece = found-there all c.in-Some.piece (c.in-Some.ensures.value bits h.stands) in
          on-ok-map {P = SaysPiece now new old.sender f.found} c.say_piece.result
          (λ s. heard-some start now new old next bits c.args.bit c.in-Some.piece s.line h f s.is_line stands refl refl s.said)
          (c.say_piece.ensures.ok f.found f.piece_is (f.octets_are ∙ sym (c.whole.ensures.value all stands)));
      left = λ start bits h.
          let all : List Bool = bits ++ c.args.bit ∷ [] in
          let stands = c.in-Some.ensures.stands bits h.stands in
          let f : FoundThere all c.in-Some.piece = found-there all c.in-Some.piece (c.in-Some.ensures.value bits h.stands) in
          on-err-map {P = PartlySaysPiece now new old.sender f.found} c.say_piece.result
          (λ s. left-some start now new old next bits c.args.bit c.in-Some.piece s.line h f s.is_line stands refl refl s.said)
          (c.say_piece.ensures.err f.found f.piece_is (f.octets_are ∙ sym (c.whole.ensures.value all stands)));
      only = c.say_piece.ensures.only;
      fails = c.say_piece.ensures.fails;
      stand = c.say_piece.ensures.stand;
      sender = refl;
    } in
    subst (λ (l : Listening). Hears now new l next (c.args.bit ∷ []) c.say_piece.result) c.self.view_is hears
