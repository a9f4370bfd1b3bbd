use Rattle.line_tap.proofs.Cited.{inl, [], ◌∷◌, refl, TapNames, named, outputs_of, silent_in, terms_of, added, AddEach-next, AddPart-next}
use Rattle.line_tap.proofs.Cited.{OnlyPuts-one, OnlyPuts-trans, CountsStand-trans, FolderState, Originator, Answerer}
use Rattle.outside_calls.proofs.Putting.{KeepsEach-writes}
use Rattle.command_base.proofs.Jobs.{write-earlier}
use Rattle.line_tap.proofs.HeardSo.{behind-on}
use Rattle.line_tap.proofs.Causes.{writes-fail, write-among}
use Rattle.line_tap.proofs.tapping.Tap.deliver.Goals as goal

pub returns-in-Err : goal.returns-in-Err
returns-in-Err g c =
    let a : FolderState = g.F.Folder.state c.args.folder.now in
    let b : FolderState = g.F.Folder.state c.deliver.new.folder in
    let n : TapNames = named c.args.names.now in
    record {
      stands = tt;
      ok = tt;
      err = λ x ts heard h. inl (
        c.in-Err.ensures.err _ h.orig.takes,
        KeepsEach-writes a b n.got_o (n.got_a ∷ n.trace ∷ []) c.requires.0.0 c.in-Err.ensures.only,
      );
      orig = tt;
      answ = tt;
      turn = refl;
      at = refl;
      script = refl;
      only =
          OnlyPuts-one (g.F.Folder.state c.args.folder.now) (g.F.Folder.state c.deliver.new.folder) [] n.got_o (n.got_a ∷ n.trace ∷ [])
          c.in-Err.ensures.only;
      stand = tt;
      fails =
          write-among a b [] n.got_o (n.got_a ∷ n.trace ∷ []) c.in-Err.fault
          (writes-fail a b n.got_o c.in-Err.fault c.in-Err.ensures.cause c.in-Err.ensures.spared);
    }

pub returns-in-Ok-deliver : goal.returns-in-Ok-deliver
returns-in-Ok-deliver g c =
    let n : TapNames = named c.args.names.now in
    record {
      stands =
          λ x ts heard h. record {
            behind = behind-on c.args.self.now _ x ts
                (record { script = refl; turn = refl; at = refl; orig = refl; answ = refl; orig_piece = refl; answ_piece = refl }) h.behind;
            hears = h.hears;
            orig = c.in-Ok.ensures.stands (terms_of x) Originator _ _ _ _ h.orig;
            answ = c.in-Ok-deliver.ensures.stands (terms_of x) Answerer _ _ _ _ h.answ;
            lines = h.lines;
          };
      ok = λ x ts heard h. AddEach-next _ _ _ (n.got_o ∷ []) n.got_a (n.trace ∷ []) ((added x ts (silent_in x ts heard) []).got.orig ∷ [])
          (added x ts (silent_in x ts heard) []).got.answ tt c.requires.0 c.in-Ok.ensures.only.goes_on
          (c.in-Ok.ensures.ok _ h.orig.takes, KeepsEach-writes _ _ n.got_o (n.got_a ∷ n.trace ∷ []) c.requires.0.0 c.in-Ok.ensures.only)
          c.in-Ok-deliver.ensures.only (c.in-Ok-deliver.ensures.ok _ h.answ.takes);
      err = tt;
      orig = c.in-Ok.ensures.idle;
      answ = c.in-Ok-deliver.ensures.idle;
      turn = refl;
      at = refl;
      script = refl;
      only =
          OnlyPuts-trans _ _ _ (outputs_of n) (OnlyPuts-one _ _ [] n.got_o (n.got_a ∷ n.trace ∷ []) c.in-Ok.ensures.only)
          (OnlyPuts-one _ _ (n.got_o ∷ []) n.got_a (n.trace ∷ []) c.in-Ok-deliver.ensures.only);
      stand = CountsStand-trans c.in-Ok.ensures.stand c.in-Ok-deliver.ensures.stand;
      fails = tt;
    }

pub returns-in-Err-deliver : goal.returns-in-Err-deliver
returns-in-Err-deliver g c =
    let a : FolderState = g.F.Folder.state c.args.folder.now in
    let b : FolderState = g.F.Folder.state c.deliver.new.folder in
    let d : FolderState = g.F.Folder.state c.deliver-2.new.folder in
    let n : TapNames = named c.args.names.now in
    record {
      stands = tt;
      ok = tt;
      err = λ x ts heard h. AddPart-next a b d (n.got_o ∷ []) n.got_a (n.trace ∷ []) ((added x ts (silent_in x ts heard) []).got.orig ∷ [])
          (added x ts (silent_in x ts heard) []).got.answ tt c.requires.0 c.in-Ok.ensures.only.goes_on
          (c.in-Ok.ensures.ok _ h.orig.takes, KeepsEach-writes a b n.got_o (n.got_a ∷ n.trace ∷ []) c.requires.0.0 c.in-Ok.ensures.only)
          c.in-Err-deliver.ensures.only (c.in-Err-deliver.ensures.err _ h.answ.takes);
      orig = tt;
      answ = tt;
      turn = refl;
      at = refl;
      script = refl;
      only =
          OnlyPuts-trans a b d (outputs_of n) (OnlyPuts-one a b [] n.got_o (n.got_a ∷ n.trace ∷ []) c.in-Ok.ensures.only)
          (OnlyPuts-one b d (n.got_o ∷ []) n.got_a (n.trace ∷ []) c.in-Err-deliver.ensures.only);
      stand = tt;
      fails =
          write-earlier a b d (outputs_of n) c.in-Err-deliver.fault c.in-Ok.ensures.stand
          (write-among b d (n.got_o ∷ []) n.got_a (n.trace ∷ []) c.in-Err-deliver.fault
          (writes-fail b d n.got_a c.in-Err-deliver.fault c.in-Err-deliver.ensures.cause c.in-Err-deliver.ensures.spared));
    }
