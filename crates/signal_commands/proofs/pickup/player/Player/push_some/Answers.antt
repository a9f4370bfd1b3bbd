use Rattle.signal_commands.proofs.Names.{◌∙◌, ◌++◌, List, take, refl, sym, subst, heard_of, FolderState, Playing, playing_of, Plays, Sample}
use Rattle.signal_commands.proofs.PickingUp.Playings.{plays-pushed, says-all, loses-line}
use Rattle.signal_commands.proofs.pickup.player.Player.push_some.Goals as goal

pub returns-in-Err-clause-err : goal.returns-in-Err-clause-err
returns-in-Err-clause-err g c start past h =
    let old : FolderState = g.F.Folder.state c.args.folder.now in
    let pushed = c.push_some-pushed.result in
    let samples : List Sample = c.args.samples.now in
    let inside : Plays start old c.args.mode (playing_of c.self.inside.reader c.self.inside.listener) past =
    subst (λ (p : Playing). Plays start old c.args.mode p past) (sym c.self.view_is) h in
    says-all start (g.F.Folder.state c.hear_released.new.folder) c.args.mode past samples pushed
    (c.in-Err.ensures.err start c.args.mode (past ++ heard_of pushed samples)
    (plays-pushed start old c.args.mode c.self.inside.reader c.push_some-pushed.new.self c.self.inside.listener past
    (past ++ heard_of pushed samples) (c.push_some-pushed.ensures.stands c.args.mode past) inside))

pub returns-in-Ok-pushed-clause-ok : goal.returns-in-Ok-pushed-clause-ok
returns-in-Ok-pushed-clause-ok g c start past h =
    let old : FolderState = g.F.Folder.state c.args.folder.now in
    let more : List Sample = past ++ take c.in-Ok-pushed.heard c.args.samples.now in
    let inside : Plays start old c.args.mode (playing_of c.self.inside.reader c.self.inside.listener) past =
    subst (λ (p : Playing). Plays start old c.args.mode p past) (sym c.self.view_is) h in
    c.in-Ok.ensures.ok start c.args.mode more
    (plays-pushed start old c.args.mode c.self.inside.reader c.push_some-pushed.new.self c.self.inside.listener past more
    (c.in-Ok-pushed.ensures.stands c.args.mode past) inside)

pub returns-in-Err-pushed-clause-err : goal.returns-in-Err-pushed-clause-err
returns-in-Err-pushed-clause-err g c start past h =
    let old : FolderState = g.F.Folder.state c.args.folder.now in
    let new : FolderState = g.F.Folder.state c.hear_released.new.folder in
    let more : List Sample = past ++ c.args.samples.now in
    let inside : Plays start old c.args.mode (playing_of c.self.inside.reader c.self.inside.listener) past =
    subst (λ (p : Playing). Plays start old c.args.mode p past) (sym c.self.view_is) h in
    let plays : Plays start new c.args.mode c.hear_released.new.self more =
    c.in-Ok.ensures.ok start c.args.mode more
    (plays-pushed start old c.args.mode c.self.inside.reader c.push_some-pushed.new.self c.self.inside.listener past more
    (c.in-Err-pushed.ensures.stands c.args.mode past) inside) in (
      c.hearer_of.result,
      c.in-Err-pushed.lost.symbol,
      refl,
      loses-line start new c.args.mode c.hear_released.new.self more c.hearer_of.result c.in-Err-pushed.lost.symbol plays
          c.in-Ok.ensures.taken (c.in-Ok.ensures.lost ∙ c.in-Err-pushed.ensures.answer) c.hearer_of.ensures,
    )
