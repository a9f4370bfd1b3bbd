use Rattle.line_world.proofs.Cited.{◌∙◌, written, delivered}
use Rattle.line_world.specs.Link.{both_ends}
use Rattle.stations.proofs.Standing.{given-delivered}
use Rattle.line_world.proofs.Serving.{writing-fault, writing-counts}
use Rattle.line_world.proofs.modems.Modems.hand_over.Goals as goal

pub returns-in-Ok-clause-hands : goal.returns-in-Ok-clause-hands
returns-in-Ok-clause-hands g c = λ channel files ts ends heard mid h.
    let delivered-link = c.in-Ok.ensures.stands files mid h.link in
    let given = c.given_breaks.ensures.answer files (both_ends delivered mid) delivered-link in
    record {
      stands = assumption (c.given_breaks.ensures.stands files (both_ends delivered mid) delivered-link);
      orig_given = given.0 ∙ given-delivered mid.orig;
      answ_given = given.1 ∙ given-delivered mid.answ;
      delivered = c.in-Ok.ensures.ok files mid h.link;
    }

pub returns-in-Err-clause-part : goal.returns-in-Err-clause-part
returns-in-Err-clause-part g c = λ channel files ts ends heard mid h. c.in-Err.ensures.err files mid h.link

pub returns-in-Ok-clause-counted : goal.returns-in-Ok-clause-counted
returns-in-Ok-clause-counted g c = λ heard asked h. c.given_breaks.ensures.counted heard asked (c.in-Ok.ensures.counted heard asked h)

pub given_breaks-requires : goal.given_breaks-requires
given_breaks-requires g c = c.in-Ok.ensures.delivered

pub returns-in-Err-clause-counts : goal.returns-in-Err-clause-counts
returns-in-Err-clause-counts g c =
    writing-counts (g.F.Folder.state c.args.folder.now) (g.F.Folder.state c.deliver.new.folder) (written c.args.names.now)
    c.folder_fault.result c.in-Err.fault c.folder_fault.ensures c.in-Err.ensures.cause c.in-Err.ensures.spared

pub returns-in-Err-clause-write : goal.returns-in-Err-clause-write
returns-in-Err-clause-write g c = writing-fault c.folder_fault.result c.in-Err.fault c.folder_fault.ensures

pub deliver-requires : goal.deliver-requires
deliver-requires g c = record { apart = c.requires.apart.0 }
