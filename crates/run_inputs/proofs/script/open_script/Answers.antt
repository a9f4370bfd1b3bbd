use Rattle.run_inputs.proofs.Names.{◌≡◌, ◌≤◌, ◌∙◌, ℕ, List, [], ◌∷◌, length, subst, sym, stop-earlier, told_later, octets-kept}
use Rattle.run_inputs.proofs.Names.{CountsStand-trans, FolderState, octets_at}
use Rattle.outside_calls.proofs.Steps.{OnlyReads-trans}
use Rattle.noise_script.specs.Grammar.{ScriptSpelling, FirstFault, IsFaultOf}
use Rattle.run_inputs.proofs.Looking.{counts-first, script-longer, script-not-held, counts-held}
use Rattle.run_inputs.proofs.script.open_script.Goals as goal

pub returns-in-Err-clause-refused : goal.returns-in-Err-clause-refused
returns-in-Err-clause-refused g c =
    let old : FolderState = g.F.Folder.state c.args.folder.now in
    let new : FolderState = g.F.Folder.state c.within_limit.new.folder in
    script-longer old new c.args.name.now c.args.limit c.args.word c.in-Err.stop c.in-Err.ensures.refused

pub returns-in-Err-clause-counts : goal.returns-in-Err-clause-counts
returns-in-Err-clause-counts g c = λ outputs.
    let old : FolderState = g.F.Folder.state c.args.folder.now in
    let new : FolderState = g.F.Folder.state c.within_limit.new.folder in
    counts-first old new c.args.name.now [] outputs c.args.limit c.args.word c.in-Err.stop c.in-Err.ensures.refused

pub returns-in-Err-read_file-clause-refused : goal.returns-in-Err-read_file-clause-refused
returns-in-Err-read_file-clause-refused g c =
    let old : FolderState = g.F.Folder.state c.args.folder.now in
    let mid : FolderState = g.F.Folder.state c.within_limit.new.folder in
    let new : FolderState = g.F.Folder.state c.read_file.new.folder in
    script-not-held old mid new c.args.name.now c.args.limit c.args.word c.in-Err-read_file.stop c.in-Ok.ensures.within
    c.in-Err-read_file.ensures.fault

pub returns-in-Err-read_file-clause-counts : goal.returns-in-Err-read_file-clause-counts
returns-in-Err-read_file-clause-counts g c = λ outputs.
    let old : FolderState = g.F.Folder.state c.args.folder.now in
    let mid : FolderState = g.F.Folder.state c.within_limit.new.folder in
    let new : FolderState = g.F.Folder.state c.read_file.new.folder in
    stop-earlier old mid new (c.args.name.now ∷ []) outputs c.in-Err-read_file.stop c.in-Ok.ensures.stand
    (counts-held mid new c.args.name.now outputs c.in-Err-read_file.stop c.in-Err-read_file.ensures.fault)

pub returns-in-Ok-read_script-clause-opened : goal.returns-in-Ok-read_script-clause-opened
returns-in-Ok-read_script-clause-opened g c = record {
  within = c.in-Ok.ensures.within;
  octets = c.in-Ok.ensures.octets;
  spelled = λ told.
      let old : FolderState = g.F.Folder.state c.args.folder.now in
      let mid : FolderState = g.F.Folder.state c.within_limit.new.folder in
      let kept : octets_at mid c.args.name.now ≡ octets_at old c.args.name.now =
      octets-kept old mid c.args.name.now (c.in-Ok.ensures.reads.names c.args.name.now) told in
      let few = subst (λ (octets : List ℕ). length octets ≤ c.args.limit) (sym kept) (c.in-Ok.ensures.within told) in
      let read = c.in-Ok-read_file.ensures.whole (told_later c.in-Ok.ensures.reads.goes_on c.args.name.now told) few in
      subst (λ (text : List ℕ). ScriptSpelling text c.in-Ok-read_script.script) (c.deref.ensures.value ∙ read ∙ kept)
      c.in-Ok-read_script.ensures.ok;
}

pub returns-in-Ok-read_script-clause-reads : goal.returns-in-Ok-read_script-clause-reads
returns-in-Ok-read_script-clause-reads g c = OnlyReads-trans c.in-Ok.ensures.reads c.in-Ok-read_file.ensures.reads

pub returns-in-Ok-read_script-clause-counts : goal.returns-in-Ok-read_script-clause-counts
returns-in-Ok-read_script-clause-counts g c = λ outputs. CountsStand-trans c.in-Ok.ensures.stand c.in-Ok-read_file.ensures.stand

pub returns-in-Err-Line-clause-reads : goal.returns-in-Err-Line-clause-reads
returns-in-Err-Line-clause-reads g c = OnlyReads-trans c.in-Ok.ensures.reads c.in-Ok-read_file.ensures.reads

pub returns-in-Err-Line-clause-counts : goal.returns-in-Err-Line-clause-counts
returns-in-Err-Line-clause-counts g c = λ outputs. (tt, CountsStand-trans c.in-Ok.ensures.stand c.in-Ok-read_file.ensures.stand)

pub returns-clause-reads : goal.returns-clause-reads
returns-clause-reads g c = OnlyReads-trans c.in-Ok.ensures.reads c.in-Ok-read_file.ensures.reads

pub returns-clause-counts : goal.returns-clause-counts
returns-clause-counts g c = λ outputs. (CountsStand-trans c.in-Ok.ensures.stand c.in-Ok-read_file.ensures.stand).faults

pub returns-in-Err-Line-clause-refused : goal.returns-in-Err-Line-clause-refused
returns-in-Err-Line-clause-refused g c = record {
  within = c.in-Ok.ensures.within;
  first = λ told.
      let old : FolderState = g.F.Folder.state c.args.folder.now in
      let mid : FolderState = g.F.Folder.state c.within_limit.new.folder in
      let kept : octets_at mid c.args.name.now ≡ octets_at old c.args.name.now =
      octets-kept old mid c.args.name.now (c.in-Ok.ensures.reads.names c.args.name.now) told in
      let few = subst (λ (octets : List ℕ). length octets ≤ c.args.limit) (sym kept) (c.in-Ok.ensures.within told) in
      let read = c.in-Ok-read_file.ensures.whole (told_later c.in-Ok.ensures.reads.goes_on c.args.name.now told) few in
      subst (λ (text : List ℕ). FirstFault text c.in-Err-Line.line c.in-Err-Line.cause) (c.deref.ensures.value ∙ read ∙ kept)
      (subst (IsFaultOf c.deref.result.now) c.in-Err-Line.field-0-is c.in-Err-Line.ensures.fault);
}

pub returns-clause-refused : goal.returns-clause-refused
returns-clause-refused g c = c.in-Ok.ensures.within
