use Rattle.command_base.proofs.Names.{◌≡◌, ◌≢◌, ◌≤◌, ◌<◌, ◌+◌, ◌-◌, ◌∙◌, ℕ, List, take, vec_len, sym, ap, subst, arith, take_all}
use Rattle.command_base.proofs.Names.{OnlyReads-trans, CountsStand-refl, CountsStand-trans, FolderState, octets_at}
use Rattle.std.proofs.Common.{Vec, Global}
use Rattle.std.proofs.lemmas.Result.{err_from_is_err_and}
use Rattle.outside_calls.proofs.Steps.{OnlyReads-refl}
use Rattle.command_base.proofs.Jobs.{hold-earlier}
use Rattle.command_base.proofs.Reading.{IsHeld, held-more, held-to-limit, held-to-end}
use Rattle.command_base.proofs.input.read_file.Goals.{else-loop-folder-test, then-loop-folder-test+in_ok-read_more+then-branch-eq0}
use Rattle.command_base.proofs.input.read_file.Goals as goal

none-within : (limit : ℕ) → 0 ≤ limit
none-within limit = omega arith

still-within : (len later count limit : ℕ) → later ≡ len + count → len + count ≤ limit → later ≤ limit
still-within len later count limit is few = omega arith

less-room : (len later count limit : ℕ) → later ≡ len + count → len + count ≤ limit → count ≢ 0 → limit - later < limit - len
less-room len later count limit is few some = omega arith

pub loop-folder-preserved : goal.loop-folder-preserved
loop-folder-preserved g c =
    let old = c.loop-folder.invariant in
    let new = c.in_ok-read_more.ensures in
    record {
      octets = λ told. held-more (g.F.Folder.state c.args.folder.now) (g.F.Folder.state c.loop-folder.folder) c.args.name.now _ _ _ _
          c.in_ok-read_more.field-0 old.reads.goes_on (old.reads.names c.args.name.now) told (old.octets told) new.more
          (λ t. (new.octets t).0);
      bound = still-within _ _ c.in_ok-read_more.field-0 c.args.limit new.more new.bound;
      reads = OnlyReads-trans old.reads new.reads;
      stand = CountsStand-trans old.stand new.stand;
    }

pub loop-folder-init : goal.loop-folder-init
loop-folder-init g c = record {
  octets = λ told. c.new-file.ensures.items
      ∙ sym (ap (λ n. take n (octets_at (g.F.Folder.state c.args.folder.now) c.args.name.now)) c.new-file.ensures.len);
  bound = subst (λ n. n ≤ c.args.limit) (sym c.new-file.ensures.len) (none-within c.args.limit);
  reads = OnlyReads-refl (g.F.Folder.state c.args.folder.now);
  stand = CountsStand-refl (g.F.Folder.state c.args.folder.now);
}

pub returns-in_err-read_more : goal.returns-in_err-read_more
returns-in_err-read_more g c =
    let p = err_from_is_err_and c.from_residual.result c.from_residual.ensures.1 in
    rw (p.1, p.2) (record {
      octets = tt;
      whole = tt;
      bound = tt;
      reads = OnlyReads-trans c.loop-folder.invariant.reads c.read_more.ensures.reads;
      fault = hold-earlier (g.F.Folder.state c.args.folder.now) (g.F.Folder.state c.loop-folder.folder)
          (g.F.Folder.state c.read_more.new.folder) c.args.name.now c.in_err-read_more.field-0.0 c.loop-folder.invariant.stand
          c.in_err-read_more.ensures.fault;
      stand = tt;
    })

pub returns : goal.returns
returns g c =
    let start : FolderState = g.F.Folder.state c.args.folder.now in
    let name : List ℕ = c.args.name.now in
    let old = c.loop-folder.invariant in
    let all : IsHeld start (g.F.Folder.state c.loop-folder-test.folder) name c.args.limit c.loop-folder-test.file.items
    (vec_len c.loop-folder-test.file) = elim c.loop-folder-test.branch [
      | else-loop-folder-test w ↦
          subst (λ (v : Vec ℕ Global). IsHeld start (g.F.Folder.state c.loop-folder-test.folder) name c.args.limit v.items (vec_len v))
          (sym w.file-is) (subst (λ (f : g.row.F.Denot). IsHeld start (g.F.Folder.state f) name c.args.limit c.loop-folder.file.items
          (vec_len c.loop-folder.file)) (sym w.folder-is)
          (held-to-limit start (g.F.Folder.state c.loop-folder.folder) name c.args.limit c.loop-folder.file.items
          (vec_len c.loop-folder.file) old.reads old.stand old.octets old.bound
          (subst (λ n. c.args.limit ≤ n) c.len.ensures w.loop-folder-test.false)))
      | then-loop-folder-test+in_ok-read_more+then-branch-eq0 w ↦
          subst (λ (v : Vec ℕ Global). IsHeld start (g.F.Folder.state c.loop-folder-test.folder) name c.args.limit v.items (vec_len v))
          (sym w.file-is) (subst (λ (f : g.row.F.Denot). IsHeld start (g.F.Folder.state f) name c.args.limit w.read_more.new.file.items
          (vec_len w.read_more.new.file)) (sym w.folder-is)
          (held-to-end start (g.F.Folder.state c.loop-folder.folder) (g.F.Folder.state w.read_more.new.folder) name
          c.loop-folder.file.items w.read_more.new.file.items c.args.limit (vec_len c.loop-folder.file) (vec_len w.read_more.new.file)
          w.in_ok-read_more.field-0 old.reads old.stand old.octets w.in_ok-read_more.ensures.reads w.in_ok-read_more.ensures.stand
          w.in_ok-read_more.ensures.more w.in_ok-read_more.ensures.bound w.if-branch-eq0.true w.in_ok-read_more.ensures.octets))
    ] in
    record {
      octets = all.octets;
      whole = λ told few. all.octets told ∙ take_all c.args.limit (octets_at start name) few;
      bound = all.bound;
      reads = all.reads;
      fault = tt;
      stand = all.stand;
    }

pub loop-folder-smaller : goal.loop-folder-smaller
loop-folder-smaller g c =
    less-room _ _ c.in_ok-read_more.field-0 c.args.limit c.in_ok-read_more.ensures.more c.in_ok-read_more.ensures.bound
    c.if-branch-eq0.false
