use Rattle.exact_decoder.proofs.Names.{◌≡◌, ℕ, ◌-◌, ◌*◌, take, drop, ◌∷◌, ◌++◌, [], List, length, length-append, replicate, refl, ◌∙◌, sym}
use Rattle.exact_decoder.proofs.Names.{ap, arith, take-map, All-push, All-same, All-take, choices_of, columns_in, from_newest, IsColumn}
use Rattle.exact_decoder.proofs.Names.{AreColumns, Column}
use Rattle.std.proofs.lemmas.List.{map-append, drop-map}
use Rattle.std.proofs.lemmas.List.Elements.{All-drop}
use Rattle.exact_decoder.proofs.Rings.{columns-long}
use Rattle.exact_decoder.proofs.Walking.{zero-column}
use Rattle.exact_decoder.proofs.columns.Columns.new.Goals as goal

columns-push : {size states : ℕ} (labels : ℕ) (items : List (Column size)) (column : Column size) → AreColumns states labels
    (columns_in items)
    → IsColumn states labels (choices_of column) → AreColumns states labels (columns_in (items ++ column ∷ []))
columns-push {size} {states} labels items column h here =
    All-same (IsColumn states labels) (columns_in (items ++ column ∷ [])) (columns_in items ++ choices_of column ∷ [])
    (map-append choices_of items (column ∷ [])) (All-push (IsColumn states labels) (columns_in items) (choices_of column) h here)

pub loop-init : goal.loop-init
loop-init g c = rw c.in_ok-items.ensures.items (refl, λ labels low k d less. absurd (omega (arith, less)))

pub loop-preserved : goal.loop-preserved
loop-preserved g c =
    let items = c.loop.items.items in
    let zeros = replicate g.row.STATES 0 in
    let column : Column g.row.STATES = record { before = zeros; labels = zeros } in
    rw c.in_ok-push.ensures.items (
      omega (arith, c.loop.invariant.0, length-append {A = Column g.row.STATES} items (column ∷ [])),
      λ labels low. columns-push labels items column (c.loop.invariant.1 labels low) (zero-column g.row.STATES labels low),
    )

pub returns-clause-long : goal.returns-clause-long
returns-clause-long g c =
    let items = c.loop.items.items in
    let all : length items ≡ 4 * c.args.count = c.loop.invariant.0 ∙ omega (arith, c.loop-test.false, c.loop.auto.counter-end) in
    columns-long items (4 * c.args.count - c.args.count) c.args.count _ (omega (arith, all)) refl

pub returns-clause-columns : goal.returns-clause-columns
returns-clause-columns g c = λ labels low.
    let items = c.loop.items.items in
    let newest = 4 * c.args.count - c.args.count in
    let fit = IsColumn g.row.STATES labels in
    All-same fit (columns_in (from_newest newest c.args.count items)) (take c.args.count (drop newest (columns_in items)))
    (sym (ap (take c.args.count) (drop-map choices_of newest items) ∙ take-map choices_of c.args.count (drop newest items)))
    (All-take fit c.args.count (drop newest (columns_in items)) (All-drop fit newest (columns_in items) (c.loop.invariant.1 labels low)))
