use Rattle.line_tap.proofs.Cited.{◌≡◌, ◌∙◌, ap, ◌<◌, ◌*◌, ◌++◌, length, take, arith, sym, subst, ℕ, List, Option, take_all, IfNone, Sent}
use Rattle.line_tap.proofs.Cited.{AreFit, signals, ReadsNext, slot_as, IsNext, ReadsSlot, HoldsNext, samples_in}
use Rattle.std.proofs.lemmas.Option.{IfSome_then}
use Rattle.line_tap.proofs.SlotNext.{none-held, short-held, reads-next}
use Rattle.line_tap.proofs.end.TappedEnd.read.Goals as goal

pub returns-clause-some : goal.returns-clause-some
returns-clause-some c = λ channel check role ts body h.
    let piece : List ℕ = c.args.self.now.piece.items in
    let size : length piece ≡ 4 * channel.symbols = omega (arith, c.requires.size, h.reads.symbols) in
    let all : piece ≡ take c.args.count piece = sym (take_all c.args.count piece (omega arith)) in
    let next : (sent : Sent)
    → ReadsSlot c.args.self.now.reader c.read.new.self (signals channel role ts) (samples_in body) (samples_in c.deref.result.now)
    c.read.new.labels sent
    → ReadsNext c.read.new.self channel check role ts (body ++ take c.args.count piece) (slot_as sent c.read.new.labels) =
    λ sent read. subst (λ p. ReadsNext c.read.new.self channel check role ts (body ++ p) (slot_as sent c.read.new.labels)) all
    (reads-next c.args.self.now.reader c.read.new.self channel check role ts body piece (slot_as sent c.read.new.labels) h size
    (subst (λ p. ReadsSlot c.args.self.now.reader c.read.new.self (signals channel role ts) (samples_in body) (samples_in p)
    c.read.new.labels sent) c.deref.ensures.value read)) in
    IfSome_then c.read.result (c.read.ensures.some (signals channel role ts) (samples_in body) h.stands) next

none-then : {X : Type 0} (r : Option X) {P Q : Type 0} → IfNone r P → (P → Q) → IfNone r Q
none-then r h f = grind (arith)

pub returns-clause-none : goal.returns-clause-none
returns-clause-none c = λ channel check role ts body h fit.
    let piece : List ℕ = c.args.self.now.piece.items in
    let size : length piece ≡ 4 * channel.symbols = omega (arith, c.requires.size, h.reads.symbols) in
    let all : piece ≡ take c.args.count piece = sym (take_all c.args.count piece (omega arith)) in
    let next : ((s : Sent) → IsNext c.args.self.now.reader (signals channel role ts) (samples_in body) (samples_in c.deref.result.now) s
    → ⊥)
    → (s : Sent) → HoldsNext channel check role ts (body ++ take c.args.count piece) s → ⊥ =
    λ none. subst (λ p. (s : Sent) → HoldsNext channel check role ts (body ++ p) s → ⊥) all
    (none-held c.args.self.now.reader channel check role ts body piece h size
    (subst (λ p. (s : Sent) → IsNext c.args.self.now.reader (signals channel role ts) (samples_in body) (samples_in p) s → ⊥)
    c.deref.ensures.value none)) in
    none-then c.read.result (c.read.ensures.none (signals channel role ts) (samples_in body) h.stands
    (subst (λ n. AreFit (4 * n) 0 (signals channel role ts)) (sym h.reads.symbols) fit)) next

pub returns-then-count-len-clause-none : goal.returns-then-count-len-clause-none
returns-then-count-len-clause-none c = λ channel check role ts body h fit s x.
    let short : c.args.count < 4 * channel.symbols =
    subst (λ (n : ℕ). c.args.count < n) (c.len.ensures ∙ c.requires.size ∙ ap (λ n. 4 * n) h.reads.symbols) c.if-count-len.true in
    short-held c.args.self.now.reader channel check role ts body c.args.self.now.piece.items c.args.count h short s x
