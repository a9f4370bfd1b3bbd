-- What follows of two truths, of one that contradicts itself, and of a phase that isn't linked.
use Rattle.turn_bound.proofs.Names.{arith, ◌≡◌, ◌&&◌, ◌||◌, Bool, true, false, refl, sym, ◌∙◌, is_connected, Phase}
use Rattle.link_account.specs.Laws.{has_begun as is_linked}

pub clash : {A : Type 0} (b : Bool) → b ≡ true → b ≡ false → A
clash b e f = let wrong : true ≡ false = sym e ∙ f in cc

pub is-true : (b : Bool) → (b ≡ false → ⊥) → b ≡ true
is-true b f = grind (arith)

pub not-true : (b : Bool) → (b ≡ true → ⊥) → b ≡ false
not-true b f = grind (arith)

pub and-true : (b c : Bool) → b ≡ true → c ≡ true → b && c ≡ true
and-true b c e f = grind (arith)

pub and-two : (b c : Bool) → b && c ≡ true → (b ≡ true) × (c ≡ true)
and-two b c e = grind (arith)

pub and-second : (b c : Bool) → b && c ≡ true → c ≡ true
and-second b c e = (and-two b c e).1

pub and-not : (b c : Bool) → b ≡ true → b && c ≡ false → c ≡ false
and-not b c e f = grind (arith)

pub or-false-both : (b c : Bool) → b || c ≡ false → (b ≡ false) × (c ≡ false)
or-false-both b c e = grind (arith)

pub neither-first : (b c : Bool) → b || c ≡ false → b ≡ false
neither-first b c e = (or-false-both b c e).0

pub neither-second : (b c : Bool) → b || c ≡ false → c ≡ false
neither-second b c e = (or-false-both b c e).1

pub and-drop : (b c : Bool) → c ≡ false → b && c ≡ false
and-drop b c e = grind (arith)

pub or-first : (b c : Bool) → b ≡ true → b || c ≡ true
or-first b c e = grind (arith)

pub or-late : (b c : Bool) → c ≡ true → b || c ≡ true
or-late b c e = grind (arith)

pub or-true : (b : Bool) → b || true ≡ true
or-true b = or-late b true refl

pub or-false : (b : Bool) → b || false ≡ b
or-false b = grind (arith)

pub unlinked-connected : (p : Phase) → is_linked p ≡ false → is_connected p ≡ false
unlinked-connected p e = grind (arith)
