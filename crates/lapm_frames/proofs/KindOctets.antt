-- The kinds by their octets: what is found in the table, as the readers of both families use it.
use Rattle.lapm_frames.proofs.Names.{◌≡◌, ℕ, ◌%◌, ◌≤◌, Bool, true, false, not, if◌then◌else◌, nat_eq, List, [], ◌∷◌, length, Option, Some}
use Rattle.lapm_frames.proofs.Names.{None, codes, is_some, arith, refl, sym, ap, subst, ◌∙◌, lit<, IfSome, unwrap_or, INFO, Has, address_of}
use Rattle.lapm_frames.proofs.Names.{control_octet, IsFrame, marked, spelled, tail_octets, unnumbered, parts_of, Role}
use Rattle.std.proofs.Common.{cond}
use Rattle.std.specs.Bool.{beq}
use Rattle.std.specs.Option.{option_map}
use Rattle.std.proofs.lemmas.Bool.{eqb-true}
use Rattle.lapm_frames.specs.declared.kind.FrameKind.{FrameKind}
use Rattle.lapm_frames.specs.declared.kind.FrameKind.TheVariants as kind
use Rattle.lapm_frames.specs.Parts.{frame_of, kinds, parts_of_kind, first_with, kind_with}
use Rattle.lapm_frames.proofs.Forms.{is_supervisory, allows, is_informed}
use Rattle.lapm_frames.proofs.Controls.{AreParts, longest_of}

step : {P : Type 0} (b : Bool) (k kind : FrameKind) (rest : Option FrameKind) → cond b (Some k) rest ≡ Some kind → (b ≡ true → k ≡ kind → P)
    → (rest ≡ Some kind → P) → P
step true k kind rest e f g = f refl cc
step false k kind rest e f g = g e

has-octet : (among : List FrameKind) (control : ℕ) (kind : FrameKind) → first_with control among ≡ Some kind
    → control ≡ (parts_of_kind kind).control
has-octet [] control kind e = absurd cc
has-octet (k ∷ among) control kind e =
    step (nat_eq control (parts_of_kind k).control) k kind (first_with control among) e
    (λ same is. eqb-true control (parts_of_kind k).control same ∙ ap (λ k. (parts_of_kind k).control) is) (has-octet among control kind)

-- where none has the octet, it is that of no kind
other : (b : Bool) (k : FrameKind) (rest : Option FrameKind) → cond b (Some k) rest ≡ None → (b ≡ false) × (rest ≡ None)
other true k rest e = absurd cc
other false k rest e = (refl, e)

pub none-supervisory : (control : ℕ) → kind_with control ≡ None → is_supervisory control ≡ false
none-supervisory control e =
    let i = other (nat_eq control 0) kind.I _ e in
    let rr = other (nat_eq control 0x01) kind.Rr _ i.1 in
    let rnr = other (nat_eq control 0x05) kind.Rnr _ rr.1 in
    let rej = other (nat_eq control 0x09) kind.Rej _ rnr.1 in
    let srej = other (nat_eq control 0x0d) kind.Srej _ rej.1 in
    rw (rr.0, rnr.0, rej.0, srej.0) refl

pub none-unnumbered : (control : ℕ) (command : Bool) → kind_with control ≡ None → allows control command ≡ false
none-unnumbered control command e =
    let i = other (nat_eq control 0) kind.I _ e in
    let rr = other (nat_eq control 0x01) kind.Rr _ i.1 in
    let rnr = other (nat_eq control 0x05) kind.Rnr _ rr.1 in
    let rej = other (nat_eq control 0x09) kind.Rej _ rnr.1 in
    let srej = other (nat_eq control 0x0d) kind.Srej _ rej.1 in
    let sabme = other (nat_eq control 0x6f) kind.Sabme _ srej.1 in
    let disc = other (nat_eq control 0x43) kind.Disc _ sabme.1 in
    let ua = other (nat_eq control 0x63) kind.Ua _ disc.1 in
    let dm = other (nat_eq control 0x0f) kind.Dm _ ua.1 in
    let frmr = other (nat_eq control 0x87) kind.Frmr _ dm.1 in
    let xid = other (nat_eq control 0xaf) kind.Xid _ frmr.1 in
    let test = other (nat_eq control 0xe3) kind.Test _ xid.1 in
    let ui = other (nat_eq control 0x03) kind.Ui _ test.1 in
    rw (sabme.0, disc.0, ua.0, dm.0, frmr.0, xid.0, test.0, ui.0) refl

-- a kind whose octet has S frames' low bits
supervises : (kind : FrameKind) (command : Bool) → (parts_of_kind kind).control % 4 ≡ 1
    → Has command (parts_of_kind kind).control (frame_of kind command 0 0 false [])
supervises kind.I command low = absurd (omega (arith, low))
supervises kind.Rr command low = record { is_frame = (tt, lit< tt, tt); command_is = refl; control_is = refl }
supervises kind.Rnr command low = record { is_frame = (tt, lit< tt, tt); command_is = refl; control_is = refl }
supervises kind.Rej command low = record { is_frame = (tt, lit< tt, tt); command_is = refl; control_is = refl }
supervises kind.Srej command low = record { is_frame = (tt, lit< tt, tt); command_is = refl; control_is = refl }
supervises kind.Sabme command low = absurd (omega (arith, low))
supervises kind.Disc command low = absurd (omega (arith, low))
supervises kind.Ua command low = absurd (omega (arith, low))
supervises kind.Dm command low = absurd (omega (arith, low))
supervises kind.Frmr command low = absurd (omega (arith, low))
supervises kind.Xid command low = absurd (omega (arith, low))
supervises kind.Test command low = absurd (omega (arith, low))
supervises kind.Ui command low = absurd (omega (arith, low))

pub has-supervisory : (kind : FrameKind) (control : ℕ) (command : Bool) → kind_with control ≡ Some kind → control % 4 ≡ 1
    → Has command control (frame_of kind command 0 0 false [])
has-supervisory kind control command e low =
    let same = has-octet kinds control kind e in
    subst (λ n. Has command n (frame_of kind command 0 0 false [])) (sym same)
    (supervises kind command (ap (λ n. n % 4) (sym same) ∙ low))

-- the direction that a kind makes of this one
abbrev pub direction : FrameKind → Bool → Bool → Bool
direction kind command pf = (parts_of (frame_of kind command 0 0 pf [])).command

-- A kind whose octet has U frames' low bits: which direction it has, how much may follow, and its frames.
pub record IsUnnumberedBy (kind : FrameKind) (octet : ℕ) (command pf : Bool) (tail : List ℕ) : Type 0 where
  pub refused : (direction kind command pf ≡ command → ⊥) → allows octet command ≡ false
  pub longest : (if is_some (parts_of (frame_of kind command 0 0 pf [])).info then INFO else 0) ≡ longest_of octet
  pub has : direction kind command pf ≡ command → Has command (marked octet pf) (frame_of kind command 0 0 pf [])
  pub is_frame : length tail ≤ longest_of octet → IsFrame (frame_of kind command 0 0 pf tail)
  pub spells : direction kind command pf ≡ command → length tail ≤ longest_of octet → (sender : Role) (dlci : ℕ)
      → address_of command sender dlci ∷ marked octet pf ∷ tail ≡ spelled (frame_of kind command 0 0 pf tail) sender dlci

not-true : (b : Bool) → (true ≡ b → ⊥) → b ≡ false
not-true true h = absurd (h refl)
not-true false h = refl

not-false : (b : Bool) → (false ≡ b → ⊥) → not b ≡ false
not-false true h = refl
not-false false h = absurd (h refl)

empty : (tail : List ℕ) → length tail ≤ 0 → tail ≡ []
empty [] few = refl
empty (x ∷ tail) few = absurd (omega (arith, few))

-- A kind whose parts, whatever its information, are those of a U frame with this octet and direction.
unnumbers-by : (kind : FrameKind) (name : List ℕ) (octet : ℕ) (d command pf : Bool) (of : List ℕ → Option (List ℕ)) (tail : List ℕ)
    → ((info : List ℕ) → parts_of (frame_of kind command 0 0 pf info) ≡ unnumbered name octet d pf (of info))
    → ((d ≡ command → ⊥) → allows octet command ≡ false) → is_some (of []) ≡ is_informed octet
    → (length tail ≤ longest_of octet → IfSome (of tail) (λ info. length info ≤ INFO) × (tail ≡ unwrap_or (of tail) []))
    → IfSome (of []) (λ info. length info ≤ INFO) → IsUnnumberedBy kind octet command pf tail
unnumbers-by kind name octet d command pf of tail parts refused informed fits none =
    let own = parts [] in
    let to : (parts_of (frame_of kind command 0 0 pf [])).command ≡ d = ap (λ p. p.command) own in
    record {
      refused = λ h. refused (λ e. h (to ∙ e));
      longest = ap (λ p. if is_some p.info then INFO else 0) own ∙ ap (λ b. if b then INFO else 0) informed;
      has = λ s. record { is_frame = subst AreParts (sym own) (tt, tt, none); command_is = s; control_is = ap control_octet own };
      is_frame = λ few. subst AreParts (sym (parts tail)) (tt, tt, (fits few).0);
      spells = λ s few sender dlci.
          let same : d ≡ command = sym to ∙ s in
          (λ i. address_of (sym same i) sender dlci ∷ marked octet pf ∷ (fits few).1 i)
          ∙ ap (λ p. address_of p.command sender dlci ∷ control_octet p ∷ tail_octets p) (sym (parts tail));
    }

bare : (tail : List ℕ) → length tail ≤ 0 → Unit {0} × (tail ≡ [])
bare tail few = (tt, empty tail few)

unnumbers : (kind : FrameKind) (command pf : Bool) (tail : List ℕ) → (parts_of_kind kind).control % 4 ≡ 3
    → IsUnnumberedBy kind (parts_of_kind kind).control command pf tail
unnumbers kind.I command pf tail low = absurd (omega (arith, low))
unnumbers kind.Rr command pf tail low = absurd (omega (arith, low))
unnumbers kind.Rnr command pf tail low = absurd (omega (arith, low))
unnumbers kind.Rej command pf tail low = absurd (omega (arith, low))
unnumbers kind.Srej command pf tail low = absurd (omega (arith, low))
unnumbers kind.Sabme command pf tail low =
    unnumbers-by kind.Sabme (codes "sabme") 0x6f true command pf (λ info. None) tail (λ info. refl) (not-true command) refl (bare tail) tt
unnumbers kind.Disc command pf tail low =
    unnumbers-by kind.Disc (codes "disc") 0x43 true command pf (λ info. None) tail (λ info. refl) (not-true command) refl (bare tail) tt
unnumbers kind.Ua command pf tail low =
    unnumbers-by kind.Ua (codes "ua") 0x63 false command pf (λ info. None) tail (λ info. refl) (not-false command) refl (bare tail) tt
unnumbers kind.Dm command pf tail low =
    unnumbers-by kind.Dm (codes "dm") 0x0f false command pf (λ info. None) tail (λ info. refl) (not-false command) refl (bare tail) tt
unnumbers kind.Frmr command pf tail low =
    unnumbers-by kind.Frmr (codes "frmr") 0x87 false command pf Some tail (λ info. refl) (not-false command) refl (λ few. (few, refl))
    (omega arith)
unnumbers kind.Xid command pf tail low =
    unnumbers-by kind.Xid (codes "xid") 0xaf command command pf Some tail (λ info. refl) (λ h. absurd (h refl)) refl (λ few.
    (few, refl)) (omega arith)
unnumbers kind.Test command pf tail low =
    unnumbers-by kind.Test (codes "test") 0xe3 command command pf Some tail (λ info. refl) (λ h. absurd (h refl)) refl (λ few.
    (few, refl)) (omega arith)
unnumbers kind.Ui command pf tail low =
    unnumbers-by kind.Ui (codes "ui") 0x03 command command pf Some tail (λ info. refl) (λ h. absurd (h refl)) refl (λ few. (few, refl))
    (omega arith)

low-bits : (octet control : ℕ) (pf : Bool) → marked octet pf ≡ control → control % 4 ≡ 3 → octet % 4 ≡ 3
low-bits octet control true e low = omega (arith, e, low)
low-bits octet control false e low = omega (arith, e, low)

pub unnumbered-by : (kind : FrameKind) (octet control : ℕ) (command pf : Bool) (tail : List ℕ) → kind_with octet ≡ Some kind
    → marked octet pf ≡ control → control % 4 ≡ 3 → IsUnnumberedBy kind octet command pf tail
unnumbered-by kind octet control command pf tail e marks low =
    let same = has-octet kinds octet kind e in
    subst (λ n. IsUnnumberedBy kind n command pf tail) (sym same)
    (unnumbers kind command pf tail (ap (λ n. n % 4) (sym same) ∙ low-bits octet control pf marks low))

-- whether there is something doesn't depend on what it is seen as
pub some-map : {A B : Type 0} (f : A → B) (o : Option A) → is_some o ≡ is_some (option_map f o)
some-map f None = refl
some-map f (Some x) = refl

-- what a test of two directions tells
pub differ : (a b : Bool) → not (beq a b) ≡ true → a ≡ b → ⊥
differ true true e = λ s. absurd cc
differ false false e = λ s. absurd cc
differ true false e = λ s. absurd cc
differ false true e = λ s. absurd cc

pub alike : (a b : Bool) → not (beq a b) ≡ false → a ≡ b
alike true true e = refl
alike false false e = refl
alike true false e = absurd cc
alike false true e = absurd cc
