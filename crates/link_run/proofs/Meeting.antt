-- What hearing and speaking tell of UA, of DISC and of frames with numbers: who sends them, and in which phase.
use Rattle.std.proofs.Common.{◌≡◌, ◌⊎◌, inl, inr, ℕ, ◌≤◌, Bool, true, false, arith, refl, sym, ◌∙◌, ap, subst, Option, Some, None, Ok}
use Rattle.link_account.proofs.Names.{Originator, Frame, I, Rr, Rnr, Rej, Srej, Sabme, Disc, Ua, Ui, Incoming, after_take, Arrived, Sent}
use Rattle.link_account.proofs.Names.{Account, is_connected, hear, on_nothing, without_adp, owing}
use Rattle.link_run.proofs.Names.{Answer, Connected, ConnectedWays, Phase, Plain, by-linked}
use Rattle.link_run.proofs.Keeping.{stage}
use Rattle.lapm_frames.specs.declared.arrived.Arrived.TheVariants as arrivals
use Rattle.lapm_frames.specs.declared.sent.Sent.TheVariants as slots
use Rattle.link_account.specs.declared.answer.Answer.TheVariants as answers

-- kinds of frames
abbrev pub is_ua : Frame → Bool
is_ua (Ua pf) = true
is_ua frame = false

abbrev pub is_disc : Frame → Bool
is_disc (Disc pf) = true
is_disc frame = false

abbrev pub is_segment : Frame → Bool
is_segment (I ns nr pf info) = true
is_segment frame = false

-- of a frame with numbers
abbrev pub is_counted : Frame → Bool
is_counted (I ns nr pf info) = true
is_counted (Rr command nr pf) = true
is_counted (Rnr command nr pf) = true
is_counted (Rej command nr pf) = true
is_counted (Srej command nr pf) = true
is_counted frame = false

abbrev pub carries : (Frame → Bool) → Sent → Bool
carries is slots.Mark = false
carries is slots.Odp = false
carries is slots.Adp = false
carries is slots.Flags = false
carries is (slots.Frame frame) = is frame

abbrev pub brings : (Frame → Bool) → Arrived → Bool
brings is arrivals.Nothing = false
brings is (arrivals.Pattern seen) = false
brings is (arrivals.Frame frame) = is frame

-- a UA is due
abbrev pub owes_ua : Option Answer → Bool
owes_ua None = false
owes_ua (Some answers.Adp) = false
owes_ua (Some answers.Xid) = false
owes_ua (Some (answers.Ua pf)) = true
owes_ua (Some (answers.Dm pf)) = false

-- what arrives is taken where the end is Connected
abbrev pub received : Phase → Arrived → Incoming → Incoming
received Connected (arrivals.Frame (I ns nr pf info)) i = after_take ns info i
received p arrived i = i

-- hearing
pub record Told (p : Phase) (arrived : Arrived) (a b : Account) : Type 0 where
  pub owes : owes_ua b.owes.answer ≡ true → (owes_ua a.owes.answer ≡ true) ⊎ (1 ≤ stage b.phase)
  pub entered : stage p ≡ 0 → 1 ≤ stage b.phase → a.setup.role ≡ Originator → brings is_ua arrived ≡ true
  pub numbered : b.numbered ≡ true → (a.numbered ≡ true) ⊎ (brings is_counted arrived ≡ true)
  pub hung : stage p ≤ 1 → stage b.phase ≡ 3 → brings is_disc arrived ≡ true
  pub incoming : (b.incoming ≡ received p arrived a.incoming) ⊎ ((stage p ≡ 0) × (1 ≤ stage b.phase))

abbrev told_in : Phase → Account → Arrived → Account → Type 0
told_in p a arrived b = Told p arrived a b

stays-told : (p : Phase) (arrived : Arrived) (a b : Account) → stage b.phase ≡ stage p
    → (owes_ua b.owes.answer ≡ true → (owes_ua a.owes.answer ≡ true) ⊎ (1 ≤ stage b.phase))
    → (b.numbered ≡ true → (a.numbered ≡ true) ⊎ (brings is_counted arrived ≡ true)) → b.incoming ≡ received p arrived a.incoming
    → Told p arrived a b
stays-told p arrived a b e owes numbered inc = grind (arith)

without-ua : (o : Option Answer) → owes_ua (without_adp o) ≡ true → owes_ua o ≡ true
without-ua x e = grind (arith)

plain-received : (frame : Frame) (i : Incoming) → Plain frame → received Connected (arrivals.Frame frame) i ≡ i
plain-received frame i x = grind (arith)

not-received : (p : Phase) (arrived : Arrived) (i : Incoming) → is_connected p ≡ false → received p arrived i ≡ i
not-received p arrived i c = grind (arith)

-- a Connected end
module _ (turn : ℕ) (a : Account) (e : a.phase ≡ Connected) where
  stays : (arrived : Arrived) (b : Account) → b.phase ≡ a.phase → b.owes.answer ≡ a.owes.answer
      → (b.numbered ≡ true → (a.numbered ≡ true) ⊎ (brings is_counted arrived ≡ true)) → b.incoming ≡ received Connected arrived a.incoming
      → Told Connected arrived a b
  stays arrived b p o numbered inc =
      stays-told Connected arrived a b (ap stage (p ∙ e)) (λ y. inl (ap owes_ua (sym o) ∙ y)) numbered inc

  linked-told : ConnectedWays (told_in Connected a) turn a
  linked-told = record {
    pattern = λ s. stays (arrivals.Pattern s) a refl refl (λ y. inl y) refl;
    plain = λ frame k. stays (arrivals.Frame frame) a refl refl (λ y. inl y) (sym (plain-received frame a.incoming k));
    numbers = record {
      i = λ ns nr pf info n m. stays (arrivals.Frame (I ns nr pf info)) _ refl refl (λ y. inr refl) refl;
      rr = λ command pf nr n final g m. stays (arrivals.Frame (Rr command nr pf)) _ refl refl (λ y. inr refl) refl;
      rej = λ command pf nr n final g m. stays (arrivals.Frame (Rej command nr pf)) _ refl refl (λ y. inr refl) refl;
      rnr = λ command pf nr n final g m. stays (arrivals.Frame (Rnr command nr pf)) _ refl refl (λ y. inr refl) refl;
      srej = λ command pf nr n g m. stays (arrivals.Frame (Srej command nr pf)) _ refl refl (λ y. inr refl) refl;
    };
    sabme = λ pf n r. stays-told Connected (arrivals.Frame (Sabme pf)) a (owing (answers.Ua pf) a) (ap stage e)
        (λ y. inr (omega (arith, ap stage e))) (λ y. inl y) refl;
    disc = λ pf r. record {
      owes = λ z. inr (omega arith);
      entered = λ z. absurd (omega (arith, z));
      numbered = λ z. inl z;
      hung = λ l z. refl;
      incoming = inl refl;
    };
    brk = λ command pf info number length_octet q. stays (arrivals.Frame (Ui command pf info)) _ refl refl (λ y. inl y) refl;
    brkack = λ command pf info number length_octet q. stays (arrivals.Frame (Ui command pf info)) _ refl refl (λ y. inl y) refl;
  }

  told-linked : (arrived : Arrived) (b : Account) → hear turn arrived a ≡ Ok b → Told Connected arrived a b
  told-linked arrived b h = by-linked (told_in Connected a) turn a linked-told
      (stays-told Connected arrivals.Nothing a (on_nothing a) (ap stage e) (λ y. inl (without-ua a.owes.answer y)) (λ y. inl y) refl)
      arrived b e h

-- an end in another phase
module _ (turn : ℕ) (a : Account) (c : is_connected a.phase ≡ false) where
  quiet : (arrived : Arrived) (b : Account) → stage b.phase ≡ stage a.phase → (owes_ua b.owes.answer ≡ true → owes_ua a.owes.answer ≡ true)
      → b.numbered ≡ a.numbered → b.incoming ≡ a.incoming → Told a.phase arrived a b
  quiet arrived b e owes n i = stays-told a.phase arrived a b e (λ y. inl (owes y)) (λ z. inl (sym n ∙ z))
      (i ∙ sym (not-received a.phase arrived a.incoming c))

pub is-told : (turn : ℕ) (arrived : Arrived) (a b : Account) → hear turn arrived a ≡ Ok b → Told a.phase arrived a b
is-told turn arrived a b h = go a.phase refl
  where
    go : (p : Phase) → a.phase ≡ p → Told a.phase arrived a b
    go Connected e = subst (λ p. Told p arrived a b) (sym e) (told-linked turn a e arrived b h)
    go p e = grind (arith)
