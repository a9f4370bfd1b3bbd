-- Whether one of finitely many does something can be told, where it can be told of each. Numbers, octets, and the frames that can be sent
-- are finitely many.
use Rattle.line_tap.proofs.Cited.{inl, inr, ℕ, zero, suc, ◌<◌, ◌≤◌, Bool, true, false, List, [], ◌∷◌, length, arith, All-nil, All-cons}
use Rattle.line_tap.proofs.Cited.{All-head, All-tail, AreOctets, IsSendable, Frame, I, Ui, Decided}
use Rattle.frame_check.specs.declared.sizes.TheConstants.{INFO}
use Rattle.lapm_frames.specs.declared.frame.Frame.TheVariants.{Rr, Rnr, Rej, Srej, Sabme, Disc, Ua, Dm, Frmr, Xid, Test}
use Rattle.lapm_frames.specs.declared.sent.Sent.TheVariants as sent

-- one of two
any-flag : (P : Bool → Type 0) → ((flag : Bool) → Decided (P flag)) → Decided ((flag : Bool) × P flag)
any-flag P d = go (d false) (d true)
  where
    go : Decided (P false) → Decided (P true) → Decided ((flag : Bool) × P flag)
    go b e = grind (arith)

-- one of so many numbers
pub record SomeBelow (most : ℕ) (P : ℕ → Type 0) : Type 0 where
  pub number : ℕ
  pub below : number < most
  pub does : P number

any-below : (most : ℕ) (P : ℕ → Type 0) → ((n : ℕ) → Decided (P n)) → Decided (SomeBelow most P)
any-below zero P d = inr (λ h. omega (arith, h.below))
any-below (suc most) P d = go (any-below most P d) (d most)
  where
    go : Decided (SomeBelow most P) → Decided (P most) → Decided (SomeBelow (suc most) P)
    go b e = grind (arith)

-- one list of so many octets at most
pub record SomeOctets (most : ℕ) (P : List ℕ → Type 0) : Type 0 where
  pub octets : List ℕ
  pub are : AreOctets octets
  pub few : length octets ≤ most
  pub does : P octets

none-empty : (P : List ℕ → Type 0) → (P [] → ⊥) → (octets : List ℕ) → length octets ≤ 0 → P octets → ⊥
none-empty P f [] l p = f p
none-empty P f (x ∷ xs) l p = omega (arith, l)

none-longer : (P : List ℕ → Type 0) (most : ℕ) → (P [] → ⊥) → (SomeBelow 256 (λ x. SomeOctets most (λ xs. P (x ∷ xs))) → ⊥)
    → (octets : List ℕ) → AreOctets octets → length octets ≤ suc most → P octets → ⊥
none-longer P most f g [] are few p = f p
none-longer P most f g (x ∷ xs) are few p = g (record {
  number = x;
  below = All-head (λ octet. octet < 256) x xs are;
  does = record { octets = xs; are = All-tail (λ octet. octet < 256) x xs are; few = omega (arith, few); does = p };
})

any-octets : (most : ℕ) (P : List ℕ → Type 0) → ((octets : List ℕ) → Decided (P octets)) → Decided (SomeOctets most P)
any-octets zero P d = go (d [])
  where
    go : Decided (P []) → Decided (SomeOctets zero P)
    go (inl p) = inl (record { octets = []; are = All-nil (λ octet. octet < 256); few = omega arith; does = p })
    go (inr f) = inr (λ h. none-empty P f h.octets h.few h.does)
any-octets (suc most) P d = go (d []) (any-below 256 (λ x. SomeOctets most (λ xs. P (x ∷ xs)))
    (λ x. any-octets most (λ xs. P (x ∷ xs)) (λ xs. d (x ∷ xs))))
  where
    go : Decided (P []) → Decided (SomeBelow 256 (λ x. SomeOctets most (λ xs. P (x ∷ xs)))) → Decided (SomeOctets (suc most) P)
    go (inl p) e = inl (record { octets = []; are = All-nil (λ octet. octet < 256); few = omega arith; does = p })
    go (inr f) (inl h) = inl (record {
      octets = h.number ∷ h.does.octets;
      are = All-cons (λ octet. octet < 256) h.number h.does.octets h.below h.does.are;
      few = omega (arith, h.does.few);
      does = h.does.does;
    })
    go (inr f) (inr g) = inr (λ h. none-longer P most f g h.octets h.are h.few h.does)

-- the parts of a frame
abbrev SomeFlag : (Bool → Type 0) → Type 0
SomeFlag P = (flag : Bool) × P flag

abbrev SomeNumber : (ℕ → Type 0) → Type 0
SomeNumber P = (number : ℕ) × P number

abbrev SomeInfo : (List ℕ → Type 0) → Type 0
SomeInfo P = (info : List ℕ) × P info

any-number : (P : ℕ → Type 0) → ((n : ℕ) → P n → n < 128) → ((n : ℕ) → Decided (P n)) → Decided (SomeNumber P)
any-number P few d = go (any-below 128 P d)
  where
    go : Decided (SomeBelow 128 P) → Decided (SomeNumber P)
    go b = grind (arith)

any-info : (P : List ℕ → Type 0) → ((info : List ℕ) → P info → (length info ≤ INFO) × AreOctets info)
    → ((info : List ℕ) → Decided (P info)) → Decided (SomeInfo P)
any-info P are d = go (any-octets INFO P d)
  where
    go : Decided (SomeOctets INFO P) → Decided (SomeInfo P)
    go b = grind (arith)

-- frames by what their kind has
abbrev SomeNumbered : (ℕ → ℕ → Bool → List ℕ → Frame) → (Frame → Type 0) → Type 0
SomeNumbered make P = SomeNumber (λ ns. SomeNumber (λ nr. SomeFlag (λ pf. SomeInfo (λ info. P (make ns nr pf info)))))

abbrev SomeSupervisory : (Bool → ℕ → Bool → Frame) → (Frame → Type 0) → Type 0
SomeSupervisory make P = SomeFlag (λ command. SomeNumber (λ nr. SomeFlag (λ pf. P (make command nr pf))))

abbrev SomeWithInfo : (Bool → Bool → List ℕ → Frame) → (Frame → Type 0) → Type 0
SomeWithInfo make P = SomeFlag (λ command. SomeFlag (λ pf. SomeInfo (λ info. P (make command pf info))))

abbrev Sendable : (Frame → Type 0) → Type 0
Sendable P = (frame : Frame) → P frame → IsSendable (sent.Frame frame)

any-I : (P : Frame → Type 0) → Sendable P → ((frame : Frame) → Decided (P frame)) → Decided (SomeNumbered I P)
any-I P s d =
    any-number (λ ns. SomeNumber (λ nr. SomeFlag (λ pf. SomeInfo (λ info. P (I ns nr pf info)))))
    (λ ns h. (s (I ns h.0 h.1.0 h.1.1.0) h.1.1.1).0.0) (λ ns. any-number (λ nr. SomeFlag (λ pf. SomeInfo (λ info. P (I ns nr pf info))))
    (λ nr h. (s (I ns nr h.0 h.1.0) h.1.1).0.1) (λ nr. any-flag (λ pf. SomeInfo (λ info. P (I ns nr pf info)))
    (λ pf. any-info (λ info. P (I ns nr pf info)) (λ info h. ((s (I ns nr pf info) h).0.2, (s (I ns nr pf info) h).1))
    (λ info. d (I ns nr pf info)))))

any-supervisory : (make : Bool → ℕ → Bool → Frame) (P : Frame → Type 0)
    → ((command : Bool) (nr : ℕ) (pf : Bool) → P (make command nr pf) → nr < 128)
    → ((frame : Frame) → Decided (P frame)) → Decided (SomeSupervisory make P)
any-supervisory make P few d =
    any-flag (λ command. SomeNumber (λ nr. SomeFlag (λ pf. P (make command nr pf))))
    (λ command. any-number (λ nr. SomeFlag (λ pf. P (make command nr pf))) (λ nr h. few command nr h.0 h.1)
    (λ nr. any-flag (λ pf. P (make command nr pf)) (λ pf. d (make command nr pf))))

any-with-info : (make : Bool → Bool → List ℕ → Frame) (P : Frame → Type 0)
    → ((command pf : Bool) (info : List ℕ) → P (make command pf info) → (length info ≤ INFO) × AreOctets info)
    → ((frame : Frame) → Decided (P frame)) → Decided (SomeWithInfo make P)
any-with-info make P are d =
    any-flag (λ command. SomeFlag (λ pf. SomeInfo (λ info. P (make command pf info))))
    (λ command. any-flag (λ pf. SomeInfo (λ info. P (make command pf info)))
    (λ pf. any-info (λ info. P (make command pf info)) (λ info h. are command pf info h) (λ info. d (make command pf info))))

-- no frame of any kind does it
record NoFrame (P : Frame → Type 0) : Type 0 where
  no_i : SomeNumbered I P → ⊥
  no_rr : SomeSupervisory Rr P → ⊥
  no_rnr : SomeSupervisory Rnr P → ⊥
  no_rej : SomeSupervisory Rej P → ⊥
  no_srej : SomeSupervisory Srej P → ⊥
  no_sabme : SomeFlag (λ pf. P (Sabme pf)) → ⊥
  no_disc : SomeFlag (λ pf. P (Disc pf)) → ⊥
  no_ua : SomeFlag (λ pf. P (Ua pf)) → ⊥
  no_dm : SomeFlag (λ pf. P (Dm pf)) → ⊥
  no_frmr : SomeFlag (λ pf. SomeInfo (λ info. P (Frmr pf info))) → ⊥
  no_ui : SomeWithInfo Ui P → ⊥
  no_xid : SomeWithInfo Xid P → ⊥
  no_test : SomeWithInfo Test P → ⊥

none-at-all : (P : Frame → Type 0) → NoFrame P → (frame : Frame) → P frame → ⊥
none-at-all P n (I ns nr pf info) p = n.no_i (ns, (nr, (pf, (info, p))))
none-at-all P n (Rr command nr pf) p = n.no_rr (command, (nr, (pf, p)))
none-at-all P n (Rnr command nr pf) p = n.no_rnr (command, (nr, (pf, p)))
none-at-all P n (Rej command nr pf) p = n.no_rej (command, (nr, (pf, p)))
none-at-all P n (Srej command nr pf) p = n.no_srej (command, (nr, (pf, p)))
none-at-all P n (Sabme pf) p = n.no_sabme (pf, p)
none-at-all P n (Disc pf) p = n.no_disc (pf, p)
none-at-all P n (Ua pf) p = n.no_ua (pf, p)
none-at-all P n (Dm pf) p = n.no_dm (pf, p)
none-at-all P n (Frmr pf info) p = n.no_frmr (pf, (info, p))
none-at-all P n (Ui command pf info) p = n.no_ui (command, (pf, (info, p)))
none-at-all P n (Xid command pf info) p = n.no_xid (command, (pf, (info, p)))
none-at-all P n (Test command pf info) p = n.no_test (command, (pf, (info, p)))

-- the first of two that is there, or else what follows where it isn't
or-else : {A B : Type 0} → (A → B) → Decided A → ((A → ⊥) → Decided B) → Decided B
or-else f (inl a) next = inl (f a)
or-else f (inr n) next = next n

pub any-frame : (P : Frame → Type 0) → Sendable P → ((frame : Frame) → Decided (P frame)) → Decided ((frame : Frame) × P frame)
any-frame P s d =
    or-else (λ h. (I h.0 h.1.0 h.1.1.0 h.1.1.1.0, h.1.1.1.1)) (any-I P s d) (λ no_i.
    or-else (λ h. (Rr h.0 h.1.0 h.1.1.0, h.1.1.1)) (any-supervisory Rr P (λ command nr pf h. (s (Rr command nr pf) h).0.1) d) (λ no_rr.
    or-else (λ h. (Rnr h.0 h.1.0 h.1.1.0, h.1.1.1)) (any-supervisory Rnr P (λ command nr pf h. (s (Rnr command nr pf) h).0.1) d) (λ no_rnr.
    or-else (λ h. (Rej h.0 h.1.0 h.1.1.0, h.1.1.1)) (any-supervisory Rej P (λ command nr pf h. (s (Rej command nr pf) h).0.1) d) (λ no_rej.
    or-else (λ h. (Srej h.0 h.1.0 h.1.1.0, h.1.1.1))
    (any-supervisory Srej P (λ command nr pf h. (s (Srej command nr pf) h).0.1) d) (λ no_srej.
    or-else (λ h. (Sabme h.0, h.1)) (any-flag (λ pf. P (Sabme pf)) (λ pf. d (Sabme pf))) (λ no_sabme.
    or-else (λ h. (Disc h.0, h.1)) (any-flag (λ pf. P (Disc pf)) (λ pf. d (Disc pf))) (λ no_disc.
    or-else (λ h. (Ua h.0, h.1)) (any-flag (λ pf. P (Ua pf)) (λ pf. d (Ua pf))) (λ no_ua.
    or-else (λ h. (Dm h.0, h.1)) (any-flag (λ pf. P (Dm pf)) (λ pf. d (Dm pf))) (λ no_dm.
    or-else (λ h. (Frmr h.0 h.1.0, h.1.1)) (any-flag (λ pf. SomeInfo (λ info. P (Frmr pf info)))
    (λ pf. any-info (λ info. P (Frmr pf info)) (λ info h. ((s (Frmr pf info) h).0.2, (s (Frmr pf info) h).1))
    (λ info. d (Frmr pf info)))) (λ no_frmr.
    or-else (λ h. (Ui h.0 h.1.0 h.1.1.0, h.1.1.1)) (any-with-info Ui P
    (λ command pf info h. ((s (Ui command pf info) h).0.2, (s (Ui command pf info) h).1)) d) (λ no_ui.
    or-else (λ h. (Xid h.0 h.1.0 h.1.1.0, h.1.1.1)) (any-with-info Xid P
    (λ command pf info h. ((s (Xid command pf info) h).0.2, (s (Xid command pf info) h).1)) d) (λ no_xid.
    or-else (λ h. (Test h.0 h.1.0 h.1.1.0, h.1.1.1)) (any-with-info Test P
    (λ command pf info h. ((s (Test command pf info) h).0.2, (s (Test command pf info) h).1)) d) (λ no_test.
    inr (λ h. none-at-all P (record {
      no_i = no_i;
      no_rr = no_rr;
      no_rnr = no_rnr;
      no_rej = no_rej;
      no_srej = no_srej;
      no_sabme = no_sabme;
      no_disc = no_disc;
      no_ua = no_ua;
      no_dm = no_dm;
      no_frmr = no_frmr;
      no_ui = no_ui;
      no_xid = no_xid;
      no_test = no_test;
    }) h.0 h.1))))))))))))))
