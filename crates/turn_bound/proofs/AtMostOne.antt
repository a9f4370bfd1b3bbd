use Rattle.turn_bound.proofs.Names.{arith, ◌⊎◌, inl, inr, ◌≡◌, ℕ, ◌+◌, ◌&&◌, Bool, true, false, List, [], ◌∷◌, length, refl, sym, ◌∙◌, ap}
use Rattle.turn_bound.proofs.Names.{subst, None, Ok, numbers-alike, Role, Originator, Answerer, Frame, is_originator, Arrived, is_connected}
use Rattle.turn_bound.proofs.Names.{hear, without_adp, trying, Said, speak, of, Steps, Tries, answers-unconnected, linked-alike, retimed}
use Rattle.turn_bound.proofs.Names.{tries-alike, Phase, Connected, User, is_busy, is_closed, is_released, Link, Accounts, Turn, RunOf}
use Rattle.turn_bound.proofs.Names.{IsCarried, NoneDue, KeepsTime}
use Rattle.link_account.proofs.Names.{Account}
use Rattle.turn_bound.proofs.Value.{Rates, Stands}
use Rattle.turn_bound.proofs.OneTurn.{Hearing}
use Rattle.turn_bound.proofs.CalmRuns.{said-speaks, hears-in}
use Rattle.turn_bound.proofs.Serving.{Served}
use Rattle.link_account.proofs.HearWays as HearWays
use Rattle.link_account.proofs.SpeakWays as SpeakWays

-- what hearing makes due: an answer, or an F reply
pub record OneDue (role : Role) (b : Account) : Type 0 where
  pub one : (b.owes.answer ≡ None) ⊎ (is_released b.phase ≡ false → b.owes.reply ≡ false)
  pub calm : is_connected b.phase ≡ false → is_released b.phase ≡ false → b.owes.reply ≡ false
  pub none : role ≡ Originator → is_closed b.phase ≡ false → b.owes.answer ≡ None

one-same : (role : Role) (a b : Account) → NoneDue a → b.owes.answer ≡ a.owes.answer → b.owes.reply ≡ a.owes.reply
    → (is_released b.phase ≡ false → is_released a.phase ≡ false) → OneDue role b
one-same role a b h e f g = record { one = inl (e ∙ h.answer); calm = λ c r. f ∙ h.reply (g r); none = λ r c. e ∙ h.answer }

-- an answerer owes an answer
one-owed : (a b : Account) → NoneDue a → is_released a.phase ≡ false → b.owes.reply ≡ a.owes.reply → OneDue Answerer b
one-owed a b h r e = record { one = inr (λ x. e ∙ h.reply r); calm = λ c x. e ∙ h.reply r; none = λ x c. cc }

one-closed : (role : Role) (b : Account) → is_closed b.phase ≡ true → OneDue role b
one-closed role b e = grind (arith)

pub one-hears : (role : Role) (arrived : Arrived) (turn : ℕ) (a mid : Account) → a.setup.role ≡ role → NoneDue a → hear turn arrived a
    ≡ Ok mid
    → OneDue role mid
one-hears role arrived turn a mid er h e = HearWays.by-ways (λ x b. OneDue role b) turn a (record {
  nothing = record { one = inl (ap without_adp h.answer); calm = λ c r. h.reply r; none = λ r c. ap without_adp h.answer };
  linked = grind (arith, same, numbers-alike, owed, one-closed, one-same);
  early = grind (arith, same, one-same, owed, one-closed);
}) arrived mid e
  where
    same : OneDue role a
    same = one-same role a a h refl refl (λ x. x)

    owed : a.setup.role ≡ Answerer → is_released a.phase ≡ false → (b : Account) → b.owes.reply ≡ a.owes.reply → OneDue role b
    owed r f b q = subst (λ x. OneDue x b) (sym r ∙ er) (one-owed a b h f q)

-- Speaking: what is due goes.

steps-clean : (turn : ℕ) (special : Bool) (a : Account) → (a.owes.answer ≡ None) ⊎ (a.owes.reply ≡ false)
    → Steps (λ said. NoneDue said.account) turn special a
steps-clean turn special a one = grind (arith)

said-clean : (z : Rates) (before turn : ℕ) (release : Bool) (role : Role) (p : Phase) (a : Account) (said : Said)
    → Stands z before turn role p a
    → a.phase ≡ p → a.setup.role ≡ role → (role ≡ Originator → is_closed a.phase ≡ false) → OneDue role a → speak turn release a ≡ Ok said
    → NoneDue said.account
said-clean z before turn release role p a said st e er open_ k h = SpeakWays.by-ways (λ s. NoneDue s.account) turn release a (record {
  answers = λ alone d f. record { answer = refl; reply = k.calm (answers-unconnected a.phase a.setup.role alone) };
  flags = λ alone f. record { answer = f; reply = k.calm (answers-unconnected a.phase a.setup.role alone) };
  mark = λ q r f. record { answer = f; reply = k.calm (ap is_connected q) };
  odp = λ q r l. record { answer = none (sym er ∙ r); reply = k.calm (ap is_connected q) };
  xid = λ q r. tried _ (none (sym er ∙ r)) (ap is_connected q);
  sabme = λ q. tried _ (none (alone q (λ s. s))) (ap is_connected q);
  linked = λ q r. linked-alike _ turn a (λ count awaited w own. steps-clean turn a.special (retimed a count awaited w own) (one q));
  releases = grind (arith, tries-alike, trying, none, originates);
  disc = λ q. tried _ (none (alone q (λ s. s))) (ap is_connected q);
}) said h
  where
    none : role ≡ Originator → a.owes.answer ≡ None
    none r = k.none r (open_ r)

    tried : (frame : Frame) → a.owes.answer ≡ None → is_connected a.phase ≡ false → Tries (λ s. NoneDue s.account) turn frame a
    tried frame n c = tries-alike _ turn frame a (λ w. record { answer = n; reply = k.calm c }) (record { answer = n; reply = k.calm c })

    one : a.phase ≡ Connected → (a.owes.answer ≡ None) ⊎ (a.owes.reply ≡ false)
    one q = elim k.one [ inl n ↦ inl n | inr g ↦ inr (g (ap is_released q)) ]

    -- no answerer is in this phase
    alone : {q : Phase} → a.phase ≡ q → (Stands z before turn Answerer q a → ⊥) → role ≡ Originator
    alone {q} f unheld = grind (arith)

    originates : (r : Role) (b : Bool) → (b && is_originator r) ≡ true → r ≡ Originator
    originates c b x = grind (arith)

-- a turn of one end
end-clean : {z : Rates} {user : User} {turn : ℕ} {role : Role} {a : Account} {arrived : Arrived} {mid b : Account}
    → Hearing z user turn role a arrived mid b → (release : Bool) (said : Said) → speak turn release b ≡ Ok said
    → (role ≡ Originator → is_closed mid.phase ≡ false) → NoneDue a → NoneDue said.account
end-clean {z} {user} {turn} {role} {a} {arrived} {mid} {b} i release said speaks open_ none =
    let s = i.serves in
    let one = one-hears role arrived turn a mid i.role_is none i.hears in
    said-clean z (turn + 1) turn release role i.phase b said i.b_stands i.b_phase i.b_role (λ r. ap is_closed s.phase ∙ open_ r) (record {
      one = served-one mid b s one;
      calm = λ c x. s.reply ∙ one.calm (ap is_connected (sym s.phase) ∙ c) (ap is_released (sym s.phase) ∙ x);
      none = λ r c. s.answer ∙ one.none r (ap is_closed (sym s.phase) ∙ c);
    }) speaks
  where
    served-one : (m c : Account) → Served turn (length user.breaks) (is_busy turn user.busy) m c → OneDue role m
        → (c.owes.answer ≡ None) ⊎ (is_released c.phase ≡ false → c.owes.reply ≡ false)
    served-one m c s o = elim o.one [ inl n ↦ inl (s.answer ∙ n) | inr f ↦ inr (λ x. s.reply ∙ f (ap is_released (sym s.phase) ∙ x)) ]

pub none-due-run : (tries period : ℕ) (delay : Role → ℕ) (link : Link) (ts : List Turn) (ends : Accounts)
    → KeepsTime tries period delay link → RunOf link ts ends → IsCarried delay ts → (role : Role) → NoneDue (of role ends)
none-due-run tries period delay link [] ends k run c role = grind (arith)
none-due-run tries period delay link (t ∷ ts) ends k (before, run, g) c role =
    let o = g.speaking role in
    let sp = said-speaks link (length ts) g.mid role o.said o.says in
    subst NoneDue (sym o.after_is) (end-clean (hears-in tries period delay link ts before role k run c.1 t g.mid g.hearing) sp.0 o.said
    sp.1 (λ r. ap (λ q. is_closed (of q g.mid).phase) r ∙ g.going) (none-due-run tries period delay link ts before k run c.1 role))
