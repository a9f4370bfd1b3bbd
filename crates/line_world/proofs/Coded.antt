-- A slot that a coder has coded behind others.
use Rattle.line_world.proofs.Cited.{arith, ◌≡◌, ℕ, ◌*◌, List, [], ◌∷◌, ◌++◌, map, sym, ◌∙◌, ap, subst, map-append, line_bits, Signal, Check}
use Rattle.line_world.proofs.Cited.{Sent, Wire, Carried, carried_signal, LinesWait, Lines, IsCodedAs, bits_behind, signal_of, Both, of}
use Rattle.line_world.proofs.Cited.{Role, Originator, Answerer}
use Rattle.std.proofs.lemmas.List.{same_from_push}
use Rattle.sample_line.specs.Coder.{Coding, CoderStands, bits_in}
use Rattle.line_world.specs.declared.end_coder.EndCoder.{EndCoder}
use Rattle.line_world.specs.Lines.{HasCoded, IsPut, coder_of}

abbrev pub signals_of : Role → List Carried → List Signal
signals_of role stream = map (carried_signal role) stream

pub same-signal : (e : EndCoder) (c : Wire) (role : Role) (stream : List Carried) (x : Carried) (sent : Sent) (check : Check) (dlci : ℕ)
    → HasCoded e c role stream → IsPut x sent check dlci → signal_of check e.coder.sender dlci sent ≡ carried_signal role x
same-signal e c role stream x sent check dlci h p = grind (arith)

pub codes-as : (e : EndCoder) (c : Wire) (role : Role) (stream : List Carried) (x : Carried) (signal : Signal) (labels : List ℕ)
    → HasCoded e c role stream → signal ≡ carried_signal role x
    → IsCodedAs e.coder.sender (bits_in e.coder) (signals_of role stream) signal labels
    → IsCodedAs role (4 * c.symbols) (signals_of role stream) (carried_signal role x) labels
codes-as e c role stream x signal labels h same k = grind (arith)

pub codes-on : (e : EndCoder) (coder : Coding) (bits : List ℕ) (c : Wire) (role : Role) (stream : List Carried) (x : Carried)
    (signal : Signal) → HasCoded e c role stream → signal ≡ carried_signal role x → coder.sender ≡ e.coder.sender
    → coder.writer.symbols ≡ e.coder.writer.symbols → CoderStands coder (signals_of role stream ++ signal ∷ [])
    → line_bits bits ≡ bits_behind (bits_in e.coder) (signals_of role stream) signal
    → HasCoded (record { coder = coder; newest = bits }) c role (stream ++ x ∷ [])
codes-on e coder bits c role stream x signal h same sender symbols stands bits-are = record {
  stands = subst (CoderStands coder)
      (ap (λ s. signals_of role stream ++ s ∷ []) same ∙ sym (map-append (carried_signal role) stream (x ∷ []))) stands;
  sends = sender ∙ h.sends;
  symbols = symbols ∙ h.symbols;
  newest = λ front y e-is.
      let parts = same_from_push stream front x y e-is in
      bits-are ∙ ap (λ n. bits_behind (4 * n) (signals_of role stream) signal) h.symbols
      ∙ ap (bits_behind (4 * c.symbols) (signals_of role stream)) same
      ∙ ap (λ l. bits_behind (4 * c.symbols) (signals_of role l) (carried_signal role x)) parts.0
      ∙ ap (λ z. bits_behind (4 * c.symbols) (signals_of role front) (carried_signal role z)) parts.1;
}

-- the bits that a role's coder keeps
pub newest-is : (l : Lines) (c : Wire) (role own : Role) (links : ℕ) (streams : Both (List Carried)) (front : List Carried) (x : Carried)
    (bits : List ℕ) → LinesWait l c links streams → of role streams ≡ front ++ x ∷ [] → role ≡ own → bits ≡ (coder_of own l).newest
    → line_bits bits ≡ bits_behind (4 * c.symbols) (signals_of role front) (carried_signal role x)
newest-is l c role own links streams front x bits h e is b = grind (arith)

-- what is so of each role's coder is so of both
pub both-coded : (l : Lines) (c : Wire) (streams : Both (List Carried)) → HasCoded l.orig c Originator streams.orig
    → HasCoded l.answ c Answerer streams.answ → (role : Role) → HasCoded (coder_of role l) c role (of role streams)
both-coded l c streams ho ha role = grind (arith)

pub nothing-newest : (front : List Carried) (x : Carried) → [] ≡ front ++ x ∷ [] → ⊥
nothing-newest [] x e = absurd cc
nothing-newest (y ∷ front) x e = absurd cc
