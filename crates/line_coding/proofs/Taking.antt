-- One label more of a line's middle.
use Rattle.line_coding.proofs.Names.{◌≡◌, ◌∙◌, ℕ, ◌+◌, ◌*◌, ◌/◌, ◌%◌, ◌<◌, Bool, List, [], ◌∷◌, ◌++◌, length, drop, nat_eq, append-nil}
use Rattle.line_coding.proofs.Names.{refl, sym, ap, subst, arith, at_any, low_bits, Middle, MiddleRead, Mode, Sample}
use Rattle.std.proofs.Common.{min, length-append}
use Rattle.std.proofs.Math.ListN.{drop_of_length-le}
use Rattle.std.proofs.Math.Seq.{drop-append-add}
use Rattle.std.proofs.lemmas.List.{drop-append-le}
use Rattle.line_coding.specs.V32.{LineReading, LineRead}

-- what is behind the first bits once more are there, and how many labels were taken
record Behind (all more given : List Bool) (taken : ℕ) : Type 0 where
  pub given_is : given ≡ drop 27 (all ++ more)
  pub counted : 4 * taken ≡ min 28 (length (all ++ more))

early : (all more bits : List Bool) (taken : ℕ) → bits ≡ drop 27 all → 4 * taken ≡ min 28 (length all) → taken < 6 → length more ≡ 4
    → Behind all more (bits ++ []) (taken + 1)
early all more bits taken e n l four =
    let both : length (all ++ more) ≡ length all + length more = length-append all more in
    record {
      given_is = append-nil bits ∙ e ∙ drop_of_length-le all {i = 27} (omega arith)
          ∙ sym (drop_of_length-le (all ++ more) {i = 27} (omega arith));
      counted = omega (arith, both);
    }

sixth : (all more bits : List Bool) (taken : ℕ) → bits ≡ drop 27 all → 4 * taken ≡ min 28 (length all) → taken ≡ 6 → length more ≡ 4
    → Behind all more (bits ++ drop 3 more) 7
sixth all more bits taken e n six four =
    let both : length (all ++ more) ≡ length all + length more = length-append all more in
    let short : length all ≡ 24 = omega arith in
    let place : 27 ≡ length all + 3 = omega arith in
    record {
      given_is = ap (λ l. l ++ drop 3 more) (e ∙ drop_of_length-le all {i = 27} (omega arith))
          ∙ sym (ap (λ n. drop n (all ++ more)) place ∙ drop-append-add all more 3);
      counted = omega (arith, both);
    }

later : (all more bits : List Bool) (taken : ℕ) → bits ≡ drop 27 all → 4 * taken ≡ min 28 (length all) → 6 < taken
    → Behind all more (bits ++ more) taken
later all more bits taken e n l =
    let both : length (all ++ more) ≡ length all + length more = length-append all more in
    record {
      given_is = ap (λ l. l ++ more) e ∙ sym (drop-append-le 27 all more (omega arith));
      counted = omega (arith, both);
    }

abbrev pub middle_of : LineReading → ℕ → Middle
middle_of reading taken = record { reading = reading; taken = taken }

abbrev pub Reads : Mode → ℕ → LineReading → LineReading → List Sample → List Bool → Type 0
Reads mode depth old new samples more =
    (bits : List Bool) → LineRead mode at_any depth old samples bits → LineRead mode at_any depth new samples (bits ++ more)

pub middle-early : (mode : Mode) (depth : ℕ) (old new : LineReading) (taken four : ℕ) (samples : List Sample) (bits : List Bool) → taken < 6
    → Reads mode depth old new samples (low_bits 4 four)
    → MiddleRead mode depth (middle_of old taken) samples bits → MiddleRead mode depth (middle_of new (taken + 1)) samples (bits ++ [])
middle-early mode depth old new taken four samples bits l reads h =
    let b = early h.all (low_bits 4 four) bits taken h.bits_are h.counted l refl in
    record { all = h.all ++ low_bits 4 four; read = reads h.all h.read; bits_are = b.given_is; counted = b.counted }

-- the last bit of a quad
last-bit : (four : ℕ) → four < 16 → nat_eq (four / 8) 1 ∷ [] ≡ drop 3 (low_bits 4 four)
last-bit four l = let e : four / 8 ≡ four / 2 / 2 / 2 % 2 = omega (arith, l) in ap (λ n. nat_eq n 1 ∷ []) e

pub middle-sixth : (mode : Mode) (depth : ℕ) (old new : LineReading) (taken four : ℕ) (samples : List Sample) (bits : List Bool) → taken ≡ 6
    → four < 16 → Reads mode depth old new samples (low_bits 4 four)
    → MiddleRead mode depth (middle_of old taken) samples bits
    → MiddleRead mode depth (middle_of new 7) samples (bits ++ nat_eq (four / 8) 1 ∷ [])
middle-sixth mode depth old new taken four samples bits six small reads h =
    let b = sixth h.all (low_bits 4 four) bits taken h.bits_are h.counted six refl in
    record {
      all = h.all ++ low_bits 4 four;
      read = reads h.all h.read;
      bits_are = ap (λ l. bits ++ l) (last-bit four small) ∙ b.given_is;
      counted = b.counted;
    }

pub middle-later : (mode : Mode) (depth : ℕ) (old new : LineReading) (taken : ℕ) (more : List Bool) (samples : List Sample)
    (bits : List Bool) → 6 < taken → Reads mode depth old new samples more
    → MiddleRead mode depth (middle_of old taken) samples bits → MiddleRead mode depth (middle_of new taken) samples (bits ++ more)
middle-later mode depth old new taken more samples bits l reads h =
    let b = later h.all more bits taken h.bits_are h.counted l in
    record { all = h.all ++ more; read = reads h.all h.read; bits_are = b.given_is; counted = b.counted }

pub middle-none : (mode : Mode) (depth : ℕ) (old new : LineReading) (taken : ℕ) (samples : List Sample) (bits : List Bool)
    → Reads mode depth old new samples []
    → MiddleRead mode depth (middle_of old taken) samples bits → MiddleRead mode depth (middle_of new taken) samples (bits ++ [])
middle-none mode depth old new taken samples bits reads h =
    record {
      all = h.all;
      read = subst (LineRead mode at_any depth new samples) (append-nil h.all) (reads h.all h.read);
      bits_are = append-nil bits ∙ h.bits_are;
      counted = h.counted;
    }

pub middle-pushed : (mode : Mode) (depth : ℕ) (old new : LineReading) (taken : ℕ) (samples more : List Sample) (bits : List Bool)
    → ((bits : List Bool) → LineRead mode at_any depth old samples bits → LineRead mode at_any depth new more bits)
    → MiddleRead mode depth (middle_of old taken) samples bits → MiddleRead mode depth (middle_of new taken) more bits
middle-pushed mode depth old new taken samples more bits reads h =
    record { all = h.all; read = reads h.all h.read; bits_are = h.bits_are; counted = h.counted }
