-- Symbols to which no line adds anything.
use Rattle.noise_script.proofs.Names.{◌≡◌, ℕ, ◌+◌, ◌<◌, ◌≤◌, ◌&&◌, Bool, false, List, [], ◌∷◌, map, arith, refl, list_any, covers, meets}
use Rattle.noise_script.proofs.Names.{nothing, sum_of, hit_offset, noise_offset, ScriptValue, Hit, Noise, same_role, Role}
use Rattle.std.proofs.lemmas.Bool.{or_parts}
use Rattle.noise_script.specs.Script.{offset_of}

-- a line of other places covers none of these
apart : (own : Bool) (line many from count symbol : ℕ) → from ≤ symbol → symbol < from + count
    → (own && meets line many from count) ≡ false → (own && covers line many symbol) ≡ false
apart q0 line many from count symbol low high none = grind (arith)

module _ (role : Role) (from count symbol : ℕ) (low : from ≤ symbol) (high : symbol < from + count) where
  pub hits-still : (hits : List Hit) → list_any (λ hit. same_role hit.role role && meets hit.from hit.count from count) hits ≡ false
      → sum_of (map (hit_offset role symbol) hits) ≡ nothing
  hits-still [] none = refl
  hits-still (hit ∷ hits) none =
      let parts = or_parts (same_role hit.role role && meets hit.from hit.count from count)
      (list_any (λ hit. same_role hit.role role && meets hit.from hit.count from count) hits) none in
      let here = apart (same_role hit.role role) hit.from hit.count from count symbol low high parts.0 in
      rw (here, hits-still hits parts.1) refl

  pub noises-still : (noises : List Noise)
      → list_any (λ noise. same_role noise.role role && meets noise.from noise.count from count) noises ≡ false
      → sum_of (map (noise_offset role symbol) noises) ≡ nothing
  noises-still [] none = refl
  noises-still (noise ∷ noises) none =
      let parts = or_parts (same_role noise.role role && meets noise.from noise.count from count)
      (list_any (λ noise. same_role noise.role role && meets noise.from noise.count from count) noises) none in
      let here = apart (same_role noise.role role) noise.from noise.count from count symbol low high parts.0 in
      rw (here, noises-still noises parts.1) refl

-- where neither kind of line has one that reaches these symbols
pub still : (script : ScriptValue) (role : Role) (from count : ℕ)
    → list_any (λ hit. same_role hit.role role && meets hit.from hit.count from count) script.hits ≡ false
    → list_any (λ noise. same_role noise.role role && meets noise.from noise.count from count) script.noises ≡ false
    → (symbol : ℕ) → from ≤ symbol → symbol < from + count → offset_of script role symbol ≡ nothing
still script role from count no_hit no_noise symbol low high = grind (arith, hits-still, noises-still)
