-- Lanes of the nearest labels of squares.
use Rattle.exact_decoder.proofs.Names.{◌≡◌, ℕ, min, ◌+◌, ◌-◌, ◌*◌, ◌%◌, ◌<◌, arith, nearest_010, nearest_011, nearest_100, nearest_101}

pub lane-010 : (x y : ℕ) → x < 65536 → y < 65536
    → (min (x * 512 + 17825856) ((65535 - x) * 512 + 17826384) + min ((65535 - y) * 768 + 10748672) (y * 256 + 25427976)) % 4294967296
    ≡ nearest_010 x y
lane-010 x y lx ly = omega arith

pub lane-011 : (x y : ℕ) → x < 65536 → y < 65536
    → (min ((65535 - x) * 512 + 17826400) (x * 512 + 17825904) + min ((65535 - y) * 256 + 25428232) (y * 768 + 10747904)) % 4294967296
    ≡ nearest_011 x y
lane-011 x y lx ly = omega arith

pub lane-100 : (x y : ℕ) → x < 65536 → y < 65536
    → (min (x * 768 + 10748032) ((65535 - x) * 256 + 25428360) + min (y * 512 + 17825792) ((65535 - y) * 512 + 17826320)) % 4294967296
    ≡ nearest_100 x y
lane-100 x y lx ly = omega arith

pub lane-101 : (x y : ℕ) → x < 65536 → y < 65536
    → (min (x * 256 + 25428136) ((65535 - x) * 768 + 10748832) + min ((65535 - y) * 512 + 17826304) (y * 512 + 17825808)) % 4294967296
    ≡ nearest_101 x y
lane-101 x y lx ly = omega arith
