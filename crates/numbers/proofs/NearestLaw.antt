-- `round` gives the nearest value of the format, ties to even: what it keeps is the nearest whole number of units, every other value of the format
-- is a multiple of those units or lies below the smallest number with all its digits, and distances in units are distances between floats.
use mathlib.Core.Path.{◌≡◌, sym, ap, ◌∙◌, subst}
use mathlib.Core.Logic.{◌⊎◌, inl, inr}
use Prim.Native.Nat.{ℕ, zero, suc, ◌+◌, ◌-◌, ◌*◌, ◌/◌, ◌%◌, ◌^◌, ◌≤◌, ◌<◌, compare}
use native.Mathlib.Nat.{le_trans, le_of_eq, le_of_lt, lt_irrefl, lt_of_lt_of_le, lt_of_le_of_lt, mul_comm, mul_assoc, mul_right_comm, mul-one, add-mul, suc-mul, mul-pos, mul-le-mul_right, mul-lt-mul_of_pos_right, le_of_mul-le-mul_right, eq_of_mul-eq-mul_right, le-div_iff_mul-le, pow-succ', zero-mul, mul-sub, mul-le-mul_left, div-mul-le_self, lt-suc_self, div-lt_iff_lt-mul, div-div-eq-div-mul}
use native.Mathlib.Omega.{arith}
use mathlib.Core.Bool.{Bool, true, false, not, cond, ◌&&◌}
use lib.IntN.{ℤ, pos, negsuc}
use lib.Dec.{T, leb, ltb, eqb, leb→le, nleb→lt, eqb→eq, ltb→lt, lit≤}
use lib.Pow.{pow-add, pow_pos, pow_mono, pow-lt, shl_lt}
use lib.Count.{count_trailing_zeros, under}
use lib.Ieee.{Float, nan, inf, fin, Format, binary32, binary64, prec, emax, low, up, down, minus, size, odd, units, round, fits}
use lib.Ieee.Digits.{size-le, size_reaches, back}
use lib.Ieee.Fits.{down_pos, two, two-le_pos, round_is, round-fits, and_l, and_r, nearest-le, kept-lt}
use lib.Ieee.Exact.{HasValue, units_val}
use lib.Ieee.Order.{drop, kept}
use lib.Ieee.Scale.{grid, overflow}
use Rattle.numbers.specs.Nearest.{dist, Even, NearestTo}
use Rattle.numbers.proofs.Comparing.{le_or_lt}
use Rattle.numbers.proofs.ClosestLaw.{closest_is_nearest}

-- ---- against any number g = n * 2 ^ j that the format's p digits write
all_in_use : (z p : ℕ) → 0 < p → 0 < z - p → p - 1 + (z - p) < z
all_in_use z p P h = omega arith

room : (p j k : ℕ) → 0 < p → j < k → p + j ≤ p - 1 + k
room p j k P h = omega arith

pos_of_lt : (j k : ℕ) → j < k → 0 < k
pos_of_lt j k h = omega arith

-- G * den is Q * u
regroup : (Q K den : ℕ) → Q * (den * 2 ^ K) ≡ Q * 2 ^ K * den
regroup Q K den = ap (λ (x : ℕ). Q * x) (mul_comm den (2 ^ K)) ∙ sym (mul_assoc Q (2 ^ K) den)

farther : (N a b : ℕ) → a < b → b ≤ N → dist N b < dist N a
farther N a b h k = omega arith

join : (x y z : ℕ) → x ≤ y → y < z → (x ≤ z) × (z ≤ x → ⊥)
join x y z h k = (le h k, no h k)
  where
    le : x ≤ y → y < z → x ≤ z
    le a b = omega arith

    no : x ≤ y → y < z → z ≤ x → ⊥
    no a b c = omega arith

abbrev Beats : ℕ → ℕ → ℕ → ℕ → ℕ → Type 0
Beats N den Q K g = (dist N (Q * 2 ^ K * den) ≤ dist N (g * den)) × (dist N (g * den) ≤ dist N (Q * 2 ^ K * den) → (g ≡ Q * 2 ^ K → ⊥) → Q % 2 ≡ 0)

kept_beats : (p N den n j : ℕ) → 0 < p → 0 < den → n < 2 ^ p → Beats N den (kept p N den) (drop p N den) (n * 2 ^ j)
kept_beats p N den n j P D h = go (le_or_lt (drop p N den) j)
  where
    -- a multiple of the unit
    multiple : (z : ℕ) → Beats N den (kept p N den) (drop p N den) (z * 2 ^ drop p N den)
    multiple z =
        let k = drop p N den in
        let q = kept p N den in
        let w = closest_is_nearest N (den * 2 ^ k) (mul-pos D (pow_pos k)) in (
          subst (λ (x : ℕ). dist N x ≤ dist N (z * 2 ^ k * den)) (regroup q k den) (subst (λ (x : ℕ). dist N (q * (den * 2 ^ k)) ≤ dist N x) (regroup z k den) (w.closest z)),
          λ t n.
              w.even z
              (subst (λ (x : ℕ). dist N x ≤ dist N (q * (den * 2 ^ k))) (sym (regroup z k den)) (subst (λ (x : ℕ). dist N (z * 2 ^ k * den) ≤ dist N x) (sym (regroup q k den)) t))
              (λ e. n (ap (λ (x : ℕ). x * 2 ^ k) e)),
        )

    go : (drop p N den ≤ j) ⊎ (j < drop p N den) → Beats N den (kept p N den) (drop p N den) (n * 2 ^ j)
    go (inl a) =
        let k = drop p N den in
        let e : n * 2 ^ (j - k) * 2 ^ k ≡ n * 2 ^ j = mul_assoc n (2 ^ (j - k)) (2 ^ k) ∙ ap (λ (x : ℕ). n * x) (sym (pow-add 2 (j - k) k) ∙ ap (λ (x : ℕ). 2 ^ x) (back j k a)) in
        subst (λ (x : ℕ). Beats N den (kept p N den) k x) e (multiple (n * 2 ^ (j - k)))
    go (inr a) =
        let k = drop p N den in
        let L = 2 ^ (p - 1) * 2 ^ k in
        let reaches : L ≤ N / den = le_trans (le_of_eq (sym (pow-add 2 (p - 1) k))) (size_reaches (N / den) (p - 1 + k) (all_in_use (size (N / den)) p P (pos_of_lt j k a))) in
        let under-N : L * den ≤ N = (le-div_iff_mul-le D).0 reaches in
        let g-lt : n * 2 ^ j < L = lt_of_lt_of_le (shl_lt p j h) (le_trans (pow_mono (room p j k P a)) (le_of_eq (pow-add 2 (p - 1) k))) in
        let far : dist N (L * den) < dist N (n * 2 ^ j * den) = farther N (n * 2 ^ j * den) (L * den) (mul-lt-mul_of_pos_right g-lt D) under-N in
        let w = join (dist N (kept p N den * 2 ^ k * den)) (dist N (L * den)) (dist N (n * 2 ^ j * den)) (multiple (2 ^ (p - 1))).0 far in
        (w.0, λ t n. absurd (w.1 t))

-- ---- a float's size in units of the format's smallest value
le_back : (a l : ℕ) → 2 ^ a ≤ 2 ^ l → a ≤ l
le_back a l h = go (le_or_lt a l)
  where
    go : (a ≤ l) ⊎ (l < a) → a ≤ l
    go (inl k) = k
    go (inr k) = absurd (lt_irrefl (2 ^ l) (lt_of_lt_of_le (pow-lt k) h))

spot : (n l : ℕ) (d : ℤ) → down d ≤ 2 ^ l → (j : ℕ) × (n * up d * 2 ^ l ≡ n * 2 ^ j * down d)
spot n l (pos a) h = (a + l, mul_assoc n (2 ^ a) (2 ^ l) ∙ ap (λ (x : ℕ). n * x) (sym (pow-add 2 a l)) ∙ sym (mul-one (n * 2 ^ (a + l))))
spot n l (negsuc a) h =
    let k : suc a ≤ l = le_back (suc a) l h in
    (l - suc a, ap (λ (x : ℕ). x * 2 ^ l) (mul-one n) ∙ ap (λ (x : ℕ). n * x) (ap (λ (x : ℕ). 2 ^ x) (sym (back l (suc a) k)) ∙ pow-add 2 (l - suc a) (suc a)) ∙ sym (mul_assoc n (2 ^ (l - suc a)) (2 ^ suc a)))

-- what `fits` says of a finite value
small_of : (f : Format) (s : Bool) (n : ℕ) (d : ℤ) → T (fits f (fin s n d)) → (n < 2 ^ prec f) × (down d ≤ 2 ^ low f)
unfolding fits
small_of f s zero d t = (pow_pos (prec f), le_trans (one (up d) (down d) (down_pos d) (eqb→eq (up d * down d) 1 t)) (pow_pos (low f)))
  where
    one : (a b : ℕ) → 0 < b → a * b ≡ 1 → b ≤ 1
    one zero b B e = absurd (no b (sym (zero-mul b) ∙ e))
      where
        no : (b : ℕ) → ◌≡◌ {A = ℕ} 0 1 → ⊥
        no b e = omega arith
    one (suc a) b B e = le_trans (more (a * b) b) (le_of_eq (sym (suc-mul a b) ∙ e))
      where
        more : (x y : ℕ) → y ≤ x + y
        more x y = omega arith
small_of f s (suc m) d t =
    let A = eqb (suc m % 2) 1 in
    let B = ltb (suc m) (2 ^ prec f) in
    let C = leb (down d) (2 ^ low f) in
    let D = ltb (suc m * up d) (2 ^ suc (emax f) * down d) in
    (ltb→lt (suc m) (2 ^ prec f) (and_r A B (and_l (A && B) C (and_l (A && B && C) D t))), leb→le (down d) (2 ^ low f) (and_r (A && B) C (and_l (A && B && C) D t)))

-- ---- from units to the two floats' own fractions
sub_scale : (a b c : ℕ) → (a - b) * c ≡ a * c - b * c
sub_scale a b c = mul_comm (a - b) c ∙ mul-sub c a b ∙ ap (λ (x : ℕ). x - c * b) (mul_comm c a) ∙ ap (λ (x : ℕ). a * c - x) (mul_comm c b)

dist_scale : (a b c : ℕ) → dist a b * c ≡ dist (a * c) (b * c)
dist_scale a b c = add-mul (a - b) (b - a) c ∙ ap (λ (x : ℕ). x + (b - a) * c) (sub_scale a b c) ∙ ap (λ (x : ℕ). (a * c - b * c) + x) (sub_scale b a c)

-- X / de is G / l: the distance over den * de, times l, is that in units over den * l, times de
in_units : (num den X de G l : ℕ) → X * l ≡ G * de → dist (num * de) (X * den) * l ≡ dist (num * l) (G * den) * de
in_units num den X de G l e =
    dist_scale (num * de) (X * den) l
    ∙ ap (λ (x : ℕ). dist x (X * den * l)) (mul_right_comm num de l)
    ∙ ap (λ (x : ℕ). dist (num * l * de) x) (mul_right_comm X den l ∙ ap (λ (x : ℕ). x * den) e ∙ mul_right_comm G de den)
    ∙ sym (dist_scale (num * l) (G * den) de)

to_floats : (num den X de Y dd G g l : ℕ) → 0 < l → X * l ≡ G * de → Y * l ≡ g * dd → dist (num * l) (G * den) ≤ dist (num * l) (g * den)
    → dist (num * de) (X * den) * dd ≤ dist (num * dd) (Y * den) * de
to_floats num den X de Y dd G g l L e k h =
    let a : dist (num * de) (X * den) * dd * l ≡ dist (num * l) (G * den) * (de * dd) =
    mul_right_comm (dist (num * de) (X * den)) dd l ∙ ap (λ (x : ℕ). x * dd) (in_units num den X de G l e) ∙ mul_assoc (dist (num * l) (G * den)) de dd in
    let b : dist (num * dd) (Y * den) * de * l ≡ dist (num * l) (g * den) * (de * dd) =
    mul_right_comm (dist (num * dd) (Y * den)) de l ∙ ap (λ (x : ℕ). x * de) (in_units num den Y dd g l k) ∙ mul_assoc (dist (num * l) (g * den)) dd de ∙ ap (λ (x : ℕ). dist (num * l) (g * den) * x) (mul_comm dd de) in
    le_of_mul-le-mul_right (le_trans (le_of_eq a) (le_trans (mul-le-mul_right (de * dd) h) (le_of_eq (sym b)))) L

to_units : (num den X de Y dd G g l : ℕ) → 0 < de → 0 < dd → X * l ≡ G * de → Y * l ≡ g * dd → dist (num * dd) (Y * den) * de ≤ dist (num * de) (X * den) * dd
    → dist (num * l) (g * den) ≤ dist (num * l) (G * den)
to_units num den X de Y dd G g l DE DD e k h =
    let a : dist (num * de) (X * den) * dd * l ≡ dist (num * l) (G * den) * (de * dd) =
    mul_right_comm (dist (num * de) (X * den)) dd l ∙ ap (λ (x : ℕ). x * dd) (in_units num den X de G l e) ∙ mul_assoc (dist (num * l) (G * den)) de dd in
    let b : dist (num * dd) (Y * den) * de * l ≡ dist (num * l) (g * den) * (de * dd) =
    mul_right_comm (dist (num * dd) (Y * den)) de l ∙ ap (λ (x : ℕ). x * de) (in_units num den Y dd g l k) ∙ mul_assoc (dist (num * l) (g * den)) dd de ∙ ap (λ (x : ℕ). dist (num * l) (g * den) * x) (mul_comm dd de) in
    le_of_mul-le-mul_right (le_trans (le_of_eq (sym b)) (le_trans (mul-le-mul_right l h) (le_of_eq a))) (mul-pos DE DD)

-- equal in units, equal as floats
same_size : (X de Y dd G g l : ℕ) → 0 < l → X * l ≡ G * de → Y * l ≡ g * dd → g ≡ G → Y * de ≡ X * dd
same_size X de Y dd G g l L e k q =
    eq_of_mul-eq-mul_right l L (Y * de) (X * dd)
    (mul_right_comm Y de l ∙ ap (λ (x : ℕ). x * de) (k ∙ ap (λ (x : ℕ). x * dd) q) ∙ mul_right_comm G dd de ∙ ap (λ (x : ℕ). x * dd) (sym e) ∙ mul_right_comm X l dd)

-- ---- an even kept number: the float has a digit to spare, and an exponent above the lowest
abbrev Halved : Format → Float → Type 0
Halved f nan = Unit
Halved f (inf t) = Unit
Halved f (fin t m e) = (m ≤ 2 ^ (prec f - 1)) × (2 * down e ≤ 2 ^ low f)

one_low : (f : Format) → 1 ≤ low f
one_low binary32 = lit≤ tt
one_low binary64 = lit≤ tt

halve : (m P : ℕ) → m * 2 ≤ 2 * P → m ≤ P
halve m P h = omega arith

two_pow : (p : ℕ) → 0 < p → 2 ^ p ≡ 2 * 2 ^ (p - 1)
two_pow p h = ap (λ (x : ℕ). 2 ^ x) (pred p h) ∙ pow-succ' 2 (p - 1)
  where
    pred : (p : ℕ) → 0 < p → p ≡ suc (p - 1)
    pred p h = omega arith

half_fits : (p n t : ℕ) → 0 < p → n ≤ 2 ^ p → n / 2 ^ suc t ≤ 2 ^ (p - 1)
half_fits p n t P h =
    halve (n / 2 ^ suc t) (2 ^ (p - 1))
    (le_trans (mul-le-mul_left (n / 2 ^ suc t) (pow_mono (one t)))
    (le_trans (div-mul-le_self n (2 ^ suc t)) (le_trans h (le_of_eq (two_pow p P)))))
  where
    one : (t : ℕ) → 1 ≤ suc t
    one t = omega arith

down_half : (x l : ℕ) → 1 ≤ l → 2 * down (minus (x + 1) l) ≤ 2 ^ l
down_half x l L = go (leb l (x + 1)) (nleb→lt l (x + 1))
  where
    short : x + 1 < l → suc (suc (l - suc (x + 1))) ≤ l
    short h = omega arith

    go : (b : Bool) → (T (not b) → x + 1 < l) → 2 * down (cond b (pos (x + 1 - l)) (negsuc (l - suc (x + 1)))) ≤ 2 ^ l
    go true k = pow_mono L
    go false k = le_trans (le_of_eq (sym (pow-succ' 2 (suc (l - suc (x + 1)))))) (pow_mono (short (k tt)))

odd_halved : (f : Format) (s : Bool) (q k : ℕ) → q ≤ 2 ^ prec f → q % 2 ≡ 0 → Halved f (odd (suc (prec f)) s q k (low f))
unfolding odd count_trailing_zeros
odd_halved f s zero k a b = (le_of_lt (pow_pos (prec f - 1)), pow_mono (one_low f))
odd_halved f s (suc q) k a b =
    let t = count_trailing_zeros (prec f) (suc q / 2) in
    subst (λ (r : ℕ). Halved f (fin s (suc q / 2 ^ under r t) (minus (k + under r t) (low f)))) (sym b)
    (half_fits (prec f) (suc q) t (two-le_pos (prec f) (two f)) a, subst (λ (x : ℕ). 2 * down (minus x (low f)) ≤ 2 ^ low f) (shift k t) (down_half (k + t) (low f) (one_low f)))
  where
    shift : (a b : ℕ) → a + b + 1 ≡ a + suc b
    shift a b = omega arith

units_halved : (f : Format) (s : Bool) (q k : ℕ) → q ≤ 2 ^ prec f → q % 2 ≡ 0 → Halved f (units f s q k)
unfolding units
units_halved f s q k a b = go (ltb (q * 2 ^ k) (overflow f))
  where
    go : (t : Bool) → Halved f (cond t (odd (suc (prec f)) s q k (low f)) (inf s))
    go true = odd_halved f s q k a b
    go false = tt

-- an odd number up to 2 ^ (prec - 1) is below it
even_of : (f : Format) (s : Bool) (m : ℕ) (e : ℤ) → T (fits f (fin s m e)) → m ≤ 2 ^ (prec f - 1) → 2 * down e ≤ 2 ^ low f → Even f m e
unfolding fits
even_of f s zero e t a b = (pow_pos (prec f - 1), b)
even_of f s (suc m) e t a b = (below f (eqb→eq (suc m % 2) 1 (and_l A B (and_l (A && B) C (and_l (A && B && C) D t)))) a, b)
  where
    A : Bool
    A = eqb (suc m % 2) 1

    B : Bool
    B = ltb (suc m) (2 ^ prec f)

    C : Bool
    C = leb (down e) (2 ^ low f)

    D : Bool
    D = ltb (suc m * up e) (2 ^ suc (emax f) * down e)

    below : (f : Format) → suc m % 2 ≡ 1 → suc m ≤ 2 ^ (prec f - 1) → suc m < 2 ^ (prec f - 1)
    below binary32 o h = omega arith
    below binary64 o h = omega arith

-- ---- the law
nearest_of : (f : Format) (s : Bool) (num den : ℕ) (x : Float) → 0 < den → T (fits f x) → HasValue x s (grid f num den) (2 ^ low f)
    → (kept (prec f) (num * 2 ^ low f) den % 2 ≡ 0 → Halved f x) → NearestTo f s num den x
nearest_of f s num den nan D fx hv ev = hv
nearest_of f s num den (inf t) D fx hv ev = hv
nearest_of f s num den (fin t m e) D fx hv ev = (
  hv.0,
  record {
    holds = here;
    closest = λ n d y.
        let at = spot n (low f) d (small_of f s n d y).1 in
        to_floats num den (m * up e) (down e) (n * up d) (down d) (grid f num den) (n * 2 ^ at.0) (2 ^ low f) (pow_pos (low f)) hv.1 at.1
        (beats n d y at.0).0;
    even = λ n d y h ne.
        let at = spot n (low f) d (small_of f s n d y).1 in
        let even = ev
        ((beats n d y at.0).1
        (to_units num den (m * up e) (down e) (n * up d) (down d) (grid f num den) (n * 2 ^ at.0) (2 ^ low f) (down_pos e) (down_pos d) hv.1 at.1 h)
        (λ q. ne (same_size (m * up e) (down e) (n * up d) (down d) (grid f num den) (n * 2 ^ at.0) (2 ^ low f) (pow_pos (low f)) hv.1 at.1 q))) in
        even_of f s m e here even.0 even.1;
  },
)
  where
    here : T (fits f (fin s m e))
    here = subst (λ (z : Bool). T (fits f (fin z m e))) hv.0 fx

    beats : (n : ℕ) (d : ℤ) → T (fits f (fin s n d)) → (j : ℕ) → Beats (num * 2 ^ low f) den (kept (prec f) (num * 2 ^ low f) den) (drop (prec f) (num * 2 ^ low f) den) (n * 2 ^ j)
    beats n d y j = kept_beats (prec f) (num * 2 ^ low f) den n j (two-le_pos (prec f) (two f)) D (small_of f s n d y).0

kept_le : (p n den : ℕ) → kept p n den ≤ 2 ^ p
kept_le p n den =
    let k = drop p n den in
    let u = den * 2 ^ k in
    le_trans (nearest-le (n / u) (compare (n % u * 2) u)) (subst (λ (x : ℕ). x < 2 ^ p) (div-div-eq-div-mul n den (2 ^ k)) (kept-lt p (n / den)))

round_nearest : (f : Format) (s : Bool) (num den : ℕ) → 0 < den → grid f num den < overflow f → NearestTo f s num den (round f s num den)
round_nearest f s num den D h =
    let n = num * 2 ^ low f in
    let is = round_is f s num den in
    nearest_of f s num den (round f s num den) D (round-fits f s num den)
    (subst (λ (z : Float). HasValue z s (grid f num den) (2 ^ low f)) (sym is) (units_val f s (kept (prec f) n den) (drop (prec f) n den) h))
    (λ q. subst (λ (z : Float). Halved f z) (sym is) (units_halved f s (kept (prec f) n den) (drop (prec f) n den) (kept_le (prec f) n den) q))

-- ---- fractions up to 2 ^ prec do not overflow
under_top : (f : Format) (num den : ℕ) → 0 < den → num ≤ 2 ^ prec f * den → grid f num den < overflow f
under_top f num den D h =
    let p = prec f in
    let l = low f in
    let n = num * 2 ^ l in
    let a : n < 2 ^ suc (p + l) * den = lt_of_le_of_lt (le_trans (mul-le-mul_right (2 ^ l) h) (le_of_eq (mul_right_comm (2 ^ p) den (2 ^ l) ∙ ap (λ (x : ℕ). x * den) (sym (pow-add 2 p l))))) (mul-lt-mul_of_pos_right (pow-lt (lt-suc_self (p + l))) D) in
    let z : size (n / den) ≤ suc (p + l) = size-le (n / den) (suc (p + l)) ((div-lt_iff_lt-mul D).1 a) in
    lt_of_le_of_lt (mul-le-mul_right (2 ^ drop p n den) (kept_le p n den))
    (lt_of_le_of_lt (le_of_eq (sym (pow-add 2 p (drop p n den)))) (pow-lt (fine f (size (n / den)) z)))
  where
    fine : (f : Format) (z : ℕ) → z ≤ suc (prec f + low f) → prec f + (z - prec f) < low f + suc (emax f)
    fine binary32 z h = omega arith
    fine binary64 z h = omega arith

-- a fraction up to 2 ^ prec has a nearest float, and `round` is it
pub round_is_nearest : (f : Format) (s : Bool) (num den : ℕ) → 0 < den → num ≤ 2 ^ prec f * den → NearestTo f s num den (round f s num den)
round_is_nearest f s num den D h = round_nearest f s num den D (under_top f num den D h)
